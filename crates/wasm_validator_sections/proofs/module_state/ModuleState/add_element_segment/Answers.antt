use Rattle.std.proofs.Common.{sym}
use Rattle.wasm_readers_bytes.specs.Reader.{rest}
use Rattle.wasm_spec_rules.specs.FeatureFlags.{features_of}
use Rattle.wasm_validator_sections.proofs.Singles.{element_added}
use Rattle.wasm_validator_sections.proofs.module_state.ModuleState.add_element_segment.Goals as goal

pub returns-clause-added : goal.returns-clause-added
returns-clause-added g c =
    let list = c.args.list.now in
    let added = c.add_next_element in
    element_added (features_of c.args.features) list.is_canonical list.groups c.tells_types_apart.ensures.listable c.tells_types_apart.ensures.apart c.args.self.now.«module» (rest c.args.reader.now)
    added.result (added.new.opened, rest added.new.reader) (sym c.in_ok-check_element_room.ensures.fits) added.ensures.ok added.ensures.err
