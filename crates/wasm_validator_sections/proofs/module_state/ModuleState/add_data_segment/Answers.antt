use Rattle.wasm_readers_bytes.specs.Reader.{rest}
use Rattle.wasm_spec_rules.specs.FeatureFlags.{features_of}
use Rattle.wasm_validator_sections.proofs.Singles.{data_checked}
use Rattle.wasm_validator_sections.proofs.module_state.ModuleState.add_data_segment.Goals as goal

pub returns-clause-added : goal.returns-clause-added
returns-clause-added g c =
    let list = c.args.list.now in
    let added = c.check_next_data in
    data_checked (features_of c.args.features) list.is_canonical list.groups c.tells_types_apart.ensures.listable c.tells_types_apart.ensures.apart c.args.self.now.«module» (rest c.args.reader.now)
    added.result c.spaces-spaces.result.now (rest added.new.reader) c.spaces-spaces.ensures added.ensures.ok added.ensures.err
