use Rattle.wasm_readers_bytes.specs.Reader.{rest}
use Rattle.wasm_spec_rules.specs.FeatureFlags.{features_of}
use Rattle.wasm_validator_sections.proofs.Singles.{table_added}
use Rattle.wasm_validator_sections.proofs.module_state.ModuleState.add_table.Goals as goal

pub returns-clause-added : goal.returns-clause-added
returns-clause-added g c =
    let list = c.args.list.now in
    let added = c.add_next_table in
    table_added (features_of c.args.features) list.is_canonical list.groups c.tells_types_apart.ensures.listable c.tells_types_apart.ensures.apart c.args.self.now.«module» (rest c.args.reader.now)
    added.result (added.new.opened, rest added.new.reader) added.ensures.ok added.ensures.err
