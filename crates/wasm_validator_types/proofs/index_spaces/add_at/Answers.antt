use Rattle.std.proofs.Common.{rules, ap, ◌∙◌}
use Rattle.indexmap.specs.Layout.{set_value_at}
use Rattle.wasm_validator_types.proofs.Imports.{set_value_at-same}
use Rattle.wasm_validator_types.proofs.index_spaces.add_at.Goals as goal

pub returns-in_err-push-clause-err : goal.returns-in_err-push-clause-err
returns-in_err-push-clause-err g c =
    let put = ap (set_value_at c.args.imports.now.entries c.args.index) c.in_err-push.ensures.err in
    let same = put ∙ set_value_at-same c.args.imports.now.entries c.args.index c.index_mut-entities.result.now c.index_mut-entities.ensures.value in
    search rules
