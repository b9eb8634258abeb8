use Rattle.std.proofs.Common.{subst}
use Rattle.wasm_spec_rules.specs.FeatureFlags.{features_of}
use Rattle.wasm_readers.specs.WasmReadersBytes.Reader.{rest}
use Rattle.wasm_readers_types.specs.WasmReadersValues.SeenValues.{val_of}
use Rattle.wasm_validator_core_resources.specs.IndexContexts.{id_of}
use Rattle.wasm_validator_core_resources.specs.ListContexts.{list_declares}
use Rattle.wasm_validator_core.specs.declared.error.Error.{Error}
use Rattle.wasm_validator_core.specs.Errors.{lifted}
use Rattle.wasm_validator_segments.specs.Answers as items
use Rattle.wasm_validator_items.specs.Answers.{Refuses, StandsBehind}
use Rattle.wasm_validator_items.specs.Machine.{behind_initializer}
use Rattle.wasm_validator_items.proofs.Places.{lifted_behind}
use Rattle.wasm_validator_items.proofs.Refusals.{err_as, lifted_refuses}
use Rattle.wasm_validator_items.proofs.Steps.{initializer_is}
use Rattle.wasm_validator_items.proofs.initializers.check_initializer.Goals as goal

pub returns-in_err-check_expression_of_type-clause-err : goal.returns-in_err-check_expression_of_type-clause-err
returns-in_err-check_expression_of_type-clause-err g c =
    let behind = behind_initializer (features_of c.args.features) (list_declares id_of c.args.list.now.groups) c.args.opened.now (val_of c.args.ty) (rest c.args.reader.now) in
    err_as c.from_residual.result (lifted c.in_err-check_expression_of_type.field-0.0) (λ (e : Error g.row.A.Denot). Refuses e behind) c.from_residual.ensures.1
    (lifted_refuses g.row.A.Denot c.in_err-check_expression_of_type.field-0.0 behind
    (subst (items.Refuses c.in_err-check_expression_of_type.field-0.0)
    (initializer_is (features_of c.args.features) (list_declares id_of c.args.list.now.groups) c.args.opened.now c.spaces-spaces.result.now c.new-resources.result c.imported_global_count-imported_globals.result (val_of c.args.ty) (rest c.args.reader.now)
    c.spaces-spaces.ensures c.new-resources.ensures c.imported_global_count-imported_globals.ensures)
    c.in_err-check_expression_of_type.ensures.past))

pub returns-in_err-check_expression_of_type-clause-place : goal.returns-in_err-check_expression_of_type-clause-place
returns-in_err-check_expression_of_type-clause-place g c =
    err_as c.from_residual.result (lifted c.in_err-check_expression_of_type.field-0.0) (λ (e : Error g.row.A.Denot). StandsBehind c.args.reader.now e) c.from_residual.ensures.1
    (lifted_behind g.row.A.Denot c.args.reader.now c.in_err-check_expression_of_type.field-0.0 c.in_err-check_expression_of_type.ensures.place)
