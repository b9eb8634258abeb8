use Rattle.std.proofs.Common.{refl}
use Rattle.wasm_spec_rules.specs.FeatureFlags.{features_of}
use Rattle.wasm_readers.specs.WasmReadersBytes.Reader.{rest}
use Rattle.wasm_validator_core_resources.specs.IndexContexts.{id_of}
use Rattle.wasm_validator_core_resources.specs.ListContexts.{list_declares}
use Rattle.wasm_validator_core.specs.declared.error.Error.{Error}
use Rattle.wasm_validator_core.specs.Errors.{lifted}
use Rattle.wasm_validator_segments.specs.Data.{behind_data}
use Rattle.wasm_validator_items.specs.Answers.{Refuses, StandsBehind}
use Rattle.wasm_validator_items.specs.Machine.{data_step}
use Rattle.wasm_validator_items.proofs.Places.{lifted_behind}
use Rattle.wasm_validator_items.proofs.Refusals.{err_as, lifted_refuses, refuses_whole}
use Rattle.wasm_validator_items.proofs.Steps.{no_data}
use Rattle.wasm_validator_items.proofs.data.check_next_data.Goals as goal

pub returns-in_err-check_data-clause-err : goal.returns-in_err-check_data-clause-err
returns-in_err-check_data-clause-err g c =
    let F = features_of c.args.features in
    let declares = list_declares id_of c.args.list.now.groups in
    let s = c.args.spaces.now in
    let bytes = rest c.args.reader.now in
    let here = behind_data c.new-resources.result F c.imported_global_count-imported_globals.result bytes in
    err_as c.from_residual.result (lifted c.in_err-check_data.field-0.0) (λ (e : Error g.row.A.Denot). Refuses e (data_step F declares s bytes)) c.from_residual.ensures.1
    (refuses_whole {A = g.row.A.Denot} (lifted c.in_err-check_data.field-0.0) here (data_step F declares s bytes)
    (no_data F declares s c.args.spaces.now c.new-resources.result c.imported_global_count-imported_globals.result bytes
    refl c.new-resources.ensures c.imported_global_count-imported_globals.ensures)
    (lifted_refuses g.row.A.Denot c.in_err-check_data.field-0.0 here c.in_err-check_data.ensures.past))

pub returns-in_err-check_data-clause-place : goal.returns-in_err-check_data-clause-place
returns-in_err-check_data-clause-place g c =
    err_as c.from_residual.result (lifted c.in_err-check_data.field-0.0) (λ (e : Error g.row.A.Denot). StandsBehind c.args.reader.now e) c.from_residual.ensures.1
    (lifted_behind g.row.A.Denot c.args.reader.now c.in_err-check_data.field-0.0 c.in_err-check_data.ensures.place)
