use Rattle.std.proofs.Common.{◌+◌, take, slice_index, arith}
use Rattle.wasm_validator_handles.specs.WasmValidator.WasmValidatorTypes.ShownModules.{shown_by}
use Rattle.ruthvelka_c.specs.Reports.{function_ids}
use Rattle.ruthvelka_c.proofs.FunctionIds.{function_more, joined}
use Rattle.ruthvelka_c.proofs.lists.push_functions.Goals as goal

pub functions-preserved : goal.functions-preserved
functions-preserved c =
    let spaces = (shown_by c.args.types.now).spaces in
    let i = c.functions.index in
    let more = function_more spaces.types spaces.functions i (omega arith) in
    let whole = joined c.args.ids.now.items (take i (function_ids spaces)) (take (i + 1) (function_ids spaces)) (slice_index spaces.types (slice_index spaces.functions i)) more in
    cc (whole, c.functions.invariant, c.in_ok-push.ensures.items, c.core_function_at.ensures.value, c.index.ensures)
