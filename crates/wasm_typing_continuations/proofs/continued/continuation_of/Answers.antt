use Rattle.wasm_typing_control.specs.WasmReadersTypes.SeenTypes.{sub_of}
use Rattle.wasm_typing_continuations.proofs.ContinuationTypes.{of_no_function, continuation_is}
use Rattle.wasm_typing_continuations.proofs.continued.continuation_of.Goals as goal

pub returns-in-Some-continuation_alone : goal.returns-in-Some-continuation_alone
returns-in-Some-continuation_alone g c =
    continuation_is _ _ _ (sub_of c.in-Some.ty.now) _ c.in-Some.ensures c.in-Some-continuation_alone.ensures c.function_of.ensures

pub returns-in-None-continuation_alone : goal.returns-in-None-continuation_alone
returns-in-None-continuation_alone g c =
    of_no_function _ _ (sub_of c.in-Some.ty.now) c.in-Some.ensures c.in-None-continuation_alone.ensures
