use Rattle.std.proofs.Common.{◌∙◌, ap}
use Rattle.wasm_typing_control.specs.WasmReadersTypes.SeenTypes.{sub_of}
use Rattle.wasm_typing_continuations.specs.ContinuationLookups.{type_named}
use Rattle.wasm_typing_continuations.proofs.ContinuationTypes.{function_is}
use Rattle.wasm_typing_continuations.proofs.continued.function_of.Goals as goal

pub returns-in-Some : goal.returns-in-Some
returns-in-Some g c =
    function_is _ _ (sub_of c.in-Some.ty.now) _ (c.in-Some.ensures ∙ ap (type_named (g.T.WasmModuleResources.context c.args.resources.now)) c.unpack.ensures.value) c.function_alone.ensures
