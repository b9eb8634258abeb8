use Rattle.std.proofs.Common.{rules, map, ap}
use Rattle.wasm_readers_types.specs.WasmReadersValues.SeenValues.{val_of}
use Rattle.wasm_typing_control.specs.WasmTypingChecks.WasmValidatorResources.Answers.{signature_seen}
use Rattle.wasm_typing_blocks.proofs.BlockTypes.{function_known}
use Rattle.wasm_typing_blocks.proofs.openings.resolve_function.Goals as goal

pub returns-in-Ok : goal.returns-in-Ok
returns-in-Ok g c =
    function_known c.args.stacks.now (g.T.WasmModuleResources.context c.args.resources.now) c.args.type_index (signature_seen c.in-Ok.signature.now) _ _ (search rules) c.in-Ok.ensures.ok c.func.ensures (ap (map val_of) c.params.ensures)
