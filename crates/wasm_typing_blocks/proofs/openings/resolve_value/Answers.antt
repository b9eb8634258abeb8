use Rattle.wasm_readers_types.specs.WasmReadersValues.SeenValues.{val_of}
use Rattle.wasm_typing_blocks.proofs.BlockTypes.{value_known}
use Rattle.wasm_typing_blocks.proofs.openings.resolve_value.Goals as goal

pub returns-in-Ok : goal.returns-in-Ok
returns-in-Ok g c =
    value_known c.args.stacks.now (g.T.WasmModuleResources.context c.args.resources.now) (val_of c.args.ty) _ _ _ c.in-Ok.ensures c.new.ensures c.value.ensures
