use Rattle.wasm_readers_types.specs.WasmReadersValues.SeenValues.{field_of}
use Rattle.wasm_typing_checks.specs.DeclaredTypes.{is_missing}
use Rattle.wasm_typing_arrays.proofs.Elements.{mutable_held}
use Rattle.wasm_typing_arrays.proofs.reached.reach_mutable.Goals as goal

pub returns-then-array-clause-mutable : goal.returns-then-array-clause-mutable
returns-then-array-clause-mutable g c = mutable_held _ _ _ (field_of c.in-Ok.array.ty) _ c.in-Ok.ensures.element c.if-array.true

pub returns-else-array-clause-barred : goal.returns-else-array-clause-barred
returns-else-array-clause-barred g c = is_missing (mutable_held _ _ _ (field_of c.in-Ok.array.ty) _ c.in-Ok.ensures.element c.if-array.false)
