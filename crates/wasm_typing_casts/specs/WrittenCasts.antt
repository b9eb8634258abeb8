-- Casts as they are written in a module: each index in a type is a type index of the module.
use Rattle.std.specs.Prelude.{⊤}
use Rattle.wasm_typing_references.specs.WasmReadersTypes.WasmReadersValues.declared.indices.UnpackedIndex.{UnpackedIndex}
use Rattle.wasm_typing_references.specs.WasmOperators.References.{Cast, ref_test, ref_cast, br_on_cast, br_on_cast_fail, ref_get_desc, ref_cast_desc_eq, br_on_cast_desc_eq, br_on_cast_desc_eq_fail}
use Rattle.wasm_typing_references.specs.WasmTypingChecks.WasmValidatorResources.Answers.{IsWrittenHeap}

abbrev pub IsWrittenCast : Cast UnpackedIndex → Type 0
IsWrittenCast (ref_test q) = IsWrittenHeap q.heap
IsWrittenCast (ref_cast q) = IsWrittenHeap q.heap
IsWrittenCast (ref_cast_desc_eq q) = IsWrittenHeap q.heap
IsWrittenCast (br_on_cast l r q) = IsWrittenHeap r.heap × IsWrittenHeap q.heap
IsWrittenCast (br_on_cast_fail l r q) = IsWrittenHeap r.heap × IsWrittenHeap q.heap
IsWrittenCast (ref_get_desc x) = ⊤
IsWrittenCast (br_on_cast_desc_eq l r q) = IsWrittenHeap r.heap × IsWrittenHeap q.heap
IsWrittenCast (br_on_cast_desc_eq_fail l r q) = IsWrittenHeap r.heap × IsWrittenHeap q.heap
