-- Operators as they are written in a module: each index in a type is a type index of the module.
use Rattle.std.specs.Prelude.{⊤}
use Rattle.wasm_typing_control.specs.WasmReadersTypes.WasmReadersValues.declared.indices.UnpackedIndex.{UnpackedIndex}
use Rattle.wasm_typing_control.specs.WasmOperators.References.{Reference, ref_null, ref_is_null, ref_eq, ref_as_non_null, ref_func, br_on_null, br_on_non_null}
use Rattle.wasm_typing_control.specs.WasmTypingChecks.WasmValidatorResources.Answers.{IsWrittenHeap}

abbrev pub IsWrittenReference : Reference UnpackedIndex → Type 0
IsWrittenReference (ref_null h) = IsWrittenHeap h
IsWrittenReference ref_is_null = ⊤
IsWrittenReference ref_eq = ⊤
IsWrittenReference ref_as_non_null = ⊤
IsWrittenReference (ref_func x) = ⊤
IsWrittenReference (br_on_null l) = ⊤
IsWrittenReference (br_on_non_null l) = ⊤
