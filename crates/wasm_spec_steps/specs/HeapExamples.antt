-- Bodies that are valid and bodies that aren't: memory, table, reference and aggregate instructions, casts and conversions. In each pair of
-- statements, what the first accepts and what the second refuses differ in one place.
use Rattle.std.specs.Prelude.{ℕ, ◌≡◌, ◌^◌, ◌-◌, true, false, not, ◌&&◌, Bool, nat_eq, List, [], ◌∷◌, ◌++◌}
use Rattle.wasm_spec_rules.specs.WasmSpec.Syntax.{any_heap, eq_heap, i31_heap, none_heap, func_heap, nofunc_heap, extern_heap, exn_heap, cont_heap, nocont_heap, Heap, abstract_heap, concrete, exact, i32, unpacked}
use Rattle.wasm_spec_rules.specs.WasmSpec.Syntax as syntax
use Rattle.wasm_spec_rules.specs.WasmSpec.Features.{Features}
use Rattle.wasm_spec_rules.specs.WasmSpec.TypeExamples.{features}
use Rattle.wasm_operators.specs.Control.{empty_block, value_block}
use Rattle.wasm_operators.specs.References.{ref_is_null, ref_eq, ref_as_non_null, ref_func, br_on_null, br_on_non_null, ref_test, ref_cast, br_on_cast, br_on_cast_fail, ref_cast_desc_eq}
use Rattle.wasm_operators.specs.References as references
use Rattle.wasm_operators.specs.Continuations.{cont_new, cont_bind, suspend, resume, switch}
use Rattle.wasm_operators.specs.WasmOperatorsProposals.declared.continuations.Handle.TheVariants.{OnLabel, OnSwitch}
use Rattle.wasm_operators.specs.Instructions.{Instruction, variable, table, access, memory, constant, reference, cast, conversion, structure, array, continuation}
use Rattle.wasm_operators.specs.WasmOperatorsPlain.declared.variables.VariableOperator.TheVariants.{LocalGet, LocalSet}
use Rattle.wasm_operators.specs.WasmOperatorsPlain.declared.tables.TableOperator.TheVariants.{TableGet, TableSet, TableInit, ElemDrop, TableCopy, TableGrow, TableSize, TableFill}
use Rattle.wasm_operators.specs.WasmOperatorsPlain.declared.memories.MemoryOperator.{MemoryOperator}
use Rattle.wasm_operators.specs.WasmOperatorsPlain.declared.memories.MemoryOperator.TheVariants.{I32Load, I32Load8S, F32Load, I32Store, I64Store, F64Store}
use Rattle.wasm_operators.specs.WasmOperatorsPlain.declared.memories.BulkMemoryOperator.TheVariants.{MemorySize, MemoryGrow, MemoryInit, DataDrop, MemoryCopy, MemoryFill}
use Rattle.wasm_operators.specs.WasmOperatorsPlain.declared.constants.ConstantOperator.TheVariants.{V128Const}
use Rattle.wasm_operators.specs.WasmOperatorsPlain.declared.conversions.ConversionOperator.TheVariants.{AnyConvertExtern, ExternConvertAny, RefI31, I31GetS, I31GetU, RefI31Shared}
use Rattle.wasm_operators.specs.WasmOperatorsPlain.declared.structs.StructOperator.TheVariants.{StructNew, StructNewDefault, StructGet, StructGetS, StructGetU, StructSet, StructNewDesc, StructNewDefaultDesc}
use Rattle.wasm_operators.specs.WasmOperatorsPlain.declared.arrays.ArrayOperator.TheVariants.{ArrayNew, ArrayNewDefault, ArrayNewFixed, ArrayNewData, ArrayNewElem, ArrayGet, ArrayGetS, ArrayGetU, ArraySet, ArrayLen, ArrayFill, ArrayCopy, ArrayInitData, ArrayInitElem}
use Rattle.wasm_spec_steps.specs.Bodies.{Surroundings}
use Rattle.wasm_spec_steps.specs.Steps.{is_typed_body}
use Rattle.wasm_spec_steps.specs.Samples.{field_of, final, declares, table_of, context, sample, ref, ref_null, ref_of, plain_heap, body, runs, gives_i32, an_i32, an_i64, dropped, trap, an_end, in_block, all_pass, none_pass}

-- with every feature, descriptors too
abbrev pub described : List (Instruction ℕ) → Bool
described ops = body (features true) 0 ops

abbrev pub null : Heap ℕ → Instruction ℕ
null h = reference (references.ref_null h)

-- a load or a store with this alignment, offset and memory
abbrev pub accessing : MemoryOperator → ℕ → ℕ → ℕ → Instruction ℕ
accessing op align offset x = access op (record { align = align; offset = offset; memory = x })

abbrev pub Memories : Type 0
Memories =
    all_pass (
    gives_i32 (an_i32 ∷ accessing I32Load 2 0 0 ∷ []) ∷
    gives_i32 (an_i64 ∷ accessing I32Load 2 (2 ^ 32) 1 ∷ []) ∷
    runs (an_i32 ∷ an_i64 ∷ accessing I64Store 3 (2 ^ 32 - 1) 0 ∷ []) ∷
    runs (an_i64 ∷ an_i32 ∷ accessing I32Store 0 0 1 ∷ []) ∷
    gives_i32 (memory (MemorySize 0) ∷ []) ∷
    runs (an_i64 ∷ memory (MemoryGrow 1) ∷ dropped ∷ []) ∷
    runs (an_i64 ∷ an_i32 ∷ an_i64 ∷ memory (MemoryFill 1) ∷ []) ∷
    runs (an_i32 ∷ an_i64 ∷ an_i32 ∷ memory (MemoryCopy 0 1) ∷ []) ∷
    runs (an_i64 ∷ an_i32 ∷ an_i32 ∷ memory (MemoryInit 0 1) ∷ memory (DataDrop 0) ∷ []) ∷
    []) ≡ true

abbrev pub NoMemories : Type 0
NoMemories =
    none_pass (
    gives_i32 (an_i32 ∷ accessing I32Load 3 0 0 ∷ []) ∷
    gives_i32 (an_i32 ∷ accessing I32Load8S 1 0 0 ∷ []) ∷
    gives_i32 (an_i32 ∷ accessing I32Load 2 (2 ^ 32) 0 ∷ []) ∷
    gives_i32 (an_i32 ∷ accessing I32Load 2 0 1 ∷ []) ∷
    gives_i32 (an_i32 ∷ accessing I32Load 2 0 2 ∷ []) ∷
    runs (an_i32 ∷ an_i64 ∷ accessing I32Store 0 0 1 ∷ []) ∷
    gives_i32 (memory (MemorySize 1) ∷ []) ∷
    runs (an_i32 ∷ memory (MemoryGrow 1) ∷ dropped ∷ []) ∷
    runs (an_i64 ∷ an_i64 ∷ an_i64 ∷ memory (MemoryFill 1) ∷ []) ∷
    runs (an_i32 ∷ an_i64 ∷ an_i64 ∷ memory (MemoryCopy 0 1) ∷ []) ∷
    runs (an_i64 ∷ an_i32 ∷ an_i64 ∷ memory (MemoryInit 0 1) ∷ []) ∷
    runs (an_i64 ∷ an_i32 ∷ an_i32 ∷ memory (MemoryInit 1 1) ∷ []) ∷
    runs (memory (DataDrop 1) ∷ []) ∷
    []) ≡ true

abbrev pub Tables : Type 0
Tables =
    all_pass (
    runs (an_i64 ∷ table (TableGet 1) ∷ dropped ∷ []) ∷
    runs (an_i32 ∷ null (plain_heap nofunc_heap) ∷ table (TableSet 0) ∷ []) ∷
    gives_i32 (table (TableSize 0) ∷ []) ∷
    runs (null (concrete 6) ∷ an_i64 ∷ table (TableGrow 1) ∷ dropped ∷ []) ∷
    runs (an_i64 ∷ null (concrete 5) ∷ an_i64 ∷ table (TableFill 1) ∷ []) ∷
    runs (an_i64 ∷ an_i64 ∷ an_i64 ∷ table (TableCopy 1 1) ∷ []) ∷
    runs (an_i64 ∷ an_i32 ∷ an_i32 ∷ table (TableInit 1 1) ∷ table (ElemDrop 1) ∷ []) ∷
    []) ≡ true

abbrev pub NoTables : Type 0
NoTables =
    none_pass (
    runs (an_i32 ∷ table (TableGet 1) ∷ dropped ∷ []) ∷
    runs (an_i32 ∷ null (plain_heap none_heap) ∷ table (TableSet 0) ∷ []) ∷
    gives_i32 (table (TableSize 1) ∷ []) ∷
    runs (an_i64 ∷ null (concrete 6) ∷ table (TableGrow 1) ∷ dropped ∷ []) ∷
    runs (an_i64 ∷ null (concrete 7) ∷ an_i64 ∷ table (TableFill 1) ∷ []) ∷
    runs (an_i64 ∷ an_i32 ∷ an_i32 ∷ table (TableCopy 1 0) ∷ []) ∷
    runs (an_i64 ∷ an_i32 ∷ an_i32 ∷ table (TableInit 0 1) ∷ []) ∷
    runs (table (ElemDrop 2) ∷ []) ∷
    []) ≡ true

abbrev pub References : Type 0
References =
    all_pass (
    runs (null (concrete 5) ∷ dropped ∷ []) ∷
    gives_i32 (null (concrete 5) ∷ reference ref_is_null ∷ []) ∷
    gives_i32 (null (concrete 5) ∷ null (plain_heap i31_heap) ∷ reference ref_eq ∷ []) ∷
    gives_i32 (trap ∷ null (plain_heap i31_heap) ∷ reference ref_eq ∷ []) ∷
    runs (null (concrete 5) ∷ reference ref_as_non_null ∷ variable (LocalSet 2) ∷ []) ∷
    runs (trap ∷ reference ref_as_non_null ∷ variable (LocalSet 2) ∷ []) ∷
    runs (reference (ref_func 0) ∷ dropped ∷ []) ∷
    runs (in_block empty_block ∷ null (concrete 5) ∷ reference (br_on_null 0) ∷ variable (LocalSet 2) ∷ an_end ∷ []) ∷
    runs (in_block (value_block (ref (concrete 5))) ∷ null (concrete 5) ∷ reference (br_on_non_null 0) ∷ trap ∷ an_end ∷ variable (LocalSet 2) ∷ []) ∷
    []) ≡ true

abbrev pub NoReferences : Type 0
NoReferences =
    none_pass (
    runs (null (concrete 14) ∷ dropped ∷ []) ∷
    gives_i32 (an_i32 ∷ reference ref_is_null ∷ []) ∷
    gives_i32 (null (concrete 5) ∷ null (plain_heap func_heap) ∷ reference ref_eq ∷ []) ∷
    described (null (abstract_heap true i31_heap) ∷ null (plain_heap i31_heap) ∷ reference ref_eq ∷ dropped ∷ []) ∷
    gives_i32 (trap ∷ an_i32 ∷ reference ref_eq ∷ []) ∷
    runs (null (concrete 5) ∷ variable (LocalSet 2) ∷ []) ∷
    runs (trap ∷ reference ref_as_non_null ∷ variable (LocalSet 1) ∷ []) ∷
    runs (reference (ref_func 1) ∷ dropped ∷ []) ∷
    runs (in_block (value_block i32) ∷ null (concrete 5) ∷ reference (br_on_null 0) ∷ variable (LocalSet 2) ∷ an_i32 ∷ an_end ∷ dropped ∷ []) ∷
    runs (in_block (value_block (ref (concrete 6))) ∷ null (concrete 5) ∷ reference (br_on_non_null 0) ∷ trap ∷ an_end ∷ variable (LocalSet 2) ∷ []) ∷
    runs (trap ∷ in_block (value_block i32) ∷ trap ∷ reference (br_on_non_null 0) ∷ trap ∷ an_end ∷ dropped ∷ []) ∷
    runs (in_block empty_block ∷ null (concrete 5) ∷ reference (br_on_non_null 0) ∷ an_end ∷ []) ∷
    []) ≡ true

-- a block whose label takes a reference of this type, not null, and a reference of type 5 that isn't null in it
abbrev pub around : Heap ℕ → List (Instruction ℕ) → Bool
around h ops = runs (in_block (value_block (ref h)) ∷ variable (LocalGet 0) ∷ (ops ++ (trap ∷ an_end ∷ dropped ∷ [])))

abbrev pub Casts : Type 0
Casts =
    all_pass (
    gives_i32 (null (plain_heap eq_heap) ∷ cast (ref_test (ref_of false (concrete 5))) ∷ []) ∷
    runs (null (plain_heap any_heap) ∷ cast (ref_cast (ref_of false (concrete 5))) ∷ variable (LocalSet 2) ∷ []) ∷
    described (null (plain_heap exn_heap) ∷ cast (ref_test (ref_of false (plain_heap exn_heap))) ∷ dropped ∷ []) ∷
    described (null (plain_heap exn_heap) ∷ cast (ref_cast (ref_of true (plain_heap exn_heap))) ∷ dropped ∷ []) ∷
    described (in_block (value_block (ref_null (plain_heap cont_heap))) ∷ null (plain_heap cont_heap) ∷ cast (br_on_cast 0 (ref_of true (plain_heap cont_heap)) (ref_of true (plain_heap nocont_heap))) ∷ an_end ∷ dropped ∷ []) ∷
    around (concrete 6) (cast (br_on_cast 0 (ref_of false (concrete 5)) (ref_of false (concrete 6))) ∷ variable (LocalSet 2) ∷ []) ∷
    around (concrete 5) (cast (br_on_cast_fail 0 (ref_of false (concrete 5)) (ref_of false (concrete 6))) ∷ dropped ∷ []) ∷
    around (concrete 5) (null (concrete 5) ∷ cast (br_on_cast_fail 0 (ref_of true (concrete 5)) (ref_of true (concrete 6))) ∷ dropped ∷ []) ∷
    []) ≡ true

abbrev pub NoCasts : Type 0
NoCasts =
    none_pass (
    gives_i32 (null (plain_heap func_heap) ∷ cast (ref_test (ref_of false (concrete 5))) ∷ []) ∷
    gives_i32 (null (plain_heap eq_heap) ∷ cast (ref_test (ref_of false (concrete 14))) ∷ []) ∷
    runs (null (plain_heap any_heap) ∷ cast (ref_cast (ref_of true (concrete 5))) ∷ variable (LocalSet 2) ∷ []) ∷
    described (null (plain_heap cont_heap) ∷ cast (ref_test (ref_of false (plain_heap cont_heap))) ∷ dropped ∷ []) ∷
    described (null (plain_heap cont_heap) ∷ cast (ref_test (ref_of true (plain_heap nocont_heap))) ∷ dropped ∷ []) ∷
    described (null (plain_heap cont_heap) ∷ cast (ref_cast (ref_of true (plain_heap cont_heap))) ∷ dropped ∷ []) ∷
    described (trap ∷ cast (ref_cast (ref_of false (plain_heap nocont_heap))) ∷ dropped ∷ []) ∷
    described (trap ∷ cast (ref_cast (ref_of false (concrete 13))) ∷ dropped ∷ []) ∷
    around (concrete 6) (cast (br_on_cast 0 (ref_of false (concrete 6)) (ref_of false (concrete 5))) ∷ variable (LocalSet 2) ∷ []) ∷
    around (concrete 6) (cast (br_on_cast 0 (ref_of false (concrete 5)) (ref_of false (concrete 7))) ∷ variable (LocalSet 2) ∷ []) ∷
    around (concrete 6) (cast (br_on_cast 0 (ref_of false (concrete 5)) (ref_of true (concrete 6))) ∷ variable (LocalSet 2) ∷ []) ∷
    around (concrete 6) (cast (br_on_cast_fail 0 (ref_of false (concrete 5)) (ref_of false (concrete 6))) ∷ dropped ∷ []) ∷
    around (concrete 5) (null (concrete 5) ∷ cast (br_on_cast_fail 0 (ref_of true (concrete 5)) (ref_of false (concrete 6))) ∷ dropped ∷ []) ∷
    []) ≡ true

abbrev pub Conversions : Type 0
Conversions =
    all_pass (
    runs (null (plain_heap extern_heap) ∷ conversion AnyConvertExtern ∷ cast (ref_cast (ref_of false (concrete 5))) ∷ dropped ∷ []) ∷
    runs (variable (LocalGet 0) ∷ conversion ExternConvertAny ∷ conversion AnyConvertExtern ∷ conversion ExternConvertAny ∷ dropped ∷ []) ∷
    runs (trap ∷ conversion AnyConvertExtern ∷ cast (ref_cast (ref_of false (concrete 5))) ∷ dropped ∷ []) ∷
    gives_i32 (an_i32 ∷ conversion RefI31 ∷ conversion I31GetS ∷ []) ∷
    gives_i32 (an_i32 ∷ conversion RefI31Shared ∷ conversion I31GetU ∷ []) ∷
    []) ≡ true

abbrev pub NoConversions : Type 0
NoConversions =
    none_pass (
    runs (null (plain_heap any_heap) ∷ conversion AnyConvertExtern ∷ dropped ∷ []) ∷
    runs (null (plain_heap extern_heap) ∷ conversion ExternConvertAny ∷ dropped ∷ []) ∷
    runs (trap ∷ conversion AnyConvertExtern ∷ table (TableSet 0) ∷ []) ∷
    gives_i32 (an_i64 ∷ conversion RefI31 ∷ conversion I31GetS ∷ []) ∷
    gives_i32 (null (plain_heap eq_heap) ∷ conversion I31GetU ∷ []) ∷
    []) ≡ true

abbrev pub Structures : Type 0
Structures =
    all_pass (
    runs (an_i32 ∷ an_i32 ∷ structure (StructNew 5) ∷ variable (LocalSet 2) ∷ []) ∷
    runs (structure (StructNewDefault 6) ∷ variable (LocalSet 2) ∷ []) ∷
    gives_i32 (variable (LocalGet 0) ∷ structure (StructGet 5 0) ∷ []) ∷
    gives_i32 (variable (LocalGet 0) ∷ structure (StructGetS 5 1) ∷ []) ∷
    gives_i32 (variable (LocalGet 0) ∷ structure (StructGetU 5 1) ∷ []) ∷
    runs (variable (LocalGet 0) ∷ an_i32 ∷ structure (StructSet 5 0) ∷ []) ∷
    []) ≡ true

abbrev pub NoStructures : Type 0
NoStructures =
    none_pass (
    runs (an_i32 ∷ structure (StructNew 5) ∷ variable (LocalSet 2) ∷ []) ∷
    runs (structure (StructNewDefault 10) ∷ dropped ∷ []) ∷
    runs (structure (StructNewDefault 7) ∷ dropped ∷ []) ∷
    gives_i32 (variable (LocalGet 0) ∷ structure (StructGet 5 1) ∷ []) ∷
    gives_i32 (variable (LocalGet 0) ∷ structure (StructGetS 5 0) ∷ []) ∷
    gives_i32 (variable (LocalGet 0) ∷ structure (StructGetU 5 2) ∷ []) ∷
    gives_i32 (variable (LocalGet 0) ∷ structure (StructGet 6 0) ∷ []) ∷
    runs (variable (LocalGet 0) ∷ an_i32 ∷ structure (StructSet 5 1) ∷ []) ∷
    []) ≡ true

abbrev pub Arrays : Type 0
Arrays =
    all_pass (
    gives_i32 (an_i32 ∷ an_i32 ∷ array (ArrayNew 7) ∷ array ArrayLen ∷ []) ∷
    gives_i32 (an_i32 ∷ array (ArrayNewDefault 8) ∷ array ArrayLen ∷ []) ∷
    gives_i32 (an_i32 ∷ an_i32 ∷ an_i32 ∷ array (ArrayNewFixed 7 3) ∷ array ArrayLen ∷ []) ∷
    gives_i32 (an_i32 ∷ an_i32 ∷ array (ArrayNewData 9 0) ∷ array ArrayLen ∷ []) ∷
    gives_i32 (an_i32 ∷ an_i32 ∷ array (ArrayNewElem 8 1) ∷ array ArrayLen ∷ []) ∷
    gives_i32 (null (concrete 7) ∷ an_i32 ∷ array (ArrayGet 7) ∷ []) ∷
    gives_i32 (null (concrete 9) ∷ an_i32 ∷ array (ArrayGetS 9) ∷ []) ∷
    gives_i32 (null (concrete 9) ∷ an_i32 ∷ array (ArrayGetU 9) ∷ []) ∷
    runs (null (concrete 7) ∷ an_i32 ∷ an_i32 ∷ array (ArraySet 7) ∷ []) ∷
    runs (null (concrete 8) ∷ an_i32 ∷ null (concrete 6) ∷ an_i32 ∷ array (ArrayFill 8) ∷ []) ∷
    runs (null (concrete 7) ∷ an_i32 ∷ null (concrete 7) ∷ an_i32 ∷ an_i32 ∷ array (ArrayCopy 7 7) ∷ []) ∷
    runs (null (concrete 7) ∷ an_i32 ∷ an_i32 ∷ an_i32 ∷ array (ArrayInitData 7 0) ∷ []) ∷
    runs (null (concrete 8) ∷ an_i32 ∷ an_i32 ∷ an_i32 ∷ array (ArrayInitElem 8 1) ∷ []) ∷
    []) ≡ true

abbrev pub NoArrays : Type 0
NoArrays =
    none_pass (
    gives_i32 (an_i64 ∷ an_i32 ∷ array (ArrayNew 7) ∷ array ArrayLen ∷ []) ∷
    gives_i32 (an_i32 ∷ array (ArrayNewDefault 5) ∷ dropped ∷ an_i32 ∷ []) ∷
    gives_i32 (an_i32 ∷ an_i32 ∷ array (ArrayNewFixed 7 3) ∷ array ArrayLen ∷ []) ∷
    gives_i32 (an_i32 ∷ an_i32 ∷ array (ArrayNewData 8 0) ∷ array ArrayLen ∷ []) ∷
    gives_i32 (an_i32 ∷ an_i32 ∷ array (ArrayNewData 9 1) ∷ array ArrayLen ∷ []) ∷
    gives_i32 (an_i32 ∷ an_i32 ∷ array (ArrayNewElem 8 0) ∷ array ArrayLen ∷ []) ∷
    gives_i32 (null (concrete 9) ∷ an_i32 ∷ array (ArrayGet 9) ∷ []) ∷
    gives_i32 (null (concrete 7) ∷ an_i32 ∷ array (ArrayGetS 7) ∷ []) ∷
    gives_i32 (null (concrete 5) ∷ array ArrayLen ∷ []) ∷
    runs (null (concrete 9) ∷ an_i32 ∷ an_i32 ∷ array (ArraySet 9) ∷ []) ∷
    runs (null (concrete 8) ∷ an_i32 ∷ null (concrete 7) ∷ an_i32 ∷ array (ArrayFill 8) ∷ []) ∷
    runs (null (concrete 7) ∷ an_i32 ∷ null (concrete 8) ∷ an_i32 ∷ an_i32 ∷ array (ArrayCopy 7 8) ∷ []) ∷
    runs (null (concrete 9) ∷ an_i32 ∷ null (concrete 9) ∷ an_i32 ∷ an_i32 ∷ array (ArrayCopy 9 9) ∷ []) ∷
    runs (null (concrete 8) ∷ an_i32 ∷ an_i32 ∷ an_i32 ∷ array (ArrayInitData 8 0) ∷ []) ∷
    runs (null (concrete 8) ∷ an_i32 ∷ an_i32 ∷ an_i32 ∷ array (ArrayInitElem 8 0) ∷ []) ∷
    []) ≡ true

-- With a type of arrays of mutable references to the lesser structure, 14, and a table of functions with addresses of 64 bits, 2.
abbrev pub with_others : Surroundings ℕ
with_others = record (sample (features true)) {
  context = record context {
    types = context.types ++ (24 ∷ []);
    declares = declares ++ ((24, final (syntax.array (field_of true (unpacked (ref_null (concrete 16)))))) ∷ []);
    tables = context.tables ++ (table_of true (ref_of true (plain_heap func_heap)) ∷ []);
  };
}

abbrev pub copies : List (Instruction ℕ) → Bool
copies ops = is_typed_body nat_eq with_others 0 (ops ++ (an_end ∷ []))

-- what is copied matches what is there, and between addresses of both sizes the length is of 32 bits
abbrev pub Copies : Type 0
Copies =
    all_pass (
    copies (null (concrete 8) ∷ an_i32 ∷ null (concrete 14) ∷ an_i32 ∷ an_i32 ∷ array (ArrayCopy 8 14) ∷ []) ∷
    copies (an_i64 ∷ an_i64 ∷ an_i64 ∷ table (TableCopy 2 2) ∷ []) ∷
    copies (an_i64 ∷ an_i32 ∷ an_i32 ∷ table (TableCopy 2 0) ∷ []) ∷
    copies (an_i32 ∷ an_i64 ∷ an_i32 ∷ table (TableCopy 0 2) ∷ []) ∷
    []) ≡ true

abbrev pub NoCopies : Type 0
NoCopies =
    none_pass (
    copies (null (concrete 14) ∷ an_i32 ∷ null (concrete 8) ∷ an_i32 ∷ an_i32 ∷ array (ArrayCopy 14 8) ∷ []) ∷
    copies (an_i64 ∷ an_i64 ∷ an_i32 ∷ table (TableCopy 2 2) ∷ []) ∷
    copies (an_i64 ∷ an_i32 ∷ an_i64 ∷ table (TableCopy 2 0) ∷ []) ∷
    copies (an_i32 ∷ an_i64 ∷ an_i64 ∷ table (TableCopy 0 2) ∷ []) ∷
    []) ≡ true

-- type 11 has the descriptor 12
abbrev pub Descriptors : Type 0
Descriptors =
    all_pass (
    described (null (exact 12) ∷ structure (StructNewDesc 11) ∷ dropped ∷ []) ∷
    described (null (exact 12) ∷ structure (StructNewDefaultDesc 11) ∷ dropped ∷ []) ∷
    described (null (plain_heap any_heap) ∷ null (concrete 12) ∷ cast (ref_cast_desc_eq (ref_of false (concrete 11))) ∷ dropped ∷ []) ∷
    described (null (plain_heap any_heap) ∷ null (exact 12) ∷ cast (ref_cast_desc_eq (ref_of true (exact 11))) ∷ dropped ∷ []) ∷
    described (null (plain_heap any_heap) ∷ null (exact 12) ∷ cast (ref_cast_desc_eq (ref_of true (concrete 11))) ∷ dropped ∷ []) ∷
    described (structure (StructNewDefault 5) ∷ cast (ref_cast (ref_of false (exact 5))) ∷ dropped ∷ []) ∷
    described (in_block (value_block (ref (concrete 7))) ∷ variable (LocalGet 0) ∷ cast (br_on_cast 0 (ref_of false (concrete 5)) (ref_of false (concrete 7))) ∷ trap ∷ an_end ∷ dropped ∷ []) ∷
    []) ≡ true

abbrev pub NoDescriptors : Type 0
NoDescriptors =
    none_pass (
    runs (null (concrete 12) ∷ structure (StructNewDesc 11) ∷ dropped ∷ []) ∷
    described (null (concrete 12) ∷ structure (StructNewDesc 11) ∷ dropped ∷ []) ∷
    described (structure (StructNew 11) ∷ dropped ∷ []) ∷
    described (structure (StructNewDefault 11) ∷ dropped ∷ []) ∷
    described (null (exact 12) ∷ structure (StructNewDefaultDesc 5) ∷ dropped ∷ []) ∷
    described (null (plain_heap any_heap) ∷ null (concrete 12) ∷ cast (ref_cast_desc_eq (ref_of false (exact 11))) ∷ dropped ∷ []) ∷
    described (null (plain_heap any_heap) ∷ null (concrete 11) ∷ cast (ref_cast_desc_eq (ref_of false (concrete 11))) ∷ dropped ∷ []) ∷
    described (null (plain_heap func_heap) ∷ null (concrete 12) ∷ cast (ref_cast_desc_eq (ref_of false (concrete 11))) ∷ dropped ∷ []) ∷
    described (trap ∷ cast (ref_cast_desc_eq (ref_of false (concrete 5))) ∷ dropped ∷ []) ∷
    described (trap ∷ cast (ref_cast_desc_eq (ref_of true (plain_heap any_heap))) ∷ dropped ∷ []) ∷
    described (in_block (value_block (ref (concrete 0))) ∷ variable (LocalGet 0) ∷ cast (br_on_cast 0 (ref_of false (concrete 5)) (ref_of false (concrete 0))) ∷ trap ∷ an_end ∷ dropped ∷ []) ∷
    []) ≡ true

-- every feature
abbrev pub every : Features
every = features true

-- accepted with every feature, and refused with these
abbrev pub needs : Features → List (Instruction ℕ) → Bool
needs fewer ops = body every 0 ops && not (body fewer 0 ops)

-- A continuation of type 13 takes nothing and gives nothing. A handler for switches wants a tag without parameters, whose results are what the
-- continuation gives.
abbrev pub Continuations : Type 0
Continuations =
    all_pass (
    described (reference (ref_func 0) ∷ continuation (cont_new 13) ∷ dropped ∷ []) ∷
    described (null (concrete 13) ∷ continuation (cont_bind 13 13) ∷ dropped ∷ []) ∷
    described (an_i32 ∷ continuation (suspend 1) ∷ []) ∷
    described (null (concrete 13) ∷ continuation (resume 13 (OnSwitch 0 ∷ [])) ∷ []) ∷
    described (in_block (value_block (ref_null (concrete 13))) ∷ null (concrete 13) ∷ continuation (resume 13 (OnLabel 0 0 ∷ [])) ∷ null (concrete 13) ∷ an_end ∷ dropped ∷ []) ∷
    []) ≡ true

abbrev pub NoContinuations : Type 0
NoContinuations =
    none_pass (
    described (reference (ref_func 3) ∷ continuation (cont_new 13) ∷ dropped ∷ []) ∷
    described (null (concrete 13) ∷ continuation (cont_bind 13 0) ∷ dropped ∷ []) ∷
    described (continuation (suspend 1) ∷ []) ∷
    described (null (concrete 13) ∷ continuation (resume 13 (OnSwitch 1 ∷ [])) ∷ []) ∷
    described (null (concrete 13) ∷ continuation (resume 13 (OnSwitch 2 ∷ [])) ∷ []) ∷
    described (in_block (value_block (ref_null (concrete 13))) ∷ null (concrete 13) ∷ continuation (resume 13 (OnLabel 1 0 ∷ [])) ∷ null (concrete 13) ∷ an_end ∷ dropped ∷ []) ∷
    described (in_block (value_block (ref_null (concrete 13))) ∷ null (concrete 13) ∷ continuation (resume 13 (OnLabel 2 0 ∷ [])) ∷ null (concrete 13) ∷ an_end ∷ dropped ∷ []) ∷
    described (null (concrete 13) ∷ continuation (switch 13 0) ∷ []) ∷
    []) ≡ true

-- features: of vectors, floating-point numbers and bulk instructions
abbrev pub MemoriesNeedFeatures : Type 0
MemoriesNeedFeatures =
    all_pass (
    needs (record every { simd = false }) (constant (V128Const (record { low = 0; high = 0 })) ∷ dropped ∷ []) ∷
    needs (record every { floats = false }) (an_i32 ∷ accessing F32Load 0 0 0 ∷ dropped ∷ []) ∷
    needs (record every { floats = false }) (trap ∷ accessing F64Store 0 0 0 ∷ []) ∷
    needs (record every { bulk_memory = false }) (an_i32 ∷ an_i32 ∷ an_i32 ∷ memory (MemoryFill 0) ∷ []) ∷
    needs (record every { bulk_memory = false }) (an_i32 ∷ an_i32 ∷ an_i32 ∷ memory (MemoryCopy 0 0) ∷ []) ∷
    needs (record every { bulk_memory = false }) (an_i32 ∷ an_i32 ∷ an_i32 ∷ memory (MemoryInit 0 0) ∷ []) ∷
    needs (record every { bulk_memory = false }) (memory (DataDrop 0) ∷ []) ∷
    needs (record every { bulk_memory = false }) (trap ∷ table (TableCopy 0 0) ∷ []) ∷
    needs (record every { bulk_memory = false }) (trap ∷ table (TableInit 0 0) ∷ []) ∷
    needs (record every { bulk_memory = false }) (table (ElemDrop 0) ∷ []) ∷
    []) ≡ true

-- of references
abbrev pub ReferencesNeedFeatures : Type 0
ReferencesNeedFeatures =
    all_pass (
    needs (record every { reference_types = false }) (table (TableSize 0) ∷ dropped ∷ []) ∷
    needs (record every { reference_types = false }) (an_i32 ∷ table (TableGet 0) ∷ dropped ∷ []) ∷
    needs (record every { reference_types = false }) (trap ∷ table (TableSet 0) ∷ []) ∷
    needs (record every { reference_types = false }) (trap ∷ table (TableGrow 0) ∷ dropped ∷ []) ∷
    needs (record every { reference_types = false }) (trap ∷ table (TableFill 0) ∷ []) ∷
    needs (record every { reference_types = false }) (reference (ref_func 0) ∷ dropped ∷ []) ∷
    needs (record every { reference_types = false }) (trap ∷ reference ref_is_null ∷ dropped ∷ []) ∷
    needs (record every { function_references = false }) (trap ∷ reference ref_as_non_null ∷ dropped ∷ []) ∷
    needs (record every { function_references = false }) (trap ∷ reference (br_on_null 0) ∷ dropped ∷ []) ∷
    needs (record every { function_references = false }) (in_block (value_block (ref_null (plain_heap func_heap))) ∷ trap ∷ reference (br_on_non_null 0) ∷ trap ∷ an_end ∷ dropped ∷ []) ∷
    []) ≡ true

-- of garbage collection, shared references and descriptors
abbrev pub AggregatesNeedFeatures : Type 0
AggregatesNeedFeatures =
    all_pass (
    needs (record every { gc = false }) (trap ∷ reference ref_eq ∷ dropped ∷ []) ∷
    needs (record every { gc = false }) (trap ∷ cast (ref_test (ref_of true (plain_heap func_heap))) ∷ dropped ∷ []) ∷
    needs (record every { gc = false }) (trap ∷ conversion AnyConvertExtern ∷ dropped ∷ []) ∷
    needs (record every { gc = false }) (trap ∷ conversion ExternConvertAny ∷ dropped ∷ []) ∷
    needs (record every { gc = false }) (an_i32 ∷ conversion RefI31 ∷ dropped ∷ []) ∷
    needs (record every { gc = false }) (trap ∷ conversion I31GetS ∷ dropped ∷ []) ∷
    needs (record every { gc = false }) (structure (StructNewDefault 5) ∷ dropped ∷ []) ∷
    needs (record every { gc = false }) (trap ∷ array (ArrayGet 7) ∷ dropped ∷ []) ∷
    needs (record every { gc = false }) (trap ∷ array ArrayLen ∷ dropped ∷ []) ∷
    needs (record every { gc_types = false }) (trap ∷ conversion AnyConvertExtern ∷ dropped ∷ []) ∷
    needs (record every { gc_types = false }) (trap ∷ conversion ExternConvertAny ∷ dropped ∷ []) ∷
    needs (record every { gc_types = false }) (an_i32 ∷ conversion RefI31 ∷ dropped ∷ []) ∷
    needs (record every { gc_types = false }) (an_i32 ∷ conversion RefI31Shared ∷ dropped ∷ []) ∷
    needs (record every { shared_everything_threads = false }) (an_i32 ∷ conversion RefI31Shared ∷ dropped ∷ []) ∷
    needs (record every { custom_descriptors = false }) (trap ∷ structure (StructNewDesc 11) ∷ dropped ∷ []) ∷
    needs (record every { custom_descriptors = false }) (trap ∷ structure (StructNewDefaultDesc 11) ∷ dropped ∷ []) ∷
    needs (record every { descriptor_operators = false }) (trap ∷ cast (ref_cast_desc_eq (ref_of false (concrete 11))) ∷ dropped ∷ []) ∷
    []) ≡ true
