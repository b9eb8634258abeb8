-- Bodies that are valid and bodies that aren't: control, parametric and variable instructions, and constant expressions. In each pair
-- of statements, what the first accepts and what the second refuses differ in one place.
use Rattle.std.specs.Prelude.{ℕ, ◌≡◌, true, false, nat_eq, [], ◌∷◌}
use Rattle.wasm_spec_rules.specs.WasmSpec.Syntax.{func_heap, exn_heap, extern_heap, concrete, i32, i64, f32}
use Rattle.wasm_spec_rules.specs.WasmSpec.TypeExamples.{features}
use Rattle.wasm_operators.specs.WasmOperatorsPlain.declared.numeric.NumericOperator.TheVariants.{I32Add, I32Sub, I32Mul, I32And, I64Add, I64Sub, I64Mul, I64And, F32Add, I64Eqz}
use Rattle.wasm_operators.specs.Control.{empty_block, value_block, func_block, nop, else_, throw_ref, return_, loop, if_, try_table, throw, br, br_if, br_table, select, select_of}
use Rattle.wasm_operators.specs.References as references
use Rattle.wasm_operators.specs.Instructions.{Instruction, control, call, parametric, variable, numeric, reference, conversion, structure, array}
use Rattle.wasm_operators.specs.WasmOperatorsPlain.declared.conversions.ConversionOperator.TheVariants.{RefI31, I31GetS, RefI31Shared}
use Rattle.wasm_operators.specs.WasmOperatorsPlain.declared.structs.StructOperator.TheVariants.{StructNewDefault, StructGet}
use Rattle.wasm_operators.specs.WasmOperatorsPlain.declared.arrays.ArrayOperator.TheVariants.{ArrayNewFixed, ArrayLen}
use Rattle.wasm_spec_steps.specs.ConstantExpressions.{is_constant}
use Rattle.wasm_operators.specs.declared.control.Catch.TheVariants as catch
use Rattle.wasm_operators.specs.WasmOperatorsPlain.declared.calls.CallOperator.TheVariants.{Call, CallIndirect, ReturnCall, ReturnCallIndirect, CallRef, ReturnCallRef}
use Rattle.wasm_operators.specs.WasmOperatorsPlain.declared.variables.VariableOperator.TheVariants.{LocalGet, LocalSet, LocalTee, GlobalGet, GlobalSet}
use Rattle.wasm_spec_steps.specs.Steps.{is_typed_body}
use Rattle.wasm_spec_steps.specs.Samples.{sample, without_descriptors, ref, ref_null, plain_heap, body, runs, gives_i32, constant_of, an_i32, an_i64, an_f32, dropped, trap, an_end, in_block, all_pass, none_pass}

abbrev pub null : Instruction ℕ
null = reference (references.ref_null (plain_heap func_heap))

abbrev pub Blocks : Type 0
Blocks =
    all_pass (
    runs [] ∷
    gives_i32 (an_i32 ∷ []) ∷
    runs (control nop ∷ []) ∷
    gives_i32 (in_block (value_block i32) ∷ an_i32 ∷ an_end ∷ []) ∷
    gives_i32 (an_i32 ∷ an_i64 ∷ in_block (func_block 2) ∷ dropped ∷ an_end ∷ []) ∷
    runs (control (loop empty_block) ∷ control (br 0) ∷ an_end ∷ []) ∷
    gives_i32 (an_i32 ∷ control (if_ (value_block i32)) ∷ an_i32 ∷ control else_ ∷ an_i32 ∷ an_end ∷ []) ∷
    runs (an_i32 ∷ control (if_ empty_block) ∷ an_end ∷ []) ∷
    gives_i32 (trap ∷ []) ∷
    gives_i32 (trap ∷ numeric I64Eqz ∷ []) ∷
    gives_i32 (an_i32 ∷ control return_ ∷ []) ∷
    body (features false) 1 (an_i32 ∷ an_i32 ∷ numeric I32Add ∷ []) ∷
    body (features false) 0 (an_i32 ∷ control (if_ empty_block) ∷ trap ∷ an_end ∷ []) ∷
    []) ≡ true

abbrev pub NoBlocks : Type 0
NoBlocks =
    none_pass (
    runs (an_i32 ∷ []) ∷
    gives_i32 [] ∷
    gives_i32 (an_i64 ∷ []) ∷
    runs (an_end ∷ []) ∷
    runs (an_end ∷ control nop ∷ []) ∷
    is_typed_body nat_eq (sample without_descriptors) 0 (an_end ∷ control nop ∷ []) ∷
    runs (in_block empty_block ∷ []) ∷
    gives_i32 (an_i32 ∷ in_block (value_block i32) ∷ an_end ∷ []) ∷
    gives_i32 (an_i64 ∷ an_i32 ∷ in_block (func_block 2) ∷ dropped ∷ an_end ∷ []) ∷
    body (features true) 1 (in_block (func_block 14) ∷ trap ∷ an_end ∷ []) ∷
    runs (in_block empty_block ∷ control else_ ∷ an_end ∷ []) ∷
    gives_i32 (an_i32 ∷ control (if_ (value_block i32)) ∷ an_i32 ∷ an_end ∷ []) ∷
    runs (an_i64 ∷ control (if_ empty_block) ∷ an_end ∷ []) ∷
    gives_i32 (trap ∷ numeric I64Eqz ∷ numeric I64Eqz ∷ []) ∷
    gives_i32 (control return_ ∷ []) ∷
    []) ≡ true

abbrev pub Branches : Type 0
Branches =
    all_pass (
    gives_i32 (in_block (value_block i32) ∷ an_i32 ∷ control (br 0) ∷ an_end ∷ []) ∷
    gives_i32 (an_i32 ∷ control (br 0) ∷ []) ∷
    gives_i32 (an_i32 ∷ an_i32 ∷ control (br_if 0) ∷ []) ∷
    runs (control (loop (value_block i32)) ∷ an_i32 ∷ control (br_if 0) ∷ an_i32 ∷ an_end ∷ dropped ∷ []) ∷
    gives_i32 (in_block (value_block i32) ∷ an_i32 ∷ an_i32 ∷ control (br_table (0 ∷ 1 ∷ []) 0) ∷ an_end ∷ []) ∷
    gives_i32 (in_block empty_block ∷ an_i32 ∷ an_i32 ∷ control (br_table [] 1) ∷ an_end ∷ an_i32 ∷ []) ∷
    runs (in_block (value_block i32) ∷ in_block (value_block i64) ∷ trap ∷ an_i32 ∷ control (br_table (1 ∷ []) 0) ∷ an_end ∷ trap ∷ an_end ∷ dropped ∷ []) ∷
    []) ≡ true

abbrev pub NoBranches : Type 0
NoBranches =
    none_pass (
    gives_i32 (in_block (value_block i32) ∷ an_i64 ∷ control (br 0) ∷ an_end ∷ []) ∷
    gives_i32 (an_i32 ∷ control (br 1) ∷ []) ∷
    gives_i32 (an_i32 ∷ control (br_if 0) ∷ []) ∷
    runs (control (loop (value_block i32)) ∷ an_i64 ∷ control (br_if 0) ∷ an_i32 ∷ an_end ∷ dropped ∷ []) ∷
    gives_i32 (in_block (value_block i32) ∷ an_i32 ∷ an_i32 ∷ control (br_table (0 ∷ 2 ∷ []) 0) ∷ an_end ∷ []) ∷
    gives_i32 (in_block empty_block ∷ an_i32 ∷ control (br_table [] 1) ∷ an_end ∷ an_i32 ∷ []) ∷
    runs (in_block (value_block i32) ∷ in_block empty_block ∷ trap ∷ an_i32 ∷ control (br_table (1 ∷ []) 0) ∷ an_end ∷ trap ∷ an_end ∷ dropped ∷ []) ∷
    gives_i32 (in_block (value_block i32) ∷ in_block (value_block i64) ∷ an_i64 ∷ an_i32 ∷ control (br_table (1 ∷ []) 0) ∷ an_end ∷ trap ∷ an_end ∷ []) ∷
    []) ≡ true

abbrev pub Calls : Type 0
Calls =
    all_pass (
    gives_i32 (an_i32 ∷ an_i64 ∷ call (Call 2) ∷ []) ∷
    gives_i32 (an_i32 ∷ an_i64 ∷ an_i32 ∷ call (CallIndirect 2 0) ∷ []) ∷
    runs (reference (references.ref_null (concrete 0)) ∷ call (CallRef 0) ∷ []) ∷
    gives_i32 (call (ReturnCall 1) ∷ []) ∷
    gives_i32 (an_i32 ∷ call (ReturnCallIndirect 1 0) ∷ []) ∷
    gives_i32 (reference (references.ref_null (concrete 1)) ∷ call (ReturnCallRef 1) ∷ []) ∷
    []) ≡ true

abbrev pub NoCalls : Type 0
NoCalls =
    none_pass (
    gives_i32 (an_i64 ∷ an_i32 ∷ call (Call 2) ∷ []) ∷
    runs (call (Call 4) ∷ []) ∷
    gives_i32 (an_i32 ∷ an_i64 ∷ an_i32 ∷ call (CallIndirect 2 1) ∷ []) ∷
    gives_i32 (an_i32 ∷ an_i64 ∷ an_i64 ∷ call (CallIndirect 2 0) ∷ []) ∷
    runs (reference (references.ref_null (concrete 1)) ∷ call (CallRef 0) ∷ []) ∷
    gives_i32 (call (ReturnCall 0) ∷ []) ∷
    gives_i32 (an_i32 ∷ call (ReturnCallIndirect 0 0) ∷ []) ∷
    gives_i32 (reference (references.ref_null (concrete 0)) ∷ call (ReturnCallRef 0) ∷ []) ∷
    []) ≡ true

abbrev pub Exceptions : Type 0
Exceptions =
    all_pass (
    gives_i32 (an_i32 ∷ control (throw 1) ∷ []) ∷
    gives_i32 (reference (references.ref_null (plain_heap exn_heap)) ∷ control throw_ref ∷ []) ∷
    gives_i32 (control (try_table empty_block (catch.One 1 0 ∷ [])) ∷ an_end ∷ an_i32 ∷ []) ∷
    runs (in_block (value_block (ref (plain_heap exn_heap))) ∷ control (try_table empty_block (catch.OneRef 0 0 ∷ [])) ∷ an_end ∷ trap ∷ an_end ∷ dropped ∷ []) ∷
    runs (control (try_table empty_block (catch.All 0 ∷ [])) ∷ an_end ∷ []) ∷
    runs (in_block (value_block (ref_null (plain_heap exn_heap))) ∷ control (try_table empty_block (catch.AllRef 0 ∷ [])) ∷ an_end ∷ trap ∷ an_end ∷ dropped ∷ []) ∷
    []) ≡ true

abbrev pub NoExceptions : Type 0
NoExceptions =
    none_pass (
    gives_i32 (an_i64 ∷ control (throw 1) ∷ []) ∷
    gives_i32 (control (throw 2) ∷ []) ∷
    gives_i32 (null ∷ control throw_ref ∷ []) ∷
    gives_i32 (control (try_table empty_block (catch.One 0 0 ∷ [])) ∷ an_end ∷ an_i32 ∷ []) ∷
    gives_i32 (control (try_table empty_block (catch.One 2 0 ∷ [])) ∷ an_end ∷ an_i32 ∷ []) ∷
    runs (control (try_table empty_block (catch.OneRef 0 0 ∷ [])) ∷ an_end ∷ []) ∷
    gives_i32 (control (try_table empty_block (catch.All 0 ∷ [])) ∷ an_end ∷ an_i32 ∷ []) ∷
    runs (control (try_table empty_block (catch.AllRef 0 ∷ [])) ∷ an_end ∷ []) ∷
    []) ≡ true

abbrev pub Parametrics : Type 0
Parametrics =
    all_pass (
    runs (an_i32 ∷ dropped ∷ []) ∷
    gives_i32 (an_i32 ∷ an_i32 ∷ an_i32 ∷ parametric select ∷ []) ∷
    gives_i32 (trap ∷ parametric select ∷ []) ∷
    gives_i32 (trap ∷ an_i32 ∷ an_i32 ∷ parametric select ∷ []) ∷
    runs (null ∷ null ∷ an_i32 ∷ parametric (select_of (ref_null (plain_heap func_heap) ∷ [])) ∷ dropped ∷ []) ∷
    []) ≡ true

abbrev pub NoParametrics : Type 0
NoParametrics =
    none_pass (
    runs (dropped ∷ []) ∷
    gives_i32 (an_i32 ∷ an_i64 ∷ an_i32 ∷ parametric select ∷ []) ∷
    gives_i32 (trap ∷ an_i64 ∷ an_i32 ∷ parametric select ∷ []) ∷
    runs (null ∷ null ∷ an_i32 ∷ parametric select ∷ dropped ∷ []) ∷
    runs (trap ∷ null ∷ an_i32 ∷ parametric select ∷ dropped ∷ []) ∷
    runs (trap ∷ reference references.ref_as_non_null ∷ an_i32 ∷ parametric select ∷ dropped ∷ []) ∷
    runs (null ∷ null ∷ an_i32 ∷ parametric (select_of []) ∷ dropped ∷ []) ∷
    runs (null ∷ null ∷ an_i32 ∷ parametric (select_of (ref_null (plain_heap extern_heap) ∷ [])) ∷ dropped ∷ []) ∷
    []) ≡ true

abbrev pub Variables : Type 0
Variables =
    all_pass (
    gives_i32 (variable (LocalGet 1) ∷ []) ∷
    runs (variable (LocalGet 0) ∷ variable (LocalSet 2) ∷ variable (LocalGet 2) ∷ dropped ∷ []) ∷
    runs (variable (LocalGet 0) ∷ variable (LocalTee 2) ∷ variable (LocalSet 0) ∷ []) ∷
    runs (in_block empty_block ∷ variable (LocalGet 0) ∷ variable (LocalSet 2) ∷ variable (LocalGet 2) ∷ dropped ∷ an_end ∷ []) ∷
    gives_i32 (variable (GlobalGet 0) ∷ []) ∷
    runs (an_i32 ∷ variable (GlobalSet 0) ∷ []) ∷
    []) ≡ true

abbrev pub NoVariables : Type 0
NoVariables =
    none_pass (
    gives_i32 (variable (LocalGet 3) ∷ []) ∷
    runs (variable (LocalGet 2) ∷ dropped ∷ []) ∷
    runs (an_i32 ∷ variable (LocalTee 2) ∷ variable (LocalSet 0) ∷ []) ∷
    runs (in_block empty_block ∷ variable (LocalGet 0) ∷ variable (LocalSet 2) ∷ an_end ∷ variable (LocalGet 2) ∷ dropped ∷ []) ∷
    gives_i32 (variable (GlobalGet 2) ∷ []) ∷
    runs (an_i64 ∷ variable (GlobalSet 1) ∷ []) ∷
    []) ≡ true

-- features: of block types, calls, exceptions, floating-point numbers and references
abbrev pub ControlNeedsFeatures : Type 0
ControlNeedsFeatures =
    none_pass (
    body (features false) 0 (in_block (func_block 0) ∷ an_end ∷ []) ∷
    body (features false) 0 (in_block (value_block f32) ∷ trap ∷ an_end ∷ dropped ∷ []) ∷
    body (features false) 0 (trap ∷ call (CallRef 0) ∷ []) ∷
    body (features false) 0 (control (try_table empty_block []) ∷ an_end ∷ []) ∷
    body (features false) 0 (trap ∷ control throw_ref ∷ []) ∷
    body (features false) 0 (control (throw 0) ∷ []) ∷
    body (features false) 0 (an_f32 ∷ dropped ∷ []) ∷
    body (features false) 0 (trap ∷ numeric F32Add ∷ dropped ∷ []) ∷
    body (features false) 0 (null ∷ dropped ∷ []) ∷
    body (features false) 0 (trap ∷ parametric (select_of (i32 ∷ [])) ∷ dropped ∷ []) ∷
    []) ≡ true

abbrev pub Constants : Type 0
Constants =
    all_pass (
    constant_of i32 (an_i32 ∷ []) ∷
    constant_of i32 (an_i32 ∷ an_i32 ∷ numeric I32Add ∷ []) ∷
    constant_of (ref_null (plain_heap func_heap)) (null ∷ []) ∷
    constant_of (ref (concrete 10)) (reference (references.ref_func 0) ∷ []) ∷
    constant_of i64 (variable (GlobalGet 1) ∷ []) ∷
    []) ≡ true

abbrev pub NoConstants : Type 0
NoConstants =
    none_pass (
    constant_of i32 (an_i64 ∷ []) ∷
    constant_of i32 (an_i32 ∷ an_i32 ∷ []) ∷
    constant_of i32 (an_i32 ∷ an_i32 ∷ numeric I64Add ∷ []) ∷
    constant_of (ref (plain_heap func_heap)) (null ∷ []) ∷
    constant_of (ref (concrete 11)) (reference (references.ref_func 0) ∷ []) ∷
    constant_of (ref (concrete 11)) (reference (references.ref_func 1) ∷ []) ∷
    []) ≡ true

-- instructions that constant expressions may have with every feature and with none, and others
abbrev pub ConstantInstructions : Type 0
ConstantInstructions =
    all_pass (
    is_constant (features false) an_i32 ∷
    is_constant (features false) null ∷
    is_constant (features false) (reference (references.ref_func 0)) ∷
    is_constant (features false) (variable (GlobalGet 0)) ∷
    is_constant (features false) an_end ∷
    is_constant (features true) (numeric I32Add) ∷
    is_constant (features true) (numeric I32Sub) ∷
    is_constant (features true) (numeric I32Mul) ∷
    is_constant (features true) (numeric I64Add) ∷
    is_constant (features true) (numeric I64Sub) ∷
    is_constant (features true) (numeric I64Mul) ∷
    is_constant (features true) (structure (StructNewDefault 5)) ∷
    is_constant (features true) (array (ArrayNewFixed 7 1)) ∷
    is_constant (features true) (conversion RefI31) ∷
    is_constant (features true) (conversion RefI31Shared) ∷
    []) ≡ true

abbrev pub NoConstantInstructions : Type 0
NoConstantInstructions =
    none_pass (
    is_constant (features true) (control nop) ∷
    is_constant (features true) (call (Call 0)) ∷
    is_constant (features true) (variable (LocalGet 0)) ∷
    is_constant (features true) (numeric I64Eqz) ∷
    is_constant (features true) (numeric I32And) ∷
    is_constant (features true) (numeric I64And) ∷
    is_constant (features true) (structure (StructGet 5 0)) ∷
    is_constant (features true) (array ArrayLen) ∷
    is_constant (features true) (conversion I31GetS) ∷
    is_constant (features false) (numeric I32Add) ∷
    is_constant (features false) (structure (StructNewDefault 5)) ∷
    is_constant (features false) (array (ArrayNewFixed 7 1)) ∷
    is_constant (features false) (conversion RefI31) ∷
    is_constant (features false) (conversion RefI31Shared) ∷
    []) ≡ true
