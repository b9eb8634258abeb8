-- The first table: each instruction has one of few shapes, with what it checks, takes and gives.
-- Core Specification 3.0, Validation, Instructions, and the proposals for shared references, for custom descriptors, for wide arithmetic, for
-- memory control and for stack switching.
use Rattle.std.specs.Prelude.{ℕ, Bool, true, false, if◌then◌else◌, List, [], ◌∷◌, ◌++◌, length, map, Option, Some, None}
use Rattle.wasm_spec_rules.specs.WasmSpec.Syntax.{AbstractHeap, any_heap, eq_heap, i31_heap, array_heap, func_heap, extern_heap, exn_heap, Heap, abstract_heap, concrete, Ref, Val, i32, i64, f32, f64, v128, reference}
use Rattle.wasm_operators.specs.WasmOperatorsPlain.Signatures.{signature_of, saturating_signature_of}
use Rattle.wasm_operators.specs.WasmOperatorsPlain.declared.signatures.NumberType.{NumberType}
use Rattle.wasm_operators.specs.WasmOperatorsPlain.declared.signatures.NumberType.TheVariants as number
use Rattle.wasm_operators.specs.WasmOperatorsPlain.declared.signatures.Signature.{Signature}
use Rattle.wasm_operators.specs.WasmOperatorsPlain.declared.signatures.Signature.TheVariants.{Unary, Binary}
use Rattle.wasm_operators.specs.Control as control
use Rattle.wasm_operators.specs.Control.{Block, empty_block, value_block, func_block, Control, Parametric}
use Rattle.wasm_operators.specs.Legacy as legacy
use Rattle.wasm_operators.specs.Legacy.{Legacy}
use Rattle.wasm_operators.specs.References as references
use Rattle.wasm_operators.specs.References.{Reference, Cast}
use Rattle.wasm_operators.specs.Continuations as continuations
use Rattle.wasm_operators.specs.Continuations.{Continuation}
use Rattle.wasm_operators.specs.WasmOperatorsProposals.declared.continuations.Handle.{Handle}
use Rattle.wasm_operators.specs.WasmOperatorsProposals.declared.continuations.Handle.TheVariants as handle
use Rattle.wasm_operators.specs.Instructions as instruction
use Rattle.wasm_operators.specs.Instructions.{Instruction}
use Rattle.wasm_operators.specs.declared.control.Catch.{Catch}
use Rattle.wasm_operators.specs.declared.control.Catch.TheVariants as catch
use Rattle.wasm_operators.specs.WasmOperatorsPlain.declared.calls.CallOperator.{CallOperator}
use Rattle.wasm_operators.specs.WasmOperatorsPlain.declared.calls.CallOperator.TheVariants.{Call, CallIndirect, ReturnCall, ReturnCallIndirect, CallRef, ReturnCallRef}
use Rattle.wasm_operators.specs.WasmOperatorsPlain.declared.variables.VariableOperator.{VariableOperator}
use Rattle.wasm_operators.specs.WasmOperatorsPlain.declared.variables.VariableOperator.TheVariants.{LocalGet, LocalSet, LocalTee, GlobalGet, GlobalSet}
use Rattle.wasm_operators.specs.WasmOperatorsPlain.declared.tables.TableOperator.{TableOperator}
use Rattle.wasm_operators.specs.WasmOperatorsPlain.declared.tables.TableOperator.TheVariants.{TableGet, TableSet, TableInit, ElemDrop, TableCopy, TableGrow, TableSize, TableFill}
use Rattle.wasm_operators.specs.WasmOperatorsPlain.declared.memories.MemoryOperator.{MemoryOperator}
use Rattle.wasm_operators.specs.WasmOperatorsPlain.declared.memories.MemoryOperator.TheVariants.{I32Load, I64Load, F32Load, F64Load, I32Load8S, I32Load8U, I32Load16S, I32Load16U, I64Load8S, I64Load8U, I64Load16S, I64Load16U, I64Load32S, I64Load32U, I32Store, I64Store, F32Store, F64Store, I32Store8, I32Store16, I64Store8, I64Store16, I64Store32}
use Rattle.wasm_operators.specs.WasmOperatorsPlain.declared.memories.MemArg.{MemArg}
use Rattle.wasm_operators.specs.WasmOperatorsPlain.declared.memories.BulkMemoryOperator.{BulkMemoryOperator}
use Rattle.wasm_operators.specs.WasmOperatorsPlain.declared.memories.BulkMemoryOperator.TheVariants.{MemorySize, MemoryGrow, MemoryInit, DataDrop, MemoryCopy, MemoryFill, MemoryDiscard}
use Rattle.wasm_operators.specs.WasmOperatorsPlain.declared.constants.ConstantOperator.{ConstantOperator}
use Rattle.wasm_operators.specs.WasmOperatorsPlain.declared.constants.ConstantOperator.TheVariants.{I32Const, I64Const, F32Const, F64Const, V128Const}
use Rattle.wasm_operators.specs.WasmOperatorsPlain.declared.conversions.ConversionOperator.{ConversionOperator}
use Rattle.wasm_operators.specs.WasmOperatorsPlain.declared.conversions.ConversionOperator.TheVariants.{AnyConvertExtern, ExternConvertAny, RefI31, I31GetS, I31GetU, RefI31Shared}
use Rattle.wasm_operators.specs.WasmOperatorsPlain.declared.structs.StructOperator.{StructOperator}
use Rattle.wasm_operators.specs.WasmOperatorsPlain.declared.structs.StructOperator.TheVariants.{StructNew, StructNewDefault, StructGet, StructGetS, StructGetU, StructSet, StructNewDesc, StructNewDefaultDesc}
use Rattle.wasm_operators.specs.WasmOperatorsAtomic.declared.wide.WideOperator.{WideOperator}
use Rattle.wasm_operators.specs.WasmOperatorsAtomic.declared.wide.WideOperator.TheVariants.{I64Add128, I64Sub128, I64MulWideS, I64MulWideU}
use Rattle.wasm_operators.specs.WasmOperatorsPlain.declared.arrays.ArrayOperator.{ArrayOperator}
use Rattle.wasm_operators.specs.WasmOperatorsPlain.declared.arrays.ArrayOperator.TheVariants.{ArrayNew, ArrayNewDefault, ArrayNewFixed, ArrayNewData, ArrayNewElem, ArrayGet, ArrayGetS, ArrayGetU, ArraySet, ArrayLen, ArrayFill, ArrayCopy, ArrayInitData, ArrayInitElem}
use Rattle.wasm_spec_steps.specs.Machine.{Kind, block_kind, loop_kind, if_kind, try_table_kind, legacy_try_kind, legacy_catch_kind, legacy_catch_all_kind}
use Rattle.wasm_operators.specs.WasmOperatorsAtomic.WasmOperatorsVector.Forms as vectors
use Rattle.wasm_operators.specs.WasmOperatorsAtomic.WasmOperatorsVector.declared.operators.VectorOperator.{VectorOperator}
use Rattle.wasm_operators.specs.WasmOperatorsAtomic.Forms as atomics
use Rattle.wasm_operators.specs.WasmOperatorsAtomic.declared.operators.AtomicOperator.{AtomicOperator}
use Rattle.wasm_operators.specs.WasmOperatorsAtomic.WasmOperatorsVector.declared.forms.Form.{Form}
use Rattle.wasm_operators.specs.WasmOperatorsAtomic.SharedForms as shareds
use Rattle.wasm_operators.specs.WasmOperatorsAtomic.declared.shared.SharedAtomicOperator.{SharedAtomicOperator}
use Rattle.wasm_operators.specs.WasmOperatorsAtomic.declared.shared_forms.SharedForm.{SharedForm}
use Rattle.wasm_operators.specs.WasmOperatorsAtomic.declared.shared_forms.SharedForm.TheVariants as form
use Rattle.wasm_operators.specs.WasmOperatorsAtomic.declared.shared_forms.Access.{Access}
use Rattle.wasm_operators.specs.WasmOperatorsAtomic.declared.shared_forms.Access.TheVariants as access
use Rattle.wasm_operators.specs.WasmOperatorsProposals.declared.accesses.AccessValues.{AccessValues}
use Rattle.wasm_operators.specs.declared.immediates.ImmediateValues.{ImmediateValues}
use Rattle.wasm_spec_steps.specs.Forms.{types_taken, types_given, memarg_of}
use Rattle.wasm_spec_steps.specs.Actions.{of_type, of_function, of_tag, OperandTypes, these, params, results, label, returned, local, global, function_reference, new_reference, fields, element, field, table_address, memory_address, table_element, segment, lesser_table_address, lesser_memory_address, top, descriptor_of, descriptor_for, repeated, front, last, continued, taken_by, given_by, joined, before, behind, Needed, multi_value, reference_types, bulk_memory, exceptions, function_references, gc, shared_everything_threads, custom_descriptors, legacy_exceptions, few_clauses, Check, has, allows, global_is_mutable, local_is_set, function_is_referenced, is_exception, each_matches, each_matches_some, may_be_cast, can_be_tested, is_aligned, fields_have_defaults, has_no_descriptor, field_is_mutable, field_is_packed, element_is_mutable, element_has_default, element_is_number, element_is_packed, element_is_storable, data_is_there, segment_is_there, reaches_global, reaches_table, reaches_type, reaches_function, suits, simd, threads, vector_operators, atomic_operators, wide_arithmetic, memory_control, descriptor_operators, shared_atomic_operators, stack_switching, stack_switching_operators}

-- Shapes: takes some operands and gives others; takes some, and what follows isn't reached; takes some and enters a block; `end`; `else`;
-- takes any operand; chooses one of two; tests a reference for null; asserts that it isn't null; branches where it is null; branches
-- where it isn't; branches by a table; sets a local; sets it and gives it back; takes a reference below an abstract heap type, shared
-- or not; takes two that may be compared; turns a reference of one hierarchy into one of another, or a reference to a type of an index into
-- its descriptor; is never valid; turns a `try` to a `catch`
-- or to its `catch_all`, over these operands; ends a `try` and hands its exceptions to a label; throws again what the frame of a label has
-- caught.
pub data Shape : Type 0 where
  plain : List Check → OperandTypes → OperandTypes → Shape
  ending : List Check → OperandTypes → Shape
  opening : List Check → OperandTypes → Kind → Block ℕ → Shape
  closing turning dropping choosing never : Shape
  testing_null asserting_non_null : List Check → Shape
  branching_on_null branching_on_non_null : List Check → ℕ → Shape
  branching_by_table : List ℕ → ℕ → Shape
  setting giving_back : ℕ → Shape
  measuring : List Check → AbstractHeap → OperandTypes → Shape
  comparing : List Check → OperandTypes → Shape
  converting : List Check → AbstractHeap → AbstractHeap → Shape
  describing : List Check → ℕ → Shape
  catching : List Check → OperandTypes → Kind → Shape
  delegating rethrowing : List Check → ℕ → Shape

-- words on types
abbrev pub nothing : OperandTypes
nothing = these []

abbrev pub one : Val ℕ → OperandTypes
one v = these (v ∷ [])

abbrev pub reference_to : Bool → Heap ℕ → Val ℕ
reference_to nullable h = reference (record { nullable = nullable; heap = h })

-- a reference, or null, to a value of the type of an index
abbrev pub nullable_to : ℕ → Val ℕ
nullable_to n = reference_to true (concrete n)

-- a reference type as it is after a cast to another failed: without null, where the other has it
abbrev pub difference : Ref ℕ → Ref ℕ → Val ℕ
difference r q = reference_to (if q.nullable then false else r.nullable) r.heap

-- the first types, then an index or number of 32 bits for each of a list
abbrev pub with_i32s : OperandTypes → List (Val ℕ) → OperandTypes
with_i32s t vs = joined t (these vs)

-- what a block type needs
abbrev pub block_checks : Block ℕ → List Check
block_checks empty_block = []
block_checks (value_block v) = allows v ∷ []
block_checks (func_block n) = has multi_value ∷ reaches_type n ∷ []

-- catch clauses: what a tag has, and the exception where it is asked for, matches the label
abbrev pub exception : OperandTypes
exception = one (reference_to false (abstract_heap false exn_heap))

abbrev pub catch_checks : List Catch → List Check
catch_checks [] = []
catch_checks (catch.One x l ∷ cs) = is_exception x ∷ each_matches (params (of_tag x)) (label l) ∷ catch_checks cs
catch_checks (catch.OneRef x l ∷ cs) = is_exception x ∷ each_matches (joined (params (of_tag x)) exception) (label l) ∷ catch_checks cs
catch_checks (catch.All l ∷ cs) = each_matches nothing (label l) ∷ catch_checks cs
catch_checks (catch.AllRef l ∷ cs) = each_matches exception (label l) ∷ catch_checks cs

-- Control Instructions
abbrev pub control_shape : Control ℕ → Shape
control_shape control.unreachable = ending [] nothing
control_shape control.nop = plain [] nothing nothing
control_shape (control.block b) = opening (block_checks b) nothing block_kind b
control_shape (control.loop b) = opening (block_checks b) nothing loop_kind b
control_shape (control.if_ b) = opening (block_checks b) (one i32) if_kind b
control_shape control.else_ = turning
control_shape control.end_ = closing
control_shape (control.try_table b cs) = opening (has (few_clauses (length cs)) ∷ has exceptions ∷ block_checks b ++ catch_checks cs) nothing try_table_kind b
control_shape (control.throw x) = ending (has exceptions ∷ is_exception x ∷ []) (params (of_tag x))
control_shape control.throw_ref = ending (has exceptions ∷ []) (one (reference_to true (abstract_heap false exn_heap)))
control_shape (control.br l) = ending [] (label l)
control_shape (control.br_if l) = plain [] (joined (label l) (one i32)) (label l)
control_shape (control.br_table ls l) = branching_by_table ls l
control_shape control.return_ = ending [] returned

-- The operators of the legacy exception-handling proposal, which need two features
abbrev pub legacy_checks : List Check → List Check
legacy_checks cs = has legacy_exceptions ∷ has exceptions ∷ cs

abbrev pub legacy_shape : Legacy ℕ → Shape
legacy_shape (legacy.try_ b) = opening (legacy_checks (block_checks b)) nothing legacy_try_kind b
legacy_shape (legacy.catch_ x) = catching (legacy_checks (is_exception x ∷ [])) (params (of_tag x)) legacy_catch_kind
legacy_shape legacy.catch_all = catching (legacy_checks []) nothing legacy_catch_all_kind
legacy_shape (legacy.delegate l) = delegating (legacy_checks []) l
legacy_shape (legacy.rethrow l) = rethrowing (legacy_checks []) l

-- the results of a call in place of the caller
abbrev pub returns : OperandTypes → Check
returns t = each_matches t returned

-- a table of functions
abbrev pub holds_functions : ℕ → Check
holds_functions n = each_matches (table_element n) (one (reference_to true (abstract_heap false func_heap)))

abbrev pub indirect_checks : ℕ → ℕ → List Check
indirect_checks y x = reaches_table x ∷ reaches_type y ∷ holds_functions x ∷ []

abbrev pub call_shape : CallOperator → Shape
call_shape (Call x) = plain (reaches_function x ∷ []) (params (of_function x)) (results (of_function x))
call_shape (CallIndirect y x) = plain (indirect_checks y x) (joined (params (of_type y)) (table_address x)) (results (of_type y))
call_shape (CallRef y) = plain (has function_references ∷ reaches_type y ∷ []) (joined (params (of_type y)) (one (nullable_to y))) (results (of_type y))
call_shape (ReturnCall x) = ending (reaches_function x ∷ returns (results (of_function x)) ∷ []) (params (of_function x))
call_shape (ReturnCallIndirect y x) = ending (returns (results (of_type y)) ∷ indirect_checks y x) (joined (params (of_type y)) (table_address x))
call_shape (ReturnCallRef y) = ending (has function_references ∷ reaches_type y ∷ returns (results (of_type y)) ∷ []) (joined (params (of_type y)) (one (nullable_to y)))

-- Parametric Instructions: a `select` names one type
abbrev pub parametric_shape : Parametric ℕ → Shape
parametric_shape control.drop_ = dropping
parametric_shape control.select = choosing
parametric_shape (control.select_of []) = never
parametric_shape (control.select_of (v ∷ [])) = plain (has reference_types ∷ allows v ∷ []) (these (v ∷ v ∷ i32 ∷ [])) (one v)
parametric_shape (control.select_of (v ∷ w ∷ vs)) = never

-- Variable Instructions
abbrev pub variable_shape : VariableOperator → Shape
variable_shape (LocalGet x) = plain (local_is_set x ∷ []) nothing (local x)
variable_shape (LocalSet x) = setting x
variable_shape (LocalTee x) = giving_back x
variable_shape (GlobalGet x) = plain (reaches_global x ∷ []) nothing (global x)
variable_shape (GlobalSet x) = plain (reaches_global x ∷ global_is_mutable x ∷ []) (global x) nothing

-- Table Instructions
abbrev pub table_shape : TableOperator → Shape
table_shape (TableGet x) = plain (has reference_types ∷ reaches_table x ∷ []) (table_address x) (table_element x)
table_shape (TableSet x) = plain (has reference_types ∷ reaches_table x ∷ []) (joined (table_address x) (table_element x)) nothing
table_shape (TableSize x) = plain (has reference_types ∷ reaches_table x ∷ []) nothing (table_address x)
table_shape (TableGrow x) = plain (has reference_types ∷ reaches_table x ∷ []) (joined (table_element x) (table_address x)) (table_address x)
table_shape (TableFill x) = plain (has reference_types ∷ reaches_table x ∷ []) (joined (table_address x) (joined (table_element x) (table_address x))) nothing
table_shape (TableCopy x y) =
    plain (has bulk_memory ∷ reaches_table x ∷ reaches_table y ∷ each_matches (table_element y) (table_element x) ∷ []) (joined (table_address x) (joined (table_address y) (lesser_table_address x y))) nothing
table_shape (TableInit y x) = plain (has bulk_memory ∷ reaches_table x ∷ each_matches (segment y) (table_element x) ∷ []) (with_i32s (table_address x) (i32 ∷ i32 ∷ [])) nothing
table_shape (ElemDrop y) = plain (has bulk_memory ∷ segment_is_there y ∷ []) nothing nothing

-- Memory Instructions
abbrev pub loading : MemoryOperator → MemArg → Val ℕ → Shape
loading op m v = plain (allows v ∷ is_aligned op m ∷ []) (memory_address m.memory) (one v)

abbrev pub storing : MemoryOperator → MemArg → Val ℕ → Shape
storing op m v = plain (allows v ∷ is_aligned op m ∷ []) (joined (memory_address m.memory) (one v)) nothing

abbrev pub access_shape : MemoryOperator → MemArg → Shape
access_shape I32Load m = loading I32Load m i32
access_shape I64Load m = loading I64Load m i64
access_shape F32Load m = loading F32Load m f32
access_shape F64Load m = loading F64Load m f64
access_shape I32Load8S m = loading I32Load8S m i32
access_shape I32Load8U m = loading I32Load8U m i32
access_shape I32Load16S m = loading I32Load16S m i32
access_shape I32Load16U m = loading I32Load16U m i32
access_shape I64Load8S m = loading I64Load8S m i64
access_shape I64Load8U m = loading I64Load8U m i64
access_shape I64Load16S m = loading I64Load16S m i64
access_shape I64Load16U m = loading I64Load16U m i64
access_shape I64Load32S m = loading I64Load32S m i64
access_shape I64Load32U m = loading I64Load32U m i64
access_shape I32Store m = storing I32Store m i32
access_shape I64Store m = storing I64Store m i64
access_shape F32Store m = storing F32Store m f32
access_shape F64Store m = storing F64Store m f64
access_shape I32Store8 m = storing I32Store8 m i32
access_shape I32Store16 m = storing I32Store16 m i32
access_shape I64Store8 m = storing I64Store8 m i64
access_shape I64Store16 m = storing I64Store16 m i64
access_shape I64Store32 m = storing I64Store32 m i64

abbrev pub memory_shape : BulkMemoryOperator → Shape
memory_shape (MemorySize x) = plain [] nothing (memory_address x)
memory_shape (MemoryGrow x) = plain [] (memory_address x) (memory_address x)
memory_shape (MemoryFill x) = plain (has bulk_memory ∷ []) (joined (memory_address x) (joined (one i32) (memory_address x))) nothing
memory_shape (MemoryCopy x y) = plain (has bulk_memory ∷ []) (joined (memory_address x) (joined (memory_address y) (lesser_memory_address x y))) nothing
memory_shape (MemoryInit y x) = plain (has bulk_memory ∷ data_is_there y ∷ []) (with_i32s (memory_address x) (i32 ∷ i32 ∷ [])) nothing
memory_shape (DataDrop y) = plain (has bulk_memory ∷ data_is_there y ∷ []) nothing nothing
memory_shape (MemoryDiscard x) = plain (has memory_control ∷ []) (joined (memory_address x) (memory_address x)) nothing

-- Numeric Instructions, and the constant of Vector Instructions
abbrev pub constant_type : ConstantOperator → Val ℕ
constant_type (I32Const n) = i32
constant_type (I64Const n) = i64
constant_type (F32Const n) = f32
constant_type (F64Const n) = f64
constant_type (V128Const n) = v128

abbrev pub constant_shape : ConstantOperator → Shape
constant_shape op = plain (allows (constant_type op) ∷ []) nothing (one (constant_type op))

abbrev pub number_type : NumberType → Val ℕ
number_type number.I32 = i32
number_type number.I64 = i64
number_type number.F32 = f32
number_type number.F64 = f64

abbrev pub computing : Signature → Shape
computing (Unary a b) = plain (allows (number_type a) ∷ allows (number_type b) ∷ []) (one (number_type a)) (one (number_type b))
computing (Binary a b) = plain (allows (number_type a) ∷ allows (number_type b) ∷ []) (these (number_type a ∷ number_type a ∷ [])) (one (number_type b))

-- Reference Instructions, and branches on null
abbrev pub reference_shape : Reference ℕ → Shape
reference_shape (references.ref_null h) = plain (has reference_types ∷ allows (reference_to true h) ∷ []) nothing (one (reference_to true h))
reference_shape references.ref_is_null = testing_null (has reference_types ∷ [])
reference_shape references.ref_eq = comparing (has gc ∷ []) (one i32)
reference_shape references.ref_as_non_null = asserting_non_null (has function_references ∷ [])
reference_shape (references.ref_func x) = plain (has reference_types ∷ function_is_referenced x ∷ []) nothing (function_reference x)
reference_shape (references.br_on_null l) = branching_on_null (has function_references ∷ []) l
reference_shape (references.br_on_non_null l) = branching_on_non_null (has function_references ∷ []) l

-- casts to q, which isn't of the continuations' hierarchy; and branches on a cast, to q from r: with a label whose last type is that of
-- the reference that it gets
abbrev pub cast_checks : Ref ℕ → List Check
cast_checks q = has gc ∷ allows (reference q) ∷ can_be_tested q ∷ []

abbrev pub branch_checks : ℕ → Ref ℕ → Ref ℕ → Val ℕ → List Check
branch_checks l r q sent = has gc ∷ allows (reference r) ∷ allows (reference q) ∷ may_be_cast r q ∷ each_matches (one sent) (last (label l)) ∷ []

abbrev pub kept : ℕ → Val ℕ → OperandTypes
kept l v = joined (front (label l)) (one v)

-- The instructions on descriptors of the proposal for custom descriptors need two features. Above the reference of a cast or a branch stands
-- a descriptor of the type that it is cast to.
abbrev pub descriptor_checks : List Check → List Check
descriptor_checks cs = has descriptor_operators ∷ has custom_descriptors ∷ cs

abbrev pub cast_shape : Cast ℕ → Shape
cast_shape (references.ref_test q) = plain (cast_checks q) (top q) (one i32)
cast_shape (references.ref_cast q) = plain (cast_checks q) (top q) (one (reference q))
cast_shape (references.br_on_cast l r q) = plain (branch_checks l r q (reference q)) (kept l (reference r)) (kept l (difference r q))
cast_shape (references.br_on_cast_fail l r q) = plain (branch_checks l r q (difference r q)) (kept l (reference r)) (kept l (reference q))
cast_shape (references.ref_get_desc x) = describing (descriptor_checks (reaches_type x ∷ [])) x
cast_shape (references.ref_cast_desc_eq q) = plain (descriptor_checks (cast_checks q)) (joined (top q) (descriptor_for q.heap)) (one (reference q))
cast_shape (references.br_on_cast_desc_eq l r q) =
    plain (descriptor_checks (branch_checks l r q (reference q))) (joined (kept l (reference r)) (descriptor_for q.heap)) (kept l (difference r q))
cast_shape (references.br_on_cast_desc_eq_fail l r q) =
    plain (descriptor_checks (branch_checks l r q (difference r q))) (joined (kept l (reference r)) (descriptor_for q.heap)) (kept l (reference q))

-- External and unboxed references: each type that is given is one that the features allow
abbrev pub small_integer : Bool → Val ℕ
small_integer shared = reference_to false (abstract_heap shared i31_heap)

abbrev pub boxing : Needed → Bool → Shape
boxing p shared = plain (has p ∷ allows (small_integer shared) ∷ []) (one i32) (one (small_integer shared))

abbrev pub conversion_shape : ConversionOperator → Shape
conversion_shape AnyConvertExtern = converting (has gc ∷ allows (reference_to true (abstract_heap false any_heap)) ∷ []) extern_heap any_heap
conversion_shape ExternConvertAny = converting (has gc ∷ allows (reference_to true (abstract_heap false extern_heap)) ∷ []) any_heap extern_heap
conversion_shape RefI31 = boxing gc false
conversion_shape RefI31Shared = boxing shared_everything_threads true
conversion_shape I31GetS = measuring (has gc ∷ []) i31_heap (one i32)
conversion_shape I31GetU = measuring (has gc ∷ []) i31_heap (one i32)

-- Aggregate Instructions: the checks of each that names a type
abbrev pub aggregate_checks : ℕ → List Check → List Check
aggregate_checks x cs = has gc ∷ reaches_type x ∷ cs

abbrev pub described_checks : ℕ → List Check → List Check
described_checks x cs = has custom_descriptors ∷ reaches_type x ∷ cs

-- structures; a packed field is read with a sign or without, another as it is
abbrev pub getting : Bool → ℕ → ℕ → Shape
getting packed x i = plain (aggregate_checks x (field_is_packed packed x i ∷ [])) (one (nullable_to x)) (field x i)

abbrev pub struct_shape : StructOperator → Shape
struct_shape (StructNew x) = plain (aggregate_checks x (has_no_descriptor x ∷ [])) (fields x) (new_reference x)
struct_shape (StructNewDefault x) = plain (aggregate_checks x (has_no_descriptor x ∷ fields_have_defaults x ∷ [])) nothing (new_reference x)
struct_shape (StructGet x i) = getting false x i
struct_shape (StructGetS x i) = getting true x i
struct_shape (StructGetU x i) = getting true x i
struct_shape (StructSet x i) = plain (aggregate_checks x (field_is_mutable x i ∷ [])) (joined (one (nullable_to x)) (field x i)) nothing
struct_shape (StructNewDesc x) = plain (described_checks x []) (joined (fields x) (descriptor_of x)) (new_reference x)
struct_shape (StructNewDefaultDesc x) = plain (described_checks x (fields_have_defaults x ∷ [])) (descriptor_of x) (new_reference x)

-- arrays
abbrev pub item : Bool → ℕ → Shape
item packed x = plain (aggregate_checks x (element_is_packed packed x ∷ [])) (these (nullable_to x ∷ i32 ∷ [])) (element x)

abbrev pub array_shape : ArrayOperator → Shape
array_shape (ArrayNew x) = plain (aggregate_checks x []) (joined (element x) (one i32)) (new_reference x)
array_shape (ArrayNewDefault x) = plain (aggregate_checks x (element_has_default x ∷ [])) (one i32) (new_reference x)
array_shape (ArrayNewFixed x n) = plain (aggregate_checks x []) (repeated n (element x)) (new_reference x)
array_shape (ArrayNewData x y) = plain (aggregate_checks x (element_is_number x ∷ data_is_there y ∷ [])) (these (i32 ∷ i32 ∷ [])) (new_reference x)
array_shape (ArrayNewElem x y) = plain (aggregate_checks x (each_matches (segment y) (element x) ∷ [])) (these (i32 ∷ i32 ∷ [])) (new_reference x)
array_shape (ArrayGet x) = item false x
array_shape (ArrayGetS x) = item true x
array_shape (ArrayGetU x) = item true x
array_shape (ArraySet x) = plain (aggregate_checks x (element_is_mutable x ∷ [])) (joined (these (nullable_to x ∷ i32 ∷ [])) (element x)) nothing
array_shape ArrayLen = measuring (has gc ∷ []) array_heap (one i32)
array_shape (ArrayFill x) = plain (aggregate_checks x (element_is_mutable x ∷ [])) (joined (these (nullable_to x ∷ i32 ∷ [])) (with_i32s (element x) (i32 ∷ []))) nothing
array_shape (ArrayCopy x y) = plain (aggregate_checks x (reaches_type y ∷ element_is_mutable x ∷ element_is_storable y x ∷ [])) (these (nullable_to x ∷ i32 ∷ nullable_to y ∷ i32 ∷ i32 ∷ [])) nothing
array_shape (ArrayInitData x y) = plain (aggregate_checks x (element_is_mutable x ∷ element_is_number x ∷ data_is_there y ∷ [])) (these (nullable_to x ∷ i32 ∷ i32 ∷ i32 ∷ [])) nothing
array_shape (ArrayInitElem x y) = plain (aggregate_checks x (element_is_mutable x ∷ each_matches (segment y) (element x) ∷ [])) (these (nullable_to x ∷ i32 ∷ i32 ∷ i32 ∷ [])) nothing

-- Vector Instructions but the constant, and the atomic instructions of Threads: each is told by its form, and the address of an access is
-- below its other operands
abbrev pub address_of : Option MemArg → OperandTypes
address_of None = nothing
address_of (Some m) = memory_address m.memory

abbrev pub allow_each : List (Val ℕ) → List Check
allow_each vs = map allows vs

abbrev pub form_checks : Form → ImmediateValues → List Check
form_checks f values = suits f values ∷ allow_each (types_taken f ++ types_given f)

abbrev pub form_shape : List Check → Form → ImmediateValues → Shape
form_shape cs f values = plain (cs ++ form_checks f values) (joined (address_of (memarg_of values)) (these (types_taken f))) (these (types_given f))

abbrev pub vector_shape : VectorOperator → ImmediateValues → Shape
vector_shape op values = form_shape (has vector_operators ∷ has simd ∷ []) (vectors.form_of op) values

abbrev pub atomic_shape : AtomicOperator → ImmediateValues → Shape
atomic_shape op values = form_shape (has atomic_operators ∷ has threads ∷ []) (atomics.form_of op) values

-- The instructions of the wide-arithmetic proposal: a number of 128 bits is two of 64 bits, and each instruction gives one
abbrev pub wide_taken : WideOperator → List (Val ℕ)
wide_taken I64Add128 = i64 ∷ i64 ∷ i64 ∷ i64 ∷ []
wide_taken I64Sub128 = i64 ∷ i64 ∷ i64 ∷ i64 ∷ []
wide_taken I64MulWideS = i64 ∷ i64 ∷ []
wide_taken I64MulWideU = i64 ∷ i64 ∷ []

abbrev pub wide_shape : WideOperator → Shape
wide_shape op = plain (has wide_arithmetic ∷ []) (these (wide_taken op)) (these (i64 ∷ i64 ∷ []))

-- Atomic accesses to globals, tables, structures and arrays (Shared-Everything Threads, Validation, Instructions), each told by its form.
-- What is stored is a number, or a reference below `any` where an access gives or stores it, and below `eq` where it compares it. Below
-- the shared ones of these it is in tables, structures and arrays.
abbrev pub with_reference_below : Bool → AbstractHeap → OperandTypes
with_reference_below shared k = these (i32 ∷ i64 ∷ reference_to true (abstract_heap shared k) ∷ [])

abbrev pub allowed_types : Bool → Access → OperandTypes
allowed_types shared access.Get = with_reference_below shared any_heap
allowed_types shared access.Set = with_reference_below shared any_heap
allowed_types shared access.Compute = these (i32 ∷ i64 ∷ [])
allowed_types shared access.Exchange = with_reference_below shared any_heap
allowed_types shared access.Compare = with_reference_below shared eq_heap

-- the checks of what is written, and of what is written as it was given, so that it isn't packed
abbrev pub where_written : Access → List Check → List Check
where_written access.Get cs = []
where_written _ cs = cs

abbrev pub where_given : Access → List Check → List Check
where_given access.Set cs = []
where_given _ cs = cs

-- the operands behind what says where, and what is given
abbrev pub access_taken : Access → OperandTypes → OperandTypes → OperandTypes
access_taken access.Get place value = place
access_taken access.Compare place value = joined place (joined value value)
access_taken _ place value = joined place value

abbrev pub access_given : Access → OperandTypes → OperandTypes
access_given access.Set value = nothing
access_given _ value = value

-- what says where, and the type of what is stored there
abbrev pub shared_place : SharedForm → AccessValues → OperandTypes
shared_place form.Pause v = nothing
shared_place (form.Global a) v = nothing
shared_place (form.Table a) v = table_address v.index
shared_place (form.Field a) v = one (nullable_to v.index)
shared_place form.PackedField v = one (nullable_to v.index)
shared_place (form.Element a) v = these (nullable_to v.index ∷ i32 ∷ [])
shared_place form.PackedElement v = these (nullable_to v.index ∷ i32 ∷ [])

abbrev pub shared_value : SharedForm → AccessValues → OperandTypes
shared_value form.Pause v = nothing
shared_value (form.Global a) v = global v.index
shared_value (form.Table a) v = table_element v.index
shared_value (form.Field a) v = field v.index v.field_index
shared_value form.PackedField v = field v.index v.field_index
shared_value (form.Element a) v = element v.index
shared_value form.PackedElement v = element v.index

abbrev pub access_of : SharedForm → Access
access_of form.Pause = access.Get
access_of (form.Global a) = a
access_of (form.Table a) = a
access_of (form.Field a) = a
access_of form.PackedField = access.Get
access_of (form.Element a) = a
access_of form.PackedElement = access.Get

abbrev pub shared_checks : SharedForm → AccessValues → List Check
shared_checks form.Pause v = []
shared_checks (form.Global a) v = reaches_global v.index ∷ each_matches_some (global v.index) (allowed_types false a) ∷ where_written a (global_is_mutable v.index ∷ [])
shared_checks (form.Table a) v = reaches_table v.index ∷ each_matches_some (table_element v.index) (allowed_types true a) ∷ []
shared_checks (form.Field a) v =
    has gc ∷ reaches_type v.index ∷ each_matches_some (field v.index v.field_index) (allowed_types true a)
    ∷ where_written a (field_is_mutable v.index v.field_index ∷ []) ++ where_given a (field_is_packed false v.index v.field_index ∷ [])
shared_checks form.PackedField v = has gc ∷ reaches_type v.index ∷ field_is_packed true v.index v.field_index ∷ []
shared_checks (form.Element a) v =
    has gc ∷ reaches_type v.index ∷ each_matches_some (element v.index) (allowed_types true a)
    ∷ where_written a (element_is_mutable v.index ∷ []) ++ where_given a (element_is_packed false v.index ∷ [])
shared_checks form.PackedElement v = has gc ∷ reaches_type v.index ∷ element_is_packed true v.index ∷ []

abbrev pub sharing_shape : List Check → SharedForm → AccessValues → Shape
sharing_shape cs f v = plain (cs ++ shared_checks f v) (access_taken (access_of f) (shared_place f v) (shared_value f v)) (access_given (access_of f) (shared_value f v))

abbrev pub shared_shape : SharedAtomicOperator → AccessValues → Shape
shared_shape op v = sharing_shape (has shared_atomic_operators ∷ has shared_everything_threads ∷ []) (shareds.shared_form_of op) v

-- The instructions on continuations (the stack-switching proposal, Validation, Instructions). What a continuation of a type takes and gives
-- is told by a reference to it.
abbrev pub takes_of : ℕ → OperandTypes
takes_of n = taken_by (one (nullable_to n))

abbrev pub gives_of : ℕ → OperandTypes
gives_of n = given_by (one (nullable_to n))

-- What becomes of a suspension while a continuation of a type runs. Where it branches to a label, this takes what the tag takes, and on top
-- a reference to a continuation, which takes what the tag gives and gives what the one that runs would. Where it is a switch, the tag takes
-- nothing, and gives what the one that runs may give in its place.
abbrev pub handle_checks : ℕ → List Handle → List Check
handle_checks n [] = []
handle_checks n (handle.OnLabel x l ∷ hs) =
    each_matches (params (of_tag x)) (front (label l)) ∷ each_matches (taken_by (label l)) (results (of_tag x)) ∷ each_matches (gives_of n) (given_by (label l)) ∷ handle_checks n hs
handle_checks n (handle.OnSwitch x ∷ hs) = each_matches (params (of_tag x)) nothing ∷ each_matches (results (of_tag x)) (gives_of n) ∷ handle_checks n hs

-- behind some checks: a continuation is resumed by these operands, and gives its results in the end
abbrev pub resuming : List Check → ℕ → List Check → OperandTypes → Shape
resuming cs n ds t = plain (cs ++ reaches_type n ∷ ds) (joined t (one (nullable_to n))) (gives_of n)

-- behind some checks; the continuation that is switched from is what the other one gets last
abbrev pub continuing : List Check → Continuation → Shape
continuing cs (continuations.cont_new n) = plain (cs ++ reaches_type n ∷ []) (continued n) (one (reference_to false (concrete n)))
continuing cs (continuations.cont_bind m n) =
    plain (cs ++ reaches_type m ∷ reaches_type n ∷ each_matches (takes_of n) (behind (takes_of m) (takes_of n)) ∷ each_matches (gives_of m) (gives_of n) ∷ [])
    (joined (before (takes_of m) (takes_of n)) (one (nullable_to m))) (one (reference_to false (concrete n)))
continuing cs (continuations.suspend x) = plain cs (params (of_tag x)) (results (of_tag x))
continuing cs (continuations.resume n hs) = resuming cs n (handle_checks n hs) (takes_of n)
continuing cs (continuations.resume_throw n x hs) = resuming cs n (is_exception x ∷ handle_checks n hs) (params (of_tag x))
continuing cs (continuations.resume_throw_ref n hs) = resuming cs n (handle_checks n hs) (one (reference_to true (abstract_heap false exn_heap)))
continuing cs (continuations.switch n x) =
    plain (cs ++ reaches_type n ∷ each_matches (params (of_tag x)) nothing ∷ each_matches (gives_of n) (results (of_tag x)) ∷ each_matches (results (of_tag x)) (given_by (takes_of n)) ∷ [])
    (joined (front (takes_of n)) (one (nullable_to n))) (taken_by (takes_of n))

-- each needs two features
abbrev pub continuation_shape : Continuation → Shape
continuation_shape op = continuing (has stack_switching_operators ∷ has stack_switching ∷ []) op

-- all instructions
abbrev pub shape_of : Instruction ℕ → Shape
shape_of (instruction.control op) = control_shape op
shape_of (instruction.legacy op) = legacy_shape op
shape_of (instruction.call op) = call_shape op
shape_of (instruction.parametric op) = parametric_shape op
shape_of (instruction.variable op) = variable_shape op
shape_of (instruction.table op) = table_shape op
shape_of (instruction.access op m) = access_shape op m
shape_of (instruction.memory op) = memory_shape op
shape_of (instruction.constant op) = constant_shape op
shape_of (instruction.numeric op) = computing (signature_of op)
shape_of (instruction.saturating op) = computing (saturating_signature_of op)
shape_of (instruction.reference op) = reference_shape op
shape_of (instruction.cast op) = cast_shape op
shape_of (instruction.conversion op) = conversion_shape op
shape_of (instruction.structure op) = struct_shape op
shape_of (instruction.array op) = array_shape op
shape_of (instruction.vector op values) = vector_shape op values
shape_of (instruction.atomic op values) = atomic_shape op values
shape_of (instruction.wide op) = wide_shape op
shape_of (instruction.continuation op) = continuation_shape op
shape_of (instruction.shared op values) = shared_shape op values
