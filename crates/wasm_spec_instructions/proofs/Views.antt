-- Which instructions open, turn or close a block: each other one is simple.
use Rattle.std.proofs.Common.{◌≡◌, refl, ℕ, true, [], ◌∷◌}
use Rattle.wasm_operators.specs.WasmOperatorsPlain.Signatures.{signature_of, saturating_signature_of}
use Rattle.wasm_operators.specs.WasmOperatorsPlain.declared.signatures.Signature.{Signature}
use Rattle.wasm_operators.specs.WasmOperatorsPlain.declared.signatures.Signature.TheVariants.{Unary, Binary}
use Rattle.wasm_operators.specs.Control as control
use Rattle.wasm_operators.specs.Control.{Control, Parametric}
use Rattle.wasm_operators.specs.References as references
use Rattle.wasm_operators.specs.References.{Reference, Cast}
use Rattle.wasm_operators.specs.Legacy as legacy
use Rattle.wasm_operators.specs.Legacy.{Legacy}
use Rattle.wasm_operators.specs.Continuations as continuations
use Rattle.wasm_operators.specs.Continuations.{Continuation}
use Rattle.wasm_operators.specs.Instructions as instruction
use Rattle.wasm_operators.specs.Instructions.{Instruction}
use Rattle.wasm_operators.specs.WasmOperatorsPlain.declared.calls.CallOperator.{CallOperator}
use Rattle.wasm_operators.specs.WasmOperatorsPlain.declared.calls.CallOperator.TheVariants.{Call, CallIndirect, ReturnCall, ReturnCallIndirect, CallRef, ReturnCallRef}
use Rattle.wasm_operators.specs.WasmOperatorsPlain.declared.variables.VariableOperator.{VariableOperator}
use Rattle.wasm_operators.specs.WasmOperatorsPlain.declared.variables.VariableOperator.TheVariants.{LocalGet, LocalSet, LocalTee, GlobalGet, GlobalSet}
use Rattle.wasm_operators.specs.WasmOperatorsPlain.declared.tables.TableOperator.{TableOperator}
use Rattle.wasm_operators.specs.WasmOperatorsPlain.declared.tables.TableOperator.TheVariants.{TableGet, TableSet, TableInit, ElemDrop, TableCopy, TableGrow, TableSize, TableFill}
use Rattle.wasm_operators.specs.WasmOperatorsPlain.declared.memories.MemoryOperator.{MemoryOperator}
use Rattle.wasm_operators.specs.WasmOperatorsPlain.declared.memories.MemoryOperator.TheVariants.{I32Load, I64Load, F32Load, F64Load, I32Load8S, I32Load8U, I32Load16S, I32Load16U, I64Load8S, I64Load8U, I64Load16S, I64Load16U, I64Load32S, I64Load32U, I32Store, I64Store, F32Store, F64Store, I32Store8, I32Store16, I64Store8, I64Store16, I64Store32}
use Rattle.wasm_operators.specs.WasmOperatorsPlain.declared.memories.MemArg.{MemArg}
use Rattle.wasm_operators.specs.WasmOperatorsPlain.declared.memories.BulkMemoryOperator.{BulkMemoryOperator}
use Rattle.wasm_operators.specs.WasmOperatorsPlain.declared.memories.BulkMemoryOperator.TheVariants.{MemorySize, MemoryGrow, MemoryInit, DataDrop, MemoryCopy, MemoryFill, MemoryDiscard}
use Rattle.wasm_operators.specs.WasmOperatorsPlain.declared.conversions.ConversionOperator.{ConversionOperator}
use Rattle.wasm_operators.specs.WasmOperatorsPlain.declared.conversions.ConversionOperator.TheVariants.{AnyConvertExtern, ExternConvertAny, RefI31, I31GetS, I31GetU, RefI31Shared}
use Rattle.wasm_operators.specs.WasmOperatorsPlain.declared.structs.StructOperator.{StructOperator}
use Rattle.wasm_operators.specs.WasmOperatorsPlain.declared.structs.StructOperator.TheVariants.{StructNew, StructNewDefault, StructGet, StructGetS, StructGetU, StructSet, StructNewDesc, StructNewDefaultDesc}
use Rattle.wasm_operators.specs.WasmOperatorsPlain.declared.arrays.ArrayOperator.{ArrayOperator}
use Rattle.wasm_operators.specs.WasmOperatorsPlain.declared.arrays.ArrayOperator.TheVariants.{ArrayNew, ArrayNewDefault, ArrayNewFixed, ArrayNewData, ArrayNewElem, ArrayGet, ArrayGetS, ArrayGetU, ArraySet, ArrayLen, ArrayFill, ArrayCopy, ArrayInitData, ArrayInitElem}
use Rattle.wasm_spec_steps.specs.Shapes.{call_shape, parametric_shape, variable_shape, table_shape, access_shape, memory_shape, computing, reference_shape, cast_shape, continuation_shape, conversion_shape, struct_shape, array_shape, shape_of}
use Rattle.wasm_spec_instructions.specs.Code.{Opening, a_block, a_loop, an_if, a_try, a_try_table, Handler, a_catch, a_catch_all, written, handler_written, delegate_, else_, end_, is_simple}

call-simple : (op : CallOperator) → is_simple (call_shape op) ≡ true
call-simple (Call x) = refl
call-simple (CallIndirect y x) = refl
call-simple (CallRef y) = refl
call-simple (ReturnCall x) = refl
call-simple (ReturnCallIndirect y x) = refl
call-simple (ReturnCallRef y) = refl

parametric-simple : (op : Parametric ℕ) → is_simple (parametric_shape op) ≡ true
parametric-simple control.drop_ = refl
parametric-simple control.select = refl
parametric-simple (control.select_of []) = refl
parametric-simple (control.select_of (v ∷ [])) = refl
parametric-simple (control.select_of (v ∷ w ∷ vs)) = refl

variable-simple : (op : VariableOperator) → is_simple (variable_shape op) ≡ true
variable-simple (LocalGet x) = refl
variable-simple (LocalSet x) = refl
variable-simple (LocalTee x) = refl
variable-simple (GlobalGet x) = refl
variable-simple (GlobalSet x) = refl

table-simple : (op : TableOperator) → is_simple (table_shape op) ≡ true
table-simple (TableGet x) = refl
table-simple (TableSet x) = refl
table-simple (TableSize x) = refl
table-simple (TableGrow x) = refl
table-simple (TableFill x) = refl
table-simple (TableCopy x y) = refl
table-simple (TableInit y x) = refl
table-simple (ElemDrop y) = refl

memory-simple : (op : BulkMemoryOperator) → is_simple (memory_shape op) ≡ true
memory-simple (MemorySize x) = refl
memory-simple (MemoryGrow x) = refl
memory-simple (MemoryFill x) = refl
memory-simple (MemoryCopy x y) = refl
memory-simple (MemoryInit y x) = refl
memory-simple (DataDrop y) = refl
memory-simple (MemoryDiscard x) = refl

reference-simple : (op : Reference ℕ) → is_simple (reference_shape op) ≡ true
reference-simple (references.ref_null h) = refl
reference-simple references.ref_is_null = refl
reference-simple references.ref_eq = refl
reference-simple references.ref_as_non_null = refl
reference-simple (references.ref_func x) = refl
reference-simple (references.br_on_null l) = refl
reference-simple (references.br_on_non_null l) = refl

continuation-simple : (op : Continuation) → is_simple (continuation_shape op) ≡ true
continuation-simple (continuations.cont_new n) = refl
continuation-simple (continuations.cont_bind m n) = refl
continuation-simple (continuations.suspend x) = refl
continuation-simple (continuations.resume n hs) = refl
continuation-simple (continuations.resume_throw n x hs) = refl
continuation-simple (continuations.resume_throw_ref n hs) = refl
continuation-simple (continuations.switch n x) = refl

cast-simple : (op : Cast ℕ) → is_simple (cast_shape op) ≡ true
cast-simple (references.ref_test q) = refl
cast-simple (references.ref_cast q) = refl
cast-simple (references.br_on_cast l r q) = refl
cast-simple (references.br_on_cast_fail l r q) = refl
cast-simple (references.ref_get_desc x) = refl
cast-simple (references.ref_cast_desc_eq q) = refl
cast-simple (references.br_on_cast_desc_eq l r q) = refl
cast-simple (references.br_on_cast_desc_eq_fail l r q) = refl

conversion-simple : (op : ConversionOperator) → is_simple (conversion_shape op) ≡ true
conversion-simple AnyConvertExtern = refl
conversion-simple ExternConvertAny = refl
conversion-simple RefI31 = refl
conversion-simple RefI31Shared = refl
conversion-simple I31GetS = refl
conversion-simple I31GetU = refl

struct-simple : (op : StructOperator) → is_simple (struct_shape op) ≡ true
struct-simple (StructNew x) = refl
struct-simple (StructNewDefault x) = refl
struct-simple (StructGet x i) = refl
struct-simple (StructGetS x i) = refl
struct-simple (StructGetU x i) = refl
struct-simple (StructSet x i) = refl
struct-simple (StructNewDesc x) = refl
struct-simple (StructNewDefaultDesc x) = refl

array-simple : (op : ArrayOperator) → is_simple (array_shape op) ≡ true
array-simple (ArrayNew x) = refl
array-simple (ArrayNewDefault x) = refl
array-simple (ArrayNewFixed x n) = refl
array-simple (ArrayNewData x y) = refl
array-simple (ArrayNewElem x y) = refl
array-simple (ArrayGet x) = refl
array-simple (ArrayGetS x) = refl
array-simple (ArrayGetU x) = refl
array-simple (ArraySet x) = refl
array-simple ArrayLen = refl
array-simple (ArrayFill x) = refl
array-simple (ArrayCopy x y) = refl
array-simple (ArrayInitData x y) = refl
array-simple (ArrayInitElem x y) = refl

access-simple : (op : MemoryOperator) (m : MemArg) → is_simple (access_shape op m) ≡ true
access-simple I32Load m = refl
access-simple I64Load m = refl
access-simple F32Load m = refl
access-simple F64Load m = refl
access-simple I32Load8S m = refl
access-simple I32Load8U m = refl
access-simple I32Load16S m = refl
access-simple I32Load16U m = refl
access-simple I64Load8S m = refl
access-simple I64Load8U m = refl
access-simple I64Load16S m = refl
access-simple I64Load16U m = refl
access-simple I64Load32S m = refl
access-simple I64Load32U m = refl
access-simple I32Store m = refl
access-simple I64Store m = refl
access-simple F32Store m = refl
access-simple F64Store m = refl
access-simple I32Store8 m = refl
access-simple I32Store16 m = refl
access-simple I64Store8 m = refl
access-simple I64Store16 m = refl
access-simple I64Store32 m = refl

computing-simple : (s : Signature) → is_simple (computing s) ≡ true
computing-simple (Unary a b) = refl
computing-simple (Binary a b) = refl

-- what an instruction is in structured code
pub data View : Instruction ℕ → Type 0 where
  is_plain : {i : Instruction ℕ} → is_simple (shape_of i) ≡ true → View i
  is_opening : (o : Opening) → View (written o)
  is_else : View else_
  is_end : View end_
  is_handler : (x : Handler) → View (handler_written x)
  is_delegate : (l : ℕ) → View (delegate_ l)

control-view : (op : Control ℕ) → View (instruction.control op)
control-view (control.block b) = is_opening (a_block b)
control-view (control.loop b) = is_opening (a_loop b)
control-view (control.if_ b) = is_opening (an_if b)
control-view (control.try_table b cs) = is_opening (a_try_table b cs)
control-view control.else_ = is_else
control-view control.end_ = is_end
control-view control.unreachable = is_plain refl
control-view control.nop = is_plain refl
control-view (control.throw x) = is_plain refl
control-view control.throw_ref = is_plain refl
control-view (control.br l) = is_plain refl
control-view (control.br_if l) = is_plain refl
control-view (control.br_table ls l) = is_plain refl
control-view control.return_ = is_plain refl

legacy-view : (op : Legacy ℕ) → View (instruction.legacy op)
legacy-view (legacy.try_ b) = is_opening (a_try b)
legacy-view (legacy.catch_ x) = is_handler (a_catch x)
legacy-view legacy.catch_all = is_handler a_catch_all
legacy-view (legacy.delegate l) = is_delegate l
legacy-view (legacy.rethrow l) = is_plain refl

pub view : (i : Instruction ℕ) → View i
view (instruction.control op) = control-view op
view (instruction.legacy op) = legacy-view op
view (instruction.call op) = is_plain (call-simple op)
view (instruction.parametric op) = is_plain (parametric-simple op)
view (instruction.variable op) = is_plain (variable-simple op)
view (instruction.table op) = is_plain (table-simple op)
view (instruction.access op m) = is_plain (access-simple op m)
view (instruction.memory op) = is_plain (memory-simple op)
view (instruction.constant op) = is_plain refl
view (instruction.numeric op) = is_plain (computing-simple (signature_of op))
view (instruction.saturating op) = is_plain (computing-simple (saturating_signature_of op))
view (instruction.reference op) = is_plain (reference-simple op)
view (instruction.cast op) = is_plain (cast-simple op)
view (instruction.conversion op) = is_plain (conversion-simple op)
view (instruction.structure op) = is_plain (struct-simple op)
view (instruction.array op) = is_plain (array-simple op)
view (instruction.vector op values) = is_plain refl
view (instruction.atomic op values) = is_plain refl
view (instruction.wide op) = is_plain refl
view (instruction.shared op values) = is_plain refl
view (instruction.continuation op) = is_plain (continuation-simple op)
