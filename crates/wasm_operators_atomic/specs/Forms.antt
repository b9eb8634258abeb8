-- Threads, Validation, Instructions, Atomic Memory Instructions: the forms of the atomic operators.
use Rattle.std.specs.Prelude.{Some, None}
use Rattle.wasm_operators_atomic.specs.declared.operators.AtomicOperator.{AtomicOperator}
use Rattle.wasm_operators_atomic.specs.declared.operators.AtomicOperator.TheVariants.{MemoryAtomicNotify, MemoryAtomicWait32, MemoryAtomicWait64, AtomicFence, I32AtomicLoad, I64AtomicLoad, I32AtomicLoad8U, I32AtomicLoad16U, I64AtomicLoad8U, I64AtomicLoad16U, I64AtomicLoad32U, I32AtomicStore, I64AtomicStore, I32AtomicStore8, I32AtomicStore16, I64AtomicStore8, I64AtomicStore16, I64AtomicStore32, I32AtomicRmwAdd, I64AtomicRmwAdd, I32AtomicRmw8AddU, I32AtomicRmw16AddU, I64AtomicRmw8AddU, I64AtomicRmw16AddU, I64AtomicRmw32AddU, I32AtomicRmwSub, I64AtomicRmwSub, I32AtomicRmw8SubU, I32AtomicRmw16SubU, I64AtomicRmw8SubU, I64AtomicRmw16SubU, I64AtomicRmw32SubU, I32AtomicRmwAnd, I64AtomicRmwAnd, I32AtomicRmw8AndU, I32AtomicRmw16AndU, I64AtomicRmw8AndU, I64AtomicRmw16AndU, I64AtomicRmw32AndU, I32AtomicRmwOr, I64AtomicRmwOr, I32AtomicRmw8OrU, I32AtomicRmw16OrU, I64AtomicRmw8OrU, I64AtomicRmw16OrU, I64AtomicRmw32OrU, I32AtomicRmwXor, I64AtomicRmwXor, I32AtomicRmw8XorU, I32AtomicRmw16XorU, I64AtomicRmw8XorU, I64AtomicRmw16XorU, I64AtomicRmw32XorU, I32AtomicRmwXchg, I64AtomicRmwXchg, I32AtomicRmw8XchgU, I32AtomicRmw16XchgU, I64AtomicRmw8XchgU, I64AtomicRmw16XchgU, I64AtomicRmw32XchgU, I32AtomicRmwCmpxchg, I64AtomicRmwCmpxchg, I32AtomicRmw8CmpxchgU, I32AtomicRmw16CmpxchgU, I64AtomicRmw8CmpxchgU, I64AtomicRmw16CmpxchgU, I64AtomicRmw32CmpxchgU}
use Rattle.wasm_operators_vector.specs.declared.forms.Form.{Form}
use Rattle.wasm_operators_vector.specs.declared.forms.Form.TheVariants as form
use Rattle.wasm_operators_vector.specs.declared.forms.Alignment.TheVariants as align
use Rattle.wasm_operators_vector.specs.declared.forms.Immediates.TheVariants as imm
use Rattle.wasm_operators_vector.specs.declared.forms.Operands.TheVariants as takes
use Rattle.wasm_operators_vector.specs.declared.forms.ValueType.TheVariants as value

-- the form of an operator
abbrev pub form_of : AtomicOperator → Form
form_of MemoryAtomicNotify = form.Access (align.Exactly 2) None (takes.One value.I32) (Some value.I32)
form_of MemoryAtomicWait32 = form.Access (align.Exactly 2) None (takes.Two value.I32 value.I64) (Some value.I32)
form_of MemoryAtomicWait64 = form.Access (align.Exactly 3) None (takes.Two value.I64 value.I64) (Some value.I32)
form_of AtomicFence = form.Compute imm.Zero takes.Nothing None
form_of I32AtomicLoad = form.Access (align.Exactly 2) None takes.Nothing (Some value.I32)
form_of I64AtomicLoad = form.Access (align.Exactly 3) None takes.Nothing (Some value.I64)
form_of I32AtomicLoad8U = form.Access (align.Exactly 0) None takes.Nothing (Some value.I32)
form_of I32AtomicLoad16U = form.Access (align.Exactly 1) None takes.Nothing (Some value.I32)
form_of I64AtomicLoad8U = form.Access (align.Exactly 0) None takes.Nothing (Some value.I64)
form_of I64AtomicLoad16U = form.Access (align.Exactly 1) None takes.Nothing (Some value.I64)
form_of I64AtomicLoad32U = form.Access (align.Exactly 2) None takes.Nothing (Some value.I64)
form_of I32AtomicStore = form.Access (align.Exactly 2) None (takes.One value.I32) None
form_of I64AtomicStore = form.Access (align.Exactly 3) None (takes.One value.I64) None
form_of I32AtomicStore8 = form.Access (align.Exactly 0) None (takes.One value.I32) None
form_of I32AtomicStore16 = form.Access (align.Exactly 1) None (takes.One value.I32) None
form_of I64AtomicStore8 = form.Access (align.Exactly 0) None (takes.One value.I64) None
form_of I64AtomicStore16 = form.Access (align.Exactly 1) None (takes.One value.I64) None
form_of I64AtomicStore32 = form.Access (align.Exactly 2) None (takes.One value.I64) None
form_of I32AtomicRmwAdd = form.Access (align.Exactly 2) None (takes.One value.I32) (Some value.I32)
form_of I64AtomicRmwAdd = form.Access (align.Exactly 3) None (takes.One value.I64) (Some value.I64)
form_of I32AtomicRmw8AddU = form.Access (align.Exactly 0) None (takes.One value.I32) (Some value.I32)
form_of I32AtomicRmw16AddU = form.Access (align.Exactly 1) None (takes.One value.I32) (Some value.I32)
form_of I64AtomicRmw8AddU = form.Access (align.Exactly 0) None (takes.One value.I64) (Some value.I64)
form_of I64AtomicRmw16AddU = form.Access (align.Exactly 1) None (takes.One value.I64) (Some value.I64)
form_of I64AtomicRmw32AddU = form.Access (align.Exactly 2) None (takes.One value.I64) (Some value.I64)
form_of I32AtomicRmwSub = form.Access (align.Exactly 2) None (takes.One value.I32) (Some value.I32)
form_of I64AtomicRmwSub = form.Access (align.Exactly 3) None (takes.One value.I64) (Some value.I64)
form_of I32AtomicRmw8SubU = form.Access (align.Exactly 0) None (takes.One value.I32) (Some value.I32)
form_of I32AtomicRmw16SubU = form.Access (align.Exactly 1) None (takes.One value.I32) (Some value.I32)
form_of I64AtomicRmw8SubU = form.Access (align.Exactly 0) None (takes.One value.I64) (Some value.I64)
form_of I64AtomicRmw16SubU = form.Access (align.Exactly 1) None (takes.One value.I64) (Some value.I64)
form_of I64AtomicRmw32SubU = form.Access (align.Exactly 2) None (takes.One value.I64) (Some value.I64)
form_of I32AtomicRmwAnd = form.Access (align.Exactly 2) None (takes.One value.I32) (Some value.I32)
form_of I64AtomicRmwAnd = form.Access (align.Exactly 3) None (takes.One value.I64) (Some value.I64)
form_of I32AtomicRmw8AndU = form.Access (align.Exactly 0) None (takes.One value.I32) (Some value.I32)
form_of I32AtomicRmw16AndU = form.Access (align.Exactly 1) None (takes.One value.I32) (Some value.I32)
form_of I64AtomicRmw8AndU = form.Access (align.Exactly 0) None (takes.One value.I64) (Some value.I64)
form_of I64AtomicRmw16AndU = form.Access (align.Exactly 1) None (takes.One value.I64) (Some value.I64)
form_of I64AtomicRmw32AndU = form.Access (align.Exactly 2) None (takes.One value.I64) (Some value.I64)
form_of I32AtomicRmwOr = form.Access (align.Exactly 2) None (takes.One value.I32) (Some value.I32)
form_of I64AtomicRmwOr = form.Access (align.Exactly 3) None (takes.One value.I64) (Some value.I64)
form_of I32AtomicRmw8OrU = form.Access (align.Exactly 0) None (takes.One value.I32) (Some value.I32)
form_of I32AtomicRmw16OrU = form.Access (align.Exactly 1) None (takes.One value.I32) (Some value.I32)
form_of I64AtomicRmw8OrU = form.Access (align.Exactly 0) None (takes.One value.I64) (Some value.I64)
form_of I64AtomicRmw16OrU = form.Access (align.Exactly 1) None (takes.One value.I64) (Some value.I64)
form_of I64AtomicRmw32OrU = form.Access (align.Exactly 2) None (takes.One value.I64) (Some value.I64)
form_of I32AtomicRmwXor = form.Access (align.Exactly 2) None (takes.One value.I32) (Some value.I32)
form_of I64AtomicRmwXor = form.Access (align.Exactly 3) None (takes.One value.I64) (Some value.I64)
form_of I32AtomicRmw8XorU = form.Access (align.Exactly 0) None (takes.One value.I32) (Some value.I32)
form_of I32AtomicRmw16XorU = form.Access (align.Exactly 1) None (takes.One value.I32) (Some value.I32)
form_of I64AtomicRmw8XorU = form.Access (align.Exactly 0) None (takes.One value.I64) (Some value.I64)
form_of I64AtomicRmw16XorU = form.Access (align.Exactly 1) None (takes.One value.I64) (Some value.I64)
form_of I64AtomicRmw32XorU = form.Access (align.Exactly 2) None (takes.One value.I64) (Some value.I64)
form_of I32AtomicRmwXchg = form.Access (align.Exactly 2) None (takes.One value.I32) (Some value.I32)
form_of I64AtomicRmwXchg = form.Access (align.Exactly 3) None (takes.One value.I64) (Some value.I64)
form_of I32AtomicRmw8XchgU = form.Access (align.Exactly 0) None (takes.One value.I32) (Some value.I32)
form_of I32AtomicRmw16XchgU = form.Access (align.Exactly 1) None (takes.One value.I32) (Some value.I32)
form_of I64AtomicRmw8XchgU = form.Access (align.Exactly 0) None (takes.One value.I64) (Some value.I64)
form_of I64AtomicRmw16XchgU = form.Access (align.Exactly 1) None (takes.One value.I64) (Some value.I64)
form_of I64AtomicRmw32XchgU = form.Access (align.Exactly 2) None (takes.One value.I64) (Some value.I64)
form_of I32AtomicRmwCmpxchg = form.Access (align.Exactly 2) None (takes.Two value.I32 value.I32) (Some value.I32)
form_of I64AtomicRmwCmpxchg = form.Access (align.Exactly 3) None (takes.Two value.I64 value.I64) (Some value.I64)
form_of I32AtomicRmw8CmpxchgU = form.Access (align.Exactly 0) None (takes.Two value.I32 value.I32) (Some value.I32)
form_of I32AtomicRmw16CmpxchgU = form.Access (align.Exactly 1) None (takes.Two value.I32 value.I32) (Some value.I32)
form_of I64AtomicRmw8CmpxchgU = form.Access (align.Exactly 0) None (takes.Two value.I64 value.I64) (Some value.I64)
form_of I64AtomicRmw16CmpxchgU = form.Access (align.Exactly 1) None (takes.Two value.I64 value.I64) (Some value.I64)
form_of I64AtomicRmw32CmpxchgU = form.Access (align.Exactly 2) None (takes.Two value.I64 value.I64) (Some value.I64)
