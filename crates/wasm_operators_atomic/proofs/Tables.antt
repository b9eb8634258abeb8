-- The table says what the operators' own numbers say.
use Rattle.std.proofs.Common.{◌≡◌, refl, Some}
use Rattle.wasm_operators_vector.specs.Tables.{entry, IsTableOf}
use Rattle.wasm_operators_vector.proofs.Entries.{table_of}
use Rattle.wasm_operators_atomic.specs.Codes.{operator_code, operator_from, operators}
use Rattle.wasm_operators_atomic.specs.declared.operators.AtomicOperator.{AtomicOperator}
use Rattle.wasm_operators_atomic.specs.declared.operators.AtomicOperator.TheVariants.{MemoryAtomicNotify, MemoryAtomicWait32, MemoryAtomicWait64, AtomicFence, I32AtomicLoad, I64AtomicLoad, I32AtomicLoad8U, I32AtomicLoad16U, I64AtomicLoad8U, I64AtomicLoad16U, I64AtomicLoad32U, I32AtomicStore, I64AtomicStore, I32AtomicStore8, I32AtomicStore16, I64AtomicStore8, I64AtomicStore16, I64AtomicStore32, I32AtomicRmwAdd, I64AtomicRmwAdd, I32AtomicRmw8AddU, I32AtomicRmw16AddU, I64AtomicRmw8AddU, I64AtomicRmw16AddU, I64AtomicRmw32AddU, I32AtomicRmwSub, I64AtomicRmwSub, I32AtomicRmw8SubU, I32AtomicRmw16SubU, I64AtomicRmw8SubU, I64AtomicRmw16SubU, I64AtomicRmw32SubU, I32AtomicRmwAnd, I64AtomicRmwAnd, I32AtomicRmw8AndU, I32AtomicRmw16AndU, I64AtomicRmw8AndU, I64AtomicRmw16AndU, I64AtomicRmw32AndU, I32AtomicRmwOr, I64AtomicRmwOr, I32AtomicRmw8OrU, I32AtomicRmw16OrU, I64AtomicRmw8OrU, I64AtomicRmw16OrU, I64AtomicRmw32OrU, I32AtomicRmwXor, I64AtomicRmwXor, I32AtomicRmw8XorU, I32AtomicRmw16XorU, I64AtomicRmw8XorU, I64AtomicRmw16XorU, I64AtomicRmw32XorU, I32AtomicRmwXchg, I64AtomicRmwXchg, I32AtomicRmw8XchgU, I32AtomicRmw16XchgU, I64AtomicRmw8XchgU, I64AtomicRmw16XchgU, I64AtomicRmw32XchgU, I32AtomicRmwCmpxchg, I64AtomicRmwCmpxchg, I32AtomicRmw8CmpxchgU, I32AtomicRmw16CmpxchgU, I64AtomicRmw8CmpxchgU, I64AtomicRmw16CmpxchgU, I64AtomicRmw32CmpxchgU}

there : (op : AtomicOperator) → entry operators (operator_code op) ≡ Some op
unfolding operators
there MemoryAtomicNotify = refl
there MemoryAtomicWait32 = refl
there MemoryAtomicWait64 = refl
there AtomicFence = refl
there I32AtomicLoad = refl
there I64AtomicLoad = refl
there I32AtomicLoad8U = refl
there I32AtomicLoad16U = refl
there I64AtomicLoad8U = refl
there I64AtomicLoad16U = refl
there I64AtomicLoad32U = refl
there I32AtomicStore = refl
there I64AtomicStore = refl
there I32AtomicStore8 = refl
there I32AtomicStore16 = refl
there I64AtomicStore8 = refl
there I64AtomicStore16 = refl
there I64AtomicStore32 = refl
there I32AtomicRmwAdd = refl
there I64AtomicRmwAdd = refl
there I32AtomicRmw8AddU = refl
there I32AtomicRmw16AddU = refl
there I64AtomicRmw8AddU = refl
there I64AtomicRmw16AddU = refl
there I64AtomicRmw32AddU = refl
there I32AtomicRmwSub = refl
there I64AtomicRmwSub = refl
there I32AtomicRmw8SubU = refl
there I32AtomicRmw16SubU = refl
there I64AtomicRmw8SubU = refl
there I64AtomicRmw16SubU = refl
there I64AtomicRmw32SubU = refl
there I32AtomicRmwAnd = refl
there I64AtomicRmwAnd = refl
there I32AtomicRmw8AndU = refl
there I32AtomicRmw16AndU = refl
there I64AtomicRmw8AndU = refl
there I64AtomicRmw16AndU = refl
there I64AtomicRmw32AndU = refl
there I32AtomicRmwOr = refl
there I64AtomicRmwOr = refl
there I32AtomicRmw8OrU = refl
there I32AtomicRmw16OrU = refl
there I64AtomicRmw8OrU = refl
there I64AtomicRmw16OrU = refl
there I64AtomicRmw32OrU = refl
there I32AtomicRmwXor = refl
there I64AtomicRmwXor = refl
there I32AtomicRmw8XorU = refl
there I32AtomicRmw16XorU = refl
there I64AtomicRmw8XorU = refl
there I64AtomicRmw16XorU = refl
there I64AtomicRmw32XorU = refl
there I32AtomicRmwXchg = refl
there I64AtomicRmwXchg = refl
there I32AtomicRmw8XchgU = refl
there I32AtomicRmw16XchgU = refl
there I64AtomicRmw8XchgU = refl
there I64AtomicRmw16XchgU = refl
there I64AtomicRmw32XchgU = refl
there I32AtomicRmwCmpxchg = refl
there I64AtomicRmwCmpxchg = refl
there I32AtomicRmw8CmpxchgU = refl
there I32AtomicRmw16CmpxchgU = refl
there I64AtomicRmw8CmpxchgU = refl
there I64AtomicRmw16CmpxchgU = refl
there I64AtomicRmw32CmpxchgU = refl

pub table : IsTableOf operator_code operator_from
unfolding operators operator_from
table = table_of operator_code operators refl there
