-- Threads, Binary Format, Instructions, Atomic Memory Instructions: the operators by their numbers.
use Rattle.std.specs.Prelude.{ℕ, List, [], ◌∷◌, Option, Some, None}
use Rattle.wasm_operators_vector.specs.Tables.{entry}
use Rattle.wasm_operators_atomic.specs.declared.operators.AtomicOperator.{AtomicOperator}
use Rattle.wasm_operators_atomic.specs.declared.operators.AtomicOperator.TheVariants.{MemoryAtomicNotify, MemoryAtomicWait32, MemoryAtomicWait64, AtomicFence, I32AtomicLoad, I64AtomicLoad, I32AtomicLoad8U, I32AtomicLoad16U, I64AtomicLoad8U, I64AtomicLoad16U, I64AtomicLoad32U, I32AtomicStore, I64AtomicStore, I32AtomicStore8, I32AtomicStore16, I64AtomicStore8, I64AtomicStore16, I64AtomicStore32, I32AtomicRmwAdd, I64AtomicRmwAdd, I32AtomicRmw8AddU, I32AtomicRmw16AddU, I64AtomicRmw8AddU, I64AtomicRmw16AddU, I64AtomicRmw32AddU, I32AtomicRmwSub, I64AtomicRmwSub, I32AtomicRmw8SubU, I32AtomicRmw16SubU, I64AtomicRmw8SubU, I64AtomicRmw16SubU, I64AtomicRmw32SubU, I32AtomicRmwAnd, I64AtomicRmwAnd, I32AtomicRmw8AndU, I32AtomicRmw16AndU, I64AtomicRmw8AndU, I64AtomicRmw16AndU, I64AtomicRmw32AndU, I32AtomicRmwOr, I64AtomicRmwOr, I32AtomicRmw8OrU, I32AtomicRmw16OrU, I64AtomicRmw8OrU, I64AtomicRmw16OrU, I64AtomicRmw32OrU, I32AtomicRmwXor, I64AtomicRmwXor, I32AtomicRmw8XorU, I32AtomicRmw16XorU, I64AtomicRmw8XorU, I64AtomicRmw16XorU, I64AtomicRmw32XorU, I32AtomicRmwXchg, I64AtomicRmwXchg, I32AtomicRmw8XchgU, I32AtomicRmw16XchgU, I64AtomicRmw8XchgU, I64AtomicRmw16XchgU, I64AtomicRmw32XchgU, I32AtomicRmwCmpxchg, I64AtomicRmwCmpxchg, I32AtomicRmw8CmpxchgU, I32AtomicRmw16CmpxchgU, I64AtomicRmw8CmpxchgU, I64AtomicRmw16CmpxchgU, I64AtomicRmw32CmpxchgU}

-- the number of an operator, which stands behind the prefix fe
abbrev pub operator_code : AtomicOperator → ℕ
operator_code MemoryAtomicNotify = 0
operator_code MemoryAtomicWait32 = 1
operator_code MemoryAtomicWait64 = 2
operator_code AtomicFence = 3
operator_code I32AtomicLoad = 16
operator_code I64AtomicLoad = 17
operator_code I32AtomicLoad8U = 18
operator_code I32AtomicLoad16U = 19
operator_code I64AtomicLoad8U = 20
operator_code I64AtomicLoad16U = 21
operator_code I64AtomicLoad32U = 22
operator_code I32AtomicStore = 23
operator_code I64AtomicStore = 24
operator_code I32AtomicStore8 = 25
operator_code I32AtomicStore16 = 26
operator_code I64AtomicStore8 = 27
operator_code I64AtomicStore16 = 28
operator_code I64AtomicStore32 = 29
operator_code I32AtomicRmwAdd = 30
operator_code I64AtomicRmwAdd = 31
operator_code I32AtomicRmw8AddU = 32
operator_code I32AtomicRmw16AddU = 33
operator_code I64AtomicRmw8AddU = 34
operator_code I64AtomicRmw16AddU = 35
operator_code I64AtomicRmw32AddU = 36
operator_code I32AtomicRmwSub = 37
operator_code I64AtomicRmwSub = 38
operator_code I32AtomicRmw8SubU = 39
operator_code I32AtomicRmw16SubU = 40
operator_code I64AtomicRmw8SubU = 41
operator_code I64AtomicRmw16SubU = 42
operator_code I64AtomicRmw32SubU = 43
operator_code I32AtomicRmwAnd = 44
operator_code I64AtomicRmwAnd = 45
operator_code I32AtomicRmw8AndU = 46
operator_code I32AtomicRmw16AndU = 47
operator_code I64AtomicRmw8AndU = 48
operator_code I64AtomicRmw16AndU = 49
operator_code I64AtomicRmw32AndU = 50
operator_code I32AtomicRmwOr = 51
operator_code I64AtomicRmwOr = 52
operator_code I32AtomicRmw8OrU = 53
operator_code I32AtomicRmw16OrU = 54
operator_code I64AtomicRmw8OrU = 55
operator_code I64AtomicRmw16OrU = 56
operator_code I64AtomicRmw32OrU = 57
operator_code I32AtomicRmwXor = 58
operator_code I64AtomicRmwXor = 59
operator_code I32AtomicRmw8XorU = 60
operator_code I32AtomicRmw16XorU = 61
operator_code I64AtomicRmw8XorU = 62
operator_code I64AtomicRmw16XorU = 63
operator_code I64AtomicRmw32XorU = 64
operator_code I32AtomicRmwXchg = 65
operator_code I64AtomicRmwXchg = 66
operator_code I32AtomicRmw8XchgU = 67
operator_code I32AtomicRmw16XchgU = 68
operator_code I64AtomicRmw8XchgU = 69
operator_code I64AtomicRmw16XchgU = 70
operator_code I64AtomicRmw32XchgU = 71
operator_code I32AtomicRmwCmpxchg = 72
operator_code I64AtomicRmwCmpxchg = 73
operator_code I32AtomicRmw8CmpxchgU = 74
operator_code I32AtomicRmw16CmpxchgU = 75
operator_code I64AtomicRmw8CmpxchgU = 76
operator_code I64AtomicRmw16CmpxchgU = 77
operator_code I64AtomicRmw32CmpxchgU = 78

-- the operators in the order of their numbers
unfoldable pub operators : List (Option AtomicOperator)
operators =
    Some MemoryAtomicNotify ∷ Some MemoryAtomicWait32 ∷ Some MemoryAtomicWait64 ∷ Some AtomicFence ∷ None ∷ None ∷ None ∷ None ∷ None ∷ None ∷ None ∷ None ∷
    None ∷ None ∷ None ∷ None ∷ Some I32AtomicLoad ∷ Some I64AtomicLoad ∷ Some I32AtomicLoad8U ∷ Some I32AtomicLoad16U ∷ Some I64AtomicLoad8U ∷
    Some I64AtomicLoad16U ∷ Some I64AtomicLoad32U ∷ Some I32AtomicStore ∷ Some I64AtomicStore ∷ Some I32AtomicStore8 ∷ Some I32AtomicStore16 ∷
    Some I64AtomicStore8 ∷ Some I64AtomicStore16 ∷ Some I64AtomicStore32 ∷ Some I32AtomicRmwAdd ∷ Some I64AtomicRmwAdd ∷ Some I32AtomicRmw8AddU ∷
    Some I32AtomicRmw16AddU ∷ Some I64AtomicRmw8AddU ∷ Some I64AtomicRmw16AddU ∷ Some I64AtomicRmw32AddU ∷ Some I32AtomicRmwSub ∷ Some I64AtomicRmwSub ∷
    Some I32AtomicRmw8SubU ∷ Some I32AtomicRmw16SubU ∷ Some I64AtomicRmw8SubU ∷ Some I64AtomicRmw16SubU ∷ Some I64AtomicRmw32SubU ∷ Some I32AtomicRmwAnd ∷
    Some I64AtomicRmwAnd ∷ Some I32AtomicRmw8AndU ∷ Some I32AtomicRmw16AndU ∷ Some I64AtomicRmw8AndU ∷ Some I64AtomicRmw16AndU ∷ Some I64AtomicRmw32AndU ∷
    Some I32AtomicRmwOr ∷ Some I64AtomicRmwOr ∷ Some I32AtomicRmw8OrU ∷ Some I32AtomicRmw16OrU ∷ Some I64AtomicRmw8OrU ∷ Some I64AtomicRmw16OrU ∷
    Some I64AtomicRmw32OrU ∷ Some I32AtomicRmwXor ∷ Some I64AtomicRmwXor ∷ Some I32AtomicRmw8XorU ∷ Some I32AtomicRmw16XorU ∷ Some I64AtomicRmw8XorU ∷
    Some I64AtomicRmw16XorU ∷ Some I64AtomicRmw32XorU ∷ Some I32AtomicRmwXchg ∷ Some I64AtomicRmwXchg ∷ Some I32AtomicRmw8XchgU ∷ Some I32AtomicRmw16XchgU ∷
    Some I64AtomicRmw8XchgU ∷ Some I64AtomicRmw16XchgU ∷ Some I64AtomicRmw32XchgU ∷ Some I32AtomicRmwCmpxchg ∷ Some I64AtomicRmwCmpxchg ∷
    Some I32AtomicRmw8CmpxchgU ∷ Some I32AtomicRmw16CmpxchgU ∷ Some I64AtomicRmw8CmpxchgU ∷ Some I64AtomicRmw16CmpxchgU ∷ Some I64AtomicRmw32CmpxchgU ∷
    []

-- the operator of a number
unfoldable pub operator_from : ℕ → Option AtomicOperator
operator_from = entry operators
