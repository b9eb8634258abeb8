-- Shared-Everything Threads, Binary Format, Instructions: the atomic accesses to globals, tables, structures and arrays, and `pause`, by
-- their numbers.
use Rattle.std.specs.Prelude.{ℕ, List, [], ◌∷◌, Option, Some, None}
use Rattle.wasm_operators_vector.specs.Tables.{entry}
use Rattle.wasm_operators_atomic.specs.declared.shared.SharedAtomicOperator.{SharedAtomicOperator}
use Rattle.wasm_operators_atomic.specs.declared.shared.SharedAtomicOperator.TheVariants.{Pause, GlobalAtomicGet, GlobalAtomicSet, GlobalAtomicRmwAdd, GlobalAtomicRmwSub, GlobalAtomicRmwAnd, GlobalAtomicRmwOr, GlobalAtomicRmwXor, GlobalAtomicRmwXchg, GlobalAtomicRmwCmpxchg, TableAtomicGet, TableAtomicSet, TableAtomicRmwXchg, TableAtomicRmwCmpxchg, StructAtomicGet, StructAtomicGetS, StructAtomicGetU, StructAtomicSet, StructAtomicRmwAdd, StructAtomicRmwSub, StructAtomicRmwAnd, StructAtomicRmwOr, StructAtomicRmwXor, StructAtomicRmwXchg, StructAtomicRmwCmpxchg, ArrayAtomicGet, ArrayAtomicGetS, ArrayAtomicGetU, ArrayAtomicSet, ArrayAtomicRmwAdd, ArrayAtomicRmwSub, ArrayAtomicRmwAnd, ArrayAtomicRmwOr, ArrayAtomicRmwXor, ArrayAtomicRmwXchg, ArrayAtomicRmwCmpxchg}

-- the number of an operator, which stands behind the prefix fe
abbrev pub shared_code : SharedAtomicOperator → ℕ
shared_code Pause = 4
shared_code GlobalAtomicGet = 79
shared_code GlobalAtomicSet = 80
shared_code GlobalAtomicRmwAdd = 81
shared_code GlobalAtomicRmwSub = 82
shared_code GlobalAtomicRmwAnd = 83
shared_code GlobalAtomicRmwOr = 84
shared_code GlobalAtomicRmwXor = 85
shared_code GlobalAtomicRmwXchg = 86
shared_code GlobalAtomicRmwCmpxchg = 87
shared_code TableAtomicGet = 88
shared_code TableAtomicSet = 89
shared_code TableAtomicRmwXchg = 90
shared_code TableAtomicRmwCmpxchg = 91
shared_code StructAtomicGet = 92
shared_code StructAtomicGetS = 93
shared_code StructAtomicGetU = 94
shared_code StructAtomicSet = 95
shared_code StructAtomicRmwAdd = 96
shared_code StructAtomicRmwSub = 97
shared_code StructAtomicRmwAnd = 98
shared_code StructAtomicRmwOr = 99
shared_code StructAtomicRmwXor = 100
shared_code StructAtomicRmwXchg = 101
shared_code StructAtomicRmwCmpxchg = 102
shared_code ArrayAtomicGet = 103
shared_code ArrayAtomicGetS = 104
shared_code ArrayAtomicGetU = 105
shared_code ArrayAtomicSet = 106
shared_code ArrayAtomicRmwAdd = 107
shared_code ArrayAtomicRmwSub = 108
shared_code ArrayAtomicRmwAnd = 109
shared_code ArrayAtomicRmwOr = 110
shared_code ArrayAtomicRmwXor = 111
shared_code ArrayAtomicRmwXchg = 112
shared_code ArrayAtomicRmwCmpxchg = 113

-- the operators in the order of their numbers
unfoldable pub shared_operators : List (Option SharedAtomicOperator)
shared_operators =
    None ∷ None ∷ None ∷ None ∷ Some Pause ∷ None ∷ None ∷ None ∷ None ∷ None ∷ None ∷ None ∷ None ∷ None ∷ None ∷ None ∷ None ∷ None ∷ None ∷ None ∷
    None ∷ None ∷ None ∷ None ∷ None ∷ None ∷ None ∷ None ∷ None ∷ None ∷ None ∷ None ∷ None ∷ None ∷ None ∷ None ∷ None ∷ None ∷ None ∷ None ∷ None ∷
    None ∷ None ∷ None ∷ None ∷ None ∷ None ∷ None ∷ None ∷ None ∷ None ∷ None ∷ None ∷ None ∷ None ∷ None ∷ None ∷ None ∷ None ∷ None ∷ None ∷ None ∷
    None ∷ None ∷ None ∷ None ∷ None ∷ None ∷ None ∷ None ∷ None ∷ None ∷ None ∷ None ∷ None ∷ None ∷ None ∷ None ∷ None ∷ Some GlobalAtomicGet ∷
    Some GlobalAtomicSet ∷ Some GlobalAtomicRmwAdd ∷ Some GlobalAtomicRmwSub ∷ Some GlobalAtomicRmwAnd ∷ Some GlobalAtomicRmwOr ∷
    Some GlobalAtomicRmwXor ∷ Some GlobalAtomicRmwXchg ∷ Some GlobalAtomicRmwCmpxchg ∷ Some TableAtomicGet ∷ Some TableAtomicSet ∷
    Some TableAtomicRmwXchg ∷ Some TableAtomicRmwCmpxchg ∷ Some StructAtomicGet ∷ Some StructAtomicGetS ∷ Some StructAtomicGetU ∷ Some StructAtomicSet ∷
    Some StructAtomicRmwAdd ∷ Some StructAtomicRmwSub ∷ Some StructAtomicRmwAnd ∷ Some StructAtomicRmwOr ∷ Some StructAtomicRmwXor ∷
    Some StructAtomicRmwXchg ∷ Some StructAtomicRmwCmpxchg ∷ Some ArrayAtomicGet ∷ Some ArrayAtomicGetS ∷ Some ArrayAtomicGetU ∷ Some ArrayAtomicSet ∷
    Some ArrayAtomicRmwAdd ∷ Some ArrayAtomicRmwSub ∷ Some ArrayAtomicRmwAnd ∷ Some ArrayAtomicRmwOr ∷ Some ArrayAtomicRmwXor ∷ Some ArrayAtomicRmwXchg ∷
    Some ArrayAtomicRmwCmpxchg ∷
    []

-- the operator of a number
unfoldable pub shared_operator_from : ℕ → Option SharedAtomicOperator
shared_operator_from = entry shared_operators
