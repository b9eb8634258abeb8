-- The table of shared atomic operators says what their own numbers say.
use Rattle.std.proofs.Common.{◌≡◌, refl, Some}
use Rattle.wasm_operators_vector.specs.Tables.{entry, IsTableOf}
use Rattle.wasm_operators_vector.proofs.Entries.{table_of}
use Rattle.wasm_operators_atomic.specs.SharedCodes.{shared_code, shared_operator_from, shared_operators}
use Rattle.wasm_operators_atomic.specs.declared.shared.SharedAtomicOperator.{SharedAtomicOperator}
use Rattle.wasm_operators_atomic.specs.declared.shared.SharedAtomicOperator.TheVariants.{Pause, GlobalAtomicGet, GlobalAtomicSet, GlobalAtomicRmwAdd, GlobalAtomicRmwSub, GlobalAtomicRmwAnd, GlobalAtomicRmwOr, GlobalAtomicRmwXor, GlobalAtomicRmwXchg, GlobalAtomicRmwCmpxchg, TableAtomicGet, TableAtomicSet, TableAtomicRmwXchg, TableAtomicRmwCmpxchg, StructAtomicGet, StructAtomicGetS, StructAtomicGetU, StructAtomicSet, StructAtomicRmwAdd, StructAtomicRmwSub, StructAtomicRmwAnd, StructAtomicRmwOr, StructAtomicRmwXor, StructAtomicRmwXchg, StructAtomicRmwCmpxchg, ArrayAtomicGet, ArrayAtomicGetS, ArrayAtomicGetU, ArrayAtomicSet, ArrayAtomicRmwAdd, ArrayAtomicRmwSub, ArrayAtomicRmwAnd, ArrayAtomicRmwOr, ArrayAtomicRmwXor, ArrayAtomicRmwXchg, ArrayAtomicRmwCmpxchg}

there : (op : SharedAtomicOperator) → entry shared_operators (shared_code op) ≡ Some op
unfolding shared_operators
there Pause = refl
there GlobalAtomicGet = refl
there GlobalAtomicSet = refl
there GlobalAtomicRmwAdd = refl
there GlobalAtomicRmwSub = refl
there GlobalAtomicRmwAnd = refl
there GlobalAtomicRmwOr = refl
there GlobalAtomicRmwXor = refl
there GlobalAtomicRmwXchg = refl
there GlobalAtomicRmwCmpxchg = refl
there TableAtomicGet = refl
there TableAtomicSet = refl
there TableAtomicRmwXchg = refl
there TableAtomicRmwCmpxchg = refl
there StructAtomicGet = refl
there StructAtomicGetS = refl
there StructAtomicGetU = refl
there StructAtomicSet = refl
there StructAtomicRmwAdd = refl
there StructAtomicRmwSub = refl
there StructAtomicRmwAnd = refl
there StructAtomicRmwOr = refl
there StructAtomicRmwXor = refl
there StructAtomicRmwXchg = refl
there StructAtomicRmwCmpxchg = refl
there ArrayAtomicGet = refl
there ArrayAtomicGetS = refl
there ArrayAtomicGetU = refl
there ArrayAtomicSet = refl
there ArrayAtomicRmwAdd = refl
there ArrayAtomicRmwSub = refl
there ArrayAtomicRmwAnd = refl
there ArrayAtomicRmwOr = refl
there ArrayAtomicRmwXor = refl
there ArrayAtomicRmwXchg = refl
there ArrayAtomicRmwCmpxchg = refl

pub shared_table : IsTableOf shared_code shared_operator_from
unfolding shared_operators shared_operator_from
shared_table = table_of shared_code shared_operators refl there
