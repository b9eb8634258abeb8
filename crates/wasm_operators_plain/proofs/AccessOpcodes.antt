-- The table of loads and stores says what their own opcodes say.
use Rattle.std.proofs.Common.{◌≡◌, refl, Some}
use Rattle.wasm_operators_plain.specs.Opcodes.{counted_from, IsTableOf}
use Rattle.wasm_operators_plain.proofs.NumericOpcodes.{table_of}
use Rattle.wasm_operators_plain.specs.Memories.{access_opcode, access_from, accesses}
use Rattle.wasm_operators_plain.specs.declared.memories.MemoryOperator.{MemoryOperator}
use Rattle.wasm_operators_plain.specs.declared.memories.MemoryOperator.TheVariants.{I32Load, I64Load, F32Load, F64Load, I32Load8S, I32Load8U, I32Load16S, I32Load16U, I64Load8S, I64Load8U, I64Load16S, I64Load16U, I64Load32S, I64Load32U, I32Store, I64Store, F32Store, F64Store, I32Store8, I32Store16, I64Store8, I64Store16, I64Store32}

access_there : (op : MemoryOperator) → counted_from 0x28 accesses (access_opcode op) ≡ Some op
unfolding accesses
access_there I32Load = refl
access_there I64Load = refl
access_there F32Load = refl
access_there F64Load = refl
access_there I32Load8S = refl
access_there I32Load8U = refl
access_there I32Load16S = refl
access_there I32Load16U = refl
access_there I64Load8S = refl
access_there I64Load8U = refl
access_there I64Load16S = refl
access_there I64Load16U = refl
access_there I64Load32S = refl
access_there I64Load32U = refl
access_there I32Store = refl
access_there I64Store = refl
access_there F32Store = refl
access_there F64Store = refl
access_there I32Store8 = refl
access_there I32Store16 = refl
access_there I64Store8 = refl
access_there I64Store16 = refl
access_there I64Store32 = refl

pub access-table : IsTableOf access_opcode access_from
unfolding accesses access_from
access-table = table_of access_opcode 0x28 accesses refl access_there
