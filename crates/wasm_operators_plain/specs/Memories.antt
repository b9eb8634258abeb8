-- Core Specification 3.0, Binary Format, Instructions, Memory Instructions; and `memory.discard` of the memory-control proposal.
use Rattle.std.specs.Prelude.{ℕ, ◌-◌, ◌==◌, nat_lt, if◌then◌else◌, List, [], ◌∷◌, Option, None}
use Rattle.std.specs.Option.{option_map, option_and_then}
use Rattle.wasm_readers.specs.WasmSpec.Values.{u32_at, u64_at}
use Rattle.wasm_operators_plain.specs.Opcodes.{counted_from}
use Rattle.wasm_operators_plain.specs.Immediates.{one_index, two_indices}
use Rattle.wasm_operators_plain.specs.declared.memories.MemoryOperator.{MemoryOperator}
use Rattle.wasm_operators_plain.specs.declared.memories.MemoryOperator.TheVariants.{I32Load, I64Load, F32Load, F64Load, I32Load8S, I32Load8U, I32Load16S, I32Load16U, I64Load8S, I64Load8U, I64Load16S, I64Load16U, I64Load32S, I64Load32U, I32Store, I64Store, F32Store, F64Store, I32Store8, I32Store16, I64Store8, I64Store16, I64Store32}
use Rattle.wasm_operators_plain.specs.declared.memories.MemArg.{MemArg}
use Rattle.wasm_operators_plain.specs.declared.memories.BulkMemoryOperator.{BulkMemoryOperator}
use Rattle.wasm_operators_plain.specs.declared.memories.BulkMemoryOperator.TheVariants.{MemorySize, MemoryGrow, MemoryInit, DataDrop, MemoryCopy, MemoryFill, MemoryDiscard}

-- the byte of a load or a store
abbrev pub access_opcode : MemoryOperator → ℕ
access_opcode I32Load = 0x28
access_opcode I64Load = 0x29
access_opcode F32Load = 0x2a
access_opcode F64Load = 0x2b
access_opcode I32Load8S = 0x2c
access_opcode I32Load8U = 0x2d
access_opcode I32Load16S = 0x2e
access_opcode I32Load16U = 0x2f
access_opcode I64Load8S = 0x30
access_opcode I64Load8U = 0x31
access_opcode I64Load16S = 0x32
access_opcode I64Load16U = 0x33
access_opcode I64Load32S = 0x34
access_opcode I64Load32U = 0x35
access_opcode I32Store = 0x36
access_opcode I64Store = 0x37
access_opcode F32Store = 0x38
access_opcode F64Store = 0x39
access_opcode I32Store8 = 0x3a
access_opcode I32Store16 = 0x3b
access_opcode I64Store8 = 0x3c
access_opcode I64Store16 = 0x3d
access_opcode I64Store32 = 0x3e

-- the loads and stores in the order of their bytes
unfoldable pub accesses : List MemoryOperator
accesses =
    I32Load ∷ I64Load ∷ F32Load ∷ F64Load ∷
    I32Load8S ∷ I32Load8U ∷ I32Load16S ∷ I32Load16U ∷
    I64Load8S ∷ I64Load8U ∷ I64Load16S ∷ I64Load16U ∷ I64Load32S ∷ I64Load32U ∷
    I32Store ∷ I64Store ∷ F32Store ∷ F64Store ∷
    I32Store8 ∷ I32Store16 ∷ I64Store8 ∷ I64Store16 ∷ I64Store32 ∷ []

-- the load or store of a byte; the first is 28
unfoldable pub access_from : ℕ → Option MemoryOperator
access_from = counted_from 0x28 accesses

-- the offset of a memory argument
abbrev pub memarg_behind : ℕ → ℕ → List ℕ → Option (MemArg × List ℕ)
memarg_behind align memory bytes = option_map (λ m. (record { align = align; offset = m.0; memory = memory }, m.1)) (u64_at bytes)

-- An alignment below 64 and an offset are those of memory 0. With 64 added to the alignment the index of the memory stands between them.
abbrev pub memarg_from : ℕ → List ℕ → Option (MemArg × List ℕ)
memarg_from n bytes =
    if nat_lt n 64 then memarg_behind n 0 bytes
    else (if nat_lt n 128 then option_and_then (λ x. memarg_behind (n - 64) x.0 x.1) (u32_at bytes)
    else None)

unfoldable pub memarg_at : List ℕ → Option (MemArg × List ℕ)
memarg_at bytes = option_and_then (λ n. memarg_from n.0 n.1) (u32_at bytes)

-- the size of a memory and its growth, by their byte
unfoldable pub memory_size_from : ℕ → List ℕ → Option (BulkMemoryOperator × List ℕ)
memory_size_from b bytes =
    if b == 0x3f then one_index MemorySize bytes
    else (if b == 0x40 then one_index MemoryGrow bytes
    else None)

-- the other instructions on whole memories and on data segments, by their number behind the prefix fc
unfoldable pub memory_from : ℕ → List ℕ → Option (BulkMemoryOperator × List ℕ)
memory_from n bytes =
    if n == 8 then two_indices MemoryInit bytes
    else (if n == 9 then one_index DataDrop bytes
    else (if n == 10 then two_indices MemoryCopy bytes
    else (if n == 11 then one_index MemoryFill bytes
    else (if n == 18 then one_index MemoryDiscard bytes
    else None))))

-- Validation, Instructions, Memory Instructions: the logarithm to base 2 of the bytes that a load or a store accesses, which its
-- alignment may not pass
abbrev pub max_align_of : MemoryOperator → ℕ
max_align_of I32Load = 2
max_align_of I64Load = 3
max_align_of F32Load = 2
max_align_of F64Load = 3
max_align_of I32Load8S = 0
max_align_of I32Load8U = 0
max_align_of I32Load16S = 1
max_align_of I32Load16U = 1
max_align_of I64Load8S = 0
max_align_of I64Load8U = 0
max_align_of I64Load16S = 1
max_align_of I64Load16U = 1
max_align_of I64Load32S = 2
max_align_of I64Load32U = 2
max_align_of I32Store = 2
max_align_of I64Store = 3
max_align_of F32Store = 2
max_align_of F64Store = 3
max_align_of I32Store8 = 0
max_align_of I32Store16 = 1
max_align_of I64Store8 = 0
max_align_of I64Store16 = 1
max_align_of I64Store32 = 2
