-- What an instruction of these families is read from stands at the front of the bytes: what is left is a rest of them, and bytes
-- behind them change only that.
use Rattle.std.proofs.Common.{ℕ, zero, suc, ◌-◌, nat_lt, ◌==◌, List, [], ◌∷◌, ◌++◌}
use Rattle.wasm_readers.specs.WasmSpec.Values.{u32_at, u64_at}
use Rattle.wasm_readers.proofs.WasmSpec.Front.{Reads, reads_none, reads_here, reads_behind, reads_weaken, reads_if, reads_map, reads_then, unsigned-reads, signed-reads}
use Rattle.wasm_operators_plain.specs.Immediates.{one_index, two_indices}
use Rattle.wasm_operators_plain.specs.Calls.{call_from}
use Rattle.wasm_operators_plain.specs.Variables.{variable_from}
use Rattle.wasm_operators_plain.specs.Tables.{table_access_from, table_from}
use Rattle.wasm_operators_plain.specs.Memories.{memarg_behind, memarg_at, memory_size_from, memory_from}
use Rattle.wasm_operators_plain.specs.Constants.{little_endian_at, bits_32_at, bits_64_at, bits_128_at, constant_from, vector_from}
use Rattle.wasm_operators_plain.specs.Structs.{struct_from}
use Rattle.wasm_operators_plain.specs.Arrays.{array_from}

module _ {more : List ℕ} where
  -- numbers
  pub u32-reads : (bytes : List ℕ) → Reads more 1 bytes (u32_at bytes) (u32_at (bytes ++ more))
  u32-reads bytes = unsigned-reads 32 bytes

  u64-reads : (bytes : List ℕ) → Reads more 1 bytes (u64_at bytes) (u64_at (bytes ++ more))
  u64-reads bytes = unsigned-reads 64 bytes

  pub one_index-reads : {X : Type 0} (op : ℕ → X) (bytes : List ℕ) → Reads more 0 bytes (one_index op bytes) (one_index op (bytes ++ more))
  one_index-reads op bytes = reads_weaken (reads_map _ (u32-reads bytes))

  pub two_indices-reads : {X : Type 0} (op : ℕ → ℕ → X) (bytes : List ℕ) → Reads more 0 bytes (two_indices op bytes) (two_indices op (bytes ++ more))
  two_indices-reads op bytes = reads_weaken (reads_then _ (u32-reads bytes) (λ i. reads_map _ (u32-reads i.1)))

  -- memory arguments
  memarg_behind-reads : (align memory : ℕ) (bytes : List ℕ) → Reads more 1 bytes (memarg_behind align memory bytes) (memarg_behind align memory (bytes ++ more))
  memarg_behind-reads align memory bytes = reads_map _ (u64-reads bytes)

  pub memarg-reads : (bytes : List ℕ) → Reads more 1 bytes (memarg_at bytes) (memarg_at (bytes ++ more))
  unfolding memarg_at
  memarg-reads bytes =
      reads_then _ (u32-reads bytes)
      (λ n. reads_if (nat_lt n.0 64) (memarg_behind-reads n.0 0 n.1)
      (reads_if (nat_lt n.0 128) (reads_then _ (u32-reads n.1) (λ x. memarg_behind-reads (n.0 - 64) x.0 x.1)) reads_none))

  -- bits
  little_endian-reads : (n : ℕ) (bytes : List ℕ) → Reads more 0 bytes (little_endian_at n bytes) (little_endian_at n (bytes ++ more))
  little_endian-reads zero bytes = reads_here
  little_endian-reads (suc n) [] = reads_none
  little_endian-reads (suc n) (b ∷ bytes) = reads_weaken (reads_behind (reads_map _ (little_endian-reads n bytes)))

  bits_32-reads : (bytes : List ℕ) → Reads more 0 bytes (bits_32_at bytes) (bits_32_at (bytes ++ more))
  unfolding bits_32_at
  bits_32-reads bytes = little_endian-reads 4 bytes

  bits_64-reads : (bytes : List ℕ) → Reads more 0 bytes (bits_64_at bytes) (bits_64_at (bytes ++ more))
  unfolding bits_64_at
  bits_64-reads bytes = reads_then _ (bits_32-reads bytes) (λ low. reads_map _ (bits_32-reads low.1))

  pub bits_128-reads : (bytes : List ℕ) → Reads more 0 bytes (bits_128_at bytes) (bits_128_at (bytes ++ more))
  unfolding bits_128_at
  bits_128-reads bytes = reads_then _ (bits_64-reads bytes) (λ low. reads_map _ (bits_64-reads low.1))

  -- families without types
  pub call-reads : (b : ℕ) (bytes : List ℕ) → Reads more 0 bytes (call_from b bytes) (call_from b (bytes ++ more))
  unfolding call_from
  call-reads b bytes =
      reads_if (b == 0x10) (one_index-reads _ bytes)
      (reads_if (b == 0x11) (two_indices-reads _ bytes)
      (reads_if (b == 0x12) (one_index-reads _ bytes)
      (reads_if (b == 0x13) (two_indices-reads _ bytes)
      (reads_if (b == 0x14) (one_index-reads _ bytes)
      (reads_if (b == 0x15) (one_index-reads _ bytes)
      reads_none)))))

  pub variable-reads : (b : ℕ) (bytes : List ℕ) → Reads more 0 bytes (variable_from b bytes) (variable_from b (bytes ++ more))
  unfolding variable_from
  variable-reads b bytes =
      reads_if (b == 0x20) (one_index-reads _ bytes)
      (reads_if (b == 0x21) (one_index-reads _ bytes)
      (reads_if (b == 0x22) (one_index-reads _ bytes)
      (reads_if (b == 0x23) (one_index-reads _ bytes)
      (reads_if (b == 0x24) (one_index-reads _ bytes)
      reads_none))))

  pub table_access-reads : (b : ℕ) (bytes : List ℕ) → Reads more 0 bytes (table_access_from b bytes) (table_access_from b (bytes ++ more))
  unfolding table_access_from
  table_access-reads b bytes =
      reads_if (b == 0x25) (one_index-reads _ bytes)
      (reads_if (b == 0x26) (one_index-reads _ bytes)
      reads_none)

  pub table-reads : (n : ℕ) (bytes : List ℕ) → Reads more 0 bytes (table_from n bytes) (table_from n (bytes ++ more))
  unfolding table_from
  table-reads n bytes =
      reads_if (n == 12) (two_indices-reads _ bytes)
      (reads_if (n == 13) (one_index-reads _ bytes)
      (reads_if (n == 14) (two_indices-reads _ bytes)
      (reads_if (n == 15) (one_index-reads _ bytes)
      (reads_if (n == 16) (one_index-reads _ bytes)
      (reads_if (n == 17) (one_index-reads _ bytes)
      reads_none)))))

  pub memory_size-reads : (b : ℕ) (bytes : List ℕ) → Reads more 0 bytes (memory_size_from b bytes) (memory_size_from b (bytes ++ more))
  unfolding memory_size_from
  memory_size-reads b bytes =
      reads_if (b == 0x3f) (one_index-reads _ bytes)
      (reads_if (b == 0x40) (one_index-reads _ bytes)
      reads_none)

  pub memory-reads : (n : ℕ) (bytes : List ℕ) → Reads more 0 bytes (memory_from n bytes) (memory_from n (bytes ++ more))
  unfolding memory_from
  memory-reads n bytes =
      reads_if (n == 8) (two_indices-reads _ bytes)
      (reads_if (n == 9) (one_index-reads _ bytes)
      (reads_if (n == 10) (two_indices-reads _ bytes)
      (reads_if (n == 11) (one_index-reads _ bytes)
      (reads_if (n == 18) (one_index-reads _ bytes)
      reads_none))))

  pub constant-reads : (b : ℕ) (bytes : List ℕ) → Reads more 0 bytes (constant_from b bytes) (constant_from b (bytes ++ more))
  unfolding constant_from
  constant-reads b bytes =
      reads_if (b == 0x41) (reads_weaken (reads_map _ (signed-reads 32 bytes)))
      (reads_if (b == 0x42) (reads_weaken (reads_map _ (signed-reads 64 bytes)))
      (reads_if (b == 0x43) (reads_map _ (bits_32-reads bytes))
      (reads_if (b == 0x44) (reads_map _ (bits_64-reads bytes))
      reads_none)))

  pub vector-reads : (n : ℕ) (bytes : List ℕ) → Reads more 0 bytes (vector_from n bytes) (vector_from n (bytes ++ more))
  unfolding vector_from
  vector-reads n bytes = reads_if (n == 12) (reads_map _ (bits_128-reads bytes)) reads_none

  pub struct-reads : (n : ℕ) (bytes : List ℕ) → Reads more 0 bytes (struct_from n bytes) (struct_from n (bytes ++ more))
  unfolding struct_from
  struct-reads n bytes =
      reads_if (n == 0) (one_index-reads _ bytes)
      (reads_if (n == 1) (one_index-reads _ bytes)
      (reads_if (n == 2) (two_indices-reads _ bytes)
      (reads_if (n == 3) (two_indices-reads _ bytes)
      (reads_if (n == 4) (two_indices-reads _ bytes)
      (reads_if (n == 5) (two_indices-reads _ bytes)
      (reads_if (n == 32) (one_index-reads _ bytes)
      (reads_if (n == 33) (one_index-reads _ bytes)
      reads_none)))))))

  pub array-reads : (n : ℕ) (bytes : List ℕ) → Reads more 0 bytes (array_from n bytes) (array_from n (bytes ++ more))
  unfolding array_from
  array-reads n bytes =
      reads_if (n == 6) (one_index-reads _ bytes)
      (reads_if (n == 7) (one_index-reads _ bytes)
      (reads_if (n == 8) (two_indices-reads _ bytes)
      (reads_if (n == 9) (two_indices-reads _ bytes)
      (reads_if (n == 10) (two_indices-reads _ bytes)
      (reads_if (n == 11) (one_index-reads _ bytes)
      (reads_if (n == 12) (one_index-reads _ bytes)
      (reads_if (n == 13) (one_index-reads _ bytes)
      (reads_if (n == 14) (one_index-reads _ bytes)
      (reads_if (n == 15) reads_here
      (reads_if (n == 16) (one_index-reads _ bytes)
      (reads_if (n == 17) (two_indices-reads _ bytes)
      (reads_if (n == 18) (two_indices-reads _ bytes)
      (reads_if (n == 19) (two_indices-reads _ bytes)
      reads_none)))))))))))))
