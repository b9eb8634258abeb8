-- Types of one byte, and of a byte before a heap type.
use Rattle.std.proofs.Common.{◌≡◌, ◌<◌, ◌^◌, ℕ, List, ◌∷◌, true, false, Some, refl, arith}
use Rattle.std.specs.Prelude.{nat_lt, ◌==◌}
use Rattle.std.proofs.lemmas.Bool.Decides.{nat_tests}
use Rattle.wasm_operators.specs.WasmOperatorsPlain.WasmSpec.BinaryTypes.{heap_at, val_at, ref_at}
use Rattle.wasm_operators.specs.WasmOperatorsPlain.WasmSpec.Syntax.{Ref, abstract_heap, concrete, extern_heap, func_heap, reference}
use Rattle.wasm_operators.specs.WasmOperatorsPlain.WasmReadersTypes.WasmReadersValues.declared.indices.UnpackedIndex.{UnpackedIndex}
use Rattle.wasm_operators.specs.WasmOperatorsPlain.WasmReadersTypes.WasmReadersValues.declared.indices.UnpackedIndex.TheVariants.{Module}
use Rattle.wasm_operators.specs.WasmOperatorsPlain.WasmReaders.WrittenIndices.{written}
use Rattle.wasm_operators.specs.Control.{value_block, block_at}
use Rattle.wasm_operators.specs.References.{cast_flags_at}

module _ (b : ℕ) (bytes more : List ℕ) where
  -- a type index below 64 is a byte
  pub small_heap : bytes ≡ b ∷ more → b < 64 → heap_at written bytes ≡ Some (concrete (Module b), more)
  unfolding heap_at
  small_heap e h =
      let l : nat_lt b (2 ^ 6) ≡ true = grind (arith, nat_tests) in
      let m : nat_lt b (2 ^ 32) ≡ true = grind (arith, nat_tests) in
      let is_62 : (b == 0x62) ≡ false = grind (arith, nat_tests) in
      let is_65 : (b == 0x65) ≡ false = grind (arith, nat_tests) in
      let is_68 : (b == 0x68) ≡ false = grind (arith, nat_tests) in
      let is_69 : (b == 0x69) ≡ false = grind (arith, nat_tests) in
      let is_6a : (b == 0x6a) ≡ false = grind (arith, nat_tests) in
      let is_6b : (b == 0x6b) ≡ false = grind (arith, nat_tests) in
      let is_6c : (b == 0x6c) ≡ false = grind (arith, nat_tests) in
      let is_6d : (b == 0x6d) ≡ false = grind (arith, nat_tests) in
      let is_6e : (b == 0x6e) ≡ false = grind (arith, nat_tests) in
      let is_6f : (b == 0x6f) ≡ false = grind (arith, nat_tests) in
      let is_70 : (b == 0x70) ≡ false = grind (arith, nat_tests) in
      let is_71 : (b == 0x71) ≡ false = grind (arith, nat_tests) in
      let is_72 : (b == 0x72) ≡ false = grind (arith, nat_tests) in
      let is_73 : (b == 0x73) ≡ false = grind (arith, nat_tests) in
      let is_74 : (b == 0x74) ≡ false = grind (arith, nat_tests) in
      let is_75 : (b == 0x75) ≡ false = grind (arith, nat_tests) in
      rw (e, is_62, is_65, is_70, is_6f, is_6e, is_6d, is_6c, is_6b, is_6a, is_69, is_68, is_71, is_72, is_73, is_74, is_75, l, m) refl

  -- the heap types `func` and `extern`
  pub function_heap : bytes ≡ b ∷ more → b ≡ 0x70 → heap_at written bytes ≡ Some (abstract_heap false func_heap, more)
  unfolding heap_at
  function_heap e f = rw (e, f) refl

  pub host_heap : bytes ≡ b ∷ more → b ≡ 0x6f → heap_at written bytes ≡ Some (abstract_heap false extern_heap, more)
  unfolding heap_at
  host_heap e f = rw (e, f) refl

  -- what a branch on a cast says of null
  pub of_0 : bytes ≡ b ∷ more → b ≡ 0 → cast_flags_at bytes ≡ Some ((false, false), more)
  unfolding cast_flags_at
  of_0 e f = rw (e, f) refl

  pub of_1 : bytes ≡ b ∷ more → b ≡ 1 → cast_flags_at bytes ≡ Some ((true, false), more)
  unfolding cast_flags_at
  of_1 e f = rw (e, f) refl

  pub of_2 : bytes ≡ b ∷ more → b ≡ 2 → cast_flags_at bytes ≡ Some ((false, true), more)
  unfolding cast_flags_at
  of_2 e f = rw (e, f) refl

  pub of_3 : bytes ≡ b ∷ more → b ≡ 3 → cast_flags_at bytes ≡ Some ((true, true), more)
  unfolding cast_flags_at
  of_3 e f = rw (e, f) refl

-- a block that gives a reference
module _ (b : ℕ) (bytes more rest : List ℕ) (x : Ref UnpackedIndex) where
  pub of_nullable : bytes ≡ b ∷ more → b ≡ 0x63 → x.nullable ≡ true → heap_at written more ≡ Some (x.heap, rest) → block_at written bytes ≡ Some (value_block (reference x), rest)
  unfolding block_at val_at ref_at
  of_nullable e f n h = let k : x ≡ record { nullable = true; heap = x.heap } = rw n refl in rw (e, f, h, ← k) refl

  pub of_other : bytes ≡ b ∷ more → b ≡ 0x64 → x.nullable ≡ false → heap_at written more ≡ Some (x.heap, rest) → block_at written bytes ≡ Some (value_block (reference x), rest)
  unfolding block_at val_at ref_at
  of_other e f n h = let k : x ≡ record { nullable = false; heap = x.heap } = rw n refl in rw (e, f, h, ← k) refl

pub ruleset heaps = (small_heap)
