-- What an instruction is read from stands at the front of the bytes: what is left is a rest of them, and bytes behind them change
-- only that.
use Rattle.std.proofs.Common.{ℕ, nat_lt, ◌==◌, List, [], ◌∷◌, ◌++◌, Bool, true, false, Option, Some, None}
use Rattle.std.specs.Prelude.{is_some}
use Rattle.wasm_operators_proposals.specs.WasmOperatorsPlain.WasmSpec.Values.{byte_at, u32_at, s33_index_at, not_negative}
use Rattle.wasm_operators_proposals.specs.WasmOperatorsPlain.WasmSpec.BinaryTypes.{val_at}
use Rattle.wasm_operators_proposals.proofs.WasmOperatorsPlain.WasmSpec.Front.{Reads, reads_none, reads_here, reads_value, reads_behind, reads_weaken, reads_if, reads_map, reads_then, reads_list, signed-reads, heap-reads, val-reads}
use Rattle.wasm_operators_proposals.specs.WasmOperatorsPlain.Numeric.{numeric_from, saturating_from}
use Rattle.wasm_operators_proposals.specs.WasmOperatorsAtomic.WideArithmetic.{wide_from}
use Rattle.wasm_operators_proposals.specs.WasmOperatorsPlain.Memories.{access_from}
use Rattle.wasm_operators_proposals.specs.WasmOperatorsPlain.Conversions.{conversion_from, shared_from}
use Rattle.wasm_operators_proposals.specs.WasmOperatorsPlain.declared.memories.MemoryOperator.{MemoryOperator}
use Rattle.wasm_operators_proposals.proofs.WasmOperatorsPlain.Fronts.{u32-reads, one_index-reads, two_indices-reads, memarg-reads, call-reads, variable-reads, table_access-reads, table-reads, memory_size-reads, memory-reads, constant-reads, bits_128-reads, vector-reads, struct-reads, array-reads}
use Rattle.wasm_operators.specs.References.{cast_flags_from, cast_flags_at, branch_at, reference_from, described_from, cast_from}
use Rattle.wasm_operators.specs.Control.{catch_at, br_table_at, try_table_at, block_at, control_from, parametric_from}
use Rattle.wasm_operators_proposals.specs.WasmOperatorsPlain.declared.memories.MemArg.{MemArg}
use Rattle.wasm_operators_proposals.specs.WasmOperatorsAtomic.WasmOperatorsVector.Codes as vectors
use Rattle.wasm_operators_proposals.specs.WasmOperatorsAtomic.WasmOperatorsVector.Forms as vector_forms
use Rattle.wasm_operators_proposals.specs.WasmOperatorsAtomic.WasmOperatorsVector.declared.forms.Immediates.{Immediates}
use Rattle.wasm_operators_proposals.specs.WasmOperatorsAtomic.WasmOperatorsVector.declared.forms.Immediates.TheVariants as form
use Rattle.wasm_operators_proposals.specs.WasmOperatorsAtomic.WasmOperatorsVector.declared.forms.Form.{Form}
use Rattle.wasm_operators_proposals.specs.WasmOperatorsAtomic.WasmOperatorsVector.declared.forms.Form.TheVariants.{Compute, Access}
use Rattle.wasm_operators_proposals.specs.WasmOperatorsAtomic.Codes as atomics
use Rattle.wasm_operators_proposals.specs.WasmOperatorsAtomic.Forms as atomic_forms
use Rattle.wasm_operators.specs.declared.immediates.ImmediateValues.{ImmediateValues}
use Rattle.wasm_operators.specs.FormImmediates.{zero_at, values_at, behind_memarg, immediates_at}
use Rattle.wasm_operators_proposals.specs.WasmOperatorsAtomic.SharedCodes as shareds
use Rattle.wasm_operators_proposals.specs.WasmOperatorsAtomic.SharedForms as shared_forms
use Rattle.wasm_operators_proposals.specs.WasmOperatorsAtomic.declared.shared.SharedAtomicOperator.{SharedAtomicOperator}
use Rattle.wasm_operators_proposals.proofs.Fronts.{access_values-reads, continuation-reads}
use Rattle.wasm_operators.specs.Instructions.{with_memarg, with_form, with_access, is_shared, aggregate_from, bulk_from, vectors_from, atomics_from, prefixed_from, plain_from, instruction_at}
use Rattle.wasm_operators.specs.Legacy.{legacy_from}

module _ {more : List ℕ} where
  s33_index-reads : (bytes : List ℕ) → Reads more 1 bytes (s33_index_at bytes) (s33_index_at (bytes ++ more))
  s33_index-reads bytes = reads_then _ (signed-reads 33 bytes) (λ n. reads_value (λ x. x) (not_negative n.0))

  -- parts of control instructions and of casts
  catch-reads : (bytes : List ℕ) → Reads more 1 bytes (catch_at bytes) (catch_at (bytes ++ more))
  unfolding catch_at
  catch-reads [] = reads_none
  catch-reads (b ∷ bytes) =
      reads_behind
      (reads_if (b == 0) (two_indices-reads _ bytes)
      (reads_if (b == 1) (two_indices-reads _ bytes)
      (reads_if (b == 2) (one_index-reads _ bytes)
      (reads_if (b == 3) (one_index-reads _ bytes) reads_none))))

  br_table-reads : (bytes : List ℕ) → Reads more 1 bytes (br_table_at bytes) (br_table_at (bytes ++ more))
  br_table-reads bytes = reads_then _ (reads_list u32_at u32-reads bytes) (λ ls. reads_map _ (u32-reads ls.1))

  cast_flags-reads : (bytes : List ℕ) → Reads more 1 bytes (cast_flags_at bytes) (cast_flags_at (bytes ++ more))
  unfolding cast_flags_at
  cast_flags-reads [] = reads_none
  cast_flags-reads (b ∷ bytes) = reads_behind (reads_value (λ f. f) (cast_flags_from b))

  -- immediates by forms
  byte-reads : (bytes : List ℕ) → Reads more 1 bytes (byte_at bytes) (byte_at (bytes ++ more))
  byte-reads [] = reads_none
  byte-reads (b ∷ bytes) = reads_behind reads_here

  zero-reads : (bytes : List ℕ) → Reads more 0 bytes (zero_at bytes) (zero_at (bytes ++ more))
  zero-reads [] = reads_none
  zero-reads (b ∷ bytes) = reads_weaken (reads_behind (reads_if (b == 0) reads_here reads_none))

  values-reads : (i : Immediates) (bytes : List ℕ) → Reads more 0 bytes (values_at i bytes) (values_at i (bytes ++ more))
  values-reads form.Nothing bytes = reads_here
  values-reads form.Zero bytes = zero-reads bytes
  values-reads (form.Lane n) bytes = reads_weaken (reads_map _ (byte-reads bytes))
  values-reads form.Lanes bytes = reads_map _ (bits_128-reads bytes)

  behind-reads : (has_lane : Bool) (m : MemArg) (bytes : List ℕ) → Reads more 0 bytes (behind_memarg has_lane m bytes) (behind_memarg has_lane m (bytes ++ more))
  behind-reads true m bytes = reads_weaken (reads_map _ (byte-reads bytes))
  behind-reads false m bytes = reads_here

  immediates-reads : (f : Form) (bytes : List ℕ) → Reads more 0 bytes (immediates_at f bytes) (immediates_at f (bytes ++ more))
  immediates-reads (Compute i t g) bytes = values-reads i bytes
  immediates-reads (Access a lanes t g) bytes = reads_weaken (reads_then _ (memarg-reads bytes) (λ m. behind-reads (is_some lanes) m.0 m.1))

  with_form-reads : {X Y : Type 0} (op : X → ImmediateValues → Y) (form : X → Form) (found : Option X) (bytes : List ℕ) → Reads more 0 bytes (with_form op form bytes found) (with_form op form (bytes ++ more) found)
  with_form-reads op form None bytes = reads_none
  with_form-reads op form (Some x) bytes = reads_map _ (immediates-reads (form x) bytes)

  -- an atomic access
  with_access-reads : {R : Type 0} (found : Option SharedAtomicOperator) (bytes : List ℕ) → Reads more 0 bytes (with_access {R = R} bytes found) (with_access {R = R} (bytes ++ more) found)
  with_access-reads None bytes = reads_none
  with_access-reads (Some op) bytes = reads_map _ (access_values-reads (shared_forms.shared_form_of op) bytes)

  module _ {R : Type 0} (to : ℕ → R) where
    block-reads : (bytes : List ℕ) → Reads more 1 bytes (block_at to bytes) (block_at to (bytes ++ more))
    unfolding block_at
    block-reads [] = reads_none
    block-reads (b ∷ bytes) =
        reads_if (b == 0x40) (reads_behind reads_here)
        (reads_if (nat_lt b 0x40) (reads_map _ (s33_index-reads (b ∷ bytes)))
        (reads_if (nat_lt b 0x80) (reads_map _ (val-reads to (b ∷ bytes)))
        (reads_map _ (s33_index-reads (b ∷ bytes)))))

    try_table-reads : (bytes : List ℕ) → Reads more 1 bytes (try_table_at to bytes) (try_table_at to (bytes ++ more))
    try_table-reads bytes = reads_then _ (block-reads bytes) (λ b. reads_map _ (reads_list catch_at catch-reads b.1))

    branch-reads : (bytes : List ℕ) → Reads more 1 bytes (branch_at to bytes) (branch_at to (bytes ++ more))
    unfolding branch_at
    branch-reads bytes =
        reads_then _ (cast_flags-reads bytes) (λ f. reads_then _ (u32-reads f.1) (λ l. reads_then _ (heap-reads to l.1) (λ a. reads_map _ (heap-reads to a.1))))

    with_memarg-reads : (found : Option MemoryOperator) (bytes : List ℕ) → Reads more 0 bytes (with_memarg {R = R} bytes found) (with_memarg {R = R} (bytes ++ more) found)
    with_memarg-reads None bytes = reads_none
    with_memarg-reads (Some op) bytes = reads_weaken (reads_map _ (memarg-reads bytes))

    control-reads : (b : ℕ) (bytes : List ℕ) → Reads more 0 bytes (control_from to b bytes) (control_from to b (bytes ++ more))
    unfolding control_from
    control-reads b bytes =
        reads_if (b == 0x00) reads_here
        (reads_if (b == 0x01) reads_here
        (reads_if (b == 0x02) (reads_weaken (reads_map _ (block-reads bytes)))
        (reads_if (b == 0x03) (reads_weaken (reads_map _ (block-reads bytes)))
        (reads_if (b == 0x04) (reads_weaken (reads_map _ (block-reads bytes)))
        (reads_if (b == 0x05) reads_here
        (reads_if (b == 0x08) (one_index-reads _ bytes)
        (reads_if (b == 0x0a) reads_here
        (reads_if (b == 0x0b) reads_here
        (reads_if (b == 0x0c) (one_index-reads _ bytes)
        (reads_if (b == 0x0d) (one_index-reads _ bytes)
        (reads_if (b == 0x0e) (reads_weaken (reads_map _ (br_table-reads bytes)))
        (reads_if (b == 0x0f) reads_here
        (reads_if (b == 0x1f) (reads_weaken (reads_map _ (try_table-reads bytes)))
        reads_none)))))))))))))

    legacy-reads : (b : ℕ) (bytes : List ℕ) → Reads more 0 bytes (legacy_from to b bytes) (legacy_from to b (bytes ++ more))
    unfolding legacy_from
    legacy-reads b bytes =
        reads_if (b == 0x06) (reads_weaken (reads_map _ (block-reads bytes)))
        (reads_if (b == 0x07) (one_index-reads _ bytes)
        (reads_if (b == 0x09) (one_index-reads _ bytes)
        (reads_if (b == 0x18) (one_index-reads _ bytes)
        (reads_if (b == 0x19) reads_here
        reads_none))))

    parametric-reads : (b : ℕ) (bytes : List ℕ) → Reads more 0 bytes (parametric_from to b bytes) (parametric_from to b (bytes ++ more))
    unfolding parametric_from
    parametric-reads b bytes =
        reads_if (b == 0x1a) reads_here
        (reads_if (b == 0x1b) reads_here
        (reads_if (b == 0x1c) (reads_weaken (reads_map _ (reads_list (val_at to) (val-reads to) bytes)))
        reads_none))

    reference-reads : (b : ℕ) (bytes : List ℕ) → Reads more 0 bytes (reference_from to b bytes) (reference_from to b (bytes ++ more))
    unfolding reference_from
    reference-reads b bytes =
        reads_if (b == 0xd0) (reads_weaken (reads_map _ (heap-reads to bytes)))
        (reads_if (b == 0xd1) reads_here
        (reads_if (b == 0xd2) (one_index-reads _ bytes)
        (reads_if (b == 0xd3) reads_here
        (reads_if (b == 0xd4) reads_here
        (reads_if (b == 0xd5) (one_index-reads _ bytes)
        (reads_if (b == 0xd6) (one_index-reads _ bytes)
        reads_none))))))

    described-reads : (n : ℕ) (bytes : List ℕ) → Reads more 0 bytes (described_from to n bytes) (described_from to n (bytes ++ more))
    unfolding described_from
    described-reads n bytes =
        reads_if (n == 34) (one_index-reads _ bytes)
        (reads_if (n == 35) (reads_weaken (reads_map _ (heap-reads to bytes)))
        (reads_if (n == 36) (reads_weaken (reads_map _ (heap-reads to bytes)))
        (reads_if (n == 37) (reads_weaken (reads_map _ (branch-reads bytes)))
        (reads_if (n == 38) (reads_weaken (reads_map _ (branch-reads bytes)))
        reads_none))))

    cast-reads : (n : ℕ) (bytes : List ℕ) → Reads more 0 bytes (cast_from to n bytes) (cast_from to n (bytes ++ more))
    unfolding cast_from
    cast-reads n bytes =
        reads_if (n == 20) (reads_weaken (reads_map _ (heap-reads to bytes)))
        (reads_if (n == 21) (reads_weaken (reads_map _ (heap-reads to bytes)))
        (reads_if (n == 22) (reads_weaken (reads_map _ (heap-reads to bytes)))
        (reads_if (n == 23) (reads_weaken (reads_map _ (heap-reads to bytes)))
        (reads_if (n == 24) (reads_weaken (reads_map _ (branch-reads bytes)))
        (reads_if (n == 25) (reads_weaken (reads_map _ (branch-reads bytes)))
        (described-reads n bytes))))))

    aggregate-reads : (n : ℕ) (bytes : List ℕ) → Reads more 0 bytes (aggregate_from to n bytes) (aggregate_from to n (bytes ++ more))
    unfolding aggregate_from
    aggregate-reads n bytes =
        reads_if (nat_lt n 6) (reads_map _ (struct-reads n bytes))
        (reads_if (nat_lt n 20) (reads_map _ (array-reads n bytes))
        (reads_if (nat_lt n 26) (reads_map _ (cast-reads n bytes))
        (reads_if (nat_lt n 32) (reads_value _ (conversion_from n))
        (reads_if (nat_lt n 34) (reads_map _ (struct-reads n bytes))
        (reads_map _ (cast-reads n bytes))))))

    bulk-reads : (n : ℕ) (bytes : List ℕ) → Reads more 0 bytes (bulk_from to n bytes) (bulk_from to n (bytes ++ more))
    unfolding bulk_from
    bulk-reads n bytes =
        reads_if (nat_lt n 8) (reads_value _ (saturating_from n))
        (reads_if (nat_lt n 12) (reads_map _ (memory-reads n bytes))
        (reads_if (nat_lt n 18) (reads_map _ (table-reads n bytes))
        (reads_if (nat_lt n 19) (reads_map _ (memory-reads n bytes))
        (reads_value _ (wide_from n)))))

    vectors-reads : (n : ℕ) (bytes : List ℕ) → Reads more 0 bytes (vectors_from to n bytes) (vectors_from to n (bytes ++ more))
    unfolding vectors_from
    vectors-reads n bytes =
        reads_if (n == 12) (reads_map _ (vector-reads n bytes))
        (with_form-reads _ vector_forms.form_of (vectors.operator_from n) bytes)

    atomics-reads : (n : ℕ) (bytes : List ℕ) → Reads more 0 bytes (atomics_from to n bytes) (atomics_from to n (bytes ++ more))
    unfolding atomics_from
    atomics-reads n bytes =
        reads_if (n == 0x72) (reads_value _ (shared_from n))
        (reads_if (is_shared n) (with_access-reads (shareds.shared_operator_from n) bytes)
        (with_form-reads _ atomic_forms.form_of (atomics.operator_from n) bytes))

    plain-reads : (b : ℕ) (bytes : List ℕ) → Reads more 0 bytes (plain_from to b bytes) (plain_from to b (bytes ++ more))
    unfolding plain_from
    plain-reads b bytes =
        reads_if (nat_lt b 0x06) (reads_map _ (control-reads b bytes))
        (reads_if (nat_lt b 0x08) (reads_map _ (legacy-reads b bytes))
        (reads_if (nat_lt b 0x09) (reads_map _ (control-reads b bytes))
        (reads_if (nat_lt b 0x0a) (reads_map _ (legacy-reads b bytes))
        (reads_if (nat_lt b 0x10) (reads_map _ (control-reads b bytes))
        (reads_if (nat_lt b 0x18) (reads_map _ (call-reads b bytes))
        (reads_if (nat_lt b 0x1a) (reads_map _ (legacy-reads b bytes))
        (reads_if (nat_lt b 0x1f) (reads_map _ (parametric-reads b bytes))
        (reads_if (nat_lt b 0x20) (reads_map _ (control-reads b bytes))
        (reads_if (nat_lt b 0x25) (reads_map _ (variable-reads b bytes))
        (reads_if (nat_lt b 0x28) (reads_map _ (table_access-reads b bytes))
        (reads_if (nat_lt b 0x3f) (with_memarg-reads (access_from b) bytes)
        (reads_if (nat_lt b 0x41) (reads_map _ (memory_size-reads b bytes))
        (reads_if (nat_lt b 0x45) (reads_map _ (constant-reads b bytes))
        (reads_if (nat_lt b 0xd0) (reads_value _ (numeric_from b))
        (reads_if (nat_lt b 0xe0) (reads_map _ (reference-reads b bytes))
        (reads_map _ (continuation-reads b bytes)))))))))))))))))

    prefixed-reads : (b n : ℕ) (bytes : List ℕ) → Reads more 0 bytes (prefixed_from to b n bytes) (prefixed_from to b n (bytes ++ more))
    unfolding prefixed_from
    prefixed-reads b n bytes =
        reads_if (b == 0xfb) (aggregate-reads n bytes)
        (reads_if (b == 0xfc) (bulk-reads n bytes)
        (reads_if (b == 0xfd) (vectors-reads n bytes)
        (reads_if (b == 0xfe) (atomics-reads n bytes) reads_none)))

    pub instruction-reads : (bytes : List ℕ) → Reads more 1 bytes (instruction_at to bytes) (instruction_at to (bytes ++ more))
    unfolding instruction_at
    instruction-reads [] = reads_none
    instruction-reads (b ∷ bytes) =
        reads_behind (reads_if (nat_lt b 0xfb) (plain-reads b bytes) (reads_weaken (reads_then _ (u32-reads bytes) (λ n. prefixed-reads b n.0 n.1))))
