-- Reading with a renamed index map gives what reading gives, renamed.
use Rattle.std.proofs.Common.{refl, ℕ, nat_lt, ◌==◌, List, Option, Some, None}
use Rattle.wasm_operators_proposals.specs.WasmOperatorsPlain.WasmSpec.Values.{byte_at, u32_at, s33_index_at, list_at}
use Rattle.wasm_operators_proposals.proofs.WasmOperatorsPlain.WasmSpec.Renaming.{Renames, renames_none, renames_some, renames_if, renames_then, renames_map, renames_same_then, renames_same_map, renames_list, heap-renames, val-renames}
use Rattle.wasm_operators_proposals.specs.WasmOperatorsPlain.Numeric.{numeric_from, saturating_from}
use Rattle.wasm_operators_proposals.specs.WasmOperatorsAtomic.WideArithmetic.{wide_from}
use Rattle.wasm_operators_proposals.specs.WasmOperatorsPlain.Calls.{call_from}
use Rattle.wasm_operators_proposals.specs.WasmOperatorsPlain.Variables.{variable_from}
use Rattle.wasm_operators_proposals.specs.WasmOperatorsPlain.Tables.{table_access_from, table_from}
use Rattle.wasm_operators_proposals.specs.WasmOperatorsPlain.Memories.{access_from, memarg_at, memory_size_from, memory_from}
use Rattle.wasm_operators_proposals.specs.WasmOperatorsPlain.Constants.{constant_from, vector_from}
use Rattle.wasm_operators_proposals.specs.WasmOperatorsPlain.Structs.{struct_from}
use Rattle.wasm_operators_proposals.specs.WasmOperatorsPlain.Arrays.{array_from}
use Rattle.wasm_operators_proposals.specs.WasmOperatorsPlain.Conversions.{conversion_from, shared_from}
use Rattle.wasm_operators.specs.References.{cast_flags_at, branch_at, reference_from, described_from, cast_from}
use Rattle.wasm_operators.specs.Control.{catch_at, br_table_at, try_table_at, block_at, control_from, parametric_from}
use Rattle.wasm_operators_proposals.specs.WasmOperatorsAtomic.WasmOperatorsVector.Codes as vectors
use Rattle.wasm_operators_proposals.specs.WasmOperatorsAtomic.WasmOperatorsVector.Forms as vector_forms
use Rattle.wasm_operators_proposals.specs.WasmOperatorsAtomic.WasmOperatorsVector.declared.operators.VectorOperator.{VectorOperator}
use Rattle.wasm_operators_proposals.specs.WasmOperatorsAtomic.Codes as atomics
use Rattle.wasm_operators_proposals.specs.WasmOperatorsAtomic.Forms as atomic_forms
use Rattle.wasm_operators_proposals.specs.WasmOperatorsAtomic.declared.operators.AtomicOperator.{AtomicOperator}
use Rattle.wasm_operators.specs.FormImmediates.{immediates_at}
use Rattle.wasm_operators_proposals.specs.WasmOperatorsAtomic.SharedCodes as shareds
use Rattle.wasm_operators_proposals.specs.WasmOperatorsAtomic.SharedForms as shared_forms
use Rattle.wasm_operators_proposals.specs.WasmOperatorsAtomic.declared.shared.SharedAtomicOperator.{SharedAtomicOperator}
use Rattle.wasm_operators_proposals.specs.Accesses.{access_values_at}
use Rattle.wasm_operators_proposals.specs.Continuations.{continuation_from}
use Rattle.wasm_operators.specs.Instructions.{vector, atomic, with_memarg, with_form, with_access, is_shared, aggregate_from, bulk_from, vectors_from, atomics_from, prefixed_from, plain_from, instruction_at}
use Rattle.wasm_operators.specs.Maps.{map_block, map_control, map_legacy, map_parametric, map_reference, map_cast, map_instruction, map_try_table, map_branch}
use Rattle.wasm_operators.specs.Legacy.{legacy_from}
use Rattle.wasm_operators_proposals.specs.WasmOperatorsPlain.declared.memories.MemoryOperator.{MemoryOperator}

module _ {R S : Type 0} (f : R → S) (to : ℕ → R) where
  abbrev then_renamed : ℕ → S
  then_renamed n = f (to n)

  block-renames : (bytes : List ℕ) → Renames (map_block f) (block_at to bytes) (block_at then_renamed bytes)
  unfolding block_at
  block-renames bytes =
      renames_same_then (byte_at bytes) _ _ (λ b.
      renames_if (b.0 == 0x40) renames_some
      (renames_if (nat_lt b.0 0x40) (renames_same_map (s33_index_at bytes) _ _ (λ x. refl))
      (renames_if (nat_lt b.0 0x80) (renames_map _ _ (val-renames f to bytes) (λ v. refl))
      (renames_same_map (s33_index_at bytes) _ _ (λ x. refl)))))

  try_table-renames : (bytes : List ℕ) → Renames (map_try_table f) (try_table_at to bytes) (try_table_at then_renamed bytes)
  try_table-renames bytes = renames_then _ _ (block-renames bytes) (λ b. renames_same_map (list_at catch_at b.1) _ _ (λ cs. refl))

  branch-renames : (bytes : List ℕ) → Renames (map_branch f) (branch_at to bytes) (branch_at then_renamed bytes)
  unfolding branch_at
  branch-renames bytes =
      renames_same_then (cast_flags_at bytes) _ _ (λ g.
      renames_same_then (u32_at g.1) _ _ (λ l.
      renames_then _ _ (heap-renames f to l.1) (λ a. renames_map _ _ (heap-renames f to a.1) (λ b. refl))))

  with_memarg-renames : (found : Option MemoryOperator) (bytes : List ℕ) → Renames (map_instruction f) (with_memarg bytes found) (with_memarg bytes found)
  with_memarg-renames None bytes = renames_none
  with_memarg-renames (Some op) bytes = renames_same_map (memarg_at bytes) _ _ (λ m. refl)

  vector-renames : (found : Option VectorOperator) (bytes : List ℕ) → Renames (map_instruction f) (with_form vector vector_forms.form_of bytes found) (with_form vector vector_forms.form_of bytes found)
  vector-renames None bytes = renames_none
  vector-renames (Some op) bytes = renames_same_map (immediates_at (vector_forms.form_of op) bytes) _ _ (λ i. refl)

  atomic-renames : (found : Option AtomicOperator) (bytes : List ℕ) → Renames (map_instruction f) (with_form atomic atomic_forms.form_of bytes found) (with_form atomic atomic_forms.form_of bytes found)
  atomic-renames None bytes = renames_none
  atomic-renames (Some op) bytes = renames_same_map (immediates_at (atomic_forms.form_of op) bytes) _ _ (λ i. refl)

  access-renames : (found : Option SharedAtomicOperator) (bytes : List ℕ) → Renames (map_instruction f) (with_access bytes found) (with_access bytes found)
  access-renames None bytes = renames_none
  access-renames (Some op) bytes = renames_same_map (access_values_at (shared_forms.shared_form_of op) bytes) _ _ (λ i. refl)

  control-renames : (b : ℕ) (bytes : List ℕ) → Renames (map_control f) (control_from to b bytes) (control_from then_renamed b bytes)
  unfolding control_from
  control-renames b bytes =
      renames_if (b == 0x00) renames_some
      (renames_if (b == 0x01) renames_some
      (renames_if (b == 0x02) (renames_map _ _ (block-renames bytes) (λ x. refl))
      (renames_if (b == 0x03) (renames_map _ _ (block-renames bytes) (λ x. refl))
      (renames_if (b == 0x04) (renames_map _ _ (block-renames bytes) (λ x. refl))
      (renames_if (b == 0x05) renames_some
      (renames_if (b == 0x08) (renames_same_map (u32_at bytes) _ _ (λ x. refl))
      (renames_if (b == 0x0a) renames_some
      (renames_if (b == 0x0b) renames_some
      (renames_if (b == 0x0c) (renames_same_map (u32_at bytes) _ _ (λ x. refl))
      (renames_if (b == 0x0d) (renames_same_map (u32_at bytes) _ _ (λ x. refl))
      (renames_if (b == 0x0e) (renames_same_map (br_table_at bytes) _ _ (λ x. refl))
      (renames_if (b == 0x0f) renames_some
      (renames_if (b == 0x1f) (renames_map _ _ (try_table-renames bytes) (λ x. refl))
      renames_none)))))))))))))

  legacy-renames : (b : ℕ) (bytes : List ℕ) → Renames (map_legacy f) (legacy_from to b bytes) (legacy_from then_renamed b bytes)
  unfolding legacy_from
  legacy-renames b bytes =
      renames_if (b == 0x06) (renames_map _ _ (block-renames bytes) (λ x. refl))
      (renames_if (b == 0x07) (renames_same_map (u32_at bytes) _ _ (λ x. refl))
      (renames_if (b == 0x09) (renames_same_map (u32_at bytes) _ _ (λ x. refl))
      (renames_if (b == 0x18) (renames_same_map (u32_at bytes) _ _ (λ x. refl))
      (renames_if (b == 0x19) renames_some
      renames_none))))

  parametric-renames : (b : ℕ) (bytes : List ℕ) → Renames (map_parametric f) (parametric_from to b bytes) (parametric_from then_renamed b bytes)
  unfolding parametric_from
  parametric-renames b bytes =
      renames_if (b == 0x1a) renames_some
      (renames_if (b == 0x1b) renames_some
      (renames_if (b == 0x1c) (renames_map _ _ (renames_list _ _ _ (val-renames f to) bytes) (λ x. refl))
      renames_none))

  reference-renames : (b : ℕ) (bytes : List ℕ) → Renames (map_reference f) (reference_from to b bytes) (reference_from then_renamed b bytes)
  unfolding reference_from
  reference-renames b bytes =
      renames_if (b == 0xd0) (renames_map _ _ (heap-renames f to bytes) (λ x. refl))
      (renames_if (b == 0xd1) renames_some
      (renames_if (b == 0xd2) (renames_same_map (u32_at bytes) _ _ (λ x. refl))
      (renames_if (b == 0xd3) renames_some
      (renames_if (b == 0xd4) renames_some
      (renames_if (b == 0xd5) (renames_same_map (u32_at bytes) _ _ (λ x. refl))
      (renames_if (b == 0xd6) (renames_same_map (u32_at bytes) _ _ (λ x. refl))
      renames_none))))))

  described-renames : (n : ℕ) (bytes : List ℕ) → Renames (map_cast f) (described_from to n bytes) (described_from then_renamed n bytes)
  unfolding described_from
  described-renames n bytes =
      renames_if (n == 34) (renames_same_map (u32_at bytes) _ _ (λ x. refl))
      (renames_if (n == 35) (renames_map _ _ (heap-renames f to bytes) (λ x. refl))
      (renames_if (n == 36) (renames_map _ _ (heap-renames f to bytes) (λ x. refl))
      (renames_if (n == 37) (renames_map _ _ (branch-renames bytes) (λ x. refl))
      (renames_if (n == 38) (renames_map _ _ (branch-renames bytes) (λ x. refl))
      renames_none))))

  cast-renames : (n : ℕ) (bytes : List ℕ) → Renames (map_cast f) (cast_from to n bytes) (cast_from then_renamed n bytes)
  unfolding cast_from
  cast-renames n bytes =
      renames_if (n == 20) (renames_map _ _ (heap-renames f to bytes) (λ x. refl))
      (renames_if (n == 21) (renames_map _ _ (heap-renames f to bytes) (λ x. refl))
      (renames_if (n == 22) (renames_map _ _ (heap-renames f to bytes) (λ x. refl))
      (renames_if (n == 23) (renames_map _ _ (heap-renames f to bytes) (λ x. refl))
      (renames_if (n == 24) (renames_map _ _ (branch-renames bytes) (λ x. refl))
      (renames_if (n == 25) (renames_map _ _ (branch-renames bytes) (λ x. refl))
      (described-renames n bytes))))))

  aggregate-renames : (n : ℕ) (bytes : List ℕ) → Renames (map_instruction f) (aggregate_from to n bytes) (aggregate_from then_renamed n bytes)
  unfolding aggregate_from
  aggregate-renames n bytes =
      renames_if (nat_lt n 6) (renames_same_map (struct_from n bytes) _ _ (λ x. refl))
      (renames_if (nat_lt n 20) (renames_same_map (array_from n bytes) _ _ (λ x. refl))
      (renames_if (nat_lt n 26) (renames_map _ _ (cast-renames n bytes) (λ x. refl))
      (renames_if (nat_lt n 32) (renames_same_map (conversion_from n) _ _ (λ x. refl))
      (renames_if (nat_lt n 34) (renames_same_map (struct_from n bytes) _ _ (λ x. refl))
      (renames_map _ _ (cast-renames n bytes) (λ x. refl))))))

  bulk-renames : (n : ℕ) (bytes : List ℕ) → Renames (map_instruction f) (bulk_from to n bytes) (bulk_from then_renamed n bytes)
  unfolding bulk_from
  bulk-renames n bytes =
      renames_if (nat_lt n 8) (renames_same_map (saturating_from n) _ _ (λ x. refl))
      (renames_if (nat_lt n 12) (renames_same_map (memory_from n bytes) _ _ (λ x. refl))
      (renames_if (nat_lt n 18) (renames_same_map (table_from n bytes) _ _ (λ x. refl))
      (renames_if (nat_lt n 19) (renames_same_map (memory_from n bytes) _ _ (λ x. refl))
      (renames_same_map (wide_from n) _ _ (λ x. refl)))))

  vectors-renames : (n : ℕ) (bytes : List ℕ) → Renames (map_instruction f) (vectors_from to n bytes) (vectors_from then_renamed n bytes)
  unfolding vectors_from
  vectors-renames n bytes = renames_if (n == 12) (renames_same_map (vector_from n bytes) _ _ (λ x. refl)) (vector-renames (vectors.operator_from n) bytes)

  atomics-renames : (n : ℕ) (bytes : List ℕ) → Renames (map_instruction f) (atomics_from to n bytes) (atomics_from then_renamed n bytes)
  unfolding atomics_from
  atomics-renames n bytes = renames_if (n == 0x72) (renames_same_map (shared_from n) _ _ (λ x. refl)) (renames_if (is_shared n) (access-renames (shareds.shared_operator_from n) bytes) (atomic-renames (atomics.operator_from n) bytes))

  plain-renames : (b : ℕ) (bytes : List ℕ) → Renames (map_instruction f) (plain_from to b bytes) (plain_from then_renamed b bytes)
  unfolding plain_from
  plain-renames b bytes =
      renames_if (nat_lt b 0x06) (renames_map _ _ (control-renames b bytes) (λ x. refl))
      (renames_if (nat_lt b 0x08) (renames_map _ _ (legacy-renames b bytes) (λ x. refl))
      (renames_if (nat_lt b 0x09) (renames_map _ _ (control-renames b bytes) (λ x. refl))
      (renames_if (nat_lt b 0x0a) (renames_map _ _ (legacy-renames b bytes) (λ x. refl))
      (renames_if (nat_lt b 0x10) (renames_map _ _ (control-renames b bytes) (λ x. refl))
      (renames_if (nat_lt b 0x18) (renames_same_map (call_from b bytes) _ _ (λ x. refl))
      (renames_if (nat_lt b 0x1a) (renames_map _ _ (legacy-renames b bytes) (λ x. refl))
      (renames_if (nat_lt b 0x1f) (renames_map _ _ (parametric-renames b bytes) (λ x. refl))
      (renames_if (nat_lt b 0x20) (renames_map _ _ (control-renames b bytes) (λ x. refl))
      (renames_if (nat_lt b 0x25) (renames_same_map (variable_from b bytes) _ _ (λ x. refl))
      (renames_if (nat_lt b 0x28) (renames_same_map (table_access_from b bytes) _ _ (λ x. refl))
      (renames_if (nat_lt b 0x3f) (with_memarg-renames (access_from b) bytes)
      (renames_if (nat_lt b 0x41) (renames_same_map (memory_size_from b bytes) _ _ (λ x. refl))
      (renames_if (nat_lt b 0x45) (renames_same_map (constant_from b bytes) _ _ (λ x. refl))
      (renames_if (nat_lt b 0xd0) (renames_same_map (numeric_from b) _ _ (λ x. refl))
      (renames_if (nat_lt b 0xe0) (renames_map _ _ (reference-renames b bytes) (λ x. refl))
      (renames_same_map (continuation_from b bytes) _ _ (λ x. refl)))))))))))))))))

  prefixed-renames : (b n : ℕ) (bytes : List ℕ) → Renames (map_instruction f) (prefixed_from to b n bytes) (prefixed_from then_renamed b n bytes)
  unfolding prefixed_from
  prefixed-renames b n bytes =
      renames_if (b == 0xfb) (aggregate-renames n bytes)
      (renames_if (b == 0xfc) (bulk-renames n bytes)
      (renames_if (b == 0xfd) (vectors-renames n bytes)
      (renames_if (b == 0xfe) (atomics-renames n bytes) renames_none)))

  pub instruction-renames : (bytes : List ℕ) → Renames (map_instruction f) (instruction_at to bytes) (instruction_at then_renamed bytes)
  unfolding instruction_at
  instruction-renames bytes =
      renames_same_then (byte_at bytes) _ _ (λ b. renames_if (nat_lt b.0 0xfb) (plain-renames b.0 b.1) (renames_same_then (u32_at b.1) _ _ (λ n. prefixed-renames b.0 n.0 n.1)))
