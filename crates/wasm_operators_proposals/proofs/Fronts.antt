-- What immediates of atomic accesses and instructions on continuations are read from stands at the front of the bytes: what is left is a
-- rest of them, and bytes behind them change only that.
use Rattle.std.proofs.Common.{ℕ, ◌==◌, List, [], ◌∷◌, ◌++◌, Bool, true, false}
use Rattle.wasm_operators_plain.proofs.WasmSpec.Front.{Reads, reads_none, reads_here, reads_value, reads_behind, reads_weaken, reads_if, reads_map, reads_then, reads_list}
use Rattle.wasm_operators_plain.proofs.Fronts.{u32-reads, one_index-reads, two_indices-reads}
use Rattle.wasm_operators_atomic.specs.declared.shared_forms.SharedForm.{SharedForm}
use Rattle.wasm_operators_atomic.specs.declared.shared_forms.SharedForm.TheVariants as form
use Rattle.wasm_operators_proposals.specs.declared.accesses.Ordering.{Ordering}
use Rattle.wasm_operators_proposals.specs.declared.continuations.Handle.{Handle}
use Rattle.wasm_operators_proposals.specs.Accesses.{ordering_from, ordering_at, field_behind, place_of, access_values_at}
use Rattle.wasm_operators_proposals.specs.Continuations.{Continuation, handle_at, handles_at, index_and_handles, indices_and_handles, continuation_from}

module _ {more : List ℕ} where
  -- immediates of atomic accesses
  ordering-reads : (bytes : List ℕ) → Reads more 1 bytes (ordering_at bytes) (ordering_at (bytes ++ more))
  unfolding ordering_at
  ordering-reads bytes = reads_then _ (u32-reads bytes) (λ n. reads_value (λ o. o) (ordering_from n.0))

  field-reads : (has_field : Bool) (o : Ordering) (x : ℕ) (bytes : List ℕ) → Reads more 0 bytes (field_behind has_field o x bytes) (field_behind has_field o x (bytes ++ more))
  field-reads true o x bytes = reads_weaken (reads_map _ (u32-reads bytes))
  field-reads false o x bytes = reads_here

  place-reads : (has_field : Bool) (bytes : List ℕ) → Reads more 0 bytes (place_of has_field bytes) (place_of has_field (bytes ++ more))
  unfolding place_of
  place-reads has_field bytes = reads_weaken (reads_then _ (ordering-reads bytes) (λ o. reads_then _ (u32-reads o.1) (λ x. field-reads has_field o.0 x.0 x.1)))

  pub access_values-reads : (f : SharedForm) (bytes : List ℕ) → Reads more 0 bytes (access_values_at f bytes) (access_values_at f (bytes ++ more))
  access_values-reads form.Pause bytes = reads_here
  access_values-reads (form.Global a) bytes = place-reads false bytes
  access_values-reads (form.Table a) bytes = place-reads false bytes
  access_values-reads (form.Field a) bytes = place-reads true bytes
  access_values-reads form.PackedField bytes = place-reads true bytes
  access_values-reads (form.Element a) bytes = place-reads false bytes
  access_values-reads form.PackedElement bytes = place-reads false bytes

  -- instructions on continuations
  handle-reads : (bytes : List ℕ) → Reads more 1 bytes (handle_at bytes) (handle_at (bytes ++ more))
  unfolding handle_at
  handle-reads [] = reads_none
  handle-reads (b ∷ bytes) =
      reads_behind
      (reads_if (b == 0) (two_indices-reads _ bytes)
      (reads_if (b == 1) (one_index-reads _ bytes) reads_none))

  handles-reads : (bytes : List ℕ) → Reads more 1 bytes (handles_at bytes) (handles_at (bytes ++ more))
  unfolding handles_at
  handles-reads bytes = reads_list handle_at handle-reads bytes

  index_and_handles-reads : (op : ℕ → List Handle → Continuation) (bytes : List ℕ) → Reads more 0 bytes (index_and_handles op bytes) (index_and_handles op (bytes ++ more))
  index_and_handles-reads op bytes = reads_weaken (reads_then _ (u32-reads bytes) (λ n. reads_map _ (handles-reads n.1)))

  indices_and_handles-reads : (op : ℕ → ℕ → List Handle → Continuation) (bytes : List ℕ) → Reads more 0 bytes (indices_and_handles op bytes) (indices_and_handles op (bytes ++ more))
  indices_and_handles-reads op bytes = reads_weaken (reads_then _ (u32-reads bytes) (λ n. index_and_handles-reads (op n.0) n.1))

  pub continuation-reads : (b : ℕ) (bytes : List ℕ) → Reads more 0 bytes (continuation_from b bytes) (continuation_from b (bytes ++ more))
  unfolding continuation_from
  continuation-reads b bytes =
      reads_if (b == 0xe0) (one_index-reads _ bytes)
      (reads_if (b == 0xe1) (two_indices-reads _ bytes)
      (reads_if (b == 0xe2) (one_index-reads _ bytes)
      (reads_if (b == 0xe3) (index_and_handles-reads _ bytes)
      (reads_if (b == 0xe4) (indices_and_handles-reads _ bytes)
      (reads_if (b == 0xe5) (index_and_handles-reads _ bytes)
      (reads_if (b == 0xe6) (two_indices-reads _ bytes)
      reads_none))))))
