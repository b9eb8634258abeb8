-- Entries of sections are read the same with type indices in another form.
use Rattle.std.proofs.Common.{refl, ℕ, ◌==◌, List, Some, None}
use Rattle.std.specs.Option.{option_and_then}
use Rattle.wasm_spec.specs.Syntax.{Ref, map_ref, map_global}
use Rattle.wasm_spec.specs.Values.{byte_at, u32_at, list_at}
use Rattle.wasm_spec.specs.BinaryTypes.{abstract_heap_from, abstract_heap_at, flags_at, ref_at, global_at}
use Rattle.wasm_spec.specs.BinarySections.{SegmentMode, passive, active, declarative, funcref, functions_with, expressions_with, table_entry_at, global_entry_at, element_at}
use Rattle.wasm_spec.proofs.Renaming.{Renames, renames_none, renames_if, renames_then, renames_map, renames_same_then, renames_same_map, heap-renames, val-renames, table-renames}
use Rattle.wasm_spec_rules.specs.Parts.{Expression, index}
use Rattle.wasm_readers.specs.WrittenIndices.{written}
use Rattle.wasm_validator_segments.specs.WasmValidatorReferences.WasmSpecValidity.Expressions.{expression_at}
use Rattle.wasm_validator_items.specs.Maps.{map_table_entry, map_global_entry, map_element}
use Rattle.wasm_validator_items.specs.OnePassSections.{EntriesAreRenamed}

module _ {R S : Type 0} (f : R → S) (to : ℕ → R) where
  abbrev then_renamed : ℕ → S
  then_renamed n = f (to n)

  pub ref-renames : (bytes : List ℕ) → Renames (map_ref f) (ref_at to bytes) (ref_at then_renamed bytes)
  unfolding ref_at
  ref-renames bytes =
      renames_same_then (byte_at bytes) _ _ (λ b.
      renames_if (b.0 == 0x63) (renames_map _ _ (heap-renames f to b.1) (λ h. refl))
      (renames_if (b.0 == 0x64) (renames_map _ _ (heap-renames f to b.1) (λ h. refl))
      (renames_if (b.0 == 0x65) (renames_same_map (abstract_heap_at b.1) _ _ (λ a. refl))
      (renames_same_map (abstract_heap_from b.0) _ _ (λ a. refl)))))

  global-renames : (bytes : List ℕ) → Renames (map_global f) (global_at to bytes) (global_at then_renamed bytes)
  unfolding global_at
  global-renames bytes = renames_then _ _ (val-renames f to bytes) (λ v. renames_same_map (flags_at 3 v.1) _ _ (λ b. refl))

  tables : (bytes : List ℕ) → Renames (map_table_entry f) (table_entry_at expression_at to bytes) (table_entry_at expression_at then_renamed bytes)
  unfolding table_entry_at
  tables bytes =
      renames_same_then (byte_at bytes) _ _ (λ b.
      renames_if (b.0 == 0x40)
      (renames_same_then (flags_at 0 b.1) _ _ (λ z. renames_then _ _ (table-renames f to z.1) (λ t. renames_same_map (expression_at t.1) _ _ (λ e. refl))))
      (renames_map _ _ (table-renames f to bytes) (λ t. refl)))

  globals : (bytes : List ℕ) → Renames (map_global_entry f) (global_entry_at expression_at to bytes) (global_entry_at expression_at then_renamed bytes)
  unfolding global_entry_at
  globals bytes = renames_then _ _ (global-renames bytes) (λ g. renames_same_map (expression_at g.1) _ _ (λ e. refl))

  -- functions and expressions with a mode
  functions-rename : (m : SegmentMode Expression) (bytes : List ℕ) → Renames (map_element f) (functions_with expression_at m bytes) (functions_with expression_at m bytes)
  functions-rename m bytes = renames_same_map (list_at u32_at bytes) _ _ (λ xs. refl)

  expressions-rename : (m : SegmentMode Expression) (r : Ref R) (bytes : List ℕ) → Renames (map_element f) (expressions_with expression_at m r bytes) (expressions_with expression_at m (map_ref f r) bytes)
  expressions-rename m r bytes = renames_same_map (list_at expression_at bytes) _ _ (λ es. refl)

  typed-rename : (m : SegmentMode Expression) (bytes : List ℕ) → Renames (map_element f) (option_and_then (λ r. expressions_with expression_at m r.0 r.1) (ref_at to bytes)) (option_and_then (λ r. expressions_with expression_at m r.0 r.1) (ref_at then_renamed bytes))
  typed-rename m bytes = renames_then _ _ (ref-renames bytes) (λ r. expressions-rename m r.0 r.1)

  elements : (bytes : List ℕ) → Renames (map_element f) (element_at expression_at to bytes) (element_at expression_at then_renamed bytes)
  unfolding element_at
  elements bytes =
      renames_same_then (u32_at bytes) _ _ (λ x.
      renames_if (x.0 == 0) (renames_same_then (expression_at x.1) _ _ (λ e. functions-rename (active None e.0) e.1))
      (renames_if (x.0 == 1) (renames_same_then (flags_at 0 x.1) _ _ (λ k. functions-rename passive k.1))
      (renames_if (x.0 == 2) (renames_same_then (u32_at x.1) _ _ (λ t. renames_same_then (expression_at t.1) _ _ (λ e. renames_same_then (flags_at 0 e.1) _ _ (λ k. functions-rename (active (Some t.0) e.0) k.1))))
      (renames_if (x.0 == 3) (renames_same_then (flags_at 0 x.1) _ _ (λ k. functions-rename declarative k.1))
      (renames_if (x.0 == 4) (renames_same_then (expression_at x.1) _ _ (λ e. expressions-rename (active None e.0) funcref e.1))
      (renames_if (x.0 == 5) (typed-rename passive x.1)
      (renames_if (x.0 == 6) (renames_same_then (u32_at x.1) _ _ (λ t. renames_same_then (expression_at t.1) _ _ (λ e. typed-rename (active (Some t.0) e.0) e.1)))
      (renames_if (x.0 == 7) (typed-rename declarative x.1) renames_none))))))))

pub entries : EntriesAreRenamed
entries = record {
  tables = λ bytes. (tables written index bytes).is;
  globals = λ bytes. (globals written index bytes).is;
  elements = λ bytes. (elements written index bytes).is;
}
