-- Entries of sections are read the same, but for the form of their type indices.
use Rattle.std.proofs.Common.{◌≡◌, refl, ap, ◌∙◌, ℕ, zero, suc, Bool, true, false, ◌==◌, if◌then◌else◌, List, [], ◌∷◌, map, length, Option, Some, None, option_map}
use Rattle.std.specs.Option.{option_and_then}
use Rattle.wasm_spec.specs.Syntax.{Ref, map_ref, map_table, map_global}
use Rattle.wasm_spec.specs.Values.{byte_at, u32_at, list_at, items_at}
use Rattle.wasm_spec.specs.BinaryTypes.{abstract_heap_from, abstract_heap_at, flags_at, ref_at, global_at}
use Rattle.wasm_spec.specs.BinarySections.{TableEntry, GlobalEntry, Element, ElementItems, functions, expressions, SegmentMode, passive, active, declarative, funcref, functions_with, expressions_with, table_entry_at, global_entry_at, element_at}
use Rattle.wasm_spec.proofs.Renaming.{Renames, renames_none, renames_if, renames_then, renames_map, renames_same_then, renames_same_map, heap-renames, val-renames, table-renames}

-- entries with each type index renamed
module _ {E R S : Type 0} (f : R → S) where
  abbrev pub map_table_entry : TableEntry E R → TableEntry E S
  map_table_entry t = record { ty = map_table f t.ty; init = t.init }

  abbrev pub map_global_entry : GlobalEntry E R → GlobalEntry E S
  map_global_entry g = record { ty = map_global f g.ty; init = g.init }

  abbrev pub map_items : ElementItems E R → ElementItems E S
  map_items (functions xs) = functions xs
  map_items (expressions r es) = expressions (map_ref f r) es

  abbrev pub map_element : Element E R → Element E S
  map_element e = record { mode = e.mode; items = map_items e.items }

module _ {R S : Type 0} (f : R → S) (to : ℕ → R) where
  abbrev then_renamed : ℕ → S
  then_renamed n = f (to n)

  ref-renames : (bytes : List ℕ) → Renames (map_ref f) (ref_at to bytes) (ref_at then_renamed bytes)
  unfolding ref_at
  ref-renames bytes =
      renames_same_then (byte_at bytes) _ _ (λ b.
      renames_if (b.0 == 0x63) (renames_map _ _ (heap-renames f to b.1) (λ h. refl))
      (renames_if (b.0 == 0x64) (renames_map _ _ (heap-renames f to b.1) (λ h. refl))
      (renames_if (b.0 == 0x65) (renames_same_map (abstract_heap_at b.1) _ _ (λ a. refl))
      (renames_same_map (abstract_heap_from b.0) _ _ (λ a. refl)))))

  global-renames : (bytes : List ℕ) → Renames (map_global f) (global_at to bytes) (global_at then_renamed bytes)
  unfolding global_at
  global-renames bytes = renames_then _ _ (val-renames f to bytes) (λ v. renames_same_map (flags_at 3 v.1) _ _ (λ b. refl))

  module _ {E : Type 0} (expression_at : List ℕ → Option (E × List ℕ)) where
    pub tables : (bytes : List ℕ) → Renames (map_table_entry f) (table_entry_at expression_at to bytes) (table_entry_at expression_at then_renamed bytes)
    unfolding table_entry_at
    tables bytes =
        renames_same_then (byte_at bytes) _ _ (λ b.
        renames_if (b.0 == 0x40)
        (renames_same_then (flags_at 0 b.1) _ _ (λ z. renames_then _ _ (table-renames f to z.1) (λ t. renames_same_map (expression_at t.1) _ _ (λ e. refl))))
        (renames_map _ _ (table-renames f to bytes) (λ t. refl)))

    pub globals : (bytes : List ℕ) → Renames (map_global_entry f) (global_entry_at expression_at to bytes) (global_entry_at expression_at then_renamed bytes)
    unfolding global_entry_at
    globals bytes = renames_then _ _ (global-renames bytes) (λ g. renames_same_map (expression_at g.1) _ _ (λ e. refl))

    -- functions and expressions with a mode
    functions-rename : (m : SegmentMode E) (bytes : List ℕ) → Renames (map_element f) (functions_with expression_at m bytes) (functions_with expression_at m bytes)
    functions-rename m bytes = renames_same_map (list_at u32_at bytes) _ _ (λ xs. refl)

    expressions-rename : (m : SegmentMode E) (r : Ref R) (bytes : List ℕ) → Renames (map_element f) (expressions_with expression_at m r bytes) (expressions_with expression_at m (map_ref f r) bytes)
    expressions-rename m r bytes = renames_same_map (list_at expression_at bytes) _ _ (λ es. refl)

    typed-rename : (m : SegmentMode E) (bytes : List ℕ) → Renames (map_element f) (option_and_then (λ r. expressions_with expression_at m r.0 r.1) (ref_at to bytes)) (option_and_then (λ r. expressions_with expression_at m r.0 r.1) (ref_at then_renamed bytes))
    typed-rename m bytes = renames_then _ _ (ref-renames bytes) (λ r. expressions-rename m r.0 r.1)

    pub elements : (bytes : List ℕ) → Renames (map_element f) (element_at expression_at to bytes) (element_at expression_at then_renamed bytes)
    unfolding element_at
    elements bytes =
        renames_same_then (u32_at bytes) _ _ (λ x.
        renames_if (x.0 == 0) (renames_same_then (expression_at x.1) _ _ (λ e. functions-rename (active None e.0) e.1))
        (renames_if (x.0 == 1) (renames_same_then (flags_at 0 x.1) _ _ (λ k. functions-rename passive k.1))
        (renames_if (x.0 == 2) (renames_same_then (u32_at x.1) _ _ (λ t. renames_same_then (expression_at t.1) _ _ (λ e. renames_same_then (flags_at 0 e.1) _ _ (λ k. functions-rename (active (Some t.0) e.0) k.1))))
        (renames_if (x.0 == 3) (renames_same_then (flags_at 0 x.1) _ _ (λ k. functions-rename declarative k.1))
        (renames_if (x.0 == 4) (renames_same_then (expression_at x.1) _ _ (λ e. expressions-rename (active None e.0) funcref e.1))
        (renames_if (x.0 == 5) (typed-rename passive x.1)
        (renames_if (x.0 == 6) (renames_same_then (u32_at x.1) _ _ (λ t. renames_same_then (expression_at t.1) _ _ (λ e. typed-rename (active (Some t.0) e.0) e.1)))
        (renames_if (x.0 == 7) (typed-rename declarative x.1) renames_none))))))))

-- so many items
module _ {V W : Type 0} (u : V → W) (reads : List ℕ → Option (V × List ℕ)) (renamed : List ℕ → Option (W × List ℕ)) (h : (bytes : List ℕ) → Renames u (reads bytes) (renamed bytes)) where
  none_left : (b : Bool) → (if b then Some [] else None) ≡ option_map (map u) (if b then Some [] else None)
  none_left true = refl
  none_left false = refl

  one_more : (v : V) (o : Option (List V)) (p : Option (List W)) → p ≡ option_map (map u) o → option_map (λ ws. u v ∷ ws) p ≡ option_map (map u) (option_map (λ vs. v ∷ vs) o)
  one_more v None p e = ap (option_map (λ ws. u v ∷ ws)) e
  one_more v (Some vs) p e = ap (option_map (λ ws. u v ∷ ws)) e

  behind_first :
      (n : ℕ) → ((bytes : List ℕ) → items_at renamed n bytes ≡ option_map (map u) (items_at reads n bytes))
      → (o : Option (V × List ℕ)) (p : Option (W × List ℕ)) → Renames u o p
      → option_and_then (λ y. option_map (λ ws. y.0 ∷ ws) (items_at renamed n y.1)) p ≡ option_map (map u) (option_and_then (λ x. option_map (λ vs. x.0 ∷ vs) (items_at reads n x.1)) o)
  behind_first n rest None p r = ap (option_and_then (λ y. option_map (λ ws. y.0 ∷ ws) (items_at renamed n y.1))) r.is
  behind_first n rest (Some x) p r =
      ap (option_and_then (λ y. option_map (λ ws. y.0 ∷ ws) (items_at renamed n y.1))) r.is ∙ one_more x.0 (items_at reads n x.1) (items_at renamed n x.1) (rest x.1)

  pub items : (n : ℕ) (bytes : List ℕ) → items_at renamed n bytes ≡ option_map (map u) (items_at reads n bytes)
  items zero bytes = none_left (length bytes == 0)
  items (suc n) bytes = behind_first n (items n) (reads bytes) (renamed bytes) (h bytes)
