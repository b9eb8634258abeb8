-- An element segment that is read and typed in one pass is read and then added.
use Rattle.std.proofs.Common.{◌≡◌, refl, sym, ap, ◌∙◌, ℕ, zero, suc, ◌<◌, ◌==◌, nat_lt, Bool, true, false, ◌&&◌, if◌then◌else◌, List, slice_get, Option, Some, None, option_map, arith}
use Rattle.std.specs.Option.{option_and_then}
use Rattle.std.proofs.Math.Bool.{and-true}
use Rattle.std.proofs.lemmas.Bool.{eqb-true, ltb-false, true_from_ne_false, false_from_ne_true}
use Rattle.wasm_spec.specs.Syntax.{Ref, Val, reference, Sub, Table}
use Rattle.wasm_spec.specs.MatchingTests.{matches_val}
use Rattle.wasm_spec.specs.Values.{u32_at, list_at}
use Rattle.wasm_spec.specs.BinaryTypes.{flags_at, ref_at}
use Rattle.wasm_spec.specs.BinarySections.{Element, functions, expressions, SegmentMode, passive, active, declarative, funcref, functions_with, expressions_with, element_from, element_at}
use Rattle.wasm_spec.specs.Features.{Features}
use Rattle.wasm_spec_rules.specs.Attempts.{passes}
use Rattle.wasm_spec_rules.specs.Parts.{Expression}
use Rattle.wasm_spec_rules.specs.SegmentRules.{index_or_first}
use Rattle.wasm_spec_rules.proofs.Tests.{unless}
use Rattle.wasm_readers.specs.WrittenIndices.{written}
use Rattle.wasm_readers_types.specs.WasmReadersValues.declared.indices.UnpackedIndex.{UnpackedIndex}
use Rattle.wasm_validator_resources.specs.Answers.{world}
use Rattle.wasm_validator_segments.specs.WasmValidatorReferences.WasmSpecValidity.Expressions.{expression_at}
use Rattle.wasm_validator_segments.specs.Elements.{may_go, segment_table_at, items_type_at, typed_items_at, typed_element_from, typed_element_at}
use Rattle.wasm_validator_segments.specs.Offsets.{behind_table_offset}
use Rattle.wasm_validator_types.specs.Spaces.{Spaces}
use Rattle.wasm_validator_items.specs.Machine.{with_element, with_items, element_step}
use Rattle.wasm_validator_items.specs.Entries.{listed_items_type, is_offset, are_items, may_be_placed, add_element}
use Rattle.wasm_validator_items.proofs.Attempts.{behind_where, beside, added, then_mapped, then_then, then_same, map_then}
use Rattle.wasm_validator_items.proofs.ItemLists.{C, Items, placed, IsPlaced, with_more, function_items, kind_items, expression_items, typed_items, functions_placed, kinds_placed, funcrefs_placed, types_placed}
use Rattle.wasm_validator_items.proofs.Offsets.{table_offset_is}

map_mapped : {V W X : Type 0} (f : W → X) (g : V → W) (o : Option V) → option_map f (option_map g o) ≡ option_map (λ x. f (g x)) o
map_mapped f g None = refl
map_mapped f g (Some x) = refl

-- the flags from 0 to 7, and those above them
flags : (P : ℕ → Type 0) → P 0 → P 1 → P 2 → P 3 → P 4 → P 5 → P 6 → P 7 → ((flag : ℕ) → 7 < flag → P flag) → (flag : ℕ) → P flag
flags P a b c d e f g h more zero = a
flags P a b c d e f g h more (suc zero) = b
flags P a b c d e f g h more (suc (suc zero)) = c
flags P a b c d e f g h more (suc (suc (suc zero))) = d
flags P a b c d e f g h more (suc (suc (suc (suc zero)))) = e
flags P a b c d e f g h more (suc (suc (suc (suc (suc zero))))) = f
flags P a b c d e f g h more (suc (suc (suc (suc (suc (suc zero)))))) = g
flags P a b c d e f g h more (suc (suc (suc (suc (suc (suc (suc zero))))))) = h
flags P a b c d e f g h more (suc (suc (suc (suc (suc (suc (suc (suc n)))))))) = more (suc (suc (suc (suc (suc (suc (suc (suc n)))))))) (omega arith)

-- tests in another order
swapped : (a b : Bool) → (a && b) ≡ (b && a)
swapped true true = refl
swapped true false = refl
swapped false true = refl
swapped false false = refl

module _ (F : Features) (declares : List (UnpackedIndex × Sub UnpackedIndex)) (s : Spaces) where
  abbrev Mode : Type 0
  Mode = SegmentMode Expression × List ℕ

  abbrev Segment : Type 0
  Segment = Element Expression UnpackedIndex × List ℕ

  abbrev Goes : Type 0
  Goes = Option ℕ × List ℕ

  abbrev Typed : Type 0
  Typed = Val UnpackedIndex × List ℕ

  abbrev add : Element Expression UnpackedIndex → Option Spaces
  add = add_element F declares s

  abbrev next : Segment → Option (Spaces × List ℕ)
  next x = option_map (beside x.1) (add x.0)

  abbrev with : Typed → Spaces × List ℕ
  with x = (with_items s x.0, x.1)

  -- the table that a segment goes to, where it is there and the offset is one into it
  abbrev table_of : SegmentMode Expression → Option ℕ
  table_of passive = None
  table_of declarative = None
  table_of (active x e) = Some (index_or_first x)

  abbrev goes : SegmentMode Expression → Bool
  goes passive = F.bulk_memory
  goes declarative = F.bulk_memory
  goes (active x e) = passes (λ t. is_offset F declares s t.is_64 e) (slice_get s.tables (index_or_first x))

  held : (r : Ref UnpackedIndex) (e : Expression) (o : Option (Table UnpackedIndex))
      → passes (λ t. matches_val (world (C F declares s)) (reference r) (reference t.element) && is_offset F declares s t.is_64 e) o
      ≡ (passes (λ t. is_offset F declares s t.is_64 e) o && passes (λ t. matches_val (world (C F declares s)) (reference r) (reference t.element)) o)
  held r e None = refl
  held r e (Some t) = swapped (matches_val (world (C F declares s)) (reference r) (reference t.element)) (is_offset F declares s t.is_64 e)

  placed_is : (r : Ref UnpackedIndex) (m : SegmentMode Expression) → may_be_placed F declares s r m ≡ (goes m && may_go (C F declares s) (table_of m) (reference r))
  placed_is r passive = sym (and-true F.bulk_memory)
  placed_is r declarative = sym (and-true F.bulk_memory)
  placed_is r (active x e) = held r e (slice_get s.tables (index_or_first x))

  -- where a segment goes, of what is read
  abbrev going : Option Mode → Option Goes
  going o = option_and_then (λ m. if goes m.0 then Some (table_of m.0, m.1) else None) o

  -- its items behind that
  abbrev of_items : SegmentMode Expression → Items F declares s × List ℕ → Segment
  of_items m i = (record { mode = m; items = i.0 }, i.1)

  last_test : (b a g : Bool) (r : Ref UnpackedIndex) (more : List ℕ) (y : Goes)
      → option_map with (option_and_then (λ (x : Goes). if a && g then Some (reference r, more) else None) (if b then Some y else None)) ≡ option_map (beside more) (if a && (b && g) then Some (with_element s r) else None)
  last_test true true true r more y = refl
  last_test true true false r more y = refl
  last_test true false g r more y = refl
  last_test false true g r more y = refl
  last_test false false g r more y = refl

  no_items : (b : Bool) (y : Goes) → option_map with (option_and_then (λ (x : Goes). placed F declares s x.0 None) (if b then Some y else None)) ≡ None
  no_items true y = refl
  no_items false y = refl

  behind_items : (m : Mode) (o : Option (Items F declares s × List ℕ))
      → option_map with (option_and_then (λ (x : Goes). placed F declares s (table_of m.0) o) (if goes m.0 then Some (table_of m.0, m.1) else None)) ≡ added add (option_map (of_items m.0) o)
  behind_items m None = no_items (goes m.0) (table_of m.0, m.1)
  behind_items m (Some i) =
      let r : Ref UnpackedIndex = listed_items_type s i.0 in
      last_test (goes m.0) (are_items F declares s i.0) (may_go (C F declares s) (table_of m.0) (reference r)) r i.1 (table_of m.0, m.1)
      ∙ ap (λ (b : Bool). option_map (beside i.1) (if are_items F declares s i.0 && b then Some (with_element s r) else None)) (sym (placed_is r m.0))

  module _ (typed : Option ℕ → List ℕ → Option Typed) (items : List ℕ → Option (Items F declares s × List ℕ)) (are : IsPlaced F declares s typed items) where
    behind_table : (b : Bool) (y : Goes)
        → option_and_then (λ (x : Goes). typed x.0 x.1) (if b then Some y else None) ≡ option_and_then (λ (x : Goes). placed F declares s y.0 (items y.1)) (if b then Some y else None)
    behind_table true y = are y.0 y.1
    behind_table false y = refl

    behind_mode : (o : Option Mode) → option_map with (option_and_then (λ (x : Goes). typed x.0 x.1) (going o)) ≡ added add (option_and_then (λ m. option_map (of_items m.0) (items m.1)) o)
    behind_mode None = refl
    behind_mode (Some m) = ap (option_map with) (behind_table (goes m.0) (table_of m.0, m.1)) ∙ behind_items m (items m.1)

    -- of a segment whose place and items are so
    pub segment : (table : Option Goes) (o : Option Mode) (whole : Option Segment) → table ≡ going o → whole ≡ option_and_then (λ m. option_map (of_items m.0) (items m.1)) o
        → option_map with (option_and_then (λ (x : Goes). typed x.0 x.1) table) ≡ added add whole
    segment table o whole e f = ap (λ (g : Option Goes). option_map with (option_and_then (λ (x : Goes). typed x.0 x.1) g)) e ∙ behind_mode o ∙ sym (ap (added add) f)

  -- an offset into a table
  abbrev active_at : Option ℕ → Expression × List ℕ → Mode
  active_at x e = (active x e.0, e.1)

  one_offset : (b : Bool) (y : Option ℕ) (more : List ℕ) → option_map (with_more y) (if b then Some more else None) ≡ (if b then Some (y, more) else None)
  one_offset true y more = refl
  one_offset false y more = refl

  offset_goes : (x : Option ℕ) (o : Option (Expression × List ℕ))
      → option_map (with_more (Some (index_or_first x))) (behind_where (λ e. goes (active x e)) o) ≡ going (option_map (active_at x) o)
  offset_goes x None = refl
  offset_goes x (Some e) = one_offset (goes (active x e.0)) (Some (index_or_first x)) e.1

  table_goes : (x : Option ℕ) (bytes : List ℕ)
      → option_map (with_more (Some (index_or_first x))) (behind_table_offset (C F declares s) F s.imported_globals (index_or_first x) bytes) ≡ going (option_map (active_at x) (expression_at bytes))
  table_goes x bytes = ap (option_map (with_more (Some (index_or_first x)))) (table_offset_is F declares s (index_or_first x) bytes) ∙ offset_goes x (expression_at bytes)

  abbrev tables : ℕ → List ℕ → Option Goes
  tables flag bytes = segment_table_at (C F declares s) F s.imported_globals flag bytes

  -- the place that no index, an index and none are written for
  abbrev first_mode : List ℕ → Option Mode
  first_mode bytes = option_map (active_at None) (expression_at bytes)

  abbrev written_mode : List ℕ → Option Mode
  written_mode bytes = option_and_then (λ x. option_map (active_at (Some x.0)) (expression_at x.1)) (u32_at bytes)

  first_goes_0 : (bytes : List ℕ) → tables 0 bytes ≡ going (first_mode bytes)
  unfolding segment_table_at
  first_goes_0 bytes = table_goes None bytes

  first_goes_4 : (bytes : List ℕ) → tables 4 bytes ≡ going (first_mode bytes)
  unfolding segment_table_at
  first_goes_4 bytes = table_goes None bytes

  written_goes : (bytes : List ℕ)
      → option_and_then (λ (x : ℕ × List ℕ). option_map (with_more (Some x.0)) (behind_table_offset (C F declares s) F s.imported_globals x.0 x.1)) (u32_at bytes) ≡ going (written_mode bytes)
  written_goes bytes =
      then_same (λ (x : ℕ × List ℕ). option_map (with_more (Some x.0)) (behind_table_offset (C F declares s) F s.imported_globals x.0 x.1)) (λ x. going (option_map (active_at (Some x.0)) (expression_at x.1)))
      (λ x. table_goes (Some x.0) x.1) (u32_at bytes)
      ∙ sym (then_then (λ (m : Mode). if goes m.0 then Some (table_of m.0, m.1) else None) (λ (x : ℕ × List ℕ). option_map (active_at (Some x.0)) (expression_at x.1)) (u32_at bytes))

  written_goes_2 : (bytes : List ℕ) → tables 2 bytes ≡ going (written_mode bytes)
  unfolding segment_table_at
  written_goes_2 bytes = written_goes bytes

  written_goes_6 : (bytes : List ℕ) → tables 6 bytes ≡ going (written_mode bytes)
  unfolding segment_table_at
  written_goes_6 bytes = written_goes bytes

  passive_goes_1 : (bytes : List ℕ) → tables 1 bytes ≡ going (Some (passive, bytes))
  unfolding segment_table_at
  passive_goes_1 bytes = refl

  passive_goes_5 : (bytes : List ℕ) → tables 5 bytes ≡ going (Some (passive, bytes))
  unfolding segment_table_at
  passive_goes_5 bytes = refl

  declarative_goes_3 : (bytes : List ℕ) → tables 3 bytes ≡ going (Some (declarative, bytes))
  unfolding segment_table_at
  declarative_goes_3 bytes = refl

  declarative_goes_7 : (bytes : List ℕ) → tables 7 bytes ≡ going (Some (declarative, bytes))
  unfolding segment_table_at
  declarative_goes_7 bytes = refl

  -- the items behind a mode
  functions_are : (m : SegmentMode Expression) (bytes : List ℕ) → functions_with expression_at m bytes ≡ option_map (of_items m) (function_items F declares s bytes)
  functions_are m bytes = sym (map_mapped (of_items m) (λ (xs : List ℕ × List ℕ). (functions xs.0, xs.1)) (list_at u32_at bytes))

  kinds_are : (m : SegmentMode Expression) (bytes : List ℕ) → option_and_then (λ k. functions_with expression_at m k.1) (flags_at 0 bytes) ≡ option_map (of_items m) (kind_items F declares s bytes)
  kinds_are m bytes =
      then_same (λ (k : ℕ × List ℕ). functions_with expression_at m k.1) (λ k. option_map (of_items m) (function_items F declares s k.1)) (λ k. functions_are m k.1) (flags_at 0 bytes)
      ∙ sym (map_then (of_items m) (λ (k : ℕ × List ℕ). function_items F declares s k.1) (flags_at 0 bytes))

  expressions_are : (m : SegmentMode Expression) (r : Ref UnpackedIndex) (bytes : List ℕ) → expressions_with expression_at m r bytes ≡ option_map (of_items m) (expression_items F declares s r bytes)
  expressions_are m r bytes = sym (map_mapped (of_items m) (λ (es : List Expression × List ℕ). (expressions r es.0, es.1)) (list_at expression_at bytes))

  types_are : (m : SegmentMode Expression) (bytes : List ℕ) → option_and_then (λ r. expressions_with expression_at m r.0 r.1) (ref_at written bytes) ≡ option_map (of_items m) (typed_items F declares s bytes)
  types_are m bytes =
      then_same (λ (r : Ref UnpackedIndex × List ℕ). expressions_with expression_at m r.0 r.1) (λ r. option_map (of_items m) (expression_items F declares s r.0 r.1)) (λ r. expressions_are m r.0 r.1) (ref_at written bytes)
      ∙ sym (map_then (of_items m) (λ (r : Ref UnpackedIndex × List ℕ). expression_items F declares s r.0 r.1) (ref_at written bytes))

  -- behind each form of mode
  module _ (form : SegmentMode Expression → List ℕ → Option Segment) (items : List ℕ → Option (Items F declares s × List ℕ))
      (are : (m : SegmentMode Expression) (bytes : List ℕ) → form m bytes ≡ option_map (of_items m) (items bytes)) where
    abbrev behind : Option Mode → Option Segment
    behind o = option_and_then (λ m. option_map (of_items m.0) (items m.1)) o

    active_form : (x : Option ℕ) (bytes : List ℕ) → option_and_then (λ e. form (active x e.0) e.1) (expression_at bytes) ≡ behind (option_map (active_at x) (expression_at bytes))
    active_form x bytes =
        then_same (λ (e : Expression × List ℕ). form (active x e.0) e.1) (λ e. option_map (of_items (active x e.0)) (items e.1)) (λ e. are (active x e.0) e.1) (expression_at bytes)
        ∙ sym (then_mapped (λ (m : Mode). option_map (of_items m.0) (items m.1)) (active_at x) (expression_at bytes))

    written_form : (bytes : List ℕ) → option_and_then (λ x. option_and_then (λ e. form (active (Some x.0) e.0) e.1) (expression_at x.1)) (u32_at bytes) ≡ behind (written_mode bytes)
    written_form bytes =
        then_same (λ (x : ℕ × List ℕ). option_and_then (λ e. form (active (Some x.0) e.0) e.1) (expression_at x.1)) (λ x. behind (option_map (active_at (Some x.0)) (expression_at x.1))) (λ x. active_form (Some x.0) x.1) (u32_at bytes)
        ∙ sym (then_then (λ (m : Mode). option_map (of_items m.0) (items m.1)) (λ (x : ℕ × List ℕ). option_map (active_at (Some x.0)) (expression_at x.1)) (u32_at bytes))

  -- by the flag
  abbrev IsAdded : ℕ → Type 0
  IsAdded flag = (bytes : List ℕ) → option_map with (typed_element_from (C F declares s) F s.imported_globals flag bytes) ≡ added add (element_from expression_at written flag bytes)

  abbrev kinds : SegmentMode Expression → List ℕ → Option Segment
  kinds m bytes = option_and_then (λ k. functions_with expression_at m k.1) (flags_at 0 bytes)

  abbrev types : SegmentMode Expression → List ℕ → Option Segment
  types m bytes = option_and_then (λ r. expressions_with expression_at m r.0 r.1) (ref_at written bytes)

  abbrev typed_by : ℕ → Option ℕ → List ℕ → Option Typed
  typed_by flag t bytes = option_and_then (λ v. typed_items_at (C F declares s) F s.imported_globals flag t v.0 v.1) (items_type_at (C F declares s) F flag bytes)

  flag_0 : IsAdded 0
  flag_0 bytes =
      segment (typed_by 0) (function_items F declares s) (functions_placed F declares s) (tables 0 bytes) (first_mode bytes) (element_from expression_at written 0 bytes) (first_goes_0 bytes)
      (active_form (functions_with expression_at) (function_items F declares s) functions_are None bytes)

  flag_1 : IsAdded 1
  flag_1 bytes =
      segment (typed_by 1) (kind_items F declares s) (kinds_placed F declares s) (tables 1 bytes) (Some (passive, bytes)) (element_from expression_at written 1 bytes) (passive_goes_1 bytes) (kinds_are passive bytes)

  flag_2 : IsAdded 2
  flag_2 bytes =
      segment (typed_by 2) (kind_items F declares s) (kinds_placed F declares s) (tables 2 bytes) (written_mode bytes) (element_from expression_at written 2 bytes) (written_goes_2 bytes)
      (written_form kinds (kind_items F declares s) kinds_are bytes)

  flag_3 : IsAdded 3
  flag_3 bytes =
      segment (typed_by 3) (kind_items F declares s) (kinds_placed F declares s) (tables 3 bytes) (Some (declarative, bytes)) (element_from expression_at written 3 bytes) (declarative_goes_3 bytes) (kinds_are declarative bytes)

  flag_4 : IsAdded 4
  flag_4 bytes =
      segment (typed_by 4) (expression_items F declares s funcref) (funcrefs_placed F declares s) (tables 4 bytes) (first_mode bytes) (element_from expression_at written 4 bytes) (first_goes_4 bytes)
      (active_form (λ m. expressions_with expression_at m funcref) (expression_items F declares s funcref) (λ m. expressions_are m funcref) None bytes)

  flag_5 : IsAdded 5
  flag_5 bytes =
      segment (typed_by 5) (typed_items F declares s) (types_placed F declares s 5 refl) (tables 5 bytes) (Some (passive, bytes)) (element_from expression_at written 5 bytes) (passive_goes_5 bytes) (types_are passive bytes)

  flag_6 : IsAdded 6
  flag_6 bytes =
      segment (typed_by 6) (typed_items F declares s) (types_placed F declares s 6 refl) (tables 6 bytes) (written_mode bytes) (element_from expression_at written 6 bytes) (written_goes_6 bytes)
      (written_form types (typed_items F declares s) types_are bytes)

  flag_7 : IsAdded 7
  flag_7 bytes =
      segment (typed_by 7) (typed_items F declares s) (types_placed F declares s 7 refl) (tables 7 bytes) (Some (declarative, bytes)) (element_from expression_at written 7 bytes) (declarative_goes_7 bytes) (types_are declarative bytes)

  -- a flag above 7 is that of no segment
  other : (flag k : ℕ) → k < flag → (flag == k) ≡ false
  other flag k h = false_from_ne_true (flag == k) (λ e. absurd (omega (arith, eqb-true flag k e, h)))

  past : (flag : ℕ) → 7 < flag → nat_lt 7 flag ≡ true
  past flag h = true_from_ne_false (nat_lt 7 flag) (λ e. absurd (omega (arith, ltb-false 7 flag e, h)))

  no_segment : (flag : ℕ) → 7 < flag → (bytes : List ℕ) → element_from expression_at written flag bytes ≡ None
  no_segment flag h bytes =
      unless (flag == 0) _ _ (other flag 0 (omega (arith, h)))
      ∙ unless (flag == 1) _ _ (other flag 1 (omega (arith, h)))
      ∙ unless (flag == 2) _ _ (other flag 2 (omega (arith, h)))
      ∙ unless (flag == 3) _ _ (other flag 3 (omega (arith, h)))
      ∙ unless (flag == 4) _ _ (other flag 4 (omega (arith, h)))
      ∙ unless (flag == 5) _ _ (other flag 5 (omega (arith, h)))
      ∙ unless (flag == 6) _ _ (other flag 6 (omega (arith, h)))
      ∙ unless (flag == 7) _ _ (other flag 7 h)

  flag_past : (flag : ℕ) → 7 < flag → IsAdded flag
  flag_past flag h bytes =
      ap
      (λ (b : Bool). option_map with (if b then None
      else option_and_then (λ (x : Goes). typed_by flag x.0 x.1) (tables flag bytes)))
      (past flag h)
      ∙ sym (ap (added add) (no_segment flag h bytes))

  flagged : (flag : ℕ) → IsAdded flag
  flagged = flags IsAdded flag_0 flag_1 flag_2 flag_3 flag_4 flag_5 flag_6 flag_7 flag_past

  pub element_is_added : (bytes : List ℕ) → element_step F declares s bytes ≡ added add (element_at expression_at written bytes)
  unfolding element_step typed_element_at element_at
  element_is_added bytes =
      map_then with (λ (f : ℕ × List ℕ). typed_element_from (C F declares s) F s.imported_globals f.0 f.1) (u32_at bytes)
      ∙ then_same (λ (f : ℕ × List ℕ). option_map with (typed_element_from (C F declares s) F s.imported_globals f.0 f.1)) (λ f. added add (element_from expression_at written f.0 f.1)) (λ f. flagged f.0 f.1) (u32_at bytes)
      ∙ sym (then_then next (λ (f : ℕ × List ℕ). element_from expression_at written f.0 f.1) (u32_at bytes))
