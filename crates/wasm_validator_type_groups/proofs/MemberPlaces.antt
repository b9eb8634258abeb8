-- Where the members of a group stand among all.
use Rattle.std.proofs.Common.{◌≡◌, refl, sym, ap, ◌∙◌, ℕ, zero, suc, ◌+◌, ◌-◌, ◌<◌, ◌≤◌, Bool, false, true≢false, List, [], ◌∷◌, length, take, drop, slice_get, Some, arith, length-append, take-append-drop}
use Rattle.std.specs.Bool.{Decides}
use Rattle.std.specs.declared.ops.Range.{Range}
use Rattle.std.proofs.lemmas.List.Concat.{flat_map-append}
use Rattle.wasm_readers_types.specs.WasmReadersValues.declared.indices.CoreTypeId.{CoreTypeId}
use Rattle.wasm_validator_type_groups.specs.Spans.{span}
use Rattle.std.proofs.lemmas.Option.{none-some, same_Some}
use Rattle.wasm_validator_type_groups.specs.Groups.{all_in, first_of}
use Rattle.wasm_validator_type_groups.proofs.Places.{get-left, get-right, first_of-suc}

module _ {X : Type 0} where
  pub get-member : (gs : List (List X)) (k : ℕ) (g : List X) (i : ℕ) → slice_get gs k ≡ Some g → i < length g → slice_get (all_in gs) (first_of gs k + i) ≡ slice_get g i
  get-member [] k g i e l = absurd (none-some g e)
  get-member (x ∷ xs) zero g i e l =
      let same : x ≡ g = same_Some x g e in
      let z : first_of (x ∷ xs) 0 + i ≡ i = omega arith in
      ap (slice_get (all_in (x ∷ xs))) z ∙ get-left x (all_in xs) i (omega (arith, l, ap length same)) ∙ ap (λ y. slice_get y i) same
  get-member (x ∷ xs) (suc k) g i e l =
      let z : first_of (x ∷ xs) (suc k) + i ≡ length x + (first_of xs k + i) = omega (arith, first_of-suc x xs k) in
      ap (slice_get (all_in (x ∷ xs))) z ∙ get-right x (all_in xs) (first_of xs k + i) ∙ get-member xs k g i e l

  pub next_first : (gs : List (List X)) (k : ℕ) (g : List X) → slice_get gs k ≡ Some g → first_of gs (k + 1) ≡ first_of gs k + length g
  next_first [] k g e = absurd (none-some g e)
  next_first (x ∷ xs) zero g e =
      let same : x ≡ g = same_Some x g e in
      omega (arith, length-append x [], ap length same)
  next_first (x ∷ xs) (suc k) g e =
      let n : suc k + 1 ≡ suc (k + 1) = omega arith in
      omega (arith, ap (first_of (x ∷ xs)) n, first_of-suc x xs (k + 1), first_of-suc x xs k, next_first xs k g e)

  group_there : (gs : List (List X)) (k : ℕ) → k < length gs → (g : List X) × (slice_get gs k ≡ Some g)
  group_there [] k l = absurd (omega (arith, l))
  group_there (x ∷ xs) zero l = (x, refl)
  group_there (x ∷ xs) (suc k) l = group_there xs k (omega (arith, l))

  first_within : (gs : List (List X)) (k : ℕ) → first_of gs k ≤ length (all_in gs)
  first_within gs k = omega (arith, ap (λ l. length (all_in l)) (take-append-drop k gs), ap length (flat_map-append (λ l. l) (take k gs) (drop k gs)), length-append (all_in (take k gs)) (all_in (drop k gs)))

  same_items : (xs ys : List X) → length xs ≡ length ys → ((i : ℕ) → i < length xs → slice_get xs i ≡ slice_get ys i) → xs ≡ ys
  same_items [] [] n h = refl
  same_items [] (y ∷ ys) n h = absurd (omega (arith, n))
  same_items (x ∷ xs) [] n h = absurd (omega (arith, n))
  same_items (x ∷ xs) (y ∷ ys) n h =
      let heads : x ≡ y = same_Some x y (h 0 (omega arith)) in
      let tails : xs ≡ ys = same_items xs ys (omega (arith, n)) (λ i l. h (suc i) (omega (arith, l))) in
      λ i. heads i ∷ tails i

  -- what is read of the group with the number k, where its first id, the one behind it and how many there are between them are these
  module _ (gs : List (List X)) (k : ℕ) (g : List X) (ids : Range CoreTypeId) (start end long : ℕ) (is : ids ≡ span (first_of gs k) (first_of gs (k + 1))) (start_is : start ≡ ids.start.index)
      (end_is : end ≡ ids.end.index) (long_is : long ≡ end - start) where
    first_is : start ≡ first_of gs k
    first_is = start_is ∙ ap (λ (r : Range CoreTypeId). r.start.index) is

    next_is : end ≡ first_of gs (k + 1)
    next_is = end_is ∙ ap (λ (r : Range CoreTypeId). r.end.index) is

    pub other_length : (long ≡ length g → ⊥) → Decides false (slice_get gs k ≡ Some g)
    other_length other = ((λ f. absurd (true≢false (sym f))), (λ e. absurd (other (omega (arith, long_is, first_is, next_is, next_first gs k g e)))))

    pub stands_at : k < length gs → long ≡ length g → start + length g ≤ length (all_in gs)
    stands_at l e = let there = group_there gs k l in omega (arith, e, long_is, first_is, next_is, next_first gs k there.0 there.1, first_within gs k, first_within gs (k + 1))

    pub is_there : (b : Bool) → k < length gs → long ≡ length g → Decides b ((i : ℕ) → i < length g → slice_get (all_in gs) (start + i) ≡ slice_get g i) → Decides b (slice_get gs k ≡ Some g)
    is_there b l e d =
        let there = group_there gs k l in
        let many : length there.0 ≡ length g = omega (arith, e, long_is, first_is, next_is, next_first gs k there.0 there.1) in (
          (λ f. there.1 ∙ ap Some (same_items there.0 g many (λ i m. sym (get-member gs k there.0 i there.1 m) ∙ ap (λ s. slice_get (all_in gs) (s + i)) (sym first_is) ∙ d.0 f i (omega (arith, m, many))))),
          (λ f. d.1 (λ i m. ap (λ s. slice_get (all_in gs) (s + i)) first_is ∙ get-member gs k g i f m)),
        )
