-- The ids of an interned group.
use Rattle.std.proofs.Common.{◌≡◌, refl, ap, ◌∙◌, ℕ, zero, suc, ◌+◌, ◌-◌, ◌≤◌, Bool, true, false, List, [], ◌∷◌, ◌++◌, length, slice_get, take, Some, arith, length-append}
use Rattle.std.proofs.lemmas.Option.{none-some, same_Some}
use Rattle.wasm_readers_types.specs.WasmReadersValues.declared.indices.TheConstants.{MAX_IDS}
use Rattle.wasm_readers_types.specs.declared.types.SubType.{SubType}
use Rattle.wasm_validator_type_list.specs.WasmValidatorTypeGroups.Elements.{numbers_from, ids_of_group}
use Rattle.wasm_validator_type_list.specs.WasmValidatorTypeGroups.Groups.{all_in, first_of}
use Rattle.wasm_validator_type_list.specs.ListViews.{Listing, types_in}
use Rattle.wasm_validator_type_list.specs.GroupInterning.{AreOnce, Interns, InternsTypes}
use Rattle.wasm_validator_type_list.proofs.WasmValidatorTypeGroups.Places.{get-end, first_of-suc}
use Rattle.wasm_validator_canonical.specs.GroupInterning.{InternsUnder}

-- where the group behind a group begins
pub first_of_next : {X : Type 0} (gs : List (List X)) (n : ℕ) (g : List X) → slice_get gs n ≡ Some g → first_of gs (n + 1) ≡ first_of gs n + length g
first_of_next [] n g e = absurd (none-some g e)
first_of_next (x ∷ xs) zero g e =
    let same : x ≡ g = same_Some x g e in
    let z : 0 + 1 ≡ 1 = omega arith in
    let l : length (all_in (take 1 (x ∷ xs))) ≡ length x = let h = length-append x [] in omega (arith, h) in
    ap (first_of (x ∷ xs)) z ∙ l ∙ ap length same ∙ (let w : length g ≡ 0 + length g = omega arith in w)
first_of_next (x ∷ xs) (suc n) g e =
    let z : suc n + 1 ≡ suc (n + 1) = omega arith in
    let a : first_of (x ∷ xs) (suc (n + 1)) ≡ length x + first_of xs (n + 1) = first_of-suc x xs (n + 1) in
    let b = first_of_next xs n g e in
    let c : first_of (x ∷ xs) (suc n) ≡ length x + first_of xs n = first_of-suc x xs n in
    ap (first_of (x ∷ xs)) z ∙ (let h : first_of (x ∷ xs) (suc (n + 1)) ≡ first_of (x ∷ xs) (suc n) + length g = omega (arith, a, b, c) in h)

ids_are : {X : Type 0} (gs : List (List X)) (n : ℕ) (g : List X) → slice_get gs n ≡ Some g → ids_of_group gs n ≡ numbers_from (first_of gs n) (length g)
ids_are gs n g e = let h = first_of_next gs n g e in let k : first_of gs (n + 1) - first_of gs n ≡ length g = omega (arith, h) in ap (numbers_from (first_of gs n)) k

module _ {A : Type 0} (old new : Listing A) (g : List (SubType A)) where
  pub there : (is_new : Bool) (n : ℕ) → Interns old new g is_new n → slice_get new.groups n ≡ Some g
  there true n i = ap (λ l. slice_get l.groups n) (i.added refl) ∙ ap (slice_get (old.groups ++ g ∷ [])) (i.last refl) ∙ get-end old.groups g
  there false n i = ap (λ l. slice_get l.groups n) (i.known refl) ∙ i.there refl

  pub interned_under : (is_new : Bool) (n : ℕ) (ids : List ℕ) → Interns old new g is_new n → InternsTypes old new g is_new n → (old.is_canonical ≡ true → AreOnce new.groups) → length (types_in new) ≤ MAX_IDS → ids ≡ ids_of_group new.groups n → InternsUnder old new g ids
  interned_under is_new n ids i t once room e = record { room = room; is_new = is_new; group = n; interned = i; types = t; once = once; are_ids = e ∙ ids_are new.groups n g (there is_new n i) }
