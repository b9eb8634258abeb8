-- How many groups there are.
use Rattle.std.proofs.Common.{◌≡◌, refl, ℕ, suc, ◌+◌, ◌<◌, ◌≤◌, List, [], ◌∷◌, ◌++◌, length, slice_get, Some, arith, length-append}
use Rattle.wasm_validator_type_ancestors.specs.WasmValidatorTypeGroups.Groups.{all_in}
use Rattle.wasm_validator_type_list.specs.ListSoundness.{count_of_empty}

pub few_groups : {X : Type 0} (gs : List (List X)) → length gs ≤ length (all_in gs) + count_of_empty gs
few_groups [] = omega arith
few_groups ([] ∷ gs) = let h = few_groups gs in omega (arith, h)
few_groups ((x ∷ xs) ∷ gs) = let h = few_groups gs in omega (arith, h, length-append xs (all_in gs))

count-push : {X : Type 0} (gs : List (List X)) (g : List X) → count_of_empty (gs ++ g ∷ []) ≡ count_of_empty gs + count_of_empty (g ∷ [])
count-push [] g = omega arith
count-push ([] ∷ gs) g = let h = count-push gs g in omega (arith, h)
count-push ((x ∷ xs) ∷ gs) g = count-push gs g

none_empty : {X : Type 0} (gs : List (List X)) → ((k : ℕ) → slice_get gs k ≡ Some [] → ⊥) → count_of_empty gs ≡ 0
none_empty [] h = refl
none_empty ([] ∷ gs) h = absurd (h 0 refl)
none_empty ((x ∷ xs) ∷ gs) h = none_empty gs (λ k e. h (suc k) e)

-- a group that has members, or that is new
pub few-more : {X : Type 0} (gs : List (List X)) (g : List X) → count_of_empty gs ≤ 1 → 0 < length g → count_of_empty (gs ++ g ∷ []) ≤ 1
few-more gs [] h l = absurd (omega (arith, l))
few-more gs (x ∷ xs) h l = omega (arith, h, count-push gs (x ∷ xs))

pub few-new : {X : Type 0} (gs : List (List X)) (g : List X) → count_of_empty gs ≤ 1 → ((k : ℕ) → slice_get gs k ≡ Some g → ⊥) → count_of_empty (gs ++ g ∷ []) ≤ 1
few-new gs [] h n = omega (arith, none_empty gs n, count-push gs [])
few-new gs (x ∷ xs) h n = omega (arith, h, count-push gs (x ∷ xs))
