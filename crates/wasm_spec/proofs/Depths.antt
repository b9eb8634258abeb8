-- How many proper ancestors a type has.
use Rattle.std.proofs.Common.{◌≡◌, refl, sym, ap, ◌∙◌, ◌⊎◌, inl, inr, ⊎_elim, ℕ, ◌+◌, ◌-◌, ◌<◌, ◌≤◌, Bool, true, false, ltb, Option, Some, None, arith}
use Rattle.std.specs.Option.{option_and_then}
use Rattle.std.proofs.lemmas.Bool.{ltb-true, ltb-false}
use Rattle.std.proofs.lemmas.Option.{none-some}
use Rattle.wasm_spec.specs.Syntax.{Sub}
use Rattle.wasm_spec.specs.Features.{Features}
use Rattle.wasm_spec.specs.Limits.{most_ancestors}
use Rattle.wasm_spec.specs.SupertypeOrder.{ancestor_at, IsDepth, Links}
use Rattle.wasm_spec.specs.GroupRules.{IsValidType}
use Rattle.wasm_spec.specs.TypeLaws.{DepthsAreSmall}
use Rattle.wasm_spec.proofs.Matching.{ancestor_at-add}

truth : (b : Bool) → (b ≡ true) ⊎ (b ≡ false)
truth true = inl refl
truth false = inr refl

module _ {R : Type 0} (D : R → Option (Sub R)) where
  none_before : (f : R → Option R) (o : Option R) (b : R) → o ≡ None → option_and_then f o ≡ Some b → ⊥
  none_before f o b e h = none-some b (sym (ap (option_and_then f) e) ∙ h)

  -- where there are n steps there are fewer
  fewer : (m n : ℕ) (a b : R) → m ≤ n → ancestor_at D n a ≡ Some b → ancestor_at D m a ≡ None → ⊥
  fewer m n a b le e h =
      let split : n ≡ m + (n - m) = omega (arith, le) in
      none_before (ancestor_at D (n - m)) (ancestor_at D m a) b h (sym (ancestor_at-add D m (n - m) a) ∙ ap (λ k. ancestor_at D k a) (sym split) ∙ e)

  -- behind the top there is nothing
  past_top : (m : ℕ) (a : R) → IsDepth D a m → ancestor_at D (m + 1) a ≡ None
  past_top m a h = ancestor_at-add D m 1 a ∙ ap (option_and_then (ancestor_at D 1)) h.leads ∙ ap (option_and_then (ancestor_at D 0)) h.is_top

  not_deeper : (a : R) (m n : ℕ) → IsDepth D a m → IsDepth D a n → m < n → ⊥
  not_deeper a m n h k l = fewer (m + 1) n a k.top (omega (arith, l)) k.leads (past_top m a h)

  same_depth : (a : R) (m n : ℕ) → IsDepth D a m → IsDepth D a n → m ≡ n
  same_depth a m n h k =
      ⊎_elim
      (λ (l : ltb m n ≡ true). absurd (not_deeper a m n h k (ltb-true m n l)))
      (λ (l : ltb m n ≡ false). ⊎_elim
      (λ (g : ltb n m ≡ true). absurd (not_deeper a n m k h (ltb-true n m g)))
      (λ (g : ltb n m ≡ false). let x : n ≤ m = ltb-false m n l in let y : m ≤ n = ltb-false n m g in omega (arith, x, y))
      (truth (ltb n m)))
      (truth (ltb m n))

  small_depth : (F : Features) (a : R) (n : ℕ) → IsValidType F D a → IsDepth D a n → n ≤ most_ancestors
  small_depth F a n v h =
      ⊎_elim
      (λ (l : ltb n (most_ancestors + 1) ≡ true). let x : n < most_ancestors + 1 = ltb-true n (most_ancestors + 1) l in omega (arith, x))
      (λ (l : ltb n (most_ancestors + 1) ≡ false). absurd (fewer (most_ancestors + 1) n a h.top (ltb-false n (most_ancestors + 1) l) h.leads v.rules.few_ancestors))
      (truth (ltb n (most_ancestors + 1)))

few_steps : {R : Type 0} (D : R → Option (Sub R)) (F : Features) (a b : R) (n : ℕ) → IsValidType F D a → ancestor_at D n a ≡ Some b → n ≤ most_ancestors
few_steps D F a b n v e =
    ⊎_elim
    (λ (l : ltb n (most_ancestors + 1) ≡ true). let x : n < most_ancestors + 1 = ltb-true n (most_ancestors + 1) l in omega (arith, x))
    (λ (l : ltb n (most_ancestors + 1) ≡ false). absurd (fewer D (most_ancestors + 1) n a b (ltb-false n (most_ancestors + 1) l) e v.rules.few_ancestors))
    (truth (ltb n (most_ancestors + 1)))

few_links : {R : Type 0} (D : R → Option (Sub R)) (F : Features) (a b : R) (n : ℕ) → IsValidType F D a → Links D a b n → n ≤ most_ancestors
few_links D F a b n v (inl e) = few_steps D F a b n v e
few_links D F a b n v (inr h) = few_steps D F a h.1.top n v h.1.leads

pub depths_are_small : {R : Type 0} → DepthsAreSmall R
depths_are_small = record { one_depth = λ D a m n. same_depth D a m n; few_ancestors = λ F D a n. small_depth D F a n; few_links = λ F D a b n. few_links D F a b n }
