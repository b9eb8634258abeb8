-- Ancestors along links.
use Rattle.std.proofs.Common.{◌≡◌, refl, sym, ap, ◌∙◌, ℕ, ◌+◌, ◌-◌, ◌<◌, ◌≤◌, Bool, true, false, true≢false, Option, Some, None, arith}
use Rattle.std.specs.Bool.{Decides}
use Rattle.std.specs.Option.{option_and_then}
use Rattle.std.proofs.lemmas.Option.{none-some}
use Rattle.wasm_spec.specs.Syntax.{Sub}
use Rattle.wasm_spec.specs.SupertypeOrder.{supertype_of, ancestor_at, IsDepth}
use Rattle.wasm_spec.proofs.Matching.{ancestor_at-add}
use Rattle.wasm_validator_type_checks.specs.Rules.{IsShallow}

module _ {R : Type 0} (D : R → Option (Sub R)) where
  one_link : (x : R) (o : Option R) → supertype_of D x ≡ o → ancestor_at D 1 x ≡ o
  one_link x None f = ap (option_and_then (ancestor_at D 0)) f
  one_link x (Some y) f = ap (option_and_then (ancestor_at D 0)) f

  pub next_link : (n : ℕ) (a x : R) (o : Option R) → ancestor_at D n a ≡ Some x → supertype_of D x ≡ o → ancestor_at D (n + 1) a ≡ o
  next_link n a x o e f = ancestor_at-add D n 1 a ∙ ap (option_and_then (ancestor_at D 1)) e ∙ one_link x o f

  past_none : (m n : ℕ) (a : R) → m ≤ n → ancestor_at D m a ≡ None → ancestor_at D n a ≡ None
  past_none m n a l e =
      let split : n ≡ m + (n - m) = omega (arith, l) in
      ap (λ k. ancestor_at D k a) split ∙ ancestor_at-add D m (n - m) a ∙ ap (option_and_then (ancestor_at D (n - m))) e

  -- a chain that ends is shallow
  pub ends_before : (n top : ℕ) (a x : R) (r : Bool) → n < top → ancestor_at D n a ≡ Some x → supertype_of D x ≡ None → r ≡ true → Decides r (IsShallow D top a)
  ends_before n top a x r l e f t = (
    (λ _ m s. let k : n + 1 ≤ m = omega (arith, l, s) in past_none (n + 1) m a k (next_link n a x None e f)),
    (λ _. t),
  )

  -- one that reaches so far is not
  pub goes_on : (n top : ℕ) (a x : R) (r : Bool) → n ≡ top → ancestor_at D n a ≡ Some x → r ≡ false → Decides r (IsShallow D top a)
  goes_on n top a x r l e f = ((λ t. absurd (true≢false (sym t ∙ f))), (λ h. absurd (none-some x (sym (h n l) ∙ e))))

  -- the depth decides
  pub depth_below : (n top : ℕ) (a : R) → n < top → IsDepth D a n → Decides true (IsShallow D top a)
  depth_below n top a l h = ends_before n top a h.top true l h.leads h.is_top refl

  pub depth_from : (n top : ℕ) (a : R) → top ≤ n → IsDepth D a n → Decides false (IsShallow D top a)
  depth_from n top a l h = ((λ t. absurd (true≢false (sym t))), (λ s. absurd (none-some h.top (sym (past_none top n a l (s top refl)) ∙ h.leads))))
