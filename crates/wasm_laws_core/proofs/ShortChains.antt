-- The order of types where no chain of supertypes is longer than the steps that are taken.
use Rattle.std.proofs.Common.{◌≡◌, refl, sym, ap, ◌∙◌, ℕ, zero, suc, ◌<◌, ◌≤◌, Bool, true, false, ◌||◌, List, Option, Some, None, option_map, arith}
use Rattle.std.proofs.lemmas.Option.{slice_get-map}
use Rattle.wasm_spec.specs.Syntax.{Sub, map_sub}
use Rattle.wasm_spec.specs.SupertypeOrder.{supertype}
use Rattle.wasm_spec_rules.specs.Attempts.{◌>>=◌, passes}
use Rattle.wasm_spec_rules.specs.Worlds.{declared_in, is_below}
use Rattle.wasm_spec_steps.proofs.Attempts.{bind-map}

or-false : (b : Bool) → (b || false) ≡ b
or-false true = refl
or-false false = refl

pub no_value : {X : Type 0} (o : Option X) → ((x : X) → o ≡ Some x → ⊥) → o ≡ None
no_value None h = refl
no_value (Some x) h = absurd (h x refl)

-- two lists of what identities declare, of which the second is the first with each identity renamed
module _ {R S : Type 0} (same : R → R → Bool) (renamed : S → S → Bool) (f : R → S) (cs : List (R × Sub R)) (ds : List (S × Sub S))
    (kept : (a b : R) → renamed (f a) (f b) ≡ same a b) (declares : (a : R) → declared_in renamed ds (f a) ≡ option_map (map_sub f) (declared_in same cs a)) where
  abbrev above : R → Option R
  above a = declared_in same cs a >>= supertype

  pub above-renamed : (a : R) → (declared_in renamed ds (f a) >>= supertype) ≡ option_map f (above a)
  above-renamed a = bind-map (map_sub f) f supertype supertype (λ s. slice_get-map f s.supers 0) (declared_in same cs a) (declares a)

  next-renamed : (n m : ℕ) (b : R) (o : Option R) → ((y : R) → o ≡ Some y → is_below renamed ds m (f y) (f b) ≡ is_below same cs n y b)
      → passes (λ c. is_below renamed ds m c (f b)) (option_map f o) ≡ passes (λ c. is_below same cs n c b) o
  next-renamed n m b None h = refl
  next-renamed n m b (Some y) h = h y refl

  -- each supertype is lower in both measures, so that they count enough steps
  module _ (rank height : R → ℕ) (down : (a y : R) → above a ≡ Some y → (rank y < rank a) × (height y < height a)) where
    top-renamed : (m : ℕ) (a b : R) → above a ≡ None → is_below renamed ds m (f a) (f b) ≡ same a b
    top-renamed zero a b e = kept a b
    top-renamed (suc m) a b e = (λ i. kept a b i || passes (λ c. is_below renamed ds m c (f b)) ((above-renamed a ∙ ap (option_map f) e) i)) ∙ or-false (same a b)

    top : (n : ℕ) (a b : R) → above a ≡ None → is_below same cs n a b ≡ same a b
    top zero a b e = refl
    top (suc n) a b e = (λ i. same a b || passes (λ c. is_below same cs n c b) (e i)) ∙ or-false (same a b)

    pub below-renamed : (n m : ℕ) (a b : R) → rank a ≤ n → height a ≤ m → is_below renamed ds m (f a) (f b) ≡ is_below same cs n a b
    below-renamed zero m a b h k =
        let e : above a ≡ None = no_value (above a) (λ y g. let l : rank y < rank a = (down a y g).0 in omega (arith, l, h)) in
        top-renamed m a b e
    below-renamed (suc n) zero a b h k =
        let e : above a ≡ None = no_value (above a) (λ y g. let l : height y < height a = (down a y g).1 in omega (arith, l, k)) in
        kept a b ∙ sym (top (suc n) a b e)
    below-renamed (suc n) (suc m) a b h k = λ i.
        kept a b i
        || (ap (passes (λ c. is_below renamed ds m c (f b))) (above-renamed a)
        ∙ next-renamed n m b (above a) (λ y g.
        let l = down a y g in
        let u : rank y < rank a = l.0 in
        let v : height y < height a = l.1 in
        below-renamed n m y b (omega (arith, u, h)) (omega (arith, v, k)))) i
