-- The tests of a context's world are right, where no ancestor is further away than there are types.
use Rattle.std.proofs.Common.{◌≡◌, ◌⊎◌, inl, inr, ⊎_elim, refl, sym, ap, ◌∙◌, ℕ, zero, suc, ◌≤◌, Bool, true, false, ◌||◌, List, length, Option, Some, None, arith}
use Rattle.std.specs.Bool.{Decides}
use Rattle.std.specs.Option.{option_and_then}
use Rattle.wasm_spec_rules.specs.WasmSpec.Syntax.{Sub}
use Rattle.wasm_spec_rules.specs.WasmSpec.SupertypeOrder.{supertype, ancestor_at, IsAncestor}
use Rattle.wasm_spec_rules.specs.Attempts.{◌>>=◌, passes}
use Rattle.wasm_spec_rules.specs.Worlds.{declared_in, is_below}
use Rattle.wasm_spec_steps.specs.Laws.{WorldsAreRight}

or-cases : (a b : Bool) → (a || b) ≡ true → (a ≡ true) ⊎ (b ≡ true)
or-cases true b e = inl refl
or-cases false b e = inr e

or-left : (a b : Bool) → a ≡ true → (a || b) ≡ true
or-left true b e = refl
or-left false b e = absurd (let h : false ≡ true = e in cc)

or-right : (a b : Bool) → b ≡ true → (a || b) ≡ true
or-right true b e = refl
or-right false b e = e

passes-gives : {A : Type 0} (test : A → Bool) (o : Option A) → passes test o ≡ true → (x : A) × (o ≡ Some x) × (test x ≡ true)
passes-gives test None e = absurd (let h : false ≡ true = e in cc)
passes-gives test (Some x) e = (x, refl, e)

module _ {R : Type 0} (same : R → R → Bool) (right : (a b : R) → Decides (same a b) (a ≡ b)) (ds : List (R × Sub R)) where
  abbrev D : R → Option (Sub R)
  D = declared_in same ds

  super-same : (o : Option (Sub R)) → (o >>= supertype) ≡ option_and_then supertype o
  super-same None = refl
  super-same (Some s) = refl

  below-leads : (n : ℕ) (a b : R) → is_below same ds n a b ≡ true → IsAncestor D a b
  below-leads zero a b e = record { steps = 0; leads = ap Some ((right a b).0 e) }
  below-leads (suc n) a b e =
      ⊎_elim
      (λ (h : same a b ≡ true). record { steps = 0; leads = ap Some ((right a b).0 h) })
      (λ (h : passes (λ c. is_below same ds n c b) (D a >>= supertype) ≡ true).
      let x = passes-gives (λ c. is_below same ds n c b) (D a >>= supertype) h in
      let above = below-leads n x.0 b x.2 in
      record { steps = suc above.steps; leads = ap (option_and_then (ancestor_at D above.steps)) (sym (super-same (D a)) ∙ x.1) ∙ above.leads })
      (or-cases (same a b) (passes (λ c. is_below same ds n c b) (D a >>= supertype)) e)

  through : (n k : ℕ) (b : R) (o : Option R) → ((c : R) → ancestor_at D k c ≡ Some b → is_below same ds n c b ≡ true) → option_and_then (ancestor_at D k) o ≡ Some b → passes (λ c. is_below same ds n c b) o ≡ true
  through n k b None h e = absurd (let f : None ≡ Some b = e in cc)
  through n k b (Some c) h e = h c e

  leads-below : (n k : ℕ) (a b : R) → k ≤ n → ancestor_at D k a ≡ Some b → is_below same ds n a b ≡ true
  leads-below zero zero a b l e = (right a b).1 (let h : Some a ≡ Some b = e in cc)
  leads-below (suc n) zero a b l e = or-left (same a b) _ ((right a b).1 (let h : Some a ≡ Some b = e in cc))
  leads-below zero (suc k) a b l e = absurd (omega (arith, l))
  leads-below (suc n) (suc k) a b l e =
      or-right (same a b) (passes (λ c. is_below same ds n c b) (D a >>= supertype))
      (through n k b (D a >>= supertype) (λ c h. leads-below n k c b (omega (arith, l)) h) (ap (option_and_then (ancestor_at D k)) (super-same (D a)) ∙ e))

pub worlds_are_right : {R : Type 0} → WorldsAreRight R
worlds_are_right same C right near = record {
  below = λ a b. (below-leads same right C.declares (length C.declares) a b, λ h. let n = near a b h in leads-below same right C.declares (length C.declares) n.steps a b n.within n.leads);
  same = right;
}
