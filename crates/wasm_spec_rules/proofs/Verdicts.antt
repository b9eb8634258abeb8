-- Steps that may refuse, with what decides it: both directions of a law in one.
use Rattle.std.proofs.Common.{◌≡◌, Bool, true, false, cond, ◌⊎◌, inl, inr, ⊎_elim, refl, sym, ◌∙◌, subst}
use Rattle.std.specs.Prelude.{Option, None, Some}
use Rattle.std.specs.Option.{option_and_then}
use Rattle.std.specs.Bool.{Decides}

-- what a step gives: s where P holds, and nothing elsewhere
abbrev pub Verdict : Type 0 → {S : Type 0} → Option S → S → Type 0
Verdict P o s = (P × (o ≡ Some s)) ⊎ ((¬ P) × (o ≡ None))

-- two steps, one after the other
pub then_verdict : {S T P Q : Type 0} (o : Option S) (s : S) (g : S → Option T) (t : T) → Verdict P o s → (P → Verdict Q (g s) t) → Verdict (P × Q) (option_and_then g o) t
then_verdict {S} {T} {P} {Q} o s g t (inl (p, e)) v =
    ⊎_elim
    (λ (w : Q × (g s ≡ Some t)). inl ((p, w.0), rw e w.1))
    (λ (w : (¬ Q) × (g s ≡ None)). inr ((λ h. w.0 h.1), rw e w.1))
    (v p)
then_verdict o s g t (inr (p, e)) v = inr ((λ h. p h.0), rw e refl)

-- a test before a step
pub if_verdict : {T P Q : Type 0} (b : Bool) (o : Option T) (t : T) → Decides b P → (P → Verdict Q o t) → Verdict (P × Q) (cond b o None) t
if_verdict {T} {P} {Q} true o t d v =
    ⊎_elim (λ (w : Q × (o ≡ Some t)). inl ((d.0 refl, w.0), w.1)) (λ (w : (¬ Q) × (o ≡ None)). inr ((λ h. w.0 h.1), w.1)) (v (d.0 refl))
if_verdict false o t d v = inr ((λ h. absurd (let e = d.1 h.0 in cc)), refl)

-- the same fact in other words
pub verdict_as : {T P Q : Type 0} (o : Option T) (t : T) → (P → Q) → (Q → P) → Verdict P o t → Verdict Q o t
verdict_as o t f g (inl (p, e)) = inl (f p, e)
verdict_as o t f g (inr (p, e)) = inr ((λ q. p (g q)), e)

pub verdict_to : {T P : Type 0} (o : Option T) (t u : T) → t ≡ u → Verdict P o t → Verdict P o u
verdict_to {T} {P} o t u e v = subst (λ (w : T). Verdict P o w) e v

pub verdict_of : {T P : Type 0} (o q : Option T) (t : T) → o ≡ q → Verdict P q t → Verdict P o t
verdict_of {T} {P} o q t e v = subst (λ (w : Option T). Verdict P w t) (sym e) v

-- nothing is refused, or all is
pub always : {T P : Type 0} (t : T) → P → Verdict P (Some t) t
always t p = inl (p, refl)

pub never : {T P : Type 0} (t : T) → ¬ P → Verdict P {S = T} None t
never t p = inr (p, refl)

-- what a verdict says of a step that gives something, and of one whose fact holds
pub verdict_some : {T P : Type 0} (o : Option T) (t u : T) → Verdict P o t → o ≡ Some u → P × (t ≡ u)
verdict_some o t u (inl (p, e)) h = (p, let same : Some t ≡ Some u = sym e ∙ h in cc)
verdict_some o t u (inr (p, e)) h = absurd (let same : None ≡ Some u = sym e ∙ h in cc)

pub verdict_yes : {T P : Type 0} (o : Option T) (t : T) → Verdict P o t → P → o ≡ Some t
verdict_yes o t (inl (p, e)) h = e
verdict_yes o t (inr (p, e)) h = absurd (p h)
