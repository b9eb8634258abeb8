-- Where types stand in a list of types.
use Rattle.std.proofs.Common.{◌≡◌, refl, sym, ap, subst, ◌∙◌, ℕ, zero, suc, ◌+◌, Bool, true, false, ◌&&◌, cond, List, [], ◌∷◌, slice_get, Option, Some, None, arith}
use Rattle.std.specs.Bool.{Decides}
use Rattle.std.specs.Option.{option_map}
use Rattle.std.proofs.lemmas.Bool.{eqb-true, eq-eqb}
use Rattle.std.proofs.lemmas.Option.{none-some, same_Some}
use base.Stored.{Gv, gnil, gnum, gcons}
use Rattle.wasm_spec.specs.Trees.{DefType}
use Rattle.wasm_spec.specs.TreeCode.{coded_type}
use Rattle.wasm_validator_canonical.proofs.CanonicalTypes.{and_left, and_right}
use Rattle.wasm_validator_canonical.specs.ListPlaces.{same_code, is_same, begins_with, place_of}

abbrev number : Gv → ℕ
number (gnum n) = n
number _ = 0

abbrev first : Gv → Gv
first (gcons a b) = a
first _ = gnil

abbrev second : Gv → Gv
second (gcons a b) = b
second _ = gnil

and_both : (a b : Bool) → a ≡ true → b ≡ true → (a && b) ≡ true
and_both true b e f = f
and_both false b e f = absurd cc

same_code-exact : (a b : Gv) → Decides (same_code a b) (a ≡ b)
same_code-exact gnil gnil = (λ e. refl, λ e. refl)
same_code-exact gnil (gnum n) = (λ e. cc, λ e. cc)
same_code-exact gnil (gcons c d) = (λ e. cc, λ e. cc)
same_code-exact (gnum m) gnil = (λ e. cc, λ e. cc)
same_code-exact (gnum m) (gnum n) = (λ e. ap gnum (eqb-true m n e), λ e. eq-eqb m n (ap number e))
same_code-exact (gnum m) (gcons c d) = (λ e. cc, λ e. cc)
same_code-exact (gcons a b) gnil = (λ e. cc, λ e. cc)
same_code-exact (gcons a b) (gnum n) = (λ e. cc, λ e. cc)
same_code-exact (gcons a b) (gcons c d) =
    let x = same_code-exact a c in
    let y = same_code-exact b d in
    (λ e. λ i. gcons (x.0 (and_left (same_code a c) (same_code b d) e) i) (y.0 (and_right (same_code a c) (same_code b d) e) i), λ e. and_both (same_code a c) (same_code b d) (x.1 (ap first e)) (y.1 (ap second e)))

pub is_same-exact : (d e : DefType) → Decides (is_same d e) (d ≡ e)
is_same-exact d e =
    let x = same_code-exact (coded_type.code d) (coded_type.code e) in
    (λ h. coded_type.inj d e (x.0 h), λ h. x.1 (ap coded_type.code h))

-- the types stand in the list from this place on
abbrev pub StandAt : List DefType → ℕ → List DefType → Type 0
StandAt us f ds = (i : ℕ) (d : DefType) → slice_get ds i ≡ Some d → slice_get us (f + i) ≡ Some d

begins : (us ds : List DefType) → StandAt us 0 ds → begins_with us ds ≡ true
begins us [] h = refl
begins [] (d ∷ ds) h = absurd (none-some d (h 0 d refl))
begins (u ∷ us) (d ∷ ds) h =
    and_both (is_same u d) (begins_with us ds) ((is_same-exact u d).1 (same_Some u d (h 0 d refl)))
    (begins us ds (λ i e g. let z : 0 + suc i ≡ suc (0 + i) = omega arith in ap (slice_get (u ∷ us)) (sym z) ∙ h (suc i) e g))

begins_head : (us : List DefType) (d : DefType) (ds : List DefType) → begins_with us (d ∷ ds) ≡ true → slice_get us 0 ≡ Some d
begins_head [] d ds h = absurd cc
begins_head (u ∷ us) d ds h = ap Some ((is_same-exact u d).0 (and_left (is_same u d) (begins_with us ds) h))

pub no_types_found : (us : List DefType) → place_of us [] ≡ Some 0
no_types_found [] = refl
no_types_found (u ∷ us) = refl

-- types whose first one stands at this place alone
found_step : (b : Bool) (f : ℕ) (o : Option ℕ) → (b ≡ true → ⊥) → o ≡ Some f → cond b (Some 0) (option_map suc o) ≡ Some (suc f)
found_step true f o never e = absurd (never refl)
found_step false f o never e = ap (option_map suc) e

pub found : (us : List DefType) (f : ℕ) (d : DefType) (ds : List DefType) → ((j : ℕ) → slice_get us j ≡ Some d → j ≡ f) → StandAt us f (d ∷ ds) → place_of us (d ∷ ds) ≡ Some f
found [] f d ds one h = absurd (none-some d (h 0 d refl))
found (u ∷ us) zero d ds one h = ap (λ b. cond b (Some 0) (option_map suc (place_of us (d ∷ ds)))) (begins (u ∷ us) (d ∷ ds) h)
found (u ∷ us) (suc f) d ds one h =
    found_step (begins_with (u ∷ us) (d ∷ ds)) f (place_of us (d ∷ ds))
    (λ e. let z : 0 ≡ suc f = one 0 (begins_head (u ∷ us) d ds e) in omega (arith, z))
    (found us f d ds (λ j e. let z : suc j ≡ suc f = one (suc j) e in omega (arith, z)) (λ i e g. let z : suc f + i ≡ suc (f + i) = omega arith in ap (slice_get (u ∷ us)) (sym z) ∙ h i e g))

not_found_step : (b : Bool) (o : Option ℕ) → (b ≡ true → ⊥) → o ≡ None → cond b (Some 0) (option_map suc o) ≡ None
not_found_step true o never e = absurd (never refl)
not_found_step false o never e = ap (option_map suc) e

pub not_found : (us : List DefType) (d : DefType) (ds : List DefType) → ((j : ℕ) → slice_get us j ≡ Some d → ⊥) → place_of us (d ∷ ds) ≡ None
not_found [] d ds never = refl
not_found (u ∷ us) d ds never = not_found_step (begins_with (u ∷ us) (d ∷ ds)) (place_of us (d ∷ ds)) (λ e. never 0 (begins_head (u ∷ us) d ds e)) (not_found us d ds (λ j e. never (suc j) e))

-- types that are found stand there
begins_stand : (us ds : List DefType) → begins_with us ds ≡ true → StandAt us 0 ds
begins_stand us [] h i d e = absurd (none-some d e)
begins_stand [] (x ∷ ds) h i d e = absurd cc
begins_stand (u ∷ us) (x ∷ ds) h zero d e = ap Some ((is_same-exact u x).0 (and_left (is_same u x) (begins_with us ds) h)) ∙ e
begins_stand (u ∷ us) (x ∷ ds) h (suc i) d e =
    let z : 0 + suc i ≡ suc (0 + i) = omega arith in ap (slice_get (u ∷ us)) z ∙ begins_stand us ds (and_right (is_same u x) (begins_with us ds) h) i d e

at_zero : (us ds : List DefType) (k : ℕ) → Some 0 ≡ Some k → StandAt us 0 ds → StandAt us k ds
at_zero us ds k e h = subst (λ n. StandAt us n ds) (same_Some 0 k e) h

nothing_there : {X : Type 0} (x : X) → None ≡ Some x → ⊥
nothing_there x e = cc

found_in_rest : (u : DefType) (us ds : List DefType) (o : Option ℕ) (k : ℕ) → ((j : ℕ) → o ≡ Some j → StandAt us j ds) → option_map suc o ≡ Some k → StandAt (u ∷ us) k ds
found_in_rest u us ds None k h e = absurd (nothing_there k e)
found_in_rest u us ds (Some j) k h e = subst (λ n. StandAt (u ∷ us) n ds) (same_Some (suc j) k e) (λ i d g. let z : suc j + i ≡ suc (j + i) = omega arith in ap (slice_get (u ∷ us)) z ∙ h j refl i d g)

found_either : (b : Bool) (us ds : List DefType) (o : Option ℕ) (k : ℕ) → (b ≡ true → StandAt us 0 ds) → (o ≡ Some k → StandAt us k ds) → cond b (Some 0) o ≡ Some k → StandAt us k ds
found_either true us ds o k here rest e = at_zero us ds k e (here refl)
found_either false us ds o k here rest e = rest e

pub found_stand : (us ds : List DefType) (k : ℕ) → place_of us ds ≡ Some k → StandAt us k ds
found_stand [] ds k e = found_either (begins_with [] ds) [] ds None k (begins_stand [] ds) (λ h. absurd (nothing_there k h)) e
found_stand (u ∷ us) ds k e =
    found_either (begins_with (u ∷ us) ds) (u ∷ us) ds (option_map suc (place_of us ds)) k (begins_stand (u ∷ us) ds) (found_in_rest u us ds (place_of us ds) k (λ j h. found_stand us ds j h)) e
