-- Where equal types aren't one, the ids of modules one after another rise.
use Rattle.std.proofs.Common.{◌≡◌, refl, sym, ap, subst, ◌∙◌, ℕ, zero, suc, ◌+◌, ◌≤◌, false, List, [], ◌∷◌, ◌++◌, length, slice_get, Option, Some, None, arith, length-append}
use Rattle.std.specs.List.{zip}
use Rattle.std.proofs.lemmas.Option.{none-some, same_Some}
use Rattle.wasm_spec.specs.Features.{canonical}
use Rattle.wasm_spec.specs.Trees.{DefType}
use Rattle.wasm_spec_rules.specs.FeatureFlags.{features_of}
use Rattle.wasm_validator_type_groups.specs.Elements.{numbers_from}
use Rattle.wasm_validator_type_list.specs.DefTypes.{types_of_list}
use Rattle.wasm_validator_types.specs.ShownModules.{shown_of}
use Rattle.wasm_validator_types.specs.declared.shown.Types as shown
use Rattle.wasm_validator_sections.specs.WasmValidatorCore.Answers.{TypesSoFar}
use Rattle.wasm_validator_states.specs.ValidatorStages.{unparsed, Standing, after_reset}
use Rattle.wasm_validator_states.specs.Sequences.{Takes, TakesEach, its_types, all_types, OwnIdForEachType}

-- each id is above those before it, and none is below this
Rising : ℕ → List (ℕ × DefType) → Type 0
Rising low [] = Unit {0}
Rising low (p ∷ ps) = (low ≤ p.0) × Rising (p.0 + 1) ps

from_lower : (low high : ℕ) (ps : List (ℕ × DefType)) → low ≤ high → Rising high ps → Rising low ps
unfolding Rising
from_lower low high [] below r = tt
from_lower low high (p ∷ ps) below r = let above = r.0 in (omega (arith, below, above), r.1)

numbered : (start count : ℕ) (ds : List DefType) (later : List (ℕ × DefType)) → Rising (start + count) later → Rising start (zip (numbers_from start count) ds ++ later)
unfolding Rising
numbered start zero ds later r = from_lower start (start + 0) later (omega arith) r
numbered start (suc k) [] later r = from_lower start (start + suc k) later (omega arith) r
numbered start (suc k) (d ∷ ds) later r =
    let same : start + suc k ≡ (start + 1) + k = omega arith in
    (omega arith, numbered (start + 1) k ds later (subst (λ n. Rising n later) same r))

member_above : (low : ℕ) (ps : List (ℕ × DefType)) (k : ℕ) (p : ℕ × DefType) → Rising low ps → slice_get ps k ≡ Some p → low ≤ p.0
unfolding Rising
member_above low [] k p r e = absurd (none-some p e)
member_above low (q ∷ ps) zero p r e = subst (λ (x : ℕ × DefType). low ≤ x.0) (same_Some q p e) r.0
member_above low (q ∷ ps) (suc k) p r e =
    let above = r.0 in
    let later = member_above (q.0 + 1) ps k p r.1 e in
    omega (arith, above, later)

apart : (low : ℕ) (ps : List (ℕ × DefType)) (j k : ℕ) (p q : ℕ × DefType) → Rising low ps → slice_get ps j ≡ Some p → slice_get ps k ≡ Some q → p.0 ≡ q.0 → j ≡ k
unfolding Rising
apart low [] j k p q r x y e = absurd (none-some p x)
apart low (z ∷ ps) zero zero p q r x y e = refl
apart low (z ∷ ps) zero (suc k) p q r x y e =
    let first = ap (λ (w : ℕ × DefType). w.0) (same_Some z p x) in
    let later = member_above (z.0 + 1) ps k q r.1 y in
    absurd (omega (arith, first, later, e))
apart low (z ∷ ps) (suc j) zero p q r x y e =
    let first = ap (λ (w : ℕ × DefType). w.0) (same_Some z q y) in
    let later = member_above (z.0 + 1) ps j p r.1 x in
    absurd (omega (arith, first, later, e))
apart low (z ∷ ps) (suc j) (suc k) p q r x y e = ap suc (apart (z.0 + 1) ps j k p q r.1 x y e)

stages_apart : (T U : TypesSoFar) → unparsed T ≡ unparsed U → T ≡ U
stages_apart T U e = cc

module _ {A : Type 0} where
  -- the ids of a module, and of those behind it
  one_rises : (bytes : List ℕ) (answer : Option (shown.Types A)) (old new : Standing) (a : Takes bytes answer old new) (before : TypesSoFar) (later : List (ℕ × DefType)) → canonical (features_of old.features) ≡ false → old.stage ≡ unparsed before
      → ((next : TypesSoFar) → (after_reset new).features ≡ old.features → (after_reset new).stage ≡ unparsed next → Rising (length next) later) → Rising (length before) (its_types bytes answer old new a ++ later)
  one_rises bytes (Some t) old new a before later c w rest =
      let list = types_of_list (shown_of t).list in
      let ds = a.module_valid.well_formed.types.types in
      let higher = rest list (ap (λ (s : Standing). (after_reset s).features) a.after) (ap (λ (s : Standing). (after_reset s).stage) a.after) in
      subst (λ us. Rising (length us) (zip (shown_of t).spaces.types ds ++ later)) (stages_apart a.before before (sym a.began ∙ w))
      (subst (λ ids. Rising (length a.before) (zip ids ds ++ later)) (sym (a.own_ids c)) (numbered (length a.before) (length ds) ds later (subst (λ n. Rising n later) (a.own_types c) higher)))
  one_rises bytes None old new a before later c w rest =
      let higher = rest (a.before ++ a.more) (ap (λ (s : Standing). s.features) a.after) (ap (λ (s : Standing). s.stage) a.after) in
      let longer = length-append a.before a.more in
      subst (λ us. Rising (length us) later) (stages_apart a.before before (sym a.began ∙ w)) (from_lower (length a.before) (length (a.before ++ a.more)) later (omega (arith, longer)) higher)

  all_rise : (ms : List (List ℕ × Option (shown.Types A))) (old : Standing) (before : TypesSoFar) (a : TakesEach old ms) → canonical (features_of old.features) ≡ false → old.stage ≡ unparsed before
      → Rising (length before) (all_types old ms a)
  unfolding Rising
  all_rise [] old before a c w = tt
  all_rise (m ∷ ms) old before a c w =
      one_rises m.0 m.1 old a.0 a.1 before (all_types (after_reset a.0) ms a.2) c w
      (λ next f s. all_rise ms (after_reset a.0) next a.2 (ap (λ g. canonical (features_of g)) f ∙ c) s)

  began_with : (bytes : List ℕ) (answer : Option (shown.Types A)) (old new : Standing) → Takes bytes answer old new → (before : TypesSoFar) × (old.stage ≡ unparsed before)
  began_with bytes (Some t) old new a = (a.before, a.began)
  began_with bytes None old new a = (a.before, a.began)

same_place : (ps : List (ℕ × DefType)) (j k : ℕ) (p q : ℕ × DefType) → slice_get ps j ≡ Some p → slice_get ps k ≡ Some q → j ≡ k → p.0 ≡ q.0
same_place ps j k p q x y e = ap (λ (w : ℕ × DefType). w.0) (same_Some p q (sym x ∙ ap (slice_get ps) e ∙ y))

pub own_id_for_each : {A : Type 0} → OwnIdForEachType A
own_id_for_each old [] a c j k p q x y = absurd (none-some p x)
own_id_for_each old (m ∷ ms) a c j k p q x y =
    let b = began_with m.0 m.1 old a.0 a.1 in
    let all = all_types old (m ∷ ms) a in
    (λ e. apart (length b.0) all j k p q (all_rise (m ∷ ms) old b.0 a c b.1) x y e, λ e. same_place all j k p q x y e)
