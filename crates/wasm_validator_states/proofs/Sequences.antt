-- One id for one type over all modules of a validator.
use Rattle.std.proofs.Common.{◌≡◌, refl, sym, ap, subst, ◌∙◌, ◌↔◌, ◌⊎◌, inl, inr, ℕ, zero, suc, true, List, [], ◌∷◌, ◌++◌, slice_get, Option, Some, None, append_assoc, append-nil}
use Rattle.std.specs.List.{All, AllZip, zip}
use Rattle.std.proofs.lemmas.List.Elements.{All-nil, All-cons, All-head, All-tail}
use Rattle.std.proofs.lemmas.Option.{slice_get_within}
use Rattle.wasm_spec.specs.Features.{canonical}
use Rattle.wasm_spec.specs.Trees.{DefType}
use Rattle.wasm_spec.specs.TypeLaws.{HasNoRepetition}
use Rattle.wasm_spec.proofs.Closing.{slice_get-append_left}
use Rattle.wasm_spec_rules.specs.FeatureFlags.{features_of}
use Rattle.wasm_validator_canonical.specs.Sections.{StandsFor}
use Rattle.wasm_validator_canonical.proofs.Sections.{one_id_for_one_type}
use Rattle.wasm_validator_type_list.specs.DefTypes.{types_of_list}
use Rattle.wasm_validator_types.specs.ShownModules.{shown_of}
use Rattle.wasm_validator_types.specs.declared.shown.Types as shown
use Rattle.wasm_validator_sections.specs.WasmValidatorCore.Answers.{TypesSoFar}
use Rattle.wasm_validator_states.specs.ValidatorStages.{unparsed, Standing, after_reset}
use Rattle.wasm_validator_states.specs.Verdict.{AcceptsModule}
use Rattle.wasm_validator_states.specs.Sequences.{KeepsTypes, Takes, TakesEach, its_types, all_types, OneIdForOneType}

-- the id is of this type in the list
abbrev Stands : TypesSoFar → ℕ × DefType → Type 0
Stands us p = StandsFor true us p.0 p.1

longer : (us more : TypesSoFar) (p : ℕ × DefType) → Stands us p → Stands (us ++ more) p
longer us more p s = record {
  listed = s.listed;
  is_there = slice_get-append_left us more p.0 (slice_get_within us p.0 s.listed s.is_there) ∙ s.is_there;
  same_position = s.same_position;
  same_members = s.same_members;
  same = s.same;
}

all_longer : (us more : TypesSoFar) (ps : List (ℕ × DefType)) → All (Stands us) ps → All (Stands (us ++ more)) ps
all_longer us more [] a = All-nil (Stands (us ++ more))
all_longer us more (p ∷ ps) a = All-cons (Stands (us ++ more)) p ps (longer us more p (All-head (Stands us) p ps a)) (all_longer us more ps (All-tail (Stands us) p ps a))

zipped : (us : TypesSoFar) (xs : List ℕ) (ds : List DefType) → AllZip (StandsFor true us) xs ds → All (Stands us) (zip xs ds)
zipped us [] ds a = All-nil (Stands us)
zipped us (x ∷ xs) [] a = All-nil (Stands us)
zipped us (x ∷ xs) (d ∷ ds) a = All-cons (Stands us) (x, d) (zip xs ds) a.0 (zipped us xs ds a.1)

join_all : (us : TypesSoFar) (ps qs : List (ℕ × DefType)) → All (Stands us) ps → All (Stands us) qs → All (Stands us) (ps ++ qs)
join_all us [] qs a b = b
join_all us (p ∷ ps) qs a b = All-cons (Stands us) p (ps ++ qs) (All-head (Stands us) p ps a) (join_all us ps qs (All-tail (Stands us) p ps a) b)

member : (us : TypesSoFar) (ps : List (ℕ × DefType)) (k : ℕ) (p : ℕ × DefType) → All (Stands us) ps → slice_get ps k ≡ Some p → Stands us p
member us [] k p a e = absurd cc
member us (q ∷ ps) zero p a e = let same : q ≡ p = cc in subst (Stands us) same (All-head (Stands us) q ps a)
member us (q ∷ ps) (suc k) p a e = member us ps k p (All-tail (Stands us) q ps a) e

-- a list that begins with these types, in which no type has two ids, and where all these ids are of their types
record AllStand (before : TypesSoFar) (ps : List (ℕ × DefType)) : Type 0 where
  list : TypesSoFar
  more : TypesSoFar
  front : list ≡ before ++ more
  once : HasNoRepetition list
  stand : All (Stands list) ps

stages_apart : (T U : TypesSoFar) → unparsed T ≡ unparsed U → T ≡ U
stages_apart T U e = cc

-- the same, unless there are no ids
abbrev MayStand : TypesSoFar → List (ℕ × DefType) → Type 0
MayStand before ps = (ps ≡ []) ⊎ AllStand before ps

-- a module that is refused adds nothing but what stands behind
refused_stands : (old new : Standing) (a : KeepsTypes old new) (later : List (ℕ × DefType)) → MayStand (a.before ++ a.more) later → MayStand a.before later
refused_stands old new a later (inl none) = inl none
refused_stands old new a later (inr s) = inr (record { list = s.list; more = a.more ++ s.more; front = s.front ∙ append_assoc a.before a.more s.more; once = s.once; stand = s.stand })

module _ {A : Type 0} where
  -- what an accepted module leaves, after `reset`
  next_stage : (bytes : List ℕ) (old new : Standing) (t : shown.Types A) → AcceptsModule bytes old new t → (after_reset new).stage ≡ unparsed (types_of_list (shown_of t).list)
  next_stage bytes old new t a = ap (λ (s : Standing). (after_reset s).stage) a.after

  one_stands : (bytes : List ℕ) (old new : Standing) (t : shown.Types A) (m : AcceptsModule bytes old new t) → canonical (features_of old.features) ≡ true
      → All (Stands (types_of_list (shown_of t).list)) (zip (shown_of t).spaces.types m.module_valid.well_formed.types.types)
  one_stands bytes old new t m c = zipped (types_of_list (shown_of t).list) (shown_of t).spaces.types m.module_valid.well_formed.types.types (subst (λ b. AllZip (StandsFor b (types_of_list (shown_of t).list)) (shown_of t).spaces.types m.module_valid.well_formed.types.types) c m.shows.types)

  -- its types with those of later modules
  module_stands : (bytes : List ℕ) (old new : Standing) (t : shown.Types A) (a : AcceptsModule bytes old new t) (later : List (ℕ × DefType)) → canonical (features_of old.features) ≡ true
      → AllStand (types_of_list (shown_of t).list) later → AllStand a.before (its_types bytes (Some t) old new a ++ later)
  module_stands bytes old new t a later c rest =
      let here = types_of_list (shown_of t).list in
      let its = its_types bytes (Some t) old new a in
      record {
        list = rest.list;
        more = a.more ++ rest.more;
        front = rest.front ∙ ap (λ us. us ++ rest.more) a.kept ∙ append_assoc a.before a.more rest.more;
        once = rest.once;
        stand = join_all rest.list its later (subst (λ us. All (Stands us) its) (sym rest.front) (all_longer here rest.more its (one_stands bytes old new t a c))) rest.stand;
      }

  -- its own list, where no later module is accepted
  nothing_later : (bytes : List ℕ) (old new : Standing) (t : shown.Types A) (a : AcceptsModule bytes old new t) (later : List (ℕ × DefType)) → canonical (features_of old.features) ≡ true
      → MayStand (types_of_list (shown_of t).list) later → AllStand (types_of_list (shown_of t).list) later
  nothing_later bytes old new t a later c (inl none) =
      let here = types_of_list (shown_of t).list in
      record { list = here; more = []; front = sym (append-nil here); once = a.shows.one_id c; stand = subst (All (Stands here)) (sym none) (All-nil (Stands here)) }
  nothing_later bytes old new t a later c (inr s) = s

  took : (bytes : List ℕ) (answer : Option (shown.Types A)) (old new : Standing) (a : Takes bytes answer old new) (before : TypesSoFar) (later : List (ℕ × DefType)) → canonical (features_of old.features) ≡ true → old.stage ≡ unparsed before
      → ((next : TypesSoFar) → (after_reset new).features ≡ old.features → (after_reset new).stage ≡ unparsed next → MayStand next later) → MayStand before (its_types bytes answer old new a ++ later)
  took bytes (Some t) old new a before later c w rest =
      let here = types_of_list (shown_of t).list in
      let stood = nothing_later bytes old new t a later c (rest here (ap (λ (s : Standing). (after_reset s).features) a.after) (next_stage bytes old new t a)) in
      inr (subst (λ us. AllStand us (its_types bytes (Some t) old new a ++ later)) (stages_apart a.before before (sym a.began ∙ w)) (module_stands bytes old new t a later c stood))
  took bytes None old new a before later c w rest =
      subst (λ us. MayStand us later) (stages_apart a.before before (sym a.began ∙ w))
      (refused_stands old new a later (rest (a.before ++ a.more) (ap (λ (s : Standing). s.features) a.after) (ap (λ (s : Standing). s.stage) a.after)))

  all_stand : (ms : List (List ℕ × Option (shown.Types A))) (old : Standing) (before : TypesSoFar) (a : TakesEach old ms) → canonical (features_of old.features) ≡ true → old.stage ≡ unparsed before
      → MayStand before (all_types old ms a)
  all_stand [] old before a c w = inl refl
  all_stand (m ∷ ms) old before a c w =
      took m.0 m.1 old a.0 a.1 before (all_types (after_reset a.0) ms a.2) c w
      (λ next f s. all_stand ms (after_reset a.0) next a.2 (ap (λ g. canonical (features_of g)) f ∙ c) s)

  began_with : (bytes : List ℕ) (answer : Option (shown.Types A)) (old new : Standing) → Takes bytes answer old new → (before : TypesSoFar) × (old.stage ≡ unparsed before)
  began_with bytes (Some t) old new a = (a.before, a.began)
  began_with bytes None old new a = (a.before, a.began)

-- two of the ids
two_ids : (before : TypesSoFar) (all : List (ℕ × DefType)) → MayStand before all → (j k : ℕ) (p q : ℕ × DefType) → slice_get all j ≡ Some p → slice_get all k ≡ Some q → (p.0 ≡ q.0) ↔ (p.1 ≡ q.1)
two_ids before all (inl none) j k p q x y = absurd (let h : slice_get [] j ≡ Some p = subst (λ xs. slice_get xs j ≡ Some p) none x in cc)
two_ids before all (inr s) j k p q x y =
    one_id_for_one_type s.list [] (subst HasNoRepetition (sym (append-nil s.list)) s.once) p.0 q.0 p.1 q.1 (member s.list all j p s.stand x) (subst (λ us. Stands us q) (sym (append-nil s.list)) (member s.list all k q s.stand y))

pub one_id_for_all : {A : Type 0} → OneIdForOneType A
one_id_for_all old [] a c j k p q x y = absurd cc
one_id_for_all old (m ∷ ms) a c j k p q x y =
    let b = began_with m.0 m.1 old a.0 a.1 in
    two_ids b.0 (all_types old (m ∷ ms) a) (all_stand (m ∷ ms) old b.0 a c b.1) j k p q x y
