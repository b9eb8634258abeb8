-- What the answers on a list of modules say of all of them.
use Rattle.std.proofs.Common.{◌≡◌, refl, sym, ap, subst, ◌∙◌, ◌⊎◌, inl, inr, ◌↔◌, ℕ, zero, suc, ◌+◌, ◌<◌, ◌≤◌, Bool, true, false, List, [], ◌∷◌, ◌++◌, length, slice_get, Some, None, append-nil, arith, length-append}
use Rattle.std.specs.Option.{option_and_then}
use Rattle.std.specs.List.{All, AllZip, Contains}
use Rattle.std.specs.declared.result.Result.{Result}
use Rattle.std.specs.declared.result.Result.TheVariants.{Ok, Err}
use Rattle.std.proofs.lemmas.Bool.{cases_order}
use Rattle.std.proofs.lemmas.Option.{same_Some, none-some, slice_get_within, get_or_from_slice_get}
use Rattle.wasm_spec.specs.Syntax.{Val, map_val, Sub}
use Rattle.wasm_spec.specs.References.{refs_val}
use Rattle.wasm_spec.specs.Features.{Features, canonical}
use Rattle.wasm_spec.specs.Trees.{DefType, declared}
use Rattle.wasm_spec.specs.GroupRules.{IsValidType}
use Rattle.wasm_spec.specs.TypeLaws.{HasNoRepetition}
use Rattle.wasm_spec.specs.SupertypeOrder.{supertype, IsAncestor}
use Rattle.wasm_spec.specs.Matching.{MatchesVal, MatchesSub}
use Rattle.wasm_spec.proofs.Matching.{accepted_types_match_ancestors}
use Rattle.wasm_spec.proofs.AcceptedSections.{valid_type_section_is_accepted}
use Rattle.wasm_spec_rules.specs.FeatureFlags.{features_of}
use Rattle.wasm_validator_modules.specs.WasmSpecValidity.Modules.{IsValidUpToBodies, IsValidModule, up_to_bodies}
use Rattle.wasm_readers_errors.specs.WasmReadersFeatures.declared.features.WasmFeatures.{WasmFeatures}
use Rattle.wasm_validator_type_list.specs.WasmValidatorTypeGroups.Elements.{numbers_from}
use Rattle.wasm_validator_modules.specs.WasmValidatorCanonical.Sections.{StandsFor}
use Rattle.wasm_validator_modules.proofs.WasmValidatorCanonical.Sections.{one_id_for_one_type}
use Rattle.wasm_validator_type_list.specs.ListViews.{Listing}
use Rattle.wasm_validator_type_list.specs.GroupOrder.{AreListable}
use Rattle.wasm_validator_type_list.specs.DeclarationsById.{declares}
use Rattle.wasm_validator_type_list.specs.DefTypes.{types_of_list}
use Rattle.wasm_validator_type_list.specs.Laws.{type_of_id}
use Rattle.wasm_validator_type_list.proofs.Order.{ids_are_ordered_as_types}
use Rattle.wasm_validator_type_list.proofs.IdsAndTypes.{types_declare_what_ids_declare}
use Rattle.wasm_validator_modules.specs.WasmValidatorTypes.ShownModules.{shown_of}
use Rattle.wasm_validator_modules.specs.WasmValidatorTypes.declared.shown.Types as shown
use Rattle.wasm_validator_modules.specs.WasmValidatorCore.declared.error.Error.{Error}
use Rattle.wasm_validator_modules.specs.WasmValidatorCore.declared.error.Error.TheVariants.{Refused, DuplicateExport, InFunction, OutOfMemory}
use Rattle.wasm_validator_modules.specs.WasmValidatorCore.Answers.{TypesSoFar}
use Rattle.wasm_validator_modules.specs.ValidatorStages.{Stage, unparsed, in_module, in_code, ended, failed, Standing, may_reset, after_reset}
use Rattle.wasm_validator_modules.specs.Verdict.{HasIdsWith, RefusesModule, RefusesUpToBodies, StopsModule}
use Rattle.wasm_validator.specs.Lists.{DecidesEach}
use Rattle.wasm_validator.specs.Headline.{types_held, Begins, TypeWithId, its_id, its_type, AreUnderOneId, IsAnswered, IsShown, IsTypeOf, IsIn, Headline}
use Rattle.wasm_validator.proofs.Lists.{begins_all, Room, Placed, Stood, stood, later, few_answers, first_answer}
use Rattle.wasm_validator.proofs.TypeIdOrder.{types_once, all_at, AreAlike, alike, valid_alone, AreJoined, joined_apart, joined_as_one, vals}

-- elements at one place of two lists
zipped : {X Y : Type 0} (P : X → Y → Type 0) (xs : List X) (ys : List Y) → AllZip P xs ys → (k : ℕ) (x : X) (y : Y) → slice_get xs k ≡ Some x → slice_get ys k ≡ Some y → P x y
zipped P [] ys a k x y e f = absurd (none-some x e)
zipped P (u ∷ xs) [] a k x y e f = absurd a
zipped {X} {Y} P (u ∷ xs) (v ∷ ys) a zero x y e f = subst (λ (w : X). P w y) (same_Some u x e) (subst (λ (w : Y). P u w) (same_Some v y f) a.0)
zipped P (u ∷ xs) (v ∷ ys) a (suc k) x y e f = zipped P xs ys a.1 k x y e f

-- the number at a place, from one on
numbered : (start count k x : ℕ) → slice_get (numbers_from start count) k ≡ Some x → (x ≡ start + k) × (k < count)
numbered start zero k x e = absurd (none-some x e)
numbered start (suc n) zero x e = let same = same_Some start x e in (omega (arith, same), omega arith)
numbered start (suc n) (suc k) x e = let later = numbered (start + 1) n k x e in let at = later.0 in let below = later.1 in (omega (arith, at), omega (arith, below))

contains_at : {X : Type 0} (xs : List X) (k : ℕ) (x : X) → slice_get xs k ≡ Some x → Contains xs x
contains_at xs k x e = (k, slice_get_within xs k x e, get_or_from_slice_get xs k x x e)

stages_apart : (T U : TypesSoFar) → unparsed T ≡ unparsed U → T ≡ U
stages_apart T U e = cc

-- where a validator may be reset it holds types
held_at : (g : Stage) → (s : Standing) → s.stage ≡ g → may_reset s ≡ true → (after_reset s).stage ≡ unparsed (types_held s.stage)
held_at (unparsed types) s e m = ap (λ g. (after_reset (record s { stage = g })).stage) e ∙ ap (λ g. unparsed (types_held g)) (sym e)
held_at (in_module types spaces more) s e m = absurd (let h = ap (λ g. may_reset (record s { stage = g })) (sym e) ∙ m in cc)
held_at (in_code types spaces more) s e m = absurd (let h = ap (λ g. may_reset (record s { stage = g })) (sym e) ∙ m in cc)
held_at (ended types) s e m = ap (λ g. (after_reset (record s { stage = g })).stage) e ∙ ap (λ g. unparsed (types_held g)) (sym e)
held_at failed s e m = absurd (let h = ap (λ g. may_reset (record s { stage = g })) (sym e) ∙ m in cc)

-- no module is valid that a validator with these features refuses
refuses_in : (features : WasmFeatures) (bytes : List ℕ) (old : Standing) (held : TypesSoFar) → old.features ≡ features → RefusesModule bytes old → old.stage ≡ unparsed held
    → (m : IsValidModule (features_of features) bytes) → HasIdsWith (features_of features) held m.well_formed.types.types → ⊥
refuses_in features bytes old held same h w =
    subst (λ (f : WasmFeatures). (m : IsValidModule (features_of f) bytes) → HasIdsWith (features_of f) held m.well_formed.types.types → ⊥) same (h held w)

refuses_up_in : (features : WasmFeatures) (bytes : List ℕ) (old : Standing) (held : TypesSoFar) → old.features ≡ features → RefusesUpToBodies bytes old → old.stage ≡ unparsed held
    → (m : IsValidUpToBodies (features_of features) bytes) → HasIdsWith (features_of features) held m.well_formed.types.types → ⊥
refuses_up_in features bytes old held same h w =
    subst (λ (f : WasmFeatures). (m : IsValidUpToBodies (features_of f) bytes) → HasIdsWith (features_of f) held m.well_formed.types.types → ⊥) same (h held w)

module _ {A : Type 0} (answers : List (Result (shown.Types A) (Error A))) (modules : List (List ℕ)) (old new : Standing) (d : DecidesEach answers modules old new) (T : TypesSoFar) (w : (after_reset old).stage ≡ unparsed T) where
  abbrev F : Features
  F = features_of old.features

  abbrev Answered : ℕ → List ℕ → Result (shown.Types A) (Error A) → Type 0
  Answered k bytes r = IsAnswered F modules answers k bytes r

  abbrev TypeOf : ℕ → shown.Types A → ℕ → ℕ → DefType → Type 0
  TypeOf k t i x e = IsTypeOf F modules answers k t i x e

  abbrev place : (k : ℕ) (bytes : List ℕ) (r : Result (shown.Types A) (Error A)) → Answered k bytes r → Stood old.features modules answers T k bytes r
  place k bytes r a = stood answers modules old new T d w k bytes r a.given a.answered

  accepted : (k : ℕ) (bytes : List ℕ) (t : shown.Types A) → Answered k bytes (Ok t) → IsShown F modules answers bytes t
  accepted k bytes t a =
      let p = (place k bytes (Ok t) a).placed in
      let h = p.decided in
      subst (λ (f : WasmFeatures). IsShown (features_of f) modules answers bytes t) p.same (record { module_valid = h.module_valid; shows = h.shows })

  refused_case : (e : Error A) (k : ℕ) (bytes : List ℕ) → (s : Stood old.features modules answers T k bytes (Err e)) → Room old.features bytes s.placed.held → IsValidModule F bytes → e ≡ OutOfMemory
  refused_case (Refused r) k bytes s room m = let p = s.placed in absurd (refuses_up_in old.features bytes p.old p.held p.same p.decided.0 p.began (up_to_bodies m) (room m.well_formed))
  refused_case (DuplicateExport name offset) k bytes s room m = let p = s.placed in absurd (refuses_up_in old.features bytes p.old p.held p.same p.decided.0 p.began (up_to_bodies m) (room m.well_formed))
  refused_case (InFunction index r) k bytes s room m = let p = s.placed in absurd (refuses_in old.features bytes p.old p.held p.same p.decided.0 p.began m (room m.well_formed))
  refused_case OutOfMemory k bytes s room m = refl

  stops_case : (r : Result (shown.Types A) (Error A)) (k : ℕ) (bytes : List ℕ) → (s : Stood old.features modules answers T k bytes r) → Room old.features bytes s.placed.held → StopsModule r bytes s.placed.old s.placed.new → IsValidUpToBodies F bytes → r ≡ Err OutOfMemory
  stops_case (Ok t) k bytes s room h m = absurd h
  stops_case (Err (Refused r)) k bytes s room h m = let p = s.placed in absurd (refuses_up_in old.features bytes p.old p.held p.same h.0 p.began m (room m.well_formed))
  stops_case (Err (DuplicateExport name offset)) k bytes s room h m = let p = s.placed in absurd (refuses_up_in old.features bytes p.old p.held p.same h.0 p.began m (room m.well_formed))
  stops_case (Err (InFunction index r)) k bytes s room h m = absurd h
  stops_case (Err OutOfMemory) k bytes s room h m = refl

  goes_on : (k : ℕ) (bytes : List ℕ) (r : Result (shown.Types A) (Error A)) → Answered k bytes r → suc k < length answers → IsValidUpToBodies F bytes
  goes_on k bytes r a l =
      let s = place k bytes r a in
      subst (λ (f : WasmFeatures). IsValidUpToBodies (features_of f) bytes) s.placed.same (s.behind l).module_valid

  -- what an accepted module leaves begins with what was held before it
  adds : (front : TypesSoFar) (bytes : List ℕ) (t : shown.Types A) → Placed old.features front bytes (Ok t) → Begins front (types_of_list (shown_of t).list)
  adds front bytes t p =
      let h = p.decided in
      begins_all front p.held (types_of_list (shown_of t).list) p.begins (record { more = h.more; is = h.kept ∙ ap (λ us. us ++ h.more) (stages_apart h.before p.held (sym h.began ∙ p.began)) })

  kept_case : (j k : ℕ) (b c : List ℕ) (t u : shown.Types A) → (j ≡ k) ⊎ ((j < k) ⊎ (k < j)) → j ≤ k → Answered j b (Ok t) → Answered k c (Ok u) → Begins (types_of_list (shown_of t).list) (types_of_list (shown_of u).list)
  kept_case j k b c t u (inl e) l x y =
      let both : Some (Ok t) ≡ Some (Ok u) = sym x.answered ∙ ap (slice_get answers) e ∙ y.answered in
      let same : t ≡ u = cc in
      record { more = []; is = ap (λ (z : shown.Types A). types_of_list (shown_of z).list) (sym same) ∙ sym (append-nil (types_of_list (shown_of t).list)) }
  kept_case j k b c t u (inr (inl l)) below x y = adds (types_of_list (shown_of t).list) c u (later answers modules old new d j k t c (Ok u) l x.answered y.given y.answered)
  kept_case j k b c t u (inr (inr g)) l x y = absurd (omega (arith, l, g))

  kept : (j k : ℕ) (b c : List ℕ) (t u : shown.Types A) → j ≤ k → Answered j b (Ok t) → Answered k c (Ok u) → Begins (types_of_list (shown_of t).list) (types_of_list (shown_of u).list)
  kept j k b c t u l x y = kept_case j k b c t u (cases_order j k) l x y

  -- an id stands for its type
  stands : (k : ℕ) (t : shown.Types A) (i x : ℕ) (e : DefType) → TypeOf k t i x e → StandsFor (canonical F) (types_of_list (shown_of t).list) x e
  stands k t i x e p = zipped (StandsFor (canonical F) (types_of_list (shown_of t).list)) (shown_of t).spaces.types p.shown.module_valid.well_formed.types.types p.shown.shows.types i x e p.its_id p.its_type

  stands_as_one : (us : TypesSoFar) (x : ℕ) (e : DefType) → canonical F ≡ true → StandsFor (canonical F) us x e → StandsFor true us x e
  stands_as_one us x e c s = subst (λ b. StandsFor b us x e) c s

  one_id_from : (j k : ℕ) (t u : shown.Types A) (h i x y : ℕ) (a b : DefType) → canonical F ≡ true → TypeOf j t h x a → TypeOf k u i y b → j ≤ k → (x ≡ y) ↔ (a ≡ b)
  one_id_from j k t u h i x y a b c p q l =
      let k' = kept j k p.bytes q.bytes t u l p.accepted q.accepted in
      let us = types_of_list (shown_of t).list in
      one_id_for_one_type us k'.more (subst HasNoRepetition k'.is (q.shown.shows.one_id c)) x y a b (stands_as_one us x a c (stands j t h x a p))
      (subst (λ (vs : TypesSoFar). StandsFor true vs y b) k'.is (stands_as_one (types_of_list (shown_of u).list) y b c (stands k u i y b q)))

  one_id_case : (j k : ℕ) (t u : shown.Types A) (h i x y : ℕ) (a b : DefType) → (j ≡ k) ⊎ ((j < k) ⊎ (k < j)) → canonical F ≡ true → TypeOf j t h x a → TypeOf k u i y b → (x ≡ y) ↔ (a ≡ b)
  one_id_case j k t u h i x y a b (inl e) c p q = one_id_from j k t u h i x y a b c p q (omega (arith, e))
  one_id_case j k t u h i x y a b (inr (inl l)) c p q = one_id_from j k t u h i x y a b c p q (omega (arith, l))
  one_id_case j k t u h i x y a b (inr (inr g)) c p q = let back = one_id_from k j u t i h y x b a c q p (omega (arith, g)) in (λ e. sym (back.0 (sym e)), λ e. sym (back.1 (sym e)))

  -- where each type has an id of its own, these are the next ones behind those before the module
  own_ids : (front : TypesSoFar) (bytes : List ℕ) (t : shown.Types A) (i x : ℕ) → Placed old.features front bytes (Ok t) → canonical F ≡ false → slice_get (shown_of t).spaces.types i ≡ Some x
      → (start : ℕ) × (length front ≤ start) × (x ≡ start + i) × (x < length (types_of_list (shown_of t).list))
  own_ids front bytes t i x p c e =
      let h = p.decided in
      let own = ap (λ (f : WasmFeatures). canonical (features_of f)) p.same ∙ c in
      let n = numbered (length h.before) (length h.module_valid.well_formed.types.types) i x (ap (λ xs. slice_get xs i) (sym (h.own_ids own)) ∙ e) in
      let from = ap length p.begins.is ∙ length-append front p.begins.more in
      let same = ap length (stages_apart h.before p.held (sym h.began ∙ p.began)) in
      let all = h.own_types own in
      let is = n.0 in
      let below = n.1 in
      (length h.before, omega (arith, from, same), is, omega (arith, all, is, below))

  apart : (j k : ℕ) (t u : shown.Types A) (h i x y : ℕ) (a b : DefType) → canonical F ≡ false → TypeOf j t h x a → TypeOf k u i y b → j < k → x < y
  apart j k t u h i x y a b c p q l =
      let before = own_ids T p.bytes t h x (place j p.bytes (Ok t) p.accepted).placed c p.its_id in
      let behind = own_ids (types_of_list (shown_of t).list) q.bytes u i y (later answers modules old new d j k t q.bytes (Ok u) l p.accepted.answered q.accepted.given q.accepted.answered) c q.its_id in
      let below = before.3 in
      let from = behind.1 in
      let is = behind.2 in
      omega (arith, below, from, is)

  own_id_case : (j k : ℕ) (t u : shown.Types A) (h i x y : ℕ) (a b : DefType) → (j ≡ k) ⊎ ((j < k) ⊎ (k < j)) → canonical F ≡ false → TypeOf j t h x a → TypeOf k u i y b → (x ≡ y) ↔ ((j ≡ k) × (h ≡ i))
  own_id_case j k t u h i x y a b (inr (inl l)) c p q = let less = apart j k t u h i x y a b c p q l in (λ e. absurd (omega (arith, less, e)), λ e. let f = e.0 in absurd (omega (arith, l, f)))
  own_id_case j k t u h i x y a b (inr (inr g)) c p q = let less = apart k j u t i h y x b a c q p g in (λ e. absurd (omega (arith, less, e)), λ e. let f = e.0 in absurd (omega (arith, g, f)))
  own_id_case j k t u h i x y a b (inl same) c p q =
      let both : Some (Ok t) ≡ Some (Ok u) = sym p.accepted.answered ∙ ap (slice_get answers) same ∙ q.accepted.answered in
      let one : u ≡ t = cc in
      let s = (place j p.bytes (Ok t) p.accepted).placed in
      let m = s.decided in
      let own = ap (λ (f : WasmFeatures). canonical (features_of f)) s.same ∙ c in
      let first = numbered (length m.before) (length m.module_valid.well_formed.types.types) h x (ap (λ xs. slice_get xs h) (sym (m.own_ids own)) ∙ p.its_id) in
      let second = numbered (length m.before) (length m.module_valid.well_formed.types.types) i y (ap (λ xs. slice_get xs i) (sym (m.own_ids own)) ∙ ap (λ (z : shown.Types A). slice_get (shown_of z).spaces.types i) (sym one) ∙ q.its_id) in
      let f = first.0 in
      let g = second.0 in
      (λ e. (same, omega (arith, e, f, g)), λ e. let hi = e.1 in omega (arith, hi, f, g))

  abbrev In : Listing A → TypeWithId → Type 0
  In l p = IsIn F modules answers l p

  -- one id of one module's list is that of one type
  same_type : (j k : ℕ) (t u : shown.Types A) (h i x y : ℕ) (a b : DefType) → TypeOf j t h x a → TypeOf k u i y b → j ≡ k → h ≡ i → a ≡ b
  same_type j k t u h i x y a b p q same at =
      let given : Some p.bytes ≡ Some q.bytes = sym p.accepted.given ∙ ap (slice_get modules) same ∙ q.accepted.given in
      let types = types_once F p.bytes q.bytes (same_Some p.bytes q.bytes given) p.shown.module_valid.well_formed q.shown.module_valid.well_formed in
      same_Some a b (sym p.its_type ∙ ap (slice_get p.shown.module_valid.well_formed.types.types) at ∙ ap (λ (ts : List DefType). slice_get ts i) types ∙ q.its_type)

  module _ (l : Listing A) (able : AreListable l.groups) (once : HasNoRepetition (types_of_list l)) where
    -- the id's type in the list has what the type of the module has
    stands_in : (p : TypeWithId) → In l p → StandsFor (canonical F) (types_of_list l) p.id p.ty
    stands_in p h =
        let s = stands h.module_index h.types h.type_index p.id p.ty h.is_type in
        record { listed = s.listed; is_there = h.kept ∙ s.is_there; same_position = s.same_position; same_members = s.same_members; same = s.same }

    valid_in : (p : TypeWithId) → In l p → IsValidType F declared p.ty
    valid_in p h =
        let types = h.is_type.shown.module_valid.well_formed.types in
        all_at (IsValidType F declared) types.types h.type_index p.ty types.valid h.is_type.its_type

    alike_in : (p : TypeWithId) → In l p → AreAlike (declares l.groups) p.id p.ty
    alike_in p h =
        let s = stands_in p h in
        let v = valid_in p h in
        alike (declares l.groups) (type_of_id (types_of_list l) p.ty) p.id s.listed p.ty v.sub (types_declare_what_ids_declare l.is_canonical l.groups p.ty able p.id s.listed s.is_there) s.same_position s.same_members v.declares

    -- where equal types aren't one
    joined_in_apart : canonical F ≡ false → (p q : TypeWithId) → In l p → In l q → AreJoined F (declares l.groups) p q
    joined_in_apart c p q h g =
        let a = alike_in p h in
        let v = valid_in p h in
        let declared_same : v.sub ≡ a.there = same_Some v.sub a.there (sym v.declares ∙ a.type_declares) in
        let none : supertype a.there ≡ None = ap (λ (s : Sub DefType). supertype s) (sym declared_same) ∙ valid_alone F p.ty c v in
        joined_apart F (declares l.groups) p q c (ap (option_and_then supertype) a.id_declares ∙ a.no_supertype none)
        (λ e.
        let one = (own_id_case h.module_index g.module_index h.types g.types h.type_index g.type_index p.id q.id p.ty q.ty (cases_order h.module_index g.module_index) c h.is_type g.is_type).0 e in
        same_type h.module_index g.module_index h.types g.types h.type_index g.type_index p.id q.id p.ty q.ty h.is_type g.is_type one.0 one.1)

    -- where they are
    there_as_one : canonical F ≡ true → (p : TypeWithId) → In l p → slice_get (types_of_list l) p.id ≡ Some p.ty
    there_as_one c p h = let s = stands_as_one (types_of_list l) p.id p.ty c (stands_in p h) in s.is_there ∙ ap Some (s.same refl)

    joined_in_as_one : canonical F ≡ true → (p q : TypeWithId) → In l p → In l q → AreJoined F (declares l.groups) p q
    joined_in_as_one c p q h g =
        let ts = types_of_list l in
        let here = there_as_one c p h in
        let there = there_as_one c q g in
        let law = ids_are_ordered_as_types l.is_canonical l.groups p.ty able once p.id q.id (slice_get_within ts p.id p.ty here) (slice_get_within ts q.id q.ty there) in
        joined_as_one F (declares l.groups) p q c
        (subst (λ (z : DefType). IsAncestor (declares l.groups) p.id q.id ↔ IsAncestor declared p.ty z) (get_or_from_slice_get ts q.id q.ty p.ty there)
        (subst (λ (z : DefType). IsAncestor (declares l.groups) p.id q.id ↔ IsAncestor declared z (type_of_id ts p.ty q.id)) (get_or_from_slice_get ts p.id p.ty p.ty here) law))
        ((λ e. same_Some p.ty q.ty (sym here ∙ ap (slice_get ts) e ∙ there)), (λ e. once.one_id p.id q.id q.ty (here ∙ ap Some e) there))

    joined_case : (b : Bool) → canonical F ≡ b → (p q : TypeWithId) → In l p → In l q → AreJoined F (declares l.groups) p q
    joined_case true c p q h g = joined_in_as_one c p q h g
    joined_case false c p q h g = joined_in_apart c p q h g

    joined_in : (p q : TypeWithId) → In l p → In l q → AreJoined F (declares l.groups) p q
    joined_in p q h g = joined_case (canonical F) refl p q h g

  ordered : (l : Listing A) → AreListable l.groups → HasNoRepetition (types_of_list l) → (p q : TypeWithId) → In l p → In l q
      → IsAncestor (declares l.groups) p.id q.id ↔ (IsAncestor declared p.ty q.ty × (canonical F ≡ false → p.id ≡ q.id))
  ordered l able once p q h g = (joined_in l able once p q h g).order

  matched : (l : Listing A) → AreListable l.groups → HasNoRepetition (types_of_list l) → (v w : Val TypeWithId) → All (In l) (refs_val v) → All (In l) (refs_val w)
      → MatchesVal (declares l.groups) (map_val its_id v) (map_val its_id w)
      ↔ (MatchesVal declared (map_val its_type v) (map_val its_type w) × (canonical F ≡ false → AreUnderOneId (refs_val v) (refs_val w)))
  matched l able once v w h g = vals F (declares l.groups) (In l) (alike_in l able once) (joined_in l able once) v w h g

  ancestors_match : (k : ℕ) (t : shown.Types A) (i x : ℕ) (a b : DefType) (s u : Sub DefType) → TypeOf k t i x a → IsAncestor declared a b → declared a ≡ Some s → declared b ≡ Some u → MatchesSub declared s u
  ancestors_match k t i x a b s u p above here there =
      let types = p.shown.module_valid.well_formed.types in
      accepted_types_match_ancestors.match_ancestors F declared types.types (valid_type_section_is_accepted F p.shown.module_valid.well_formed.parts.groups types) a b s u (contains_at types.types i a p.its_type) above here there

  pub headline_from : Headline F modules answers T
  headline_from = record {
    accepted = accepted;
    refused = λ room k bytes e a m. let s = place k bytes (Err e) a in refused_case e k bytes s (s.room room) m;
    goes_on = goes_on;
    stops = λ room k bytes r a e l m. let s = place k bytes r a in stops_case r k bytes s (s.room room) (s.last e l) m;
    at_most = few_answers answers modules old new d;
    first = first_answer answers modules old new d;
    one_id = λ c j k t u h i x y a b p q. one_id_case j k t u h i x y a b (cases_order j k) c p q;
    own_id = λ c j k t u h i x y a b p q. own_id_case j k t u h i x y a b (cases_order j k) c p q;
    ordered = ordered;
    matched = matched;
    ancestors_match = ancestors_match;
    kept = kept;
    kept_before = λ k bytes t a. adds T bytes t (place k bytes (Ok t) a).placed;
  }

pub headline : {A : Type 0} (answers : List (Result (shown.Types A) (Error A))) (modules : List (List ℕ)) (old new : Standing) → DecidesEach answers modules old new → may_reset old ≡ true → Headline (features_of old.features) modules answers (types_held old.stage)
headline answers modules old new d m = headline_from answers modules old new d (types_held old.stage) (held_at old.stage old refl m)
