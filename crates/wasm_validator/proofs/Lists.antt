-- From the answers one after another to what they say of all modules.
use Rattle.std.proofs.Common.{◌≡◌, refl, sym, ap, subst, ◌∙◌, ◌⊎◌, inl, inr, ℕ, zero, suc, ◌<◌, ◌≤◌, Bool, true, false, List, [], ◌∷◌, ◌++◌, length, take, slice_get, Some, append_assoc, append-nil, arith, length-append}
use Rattle.std.specs.declared.result.Result.{Result}
use Rattle.std.specs.declared.result.Result.TheVariants.{Ok}
use Rattle.std.proofs.lemmas.Option.{same_Some, none-some}
use Rattle.wasm_spec.specs.Features.{Features, canonical}
use Rattle.wasm_spec.specs.Trees.{DefType}
use Rattle.wasm_spec_rules.specs.FeatureFlags.{features_of}
use Rattle.wasm_spec_rules.specs.Modules.{IsWellFormed}
use Rattle.wasm_readers_errors.specs.WasmReadersFeatures.declared.features.WasmFeatures.{WasmFeatures}
use Rattle.wasm_validator_type_list.specs.DefTypes.{types_of_list}
use Rattle.wasm_validator_modules.specs.WasmValidatorTypes.ShownModules.{shown_of}
use Rattle.wasm_validator_modules.specs.WasmValidatorTypes.declared.shown.Types as shown
use Rattle.wasm_validator_modules.specs.WasmValidatorCore.declared.error.Error.{Error}
use Rattle.wasm_validator_modules.specs.WasmValidatorCore.Answers.{TypesSoFar}
use Rattle.wasm_validator_modules.specs.ValidatorStages.{unparsed, ended, Standing, after_reset}
use Rattle.wasm_validator_modules.specs.Verdict.{HasIdsWith, DecidesModule, EndsModule, StopsModule}
use Rattle.wasm_validator_modules.specs.WasmSpecValidity.Expressions.{expression_at}
use Rattle.wasm_validator_modules.specs.WasmValidatorCanonical.TypeTotals.{with_types, AreWith}
use Rattle.wasm_validator.specs.Lists.{DecidesEach}
use Rattle.wasm_validator.specs.Headline.{Begins, HaveIds, HasRoom}

stages_apart : (T U : TypesSoFar) → unparsed T ≡ unparsed U → T ≡ U
stages_apart T U e = cc

pub begins_all : (T U V : TypesSoFar) → Begins T U → Begins U V → Begins T V
begins_all T U V a b = record { more = a.more ++ b.more; is = b.is ∙ ap (λ us. us ++ b.more) a.is ∙ append_assoc T a.more b.more }

-- there are ids for these types with those of this module
abbrev pub Room : WasmFeatures → List ℕ → TypesSoFar → Type 0
Room features bytes held = let F = features_of features in (m : IsWellFormed expression_at F bytes) → HasIdsWith F held m.types.types

-- as many types, where equal ones aren't one, and the same ones, where they are, have ids with those of more modules
as_many_have : (F : Features) (ms : List (List ℕ)) (us vs : TypesSoFar) → length us ≡ length vs → HaveIds false F us ms → HaveIds false F vs ms
as_many_have F [] us vs e h = tt
as_many_have F (bytes ∷ ms) us vs e h = λ m.
    let x = h m in
    let fits = x.0 in
    let a = length-append us m.types.types in
    let b = length-append vs m.types.types in
    (omega (arith, e, a, b, fits), as_many_have F ms (us ++ m.types.types) (vs ++ m.types.types) (omega (arith, e, a, b)) x.1)

counted_have : (c : Bool) (F : Features) (ms : List (List ℕ)) (all us : TypesSoFar) (ds : List DefType) → AreWith c all us ds → HaveIds c F (with_types c us ds) ms → HaveIds c F all ms
counted_have true F ms all us ds a h = subst (λ xs. HaveIds true F xs ms) (sym a) h
counted_have false F ms all us ds a h = as_many_have F ms (us ++ ds) all (length-append us ds ∙ sym a) h

abbrev at_end : Standing → TypesSoFar → Standing
at_end old types = record old { stage = ended types }

abbrev Answers : Type 0 → Type 0
Answers A = List (Result (shown.Types A) (Error A))

module _ {A : Type 0} where
  -- a module and its answer, where the validator held these types before
  pub record Placed (features : WasmFeatures) (front : TypesSoFar) (bytes : List ℕ) (r : Result (shown.Types A) (Error A)) : Type 0 where
    pub old : Standing
    pub new : Standing
    pub same : old.features ≡ features
    pub held : TypesSoFar
    pub began : old.stage ≡ unparsed held
    pub begins : Begins front held
    pub decided : DecidesModule r bytes old new

  abbrev pub Rooms : WasmFeatures → List (List ℕ) → List (Result (shown.Types A) (Error A)) → TypesSoFar → Type 0
  Rooms features modules answers held = HasRoom (features_of features) modules answers held

  -- the same at a place of the list
  pub record Stood (features : WasmFeatures) (modules : List (List ℕ)) (answers : List (Result (shown.Types A) (Error A))) (front : TypesSoFar) (k : ℕ) (bytes : List ℕ) (r : Result (shown.Types A) (Error A)) : Type 0 where
    pub placed : Placed features front bytes r
    pub behind : suc k < length answers → EndsModule bytes placed.old placed.new
    pub last : suc k ≡ length answers → length answers < length modules → StopsModule r bytes placed.old placed.new
    pub room : Rooms features modules answers front → Room features bytes placed.held

  -- the rest of a list, behind a module that came to its end
  rest_from : (rs : List (Result (shown.Types A) (Error A))) (ms : List (List ℕ)) (old left new : Standing) (types : TypesSoFar) → left ≡ at_end old types → DecidesEach rs ms left new → DecidesEach rs ms (at_end old types) new
  rest_from rs ms old left new types e d = subst (λ (s : Standing). DecidesEach rs ms s new) e d

  no_answers : (rs : List (Result (shown.Types A) (Error A))) → rs ≡ [] → length rs ≡ 0
  no_answers rs e = ap length e

  goes : (r : Result (shown.Types A) (Error A)) (rs : List (Result (shown.Types A) (Error A))) (m : List ℕ) (ms : List (List ℕ)) (old left new : Standing)
      → (EndsModule m old left × DecidesEach rs ms left new) ⊎ (StopsModule r m old left × (rs ≡ []) × (new ≡ left)) → 0 < length rs → EndsModule m old left
  goes r rs m ms old left new (inl e) l = e.0
  goes r rs m ms old left new (inr s) l = let none = no_answers rs s.1 in absurd (omega (arith, l, none))

  stops_at : (r : Result (shown.Types A) (Error A)) (rs : List (Result (shown.Types A) (Error A))) (m : List ℕ) (ms : List (List ℕ)) (old left new : Standing)
      → (EndsModule m old left × DecidesEach rs ms left new) ⊎ (StopsModule r m old left × (rs ≡ []) × (new ≡ left)) → length rs ≡ 0 → 0 < length ms → StopsModule r m old left
  stops_at r [] m [] old left new (inl e) none l = absurd (omega (arith, l))
  stops_at r [] m (x ∷ ms) old left new (inl e) none l = absurd e.1
  stops_at r (s ∷ rs) m ms old left new (inl e) none l = absurd (omega (arith, none))
  stops_at r rs m ms old left new (inr s) none l = s.0

  -- what becomes of the modules behind the first
  abbrev Rest : Result (shown.Types A) (Error A) → Answers A → List ℕ → List (List ℕ) → Standing → Standing → Standing → Type 0
  Rest a rs m ms old left new = (EndsModule m (after_reset old) left × DecidesEach rs ms left new) ⊎ (StopsModule a m (after_reset old) left × (rs ≡ []) × (new ≡ left))

  -- where a module came to its end, and the validator holds these types
  abbrev StandsBehind : Answers A → List (List ℕ) → Standing → Standing → Type 0
  StandsBehind rs ms old new =
      (types : TypesSoFar) → DecidesEach rs ms (at_end (after_reset old) types) new
      → (k : ℕ) (bytes : List ℕ) (r : Result (shown.Types A) (Error A)) → slice_get ms k ≡ Some bytes → slice_get rs k ≡ Some r → Stood old.features ms rs types k bytes r

  stood_behind : (a : Result (shown.Types A) (Error A)) (rs : Answers A) (m : List ℕ) (ms : List (List ℕ)) (old left new : Standing) (T : TypesSoFar) → StandsBehind rs ms old new
      → Rest a rs m ms old left new → (after_reset old).stage ≡ unparsed T
      → (k : ℕ) (bytes : List ℕ) (r : Result (shown.Types A) (Error A)) → slice_get ms k ≡ Some bytes → slice_get rs k ≡ Some r → Stood old.features (m ∷ ms) (a ∷ rs) T (suc k) bytes r
  stood_behind a rs m ms old left new T more (inr s) w k bytes r x y = absurd (none-some r (subst (λ (xs : Answers A). slice_get xs k ≡ Some r) s.1 y))
  stood_behind a rs m ms old left new T more (inl e) w k bytes r x y =
      let ends = e.0 in
      let types = ends.before ++ ends.more in
      let from = stages_apart ends.before T (sym ends.began ∙ w) in
      let F = features_of old.features in
      let written = ends.module_valid.well_formed in
      let counted : AreWith (canonical F) types T written.types.types = subst (λ us. AreWith (canonical F) types us written.types.types) from ends.counted in
      let behind = more types (rest_from rs ms (after_reset old) left new types ends.after e.1) k bytes r x y in
      let p = behind.placed in
      record {
        placed = record {
          old = p.old;
          new = p.new;
          same = p.same;
          held = p.held;
          began = p.began;
          begins = begins_all T types p.held (record { more = ends.more; is = ap (λ us. us ++ ends.more) from }) p.begins;
          decided = p.decided;
        };
        behind = λ l. behind.behind (omega (arith, l));
        last = λ g l. behind.last (omega (arith, g)) (omega (arith, l));
        room = λ h.
            behind.room (counted_have (canonical F) F (take (length rs) ms) types T written.types.types counted (h written).1);
      }

  pub stood : (answers : Answers A) (modules : List (List ℕ)) (old new : Standing) (T : TypesSoFar) → DecidesEach answers modules old new → (after_reset old).stage ≡ unparsed T
      → (k : ℕ) (bytes : List ℕ) (r : Result (shown.Types A) (Error A)) → slice_get modules k ≡ Some bytes → slice_get answers k ≡ Some r → Stood old.features modules answers T k bytes r
  stood [] modules old new T d w k bytes r x y = absurd (none-some r y)
  stood (a ∷ rs) [] old new T d w k bytes r x y = absurd d
  stood (a ∷ rs) (m ∷ ms) old new T d w zero bytes r x y =
      let here : Stood old.features (m ∷ ms) (a ∷ rs) T zero m a = record {
        placed = record { old = after_reset old; new = d.0; same = refl; held = T; began = w; begins = record { more = []; is = sym (append-nil T) }; decided = d.1 };
        behind = λ l. goes a rs m ms (after_reset old) d.0 new d.2 (omega (arith, l));
        last = λ e l. stops_at a rs m ms (after_reset old) d.0 new d.2 (omega (arith, e)) (omega (arith, e, l));
        room = λ h w. (h w).0;
      } in
      subst (λ (b : List ℕ). Stood old.features (m ∷ ms) (a ∷ rs) T zero b r) (same_Some m bytes x) (subst (λ (q : Result (shown.Types A) (Error A)). Stood old.features (m ∷ ms) (a ∷ rs) T zero m q) (same_Some a r y) here)
  stood (a ∷ rs) (m ∷ ms) old new T d w (suc k) bytes r x y =
      stood_behind a rs m ms old d.0 new T (λ types rest. stood rs ms (at_end (after_reset old) types) new types rest refl) d.2 w k bytes r x y

  -- A module behind one that was accepted, whose types begin those that the validator held then.
  abbrev ComesLater : Answers A → List (List ℕ) → Standing → Standing → Type 0
  ComesLater rs ms old new =
      (types : TypesSoFar) → DecidesEach rs ms (at_end (after_reset old) types) new
      → (j k : ℕ) (t : shown.Types A) (bytes : List ℕ) (r : Result (shown.Types A) (Error A)) → j < k → slice_get rs j ≡ Some (Ok t) → slice_get ms k ≡ Some bytes → slice_get rs k ≡ Some r
      → Placed old.features (types_of_list (shown_of t).list) bytes r

  later_behind : (a : Result (shown.Types A) (Error A)) (rs : Answers A) (m : List ℕ) (ms : List (List ℕ)) (old left new : Standing) → StandsBehind rs ms old new → ComesLater rs ms old new
      → Rest a rs m ms old left new → DecidesModule a m (after_reset old) left
      → (j k : ℕ) (t : shown.Types A) (bytes : List ℕ) (r : Result (shown.Types A) (Error A)) → j < suc k → slice_get (a ∷ rs) j ≡ Some (Ok t) → slice_get ms k ≡ Some bytes → slice_get rs k ≡ Some r
      → Placed old.features (types_of_list (shown_of t).list) bytes r
  later_behind a rs m ms old left new stands more (inr s) d j k t bytes r l x y z = absurd (none-some r (subst (λ (xs : Answers A). slice_get xs k ≡ Some r) s.1 z))
  later_behind a rs m ms old left new stands more (inl e) d zero k t bytes r l x y z =
      let accepted = subst (λ (q : Result (shown.Types A) (Error A)). DecidesModule q m (after_reset old) left) (same_Some a (Ok t) x) d in
      let types = types_of_list (shown_of t).list in
      (stands types (rest_from rs ms (after_reset old) left new types accepted.after e.1) k bytes r y z).placed
  later_behind a rs m ms old left new stands more (inl e) d (suc j) k t bytes r l x y z =
      let ends = e.0 in
      let types = ends.before ++ ends.more in
      more types (rest_from rs ms (after_reset old) left new types ends.after e.1) j k t bytes r (omega (arith, l)) x y z

  pub later : (answers : Answers A) (modules : List (List ℕ)) (old new : Standing) → DecidesEach answers modules old new
      → (j k : ℕ) (t : shown.Types A) (bytes : List ℕ) (r : Result (shown.Types A) (Error A)) → j < k → slice_get answers j ≡ Some (Ok t) → slice_get modules k ≡ Some bytes → slice_get answers k ≡ Some r
      → Placed old.features (types_of_list (shown_of t).list) bytes r
  later [] modules old new d j k t bytes r l x y z = absurd (none-some r z)
  later (a ∷ rs) [] old new d j k t bytes r l x y z = absurd d
  later (a ∷ rs) (m ∷ ms) old new d j zero t bytes r l x y z = absurd (omega (arith, l))
  later (a ∷ rs) (m ∷ ms) old new d j (suc k) t bytes r l x y z =
      later_behind a rs m ms old d.0 new (λ types rest. stood rs ms (at_end (after_reset old) types) new types rest refl) (λ types rest. later rs ms (at_end (after_reset old) types) new rest) d.2 d.1 j k t bytes r l x y z

  -- no more answers than modules, and one where there is a module
  few_behind : (a : Result (shown.Types A) (Error A)) (rs : Answers A) (m : List ℕ) (ms : List (List ℕ)) (old left new : Standing) → (DecidesEach rs ms left new → length rs ≤ length ms) → Rest a rs m ms old left new → length rs ≤ length ms
  few_behind a rs m ms old left new few (inl e) = few e.1
  few_behind a rs m ms old left new few (inr s) = let none = no_answers rs s.1 in omega (arith, none)

  pub few_answers : (answers : Answers A) (modules : List (List ℕ)) (old new : Standing) → DecidesEach answers modules old new → length answers ≤ length modules
  few_answers [] modules old new d = omega arith
  few_answers (a ∷ rs) [] old new d = absurd d
  few_answers (a ∷ rs) (m ∷ ms) old new d = let rest = few_behind a rs m ms old d.0 new (few_answers rs ms d.0 new) d.2 in omega (arith, rest)

  pub first_answer : (answers : Answers A) (modules : List (List ℕ)) (old new : Standing) → DecidesEach answers modules old new → 0 < length modules → 0 < length answers
  first_answer [] [] old new d l = absurd (omega (arith, l))
  first_answer [] (m ∷ ms) old new d l = absurd d
  first_answer (a ∷ rs) modules old new d l = omega arith
