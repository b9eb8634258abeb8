-- A module that is being read: what its state shows and holds, and what stays true of it where a section is added.
use Rattle.std.proofs.Common.{◌≡◌, refl, sym, ap, subst, ◌∙◌, ℕ, ◌<◌, List, Some, None}
use Rattle.wasm_readers_errors.specs.WasmReadersFeatures.declared.features.WasmFeatures.{WasmFeatures}
use Rattle.wasm_readers_types.specs.declared.types.SubType.{SubType}
use Rattle.wasm_validator_sections.specs.WasmLawsCore.WasmValidatorCoreResources.ById.{AreFirstByIds}
use Rattle.wasm_validator_types.specs.Spaces.{Spaces}
use Rattle.wasm_validator_states.specs.declared.state.State.{State}
use Rattle.wasm_validator_states.specs.declared.state.State.TheVariants.{Unparsed, Module, Code, End, Failed}
use Rattle.wasm_validator_sections.specs.WasmValidatorCore.Answers.{TypesSoFar}
use Rattle.wasm_spec.specs.Features.{Features}
use Rattle.wasm_spec_rules.specs.FeatureFlags.{features_of}
use Rattle.wasm_validator_canonical.specs.Groups.{AreValid}
use Rattle.wasm_validator_type_list.specs.DefTypes.{types_of_list}
use Rattle.wasm_validator_types.specs.ShownModules.{Shown, HoldsIds}
use Rattle.wasm_validator_states.specs.ValidatorStages.{shown_at, Standing, ended}
use Rattle.wasm_validator_type_list.specs.ListViews.{Listing}
use Rattle.wasm_validator_type_list.specs.ListViews as lists
use Rattle.wasm_validator_type_list.proofs.DefTypes.{length-def_types}
use Rattle.wasm_validator_sections.specs.WasmValidatorCore.OpenLists.{AreIdsOf}
use Rattle.wasm_validator_sections.specs.declared.module_state.ModuleState.{ModuleState}
use Rattle.wasm_validator_states.specs.ModuleInvariants.{AreIdsIn, AreValidIn, AreFirstIn}
use Rattle.wasm_validator_states.specs.States.{module_ended, after_end}
use Rattle.wasm_validator_states.specs.Views.{open_of, read_of, stage_of, state_kept}
use Rattle.std.specs.List.{All}
use Rattle.std.specs.Prelude.{OnOk}
use Rattle.std.specs.declared.result.Result.{Result}
use Rattle.std.specs.declared.result.Result.TheVariants as results
use Rattle.wasm_validator_sections.specs.WasmValidatorCore.declared.error.Error.{Error}

-- the end of a module that is being read
module _ {A : Type 0} where
  pub open-closes : (types : TypesSoFar) (s : State A) (m : Spaces) → read_of s ≡ Some m → module_ended (stage_of types s) ≡ Some (ended types)
  open-closes types (Module n) m o = refl
  open-closes types (Code n) m o = refl
  open-closes types Unparsed m o = absurd (cc)
  open-closes types End m o = absurd (cc)
  open-closes types Failed m o = absurd (cc)

  pub open-shows : (types : TypesSoFar) (s : State A) (m : Spaces) → read_of s ≡ Some m → shown_at (stage_of types s) ≡ Some (types, m)
  open-shows types (Module n) m o = let same : n.«module» ≡ m = cc in ap (λ x. Some (types, x)) same
  open-shows types (Code n) m o = let same : n.spaces.value ≡ m = cc in ap (λ x. Some (types, x)) same
  open-shows types Unparsed m o = absurd (cc)
  open-shows types End m o = absurd (cc)
  open-shows types Failed m o = absurd (cc)

  pub none-shows : (types : TypesSoFar) (s : State A) → read_of s ≡ None → shown_at (stage_of types s) ≡ None
  none-shows types (Module n) o = absurd (cc)
  none-shows types (Code n) o = absurd (cc)
  none-shows types Unparsed o = refl
  none-shows types End o = refl
  none-shows types Failed o = refl

  -- the same of a validator
  module _ (id : ℕ) (features : WasmFeatures) (types : TypesSoFar) (s : State A) (m : Spaces) (old : Standing) where
    abbrev here : Standing
    here = record { id = id; features = features; stage = stage_of types s }

    pub ended_from_open : (types' : TypesSoFar) → here ≡ old → read_of s ≡ Some m → types' ≡ types → after_end old ≡ Some (record { id = id; features = features; stage = ended types' })
    ended_from_open types' v o e =
        let new : Standing = record { id = id; features = features; stage = ended types' } in
        let P : Standing → Type 0 = λ w. after_end w ≡ Some new in
        subst P v (rw (open-closes types s m o, e) refl)

    pub shown_from_open : (types' : TypesSoFar) (m' : Spaces) → here ≡ old → read_of s ≡ Some m → types' ≡ types → m' ≡ m → shown_at old.stage ≡ Some (types', m')
    shown_from_open types' m' v o e f =
        let P : Standing → Type 0 = λ w. shown_at w.stage ≡ Some (types', m') in
        subst P v (open-shows types s m o ∙ (λ i. Some (sym e i, sym f i)))

-- the types of a validator are valid
module _ {A : Type 0} (features : WasmFeatures) (list : Listing A) where
  pub open-valid : (s : State A) (m : Spaces) → open_of s ≡ Some m → AreValidIn features list s → AreValid (features_of features) (types_of_list list)
  open-valid (Module n) m o v = v
  open-valid (Code n) m o v = absurd (cc)
  open-valid Unparsed m o v = absurd (cc)
  open-valid End m o v = absurd (cc)
  open-valid Failed m o v = absurd (cc)

  pub read-valid : (s : State A) (m : Spaces) → read_of s ≡ Some m → AreValidIn features list s → AreValid (features_of features) (types_of_list list)
  read-valid (Module n) m o v = v
  read-valid (Code n) m o v = v
  read-valid Unparsed m o v = absurd (cc)
  read-valid End m o v = absurd (cc)
  read-valid Failed m o v = absurd (cc)

  pub unparsed-valid : (s : State A) → s ≡ Unparsed → AreValidIn features list s → AreValid (features_of features) (types_of_list list)
  unparsed-valid s e v = subst (AreValidIn features list) e v

  pub shown-valid : (id : ℕ) (s : State A) (m : Spaces) (old : Standing) (types : TypesSoFar) → record { id = id; features = features; stage = stage_of (types_of_list list) s } ≡ old → read_of s ≡ Some m → AreValidIn features list s → types ≡ types_of_list list → AreValid (features_of old.features) types
  shown-valid id s m old types e o v same =
      subst (λ (w : Standing). AreValid (features_of w.features) types) e (subst (AreValid (features_of features)) (sym same) (read-valid s m o v))

-- what is kept of the list for constant expressions
module _ {A : Type 0} (list : Listing A) (types : List (SubType A)) where
  pub open-first : (s : State A) (m : Spaces) → open_of s ≡ Some m → AreFirstIn list types s → AreFirstByIds list.groups types
  open-first (Module n) m o v = v
  open-first (Code n) m o v = absurd (cc)
  open-first Unparsed m o v = absurd (cc)
  open-first End m o v = absurd (cc)
  open-first Failed m o v = absurd (cc)

  pub read-first : (s : State A) (m : Spaces) → read_of s ≡ Some m → AreFirstIn list types s → AreFirstByIds list.groups types
  read-first (Module n) m o v = v
  read-first (Code n) m o v = v
  read-first Unparsed m o v = absurd (cc)
  read-first End m o v = absurd (cc)
  read-first Failed m o v = absurd (cc)

  pub unparsed-first : (s : State A) → s ≡ Unparsed → AreFirstIn list types s → AreFirstByIds list.groups types
  unparsed-first s e v = subst (AreFirstIn list types) e v

-- the ids of a module that is being read
module _ {A : Type 0} where
  pub open-ids : (list : Listing A) (s : State A) (m : Spaces) → open_of s ≡ Some m → AreIdsIn list s → AreIdsOf list m.types
  open-ids list (Module n) m o a = let same : n.«module» ≡ m = cc in subst (λ (x : Spaces). AreIdsOf list x.types) same a
  open-ids list (Code n) m o a = absurd (cc)
  open-ids list Unparsed m o a = absurd (cc)
  open-ids list End m o a = absurd (cc)
  open-ids list Failed m o a = absurd (cc)

  read-ids : (list : Listing A) (s : State A) (m : Spaces) → read_of s ≡ Some m → AreIdsIn list s → AreIdsOf list m.types
  read-ids list (Module n) m o a = let same : n.«module» ≡ m = cc in subst (λ (x : Spaces). AreIdsOf list x.types) same a
  read-ids list (Code n) m o a = let same : n.spaces.value ≡ m = cc in subst (λ (x : Spaces). AreIdsOf list x.types) same a
  read-ids list Unparsed m o a = absurd (cc)
  read-ids list End m o a = absurd (cc)
  read-ids list Failed m o a = absurd (cc)

  -- and what shows them
  list-ids : (id : ℕ) (F : Features) (list : Listing A) (m : Spaces) → AreIdsOf list m.types → HoldsIds (record { id = id; features = F; list = list; spaces = m })
  list-ids id F list m a = subst (λ n. All (λ i. i < n) m.types) (length-def_types list.is_canonical list.groups) a.known

  pub shown-ids : (id : ℕ) (F : Features) (list : Listing A) (s : State A) (m : Spaces) (w : Shown A) → read_of s ≡ Some m → AreIdsIn list s → w ≡ record { id = id; features = F; list = lists.committed list; spaces = m } → HoldsIds w
  shown-ids id F list s m w o a e = subst HoldsIds (sym e) (list-ids id F list m (read-ids list s m o a))

  pub lent-ids : (id : ℕ) (F : Features) (list : Listing A) (s : State A) (m n : Spaces) (w : Shown A) → read_of s ≡ Some m → AreIdsIn list s → n ≡ m → w ≡ record { id = id; features = F; list = list; spaces = n } → HoldsIds w
  lent-ids id F list s m n w o a same e = subst HoldsIds (sym e) (subst (λ x. HoldsIds (record { id = id; features = F; list = list; spaces = x })) (sym same) (list-ids id F list m (read-ids list s m o a)))

-- what is left of it where a section was added that leaves the list
module _ {T A : Type 0} (list : Listing A) (m : ModuleState A) where
  pub kept-ids : (r : Result T (Error A)) → AreIdsOf list m.«module».types → AreIdsIn list (state_kept r m)
  kept-ids (results.Ok x) a = a
  kept-ids (results.Err e) a = tt

  -- the same where it was added to the list
  pub added-ids : (r : Result T (Error A)) → OnOk r (AreIdsOf list m.«module».types) → AreIdsIn list (state_kept r m)
  added-ids (results.Ok x) a = a
  added-ids (results.Err e) a = tt

  pub added-valid : (features : WasmFeatures) (r : Result T (Error A)) → OnOk r (AreValid (features_of features) (types_of_list list)) → AreValidIn features list (state_kept r m)
  added-valid features (results.Ok x) v = v
  added-valid features (results.Err e) v = tt

  pub kept-first : (types : List (SubType A)) (r : Result T (Error A)) → AreFirstByIds list.groups types → AreFirstIn list types (state_kept r m)
  kept-first types (results.Ok x) v = v
  kept-first types (results.Err e) v = tt

  pub kept-valid : (features : WasmFeatures) (r : Result T (Error A)) → AreValid (features_of features) (types_of_list list) → AreValidIn features list (state_kept r m)
  kept-valid features (results.Ok x) v = v
  kept-valid features (results.Err e) v = tt

-- what stays true of the state where a section was added that leaves the list
module _ {T A : Type 0} (features : WasmFeatures) (list : Listing A) (types : List (SubType A)) (s new : State A) (before : Spaces) (m : ModuleState A) (r : Result T (Error A)) where
  pub stays_ready : open_of s ≡ Some before → AreIdsIn list s → AreValidIn features list s → AreFirstByIds list.groups types → m.«module».types ≡ before.types → new ≡ state_kept r m → AreIdsIn list new × AreValidIn features list new × AreFirstIn list types new
  stays_ready o ids valid first same kept =
      subst (λ (n : State A). AreIdsIn list n × AreValidIn features list n × AreFirstIn list types n) (sym kept)
      (kept-ids list m r (subst (AreIdsOf list) (sym same) (open-ids list s before o ids)), kept-valid list m features r (open-valid features list s before o valid), kept-first list m types r first)
