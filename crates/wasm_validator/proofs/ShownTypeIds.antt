-- All types that accepted modules show name ids of their lists only.
use Rattle.std.proofs.Common.{ℕ, ◌≡◌, ◌<◌, sym, subst, inl, inr, ◌⊎◌, Bool, List, [], ◌∷◌, length, All}
use Rattle.std.specs.Prelude.{IfOk}
use Rattle.std.specs.List.{AllZip}
use Rattle.std.specs.declared.result.Result.{Result}
use Rattle.std.specs.declared.result.Result.TheVariants.{Ok, Err}
use Rattle.std.proofs.lemmas.List.Elements.{All-nil, All-cons}
use Rattle.std.proofs.lemmas.Option.{slice_get_within}
use Rattle.wasm_spec.specs.Features.{canonical}
use Rattle.wasm_spec.specs.Trees.{DefType}
use Rattle.wasm_spec_rules.specs.FeatureFlags.{features_of}
use Rattle.wasm_validator_type_list.proofs.DefTypes.{length-def_types}
use Rattle.wasm_validator_type_list.specs.DefTypes.{types_of_list}
use Rattle.wasm_validator_modules.specs.WasmValidatorTypes.ShownModules.{shown_of, HoldsIds}
use Rattle.wasm_validator_modules.specs.WasmValidatorTypes.declared.shown.Types as shown
use Rattle.wasm_validator_modules.specs.WasmValidatorCanonical.Sections.{StandsFor}
use Rattle.wasm_validator_modules.specs.WasmValidatorCore.declared.error.Error.{Error}
use Rattle.wasm_validator_modules.specs.WasmValidatorCore.Answers.{TypesSoFar}
use Rattle.wasm_validator_modules.specs.Payloads.{HoldsTypes}
use Rattle.wasm_validator_modules.specs.ValidatorStages.{Standing, after_reset}
use Rattle.wasm_validator_modules.specs.Verdict.{AcceptsModule, DecidesModule, EndsModule, StopsModule}
use Rattle.wasm_validator_modules.proofs.ShownTypeIds.{answer_held}
use Rattle.wasm_validator.specs.Lists.{DecidesEach}

-- ids that stand for types are of the list
zipped_below : (c : Bool) (us : TypesSoFar) (ids : List ℕ) (types : List DefType) → AllZip (StandsFor c us) ids types → All (λ id. id < length us) ids
zipped_below c us [] types a = All-nil (λ id. id < length us)
zipped_below c us (x ∷ ids) [] a = absurd a
zipped_below c us (x ∷ ids) (d ∷ types) a = let s = a.0 in All-cons (λ id. id < length us) x ids (slice_get_within us x s.listed s.is_there) (zipped_below c us ids types a.1)

module _ {A : Type 0} where
  accepted_ids : (bytes : List ℕ) (old new : Standing) (t : shown.Types A) → AcceptsModule bytes old new t → HoldsIds (shown_of t)
  accepted_ids bytes old new t m =
      let list = (shown_of t).list in
      subst (λ n. All (λ id. id < n) (shown_of t).spaces.types) (length-def_types list.is_canonical list.groups)
      (zipped_below (canonical (features_of old.features)) (types_of_list list) (shown_of t).spaces.types m.module_valid.well_formed.types.types m.shows.types)

  abbrev Held : Result (shown.Types A) (Error A) → Type 0
  Held r = IfOk r (λ t. HoldsTypes t)

  ids_of : (r : Result (shown.Types A) (Error A)) (bytes : List ℕ) (old new : Standing) → DecidesModule r bytes old new → IfOk r (λ t. HoldsIds (shown_of t))
  ids_of (Ok t) bytes old new d = accepted_ids bytes old new t d
  ids_of (Err e) bytes old new d = tt

  one_held : (r : Result (shown.Types A) (Error A)) (bytes : List ℕ) (old new : Standing) → DecidesModule r bytes old new → Held r
  one_held r bytes old new d = answer_held r bytes old new d (ids_of r bytes old new d)

  rest_held : (r : Result (shown.Types A) (Error A)) (rs : List (Result (shown.Types A) (Error A))) (m : List ℕ) (ms : List (List ℕ)) (old left new : Standing) → (DecidesEach rs ms left new → All Held rs)
      → (EndsModule m old left × DecidesEach rs ms left new) ⊎ (StopsModule r m old left × (rs ≡ []) × (new ≡ left)) → All Held rs
  rest_held r rs m ms old left new more (inl e) = more e.1
  rest_held r rs m ms old left new more (inr s) = subst (All Held) (sym s.1) (All-nil Held)

  pub all_held : (answers : List (Result (shown.Types A) (Error A))) (modules : List (List ℕ)) (old new : Standing) → DecidesEach answers modules old new → All Held answers
  all_held [] modules old new d = All-nil Held
  all_held (r ∷ rs) [] old new d = absurd d
  all_held (r ∷ rs) (m ∷ ms) old new d =
      All-cons Held r rs (one_held r m (after_reset old) d.0 d.1) (rest_held r rs m ms (after_reset old) d.0 new (all_held rs ms d.0 new) d.2)
