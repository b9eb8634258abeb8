-- The types that a validator holds are told apart.
use Rattle.std.proofs.Common.{◌≡◌, subst, ℕ}
use Rattle.wasm_spec.specs.Features.{canonical}
use Rattle.wasm_spec_rules.specs.FeatureFlags.{features_of}
use Rattle.wasm_readers_errors.specs.WasmReadersFeatures.declared.features.WasmFeatures.{WasmFeatures}
use Rattle.wasm_validator_type_list.specs.DefTypes.{types_of_list}
use Rattle.wasm_validator_type_list.specs.ListViews.{Listing}
use Rattle.wasm_validator_canonical.specs.DistinctTypes.{AreApart}
use Rattle.wasm_validator_sections.specs.WasmValidatorCore.Answers.{TypesSoFar}
use Rattle.wasm_validator_states.specs.declared.state.State.{State}
use Rattle.wasm_validator_states.specs.declared.state.State.TheVariants.{Unparsed, Module, Code, End, Failed}
use Rattle.wasm_validator_states.specs.ValidatorStages.{Standing, HoldsAt}
use Rattle.wasm_validator_states.specs.Views.{stage_of}
use Rattle.wasm_validator_states.specs.Verdict.{StandsApart}

module _ {A : Type 0} where
  -- what holds of the list holds at each stage
  at_each : (V : TypesSoFar → Type 0) (types : TypesSoFar) (s : State A) → V types → HoldsAt V (stage_of types s)
  at_each V types Unparsed v = v
  at_each V types (Module m) v = v
  at_each V types (Code m) v = v
  at_each V types End v = v
  at_each V types Failed v = tt

  pub stands_apart : (id : ℕ) (features : WasmFeatures) (list : Listing A) (s : State A) (old : Standing) → record { id = id; features = features; stage = stage_of (types_of_list list) s } ≡ old
      → list.is_canonical ≡ canonical (features_of features) → AreApart list.is_canonical (types_of_list list) → StandsApart old
  stands_apart id features list s old view mode apart =
      subst StandsApart view (at_each (AreApart (canonical (features_of features))) (types_of_list list) s (subst (λ c. AreApart c (types_of_list list)) mode apart))
