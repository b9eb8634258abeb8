-- Where the types of all modules are valid after a step, they were before it.
use Rattle.std.proofs.Common.{◌≡◌, sym, ap, subst, ℕ, List, Option, Some}
use Rattle.wasm_spec_rules.specs.FeatureFlags.{features_of}
use Rattle.wasm_spec.specs.Framing.{Piece}
use Rattle.wasm_readers_errors.specs.WasmReadersFeatures.declared.features.WasmFeatures.{WasmFeatures}
use Rattle.wasm_validator_canonical.specs.Groups.{AreValid}
use Rattle.wasm_validator_types.specs.Spaces.{Spaces}
use Rattle.wasm_validator_sections.specs.WasmValidatorCore.Answers.{TypesSoFar, HasValidTypes}
use Rattle.wasm_validator_sections.specs.Machine.{section_items, beside}
use Rattle.wasm_validator_states.specs.ValidatorStages.{Standing, HoldsAt, HoldsValid}
use Rattle.wasm_validator_states.specs.Payloads.{after_all}
use Rattle.wasm_validator_sections.proofs.GroupGrowth.{fronts_valid}
use Rattle.wasm_validator_states.proofs.ListGrowth as growing

module _ (features : WasmFeatures) where
  abbrev V : TypesSoFar → Type 0
  V = AreValid (features_of features)

  pub beside_back : (f : TypesSoFar → Spaces → Option Spaces) (p q : TypesSoFar × Spaces) → beside f p ≡ Some q → HasValidTypes features q → HasValidTypes features p
  beside_back f p q e v = growing.beside_back V (fronts_valid (features_of features)) features f p q e v

  pub section_back : (id n : ℕ) (bytes : List ℕ) (p q : TypesSoFar × Spaces) → section_items features id n bytes p ≡ Some q → HasValidTypes features q → HasValidTypes features p
  section_back id n bytes p q e v = growing.section_back V (fronts_valid (features_of features)) features id n bytes p q e v

pub all_back : (ps : List Piece) (s t : Standing) → after_all s ps ≡ Some t → HoldsValid t → HoldsValid s
all_back ps s t e v =
    let same = ap (λ (u : Standing). u.features) (growing.all_only ps s t e) in
    growing.all_back (AreValid (features_of s.features)) (fronts_valid (features_of s.features)) ps s t e (subst (λ f. HoldsAt (AreValid (features_of f)) t.stage) (sym same) v)
