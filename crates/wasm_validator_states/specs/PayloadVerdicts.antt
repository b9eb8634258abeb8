-- What the answers on payloads say of the bytes, where whoever gives them validates the bodies. Core Specification 3.0, Validation, Modules.
use Rattle.std.specs.Prelude.{ℕ, ◌≡◌, List, Some}
use Rattle.std.specs.List.{All}
use Rattle.wasm_spec.specs.Framing.{Piece, IsFramed}
use Rattle.wasm_spec_rules.specs.FeatureFlags.{features_of}
use Rattle.wasm_spec_validity.specs.Modules.{IsValidModule}
use Rattle.wasm_validator_sections.specs.WasmValidatorCore.Answers.{TypesSoFar}
use Rattle.wasm_validator_states.specs.ValidatorStages.{Standing, unparsed, HoldsValid}
use Rattle.wasm_validator_states.specs.Payloads.{after_all, all_handed, IsBodyOfIts}
use Rattle.wasm_validator_states.specs.Verdict.{StandsApart, HasIdsWith}

-- The bytes are framed as these payloads, each is accepted after those before it, and each body that they hand out is that of its function.
pub record PayloadsAreAccepted (bytes : List ℕ) (old : Standing) : Type 0 where
  pub pieces : List Piece
  pub framed : IsFramed bytes pieces
  pub new : Standing
  pub accepted : after_all old pieces ≡ Some new
  pub valid : HoldsValid new
  pub bodies : All IsBodyOfIts (all_handed old pieces)

-- So they are a valid module. And those of a valid module are accepted where no header has been read, as far as there are ids for its types.
abbrev pub PayloadsDecide : Type 0
PayloadsDecide =
    (bytes : List ℕ) (old : Standing) → HoldsValid old → StandsApart old
    → (PayloadsAreAccepted bytes old → IsValidModule (features_of old.features) bytes)
    × ((before : TypesSoFar) → old.stage ≡ unparsed before
    → (m : IsValidModule (features_of old.features) bytes) → HasIdsWith (features_of old.features) before m.well_formed.types.types → PayloadsAreAccepted bytes old)
