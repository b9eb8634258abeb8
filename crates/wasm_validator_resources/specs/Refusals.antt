-- Refusals for want of a proposal, and by the limits of `CRATE_LIMITS`.
use Rattle.std.specs.Prelude.{ℕ, ◌≡◌, true, false, Option, Some, None}
use Rattle.wasm_readers_errors.specs.WasmReadersFeatures.ProposalFlags.{has_flag, crate_limits_on}
use Rattle.wasm_readers_errors.specs.declared.error.Refusal.{Refusal}
use Rattle.wasm_readers_errors.specs.WasmReadersFeatures.declared.features.WasmFeatures.{WasmFeatures}

-- a proposal is named, and it is off
abbrev pub IsOff : WasmFeatures → Option WasmFeatures → Type 0
IsOff features None = ⊥
IsOff features (Some feature) = has_flag feature.0 features ≡ false

-- a refusal at this offset that names a proposal that is off
pub record IsMissing (features : WasmFeatures) (offset : ℕ) (refusal : Refusal) : Type 0 where
  pub place : refusal.offset ≡ offset
  pub proposal : IsOff features refusal.missing

-- or no proposal is named, and the limits are on
abbrev pub IsOffOrLimited : WasmFeatures → Option WasmFeatures → Type 0
IsOffOrLimited features None = crate_limits_on features ≡ true
IsOffOrLimited features (Some feature) = has_flag feature.0 features ≡ false

-- a refusal at this offset that names a proposal that is off, or none where limits are asked for
pub record IsMissingOrLimited (features : WasmFeatures) (offset : ℕ) (refusal : Refusal) : Type 0 where
  pub place : refusal.offset ≡ offset
  pub proposal : IsOffOrLimited features refusal.missing
