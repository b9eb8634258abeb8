-- What a refusal of an item says.
use Rattle.std.specs.Prelude.{ℕ, ◌≡◌, false, None, IfSome}
use Rattle.wasm_readers.specs.WasmReadersErrors.WasmReadersFeatures.ProposalFlags.{has_flag}
use Rattle.wasm_readers.specs.WasmReadersErrors.declared.error.Refusal.{Refusal}
use Rattle.wasm_readers.specs.WasmReadersErrors.WasmReadersFeatures.declared.features.WasmFeatures.{WasmFeatures}

-- a refusal at this offset; where it names a proposal that would lift it, this one is off
pub record IsRefusalAt (features : WasmFeatures) (offset : ℕ) (refusal : Refusal) : Type 0 where
  pub place : refusal.offset ≡ offset
  pub proposal : IfSome refusal.missing (λ feature. has_flag feature.0 features ≡ false)

-- a refusal at this offset that no proposal would lift
pub record IsPlainRefusalAt (offset : ℕ) (refusal : Refusal) : Type 0 where
  pub place : refusal.offset ≡ offset
  pub no_proposal : refusal.missing ≡ None
