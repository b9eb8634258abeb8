-- What the refusal of a rule says: the rule's fault, where, and the proposal that would lift it.
use Rattle.std.specs.Prelude.{ℕ, ◌||◌, not, Bool, true, false, Option, Some, None}
use Rattle.std.specs.declared.result.Result.{Result}
use Rattle.std.specs.declared.result.Result.TheVariants.{Ok, Err}
use Rattle.wasm_readers_features.specs.ProposalFlags.{has_flag}
use Rattle.wasm_readers_errors.specs.declared.error.Fault.{Fault}
use Rattle.wasm_readers_errors.specs.declared.error.Refusal.{Refusal}
use Rattle.wasm_readers_features.specs.declared.features.WasmFeatures.{WasmFeatures}

-- the refusal of a call, where it refuses
abbrev pub refused : {X : Type 0} → Result X Refusal → Option Refusal
refused (Ok x) = None
refused (Err r) = Some r

-- a refusal that no proposal lifts
abbrev pub plain : Fault → ℕ → Refusal
plain fault offset = record { fault = fault; offset = offset; missing = None }

-- a refusal that this proposal would lift
abbrev pub lacking : WasmFeatures → Fault → ℕ → Refusal
lacking proposal fault offset = record { fault = fault; offset = offset; missing = Some proposal }

-- the refusal, but where this holds
abbrev pub unless : Bool → Refusal → Option Refusal
unless true r = None
unless false r = Some r

-- the refusal for want of a proposal, where it is needed and off
abbrev pub lack_if : Bool → WasmFeatures → WasmFeatures → Fault → ℕ → Option Refusal
lack_if needed features proposal fault offset = unless (not needed || has_flag proposal.0 features) (lacking proposal fault offset)
