-- What the answer of a call says that adds an item to a module.
use Rattle.std.specs.Prelude.{◌≡◌, Option, Some, None, ⊤}
use Rattle.std.specs.declared.result.Result.{Result}
use Rattle.std.specs.declared.result.Result.TheVariants.{Ok, Err}
use Rattle.wasm_spec_rules.specs.FeatureFlags.{features_of}
use Rattle.wasm_readers_errors.specs.WasmReadersFeatures.declared.features.WasmFeatures.{WasmFeatures}
use Rattle.wasm_validator_checks.specs.WasmValidatorCanonical.Groups.{AreValid}
use Rattle.wasm_validator_core.specs.declared.error.Error.{Error}
use Rattle.wasm_validator_core.specs.declared.error.Error.TheVariants.{Refused, DuplicateExport, InFunction, OutOfMemory}
pub use Rattle.wasm_validator_checks.specs.Sizes.{TypesSoFar}

-- A call that changes what it is given moves to where the machine moves; where it refuses the content so does the
-- machine, and nothing is said of what is left.
abbrev pub Adds : {T A S : Type 0} → Result T (Error A) → Option S → S → Type 0
Adds (Ok x) next new = next ≡ Some new
Adds (Err (Refused r)) next new = next ≡ None
Adds (Err (DuplicateExport name offset)) next new = next ≡ None
Adds (Err (InFunction index r)) next new = ⊥
Adds (Err OutOfMemory) next new = ⊤

-- The machine moves nowhere, or to where this doesn't hold.
abbrev pub IsNowhere : {S : Type 0} → (S → Type 0) → Option S → Type 0
IsNowhere P next = (s : _) → next ≡ Some s → P s → ⊥

-- The same of a call that is accepted only where this then holds.
abbrev pub AddsWhere : {T A S : Type 0} → (S → Type 0) → Result T (Error A) → Option S → S → Type 0
AddsWhere P (Ok x) next new = next ≡ Some new
AddsWhere P (Err (Refused r)) next new = IsNowhere P next
AddsWhere P (Err (DuplicateExport name offset)) next new = IsNowhere P next
AddsWhere P (Err (InFunction index r)) next new = ⊥
AddsWhere P (Err OutOfMemory) next new = ⊤

-- the types of all modules so far are valid
abbrev pub HasValidTypes : {S : Type 0} → WasmFeatures → TypesSoFar × S → Type 0
HasValidTypes features p = AreValid (features_of features) p.0
