-- What is told of a validator, and of the types of a module, behind a handle.
use Rattle.std.specs.Prelude.{ℕ, ◌≡◌, ◌≢◌, ◌⊎◌, if◌then◌else◌, Bool, List, Option, Some, None}
use Rattle.std.specs.declared.alloc.Global.{Global}
use Rattle.std.specs.declared.result.Result.{Result}
use Rattle.std.specs.declared.result.Result.TheVariants.{Ok, Err}
use Rattle.wasm_validator_handles.specs.HandleContents.{Answers, Resets}
use Rattle.wasm_validator_handles.specs.declared.kept.Kept.{Kept}
use Rattle.wasm_validator_handles.specs.declared.kept.Kept.TheVariants.{Validator, Types}
use Rattle.wasm_validator_handles.specs.declared.kept.NotAsked.{NotAsked}
use Rattle.wasm_validator_handles.specs.declared.kept.NotAsked.TheVariants.{NoValidator, HasFailed}
use Rattle.wasm_validator_handles.specs.HandleContents.{types_of}
use Rattle.wasm_validator_handles.specs.WasmValidator.Verdict.{AreModule}
use Rattle.wasm_validator_handles.specs.WasmValidator.WasmValidatorCore.declared.error.Error.{Error}
use Rattle.wasm_validator_handles.specs.WasmValidator.WasmValidatorCore.declared.error.Error.TheVariants.{Refused, DuplicateExport, InFunction, OutOfMemory}
use Rattle.wasm_validator_handles.specs.WasmValidator.WasmValidatorTypes.ShownModules.{shown_of}
use Rattle.wasm_validator_handles.specs.WasmValidator.WasmValidatorTypes.declared.shown.Types as shown
use Rattle.ruthvelka_c.specs.declared.report.Report.{Report}
use Rattle.ruthvelka_c.specs.declared.handles.TheConstants.{STATUS_DONE, STATUS_VALID, STATUS_REFUSED, STATUS_NO_MEMORY, STATUS_FAILED, STATUS_WRONG}
use Rattle.wasm_validator_handles.specs.declared.values.ValueType.{ValueType}
use Rattle.ruthvelka_c.specs.declared.queries.TheConstants.{YES, NO, UNKNOWN}
use Rattle.ruthvelka_c.specs.Answers.{Answer}
use Rattle.wasm_validator_handles.specs.Pairs.{longer}
use Rattle.wasm_validator_handles.specs.Values.{TellsMatch}
use Rattle.ruthvelka_c.specs.Queries.{IsBelow, IsSaid, MayBeGiven, Says, exported_at, imported_at}
use Rattle.ruthvelka_c.specs.Reports.{IdsAreWritten, IdsStay, Tells, TellsCounts}

-- the validator behind a handle checks modules under features under which these bytes are valid
abbrev pub AreModuleHere : Option Kept → List ℕ → Type 0
AreModuleHere (Some (Validator v)) bytes = AreModule v.features bytes
AreModuleHere (Some (Types t)) bytes = ⊥
AreModuleHere None bytes = ⊥

-- the status of a validator that was not asked, and that of a reset
abbrev pub refusal_status : NotAsked → ℕ
refusal_status NoValidator = STATUS_WRONG
refusal_status HasFailed = STATUS_FAILED

abbrev pub reset_status : {X : Type 0} → Result X NotAsked → ℕ
reset_status (Ok x) = STATUS_DONE
reset_status (Err why) = refusal_status why

-- the status of a refusal
abbrev pub error_status : {A : Type 0} → Error A → ℕ
error_status (Refused r) = STATUS_REFUSED
error_status (DuplicateExport name offset) = STATUS_REFUSED
error_status (InFunction index r) = STATUS_REFUSED
error_status OutOfMemory = STATUS_NO_MEMORY

-- Of an accepted module its types are kept, and the report tells of them; where there is no memory to keep them, that is what is told. A refusal
-- is told of as such.
abbrev pub TellsAnswer : Answer → Report → Option Kept → ℕ → Type 0
TellsAnswer (Ok t) r types status =
    ((status ≡ STATUS_VALID) × Tells (Ok t) r × (types_of types ≡ Some t)) ⊎ ((status ≡ STATUS_NO_MEMORY) × Tells (Err OutOfMemory) r × (types ≡ None))
TellsAnswer (Err e) r types status = (status ≡ error_status e) × Tells (Err e) r × (types ≡ None)

-- What the status, the report and the second handle tell of what a validator behind a handle was asked: of its answer, or why there is none.
abbrev pub TellsAsked : Result Answer NotAsked → Report → Option Kept → ℕ → Type 0
TellsAsked (Ok answer) r types status = TellsAnswer answer r types status
TellsAsked (Err why) r types status = (status ≡ refusal_status why) × (types ≡ None)

pub record TellsOn (bytes : List ℕ) (old new : Option Kept) (r : Report) (types : Option Kept) (status : ℕ) : Type 0 where
  pub result : Result Answer NotAsked
  pub answers : Answers result bytes old new
  pub tells : TellsAsked result r types status

-- What the status tells of a reset.
pub record TellsReset (old new : Option Kept) (status : ℕ) : Type 0 where
  pub result : Result Unit NotAsked
  pub resets : Resets result old new
  pub told : status ≡ reset_status result

-- of the types behind a handle: how many items their module has, and the ids of its types and of those of its functions
abbrev pub TellsIds : Option (shown.Types Global) → Report → Report → List ℕ → List ℕ → List ℕ → List ℕ → ℕ → Type 0
TellsIds (Some t) r0 r1 t0 t1 f0 f1 status = (status ≡ STATUS_DONE) × TellsCounts (shown_of t).spaces r1 × IdsAreWritten (shown_of t).spaces t0 t1 f0 f1
TellsIds None r0 r1 t0 t1 f0 f1 status = (status ≡ STATUS_WRONG) × (r1 ≡ r0) × IdsStay t0 t1 f0 f1

-- whether one id is below another one in their list
abbrev pub SaysSubtype : Option (shown.Types Global) → ℕ → ℕ → ℕ → Type 0
SaysSubtype (Some t) first second answer = IsSaid answer (IsBelow (shown_of t).list first second)
SaysSubtype None first second answer = answer ≡ STATUS_WRONG

-- an answer in C: that there is none, or yes or no
abbrev pub answer_of : Option Bool → ℕ
answer_of (Some answer) = if answer then YES else NO
answer_of None = UNKNOWN

-- whether the first value type matches the second one in their list
abbrev pub SaysMatching : Option (shown.Types Global) → ValueType → ValueType → ℕ → Type 0
SaysMatching (Some t) first second answer = (told : Option Bool) × TellsMatch (shown_of t).list first second told × (answer ≡ answer_of told)
SaysMatching None first second answer = answer ≡ STATUS_WRONG

-- whether an export of the first may be given for an import of the second, where both are of one validator
abbrev pub SaysLinked : Option (shown.Types Global) → ℕ → Option (shown.Types Global) → ℕ → ℕ → Type 0
SaysLinked (Some t) exported (Some u) imported answer =
    (((shown_of t).id ≢ (shown_of u).id) × (answer ≡ STATUS_WRONG))
    ⊎ (((shown_of t).id ≡ (shown_of u).id)
    × Says MayBeGiven (exported_at (Some t) exported) (imported_at (Some u) imported) (Some (longer (shown_of t).list (shown_of u).list)) answer)
SaysLinked (Some t) exported None imported answer = answer ≡ STATUS_WRONG
SaysLinked None exported u imported answer = answer ≡ STATUS_WRONG
