-- What stands behind a handle, and what is done to it, as callers see it.
use Rattle.std.specs.Prelude.{ℕ, ◌≡◌, ◌⊎◌, true, false, List, Option, Some, None, IsSome}
use Rattle.std.specs.declared.alloc.Global.{Global}
use Rattle.std.specs.declared.result.Result.{Result}
use Rattle.std.specs.declared.result.Result.TheVariants.{Ok, Err}
use Rattle.wasm_validator.specs.ValidatorStages.{Standing, may_reset, after_reset}
use Rattle.wasm_validator.specs.Verdict.{DecidesModule, EndsModule, StopsModule}
use Rattle.wasm_validator.specs.WasmValidatorTypes.declared.shown.Types as shown
use Rattle.wasm_validator.specs.WasmValidatorCore.declared.error.Error.{Error}
use Rattle.wasm_validator_handles.specs.declared.kept.Kept.{Kept}
use Rattle.wasm_validator_handles.specs.declared.kept.Kept.TheVariants.{Validator, Types}
use Rattle.wasm_validator_handles.specs.declared.kept.NotAsked.{NotAsked}
use Rattle.wasm_validator_handles.specs.declared.kept.NotAsked.TheVariants.{NoValidator, HasFailed}

-- the validator behind a handle, by where it stands, and the types behind one
abbrev pub validator_of : Option Kept → Option Standing
validator_of (Some (Validator v)) = Some v
validator_of (Some (Types t)) = None
validator_of None = None

abbrev pub types_of : Option Kept → Option (shown.Types Global)
types_of (Some (Types t)) = Some t.value
types_of (Some (Validator v)) = None
types_of None = None

-- the module came to its end, so that the validator stands there with its types, or was refused before
abbrev pub EndsOrStops : Result (shown.Types Global) (Error Global) → List ℕ → Standing → Standing → Type 0
EndsOrStops answer bytes old new = EndsModule bytes old new ⊎ StopsModule answer bytes old new

-- Of a validator that may go on: behind a reset it decided the module. One that may not was not asked, and stands where it stood.
abbrev pub AnswersNext : Result (Result (shown.Types Global) (Error Global)) NotAsked → List ℕ → Standing → Standing → Type 0
AnswersNext (Ok answer) bytes old new =
    (may_reset old ≡ true) × DecidesModule answer bytes (after_reset old) new × EndsOrStops answer bytes (after_reset old) new
AnswersNext (Err NoValidator) bytes old new = ⊥
AnswersNext (Err HasFailed) bytes old new = (may_reset old ≡ false) × (new ≡ old)

-- Of a validator that may go on: it stands ready for its next module.
abbrev pub ResetsNext : {X : Type 0} → Result X NotAsked → Standing → Standing → Type 0
ResetsNext (Ok x) old new = (may_reset old ≡ true) × (new ≡ after_reset old)
ResetsNext (Err NoValidator) old new = ⊥
ResetsNext (Err HasFailed) old new = (may_reset old ≡ false) × (new ≡ old)

-- the same of what stands behind a handle, which stays all else; where there is no validator none was asked
abbrev pub Answers : Result (Result (shown.Types Global) (Error Global)) NotAsked → List ℕ → Option Kept → Option Kept → Type 0
Answers result bytes (Some (Validator v)) (Some (Validator w)) = AnswersNext result bytes v w
Answers result bytes (Some (Validator v)) (Some (Types t)) = ⊥
Answers result bytes (Some (Validator v)) None = ⊥
Answers result bytes (Some (Types t)) new = (result ≡ Err NoValidator) × (new ≡ Some (Types t))
Answers result bytes None new = (result ≡ Err NoValidator) × (new ≡ None)

abbrev pub Resets : {X : Type 0} → Result X NotAsked → Option Kept → Option Kept → Type 0
Resets result (Some (Validator v)) (Some (Validator w)) = ResetsNext result v w
Resets result (Some (Validator v)) (Some (Types t)) = ⊥
Resets result (Some (Validator v)) None = ⊥
Resets result (Some (Types t)) new = (result ≡ Err NoValidator) × (new ≡ Some (Types t))
Resets result None new = (result ≡ Err NoValidator) × (new ≡ None)

-- there are types, and these are they
abbrev pub AreTypes : Option (shown.Types Global) → Option (shown.Types Global) → Type 0
AreTypes (Some t) copy = copy ≡ Some t
AreTypes None copy = ⊥

-- the same types once more, if there are some, unless no more may share them
abbrev pub Shares : {X : Type 0} → Option (Result Kept X) → Option Kept → Type 0
Shares (Some (Ok copy)) held = AreTypes (types_of held) (types_of (Some copy))
Shares (Some (Err e)) held = IsSome (types_of held)
Shares None held = types_of held ≡ None
