-- Where a validator stands, and the words for calls that move it.
use Rattle.std.specs.Prelude.{ℕ, ◌≡◌, ◌==◌, if◌then◌else◌, Bool, true, false, [], Option, Some, None, IsSome, ⊤}
use Rattle.std.specs.Option.{option_and_then}
use Rattle.std.specs.declared.result.Result.{Result}
use Rattle.std.specs.declared.result.Result.TheVariants.{Ok, Err}
use Rattle.wasm_readers_errors.specs.WasmReadersFeatures.declared.features.WasmFeatures.{WasmFeatures}
use Rattle.wasm_validator_types.specs.Spaces.{Spaces}
use Rattle.wasm_validator_sections.specs.WasmValidatorCore.declared.error.Error.{Error}
use Rattle.wasm_validator_sections.specs.WasmValidatorCore.declared.error.Error.TheVariants.{Refused, DuplicateExport, InFunction, OutOfMemory}
use Rattle.wasm_spec_rules.specs.FeatureFlags.{features_of}
use Rattle.wasm_validator_canonical.specs.Groups.{AreValid}
use Rattle.wasm_validator_sections.specs.WasmValidatorCore.Answers.{TypesSoFar, IsNowhere}
use Rattle.wasm_validator_sections.specs.ModuleNotes.{Noted}
use Rattle.wasm_validator_sections.specs.CodeProgress.{Started, bodies_left}

-- The stages of a validator: no header has been read, a module is being read, its code section has started, one has
-- ended, or one was refused. A validator that has failed shows nothing of what it held.
pub data Stage : Type 0 where
  unparsed : TypesSoFar → Stage
  in_module : TypesSoFar → Spaces → Noted → Stage
  in_code : TypesSoFar → Spaces → Started → Stage
  ended : TypesSoFar → Stage
  failed : Stage

pub record Standing : Type 0 where
  pub id : ℕ
  pub features : WasmFeatures
  pub stage : Stage

abbrev pub fresh : ℕ → WasmFeatures → Standing
fresh id features = record { id = id; features = features; stage = unparsed [] }

-- a refusal in a module fails the validator, and elsewhere changes nothing: no section but the data section comes
-- behind the start of the code
abbrev pub refused_at : Stage → Stage
refused_at (unparsed types) = unparsed types
refused_at (in_module types spaces more) = failed
refused_at (in_code types spaces more) = in_code types spaces more
refused_at (ended types) = ended types
refused_at failed = failed

-- that of a data section, and of one whose proposal is missing, fails it behind the start of the code as well
abbrev pub read_refused_at : Stage → Stage
read_refused_at (unparsed types) = unparsed types
read_refused_at (in_module types spaces more) = failed
read_refused_at (in_code types spaces more) = failed
read_refused_at (ended types) = ended types
read_refused_at failed = failed

-- that of a body fails the validator where it was a body's turn
abbrev pub body_refused_at : Stage → Stage
body_refused_at (unparsed types) = unparsed types
body_refused_at (in_module types spaces more) = in_module types spaces more
body_refused_at (in_code types spaces more) = if bodies_left spaces more == 0 then in_code types spaces more else failed
body_refused_at (ended types) = ended types
body_refused_at failed = failed

abbrev pub is_failed_at : Stage → Bool
is_failed_at (unparsed types) = false
is_failed_at (in_module types spaces more) = false
is_failed_at (in_code types spaces more) = false
is_failed_at (ended types) = false
is_failed_at failed = true

abbrev pub is_failed : Standing → Bool
is_failed s = is_failed_at s.stage

-- no module is being read, and none was refused
abbrev pub can_reset_at : Stage → Bool
can_reset_at (unparsed types) = true
can_reset_at (in_module types spaces more) = false
can_reset_at (in_code types spaces more) = false
can_reset_at (ended types) = true
can_reset_at failed = false

abbrev pub may_reset : Standing → Bool
may_reset s = can_reset_at s.stage

abbrev pub reset_at : Stage → Stage
reset_at (unparsed types) = unparsed types
reset_at (in_module types spaces more) = in_module types spaces more
reset_at (in_code types spaces more) = in_code types spaces more
reset_at (ended types) = unparsed types
reset_at failed = failed

abbrev pub after_reset : Standing → Standing
after_reset s = record s { stage = reset_at s.stage }

-- the types of all modules and the index spaces of this one, while a module is being read
abbrev pub shown_at : Stage → Option (TypesSoFar × Spaces)
shown_at (unparsed types) = None
shown_at (in_module types spaces more) = Some (types, spaces)
shown_at (in_code types spaces more) = Some (types, spaces)
shown_at (ended types) = None
shown_at failed = None

-- one step of a module that is being read, before the start of the code, and what is noted then
abbrev pub within : (Noted → Noted) → (TypesSoFar × Spaces → Option (TypesSoFar × Spaces)) → Stage → Option Stage
within note f (unparsed types) = None
within note f (in_module types spaces more) = option_and_then (λ p. Some (in_module p.0 p.1 (note more))) (f (types, spaces))
within note f (in_code types spaces more) = None
within note f (ended types) = None
within note f failed = None

-- and one that may come behind it as well, and notes nothing
abbrev pub within_all : (TypesSoFar × Spaces → Option (TypesSoFar × Spaces)) → Stage → Option Stage
within_all f (unparsed types) = None
within_all f (in_module types spaces more) = option_and_then (λ p. Some (in_module p.0 p.1 more)) (f (types, spaces))
within_all f (in_code types spaces more) = option_and_then (λ p. Some (in_code p.0 p.1 more)) (f (types, spaces))
within_all f (ended types) = None
within_all f failed = None

-- the same validator at another stage
abbrev pub at_stage : Standing → Option Stage → Option Standing
at_stage s next = option_and_then (λ g. Some (record s { stage = g })) next

-- this holds of the list of types; a validator that has failed has none
abbrev pub HoldsAt : (TypesSoFar → Type 0) → Stage → Type 0
HoldsAt V (unparsed types) = V types
HoldsAt V (in_module types spaces more) = V types
HoldsAt V (in_code types spaces more) = V types
HoldsAt V (ended types) = V types
HoldsAt V failed = ⊤

-- the types that a validator holds are valid
abbrev pub AreValidAt : WasmFeatures → Stage → Type 0
AreValidAt features g = HoldsAt (AreValid (features_of features)) g

abbrev pub HoldsValid : Standing → Type 0
HoldsValid s = AreValidAt s.features s.stage

-- A call moves to where the machine moves; where it refuses the content the machine moves nowhere, or to where a type
-- isn't valid, and the validator is left at the stage that is given. Memory is refused only while a module is being read, and only where that
-- stage is failed.
abbrev pub Leaves : {T A : Type 0} → Result T (Error A) → Option Standing → Stage → Standing → Standing → Type 0
Leaves (Ok x) next left old new = next ≡ Some new
Leaves (Err (Refused r)) next left old new = IsNowhere HoldsValid next × (new ≡ record old { stage = left })
Leaves (Err (DuplicateExport name offset)) next left old new = IsNowhere HoldsValid next × (new ≡ record old { stage = left })
Leaves (Err (InFunction index r)) next left old new = ⊥
Leaves (Err OutOfMemory) next left old new = IsSome (shown_at old.stage) × (left ≡ failed) × (new ≡ record old { stage = failed })

-- a section's call, which fails the validator where it is refused in a module, and elsewhere changes nothing
abbrev pub Moves : {T A : Type 0} → Result T (Error A) → Option Standing → Standing → Standing → Type 0
Moves result next old new = Leaves result next (refused_at old.stage) old new

-- what a refused `end` leaves: in a module it is refused memory alone
abbrev pub ended_at : Stage → Stage
ended_at (unparsed types) = ended types
ended_at (in_module types spaces more) = failed
ended_at (in_code types spaces more) = failed
ended_at (ended types) = ended types
ended_at failed = failed

-- a module has ended
abbrev pub IsEnded : Stage → Type 0
IsEnded (unparsed types) = ⊥
IsEnded (in_module types spaces more) = ⊥
IsEnded (in_code types spaces more) = ⊥
IsEnded (ended types) = ⊤
IsEnded failed = ⊥

-- the validator isn't at a module's end, unless it was before
abbrev pub HasNotEnded : Standing → Standing → Type 0
HasNotEnded old new = IsEnded new.stage → IsEnded old.stage
