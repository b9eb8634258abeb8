-- Modules that one validator looks at one after another, and the ids of their types. Core Specification 3.0, Validation,
-- Types (Recursive Types): types are equal where they are the same place of equal recursive types.
use Rattle.std.specs.Prelude.{ℕ, ◌≡◌, ◌↔◌, true, false, List, [], ◌∷◌, ◌++◌, slice_get, Option, Some, None, ⊤}
use Rattle.std.specs.List.{zip}
use Rattle.wasm_spec.specs.Features.{canonical}
use Rattle.wasm_spec.specs.Trees.{DefType}
use Rattle.wasm_spec_rules.specs.FeatureFlags.{features_of}
use Rattle.wasm_readers_errors.specs.declared.error.Refusal.{Refusal}
use Rattle.wasm_validator_types.specs.ShownModules.{shown_of}
use Rattle.wasm_validator_types.specs.declared.shown.Types as shown
use Rattle.wasm_validator_sections.specs.WasmValidatorCore.Answers.{TypesSoFar}
use Rattle.wasm_validator_states.specs.ValidatorStages.{Standing, unparsed, may_reset, after_reset}
use Rattle.wasm_validator_states.specs.Payloads.{IsLeft}
use Rattle.wasm_validator_states.specs.Verdict.{AcceptsModule}

-- The validator may be reset, and then has a list that begins with the types that it had.
pub record KeepsTypes (old new : Standing) : Type 0 where
  pub before : TypesSoFar
  pub began : old.stage ≡ unparsed before
  pub may : may_reset new ≡ true
  pub more : TypesSoFar
  pub after : after_reset new ≡ record old { stage = unparsed (before ++ more) }

-- A module that is refused so that the validator may be reset does so.
abbrev pub RefusedKeepTypes : Type 0
RefusedKeepTypes = (told : Option Refusal) (bytes : List ℕ) (old new : Standing) (before : TypesSoFar) → old.stage ≡ unparsed before → IsLeft told bytes old new → may_reset new ≡ true → KeepsTypes old new

module _ {A : Type 0} where
  -- what a validator makes of a module: it is accepted with these types, or it is refused so that the validator may be reset
  abbrev pub Takes : List ℕ → Option (shown.Types A) → Standing → Standing → Type 0
  Takes bytes (Some t) old new = AcceptsModule bytes old new t
  Takes bytes None old new = KeepsTypes old new

  -- modules one after another, each with its types if it is accepted, and with `reset` between two of them
  abbrev pub TakesEach : Standing → List (List ℕ × Option (shown.Types A)) → Type 0
  TakesEach old [] = ⊤
  TakesEach old (m ∷ ms) = (new : Standing) × Takes m.0 m.1 old new × TakesEach (after_reset new) ms

  -- the types of a module that is accepted, each with its id
  abbrev pub its_types : (bytes : List ℕ) (answer : Option (shown.Types A)) (old new : Standing) → Takes bytes answer old new → List (ℕ × DefType)
  its_types bytes (Some t) old new a = zip (shown_of t).spaces.types a.module_valid.well_formed.types.types
  its_types bytes None old new a = []

  -- those of all of them
  abbrev pub all_types : (old : Standing) (ms : List (List ℕ × Option (shown.Types A))) → TakesEach old ms → List (ℕ × DefType)
  all_types old [] a = []
  all_types old (m ∷ ms) a = its_types m.0 m.1 old a.0 a.1 ++ all_types (after_reset a.0) ms a.2

-- Where equal types are one, two types of any of the modules have one id exactly where they are equal.
abbrev pub OneIdForOneType : Type 0 → Type 0
OneIdForOneType A =
    (old : Standing) (ms : List (List ℕ × Option (shown.Types A))) (a : TakesEach old ms) → canonical (features_of old.features) ≡ true
    → (j k : ℕ) (p q : ℕ × DefType) → slice_get (all_types old ms a) j ≡ Some p → slice_get (all_types old ms a) k ≡ Some q
    → (p.0 ≡ q.0) ↔ (p.1 ≡ q.1)

-- Where equal types aren't one, each type of each of the modules has an id of its own.
abbrev pub OwnIdForEachType : Type 0 → Type 0
OwnIdForEachType A =
    (old : Standing) (ms : List (List ℕ × Option (shown.Types A))) (a : TakesEach old ms) → canonical (features_of old.features) ≡ false
    → (j k : ℕ) (p q : ℕ × DefType) → slice_get (all_types old ms a) j ≡ Some p → slice_get (all_types old ms a) k ≡ Some q
    → (p.0 ≡ q.0) ↔ (j ≡ k)
