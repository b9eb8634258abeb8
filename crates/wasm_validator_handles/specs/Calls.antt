-- What the calls on one handle say of all modules that its validator was given.
use Rattle.std.specs.Prelude.{ℕ, ◌≡◌, ◌⊎◌, true, List, [], ◌∷◌, Option, Some, ⊤}
use Rattle.std.specs.declared.alloc.Global.{Global}
use Rattle.std.specs.declared.result.Result.{Result}
use Rattle.std.specs.declared.result.Result.TheVariants.{Ok, Err}
use Rattle.wasm_spec_rules.specs.FeatureFlags.{features_of}
use Rattle.wasm_validator.specs.ValidatorStages.{Standing, may_reset, after_reset}
use Rattle.wasm_validator.specs.Headline.{Headline, types_held}
use Rattle.wasm_validator.specs.WasmValidatorTypes.declared.shown.Types as shown
use Rattle.wasm_validator.specs.WasmValidatorCore.declared.error.Error.{Error}
use Rattle.wasm_validator_handles.specs.declared.kept.Kept.{Kept}
use Rattle.wasm_validator_handles.specs.declared.kept.Kept.TheVariants.{Validator}
use Rattle.wasm_validator_handles.specs.declared.kept.NotAsked.{NotAsked}
use Rattle.wasm_validator_handles.specs.HandleContents.{Answers, AnswersNext, Resets, ResetsNext}

abbrev pub ModuleAnswer : Type 0
ModuleAnswer = Result (shown.Types Global) (Error Global)

-- it isn't accepted
abbrev pub IsNoAcceptance : ModuleAnswer → Type 0
IsNoAcceptance (Ok t) = ⊥
IsNoAcceptance (Err e) = ⊤

-- a call on a handle, with what it gave
pub data Call : Type 0 where
  validate : List ℕ → Result ModuleAnswer NotAsked → Call
  reset : Result Unit NotAsked → Call

-- What `Handle::validate` and `Handle::reset` promise of calls one after another.
abbrev pub CallAnswers : Call → Option Kept → Option Kept → Type 0
CallAnswers (validate bytes result) old new = Answers result bytes old new
CallAnswers (reset result) old new = Resets result old new

abbrev pub CallsAnswer : List Call → Option Kept → Option Kept → Type 0
CallsAnswer [] old new = new ≡ old
CallsAnswer (c ∷ cs) old new = (next : Option Kept) × CallAnswers c old next × CallsAnswer cs next new

-- the same of the validator itself
abbrev pub CallAnswersNext : Call → Standing → Standing → Type 0
CallAnswersNext (validate bytes result) old new = AnswersNext result bytes old new
CallAnswersNext (reset result) old new = ResetsNext result old new

abbrev pub CallsAnswerNext : List Call → Standing → Standing → Type 0
CallsAnswerNext [] old new = new ≡ old
CallsAnswerNext (c ∷ cs) old new = (next : Standing) × CallAnswersNext c old next × CallsAnswerNext cs next new

-- a list of modules with one in front, and its answer, and the rest as this says
pub record IsInFront (bytes : List ℕ) (answer : ModuleAnswer) (Rest : List (List ℕ) → List ModuleAnswer → Type 0) (modules : List (List ℕ)) (answers : List ModuleAnswer) : Type 0 where
  pub behind : List (List ℕ)
  pub answers_behind : List ModuleAnswer
  pub modules_are : modules ≡ bytes ∷ behind
  pub answers_are : answers ≡ answer ∷ answers_behind
  pub rest : Rest behind answers_behind

-- a module that wasn't looked at, since the validator had failed: none behind it was
pub record IsUnanswered (bytes : List ℕ) (Rest : List (List ℕ) → List ModuleAnswer → Type 0) (modules : List (List ℕ)) (answers : List ModuleAnswer) : Type 0 where
  pub behind : List (List ℕ)
  pub modules_are : modules ≡ bytes ∷ behind
  pub none : answers ≡ []
  pub rest : Rest behind []

-- a module that is left out: it was refused, as a list of this module alone is, and the validator stands where it stood, behind a reset
pub record IsLeftOut (bytes : List ℕ) (answer : ModuleAnswer) (old next : Standing) (Rest : List (List ℕ) → List ModuleAnswer → Type 0) (modules : List (List ℕ)) (answers : List ModuleAnswer) : Type 0 where
  pub refused : IsNoAcceptance answer
  pub alone : Headline (features_of old.features) (bytes ∷ []) (answer ∷ []) (types_held old.stage)
  pub stands : next ≡ after_reset old
  pub rest : Rest modules answers

-- Such a call adds its module to the list, with its answer if there is one, unless it is left out.
abbrev pub Adds : Call → Standing → Standing → (List (List ℕ) → List ModuleAnswer → Type 0) → List (List ℕ) → List ModuleAnswer → Type 0
Adds (validate bytes (Ok answer)) old next Rest modules answers =
    IsInFront bytes answer Rest modules answers ⊎ IsLeftOut bytes answer old next Rest modules answers
Adds (validate bytes (Err why)) old next Rest modules answers = IsUnanswered bytes Rest modules answers
Adds (reset result) old next Rest modules answers = Rest modules answers

-- The modules that were given one after another, with their answers, but for those that are left out.
abbrev pub AreGiven : (cs : List Call) (old new : Standing) → CallsAnswerNext cs old new → List (List ℕ) → List ModuleAnswer → Type 0
AreGiven [] old new a modules answers = (modules ≡ []) × (answers ≡ [])
AreGiven (c ∷ cs) old new a modules answers = Adds c old a.0 (AreGiven cs a.0 new a.2) modules answers

-- What `validate_list` says of a list holds of these.
pub record SayOfAll (cs : List Call) (old new : Standing) (a : CallsAnswerNext cs old new) : Type 0 where
  pub modules : List (List ℕ)
  pub answers : List ModuleAnswer
  pub given : AreGiven cs old new a modules answers
  pub headline : Headline (features_of old.features) modules answers (types_held old.stage)

-- Any calls on one handle whose validator may go on are calls of that validator; and what `validate_list` says of a list of modules holds of all
-- modules that it was given, with resets between them or not.
abbrev pub CallsSayOfAll : Type 0
CallsSayOfAll =
    (cs : List Call) (old : Standing) (new : Option Kept) → CallsAnswer cs (Some (Validator old)) new → may_reset old ≡ true
    → (left : Standing) × (new ≡ Some (Validator left)) × ((a : CallsAnswerNext cs old left) × SayOfAll cs old left a)
