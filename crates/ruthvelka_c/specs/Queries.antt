-- What is answered to questions about the modules of one list. Core Specification 3.0, Validation, Matching, Defined Types and External Types.
use Rattle.std.specs.Prelude.{ℕ, ◌≡◌, ◌≢◌, ◌<◌, Bool, if◌then◌else◌, List, length, max, slice_get, Option, Some, None}
use Rattle.std.specs.Bool.{Decides}
use Rattle.std.specs.Option.{option_map, option_and_then}
use Rattle.std.specs.declared.alloc.Global.{Global}
use Rattle.std.specs.declared.result.Result.TheVariants.{Ok, Err}
use Rattle.wasm_spec_rules.specs.WasmSpec.SupertypeOrder.{IsAncestor}
use Rattle.wasm_spec_rules.specs.WasmSpec.LinkMatching.{MatchesExtern}
use Rattle.wasm_spec_rules.specs.WasmSpec.Syntax.{map_extern}
use Rattle.wasm_validator_handles.specs.WasmValidator.WasmValidatorTypes.Entities.{Entity, IsEntityOver}
use Rattle.wasm_validator_handles.specs.WasmValidator.WasmValidatorTypes.Rows.{all_imports}
use Rattle.wasm_validator_handles.specs.WasmValidator.WasmValidatorTypes.ShownModules.{shown_of}
use Rattle.wasm_validator_handles.specs.WasmValidator.WasmValidatorTypes.declared.shown.Types as shown
use Rattle.wasm_validator_handles.specs.WasmValidator.WasmValidatorTypes.WasmValidatorTypeList.ListViews.{Listing, types_in}
use Rattle.wasm_validator_handles.specs.WasmValidator.WasmValidatorTypes.WasmValidatorTypeList.DeclarationsById.{declares}
use Rattle.wasm_validator_handles.specs.WasmValidator.WasmValidatorTypes.WasmValidatorTypeList.Lookups.{leads_to}
use Rattle.ruthvelka_c.specs.declared.queries.Query.{Query}
use Rattle.ruthvelka_c.specs.declared.queries.TheConstants.{IS_SUBTYPE, MAY_BE_GIVEN, YES, NO, UNKNOWN}
use Rattle.ruthvelka_c.specs.Answers.{Answer}
use Rattle.wasm_validator_handles.specs.Arrays.{AreTold}

-- the types of an accepted module
abbrev pub accepted : Answer → Option (shown.Types Global)
accepted (Ok t) = Some t
accepted (Err e) = None

-- those of the module at this place of a list, where it is accepted
abbrev pub types_at : List Answer → ℕ → Option (shown.Types Global)
types_at answers k = option_and_then accepted (slice_get answers k)

abbrev pub list_behind : Option (shown.Types Global) → Option (Listing Global)
list_behind t = option_map (λ t. (shown_of t).list) t

-- the id of its type with this index, what it exports behind so many others, and what it imports so
abbrev pub type_at : Option (shown.Types Global) → ℕ → Option ℕ
type_at t index = option_and_then (λ t. slice_get (shown_of t).spaces.types index) t

abbrev pub exported_at : Option (shown.Types Global) → ℕ → Option Entity
exported_at t number = option_and_then (λ t. option_map (λ e. e.1) (slice_get (shown_of t).spaces.exports number)) t

abbrev pub imported_at : Option (shown.Types Global) → ℕ → Option Entity
imported_at t number = option_and_then (λ t. option_map (λ i. i.2) (slice_get (all_imports (shown_of t).spaces.imports) number)) t

module _ (l : Listing Global) where
  -- The list has both ids, and the type of the first is that of the second, or declared to be below it.
  abbrev pub IsBelow : ℕ → ℕ → Type 0
  IsBelow a b = (a < length (types_in l)) × (b < length (types_in l)) × IsAncestor (declares l.groups) a b

  -- The list has all ids that both name, and what has the first external type may be given where the second is asked for.
  abbrev pub MayBeGiven : Entity → Entity → Type 0
  MayBeGiven a b =
      IsEntityOver (length (types_in l)) a × IsEntityOver (length (types_in l)) b
      × MatchesExtern (declares l.groups) (map_extern (leads_to 0) a) (map_extern (leads_to 0) b)

-- the answer is yes where this holds, and no where it doesn't
pub record IsSaid (answer : ℕ) (P : Type 0) : Type 0 where
  pub holds : Bool
  pub decides : Decides holds P
  pub said : answer ≡ (if holds then YES else NO)

-- the answer is that one of the two isn't known, or of both in this list whether this holds
abbrev pub Says : {X : Type 0} → (Listing Global → X → X → Type 0) → Option X → Option X → Option (Listing Global) → ℕ → Type 0
Says P None b l answer = answer ≡ UNKNOWN
Says P (Some a) None l answer = answer ≡ UNKNOWN
Says P (Some a) (Some b) None answer = answer ≡ UNKNOWN
Says P (Some a) (Some b) (Some l) answer = IsSaid answer (P l a b)

-- the list of types of the later one of the two modules, which has the types of both
abbrev pub later_list : List Answer → Query → Option (Listing Global)
later_list answers q = list_behind (types_at answers (max q.first_module q.second_module))

abbrev pub SaysBelow : List Answer → Query → ℕ → Type 0
SaysBelow answers q answer =
    Says IsBelow (type_at (types_at answers q.first_module) q.first) (type_at (types_at answers q.second_module) q.second) (later_list answers q) answer

abbrev pub SaysGiven : List Answer → Query → ℕ → Type 0
SaysGiven answers q answer =
    Says MayBeGiven (exported_at (types_at answers q.first_module) q.first) (imported_at (types_at answers q.second_module) q.second) (later_list answers q) answer

-- a question with its answer, by its kind, which is all that was written
pub record AnswersQuery (answers : List Answer) (asked answered : Query) : Type 0 where
  pub same : answered ≡ record asked { answer = answered.answer }
  pub below : asked.kind ≡ IS_SUBTYPE → SaysBelow answers asked answered.answer
  pub given : asked.kind ≡ MAY_BE_GIVEN → SaysGiven answers asked answered.answer
  pub other : asked.kind ≢ IS_SUBTYPE → asked.kind ≢ MAY_BE_GIVEN → answered.answer ≡ UNKNOWN

-- the same where there may be none
abbrev pub AnswersMaybe : List Answer → Option Query → Query → Type 0
AnswersMaybe answers (Some asked) answered = AnswersQuery answers asked answered
AnswersMaybe answers None answered = ⊥

-- each question got its answer
abbrev pub QueriesTell : List Answer → List Query → List Query → Type 0
QueriesTell answers old new = AreTold (λ k q. AnswersMaybe answers (slice_get old k) q) (length old) old new
