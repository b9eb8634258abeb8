-- What the payloads of whole bytes come to, one after another.
use Rattle.std.specs.Prelude.{ℕ, ◌≡◌, ◌⊎◌, ◌++◌, true, List, [], ◌∷◌, length, Option, Some, None, IsSome, ⊤}
use Rattle.std.specs.Option.{option_and_then}
use Rattle.std.specs.declared.result.Result.{Result}
use Rattle.std.specs.declared.result.Result.TheVariants as results
use Rattle.wasm_spec.specs.Framing as parts
use Rattle.wasm_spec.specs.Framing.{Piece, IsFramed}
use Rattle.wasm_parser.specs.Machine.{State, start, next_of, Given}
use Rattle.wasm_parser.specs.Places.{IsFormat}
use Rattle.wasm_readers_errors.specs.declared.error.Refusal.{Refusal}
use Rattle.wasm_spec.specs.Features.{canonical}
use Rattle.wasm_spec_rules.specs.FeatureFlags.{features_of}
use Rattle.wasm_validator_type_list.specs.GroupInterning.{AreOnce}
use Rattle.wasm_validator_type_list.specs.DefTypes.{types_of_list}
use Rattle.wasm_validator_type_list.specs.ListViews.{types_in}
use Rattle.wasm_validator_sections.specs.WasmLawsCore.ShownTypeIds.{AreOver}
use Rattle.wasm_validator_types.specs.ShownModules.{shown_of, HoldsIds}
use Rattle.wasm_validator_types.specs.declared.shown.Types.{Types}
use Rattle.wasm_validator_sections.specs.WasmValidatorCore.declared.error.Error.{Error}
use Rattle.wasm_validator_sections.specs.WasmValidatorCore.declared.error.Error.TheVariants.{Refused, DuplicateExport, InFunction, OutOfMemory}
use Rattle.std.specs.List.{All}
use Rattle.wasm_validator_sections.specs.WasmValidatorFunc.Functions.{IsFunctionBody}
use Rattle.wasm_validator_canonical.specs.Groups.{AreValid}
use Rattle.wasm_validator_sections.specs.WasmValidatorCore.Answers.{IsNowhere}
use Rattle.wasm_validator_states.specs.ValidatorStages.{Stage, unparsed, in_module, in_code, ended, Standing, shown_at, failed, HoldsValid, HasNotEnded}
use Rattle.wasm_validator_states.specs.States.{BodyToValidate, handed, after_piece, left_by, takes_memory}

-- The types show what the validator held, in a list where equal types are one if the features ask for it; then no
-- group is in it twice, and no type has two ids. The types of the list are valid, and it has each id of the module.
pub record Show {A : Type 0} (s : Standing) (t : Types A) : Type 0 where
  pub held : shown_at s.stage ≡ Some (types_of_list (shown_of t).list, (shown_of t).spaces)
  pub same_id : (shown_of t).id ≡ s.id
  pub same_features : (shown_of t).features ≡ features_of s.features
  pub mode : (shown_of t).list.is_canonical ≡ canonical (features_of s.features)
  pub once : (shown_of t).list.is_canonical ≡ true → AreOnce (shown_of t).list.groups
  pub valid : AreValid (features_of s.features) (types_of_list (shown_of t).list)
  pub ids : HoldsIds (shown_of t)

-- all types that the index spaces show name ids of types of the list only: those of tables, globals and element segments, of imports and of exports
abbrev pub HoldsTypes : {A : Type 0} → Types A → Type 0
HoldsTypes t = AreOver (length (types_in (shown_of t).list)) (shown_of t).spaces

-- The bytes are the body of the function that they are handed out for.
abbrev pub IsBodyOfIts : BodyToValidate → Type 0
IsBodyOfIts b = IsFunctionBody (features_of b.features) b.context b.ty b.bytes

-- The body of this function is the first of these that isn't valid.
pub record RefusesOne (bodies : List BodyToValidate) (index : ℕ) : Type 0 where
  pub before : List BodyToValidate
  pub body : BodyToValidate
  pub behind : List BodyToValidate
  pub split : bodies ≡ before ++ body ∷ behind
  pub its_index : body.index ≡ index
  pub valid_before : All IsBodyOfIts before
  pub invalid : IsBodyOfIts body → ⊥

-- All of these are valid; or one isn't, and of the first such it is said of which function it is; or memory was refused.
abbrev pub DecidesBodies : {T A : Type 0} → List BodyToValidate → Result T (Error A) → Type 0
DecidesBodies bodies (results.Ok x) = All IsBodyOfIts bodies
DecidesBodies bodies (results.Err (Refused r)) = ⊥
DecidesBodies bodies (results.Err (DuplicateExport name offset)) = ⊥
DecidesBodies bodies (results.Err (InFunction index r)) = RefusesOne bodies index
DecidesBodies bodies (results.Err OutOfMemory) = ⊤

-- one payload after another
abbrev pub after_all : Standing → List Piece → Option Standing
after_all s [] = Some s
after_all s (p ∷ ps) = option_and_then (λ t. after_all t ps) (after_piece s p)

-- what they hand out, one after another
abbrev pub handed_behind : (Standing → List BodyToValidate) → Option Standing → List BodyToValidate
handed_behind more None = []
handed_behind more (Some t) = more t

abbrev pub all_handed : Standing → List Piece → List BodyToValidate
all_handed s [] = []
all_handed s (p ∷ ps) = handed s p ++ handed_behind (λ t. all_handed t ps) (after_piece s p)

-- The bytes are framed as these pieces, each is accepted after those before it, and the types show what
-- the validator held before the end.
pub record Accepts {A : Type 0} (bytes : List ℕ) (old new : Standing) (t : Types A) : Type 0 where
  pub pieces : List Piece
  pub framed : IsFramed bytes pieces
  pub accepted : after_all old pieces ≡ Some new
  pub front : List Piece
  pub behind : List Piece
  pub split : pieces ≡ front ++ parts.End ∷ behind
  pub before_end : Standing
  pub reached : after_all old front ≡ Some before_end
  pub shown : Show before_end t

-- the bytes have no framing whose pieces are all accepted, so that the types that are held then are valid
abbrev pub Rejects : List ℕ → Standing → Type 0
Rejects bytes old = (pieces : List Piece) → IsFramed bytes pieces → IsNowhere HoldsValid (after_all old pieces)

-- The validator has taken some payloads, one after another, and these are the first that the bytes are made of.
pub record HasTaken (bytes : List ℕ) (old reached : Standing) (behind : State) : Type 0 where
  pub pieces : List Piece
  pub given : Given (start bytes) pieces behind
  pub run : after_all old pieces ≡ Some reached

-- These are all.
pub record HasTakenAll (bytes : List ℕ) (old reached : Standing) : Type 0 where
  pub behind : State
  pub taken : HasTaken bytes old reached behind
  pub none : next_of behind ≡ Some None

-- The bytes have this payload next, and the validator refused it and stands where that leaves it.
pub record HasRefused (behind : State) (reached new : Standing) : Type 0 where
  pub next : Piece
  pub rest : State
  pub comes : next_of behind ≡ Some (Some (next, rest))
  pub nowhere : IsNowhere HoldsValid (after_piece reached next)
  pub left : new ≡ record reached { stage = left_by reached next }

-- this is told, for the format
abbrev pub IsToldOfFormat : Option Refusal → Type 0
IsToldOfFormat None = ⊥
IsToldOfFormat (Some r) = IsFormat r

-- After the first payloads either the parser refuses what follows, which is what is told, and the validator stands where
-- these have brought it; or the next payload was refused; or they are all, and a body was refused.
pub record IsLeft (told : Option Refusal) (bytes : List ℕ) (old new : Standing) : Type 0 where
  pub behind : State
  pub reached : Standing
  pub taken : HasTaken bytes old reached behind
  pub left : ((next_of behind ≡ None) × IsToldOfFormat told × (new ≡ reached)) ⊎ (HasRefused behind reached new ⊎ ((next_of behind ≡ Some None) × (new ≡ reached)))

-- Memory was refused to the next payload, which takes some, while a module was being read. That is so only where a refusal fails the validator.
pub record HasNoMemory (behind : State) (reached new : Standing) : Type 0 where
  pub next : Piece
  pub rest : State
  pub comes : next_of behind ≡ Some (Some (next, rest))
  pub reads : IsSome (shown_at reached.stage)
  pub takes : takes_memory reached.features next ≡ true
  pub fails : left_by reached next ≡ failed
  pub left : new ≡ record reached { stage = failed }

-- its code section has started, or it has ended
abbrev pub IsBehindCode : Stage → Type 0
IsBehindCode (unparsed types) = ⊥
IsBehindCode (in_module types spaces more) = ⊥
IsBehindCode (in_code types spaces more) = ⊤
IsBehindCode (ended types) = ⊤
IsBehindCode failed = ⊥

-- After the first payloads memory was refused: to the next one; or for bodies, and the validator stands where these payloads have brought it.
pub record IsOutOfMemory (bytes : List ℕ) (old new : Standing) : Type 0 where
  pub behind : State
  pub reached : Standing
  pub taken : HasTaken bytes old reached behind
  pub left : HasNoMemory behind reached new ⊎ (IsBehindCode reached.stage × (new ≡ reached))

-- The payloads of whole bytes are accepted, with these types, and hand out these bodies.
pub record Runs {A : Type 0} (bytes : List ℕ) (old new : Standing) (t : Types A) (bodies : List BodyToValidate) : Type 0 where
  pub accepts : Accepts bytes old new t
  pub hands_out : all_handed old accepts.pieces ≡ bodies
  pub ended : HasTakenAll bytes old new

-- what the answer on the payloads of whole bytes says, where `bodies` are those that they hand out: where it is an error they were not all
-- accepted, so that the module hasn't ended
abbrev pub Validates : {A B : Type 0} → (B → List BodyToValidate) → Result (Types A × B) (Error A) → List ℕ → Standing → Standing → Type 0
Validates bodies (results.Ok x) bytes old new = Runs bytes old new x.0 (bodies x.1)
Validates bodies (results.Err (Refused r)) bytes old new = Rejects bytes old × IsLeft (Some r) bytes old new × HasNotEnded old new
Validates bodies (results.Err (DuplicateExport name offset)) bytes old new = Rejects bytes old × IsLeft None bytes old new × HasNotEnded old new
Validates bodies (results.Err (InFunction index r)) bytes old new = ⊥
Validates bodies (results.Err OutOfMemory) bytes old new = IsOutOfMemory bytes old new × HasNotEnded old new

-- The body of this function is the first of those that the payloads of the bytes hand out which isn't valid.
pub record RefusesBody (index : ℕ) (bytes : List ℕ) (old : Standing) : Type 0 where
  pub pieces : List Piece
  pub framed : IsFramed bytes pieces
  pub one : RefusesOne (all_handed old pieces) index
