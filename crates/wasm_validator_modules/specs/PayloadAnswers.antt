-- What a payload that is accepted gives: nothing more, a function whose body is to be validated, or the types of the module that has ended.
use Rattle.std.specs.Prelude.{ℕ, ◌≡◌, ◌≤◌, ◌⊎◌, ◌+◌, ◌++◌, false, List, [], ◌∷◌, map, Option, Some, None, IsSome, ⊤}
use Rattle.wasm_spec_rules.specs.Contexts.{Context}
use Rattle.wasm_readers_types.specs.WasmReadersValues.declared.indices.UnpackedIndex.{UnpackedIndex}
use Rattle.std.specs.declared.result.Result.TheVariants as results
use Rattle.wasm_spec.specs.Framing as parts
use Rattle.wasm_spec.specs.Framing.{Piece}
use Rattle.wasm_validator_states.specs.WasmParser.Places.{IsFormat, reader_end}
use Rattle.wasm_validator_states.specs.WasmValidatorTypes.ShownModules.{shown_of, HoldsIds}
use Rattle.wasm_validator_states.specs.WasmValidatorTypes.declared.shown.Types.{Types}
use Rattle.wasm_validator_states.specs.WasmValidatorSections.WasmValidatorCore.declared.error.Error.{Error}
use Rattle.wasm_validator_states.specs.WasmValidatorSections.WasmValidatorCore.declared.error.Error.TheVariants.{Refused, DuplicateExport, InFunction, OutOfMemory}
use Rattle.wasm_validator_modules.specs.declared.payload.PendingBody.{PendingBody}
use Rattle.wasm_validator_modules.specs.declared.payload.Bodies.{Bodies}
use Rattle.wasm_validator_modules.specs.declared.payload.Gathered.{Gathered}
use Rattle.wasm_validator_modules.specs.declared.payload.ValidPayload.{ValidPayload}
use Rattle.wasm_validator_modules.specs.declared.payload.ValidPayload.TheVariants.{Ok, Func, End}
use Rattle.wasm_validator_states.specs.WasmParser.declared.function_body.FunctionBody.{FunctionBody}
use Rattle.wasm_validator_states.specs.WasmParser.PayloadViews.{body_of, body_reader}
use Rattle.wasm_validator_states.specs.WasmValidatorSections.WasmValidatorCore.Errors.{IsContent, offset_of}
use Rattle.wasm_readers.specs.WasmReadersBytes.Reader.{original, position_in}
use Rattle.wasm_readers.specs.WasmReadersBytes.declared.binary_reader.BinaryReader.{BinaryReader}
use Rattle.wasm_readers_errors.specs.declared.error.Error as reading
use Rattle.wasm_readers_errors.specs.declared.error.Error.TheVariants as reading_error
use Rattle.std.specs.List.{All}
use Rattle.wasm_validator_states.specs.ValidatorStages.{Standing, Leaves}
use Rattle.wasm_validator_states.specs.States.{IsBeforeEnd, BodyToValidate, after_piece, handed, left_by, takes_memory, code_count}
use Rattle.wasm_validator_states.specs.BodyAnswers.{body_seen}
use Rattle.wasm_readers_errors.specs.WasmReadersFeatures.declared.features.WasmFeatures.{WasmFeatures}
use Rattle.wasm_validator_states.specs.Payloads.{Show}

-- the end gives the types of the module that was being read, and any other payload gives nothing
abbrev pub ShowsModule : {A : Type 0} → Standing → Piece → ValidPayload A → Type 0
ShowsModule s p Ok = IsBeforeEnd p
ShowsModule s p (Func f b) = IsBeforeEnd p
ShowsModule s p (End t) = (p ≡ parts.End) × Show s t

-- the list has each id of the module that has ended
abbrev pub HoldsIdsAtEnd : {A : Type 0} → ValidPayload A → Type 0
HoldsIdsAtEnd Ok = ⊤
HoldsIdsAtEnd (Func f b) = ⊤
HoldsIdsAtEnd (End t) = HoldsIds (shown_of t)

abbrev pub bodies_given : {A : Type 0} → ValidPayload A → List BodyToValidate
bodies_given Ok = []
bodies_given (Func f b) = body_seen f b ∷ []
bodies_given (End t) = []

-- a payload gave a function
abbrev pub IsFunction : {A : Type 0} → ValidPayload A → Type 0
IsFunction Ok = ⊥
IsFunction (Func f b) = ⊤
IsFunction (End t) = ⊥

-- memory is taken to keep a function's body, and for all bodies where the code section starts
abbrev pub KeepsBodies : {A : Type 0} → Piece → ValidPayload A → Type 0
KeepsBodies p v = IsFunction v ⊎ IsSome (code_count p)

-- a function whose body is to be validated under these features and in this context, as it was handed out
abbrev pub pending_seen : WasmFeatures → Context UnpackedIndex → PendingBody → BodyToValidate
pending_seen features context p = record { index = p.index; ty = p.ty; features = features; context = context; bytes = body_of p.body }

-- all of a module: none before the first, from which on the context is kept
abbrev pub pending_in : WasmFeatures → Option (Context UnpackedIndex) → List PendingBody → List BodyToValidate
pending_in features None ps = []
pending_in features (Some context) ps = map (pending_seen features context) ps

abbrev pub bodies_seen : {A : Type 0} → Bodies A → List BodyToValidate
bodies_seen bodies = pending_in bodies.features bodies.resources bodies.pending.items

-- this context is the one that is kept, if one is
abbrev pub IsKept : Option (Context UnpackedIndex) → Context UnpackedIndex → Type 0
IsKept None context = ⊤
IsKept (Some kept) context = kept ≡ context

-- a function that a payload gives is to be validated under these features, and in the same context as those before it
abbrev pub IsGivenIn : {A : Type 0} → WasmFeatures → Option (Context UnpackedIndex) → ValidPayload A → Type 0
IsGivenIn features kept Ok = ⊤
IsGivenIn features kept (Func f b) = (f.features ≡ features) × IsKept kept f.resources
IsGivenIn features kept (End t) = ⊤

-- the context that is kept then
abbrev pub kept_behind : {A : Type 0} → Option (Context UnpackedIndex) → ValidPayload A → Option (Context UnpackedIndex)
kept_behind kept Ok = kept
kept_behind kept (Func f b) = Some f.resources
kept_behind kept (End t) = kept

-- a body ends by this offset, and each of some does
abbrev pub EndsBy : ℕ → FunctionBody → Type 0
EndsBy end b = reader_end (body_reader b) ≤ end

abbrev pub EachEndsBy : ℕ → List PendingBody → Type 0
EachEndsBy end ps = All (λ (p : PendingBody). EndsBy end p.body) ps

abbrev pub AllEndBy : {A : Type 0} → ℕ → Bodies A → Type 0
AllEndBy end bodies = EachEndsBy end bodies.pending.items

abbrev pub GivenEndBy : {A : Type 0} → ℕ → ValidPayload A → Type 0
GivenEndBy end Ok = ⊤
GivenEndBy end (Func f b) = EndsBy end b
GivenEndBy end (End t) = ⊤

-- a refusal stands before this offset, or there
abbrev pub StandsBy : ℕ → reading.Error → Type 0
StandsBy end (reading_error.Refused r) = r.offset ≤ end
StandsBy end reading_error.OutOfMemory = ⊤

-- the types of the module that has ended last
abbrev pub latest_of : {A : Type 0} → Option (Types A) → ValidPayload A → Option (Types A)
latest_of before Ok = before
latest_of before (Func f b) = before
latest_of before (End t) = Some t

-- A payload was accepted, and memory was refused for what it gave
pub record HasNoRoom (A : Type 0) (p : Piece) (s t : Standing) : Type 0 where
  pub valid : ValidPayload A
  pub moves : after_piece s p ≡ Some t
  pub shown : ShowsModule s p valid
  pub given : handed s p ≡ bodies_given valid
  pub keeps : KeepsBodies p valid

module _ {A : Type 0} where
  -- what the payload that comes next gives goes with what was given before it
  abbrev pub GoesWith : Standing → Piece → Bodies A → Type 0
  GoesWith s p bodies = (v : ValidPayload A) → handed s p ≡ bodies_given v → IsGivenIn bodies.features bodies.resources v

  -- a refusal stands where this reader does
  abbrev pub StandsAt : BinaryReader → Error A → Type 0
  StandsAt r e = IsContent e → offset_of e ≡ original r + position_in r

  -- A payload that ends at this offset was accepted, and what it gave was kept.
  pub record Gathers (p : Piece) (end : ℕ) (s t : Standing) (g h : Gathered A) : Type 0 where
    pub valid : ValidPayload A
    pub moves : after_piece s p ≡ Some t
    pub shown : ShowsModule s p valid
    pub given : handed s p ≡ bodies_given valid
    pub within : GivenEndBy end valid
    pub ended : h.ended ≡ latest_of g.ended valid
    pub bodies : bodies_seen h.bodies ≡ bodies_seen g.bodies ++ bodies_given valid
    pub features : h.bodies.features ≡ g.bodies.features
    pub resources : h.bodies.resources ≡ kept_behind g.bodies.resources valid
    pub all_within : (n : ℕ) → AllEndBy n g.bodies → GivenEndBy n valid → AllEndBy n h.bodies

  -- it was refused
  pub record IsRefused (p : Piece) (s t : Standing) (e : Error A) : Type 0 where
    pub left : Leaves {T = ValidPayload A} (results.Err e) (after_piece s p) (left_by s p) s t
    pub memory : takes_memory s.features p ≡ false → IsContent e

  abbrev pub GathersNothing : Piece → Standing → Standing → Error A → Type 0
  GathersNothing p s t e = IsRefused p s t e ⊎ ((e ≡ OutOfMemory) × HasNoRoom A p s t)

-- the parser's refusal, as an error
abbrev pub TellsFormat : {A : Type 0} → Error A → Type 0
TellsFormat (Refused r) = IsFormat r
TellsFormat (DuplicateExport name offset) = ⊥
TellsFormat (InFunction index r) = ⊥
TellsFormat OutOfMemory = ⊥
