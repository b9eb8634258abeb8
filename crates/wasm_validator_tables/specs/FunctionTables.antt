-- The side table of the body of one function of a module.
use Rattle.std.specs.Prelude.{ℕ, ◌≡◌, ◌≢◌, ◌≤◌, ◌<◌, ◌+◌, ◌^◌, List, [], ◌∷◌, length, Option, Some, None, ⊤}
use Rattle.wasm_spec.specs.Framing.{Piece, IsFramed}
use Rattle.wasm_spec_rules.specs.FeatureFlags.{features_of}
use Rattle.wasm_readers_errors.specs.WasmReadersFeatures.declared.features.WasmFeatures.{WasmFeatures}
use Rattle.wasm_readers_bytes.specs.Reader.{place_of_next}
use Rattle.wasm_parser.specs.Machine.{State, next_of}
use Rattle.wasm_parser.specs.PayloadViews.{body_reader}
use Rattle.wasm_validator_modules.specs.WasmValidatorCore.declared.error.Error.TheVariants.{Refused, DuplicateExport, InFunction, OutOfMemory}
use Rattle.wasm_validator_modules.specs.ValidatorStages.{Standing, fresh}
use Rattle.wasm_validator_modules.specs.States.{BodyToValidate, after_piece, handed}
use Rattle.wasm_validator_modules.specs.Payloads.{HasTaken, IsBodyOfIts, after_all, all_handed}
use Rattle.wasm_validator_modules.specs.Verdict.{AreNoneUpToBodies}
use Rattle.wasm_validator_modules.specs.BodyAnswers.{body_seen}
use Rattle.wasm_validator_modules.specs.PayloadAnswers.{ShowsModule, EndsBy, bodies_given}
use Rattle.wasm_validator_modules.specs.declared.payload.ValidPayload.{ValidPayload}
use Rattle.wasm_validator_side_table.specs.WasmValidatorSideNotes.Tables.{IsTableOf}
use Rattle.wasm_validator_side_table.specs.WasmValidatorSideNotes.declared.table.SideTable.{SideTable}
use Rattle.wasm_validator_side_table.specs.declared.error.SideTableError.{SideTableError}
use Rattle.wasm_validator_side_table.specs.declared.error.SideTableError.TheVariants as side
use Rattle.wasm_validator_tables.specs.declared.function.Found.{Found}
use Rattle.wasm_validator_tables.specs.declared.function.NoTable.{NoTable}
use Rattle.wasm_validator_tables.specs.declared.function.NoTable.TheVariants as no_table

-- Behind the first payloads of the bytes, all of which a new validator accepted, the next one hands out this body alone, whose index is that of this
-- function. From this offset on, the bytes are at least as many as those of the body.
pub record IsBodyIn (bytes : List ℕ) (features : WasmFeatures) (function : ℕ) (body : BodyToValidate) (offset : ℕ) : Type 0 where
  pub reached : Standing
  pub behind : State
  pub taken : HasTaken bytes (fresh 0 features) reached behind
  pub next : Piece
  pub rest : State
  pub comes : next_of behind ≡ Some (Some (next, rest))
  pub hands_out : handed reached next ≡ body ∷ []
  pub its_index : body.index ≡ function
  pub within : offset + length body.bytes ≤ length bytes

-- This is the table of the body of this function, which is one of its type, and ends where 32 bits have the offset.
pub record IsTableIn {A : Type 0} (bytes : List ℕ) (features : WasmFeatures) (function : ℕ) (t : SideTable A) : Type 0 where
  pub body : BodyToValidate
  pub offset : ℕ
  pub is : IsBodyIn bytes features function body offset
  pub valid : IsBodyOfIts body
  pub few : offset + length body.bytes < 2 ^ 32
  pub table : IsTableOf (features_of body.features) body.context body.ty offset body.bytes t

-- none of these is of this function
abbrev pub AreOfOthers : ℕ → List BodyToValidate → Type 0
AreOfOthers function [] = ⊤
AreOfOthers function (b ∷ bs) = (b.index ≢ function) × AreOfOthers function bs

-- The payloads of the bytes are all accepted, and none hands out a body of this function.
pub record HasNoBody (bytes : List ℕ) (features : WasmFeatures) (function : ℕ) : Type 0 where
  pub pieces : List Piece
  pub framed : IsFramed bytes pieces
  pub reached : Standing
  pub accepted : after_all (fresh 0 features) pieces ≡ Some reached
  pub none : AreOfOthers function (all_handed (fresh 0 features) pieces)

-- The body of this function isn't one of its type.
pub record HasWrongBody (bytes : List ℕ) (features : WasmFeatures) (function : ℕ) : Type 0 where
  pub body : BodyToValidate
  pub offset : ℕ
  pub is : IsBodyIn bytes features function body offset
  pub wrong : IsBodyOfIts body → ⊥

-- It is one, but ends where 32 bits don't have the offset.
pub record HasLargeBody (bytes : List ℕ) (features : WasmFeatures) (function : ℕ) : Type 0 where
  pub body : BodyToValidate
  pub offset : ℕ
  pub is : IsBodyIn bytes features function body offset
  pub valid : IsBodyOfIts body
  pub many : 2 ^ 32 ≤ offset + length body.bytes

-- Why there is no table, memory aside: the bytes are no valid module up to its bodies, or the function's body isn't valid; or there is no such body,
-- or it is too large.
abbrev pub Tells : {A : Type 0} → List ℕ → WasmFeatures → ℕ → NoTable A → Type 0
Tells bytes features function (no_table.Refused (Refused r)) = AreNoneUpToBodies features bytes
Tells bytes features function (no_table.Refused (DuplicateExport name offset)) = AreNoneUpToBodies features bytes
Tells bytes features function (no_table.Refused (InFunction index r)) = (index ≡ function) × HasWrongBody bytes features function
Tells bytes features function (no_table.Refused OutOfMemory) = ⊤
Tells bytes features function no_table.NoBody = HasNoBody bytes features function
Tells bytes features function no_table.TooLarge = HasLargeBody bytes features function

-- the body, as it was handed out
abbrev pub found_seen : {A : Type 0} → Found A → BodyToValidate
found_seen f = body_seen f.function f.body

abbrev pub found_at : {A : Type 0} → Found A → ℕ
found_at f = place_of_next (body_reader f.body)

-- a payload that was accepted gave it, or gave none of this function
abbrev pub Gives : {A : Type 0} → ℕ → ValidPayload A → Option (Found A) → Type 0
Gives function valid None = AreOfOthers function (bodies_given valid)
Gives function valid (Some f) = (bodies_given valid ≡ found_seen f ∷ []) × (f.function.index ≡ function)

abbrev pub FoundEndsBy : {A : Type 0} → ℕ → Option (Found A) → Type 0
FoundEndsBy end None = ⊤
FoundEndsBy end (Some f) = EndsBy end f.body

-- A payload that ends at this offset was accepted.
pub record Takes {A : Type 0} (function : ℕ) (p : Piece) (end : ℕ) (s t : Standing) (o : Option (Found A)) : Type 0 where
  pub valid : ValidPayload A
  pub moves : after_piece s p ≡ Some t
  pub shown : ShowsModule s p valid
  pub given : handed s p ≡ bodies_given valid
  pub gives : Gives function valid o
  pub within : FoundEndsBy end o

-- why there is no table of the body of the function with this index
abbrev pub reason_of : {A : Type 0} → ℕ → SideTableError → NoTable A
reason_of index (side.Refused r) = no_table.Refused (InFunction index r)
reason_of index side.OutOfMemory = no_table.Refused OutOfMemory
reason_of index side.TooLarge = no_table.TooLarge

-- What is said of a body that was handed out: it is one of its type and this is its table, or it is none, or it is too large.
pub record IsMade {A : Type 0} (body : BodyToValidate) (offset : ℕ) (t : SideTable A) : Type 0 where
  pub valid : IsBodyOfIts body
  pub few : offset + length body.bytes < 2 ^ 32
  pub table : IsTableOf (features_of body.features) body.context body.ty offset body.bytes t

abbrev pub TellsOf : {A : Type 0} → BodyToValidate → ℕ → NoTable A → Type 0
TellsOf body offset (no_table.Refused (Refused r)) = ⊥
TellsOf body offset (no_table.Refused (DuplicateExport name at)) = ⊥
TellsOf body offset (no_table.Refused (InFunction index r)) = (index ≡ body.index) × (IsBodyOfIts body → ⊥)
TellsOf body offset (no_table.Refused OutOfMemory) = ⊤
TellsOf body offset no_table.NoBody = ⊥
TellsOf body offset no_table.TooLarge = IsBodyOfIts body × (2 ^ 32 ≤ offset + length body.bytes)
