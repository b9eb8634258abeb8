-- The side tables of all bodies of a module.
use Rattle.std.specs.Prelude.{ℕ, ◌≡◌, ◌≤◌, ◌+◌, ◌^◌, ◌++◌, List, [], ◌∷◌, length, map, Some, Result, Ok, Err, ⊤}
use Rattle.std.specs.List.{All, flat_map}
use Rattle.wasm_spec.specs.Framing.{Piece, IsFramed}
use Rattle.wasm_readers_errors.specs.WasmReadersFeatures.declared.features.WasmFeatures.{WasmFeatures}
use Rattle.wasm_readers_bytes.specs.Reader.{place_of_next}
use Rattle.wasm_parser.specs.PayloadViews.{body_reader}
use Rattle.wasm_spec_side_tables.specs.declared.entry.Entry.{Entry}
use Rattle.wasm_validator_modules.specs.ValidatorStages.{Standing, fresh}
use Rattle.wasm_validator_modules.specs.States.{BodyToValidate, after_piece, handed}
use Rattle.wasm_validator_modules.specs.Payloads.{IsBodyOfIts, after_all, all_handed}
use Rattle.wasm_validator_modules.specs.Verdict.{DecidesAlone}
use Rattle.wasm_validator_modules.specs.BodyAnswers.{body_seen}
use Rattle.wasm_validator_modules.specs.PayloadAnswers.{ShowsModule, GivenEndBy, bodies_given, latest_of}
use Rattle.wasm_validator_modules.specs.declared.payload.ValidPayload.{ValidPayload}
use Rattle.wasm_validator_modules.specs.declared.payload.ValidPayload.TheVariants as payload
use Rattle.wasm_validator_side_table.specs.WasmValidatorSideNotes.declared.table.SideTable.{SideTable}
use Rattle.wasm_validator_tables.specs.declared.function.NoTable.{NoTable}
use Rattle.wasm_validator_tables.specs.declared.function.NoTable.TheVariants as no_table
use Rattle.wasm_validator_tables.specs.declared.module.BodyTable.{BodyTable}
use Rattle.wasm_validator_tables.specs.declared.module.Making.{Making}
use Rattle.wasm_validator_tables.specs.declared.module.ModuleTables.{ModuleTables}
use Rattle.wasm_validator_tables.specs.declared.module.NoTables.{NoTables}
use Rattle.wasm_validator_tables.specs.declared.module.NoTables.TheVariants.{Refused, TooLarge}
use Rattle.wasm_validator_tables.specs.FunctionTables.{IsTableIn, IsMade, HasLargeBody}
use Rattle.wasm_validator_tables.specs.TableReports.{counts_in}

-- a function, and the table of its body
pub record Tabled (A : Type 0) : Type 0 where
  pub function : ℕ
  pub table : SideTable A

module _ {A : Type 0} where
  abbrev pub function_in : Tabled A → ℕ
  function_in t = t.function

  abbrev pub entries_in : Tabled A → List Entry
  entries_in t = t.table.entries

  -- what is told of a table whose entries stand behind so many others
  abbrev pub told_of : ℕ → ℕ → SideTable A → BodyTable
  told_of start function t = record { start = start; counts = counts_in t; function = function; reserved = 0 }

  -- what is told of each of these, whose entries come one table behind the other
  abbrev pub told_behind : ℕ → List (Tabled A) → List BodyTable
  told_behind start [] = []
  told_behind start (t ∷ ts) = told_of start t.function t.table ∷ told_behind (start + length (entries_in t)) ts

abbrev pub index_of : BodyToValidate → ℕ
index_of b = b.index

-- The payloads of the bytes are all accepted by a new validator, and these are the tables of the bodies that they hand out: of each the one of its
-- function, in their order.
pub record AreTablesIn {A : Type 0} (bytes : List ℕ) (features : WasmFeatures) (ts : List (Tabled A)) : Type 0 where
  pub pieces : List Piece
  pub framed : IsFramed bytes pieces
  pub reached : Standing
  pub accepted : after_all (fresh 0 features) pieces ≡ Some reached
  pub functions : map function_in ts ≡ map index_of (all_handed (fresh 0 features) pieces)
  pub each : All (λ (t : Tabled A). IsTableIn bytes features t.function t.table) ts

-- What was made of a module tells of these tables, and has their entries.
pub record AreMade {A : Type 0} (bytes : List ℕ) (features : WasmFeatures) (m : ModuleTables A) : Type 0 where
  pub all : List (Tabled A)
  pub are : AreTablesIn bytes features all
  pub tables : m.tables.items ≡ told_behind 0 all
  pub entries : m.entries.items ≡ flat_map entries_in all

-- a body of the module is one of its type, but ends where 32 bits don't have the offset
abbrev pub HasSomeLargeBody : List ℕ → WasmFeatures → Type 0
HasSomeLargeBody bytes features = (function : ℕ) × HasLargeBody bytes features function

-- The answer on the module is that of a new validator on the whole bytes, and tables are there where it is accepted and no body is too large.
abbrev pub DecidesTables : {A : Type 0} → List ℕ → WasmFeatures → Result (ModuleTables A) (NoTables A) → Type 0
DecidesTables {A} bytes features (Ok m) = AreMade bytes features m × DecidesAlone {A = A} (Ok m.types) bytes 0 features
DecidesTables {A} bytes features (Err (Refused e)) = DecidesAlone {A = A} (Err e) bytes 0 features
DecidesTables {A} bytes features (Err (TooLarge t)) = DecidesAlone {A = A} (Ok t) bytes 0 features × HasSomeLargeBody bytes features

-- where a table is too large, this holds
abbrev pub IsLarge : {A : Type 0} → Type 0 → NoTable A → Type 0
IsLarge P (no_table.Refused e) = ⊤
IsLarge P no_table.NoBody = ⊤
IsLarge P no_table.TooLarge = P

abbrev pub IsLargeBody : BodyToValidate → ℕ → Type 0
IsLargeBody body offset = IsBodyOfIts body × (2 ^ 32 ≤ offset + length body.bytes)

module _ {A : Type 0} where
  -- one table more is told
  pub record Adds (function : ℕ) (t : SideTable A) (tables_old : List BodyTable) (entries_old : List Entry) (tables_new : List BodyTable) (entries_new : List Entry) : Type 0 where
    pub tables : tables_new ≡ tables_old ++ told_of (length entries_old) function t ∷ []
    pub entries : entries_new ≡ entries_old ++ t.entries

  -- it is that of this body
  pub record Makes (body : BodyToValidate) (offset : ℕ) (old new : Making A) : Type 0 where
    pub table : SideTable A
    pub is : IsMade body offset table
    pub adds : Adds body.index table old.tables.items old.entries.items new.tables.items new.entries.items
    pub ended : new.ended ≡ old.ended

  -- what a payload gave is kept: no table, or one of the body
  pub record KeepsTables (old new : Making A) (latest : ValidPayload A) : Type 0 where
    pub tables : new.tables.items ≡ old.tables.items
    pub entries : new.entries.items ≡ old.entries.items
    pub ended : new.ended ≡ latest_of old.ended latest

  abbrev pub Keeps : ValidPayload A → Making A → Making A → Type 0
  Keeps payload.Ok old new = KeepsTables old new payload.Ok
  Keeps (payload.Func f b) old new = Makes (body_seen f b) (place_of_next (body_reader b)) old new
  Keeps (payload.End t) old new = KeepsTables old new (payload.End t)

  abbrev pub GivesLarge : ValidPayload A → Type 0
  GivesLarge payload.Ok = ⊥
  GivesLarge (payload.Func f b) = IsLargeBody (body_seen f b) (place_of_next (body_reader b))
  GivesLarge (payload.End t) = ⊥

  -- A payload that ends at this offset was accepted, and what it gave was kept.
  pub record Gathers (p : Piece) (end : ℕ) (s t : Standing) (old new : Making A) : Type 0 where
    pub valid : ValidPayload A
    pub moves : after_piece s p ≡ Some t
    pub shown : ShowsModule s p valid
    pub given : handed s p ≡ bodies_given valid
    pub within : GivenEndBy end valid
    pub keeps : Keeps valid old new

-- It hands out a body that is too large.
pub record HandsOutLarge (A : Type 0) (p : Piece) (end : ℕ) (s : Standing) : Type 0 where
  pub valid : ValidPayload A
  pub given : handed s p ≡ bodies_given valid
  pub within : GivenEndBy end valid
  pub large : GivesLarge valid

abbrev pub TellsLarge : {A : Type 0} → Piece → ℕ → Standing → NoTable A → Type 0
TellsLarge {A} p end s w = IsLarge (HandsOutLarge A p end s) w
