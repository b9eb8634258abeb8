-- What contracts see of operators that are noted as they stand in bytes.
use Rattle.std.specs.Prelude.{◌≡◌, ℕ, zero, suc, ◌+◌, ◌-◌, List, [], ◌∷◌, ◌++◌, length, Option, Some, slice_get}
use Rattle.wasm_spec_rules.specs.Contexts.{Context}
use Rattle.wasm_spec_rules.specs.Attempts.{◌>>=◌}
use Rattle.wasm_readers.specs.WasmReadersBytes.Reader.{SameInput, place_of_next, rest}
use Rattle.wasm_readers.specs.WasmReadersBytes.declared.binary_reader.BinaryReader.{BinaryReader}
use Rattle.wasm_readers_types.specs.WasmReadersValues.declared.indices.UnpackedIndex.{UnpackedIndex}
use Rattle.wasm_operators.specs.Instructions.{Instruction, instruction_at}
use Rattle.wasm_spec_steps.specs.Machine.{State}
use Rattle.wasm_validator_resources.specs.Answers.{world}
use Rattle.wasm_validator_func.specs.WasmTypingValidator.BodyTyping.{typed_state}
use Rattle.wasm_validator_func.specs.WasmTypingValidator.QueryResults.{label_counts_in}
use Rattle.wasm_validator_func.specs.WasmTypingValidator.TypedInstructions.{within}
use Rattle.wasm_validator_func.specs.WasmTypingValidator.StepsFromBytes.{stepped}
use Rattle.wasm_validator_func.specs.WasmTypingValidator.WasmTypingSteps.declared.told.Told.{Told}
use Rattle.wasm_validator_func.specs.WasmTypingValidator.WasmTypingSteps.declared.told.Told.TheVariants as told
use Rattle.wasm_validator_func.specs.WasmTypingValidator.declared.validator.OperatorValidator.{OperatorValidator}
use Rattle.wasm_spec_side_tables.specs.declared.entry.Entry.{Entry}
use Rattle.wasm_spec_side_tables.specs.declared.entry.OpenBlock.{OpenBlock}
use Rattle.wasm_spec_side_tables.specs.SideTables.{branches, Nesting, opens, opens_loop, turns, closes, stays, nesting}
use Rattle.wasm_spec_side_tables.specs.OnePassTables.{Built}
use Rattle.wasm_validator_side_notes.specs.TableViews.{planned_in, steps_to}
use Rattle.wasm_validator_side_notes.specs.Tables.{Advances}
use Rattle.wasm_validator_side_notes.specs.declared.frequent.Noted.{Noted}
use Rattle.wasm_validator_side_notes.specs.declared.frequent.Noted.TheVariants.{Stays, Opens, OpensLoop, OpensThen, Turns, Closes, Branches}

-- an instruction with this first byte branches nowhere, and leaves the blocks as they are
pub record IsQuiet (b : ℕ) : Type 0 where
  pub at : (bytes : List ℕ) (i : Instruction ℕ) (more : List ℕ) → instruction_at (λ n. n) (b ∷ bytes) ≡ Some (i, more) → (branches i ≡ []) × (nesting i ≡ stays)

module _ {A : Type 0} (C : Context UnpackedIndex) (w : OperatorValidator A) (r q : BinaryReader) (count : ℕ) (T U : Built) where
  -- Wherever one step with so many operands before it led to where this validator is, from the one reader to the other, it leads on from the
  -- one table to the other.
  pub record LeadsOn : Type 0 where
    pub advances :
        (v : OperatorValidator A) → SameInput r q → length (typed_state v).operands ≡ count → stepped C v.stacks r ≡ Some (typed_state w, rest q)
        → Advances (world C) (within v C) (typed_state v) T (place_of_next r) (rest r) (typed_state w) U (place_of_next q) (rest q)

-- the table with an entry more
abbrev pub with_entry : Built → Entry → Built
with_entry T e = record { entries = T.entries ++ e ∷ []; nest = T.nest }

-- the table with the entry of what is noted, if it has one; and what it does to the blocks
abbrev pub with_noted : Noted → Built → Built
with_noted (OpensThen e) T = with_entry T e
with_noted (Turns e) T = with_entry T e
with_noted (Branches e) T = with_entry T e
with_noted _ T = T

abbrev pub nesting_of : Noted → Nesting
nesting_of Stays = stays
nesting_of Opens = opens
nesting_of OpensLoop = opens_loop
nesting_of (OpensThen e) = opens
nesting_of (Turns e) = turns
nesting_of Closes = closes
nesting_of (Branches e) = stays

module _ {A : Type 0} (C : Context UnpackedIndex) (v : OperatorValidator A) (at : ℕ) (T : Built) where
  -- an instruction that these bytes begin with is noted so
  pub record Foresees (bytes : List ℕ) (n : Noted) : Type 0 where
    pub foreseen : (i : Instruction ℕ) (more : List ℕ) → instruction_at (λ m. m) bytes ≡ Some (i, more) → (planned_in C v at (branches i) T ≡ Some (with_noted n T)) × (nesting i ≡ nesting_of n)

-- the entry of a branch to an open block, with what its label is given and what stands below its frame, where so many operands may be given or
-- dropped
abbrev pub entry_by : ℕ → ℕ → Option OpenBlock → Option (ℕ × ℕ) → Option Entry
entry_by at n o x = do
  b ← o
  c ← x
  Some (record { at = at; target = b.label; next = 0; kept = c.0; dropped = n - c.0 - c.1 })

-- the entry of a branch to a label
abbrev pub entry_to : Context UnpackedIndex → State UnpackedIndex → Built → ℕ → ℕ → ℕ → Option Entry
entry_to C s T at l n = entry_by at n (slice_get T.nest.open_blocks l) (label_counts_in C s l)

-- the entry of an `if` whose block takes nothing
abbrev pub entry_past : ℕ → Built → Entry
entry_past at T = record { at = at; target = length T.nest.places + 1; next = 0; kept = 0; dropped = 0 }

module _ (C : Context UnpackedIndex) (s : State UnpackedIndex) (at l n : ℕ) (T U : Built) where
  -- the entry of a branch to a label is added
  abbrev pub IsBranchedTo : Type 0
  IsBranchedTo = (e : Entry) × (entry_to C s T at l n ≡ Some e) × (U ≡ with_entry T e)

-- what a branch is told to be that takes so many operands before those of its label
abbrev pub branch_told : ℕ → Told
branch_told zero = told.Branches
branch_told (suc n) = told.BranchesPerhaps

module _ {A : Type 0} (C : Context UnpackedIndex) (w : OperatorValidator A) (count at : ℕ) (T : Built) where
  -- wherever an instruction that these bytes begin with led to where this validator is, with so many operands before it, it is noted so
  pub record IsNoted (bytes : List ℕ) (n : Noted) : Type 0 where
    pub foreseen :
        (v : OperatorValidator A) → length (typed_state v).operands ≡ count
        → ((i : Instruction ℕ) (more : List ℕ) → instruction_at (λ m. m) bytes ≡ Some (i, more) → steps_to C v i ≡ Some (typed_state w)) → Foresees C v at T bytes n
