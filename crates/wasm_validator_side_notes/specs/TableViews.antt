-- What contracts see of a side table while it is made.
use Rattle.std.specs.Prelude.{ℕ, ◌+◌, Bool, List, ◌∷◌, ◌++◌, length, Option, Some}
use Rattle.wasm_spec_rules.specs.Contexts.{Context}
use Rattle.wasm_spec_rules.specs.Attempts.{◌>>=◌}
use Rattle.wasm_readers_types.specs.WasmReadersValues.declared.indices.UnpackedIndex.{UnpackedIndex}
use Rattle.wasm_operators.specs.Instructions.{Instruction}
use Rattle.wasm_operators.specs.Maps.{map_instruction}
use Rattle.wasm_operators.specs.SeenOperators.{operator_of}
use Rattle.wasm_operators.specs.declared.operators.Operator.{Operator}
use Rattle.wasm_spec_steps.specs.Machine.{State}
use Rattle.wasm_spec_steps.specs.Steps.{step_in}
use Rattle.wasm_validator_resources.specs.Answers.{world, written_index}
use Rattle.wasm_validator_func.specs.WasmTypingValidator.BodyTyping.{typed_state}
use Rattle.wasm_validator_func.specs.WasmTypingValidator.TypedInstructions.{within}
use Rattle.wasm_validator_func.specs.WasmTypingValidator.declared.validator.OperatorValidator.{OperatorValidator}
use Rattle.wasm_spec_side_tables.specs.declared.entry.Entry.{Entry}
use Rattle.wasm_spec_side_tables.specs.declared.entry.OpenBlock.{OpenBlock}
use Rattle.wasm_spec_side_tables.specs.declared.entry.Place.{Place}
use Rattle.wasm_spec_side_tables.specs.SideTables.{Placed, Branch, Nesting}
use Rattle.wasm_spec_side_tables.specs.OnePassTables.{Built, nested, planned, planned_each, noted}
use Rattle.wasm_validator_side_notes.specs.declared.table.SideTable.{SideTable}

abbrev pub shown : {A : Type 0} → SideTable A → Built
shown t = record { entries = t.entries; nest = record { places = t.places; open_blocks = t.blocks } }

-- an operator as the rules have it
abbrev pub instruction_of : Operator → Instruction ℕ
instruction_of op = map_instruction written_index (operator_of op)

abbrev pub placed : ℕ → ℕ → Operator → Placed
placed at behind op = record { op = instruction_of op; at = at; behind = behind }

-- the place behind an instruction that ends there
abbrev pub place_in : ℕ → Built → Place
place_in behind T = record { offset = behind; next = length T.entries }

-- the table once a block opened, turned or closed
abbrev pub nested_in : Nesting → ℕ → Built → Option Built
nested_in k behind T = nested k (place_in behind T) T.nest >>= λ N. Some (record { entries = T.entries; nest = N })

-- a block whose second place has the number behind that of the first
abbrev pub block_by : Bool → ℕ → OpenBlock
block_by is_loop label = record { label = label; other = label + 1; is_loop = is_loop }

-- the table with an open block more
abbrev pub with_block : Built → OpenBlock → Built
with_block T o = record { entries = T.entries; nest = record { places = T.nest.places; open_blocks = o ∷ T.nest.open_blocks } }

module _ {A : Type 0} (C : Context UnpackedIndex) (v : OperatorValidator A) where
  -- the entry of one branch, with the number of its place
  abbrev pub planned_one : ℕ → Branch → Built → Option Entry
  planned_one at b T = planned (world C) (within v C) (typed_state v) T.nest at b

  -- the table with these branches more
  abbrev pub planned_in : ℕ → List Branch → Built → Option Built
  planned_in at bs T = planned_each (world C) (within v C) (typed_state v) T.nest at bs >>= λ es. Some (record { entries = T.entries ++ es; nest = T.nest })

  -- the table with an instruction more
  abbrev pub noted_in : Placed → Built → Option Built
  noted_in i T = noted (world C) (within v C) (typed_state v) i T

  -- the state behind an instruction
  abbrev pub steps_to : Instruction ℕ → Option (State UnpackedIndex)
  steps_to i = step_in (world C) (within v C) i (typed_state v)
