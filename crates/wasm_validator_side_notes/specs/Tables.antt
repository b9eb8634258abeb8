-- The side table of a body that is in bytes.
use Rattle.std.specs.Prelude.{◌≡◌, ℕ, ◌+◌, List, [], ◌∷◌, map, length, Some}
use Rattle.std.specs.Option.{option_map}
use Rattle.wasm_spec.specs.Features.{Features}
use Rattle.wasm_spec.specs.MatchingTests.{World}
use Rattle.wasm_spec_rules.specs.Contexts.{Context}
use Rattle.wasm_spec_rules.specs.Attempts.{◌>>=◌}
use Rattle.wasm_readers_types.specs.WasmReadersValues.declared.indices.UnpackedIndex.{UnpackedIndex}
use Rattle.wasm_operators.specs.Control.{func_block}
use Rattle.wasm_operators.specs.Instructions.{instruction_at}
use Rattle.wasm_spec_steps.specs.Bodies.{Surroundings}
use Rattle.wasm_spec_steps.specs.Machine.{State}
use Rattle.wasm_spec_steps.specs.Steps.{start, step_in}
use Rattle.wasm_validator_resources.specs.Answers.{world, sub_in}
use Rattle.wasm_validator_func.specs.WasmTypingValidator.WasmTypingControl.Blocks.{function_in}
use Rattle.wasm_readers.specs.WasmReadersBytes.Reader.{place_of_next, rest}
use Rattle.wasm_readers.specs.WasmReadersBytes.declared.binary_reader.BinaryReader.{BinaryReader}
use Rattle.wasm_typing_stacks.specs.BodyStacks.{Kept}
use Rattle.wasm_validator_func.specs.WasmTypingValidator.BodyTyping.{parameter, typed_state, locals_in}
use Rattle.wasm_validator_func.specs.WasmTypingValidator.TypedInstructions.{within}
use Rattle.wasm_validator_func.specs.WasmTypingValidator.declared.validator.OperatorValidator.{OperatorValidator}
use Rattle.wasm_validator_func.specs.Bodies.{locals_from}
use Rattle.wasm_validator_func.specs.BodyValidation.{listed_in, Goes}
use Rattle.wasm_spec_side_tables.specs.SideTables.{Placed, side_table, greatest_height}
use Rattle.wasm_spec_side_tables.specs.OnePassTables.{Built, noted, built}
use Rattle.wasm_validator_side_notes.specs.TableViews.{shown}
use Rattle.wasm_validator_side_notes.specs.declared.table.SideTable.{SideTable}

-- the instruction at the front of bytes, the first of which has this offset
pub record StandsAt (i : Placed) (offset : ℕ) (bytes more : List ℕ) : Type 0 where
  pub at : i.at ≡ offset
  pub read : instruction_at (λ n. n) bytes ≡ Some (i.op, more)
  pub behind : i.behind + length more ≡ offset + length bytes

-- these instructions, one behind the other, the offset behind them and the bytes that are left
abbrev pub AreAt : List Placed → ℕ → List ℕ → ℕ → List ℕ → Type 0
AreAt [] at bytes end more = (at ≡ end) × (bytes ≡ more)
AreAt (i ∷ is) at bytes end more = (next : List ℕ) × StandsAt i at bytes next × AreAt is i.behind next end more

module _ (W : World UnpackedIndex) (B : Surroundings UnpackedIndex) where
  -- one instruction leads on from a state, and to this table
  pub record Advances (s : State UnpackedIndex) (T : Built) (at : ℕ) (bytes : List ℕ) (t : State UnpackedIndex) (U : Built) (behind : ℕ) (more : List ℕ) : Type 0 where
    pub instruction : Placed
    pub stands : StandsAt instruction at bytes more
    pub ends : instruction.behind ≡ behind
    pub noted : noted W B s instruction T ≡ Some U
    pub step : step_in W B instruction.op s ≡ Some t

  -- all so far do, and this is the greatest height
  pub record Reaches (s : State UnpackedIndex) (T : Built) (at : ℕ) (bytes : List ℕ) (t : State UnpackedIndex) (U : Built) (height behind : ℕ) (more : List ℕ) : Type 0 where
    pub instructions : List Placed
    pub are : AreAt instructions at bytes behind more
    pub built : built W B s T instructions ≡ Some (t, U)
    pub highest : greatest_height W B 0 s instructions ≡ Some height

-- From where a validator and a table began, all of this reader's bytes were read: declarations of locals, and instructions behind them.
pub record HasRead {A X : Type 0} (C : Context UnpackedIndex) (v w : OperatorValidator X) (T : Built) (t : SideTable A) (r : BinaryReader) : Type 0 where
  pub declared : OperatorValidator X
  pub goes : Goes v declared
  pub state : typed_state declared ≡ typed_state v
  pub behind : List ℕ
  pub first : ℕ
  pub listed : listed_in v C (rest r) ≡ Some (locals_in declared, behind)
  pub begin : first + length behind ≡ place_of_next r + length (rest r)
  pub end : ℕ
  pub reaches : Reaches (world C) (within declared C) (typed_state declared) T first behind (typed_state w) (shown t) t.operands end []
  pub kept : Kept declared.stacks w.stacks
  pub begins : t.first ≡ first
  pub ends : t.end ≡ end

-- The table of the body of a function of the type with this index: over its parameters and the locals that the bytes begin with, it is
-- the side table of the instructions behind them, which are all of the bytes.
pub record IsTableOf {A : Type 0} (F : Features) (C : Context UnpackedIndex) (n at : ℕ) (bytes : List ℕ) (t : SideTable A) : Type 0 where
  pub surroundings : Surroundings UnpackedIndex
  pub instructions : List Placed
  pub behind : List ℕ
  pub first : ℕ
  pub end : ℕ
  pub features : surroundings.features ≡ F
  pub context : surroundings.context ≡ C
  pub shared : Some surroundings.shared ≡ option_map (λ d. d.shared) (sub_in C n)
  pub locals : (option_map (λ g. map parameter g.takes) (function_in C n) >>= λ ls. locals_from F C.types ls bytes) ≡ Some (surroundings.locals, behind)
  pub begin : first + length behind ≡ at + length bytes
  pub are : AreAt instructions first behind end []
  pub entries : side_table (world C) surroundings (start (func_block n)) instructions ≡ Some t.entries
  pub operands : greatest_height (world C) surroundings 0 (start (func_block n)) instructions ≡ Some t.operands
  pub count : t.locals ≡ length surroundings.locals
  pub begins : t.first ≡ first
  pub ends : t.end ≡ end

-- nothing stands in it
pub record IsEmptyTable {A : Type 0} (t : SideTable A) : Type 0 where
  pub entries : t.entries ≡ []
  pub operands : t.operands ≡ 0
  pub locals : t.locals ≡ 0
  pub first : t.first ≡ 0
  pub end : t.end ≡ 0
