-- Structured code: instructions that contain others, and the flat list that is written for them.
-- Core Specification 3.0, Structure, Instructions (Control Instructions, Expressions), and Binary Format, Instructions; and for `try` the
-- legacy exception-handling proposal.
use Rattle.std.specs.Prelude.{◌≡◌, ℕ, Bool, true, false, List, [], ◌∷◌, ◌++◌, length}
use Rattle.wasm_operators.specs.Control as control
use Rattle.wasm_operators.specs.Control.{Block}
use Rattle.wasm_operators.specs.Legacy as legacy
use Rattle.wasm_operators.specs.Instructions as instruction
use Rattle.wasm_operators.specs.Instructions.{Instruction}
use Rattle.wasm_operators.specs.declared.control.Catch.{Catch}
use Rattle.wasm_spec_steps.specs.Machine.{Kind, block_kind, loop_kind, if_kind, try_table_kind, legacy_try_kind, legacy_catch_kind, legacy_catch_all_kind}
use Rattle.wasm_spec_steps.specs.Actions.{of_tag, OperandTypes, params, Check, has, is_exception, exceptions, few_clauses}
use Rattle.wasm_spec_steps.specs.Shapes.{Shape, opening, closing, turning, catching, delegating, nothing, one, block_checks, catch_checks, legacy_checks, shape_of}
use Rattle.wasm_spec_steps.specs.WasmSpecRules.WasmSpec.Syntax.{i32}

-- what begins a block
pub data Opening : Type 0 where
  a_block a_loop an_if a_try : Block ℕ → Opening
  a_try_table : Block ℕ → List Catch → Opening

-- what begins a handler of a `try`: a `catch` of exceptions with this tag, or the `catch_all`
pub data Handler : Type 0 where
  a_catch : ℕ → Handler
  a_catch_all : Handler

mutual
  -- A sequence of instructions, each before the rest: one that contains no others; one that contains others; an `if` with its `else`; a
  -- `try` with its handlers; and a `try` with its `delegate`.
  pub data Code : Type 0 where
    done : Code
    simply : Instruction ℕ → Code → Code
    enclosing : Opening → Code → Code → Code
    choosing_between : Block ℕ → Code → Code → Code → Code
    handling : Block ℕ → Code → Handlers → Code → Code
    delegating_to : ℕ → Block ℕ → Code → Code → Code

  -- the last handler, with its code, or a `catch` before others
  pub data Handlers : Type 0 where
    last_handler : Handler → Code → Handlers
    catch_before : ℕ → Code → Handlers → Handlers

abbrev pub written : Opening → Instruction ℕ
written (a_block b) = instruction.control (control.block b)
written (a_loop b) = instruction.control (control.loop b)
written (an_if b) = instruction.control (control.if_ b)
written (a_try b) = instruction.legacy (legacy.try_ b)
written (a_try_table b cs) = instruction.control (control.try_table b cs)

abbrev pub handler_written : Handler → Instruction ℕ
handler_written (a_catch x) = instruction.legacy (legacy.catch_ x)
handler_written a_catch_all = instruction.legacy legacy.catch_all

abbrev pub delegate_ : ℕ → Instruction ℕ
delegate_ l = instruction.legacy (legacy.delegate l)

abbrev pub else_ : Instruction ℕ
else_ = instruction.control control.else_

abbrev pub end_ : Instruction ℕ
end_ = instruction.control control.end_

-- the instructions in a row, each block with its `end`, and a `delegate` in its place
abbrev mutual
  pub flatten : Code → List (Instruction ℕ)
  flatten done = []
  flatten (simply i c) = i ∷ flatten c
  flatten (enclosing o b c) = written o ∷ (flatten b ++ (end_ ∷ flatten c))
  flatten (choosing_between g b d c) = written (an_if g) ∷ (flatten b ++ (else_ ∷ (flatten d ++ (end_ ∷ flatten c))))
  flatten (handling g b hs c) = written (a_try g) ∷ (flatten b ++ (flatten_handlers hs ++ (end_ ∷ flatten c)))
  flatten (delegating_to l g b c) = written (a_try g) ∷ (flatten b ++ (delegate_ l ∷ flatten c))

  pub flatten_handlers : Handlers → List (Instruction ℕ)
  flatten_handlers (last_handler h b) = handler_written h ∷ flatten b
  flatten_handlers (catch_before x b hs) = handler_written (a_catch x) ∷ (flatten b ++ flatten_handlers hs)

-- one sequence and then another
abbrev pub and_then : Code → Code → Code
and_then done d = d
and_then (simply i c) d = simply i (and_then c d)
and_then (enclosing o b c) d = enclosing o b (and_then c d)
and_then (choosing_between g b e c) d = choosing_between g b e (and_then c d)
and_then (handling g b hs c) d = handling g b hs (and_then c d)
and_then (delegating_to l g b c) d = delegating_to l g b (and_then c d)

abbrev pub is_done : Code → Bool
is_done done = true
is_done _ = false

-- one instruction, with the code that it contains
abbrev pub is_one : Code → Bool
is_one done = false
is_one (simply i c) = is_done c
is_one (enclosing o b c) = is_done c
is_one (choosing_between g b d c) = is_done c
is_one (handling g b hs c) = is_done c
is_one (delegating_to l g b c) = is_done c

-- opens, turns and closes no block
abbrev pub is_simple : Shape → Bool
is_simple (opening cs t k b) = false
is_simple closing = false
is_simple turning = false
is_simple (catching cs t k) = false
is_simple (delegating cs l) = false
is_simple _ = true

-- Instructions that open, turn or close a block stand nowhere by themselves.
abbrev mutual
  pub IsProper : Code → Type 0
  IsProper done = Unit {0}
  IsProper (simply i c) = (is_simple (shape_of i) ≡ true) × IsProper c
  IsProper (enclosing o b c) = IsProper b × IsProper c
  IsProper (choosing_between g b d c) = IsProper b × IsProper d × IsProper c
  IsProper (handling g b hs c) = IsProper b × AreProper hs × IsProper c
  IsProper (delegating_to l g b c) = IsProper b × IsProper c

  pub AreProper : Handlers → Type 0
  AreProper (last_handler h b) = IsProper b
  AreProper (catch_before x b hs) = IsProper b × AreProper hs

-- The flat list is this structured code, and an `end`.
pub record Is (ops : List (Instruction ℕ)) (code : Code) : Type 0 where
  pub is_proper : IsProper code
  pub is_written : ops ≡ flatten code ++ (end_ ∷ [])

-- what the table of shapes says of what begins a block
abbrev pub kind_of : Opening → Kind
kind_of (a_block b) = block_kind
kind_of (a_loop b) = loop_kind
kind_of (an_if b) = if_kind
kind_of (a_try b) = legacy_try_kind
kind_of (a_try_table b cs) = try_table_kind

abbrev pub block_of : Opening → Block ℕ
block_of (a_block b) = b
block_of (a_loop b) = b
block_of (an_if b) = b
block_of (a_try b) = b
block_of (a_try_table b cs) = b

abbrev pub checks_of : Opening → List Check
checks_of (a_block b) = block_checks b
checks_of (a_loop b) = block_checks b
checks_of (an_if b) = block_checks b
checks_of (a_try b) = legacy_checks (block_checks b)
checks_of (a_try_table b cs) = has (few_clauses (length cs)) ∷ has exceptions ∷ block_checks b ++ catch_checks cs

-- an `if` takes a number before what its block takes
abbrev pub condition_of : Opening → OperandTypes
condition_of (an_if b) = one i32
condition_of _ = nothing

-- and of what begins a handler: the operands that it finds are those of its tag
abbrev pub handler_kind : Handler → Kind
handler_kind (a_catch x) = legacy_catch_kind
handler_kind a_catch_all = legacy_catch_all_kind

abbrev pub handler_checks : Handler → List Check
handler_checks (a_catch x) = legacy_checks (is_exception x ∷ [])
handler_checks a_catch_all = legacy_checks []

abbrev pub handler_operands : Handler → OperandTypes
handler_operands (a_catch x) = params (of_tag x)
handler_operands a_catch_all = nothing
