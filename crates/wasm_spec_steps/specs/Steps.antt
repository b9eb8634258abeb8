-- The second table, from a shape to its actions; steps, runs of steps, and their finish; bodies and constant expressions.
-- Core Specification 3.0, Validation, Instructions (Expressions), Modules (Functions), and Appendix, Validation Algorithm.
use Rattle.std.specs.Prelude.{ℕ, Bool, true, false, List, [], ◌∷◌, ◌++◌, map, Option, Some}
use Rattle.wasm_spec_rules.specs.WasmSpec.MatchingTests.{World}
use Rattle.wasm_spec_rules.specs.WasmSpec.Syntax.{Val, i32}
use Rattle.wasm_operators.specs.Control.{Block, value_block, func_block}
use Rattle.wasm_operators.specs.Instructions.{Instruction}
use Rattle.wasm_spec_rules.specs.Attempts.{◌>>=◌, guard, passes}
use Rattle.wasm_spec_rules.specs.Worlds.{world_of}
use Rattle.wasm_spec_steps.specs.Bodies.{Local, Surroundings}
use Rattle.wasm_spec_steps.specs.Machine.{block_kind, State}
use Rattle.wasm_spec_steps.specs.Actions.{front, last, label, local, Check, Action, need, refuse, take, give, take_any, take_reference, take_comparable, make_non_null, choose, stop, turn_to_else, leave, take_below, convert, describe, enter, turn_to_catch, find_outside, find_caught, set, branch_on_null, branch_to_one_of}
use Rattle.wasm_spec_steps.specs.Shapes.{Shape, plain, ending, opening, closing, turning, dropping, choosing, never, testing_null, asserting_non_null, branching_on_null, branching_on_non_null, branching_by_table, setting, giving_back, measuring, comparing, converting, describing, catching, delegating, rethrowing, one, shape_of}
use Rattle.wasm_spec_steps.specs.Meanings.{has_default, run}

-- the actions behind these checks
abbrev pub checked : List Check → List Action → List Action
checked cs actions = map need cs ++ actions

abbrev pub actions_of : Shape → List Action
actions_of (plain cs t u) = checked cs (take t ∷ give u ∷ [])
actions_of (ending cs t) = checked cs (take t ∷ stop ∷ [])
actions_of (opening cs t k b) = checked cs (take t ∷ enter k b ∷ [])
actions_of closing = leave ∷ []
actions_of turning = turn_to_else ∷ []
actions_of dropping = take_any ∷ []
actions_of choosing = take (one i32) ∷ choose ∷ []
actions_of never = refuse ∷ []
actions_of (testing_null cs) = checked cs (take_reference ∷ give (one i32) ∷ [])
actions_of (asserting_non_null cs) = checked cs (make_non_null ∷ [])
actions_of (branching_on_null cs l) = checked cs (branch_on_null l ∷ [])
actions_of (branching_on_non_null cs l) = checked cs (make_non_null ∷ take (last (label l)) ∷ take (front (label l)) ∷ give (front (label l)) ∷ [])
actions_of (branching_by_table ls l) = take (one i32) ∷ branch_to_one_of ls l ∷ []
actions_of (setting x) = take (local x) ∷ set x ∷ []
actions_of (giving_back x) = take (local x) ∷ set x ∷ give (local x) ∷ []
actions_of (measuring cs k t) = checked cs (take_below k ∷ give t ∷ [])
actions_of (comparing cs t) = checked cs (take_comparable ∷ give t ∷ [])
actions_of (converting cs j k) = checked cs (convert j k ∷ [])
actions_of (describing cs n) = checked cs (describe n ∷ [])
actions_of (catching cs t k) = checked cs (turn_to_catch t k ∷ [])
actions_of (delegating cs l) = checked cs (find_outside l ∷ leave ∷ [])
actions_of (rethrowing cs l) = checked cs (find_caught l ∷ stop ∷ [])

module _ {R : Type 0} where
  -- whether a frame is left, and whether none is
  abbrev pub is_open : State R → Bool
  is_open s = elim s.frames [ [] ↦ false | _ ↦ true ]

  abbrev pub is_finished : State R → Bool
  is_finished s = elim s.frames [ [] ↦ true | _ ↦ false ]

  -- the locals of a function: its parameters are set, and of those that it declares the ones with a default
  abbrev pub locals_of : List (Val R) → List (Val R) → List (Local R)
  locals_of parameters declared = map (λ v. record { content = v; set = true }) parameters ++ map (λ v. record { content = v; set = has_default v }) declared

  -- one frame, over no operands
  abbrev pub start : Block R → State R
  start b = record { operands = []; frames = record { kind = block_kind; block = b; height = 0; unreachable = false; init_height = 0 } ∷ []; inits = [] }

-- One instruction: it stands in a frame, and each of its actions can be taken.
abbrev pub step_in : {R : Type 0} → World R → Surroundings R → Instruction ℕ → State R → Option (State R)
step_in W B op s = guard (is_open s) s >>= run W B (actions_of (shape_of op))

abbrev pub steps_in : {R : Type 0} → World R → Surroundings R → List (Instruction ℕ) → State R → Option (State R)
steps_in W B [] s = Some s
steps_in W B (op ∷ ops) s = step_in W B op s >>= steps_in W B ops

module _ {R : Type 0} (same : R → R → Bool) (B : Surroundings R) where
  abbrev pub step : Instruction ℕ → State R → Option (State R)
  step op s = step_in (world_of same B.context) B op s

  abbrev pub steps : List (Instruction ℕ) → State R → Option (State R)
  steps ops s = steps_in (world_of same B.context) B ops s

  -- instructions that lead from the start to the end of a frame with this block type, and not past it
  abbrev pub is_typed : Block R → List (Instruction ℕ) → Bool
  is_typed b ops = passes is_finished (steps ops (start b))

  -- the body of a function whose type has this index, and a constant expression of this type
  abbrev pub is_typed_body : ℕ → List (Instruction ℕ) → Bool
  is_typed_body x ops = is_typed (func_block x) ops

  abbrev pub is_typed_constant : Val R → List (Instruction ℕ) → Bool
  is_typed_constant v ops = is_typed (value_block v) ops
