-- Laws of what is taken and given: what code stands on that takes and gives operands one by one. As facts that a contract can name.
use Rattle.std.specs.Prelude.{ℕ, ◌≡◌, Bool, true, List, ◌++◌, length, Some, None, is_some, slice_get}
use Rattle.wasm_spec_rules.specs.WasmSpec.Syntax.{Val}
use Rattle.wasm_spec_rules.specs.WasmSpec.MatchingTests.{World, matches_val}
use Rattle.wasm_spec_rules.specs.Contexts.{Context}
use Rattle.wasm_operators.specs.Instructions.{Instruction}
use Rattle.wasm_spec_rules.specs.Attempts.{◌>>=◌, last_of, front_of}
use Rattle.wasm_spec_rules.specs.Worlds.{world_of}
use Rattle.wasm_spec_steps.specs.Matching.{matches_vals}
use Rattle.wasm_spec_steps.specs.Bodies.{Surroundings}
use Rattle.wasm_spec_steps.specs.Machine.{bottom, known, Frame, State, push_operand, push_vals, pop_any, matches_operand, pop_val, pop_vals}
use Rattle.wasm_spec_steps.specs.Actions.{OperandTypes, front, last, joined, Action, take, give}
use Rattle.wasm_spec_steps.specs.Shapes.{shape_of}
use Rattle.wasm_spec_steps.specs.Meanings.{types_at, act, run}
use Rattle.wasm_spec_steps.specs.Steps.{actions_of, step_in, steps_in}

-- To take two lists, one behind the other, is to take the second and then the first; to take all of a list is to take its last item and
-- then those before it. To give them is the other way round.
pub record TakesInTurn {R : Type 0} (W : World R) : Type 0 where
  pub taken : (vs ws : List (Val R)) (s : State R) → pop_vals W (vs ++ ws) s ≡ (pop_vals W ws s >>= pop_vals W vs)
  pub given : (vs ws : List (Val R)) (s : State R) → push_vals (vs ++ ws) s ≡ push_vals ws (push_vals vs s)
  pub taken_last : (vs : List (Val R)) (v : Val R) (s : State R) → last_of vs ≡ Some v → pop_vals W vs s ≡ (pop_val W v s >>= pop_vals W (front_of vs))
  pub given_last : (vs : List (Val R)) (v : Val R) (s : State R) → last_of vs ≡ Some v → push_vals vs s ≡ push_operand (known v) (push_vals (front_of vs) s)

-- Only operands are changed by it.
pub record KeepsFrames {R : Type 0} (W : World R) : Type 0 where
  pub frames : (vs : List (Val R)) (s t : State R) → pop_vals W vs s ≡ Some t → t.frames ≡ s.frames
  pub inits : (vs : List (Val R)) (s t : State R) → pop_vals W vs s ≡ Some t → t.inits ≡ s.inits

-- The same of the actions, whatever names the types.
pub record ActsInTurn {R : Type 0} (W : World R) (B : Surroundings R) : Type 0 where
  pub taken : (t u : OperandTypes) (s : State R) → act W B (take (joined t u)) s ≡ (act W B (take u) s >>= act W B (take t))
  pub given : (t u : OperandTypes) (s : State R) → act W B (give (joined t u)) s ≡ (act W B (give t) s >>= act W B (give u))
  pub taken_last :
      (t : OperandTypes) (s : State R) → is_some (types_at W B s (last t)) ≡ true → act W B (take t) s ≡ (act W B (take (last t)) s >>= act W B (take (front t)))
  pub given_last :
      (t : OperandTypes) (s : State R) → is_some (types_at W B s (last t)) ≡ true → act W B (give t) s ≡ (act W B (give (front t)) s >>= act W B (give (last t)))

abbrev pub ListsAreTakenInTurn : (R : Type 0) → Type 0
ListsAreTakenInTurn R = (W : World R) → TakesInTurn W

abbrev pub TakingKeepsFrames : (R : Type 0) → Type 0
TakingKeepsFrames R = (W : World R) → KeepsFrames W

abbrev pub TypesAreTakenInTurn : (R : Type 0) → Type 0
TypesAreTakenInTurn R = (W : World R) (B : Surroundings R) → ActsInTurn W B

-- the rest of the innermost frame's code isn't reached, and no operand of its own is left
pub record IsUnreached {R : Type 0} (s : State R) : Type 0 where
  pub frame : Frame R
  pub innermost : slice_get s.frames 0 ≡ Some frame
  pub unreachable : frame.unreachable ≡ true
  pub at_height : length s.operands ≡ frame.height

-- There one operand of any type, and operands of any list of types, can be taken, and nothing is changed.
pub record TakesAnything {R : Type 0} (W : World R) (s : State R) : Type 0 where
  pub one : pop_any s ≡ Some (bottom, s)
  pub list : (vs : List (Val R)) → pop_vals W vs s ≡ Some s

abbrev pub UnreachedCodeTakesAnything : (R : Type 0) → Type 0
UnreachedCodeTakesAnything R = (W : World R) (s : State R) → IsUnreached s → TakesAnything W s

-- each type matches itself
pub record MatchThemselves {R : Type 0} (W : World R) : Type 0 where
  pub val : (v : Val R) → matches_val W v v ≡ true
  pub vals : (vs : List (Val R)) → matches_vals W vs vs ≡ true
  pub operand : (v : Val R) → matches_operand W (known v) v ≡ true

-- Where each identity is below itself and the same as itself, equal types match; so they do in each context.
abbrev pub EqualTypesMatch : (R : Type 0) → Type 0
EqualTypesMatch R = (W : World R) → ((a : R) → W.below a a ≡ true) → ((a : R) → W.same a a ≡ true) → MatchThemselves W

abbrev pub EqualTypesMatchInContexts : (R : Type 0) → Type 0
EqualTypesMatchInContexts R = (same : R → R → Bool) (C : Context R) → ((a : R) → same a a ≡ true) → MatchThemselves (world_of same C)

-- Actions one behind the other are run in turn. Where the first of them are refused, so is the whole run, and the step of which they are:
-- what was taken before isn't seen. So it is of lists that are taken, and of runs of steps.
pub record RunsInTurn {R : Type 0} (W : World R) (B : Surroundings R) : Type 0 where
  pub actions : (as_ bs : List Action) (s : State R) → run W B (as_ ++ bs) s ≡ (run W B as_ s >>= run W B bs)
  pub steps : (ops more : List (Instruction ℕ)) (s : State R) → steps_in W B (ops ++ more) s ≡ (steps_in W B ops s >>= steps_in W B more)
  pub list_refused : (vs ws : List (Val R)) (s : State R) → pop_vals W ws s ≡ None → pop_vals W (vs ++ ws) s ≡ None
  pub refused : (as_ bs : List Action) (s : State R) → run W B as_ s ≡ None → run W B (as_ ++ bs) s ≡ None
  pub step_refused :
      (op : Instruction ℕ) (as_ bs : List Action) (s : State R) → actions_of (shape_of op) ≡ as_ ++ bs → run W B as_ s ≡ None → step_in W B op s ≡ None

abbrev pub ActionsAreRunInTurn : (R : Type 0) → Type 0
ActionsAreRunInTurn R = (W : World R) (B : Surroundings R) → RunsInTurn W B
