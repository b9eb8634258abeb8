-- What lies below the operands of code is never read, and stays: with other operands below, code does the same.
-- Core Specification 3.0, Execution, Runtime Structure (Stack), and Validation, Instructions (Instruction Sequences).
use Rattle.std.specs.Prelude.{ℕ, List, ◌++◌}
use Rattle.wasm_spec_steps.specs.WasmSpecRules.WasmSpec.MatchingTests.{World}
use Rattle.wasm_laws_soundness.specs.Values.{Value}
use Rattle.wasm_laws_soundness.specs.Outcomes.{State, branches, throws, calls_in_place, rethrows, delegates, returns, traps, out_of_steps, stuck, Outcome, falls_through, leaves, Primitives, holding}
use Rattle.wasm_laws_soundness.specs.Interpreter.{Task, run}

-- the same state, with other operands below
abbrev pub over : {R : Type 0} → List (Value R) → State R → State R
over below s = holding (below ++ s.operands) s

-- The second outcome is the first one, with these operands below where code falls through. A branch and a return may leave more of them
-- behind. Of what was thrown the operands don't count. And nothing is said of code that is stuck.
pub data IsSame {R : Type 0} (below : List (Value R)) : Outcome R → Outcome R → Type 0 where
  falls_so : {s : State R} → IsSame below (falls_through s) (falls_through (over below s))
  branches_so : {l : ℕ} {s : State R} (more : List (Value R)) → IsSame below (leaves (branches l s)) (leaves (branches l (over more s)))
  returns_so : {s : State R} (more : List (Value R)) → IsSame below (leaves (returns s)) (leaves (returns (over more s)))
  calls_so : {a : ℕ} {s : State R} → IsSame below (leaves (calls_in_place a s)) (leaves (calls_in_place a s))
  throws_so : {a : ℕ} {s : State R} (vs : List (Value R)) → IsSame below (leaves (throws a s)) (leaves (throws a (holding vs s)))
  rethrows_so : {l : ℕ} {s : State R} (vs : List (Value R)) → IsSame below (leaves (rethrows l s)) (leaves (rethrows l (holding vs s)))
  delegates_so : {l a : ℕ} {s : State R} (vs : List (Value R)) → IsSame below (leaves (delegates l a s)) (leaves (delegates l a (holding vs s)))
  traps_so : IsSame below (leaves traps) (leaves traps)
  waits_so : IsSame below (leaves out_of_steps) (leaves out_of_steps)
  stuck_so : {o : Outcome R} → IsSame below (leaves stuck) o

-- For every number of steps, and all code and functions, typed or not.
abbrev pub NoRunReadsBelow : (R : Type 0) → Type 0
NoRunReadsBelow R =
    (W : World R) (P : Primitives R) (n : ℕ) (t : Task R) (s : State R) (below : List (Value R)) → IsSame below (run W P n t s) (run W P n t (over below s))
