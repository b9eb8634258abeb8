-- What a context declares is looked at through a world alone: what types declare, which is an ancestor of which, and which are the same.
-- Core Specification 3.0, Validation, Conventions (Contexts), and Matching (Defined Types).
use Rattle.std.specs.Prelude.{ℕ, ◌≡◌, Bool, List}
use Rattle.std.specs.Option.{option_map}
use Rattle.wasm_spec.specs.Syntax.{Sub}
use Rattle.wasm_spec.specs.MatchingTests.{World}
use Rattle.wasm_operators.specs.Control.{Block}
use Rattle.wasm_operators.specs.Maps.{map_block}
use Rattle.wasm_operators.specs.Instructions.{Instruction}
use Rattle.wasm_spec_rules.specs.Contexts.{Context}
use Rattle.wasm_spec_rules.specs.Worlds.{world_of}
use Rattle.wasm_spec_steps.specs.Bodies.{Surroundings, map_surroundings}
use Rattle.wasm_spec_steps.specs.Machine.{State, map_state}
use Rattle.wasm_spec_steps.specs.Renaming.{Renames}
use Rattle.wasm_spec_steps.specs.Steps.{step_in, steps_in, is_typed}

module _ {R : Type 0} where
  -- the same context, which declares these instead
  abbrev pub with_declared : List (R × Sub R) → Context R → Context R
  with_declared ds C = record C { declares = ds }

  abbrev pub declaring : List (R × Sub R) → Surroundings R → Surroundings R
  declaring ds B = record B { context = with_declared ds B.context }

-- One step, and a run of them, are the same whatever the context declares.
pub record SeesWorldAlone {R : Type 0} (W : World R) (B : Surroundings R) (ds : List (R × Sub R)) : Type 0 where
  pub step : (op : Instruction ℕ) (s : State R) → step_in W (declaring ds B) op s ≡ step_in W B op s
  pub steps : (ops : List (Instruction ℕ)) (s : State R) → steps_in W (declaring ds B) ops s ≡ steps_in W B ops s

abbrev pub StepsSeeWorldsAlone : Type 0 → Type 0
StepsSeeWorldsAlone R = (W : World R) (B : Surroundings R) (ds : List (R × Sub R)) → SeesWorldAlone W B ds

-- Over renamed identities they are those over the identities themselves, renamed, whatever the context declares there.
pub record IsRenamedInWorlds {R S : Type 0} (f : R → S) (W : World R) (V : World S) (B : Surroundings R) (ds : List (S × Sub S)) : Type 0 where
  pub step : (op : Instruction ℕ) (s : State R) → step_in V (declaring ds (map_surroundings f B)) op (map_state f s) ≡ option_map (map_state f) (step_in W B op s)
  pub steps : (ops : List (Instruction ℕ)) (s : State R) → steps_in V (declaring ds (map_surroundings f B)) ops (map_state f s) ≡ option_map (map_state f) (steps_in W B ops s)

abbrev pub StepsRenameInWorlds : (R S : Type 0) → Type 0
StepsRenameInWorlds R S = (f : R → S) (W : World R) (V : World S) → Renames f W V → (B : Surroundings R) (ds : List (S × Sub S)) → IsRenamedInWorlds f W V B ds

-- So where the world of a context that declares these is the world of another with each identity renamed, instructions lead from the
-- start of a frame to its end in the one exactly where they do in the other.
abbrev pub VerdictsRenameInWorlds : (R S : Type 0) → Type 0
VerdictsRenameInWorlds R S =
    (same : R → R → Bool) (renamed : S → S → Bool) (f : R → S) (B : Surroundings R) (ds : List (S × Sub S))
    → Renames f (world_of same B.context) (world_of renamed (declaring ds (map_surroundings f B)).context)
    → (b : Block R) (ops : List (Instruction ℕ)) → is_typed renamed (declaring ds (map_surroundings f B)) (map_block f b) ops ≡ is_typed same B b ops
