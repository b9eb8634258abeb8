-- Steps look at what a context declares through a world alone.
use Rattle.std.proofs.Common.{◌≡◌, refl, ◌∙◌, ℕ, List, [], ◌∷◌, option_map}
use Rattle.wasm_spec.specs.Syntax.{Sub}
use Rattle.wasm_spec.specs.MatchingTests.{World}
use Rattle.wasm_operators.specs.Instructions.{Instruction}
use Rattle.wasm_spec_rules.specs.Attempts.{◌>>=◌, guard}
use Rattle.wasm_spec_rules.specs.Worlds.{world_of}
use Rattle.wasm_spec_steps.specs.Bodies.{Surroundings, map_surroundings}
use Rattle.wasm_spec_steps.specs.Machine.{State, map_state}
use Rattle.wasm_spec_steps.specs.Actions.{Action}
use Rattle.wasm_spec_steps.specs.Shapes.{shape_of}
use Rattle.wasm_spec_steps.specs.Meanings.{act, run}
use Rattle.wasm_spec_steps.specs.Steps.{actions_of, is_open, is_finished, start, step_in, steps_in}
use Rattle.wasm_spec_steps.specs.Renaming.{Renames}
use Rattle.wasm_spec_steps.proofs.Attempts.{passes-map}
use Rattle.wasm_spec_steps.proofs.StepsRenamed.{is_finished-map, step_in-map, steps_in-map}
use Rattle.wasm_laws_core.specs.ContextWorlds.{declaring, StepsSeeWorldsAlone, StepsRenameInWorlds, VerdictsRenameInWorlds}

module _ {R : Type 0} (W : World R) (B : Surroundings R) (ds : List (R × Sub R)) where
  act-alone : (a : Action) (s : State R) → act W (declaring ds B) a s ≡ act W B a s
  act-alone a s = refl

  run-alone : (as_ : List Action) (s : State R) → run W (declaring ds B) as_ s ≡ run W B as_ s
  run-alone [] s = refl
  run-alone (a ∷ as_) s = λ i. act-alone a s i >>= λ t. run-alone as_ t i

  step-alone : (op : Instruction ℕ) (s : State R) → step_in W (declaring ds B) op s ≡ step_in W B op s
  step-alone op s = λ i. guard (is_open s) s >>= λ t. run-alone (actions_of (shape_of op)) t i

  steps-alone : (ops : List (Instruction ℕ)) (s : State R) → steps_in W (declaring ds B) ops s ≡ steps_in W B ops s
  steps-alone [] s = refl
  steps-alone (op ∷ ops) s = λ i. step-alone op s i >>= λ t. steps-alone ops t i

pub steps_see_worlds_alone : {R : Type 0} → StepsSeeWorldsAlone R
steps_see_worlds_alone W B ds = record { step = step-alone W B ds; steps = steps-alone W B ds }

module _ {R S : Type 0} (f : R → S) (W : World R) (V : World S) (h : Renames f W V) (B : Surroundings R) (ds : List (S × Sub S)) where
  step-renamed : (op : Instruction ℕ) (s : State R) → step_in V (declaring ds (map_surroundings f B)) op (map_state f s) ≡ option_map (map_state f) (step_in W B op s)
  step-renamed op s = step-alone V (map_surroundings f B) ds op (map_state f s) ∙ step_in-map f W V h B op s

  steps-renamed : (ops : List (Instruction ℕ)) (s : State R) → steps_in V (declaring ds (map_surroundings f B)) ops (map_state f s) ≡ option_map (map_state f) (steps_in W B ops s)
  steps-renamed ops s = steps-alone V (map_surroundings f B) ds ops (map_state f s) ∙ steps_in-map f W V h B ops s

pub steps_rename_in_worlds : {R S : Type 0} → StepsRenameInWorlds R S
steps_rename_in_worlds f W V h B ds = record { step = step-renamed f W V h B ds; steps = steps-renamed f W V h B ds }

pub verdicts_rename_in_worlds : {R S : Type 0} → VerdictsRenameInWorlds R S
verdicts_rename_in_worlds same renamed f B ds h b ops =
    let N = declaring ds (map_surroundings f B) in
    passes-map (map_state f) is_finished is_finished (is_finished-map f)
    (steps_in (world_of same B.context) B ops (start b)) (steps-renamed f (world_of same B.context) (world_of renamed N.context) h B ds ops (start b))
