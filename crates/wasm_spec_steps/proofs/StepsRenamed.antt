-- Steps, runs of steps and finishes, renamed.
use Rattle.std.proofs.Common.{◌≡◌, refl, ℕ, Bool, List, [], ◌∷◌, map, option_map}
use Rattle.wasm_spec_rules.specs.WasmSpec.MatchingTests.{World}
use Rattle.wasm_operators.specs.Control.{Block}
use Rattle.wasm_operators.specs.Maps.{map_block}
use Rattle.wasm_operators.specs.Instructions.{Instruction}
use Rattle.wasm_spec_rules.specs.Attempts.{guard}
use Rattle.wasm_spec_rules.specs.Worlds.{world_of}
use Rattle.wasm_spec_steps.specs.Bodies.{Surroundings, map_surroundings}
use Rattle.wasm_spec_steps.specs.Machine.{Frame, State, map_frame, map_state}
use Rattle.wasm_spec_steps.specs.Shapes.{shape_of}
use Rattle.wasm_spec_steps.specs.Meanings.{run}
use Rattle.wasm_spec_steps.specs.Steps.{actions_of, is_open, is_finished, start, step_in, steps_in, step, steps, is_typed}
use Rattle.wasm_spec_steps.specs.Renaming.{Renames}
use Rattle.wasm_spec_steps.specs.Laws.{StepsRename}
use Rattle.wasm_spec_steps.proofs.Attempts.{bind-map, guard-map, passes-map}
use Rattle.wasm_spec_steps.proofs.WorldsRenamed.{world_of-map}
use Rattle.wasm_spec_steps.proofs.MeaningsRenamed.{run-map}

module _ {R S : Type 0} (f : R → S) where
  open_frames-map : (xs : List (Frame R)) (s : State R) → is_open (record (map_state f s) { frames = map (map_frame f) xs }) ≡ is_open (record s { frames = xs })
  open_frames-map [] s = refl
  open_frames-map (x ∷ xs) s = refl

  is_open-map : (s : State R) → is_open (map_state f s) ≡ is_open s
  is_open-map s = open_frames-map s.frames s

  finished_frames-map : (xs : List (Frame R)) (s : State R) → is_finished (record (map_state f s) { frames = map (map_frame f) xs }) ≡ is_finished (record s { frames = xs })
  finished_frames-map [] s = refl
  finished_frames-map (x ∷ xs) s = refl

  pub is_finished-map : (s : State R) → is_finished (map_state f s) ≡ is_finished s
  is_finished-map s = finished_frames-map s.frames s

module _ {R S : Type 0} (f : R → S) (W : World R) (V : World S) (h : Renames f W V) (B : Surroundings R) where
  pub step_in-map : (op : Instruction ℕ) (s : State R) → step_in V (map_surroundings f B) op (map_state f s) ≡ option_map (map_state f) (step_in W B op s)
  step_in-map op s =
      bind-map (map_state f) (map_state f) (run W B (actions_of (shape_of op))) (run V (map_surroundings f B) (actions_of (shape_of op))) (run-map f W V h B (actions_of (shape_of op)))
      (guard (is_open s) s) (guard-map (map_state f) s (is_open-map f s) refl)

  pub steps_in-map : (ops : List (Instruction ℕ)) (s : State R) → steps_in V (map_surroundings f B) ops (map_state f s) ≡ option_map (map_state f) (steps_in W B ops s)
  steps_in-map [] s = refl
  steps_in-map (op ∷ ops) s = bind-map (map_state f) (map_state f) (steps_in W B ops) (steps_in V (map_surroundings f B) ops) (steps_in-map ops) (step_in W B op s) (step_in-map op s)

module _ {R S : Type 0} (same : R → R → Bool) (renamed : S → S → Bool) (f : R → S) (e : (a b : R) → renamed (f a) (f b) ≡ same a b) (B : Surroundings R) where
  pub step-map : (op : Instruction ℕ) (s : State R) → step renamed (map_surroundings f B) op (map_state f s) ≡ option_map (map_state f) (step same B op s)
  step-map op s = step_in-map f (world_of same B.context) (world_of renamed (map_surroundings f B).context) (world_of-map f same renamed e B.context) B op s

  pub steps-map : (ops : List (Instruction ℕ)) (s : State R) → steps renamed (map_surroundings f B) ops (map_state f s) ≡ option_map (map_state f) (steps same B ops s)
  steps-map ops s = steps_in-map f (world_of same B.context) (world_of renamed (map_surroundings f B).context) (world_of-map f same renamed e B.context) B ops s

  pub is_typed-map : (b : Block R) (ops : List (Instruction ℕ)) → is_typed renamed (map_surroundings f B) (map_block f b) ops ≡ is_typed same B b ops
  is_typed-map b ops = passes-map (map_state f) is_finished is_finished (is_finished-map f) (steps same B ops (start b)) (steps-map ops (start b))

pub steps_rename : {R S : Type 0} → StepsRename R S
steps_rename same renamed f e B = record { step = step-map same renamed f e B; steps = steps-map same renamed f e B; typed = is_typed-map same renamed f e B }
