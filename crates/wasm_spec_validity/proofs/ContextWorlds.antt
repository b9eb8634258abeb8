-- Steps look at what a context declares through a world alone, and at the functions that count as referenced through which ones do.
use Rattle.std.proofs.Common.{◌≡◌, refl, ◌∙◌, ℕ, List, [], ◌∷◌, option_map}
use Rattle.wasm_spec.specs.Syntax.{Sub}
use Rattle.wasm_spec.specs.MatchingTests.{World}
use Rattle.wasm_operators.specs.Instructions.{Instruction}
use Rattle.wasm_spec_steps.specs.WasmSpecRules.Attempts.{◌>>=◌, among, guard}
use Rattle.wasm_spec_steps.specs.WasmSpecRules.Contexts.{Context}
use Rattle.wasm_spec_steps.specs.Bodies.{Surroundings, map_surroundings}
use Rattle.wasm_spec_steps.specs.Machine.{State, map_state}
use Rattle.wasm_spec_steps.specs.Actions.{Check, has, allows, global_is_mutable, local_is_set, function_is_referenced, is_exception, each_matches, each_matches_some, may_be_cast, can_be_tested, is_aligned, suits, fields_have_defaults, has_no_descriptor, field_is_mutable, field_is_packed, element_is_mutable, element_has_default, element_is_number, element_is_packed, element_is_storable, data_is_there, segment_is_there, reaches_global, reaches_table, reaches_type, reaches_function, Action, need, refuse, take, give, take_any, take_reference, take_comparable, make_non_null, choose, stop, turn_to_else, leave, take_below, convert, describe, enter, turn_to_catch, find_outside, find_caught, set, branch_on_null, branch_to_one_of}
use Rattle.wasm_spec_steps.specs.Shapes.{shape_of}
use Rattle.wasm_spec_steps.specs.Meanings.{holds, act, run}
use Rattle.wasm_spec_steps.specs.Steps.{actions_of, is_open, step_in, steps_in}
use Rattle.wasm_spec_steps.specs.Renaming.{Renames}
use Rattle.wasm_spec_steps.proofs.StepsRenamed.{steps_in-map}

module _ {R : Type 0} (ds : List (R × Sub R)) (rs : List ℕ) where
  -- the same context, where types declare these and these functions count as referenced
  abbrev pub naming : Context R → Context R
  naming C = record C { declares = ds; references = rs }

  abbrev pub around : Surroundings R → Surroundings R
  around B = record B { context = naming B.context }

module _ {R : Type 0} (W : World R) (B : Surroundings R) (ds : List (R × Sub R)) (rs : List ℕ) (e : (i : ℕ) → among i rs ≡ among i B.context.references) where
  holds_same : (s : State R) (c : Check) → holds W (around ds rs B) s c ≡ holds W B s c
  holds_same s (has p) = refl
  holds_same s (allows v) = refl
  holds_same s (global_is_mutable n) = refl
  holds_same s (local_is_set n) = refl
  holds_same s (function_is_referenced n) = e n
  holds_same s (is_exception n) = refl
  holds_same s (each_matches t u) = refl
  holds_same s (each_matches_some t u) = refl
  holds_same s (may_be_cast r q) = refl
  holds_same s (can_be_tested r) = refl
  holds_same s (is_aligned op m) = refl
  holds_same s (suits f values) = refl
  holds_same s (fields_have_defaults n) = refl
  holds_same s (has_no_descriptor n) = refl
  holds_same s (field_is_mutable n k) = refl
  holds_same s (field_is_packed b n k) = refl
  holds_same s (element_is_mutable n) = refl
  holds_same s (element_has_default n) = refl
  holds_same s (element_is_number n) = refl
  holds_same s (element_is_packed b n) = refl
  holds_same s (element_is_storable m n) = refl
  holds_same s (data_is_there n) = refl
  holds_same s (segment_is_there n) = refl
  holds_same s (reaches_global n) = refl
  holds_same s (reaches_table n) = refl
  holds_same s (reaches_type n) = refl
  holds_same s (reaches_function n) = refl

  act_same : (a : Action) (s : State R) → act W (around ds rs B) a s ≡ act W B a s
  act_same (need c) s = λ i. guard (holds_same s c i) s
  act_same refuse s = refl
  act_same (take t) s = refl
  act_same (give t) s = refl
  act_same take_any s = refl
  act_same take_reference s = refl
  act_same take_comparable s = refl
  act_same make_non_null s = refl
  act_same choose s = refl
  act_same stop s = refl
  act_same turn_to_else s = refl
  act_same leave s = refl
  act_same (take_below k) s = refl
  act_same (convert j k) s = refl
  act_same (describe n) s = refl
  act_same (enter k b) s = refl
  act_same (turn_to_catch t k) s = refl
  act_same (find_outside n) s = refl
  act_same (find_caught n) s = refl
  act_same (set n) s = refl
  act_same (branch_on_null n) s = refl
  act_same (branch_to_one_of ns n) s = refl

  run_same : (as_ : List Action) (s : State R) → run W (around ds rs B) as_ s ≡ run W B as_ s
  run_same [] s = refl
  run_same (a ∷ as_) s = λ i. act_same a s i >>= λ t. run_same as_ t i

  step_same : (op : Instruction ℕ) (s : State R) → step_in W (around ds rs B) op s ≡ step_in W B op s
  step_same op s = λ i. guard (is_open s) s >>= λ t. run_same (actions_of (shape_of op)) t i

  pub steps_same : (ops : List (Instruction ℕ)) (s : State R) → steps_in W (around ds rs B) ops s ≡ steps_in W B ops s
  steps_same [] s = refl
  steps_same (op ∷ ops) s = λ i. step_same op s i >>= λ t. steps_same ops t i

-- so over renamed identities, where one world is another with each identity renamed, steps are those over the identities themselves
pub steps_renamed :
    {R S : Type 0} (f : R → S) (W : World R) (V : World S) (h : Renames f W V) (B : Surroundings R) (ds : List (S × Sub S)) (rs : List ℕ)
    → ((i : ℕ) → among i rs ≡ among i B.context.references)
    → (ops : List (Instruction ℕ)) (s : State R) → steps_in V (around ds rs (map_surroundings f B)) ops (map_state f s) ≡ option_map (map_state f) (steps_in W B ops s)
steps_renamed f W V h B ds rs e ops s = steps_same V (map_surroundings f B) ds rs e ops (map_state f s) ∙ steps_in-map f W V h B ops s
