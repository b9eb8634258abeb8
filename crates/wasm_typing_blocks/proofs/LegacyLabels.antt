-- The operators of legacy exceptions: labels that they find, and the features that they need.
use Rattle.std.proofs.Common.{◌≡◌, refl, ◌∙◌, ap, arith, ℕ, suc, ◌+◌, Bool, true, false, ◌&&◌, List, [], ◌∷◌, map}
use Rattle.std.specs.Option.{option_map}
use Rattle.std.specs.Prelude.{Some, None, slice_get, Result}
use Rattle.wasm_spec_rules.specs.FeatureFlags.{features_of}
use Rattle.wasm_spec_rules.specs.Attempts.{◌>>=◌, guard}
use Rattle.wasm_spec_rules.specs.Contexts.{Context}
use Rattle.wasm_readers_types.specs.WasmReadersValues.declared.indices.UnpackedIndex.{UnpackedIndex}
use Rattle.wasm_operators.specs.Legacy.{Legacy, try_, catch_, rethrow, delegate, catch_all}
use Rattle.wasm_typing_control.specs.WasmTypingChecks.WasmSpecSteps.Actions.{has, legacy_exceptions, exceptions, Action, need, take, stop, find_outside, find_caught}
use Rattle.wasm_typing_control.specs.WasmTypingChecks.WasmSpecSteps.Machine.{is_try, has_caught, State, delegates}
use Rattle.wasm_typing_control.specs.WasmTypingChecks.WasmSpecSteps.Shapes.{legacy_shape, nothing}
use Rattle.wasm_typing_control.specs.WasmTypingChecks.WasmSpecSteps.Meanings.{run}
use Rattle.wasm_typing_control.specs.WasmTypingChecks.WasmSpecSteps.Steps.{actions_of}
use Rattle.wasm_typing_control.specs.WasmTypingChecks.WasmValidatorResources.Answers.{world}
use Rattle.wasm_typing_control.specs.WasmTypingChecks.WasmTypingStacks.BodyStacks.{state_of, around}
use Rattle.wasm_typing_control.specs.WasmTypingChecks.WasmTypingStacks.SeenBlocks.{kind_of, frame_of, frames_seen}
use Rattle.wasm_typing_control.specs.WasmTypingChecks.WasmTypingStacks.declared.stacks.Frame.{Frame}
use Rattle.wasm_typing_control.specs.WasmTypingChecks.WasmTypingStacks.declared.stacks.Stacks.{Stacks}
use Rattle.wasm_typing_control.specs.WasmTypingChecks.Steps.{Took, acted}
use Rattle.wasm_typing_control.specs.WasmTypingChecks.declared.faults.OperatorError.{OperatorError}
use Rattle.wasm_typing_control.proofs.WasmTypingChecks.ActionSteps.{took_along}
use Rattle.wasm_typing_control.proofs.WasmTypingChecks.WasmSpecSteps.LegacyRuns.{none_taken}
use Rattle.wasm_typing_blocks.specs.Legacy.{are_on, enabled_shape}

-- a label outside of the innermost frame
pub outside_nowhere : (b : Bool) (x : Frame) (xs : List Frame) (n : ℕ) → b ≡ false → delegates (frames_seen b x xs) n ≡ false
outside_nowhere true x xs n e = cc
outside_nowhere false x xs n e = refl

pub outside_no_try : (b : Bool) (x : Frame) (xs : List Frame) (n : ℕ) → is_try (kind_of x.kind) ≡ false → delegates (frames_seen b x xs) n ≡ false
outside_no_try true x xs n e = rw e refl
outside_no_try false x xs n e = refl

pub outside_found : (b : Bool) (x y : Frame) (xs : List Frame) (n : ℕ) → b ≡ true → is_try (kind_of x.kind) ≡ true → option_map frame_of (Some y) ≡ slice_get (frames_seen b x xs) (n + 1) → delegates (frames_seen b x xs) n ≡ true
outside_found true x y xs n e f h =
    let q : n + 1 ≡ suc n = omega arith in
    let p : Some (frame_of y) ≡ slice_get (map frame_of xs) n = h ∙ ap (slice_get (frames_seen true x xs)) q in
    rw (f, ← p) refl
outside_found false x y xs n e f h = cc

pub outside_past : (b : Bool) (x : Frame) (xs : List Frame) (n : ℕ) → b ≡ true → is_try (kind_of x.kind) ≡ true → option_map frame_of None ≡ slice_get (frames_seen b x xs) (n + 1) → delegates (frames_seen b x xs) n ≡ false
outside_past true x xs n e f h =
    let q : n + 1 ≡ suc n = omega arith in
    let p : None ≡ slice_get (map frame_of xs) n = h ∙ ap (slice_get (frames_seen true x xs)) q in
    rw (f, ← p) refl
outside_past false x xs n e f h = cc

pub ruleset outside = (outside_nowhere, outside_no_try, outside_found, outside_past)

module _ {A : Type 0} (v : Stacks A) (C : Context UnpackedIndex) where
  pub found_outside : (r : Result (Unit {0}) OperatorError) (n : ℕ) (rest : List Action) (old new : State UnpackedIndex) → delegates (state_of v).frames n ≡ true → Took r (acted v C rest) old new → Took r (acted v C (find_outside n ∷ rest)) old new
  unfolding acted
  found_outside r n rest old new h t = took_along r _ _ old new (rw h refl) t

  pub not_outside : (n : ℕ) (rest : List Action) → delegates (state_of v).frames n ≡ false → acted v C (find_outside n ∷ rest) ≡ None
  unfolding acted
  not_outside n rest h = rw h refl

  -- the frame of a label that has caught an exception
  pub found_caught : (r : Result (Unit {0}) OperatorError) (y : Frame) (n : ℕ) (old new : State UnpackedIndex) → option_map frame_of (Some y) ≡ slice_get (state_of v).frames n → has_caught (kind_of y.kind) ≡ true
      → Took r (acted v C (take nothing ∷ stop ∷ [])) old new → Took r (acted v C (find_caught n ∷ stop ∷ [])) old new
  unfolding acted
  found_caught r y n old new e h t = took_along r _ _ old new (rw (← e, h) refl) t

  pub caught_nothing : (y : Frame) (n : ℕ) (rest : List Action) → option_map frame_of (Some y) ≡ slice_get (state_of v).frames n → has_caught (kind_of y.kind) ≡ false → acted v C (find_caught n ∷ rest) ≡ None
  unfolding acted
  caught_nothing y n rest e h = rw (← e, h) refl

  pub caught_past : (n : ℕ) (rest : List Action) → option_map frame_of None ≡ slice_get (state_of v).frames n → acted v C (find_caught n ∷ rest) ≡ None
  unfolding acted
  caught_past n rest e = rw (← e) refl

  -- both features
  gate : (a b : Bool) (rest : List Action) (s : State UnpackedIndex) → (a && b) ≡ true → (guard a s >>= λ t. guard b t >>= run (world C) (around v C) rest) ≡ run (world C) (around v C) rest s
  gate true true rest s e = refl
  gate true false rest s e = cc
  gate false b rest s e = cc

  passed : (rest : List Action) → are_on (features_of v.features) ≡ true → acted v C (need (has legacy_exceptions) ∷ need (has exceptions) ∷ rest) ≡ acted v C rest
  unfolding acted
  passed rest e = gate (features_of v.features).legacy_exceptions (features_of v.features).exceptions rest (state_of v) e

  behind : (op : Legacy ℕ) → are_on (features_of v.features) ≡ true → acted v C (actions_of (legacy_shape op)) ≡ acted v C (actions_of (enabled_shape op))
  behind (try_ b) e = passed (actions_of (enabled_shape (try_ b))) e
  behind (catch_ x) e = passed (actions_of (enabled_shape (catch_ x))) e
  behind (rethrow l) e = passed (actions_of (enabled_shape (rethrow l))) e
  behind (delegate l) e = passed (actions_of (enabled_shape (delegate l))) e
  behind catch_all e = passed (actions_of (enabled_shape catch_all)) e

  pub features_on : (r : Result (Unit {0}) OperatorError) (op : Legacy ℕ) (old new : State UnpackedIndex) → are_on (features_of v.features) ≡ true → Took r (acted v C (actions_of (enabled_shape op))) old new → Took r (acted v C (actions_of (legacy_shape op))) old new
  features_on r op old new e t = took_along r _ _ old new (behind op e) t

  pub features_off : (op : Legacy ℕ) → are_on (features_of v.features) ≡ false → acted v C (actions_of (legacy_shape op)) ≡ None
  unfolding acted
  features_off op e = none_taken (world C) (around v C) e op (state_of v)

pub ruleset finds = (found_outside, not_outside, found_caught, caught_nothing, caught_past)

pub ruleset gated = (features_on, features_off)
