-- Branches, calls and what stops code, where operands are looked at and then taken.
use Rattle.std.proofs.Common.{◌≡◌, ℕ, List, [], ◌∷◌, ◌++◌, refl, sym, ◌∙◌}
use Rattle.std.specs.Prelude.{Some, Ok}
use Rattle.wasm_spec.specs.Syntax.{Val}
use Rattle.wasm_typing_control.specs.WasmTypingChecks.WasmSpecRules.Contexts.{Context}
use Rattle.wasm_readers_types.specs.WasmReadersValues.declared.indices.UnpackedIndex.{UnpackedIndex}
use Rattle.wasm_operators.specs.Control.{nop, unreachable}
use Rattle.wasm_typing_control.specs.WasmTypingChecks.WasmSpecSteps.Actions.{OperandTypes, take, give, stop}
use Rattle.wasm_typing_control.specs.WasmTypingChecks.WasmSpecSteps.Machine.{State, become_unreachable, pop_val, pop_vals, push_vals}
use Rattle.wasm_typing_control.specs.WasmTypingChecks.WasmSpecSteps.Shapes.{control_shape}
use Rattle.wasm_typing_control.specs.WasmTypingChecks.WasmSpecSteps.Steps.{actions_of}
use Rattle.wasm_typing_control.specs.WasmTypingChecks.WasmValidatorResources.Answers.{world}
use Rattle.wasm_typing_control.specs.WasmTypingChecks.WasmTypingStacks.BodyStacks.{state_of, below}
use Rattle.wasm_typing_control.specs.WasmTypingChecks.WasmTypingStacks.declared.stacks.Stacks.{Stacks}
use Rattle.wasm_typing_control.specs.WasmTypingChecks.Steps.{Took, acted, typed}
use Rattle.wasm_typing_control.proofs.WasmTypingChecks.ActionSteps as acting
use Rattle.wasm_typing_control.proofs.WasmTypingChecks.OperandExchanges.{are_exchanged, all_exchanged, is_halted}

module _ {A : Type 0} (v : Stacks A) (C : Context UnpackedIndex) where
  pub nothing_done : acted v C (actions_of (control_shape nop)) ≡ Some (state_of v)
  unfolding acted
  nothing_done = refl

  pub trapped : (new : State UnpackedIndex) → become_unreachable (state_of v) ≡ Some new → acted v C (actions_of (control_shape unreachable)) ≡ Some new
  unfolding acted
  trapped new e = rw e refl

  -- so many operands taken, and the rest unreached
  pub halted_by : (t : OperandTypes) (vs : List (Val UnpackedIndex)) (k : ℕ) (mid new : State UnpackedIndex) → typed v C t ≡ Some vs → pop_vals (world C) vs (state_of v) ≡ Some (below k (state_of v)) → mid ≡ below k (state_of v) → become_unreachable mid ≡ Some new
      → acted v C (take t ∷ stop ∷ []) ≡ Some new
  unfolding Took
  halted_by t vs k mid new e p m n = acting.halting v C (Ok tt) t vs (state_of v) new (is_halted (world C) vs (state_of v) (below k (state_of v)) mid new p m n) e

  -- and others given in their place
  pub exchanged_by : (t u : OperandTypes) (vs ws : List (Val UnpackedIndex)) (k : ℕ) (new : State UnpackedIndex) → typed v C t ≡ Some vs → typed v C u ≡ Some ws → pop_vals (world C) vs (state_of v) ≡ Some (below k (state_of v)) → new ≡ push_vals ws (below k (state_of v))
      → acted v C (take t ∷ give u ∷ []) ≡ Some new
  unfolding Took
  exchanged_by t u vs ws k new e f p n = acting.plainly v C (Ok tt) t u vs ws (state_of v) new (are_exchanged (world C) vs ws (state_of v) (below k (state_of v)) new p n) e f

  pub exchanged_below : (t u : OperandTypes) (vs ws : List (Val UnpackedIndex)) (top : Val UnpackedIndex) (k : ℕ) (new : State UnpackedIndex) → typed v C t ≡ Some (vs ++ top ∷ []) → typed v C u ≡ Some ws → pop_val (world C) top (state_of v) ≡ Some (below 1 (state_of v))
      → pop_vals (world C) vs (below 1 (state_of v)) ≡ Some (below k (state_of v)) → new ≡ push_vals ws (below k (state_of v)) → acted v C (take t ∷ give u ∷ []) ≡ Some new
  unfolding Took
  exchanged_below t u vs ws top k new e f p q n =
      acting.plainly v C (Ok tt) t u (vs ++ top ∷ []) ws (state_of v) new (all_exchanged (world C) vs ws top (state_of v) (below 1 (state_of v)) (below k (state_of v)) new p q n) e f

  -- the same operands, left where they stand
  pub kept_below : (t u : OperandTypes) (vs : List (Val UnpackedIndex)) (top : Val UnpackedIndex) (k : ℕ) (new : State UnpackedIndex) → typed v C t ≡ Some (vs ++ top ∷ []) → typed v C u ≡ Some vs → pop_val (world C) top (state_of v) ≡ Some (below 1 (state_of v))
      → pop_vals (world C) vs (below 1 (state_of v)) ≡ Some (below k (state_of v)) → push_vals vs (below k (state_of v)) ≡ below 1 (state_of v) → new ≡ below 1 (state_of v) → acted v C (take t ∷ give u ∷ []) ≡ Some new
  kept_below t u vs top k new e f p q there n = exchanged_below t u vs vs top k new e f p q (n ∙ sym there)

pub ruleset branches = (nothing_done, trapped)
