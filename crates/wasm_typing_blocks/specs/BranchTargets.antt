-- Targets of a branch table.
use Rattle.std.specs.Prelude.{◌≡◌, ℕ, Bool, true, ◌&&◌, ◌==◌, List, length, Option, Some, is_some}
use Rattle.wasm_spec_rules.specs.Contexts.{Context}
use Rattle.wasm_readers_types.specs.WasmReadersValues.declared.indices.UnpackedIndex.{UnpackedIndex}
use Rattle.wasm_spec_rules.specs.Attempts.{passes}
use Rattle.wasm_typing_control.specs.WasmTypingChecks.WasmSpecSteps.Machine.{pop_vals}
use Rattle.wasm_typing_control.specs.WasmTypingChecks.WasmSpecSteps.Meanings.{label_at, labels_fit}
use Rattle.wasm_typing_control.specs.WasmTypingChecks.WasmValidatorResources.Answers.{world}
use Rattle.wasm_typing_control.specs.WasmTypingChecks.WasmTypingStacks.BodyStacks.{state_of, around, below}
use Rattle.wasm_typing_control.specs.WasmTypingChecks.WasmTypingStacks.declared.stacks.Stacks.{Stacks}

-- below so many operands that are taken already, targets that take so many
module _ {A : Type 0} (v : Stacks A) (C : Context UnpackedIndex) (first count : ℕ) where
  unfoldable pub fits : ℕ → Bool
  fits n = passes (λ vs. (length vs == count) && is_some (pop_vals (world C) vs (below first (state_of v)))) (label_at (world C) (around v C) (below first (state_of v)) n)

  unfoldable pub all_fit : List ℕ → Bool
  all_fit ns = labels_fit (world C) (around v C) (below first (state_of v)) count ns

-- the label that was checked last, if there is one, passes the test
abbrev pub LastPasses : (ℕ → Bool) → Option ℕ → Type 0
LastPasses test last = (n : ℕ) → last ≡ Some n → test n ≡ true
