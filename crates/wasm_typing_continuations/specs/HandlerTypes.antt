-- Whether handlers suit a continuation that gives some results: what `handle_checks` checks of them, over types that were found.
use Rattle.std.specs.Prelude.{ℕ, Bool, true, ◌&&◌, ◌==◌, List, [], ◌∷◌, length, Option}
use Rattle.wasm_typing_control.specs.WasmSpec.Syntax.{Val}
use Rattle.wasm_typing_control.specs.WasmSpecRules.Contexts.{Context}
use Rattle.wasm_typing_control.specs.WasmSpecRules.Attempts.{◌>>=◌, guard, passes, front_of}
use Rattle.wasm_typing_control.specs.WasmSpecRules.Signatures.{Signature}
use Rattle.wasm_typing_control.specs.WasmReadersTypes.WasmReadersValues.declared.indices.UnpackedIndex.{UnpackedIndex}
use Rattle.wasm_typing_control.specs.WasmOperators.WasmOperatorsProposals.declared.continuations.Handle.{Handle}
use Rattle.wasm_typing_control.specs.WasmOperators.WasmOperatorsProposals.declared.continuations.Handle.TheVariants.{OnLabel, OnSwitch}
use Rattle.wasm_typing_control.specs.WasmTypingChecks.WasmSpecSteps.Matching.{matches_vals}
use Rattle.wasm_typing_control.specs.WasmTypingChecks.WasmSpecSteps.Actions.{label}
use Rattle.wasm_typing_control.specs.WasmTypingChecks.WasmValidatorResources.Answers.{world, tag_in}
use Rattle.wasm_typing_control.specs.WasmTypingChecks.WasmTypingStacks.declared.stacks.Stacks.{Stacks}
use Rattle.wasm_typing_control.specs.WasmTypingChecks.Steps.{typed}
use Rattle.wasm_typing_continuations.specs.ContinuationLookups.{last_continued, continued_at}

module _ {A : Type 0} (v : Stacks A) (C : Context UnpackedIndex) (results : List (Val UnpackedIndex)) where
  abbrev pub suits_label : Signature UnpackedIndex → List (Val UnpackedIndex) → Bool
  suits_label tag ls =
      passes (λ g. matches_vals (world C) g.takes tag.gives && matches_vals (world C) results g.gives) (last_continued C ls)
      && matches_vals (world C) tag.takes (front_of ls)

  abbrev pub is_handled : Handle → Bool
  is_handled (OnLabel x l) = passes (λ tag. passes (suits_label tag) (typed v C (label l))) (tag_in C x)
  is_handled (OnSwitch x) = passes (λ tag. (length tag.takes == 0) && matches_vals (world C) tag.gives results) (tag_in C x)

  -- whether a continuation that gives these results may be resumed with these handlers
  unfoldable pub all_handled : List Handle → Bool
  all_handled [] = true
  all_handled (h ∷ hs) = is_handled h && all_handled hs

-- a continuation type that a body may name, where each of these handlers suits it
unfoldable pub resumed_at : {A : Type 0} → Stacks A → Context UnpackedIndex → ℕ → List Handle → Option (UnpackedIndex × Signature UnpackedIndex)
resumed_at v C n hs = continued_at C v.is_shared n >>= λ p. guard (all_handled v C p.1.gives hs) p
