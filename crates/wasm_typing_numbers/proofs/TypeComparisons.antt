-- Checks that compare types.
use Rattle.std.proofs.Common.{◌≡◌, Bool, false, List, [], ◌∷◌, refl, ◌∙◌}
use Rattle.std.specs.Prelude.{Option, Some, None}
use Rattle.std.proofs.Math.Bool.{and-true}
use Rattle.wasm_readers_errors.specs.WasmSpec.Syntax.{Val}
use Rattle.wasm_readers_errors.specs.WasmSpec.MatchingTests.{matches_val}
use Rattle.wasm_typing_checks.specs.WasmSpecRules.Contexts.{Context}
use Rattle.wasm_readers_types.specs.WasmReadersValues.declared.indices.UnpackedIndex.{UnpackedIndex}
use Rattle.wasm_typing_checks.specs.WasmSpecSteps.Actions.{OperandTypes, each_matches}
use Rattle.wasm_typing_checks.specs.WasmSpecRules.Attempts.{passes}
use Rattle.wasm_typing_checks.specs.WasmSpecSteps.Matching.{matches_vals}
use Rattle.wasm_typing_checks.specs.WasmValidatorResources.Answers.{world}
use Rattle.wasm_typing_checks.specs.WasmTypingStacks.declared.stacks.Stacks.{Stacks}
use Rattle.wasm_typing_checks.specs.Steps.{typed, held}

none_pass : {X : Type 0} (o : Option X) → passes (λ x. false) o ≡ false
none_pass None = refl
none_pass (Some x) = refl

module _ {A : Type 0} (v : Stacks A) (C : Context UnpackedIndex) where
  -- lists, by what they are
  pub match_held : (t u : OperandTypes) (vs : List (Val UnpackedIndex)) (b : Bool) → typed v C t ≡ Some vs → passes (matches_vals (world C) vs) (typed v C u) ≡ b → held v C (each_matches t u) ≡ b
  unfolding typed held
  match_held t u vs b e f = rw e f

  -- one type each
  pub one_held : (t u : OperandTypes) (x y : Val UnpackedIndex) (b : Bool) → typed v C t ≡ Some (x ∷ []) → typed v C u ≡ Some (y ∷ []) → matches_val (world C) x y ≡ b → held v C (each_matches t u) ≡ b
  unfolding typed held
  one_held t u x y b e f h = rw (e, f) (and-true (matches_val (world C) x y) ∙ h)

  -- types that aren't there
  pub first_unmatched : (t u : OperandTypes) → typed v C t ≡ None → held v C (each_matches t u) ≡ false
  unfolding typed held
  first_unmatched t u e = rw e refl
