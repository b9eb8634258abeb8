-- Catch clauses.
use Rattle.std.proofs.Common.{◌≡◌, ℕ, Bool, true, false, ◌&&◌, List, [], ◌∷◌, ◌++◌, refl, sym, ◌∙◌, ap}
use Rattle.std.specs.Prelude.{Some, None}
use Rattle.std.proofs.Math.Bool.{and-true}
use Rattle.wasm_spec.specs.Syntax.{Val}
use Rattle.wasm_spec_rules.specs.Contexts.{Context}
use Rattle.wasm_readers_types.specs.WasmReadersValues.declared.indices.UnpackedIndex.{UnpackedIndex}
use Rattle.wasm_operators.specs.SeenLists.{GivesFront}
use Rattle.wasm_operators.specs.declared.control.Catch.{Catch}
use Rattle.wasm_operators.specs.declared.control.Catch.TheVariants as catch
use Rattle.wasm_typing_control.specs.WasmTypingChecks.WasmSpecSteps.Actions.{OperandTypes, of_tag, params, label, joined, is_exception, each_matches}
use Rattle.wasm_spec_rules.specs.Attempts.{passes}
use Rattle.wasm_typing_control.specs.WasmTypingChecks.WasmSpecSteps.Matching.{matches_vals}
use Rattle.wasm_typing_control.specs.WasmTypingChecks.WasmSpecSteps.Meanings.{types_at, holds}
use Rattle.wasm_typing_control.specs.WasmTypingChecks.WasmSpecSteps.Shapes.{nothing, exception, catch_checks}
use Rattle.wasm_typing_control.specs.WasmTypingChecks.WasmValidatorResources.Answers.{world}
use Rattle.wasm_typing_control.specs.WasmTypingChecks.WasmTypingStacks.BodyStacks.{state_of, around}
use Rattle.wasm_typing_control.specs.WasmTypingChecks.WasmTypingStacks.declared.stacks.Stacks.{Stacks}
use Rattle.wasm_typing_control.specs.WasmTypingChecks.Steps.{typed, held}
use Rattle.wasm_typing_blocks.specs.KnownBlockTypes.{hold_all, all_held}
use Rattle.wasm_typing_blocks.specs.ExceptionOperands.{thrown_in, exception_val, sends}
use Rattle.wasm_typing_blocks.proofs.ExceptionTypes.{thrown_held, thrown_typed, not_thrown}
use Rattle.wasm_typing_blocks.proofs.ListItems.{front_given, none_left, fewer}

module _ {A : Type 0} (v : Stacks A) (C : Context UnpackedIndex) where
  matches_sent : (t : OperandTypes) (vs : List (Val UnpackedIndex)) (n : ℕ) → typed v C t ≡ Some vs → (held v C (each_matches t (label n)) && true) ≡ sends v C vs n
  unfolding held typed sends
  matches_sent t vs n e = and-true _ ∙ ap (passes (λ us. passes (matches_vals (world C) us) (types_at (world C) (around v C) (state_of v) (label n)))) e

  with_exception : (t : OperandTypes) (vs : List (Val UnpackedIndex)) → typed v C t ≡ Some vs → typed v C (joined t exception) ≡ Some (vs ++ exception_val ∷ [])
  unfolding typed
  with_exception t vs e = rw e refl

  -- one clause
  pub one_caught : (x n : ℕ) (vs : List (Val UnpackedIndex)) (b : Bool) → thrown_in C x ≡ Some vs → b ≡ sends v C vs n → b ≡ all_held v C (catch_checks (catch.One x n ∷ []))
  unfolding all_held held
  one_caught x n vs b e f = f ∙ sym (rw (thrown_held v C x vs e) (matches_sent (params (of_tag x)) vs n (thrown_typed v C x vs e)))

  pub one_uncaught : (x n : ℕ) → thrown_in C x ≡ None → false ≡ all_held v C (catch_checks (catch.One x n ∷ []))
  unfolding all_held held
  one_uncaught x n e = rw (not_thrown v C x e) refl

  pub ref_caught : (x n : ℕ) (vs : List (Val UnpackedIndex)) (b : Bool) → thrown_in C x ≡ Some vs → b ≡ sends v C (vs ++ exception_val ∷ []) n → b ≡ all_held v C (catch_checks (catch.OneRef x n ∷ []))
  unfolding all_held held
  ref_caught x n vs b e f =
      f ∙ sym (rw (thrown_held v C x vs e) (matches_sent (joined (params (of_tag x)) exception) (vs ++ exception_val ∷ []) n (with_exception (params (of_tag x)) vs (thrown_typed v C x vs e))))

  pub ref_uncaught : (x n : ℕ) → thrown_in C x ≡ None → false ≡ all_held v C (catch_checks (catch.OneRef x n ∷ []))
  unfolding all_held held
  ref_uncaught x n e = rw (not_thrown v C x e) refl

  pub all_caught : (n : ℕ) (b : Bool) → b ≡ sends v C [] n → b ≡ all_held v C (catch_checks (catch.All n ∷ []))
  unfolding all_held held typed
  all_caught n b f = f ∙ sym (matches_sent nothing [] n refl)

  pub all_ref_caught : (n : ℕ) (b : Bool) → b ≡ sends v C (exception_val ∷ []) n → b ≡ all_held v C (catch_checks (catch.AllRef n ∷ []))
  unfolding all_held held typed
  all_ref_caught n b f = f ∙ sym (matches_sent exception (exception_val ∷ []) n refl)

pub ruleset clauses = (one_caught, one_uncaught, ref_caught, ref_uncaught, all_caught, all_ref_caught)

two_apart : (a b c : Bool) → (a && (b && c)) ≡ ((a && (b && true)) && c)
two_apart true true c = refl
two_apart true false c = refl
two_apart false b c = refl

module _ {A : Type 0} (v : Stacks A) (C : Context UnpackedIndex) where
  apart : (c : Catch) (cs : List Catch) → all_held v C (catch_checks (c ∷ cs)) ≡ (all_held v C (catch_checks (c ∷ [])) && all_held v C (catch_checks cs))
  unfolding all_held
  apart (catch.One x n) cs = two_apart (holds (world C) (around v C) (state_of v) (is_exception x)) (holds (world C) (around v C) (state_of v) (each_matches (params (of_tag x)) (label n))) (hold_all (world C) (around v C) (state_of v) (catch_checks cs))
  apart (catch.OneRef x n) cs =
      two_apart (holds (world C) (around v C) (state_of v) (is_exception x)) (holds (world C) (around v C) (state_of v) (each_matches (joined (params (of_tag x)) exception) (label n))) (hold_all (world C) (around v C) (state_of v) (catch_checks cs))
  apart (catch.All n) cs = ap (λ b. b && hold_all (world C) (around v C) (state_of v) (catch_checks cs)) (sym (and-true _))
  apart (catch.AllRef n) cs = ap (λ b. b && hold_all (world C) (around v C) (state_of v) (catch_checks cs)) (sym (and-true _))

  pub passed_on : (all xs after : List Catch) (x : Catch) → all_held v C (catch_checks all) ≡ all_held v C (catch_checks xs) → GivesFront xs (Some x) after → true ≡ all_held v C (catch_checks (x ∷ [])) → all_held v C (catch_checks all) ≡ all_held v C (catch_checks after)
  passed_on all xs after x e h t = e ∙ ap (λ cs. all_held v C (catch_checks cs)) (front_given xs after x h) ∙ apart x after ∙ ap (λ b. b && all_held v C (catch_checks after)) (sym t)

  pub stopped_at : (all xs after : List Catch) (x : Catch) → all_held v C (catch_checks all) ≡ all_held v C (catch_checks xs) → GivesFront xs (Some x) after → false ≡ all_held v C (catch_checks (x ∷ [])) → false ≡ all_held v C (catch_checks all)
  stopped_at all xs after x e h t = sym (e ∙ ap (λ cs. all_held v C (catch_checks cs)) (front_given xs after x h) ∙ apart x after ∙ ap (λ b. b && all_held v C (catch_checks after)) (sym t))

  pub all_passed : (all xs after : List Catch) → all_held v C (catch_checks all) ≡ all_held v C (catch_checks xs) → GivesFront xs None after → true ≡ all_held v C (catch_checks all)
  unfolding all_held
  all_passed all xs after e h = sym (e ∙ ap (λ cs. hold_all (world C) (around v C) (state_of v) (catch_checks cs)) (none_left xs after h))

pub ruleset lists = (fewer, passed_on, stopped_at, all_passed)
