-- What exceptions hold.
use Rattle.std.proofs.Common.{◌≡◌, ℕ, Bool, true, false, ◌==◌, List, [], ◌∷◌, length, refl, ◌∙◌, ap}
use Rattle.std.specs.Option.{option_map}
use Rattle.std.specs.Prelude.{Option, Some, None, slice_get}
use Rattle.wasm_spec.specs.Syntax.{Val, Sub, abstract_heap, exn_heap, reference}
use Rattle.wasm_spec_rules.specs.Contexts.{Context}
use Rattle.wasm_readers_types.specs.WasmReadersValues.declared.indices.UnpackedIndex.{UnpackedIndex}
use Rattle.wasm_typing_control.specs.WasmTypingChecks.WasmSpecSteps.Actions.{of_tag, params, is_exception}
use Rattle.wasm_spec_rules.specs.Attempts.{◌>>=◌, guard, passes}
use Rattle.wasm_spec_rules.specs.Signatures.{Signature, signature_of}
use Rattle.wasm_typing_control.specs.WasmTypingChecks.WasmSpecSteps.Meanings.{signature_at}
use Rattle.wasm_typing_control.specs.WasmTypingChecks.WasmSpecSteps.Shapes.{one, reference_to}
use Rattle.wasm_typing_control.specs.WasmTypingChecks.WasmValidatorResources.Answers.{world, sub_in, tag_in}
use Rattle.wasm_typing_control.specs.WasmTypingChecks.WasmTypingStacks.BodyStacks.{around}
use Rattle.wasm_typing_control.specs.WasmTypingChecks.WasmTypingStacks.declared.stacks.Stacks.{Stacks}
use Rattle.wasm_typing_control.specs.WasmTypingChecks.Steps.{typed, held}
use Rattle.wasm_typing_blocks.specs.ExceptionOperands.{thrown_in}

module _ (C : Context UnpackedIndex) (n : ℕ) where
  pub tag_missing : None ≡ tag_in C n → thrown_in C n ≡ None
  tag_missing e = rw (← e) refl

  pub tag_with_results : (g : Signature UnpackedIndex) → Some g ≡ tag_in C n → (length g.gives == 0) ≡ false → thrown_in C n ≡ None
  tag_with_results g e f = rw (← e, f) refl

  pub tag_of_exceptions : (g : Signature UnpackedIndex) → Some g ≡ tag_in C n → (length g.gives == 0) ≡ true → thrown_in C n ≡ Some g.takes
  tag_of_exceptions g e f = rw (← e, f) refl

pub ruleset tags = (tag_missing, tag_with_results, tag_of_exceptions)

signature_by : (o : Option (Sub UnpackedIndex)) → (option_map (λ d. d.comp) o >>= signature_of) ≡ (o >>= λ d. signature_of d.comp)
signature_by None = refl
signature_by (Some d) = refl

module _ {A : Type 0} (v : Stacks A) (C : Context UnpackedIndex) where
  tag_by : (o : Option ℕ) → (o >>= λ t. option_map (λ d. d.comp) (sub_in C t) >>= signature_of) ≡ (o >>= λ t. sub_in C t >>= λ d. signature_of d.comp)
  tag_by None = refl
  tag_by (Some t) = signature_by (sub_in C t)

  same_tag : (n : ℕ) → signature_at (world C) (around v C) (of_tag n) ≡ tag_in C n
  same_tag n = tag_by (slice_get C.tags n)

  taken_by : (b : Bool) (ts vs : List (Val UnpackedIndex)) → guard b ts ≡ Some vs → (b ≡ true) × (Some ts ≡ Some vs)
  taken_by true ts vs e = (refl, e)
  taken_by false ts vs e = cc

  untaken_by : (b : Bool) (ts : List (Val UnpackedIndex)) → guard b ts ≡ None → b ≡ false
  untaken_by true ts e = cc
  untaken_by false ts e = refl

  held_by : (o : Option (Signature UnpackedIndex)) (vs : List (Val UnpackedIndex)) → (o >>= λ g. guard (length g.gives == 0) g.takes) ≡ Some vs → (passes (λ g. length g.gives == 0) o ≡ true) × (option_map (λ g. g.takes) o ≡ Some vs)
  held_by None vs e = cc
  held_by (Some g) vs e = taken_by (length g.gives == 0) g.takes vs e

  unheld_by : (o : Option (Signature UnpackedIndex)) → (o >>= λ g. guard (length g.gives == 0) g.takes) ≡ None → passes (λ g. length g.gives == 0) o ≡ false
  unheld_by None e = refl
  unheld_by (Some g) e = untaken_by (length g.gives == 0) g.takes e

  pub thrown_held : (n : ℕ) (vs : List (Val UnpackedIndex)) → thrown_in C n ≡ Some vs → held v C (is_exception n) ≡ true
  unfolding held
  thrown_held n vs e = ap (passes (λ g. length g.gives == 0)) (same_tag n) ∙ (held_by (tag_in C n) vs e).0

  pub thrown_typed : (n : ℕ) (vs : List (Val UnpackedIndex)) → thrown_in C n ≡ Some vs → typed v C (params (of_tag n)) ≡ Some vs
  unfolding typed
  thrown_typed n vs e = ap (option_map (λ g. g.takes)) (same_tag n) ∙ (held_by (tag_in C n) vs e).1

  pub not_thrown : (n : ℕ) → thrown_in C n ≡ None → held v C (is_exception n) ≡ false
  unfolding held
  not_thrown n e = ap (passes (λ g. length g.gives == 0)) (same_tag n) ∙ unheld_by (tag_in C n) e

  pub exception_typed : (x : Val UnpackedIndex) → x ≡ reference (record { nullable = true; heap = abstract_heap false exn_heap }) → typed v C (one (reference_to true (abstract_heap false exn_heap))) ≡ Some (x ∷ [])
  unfolding typed
  exception_typed x e = rw e refl

pub ruleset throws = (thrown_held, thrown_typed, not_thrown, exception_typed)
