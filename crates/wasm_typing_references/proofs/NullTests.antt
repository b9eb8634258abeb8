-- References that are looked at, and what asks whether they are null.
use Rattle.std.proofs.Common.{◌≡◌, [], ◌∷◌, refl}
use Rattle.std.specs.Prelude.{Some, None}
use Rattle.wasm_typing_control.specs.WasmSpec.Syntax.{i32}
use Rattle.wasm_typing_control.specs.WasmTypingChecks.WasmSpecRules.Contexts.{Context}
use Rattle.wasm_typing_control.specs.WasmReadersTypes.WasmReadersValues.declared.indices.UnpackedIndex.{UnpackedIndex}
use Rattle.wasm_typing_control.specs.WasmTypingChecks.WasmSpecSteps.Actions.{these, take_reference, make_non_null, give}
use Rattle.wasm_typing_control.specs.WasmTypingChecks.WasmSpecSteps.Machine.{Operand, State, known, as_reference, non_null, pop_any, pop_reference, push_operand}
use Rattle.wasm_typing_control.specs.WasmTypingChecks.WasmTypingStacks.BodyStacks.{state_of}
use Rattle.wasm_typing_control.specs.WasmTypingChecks.WasmTypingStacks.declared.stacks.Stacks.{Stacks}
use Rattle.wasm_typing_control.specs.WasmTypingChecks.Steps.{acted}
use Rattle.wasm_typing_references.specs.SeenReferences.{reference_seen}
use Rattle.wasm_typing_references.specs.declared.referenced.Referenced.{Referenced}

pub nothing_there : (s : State UnpackedIndex) → pop_any s ≡ None → pop_reference s ≡ None
nothing_there s e = rw e refl

pub no_reference : (x y : Operand UnpackedIndex) (s t : State UnpackedIndex) → pop_any s ≡ Some (x, t) → y ≡ x → None ≡ as_reference y → pop_reference s ≡ None
no_reference x y s t e f g = rw (e, ← f, ← g) refl

pub is_reference : (x y : Operand UnpackedIndex) (s t : State UnpackedIndex) (r : Referenced) → pop_any s ≡ Some (x, t) → y ≡ x → Some (reference_seen r) ≡ as_reference y → pop_reference s ≡ Some (reference_seen r, t)
is_reference x y s t r e f g = rw (e, ← f, ← g) refl

pub ruleset looks = (nothing_there, no_reference, is_reference)

module _ {A : Type 0} (v : Stacks A) (C : Context UnpackedIndex) where
  pub not_tested : pop_reference (state_of v) ≡ None → acted v C (take_reference ∷ give (these (i32 ∷ [])) ∷ []) ≡ None
  unfolding acted
  not_tested e = rw e refl

  pub is_tested : (x : Operand UnpackedIndex) (t new : State UnpackedIndex) → pop_reference (state_of v) ≡ Some (x, t) → new ≡ push_operand (known i32) t → acted v C (take_reference ∷ give (these (i32 ∷ [])) ∷ []) ≡ Some new
  unfolding acted
  is_tested x t new e f = rw (e, f) refl

  pub not_asserted : pop_reference (state_of v) ≡ None → acted v C (make_non_null ∷ []) ≡ None
  unfolding acted
  not_asserted e = rw e refl

  pub is_asserted : (x y : Operand UnpackedIndex) (t new : State UnpackedIndex) → pop_reference (state_of v) ≡ Some (x, t) → y ≡ non_null x → new ≡ push_operand y t → acted v C (make_non_null ∷ []) ≡ Some new
  unfolding acted
  is_asserted x y t new e f g = rw (e, g, f) refl

pub ruleset nulls = (not_tested, is_tested, not_asserted, is_asserted)
