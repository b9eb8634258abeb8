-- Conversions of references, and unboxed integers.
use Rattle.std.proofs.Common.{◌≡◌, Bool, false, [], ◌∷◌, refl}
use Rattle.std.specs.Prelude.{Some, None}
use Rattle.wasm_typing_references.specs.WasmSpec.Matching.{is_shared_heap}
use Rattle.wasm_typing_references.specs.WasmSpec.Syntax.{AbstractHeap, i31_heap, abstract_heap, Ref, Val, reference, i32}
use Rattle.wasm_typing_references.specs.WasmSpecRules.Contexts.{Context}
use Rattle.wasm_typing_references.specs.WasmReadersTypes.WasmReadersValues.declared.indices.UnpackedIndex.{UnpackedIndex}
use Rattle.wasm_typing_references.specs.WasmTypingChecks.WasmSpecSteps.Actions.{these, take_below, give, convert}
use Rattle.wasm_typing_references.specs.WasmSpecRules.Attempts.{guard}
use Rattle.wasm_typing_references.specs.WasmTypingChecks.WasmSpecSteps.Bodies.{Surroundings}
use Rattle.wasm_typing_references.specs.WasmTypingChecks.WasmSpecSteps.Machine.{Operand, State, known, push_operand}
use Rattle.wasm_typing_references.specs.WasmTypingChecks.WasmSpecSteps.Meanings.{converted, is_below_either}
use Rattle.wasm_typing_references.specs.WasmTypingChecks.WasmSpecSteps.Shapes.{small_integer}
use Rattle.wasm_typing_references.specs.WasmTypingChecks.WasmValidatorResources.Answers.{world}
use Rattle.wasm_typing_references.specs.WasmTypingChecks.WasmTypingStacks.BodyStacks.{state_of, around}
use Rattle.wasm_typing_references.specs.WasmTypingChecks.WasmTypingStacks.declared.stacks.Stacks.{Stacks}
use Rattle.wasm_typing_references.specs.WasmTypingChecks.Steps.{acted, typed}
use Rattle.wasm_typing_references.specs.SeenReferences.{pop_below}
use Rattle.wasm_typing_references.proofs.ReferenceComparisons.{found_below, missing_below}

pub known_converted : (C : Context UnpackedIndex) (k : AbstractHeap) (r q : Ref UnpackedIndex) (s n : Bool) (w : Operand UnpackedIndex) (x : Val UnpackedIndex) → s ≡ is_shared_heap (world C).declared r.heap → n ≡ r.nullable → q ≡ record { nullable = n; heap = abstract_heap s k }
    → x ≡ reference q → w ≡ known x → (B : Surroundings UnpackedIndex) → w ≡ converted (world C) B k (known (reference r))
known_converted C k r q s n w x e f g h i B = rw (i, h, g, f, e) refl

pub ruleset words = (known_converted)

module _ {A : Type 0} (v : Stacks A) (C : Context UnpackedIndex) where
  pub not_converted : (j k : AbstractHeap) → pop_below (world C) (around v C) j (state_of v) ≡ None → acted v C (convert j k ∷ []) ≡ None
  unfolding acted
  not_converted j k e =
      let h = missing_below (world C) (around v C) j (state_of v) (λ p. guard (is_below_either (world C) (around v C) j p.0) (push_operand (converted (world C) (around v C) k p.0) p.1)) (λ p f. rw f refl) e in
      rw h refl

  pub is_converted : (j k : AbstractHeap) (x y : Operand UnpackedIndex) (t new : State UnpackedIndex) → pop_below (world C) (around v C) j (state_of v) ≡ Some (x, t) → ((B : Surroundings UnpackedIndex) → y ≡ converted (world C) B k x) → new ≡ push_operand y t
      → acted v C (convert j k ∷ []) ≡ Some new
  unfolding acted
  is_converted j k x y t new e f g =
      let h = found_below (world C) (around v C) j (state_of v) x t e in
      rw (h.0, h.1, g, f (around v C)) refl

  pub not_measured : (j : AbstractHeap) → pop_below (world C) (around v C) j (state_of v) ≡ None → acted v C (take_below j ∷ give (these (i32 ∷ [])) ∷ []) ≡ None
  unfolding acted
  not_measured j e =
      let h = missing_below (world C) (around v C) j (state_of v) (λ p. guard (is_below_either (world C) (around v C) j p.0) p.1) (λ p f. rw f refl) e in
      rw h refl

  pub is_measured : (j : AbstractHeap) (x : Operand UnpackedIndex) (t new : State UnpackedIndex) → pop_below (world C) (around v C) j (state_of v) ≡ Some (x, t) → new ≡ push_operand (known i32) t → acted v C (take_below j ∷ give (these (i32 ∷ [])) ∷ []) ≡ Some new
  unfolding acted
  is_measured j x t new e g =
      let h = found_below (world C) (around v C) j (state_of v) x t e in
      rw (h.0, h.1, g) refl

  pub boxed_typed : (s : Bool) (r : Ref UnpackedIndex) (x : Val UnpackedIndex) → r ≡ record { nullable = false; heap = abstract_heap s i31_heap } → x ≡ reference r → typed v C (these (small_integer s ∷ [])) ≡ Some (x ∷ [])
  unfolding typed
  boxed_typed s r x e f = rw (f, e) refl

pub ruleset converts = (not_converted, is_converted)

pub ruleset measures = (not_measured, is_measured)
