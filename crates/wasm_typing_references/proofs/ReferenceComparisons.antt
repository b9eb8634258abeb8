-- References below an abstract heap type, and two that are compared.
use Rattle.std.proofs.Common.{◌≡◌, Bool, true, false, ◌&&◌, [], ◌∷◌, refl, sym, ◌∙◌, ap}
use Rattle.std.specs.Prelude.{Some, None, Option}
use Rattle.wasm_typing_control.specs.WasmSpec.Syntax.{AbstractHeap, eq_heap, abstract_heap, Ref, reference, i32}
use Rattle.wasm_typing_control.specs.WasmSpec.Matching.{is_shared_heap}
use Rattle.wasm_typing_control.specs.WasmSpec.MatchingTests.{World, matches_heap, matches_val}
use Rattle.wasm_typing_control.specs.WasmTypingChecks.WasmSpecRules.Contexts.{Context}
use Rattle.wasm_typing_control.specs.WasmReadersTypes.WasmReadersValues.declared.indices.UnpackedIndex.{UnpackedIndex}
use Rattle.wasm_typing_control.specs.WasmTypingChecks.WasmSpecSteps.Actions.{these, take_comparable, give}
use Rattle.wasm_typing_control.specs.WasmTypingChecks.WasmSpecRules.Attempts.{◌>>=◌, guard}
use Rattle.wasm_typing_control.specs.WasmTypingChecks.WasmSpecSteps.Bodies.{Surroundings}
use Rattle.wasm_typing_control.specs.WasmTypingChecks.WasmSpecSteps.Machine.{Operand, State, known, open_reference, pop_reference, push_operand}
use Rattle.wasm_typing_control.specs.WasmTypingChecks.WasmSpecSteps.Meanings.{is_below_either, agree}
use Rattle.wasm_typing_control.specs.WasmTypingChecks.WasmValidatorResources.Answers.{world}
use Rattle.wasm_typing_control.specs.WasmTypingChecks.WasmTypingStacks.BodyStacks.{state_of, around}
use Rattle.wasm_typing_control.specs.WasmTypingChecks.WasmTypingStacks.declared.stacks.Stacks.{Stacks}
use Rattle.wasm_typing_control.specs.WasmTypingChecks.Steps.{acted}
use Rattle.wasm_typing_references.specs.SeenReferences.{pop_below}

pub heap_tested : (C : Context UnpackedIndex) (r q t : Ref UnpackedIndex) (s : Bool) (k : AbstractHeap) (b : Bool) → q ≡ record r { nullable = false } → t ≡ record { nullable = false; heap = abstract_heap s k } → b ≡ matches_val (world C) (reference q) (reference t)
    → b ≡ matches_heap (world C) r.heap (abstract_heap s k)
heap_tested C r q t s k b e f h = rw (e, f) at h

pub ruleset heaps = (heap_tested)

pub known_below : (C : Context UnpackedIndex) (r : Ref UnpackedIndex) (s : Bool) (k : AbstractHeap) (b : Bool) → s ≡ is_shared_heap (world C).declared r.heap → b ≡ matches_heap (world C) r.heap (abstract_heap s k)
    → (B : Surroundings UnpackedIndex) → b ≡ is_below_either (world C) B k (known (reference r))
known_below C r s k b e h B = rw e at h

pub open_below : (C : Context UnpackedIndex) (r : Ref UnpackedIndex) (j k : AbstractHeap) (b : Bool) → r ≡ record { nullable = false; heap = abstract_heap false j } → b ≡ matches_heap (world C) r.heap (abstract_heap false k)
    → (B : Surroundings UnpackedIndex) → b ≡ is_below_either (world C) B k (open_reference j)
open_below C r j k b e h B = rw e at h

pub ruleset bounds = (known_below, open_below)

module _ (W : World UnpackedIndex) (B : Surroundings UnpackedIndex) (k : AbstractHeap) where
  pub not_looked : (s : State UnpackedIndex) → pop_reference s ≡ None → pop_below W B k s ≡ None
  unfolding pop_below
  not_looked s e = rw e refl

  pub is_looked : (s t : State UnpackedIndex) (x : Operand UnpackedIndex) (b : Bool) → pop_reference s ≡ Some (x, t) → ((B : Surroundings UnpackedIndex) → b ≡ is_below_either W B k x) → b ≡ true → pop_below W B k s ≡ Some (x, t)
  unfolding pop_below
  is_looked s t x b e f g = rw (e, ← f B, g) refl

  pub other_looked : (s t : State UnpackedIndex) (x : Operand UnpackedIndex) (b : Bool) → pop_reference s ≡ Some (x, t) → ((B : Surroundings UnpackedIndex) → b ≡ is_below_either W B k x) → b ≡ false → pop_below W B k s ≡ None
  unfolding pop_below
  other_looked s t x b e f g = rw (e, ← f B, g) refl

pub ruleset looks = (not_looked, is_looked, other_looked)

-- a guarded attempt, and the same attempt with another end
guarded : {X : Type 0} (b : Bool) (x y : X) → guard b x ≡ Some y → (b ≡ true) × (x ≡ y)
guarded true x y e = (refl, let h : Some x ≡ Some y = e in cc)
guarded false x y e = let h : None ≡ Some y = e in cc

unguarded : {X : Type 0} (b : Bool) (x : X) → guard b x ≡ None → b ≡ false
unguarded true x e = let h : Some x ≡ None = e in cc
unguarded false x e = refl

module _ {X Y : Type 0} (f : X → Bool) where
  parted : (o : Option (X × Y)) (q : X × Y) → (o >>= λ p. guard (f p.0) p) ≡ Some q → (o ≡ Some q) × (f q.0 ≡ true)
  parted None q e = let h : None ≡ Some q = e in cc
  parted (Some p) q e =
      let g = guarded (f p.0) p q e in
      (ap Some g.1, ap (λ z. f z.0) (sym g.1) ∙ g.0)

  unparted : {Z : Type 0} (o : Option (X × Y)) (g : X × Y → Option Z) → ((p : X × Y) → f p.0 ≡ false → g p ≡ None) → (o >>= λ p. guard (f p.0) p) ≡ None → (o >>= g) ≡ None
  unparted None g h e = refl
  unparted (Some p) g h e = h p (unguarded (f p.0) p e)

never : {X Y : Type 0} (o : Option (X × Y)) (b : X × Y → Bool) → ((q : X × Y) → b q ≡ false) → (o >>= λ q. guard (b q) q.1) ≡ None
never None b h = refl
never (Some q) b h = rw (h q) refl

module _ (W : World UnpackedIndex) (B : Surroundings UnpackedIndex) (k : AbstractHeap) (s : State UnpackedIndex) where
  -- what is known of a reference that was found below a type, and where none was found
  pub found_below : (x : Operand UnpackedIndex) (t : State UnpackedIndex) → pop_below W B k s ≡ Some (x, t) → (pop_reference s ≡ Some (x, t)) × (is_below_either W B k x ≡ true)
  unfolding pop_below
  found_below x t e = parted (is_below_either W B k) (pop_reference s) (x, t) e

  pub missing_below : {Z : Type 0} (g : Operand UnpackedIndex × State UnpackedIndex → Option Z) → ((p : Operand UnpackedIndex × State UnpackedIndex) → is_below_either W B k p.0 ≡ false → g p ≡ None) → pop_below W B k s ≡ None → (pop_reference s >>= g) ≡ None
  unfolding pop_below
  missing_below g h e = unparted (is_below_either W B k) (pop_reference s) g h e

module _ {A : Type 0} (v : Stacks A) (C : Context UnpackedIndex) where
  abbrev both_equal : Operand UnpackedIndex → Operand UnpackedIndex → Bool
  both_equal x y = is_below_either (world C) (around v C) eq_heap x && is_below_either (world C) (around v C) eq_heap y && agree (world C) (around v C) x y

  pub first_uncompared : pop_below (world C) (around v C) eq_heap (state_of v) ≡ None → acted v C (take_comparable ∷ give (these (i32 ∷ [])) ∷ []) ≡ None
  unfolding acted
  first_uncompared e =
      let h = missing_below (world C) (around v C) eq_heap (state_of v) (λ p. pop_reference p.1 >>= λ q. guard (both_equal p.0 q.0) q.1) (λ p f. never (pop_reference p.1) (λ q. both_equal p.0 q.0) (λ q. rw f refl)) e in
      rw h refl

  pub second_uncompared : (x : Operand UnpackedIndex) (t : State UnpackedIndex) → pop_below (world C) (around v C) eq_heap (state_of v) ≡ Some (x, t) → pop_below (world C) (around v C) eq_heap t ≡ None → acted v C (take_comparable ∷ give (these (i32 ∷ [])) ∷ []) ≡ None
  unfolding acted
  second_uncompared x t e i =
      let f = found_below (world C) (around v C) eq_heap (state_of v) x t e in
      let h = missing_below (world C) (around v C) eq_heap t (λ q. guard (both_equal x q.0) q.1) (λ q g. rw (f.1, g) refl) i in
      rw (f.0, h) refl

  pub disagreeing : (x y : Operand UnpackedIndex) (t u : State UnpackedIndex) (b : Bool) → pop_below (world C) (around v C) eq_heap (state_of v) ≡ Some (x, t) → pop_below (world C) (around v C) eq_heap t ≡ Some (y, u)
      → ((B : Surroundings UnpackedIndex) → b ≡ agree (world C) B x y) → b ≡ false → acted v C (take_comparable ∷ give (these (i32 ∷ [])) ∷ []) ≡ None
  unfolding acted
  disagreeing x y t u b e i a c =
      let f = found_below (world C) (around v C) eq_heap (state_of v) x t e in
      let g = found_below (world C) (around v C) eq_heap t y u i in
      rw (f.0, g.0, f.1, g.1, ← a (around v C), c) refl

  pub compared : (x y : Operand UnpackedIndex) (t u new : State UnpackedIndex) (b : Bool) → pop_below (world C) (around v C) eq_heap (state_of v) ≡ Some (x, t) → pop_below (world C) (around v C) eq_heap t ≡ Some (y, u)
      → ((B : Surroundings UnpackedIndex) → b ≡ agree (world C) B x y) → b ≡ true → new ≡ push_operand (known i32) u → acted v C (take_comparable ∷ give (these (i32 ∷ [])) ∷ []) ≡ Some new
  unfolding acted
  compared x y t u new b e i a c n =
      let f = found_below (world C) (around v C) eq_heap (state_of v) x t e in
      let g = found_below (world C) (around v C) eq_heap t y u i in
      rw (f.0, g.0, f.1, g.1, ← a (around v C), c, n) refl

pub ruleset equals = (first_uncompared, second_uncompared, disagreeing, compared)
