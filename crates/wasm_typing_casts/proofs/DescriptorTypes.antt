-- The descriptor that casts by descriptors ask for.
use Rattle.std.proofs.Common.{◌≡◌, ℕ, Bool, true, false, ◌&&◌, [], ◌∷◌, refl, sym, ap, ◌∙◌}
use Rattle.std.specs.Option.{option_map}
use Rattle.std.specs.Prelude.{Some, None, Option, Result, slice_get}
use Rattle.wasm_typing_references.specs.WasmSpec.Syntax.{AbstractHeap, Heap, abstract_heap, concrete, exact, Sub, Val}
use Rattle.wasm_typing_references.specs.WasmSpec.ValueTypes.{implies}
use Rattle.wasm_typing_references.specs.WasmSpecRules.Contexts.{Context}
use Rattle.wasm_typing_references.specs.WasmSpecRules.FeatureFlags.{features_of}
use Rattle.wasm_typing_references.specs.WasmReadersTypes.WasmReadersValues.declared.indices.UnpackedIndex.{UnpackedIndex}
use Rattle.wasm_typing_references.specs.WasmTypingChecks.WasmSpecSteps.Actions.{descriptor_for, has, descriptor_operators, custom_descriptors, reaches_type, describe}
use Rattle.wasm_typing_references.specs.WasmTypingChecks.WasmSpecSteps.Meanings.{ref_to, one, descriptor_heap, descriptor_at, described}
use Rattle.wasm_typing_references.specs.WasmTypingChecks.WasmSpecSteps.Machine.{State, pop_val, pop_vals}
use Rattle.wasm_typing_references.specs.WasmSpecRules.Attempts.{◌>>=◌, passes}
use Rattle.wasm_typing_references.specs.WasmTypingChecks.WasmValidatorResources.Answers.{world, sub_in}
use Rattle.wasm_typing_references.specs.WasmTypingChecks.WasmTypingStacks.BodyStacks.{state_of, around}
use Rattle.wasm_typing_references.specs.WasmTypingChecks.WasmTypingStacks.declared.stacks.Stacks.{Stacks}
use Rattle.wasm_typing_references.specs.WasmTypingChecks.Steps.{Took, acted, typed, held}
use Rattle.wasm_typing_references.specs.WasmTypingChecks.SeenTypes.{exchanged}
use Rattle.wasm_typing_references.specs.WasmTypingChecks.declared.faults.OperatorError.{OperatorError}
use Rattle.wasm_typing_references.proofs.WasmTypingChecks.ActionSteps.{took_along}
use Rattle.wasm_typing_casts.specs.CastDescriptors.{descriptor_declared, descriptor_named, serves_descriptors}

module _ (C : Context UnpackedIndex) (n : ℕ) where
  pub declared : (s : Sub UnpackedIndex) (o : Option UnpackedIndex) → Some s ≡ sub_in C n → o ≡ s.descriptor → o ≡ descriptor_declared C n
  unfolding descriptor_declared
  declared s o e f = rw (← e) f

  pub undeclared : None ≡ sub_in C n → None ≡ descriptor_declared C n
  unfolding descriptor_declared
  undeclared e = rw (← e) refl

  -- of a type, and of exactly a type
  pub concrete_named : (a : UnpackedIndex) (x : Val UnpackedIndex) → Some a ≡ descriptor_declared C n → x ≡ ref_to true (concrete a) → Some x ≡ option_map (ref_to true) (descriptor_named C (concrete n))
  unfolding descriptor_named
  concrete_named a x e f = rw (← e, f) refl

  pub exact_named : (a : UnpackedIndex) (x : Val UnpackedIndex) → Some a ≡ descriptor_declared C n → x ≡ ref_to true (exact a) → Some x ≡ option_map (ref_to true) (descriptor_named C (exact n))
  unfolding descriptor_named
  exact_named a x e f = rw (← e, f) refl

  pub concrete_unnamed : None ≡ descriptor_declared C n → None ≡ option_map (ref_to true) (descriptor_named C (concrete n))
  unfolding descriptor_named
  concrete_unnamed e = rw (← e) refl

  pub exact_unnamed : None ≡ descriptor_declared C n → None ≡ option_map (ref_to true) (descriptor_named C (exact n))
  unfolding descriptor_named
  exact_unnamed e = rw (← e) refl

pub abstract_unnamed : (C : Context UnpackedIndex) (s : Bool) (k : AbstractHeap) → None ≡ option_map (ref_to true) (descriptor_named C (abstract_heap s k))
unfolding descriptor_named
abstract_unnamed C s k = refl

pub ruleset descriptors = (declared, undeclared, concrete_named, exact_named, concrete_unnamed, exact_unnamed, abstract_unnamed)

none_by : {X Y Z : Type 0} (h : X → Y → Option Z) (o : Option X) (p : Option Y) → p ≡ None → ((o >>= λ a. p >>= λ b. h a b) >>= Some) ≡ None
none_by h None p e = refl
none_by h (Some a) p e = rw e refl

both_true : (a b : Bool) → true ≡ (a && b) → (a ≡ true) × (b ≡ true)
both_true true b e = (refl, sym e)
both_true false b e = cc

module _ {A : Type 0} (v : Stacks A) (C : Context UnpackedIndex) where
  named_so : (h : Heap ℕ) → descriptor_heap (world C) (around v C) h ≡ descriptor_named C h
  unfolding descriptor_named descriptor_declared
  named_so (abstract_heap s k) = refl
  named_so (concrete n) = refl
  named_so (exact n) = refl

  pub descriptor_typed : (h : Heap ℕ) (x : Val UnpackedIndex) → Some x ≡ option_map (ref_to true) (descriptor_named C h) → typed v C (descriptor_for h) ≡ Some (x ∷ [])
  unfolding typed
  descriptor_typed h x e = ap (λ (o : Option (Heap UnpackedIndex)). one (option_map (ref_to true) o)) (named_so h) ∙ ap one (sym e)

  pub descriptor_untyped : (h : Heap ℕ) → None ≡ option_map (ref_to true) (descriptor_named C h) → typed v C (descriptor_for h) ≡ None
  unfolding typed
  descriptor_untyped h e = ap (λ (o : Option (Heap UnpackedIndex)). one (option_map (ref_to true) o)) (named_so h) ∙ ap one (sym e)

pub ruleset describes = (descriptor_typed, descriptor_untyped)

-- the checks in front
module _ {A : Type 0} (v : Stacks A) (C : Context UnpackedIndex) where
  pub operators_held : true ≡ serves_descriptors (features_of v.features) → held v C (has descriptor_operators) ≡ true
  unfolding held
  operators_held e = (both_true (features_of v.features).descriptor_operators (features_of v.features).custom_descriptors e).0

  pub types_held : true ≡ serves_descriptors (features_of v.features) → held v C (has custom_descriptors) ≡ true
  unfolding held
  types_held e = (both_true (features_of v.features).descriptor_operators (features_of v.features).custom_descriptors e).1

  pub reach_held : (n : ℕ) (s : Sub UnpackedIndex) (b : Bool) → Some s ≡ sub_in C n → implies v.is_shared s.shared ≡ b → held v C (reaches_type n) ≡ b
  unfolding held
  reach_held n s b e f = ap (λ (o : Option (Sub UnpackedIndex)). implies v.is_shared (passes (λ d. d.shared) o)) (sym e) ∙ f

-- What `ref.get_desc` gives.
module _ {A : Type 0} (v : Stacks A) (C : Context UnpackedIndex) (n : ℕ) where
  pub no_type : None ≡ sub_in C n → acted v C (describe n ∷ []) ≡ None
  unfolding acted
  no_type e = none_by (λ i j. described (world C) (around v C) i j (state_of v)) (slice_get C.types n) (descriptor_at (world C) (around v C) n) (ap (λ (o : Option (Sub UnpackedIndex)). o >>= λ d. d.descriptor) (sym e))

  pub no_descriptor : (s : Sub UnpackedIndex) → Some s ≡ sub_in C n → s.descriptor ≡ None → acted v C (describe n ∷ []) ≡ None
  unfolding acted
  no_descriptor s e f = none_by (λ i j. described (world C) (around v C) i j (state_of v)) (slice_get C.types n) (descriptor_at (world C) (around v C) n) (ap (λ (o : Option (Sub UnpackedIndex)). o >>= λ d. d.descriptor) (sym e) ∙ f)

  pub no_identity : None ≡ slice_get C.types n → acted v C (describe n ∷ []) ≡ None
  unfolding acted
  no_identity e = rw (← e) refl

  module _ (a b : UnpackedIndex) (s : Sub UnpackedIndex) (e : Some a ≡ slice_get C.types n) (f : Some s ≡ sub_in C n) (g : s.descriptor ≡ Some b) where
    descriptor_is : descriptor_at (world C) (around v C) n ≡ Some b
    descriptor_is = ap (λ (o : Option (Sub UnpackedIndex)). o >>= λ d. d.descriptor) (sym f) ∙ g

    pub described_is : acted v C (describe n ∷ []) ≡ (described (world C) (around v C) a b (state_of v) >>= Some)
    unfolding acted
    described_is = ap (λ (o : Option UnpackedIndex). (o >>= λ i. descriptor_at (world C) (around v C) n >>= λ j. described (world C) (around v C) i j (state_of v)) >>= Some) (sym e)
        ∙ ap (λ (o : Option UnpackedIndex). (o >>= λ j. described (world C) (around v C) a j (state_of v)) >>= Some) descriptor_is

    exactly : (t : State UnpackedIndex) → pop_vals (world C) (ref_to true (exact a) ∷ []) (state_of v) ≡ Some t
        → (described (world C) (around v C) a b (state_of v) >>= Some) ≡ exchanged (world C) (ref_to true (exact a) ∷ []) (ref_to false (exact b) ∷ []) (state_of v)
    unfolding exchanged
    exactly t h = rw h refl

    otherwise : (o : Option (State UnpackedIndex)) → pop_vals (world C) (ref_to true (exact a) ∷ []) (state_of v) ≡ None → pop_vals (world C) (ref_to true (concrete a) ∷ []) (state_of v) ≡ o
        → (described (world C) (around v C) a b (state_of v) >>= Some) ≡ exchanged (world C) (ref_to true (concrete a) ∷ []) (ref_to false (concrete b) ∷ []) (state_of v)
    unfolding exchanged
    otherwise None h m = rw (h, m) refl
    otherwise (Some t) h m = rw (h, m) refl

    by_exact : (x y : Val UnpackedIndex) (t : State UnpackedIndex) → pop_vals (world C) (x ∷ []) (state_of v) ≡ Some t → x ≡ ref_to true (exact a) → y ≡ ref_to false (exact b)
        → (described (world C) (around v C) a b (state_of v) >>= Some) ≡ exchanged (world C) (x ∷ []) (y ∷ []) (state_of v)
    by_exact x y t h i j = exactly t (ap (λ (z : Val UnpackedIndex). pop_vals (world C) (z ∷ []) (state_of v)) (sym i) ∙ h) ∙ sym (λ k. exchanged (world C) (i k ∷ []) (j k ∷ []) (state_of v))

    by_other : (x y z : Val UnpackedIndex) → pop_vals (world C) (z ∷ []) (state_of v) ≡ None → z ≡ ref_to true (exact a) → x ≡ ref_to true (concrete a) → y ≡ ref_to false (concrete b)
        → (described (world C) (around v C) a b (state_of v) >>= Some) ≡ exchanged (world C) (x ∷ []) (y ∷ []) (state_of v)
    by_other x y z h m i j =
        otherwise (pop_vals (world C) (ref_to true (concrete a) ∷ []) (state_of v)) (ap (λ (z : Val UnpackedIndex). pop_vals (world C) (z ∷ []) (state_of v)) (sym m) ∙ h) refl
        ∙ sym (λ k. exchanged (world C) (i k ∷ []) (j k ∷ []) (state_of v))

    pub given_exactly : (r : Result (Unit {0}) OperatorError) (x y : Val UnpackedIndex) (t old new : State UnpackedIndex) → Took r (exchanged (world C) (x ∷ []) (y ∷ []) (state_of v)) old new → pop_val (world C) x (state_of v) ≡ Some t → x ≡ ref_to true (exact a) → y ≡ ref_to false (exact b)
        → Took r (acted v C (describe n ∷ [])) old new
    given_exactly r x y t old new k h i j = took_along r _ _ old new (described_is ∙ by_exact x y t h i j) k

    pub given_otherwise : (r : Result (Unit {0}) OperatorError) (x y z : Val UnpackedIndex) (old new : State UnpackedIndex) → Took r (exchanged (world C) (x ∷ []) (y ∷ []) (state_of v)) old new → pop_val (world C) z (state_of v) ≡ None → z ≡ ref_to true (exact a) → x ≡ ref_to true (concrete a)
        → y ≡ ref_to false (concrete b) → Took r (acted v C (describe n ∷ [])) old new
    given_otherwise r x y z old new k h m i j = took_along r _ _ old new (described_is ∙ by_other x y z h m i j) k

pub ruleset gets = (no_type, no_descriptor, no_identity, given_exactly, given_otherwise)
