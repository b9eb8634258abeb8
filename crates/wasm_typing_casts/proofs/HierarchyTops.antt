-- The greatest types of hierarchies.
use Rattle.std.proofs.Common.{◌≡◌, ℕ, Bool, true, false, not, [], ◌∷◌, refl, sym, ◌∙◌}
use Rattle.std.specs.Option.{option_map}
use Rattle.std.specs.Prelude.{Some, None, Option, slice_get}
use Rattle.wasm_typing_references.specs.WasmSpec.Matching.{kind_of, top_of, top_of_heap}
use Rattle.wasm_typing_references.specs.WasmSpec.MatchingTests.{same_abstract}
use Rattle.wasm_typing_references.specs.WasmSpec.Syntax.{AbstractHeap, cont_heap, abstract_heap, concrete, exact, Ref, Sub, Val, reference}
use Rattle.wasm_typing_references.specs.WasmSpecRules.Contexts.{Context}
use Rattle.wasm_typing_references.specs.WasmReadersTypes.WasmReadersValues.declared.indices.UnpackedIndex.{UnpackedIndex}
use Rattle.wasm_typing_references.specs.WasmTypingChecks.WasmSpecSteps.Actions.{top, can_be_tested}
use Rattle.wasm_typing_references.specs.WasmSpecRules.Attempts.{◌>>=◌}
use Rattle.wasm_typing_references.specs.WasmTypingChecks.WasmValidatorResources.Answers.{world, sub_in}
use Rattle.wasm_typing_references.specs.WasmTypingChecks.WasmTypingStacks.declared.stacks.Stacks.{Stacks}
use Rattle.wasm_typing_references.specs.WasmTypingChecks.Steps.{typed, held}
use Rattle.wasm_typing_casts.specs.Tops.{top_in}

module _ (D : UnpackedIndex → Option (Sub UnpackedIndex)) where
  concrete_topped : (o : Option UnpackedIndex) (s : Sub UnpackedIndex) → Some s ≡ (o >>= D) → (option_map concrete o >>= top_of_heap D) ≡ Some (abstract_heap s.shared (top_of (kind_of s.comp)))
  concrete_topped None s e = let h : Some s ≡ None = e in cc
  concrete_topped (Some a) s e = let h : Some s ≡ D a = e in rw (← h) refl

  exact_topped : (o : Option UnpackedIndex) (s : Sub UnpackedIndex) → Some s ≡ (o >>= D) → (option_map exact o >>= top_of_heap D) ≡ Some (abstract_heap s.shared (top_of (kind_of s.comp)))
  exact_topped None s e = let h : Some s ≡ None = e in cc
  exact_topped (Some a) s e = let h : Some s ≡ D a = e in rw (← h) refl

  concrete_untopped : (o : Option UnpackedIndex) → None ≡ (o >>= D) → (option_map concrete o >>= top_of_heap D) ≡ None
  concrete_untopped None e = refl
  concrete_untopped (Some a) e = let h : None ≡ D a = e in rw (← h) refl

  exact_untopped : (o : Option UnpackedIndex) → None ≡ (o >>= D) → (option_map exact o >>= top_of_heap D) ≡ None
  exact_untopped None e = refl
  exact_untopped (Some a) e = let h : None ≡ D a = e in rw (← h) refl

module _ (C : Context UnpackedIndex) where
  pub abstract_top : (s : Bool) (a b : AbstractHeap) → b ≡ top_of a → Some (abstract_heap s b) ≡ top_in C (abstract_heap s a)
  unfolding top_in
  abstract_top s a b e = rw e refl

  pub concrete_top : (n : ℕ) (s : Sub UnpackedIndex) (b : Bool) (a : AbstractHeap) → Some s ≡ sub_in C n → b ≡ s.shared → a ≡ top_of (kind_of s.comp) → Some (abstract_heap b a) ≡ top_in C (concrete n)
  unfolding top_in
  concrete_top n s b a e f g = rw (f, g) (sym (concrete_topped (world C).declared (slice_get C.types n) s e))

  pub exact_top : (n : ℕ) (s : Sub UnpackedIndex) (b : Bool) (a : AbstractHeap) → Some s ≡ sub_in C n → b ≡ s.shared → a ≡ top_of (kind_of s.comp) → Some (abstract_heap b a) ≡ top_in C (exact n)
  unfolding top_in
  exact_top n s b a e f g = rw (f, g) (sym (exact_topped (world C).declared (slice_get C.types n) s e))

  pub no_concrete_top : (n : ℕ) → None ≡ sub_in C n → None ≡ top_in C (concrete n)
  unfolding top_in
  no_concrete_top n e = sym (concrete_untopped (world C).declared (slice_get C.types n) e)

  pub no_exact_top : (n : ℕ) → None ≡ sub_in C n → None ≡ top_in C (exact n)
  unfolding top_in
  no_exact_top n e = sym (exact_untopped (world C).declared (slice_get C.types n) e)

pub ruleset tops = (abstract_top, concrete_top, exact_top, no_concrete_top, no_exact_top)

module _ {A : Type 0} (v : Stacks A) (C : Context UnpackedIndex) (q : Ref ℕ) where
  pub untested : None ≡ top_in C q.heap → held v C (can_be_tested q) ≡ false
  unfolding held top_in
  untested e = rw (← e) refl

  pub tested_held : (s : Bool) (k : AbstractHeap) (b c : Bool) → Some (abstract_heap s k) ≡ top_in C q.heap → b ≡ not (same_abstract k cont_heap) → b ≡ c → held v C (can_be_tested q) ≡ c
  unfolding held top_in
  tested_held s k b c e f g = rw (← e) (sym f ∙ g)

  pub top_typed : (s : Bool) (k : AbstractHeap) (r : Ref UnpackedIndex) (x : Val UnpackedIndex) → Some (abstract_heap s k) ≡ top_in C q.heap → r ≡ record { nullable = true; heap = abstract_heap s k } → x ≡ reference r → typed v C (top q) ≡ Some (x ∷ [])
  unfolding typed top_in
  top_typed s k r x e f g = rw (← e, g, f) refl

pub ruleset tests = (untested, tested_held, top_typed)
