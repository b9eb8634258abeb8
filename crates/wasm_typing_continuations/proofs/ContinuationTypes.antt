-- Continuation types that operators name, and those that references are to: what code finds of them.
use Rattle.std.proofs.Common.{◌≡◌, ℕ, Bool, true, false, List, refl, sym, ap, ◌∙◌}
use Rattle.std.specs.Prelude.{Option, Some, None, slice_get}
use Rattle.wasm_typing_control.specs.WasmSpec.Syntax.{Heap, abstract_heap, concrete, exact, Ref, Val, reference, Sub}
use Rattle.wasm_typing_control.specs.WasmSpec.ValueTypes.{implies}
use Rattle.wasm_typing_control.specs.WasmSpecRules.Attempts.{◌>>=◌, guard, last_of}
use Rattle.wasm_typing_control.specs.WasmSpecRules.Contexts.{Context}
use Rattle.wasm_typing_control.specs.WasmSpecRules.Signatures.{Signature, signature_of}
use Rattle.wasm_typing_control.specs.WasmReadersTypes.SeenTypes.{comp_of}
use Rattle.wasm_typing_control.specs.WasmReadersTypes.WasmReadersValues.SeenValues.{index_in}
use Rattle.wasm_typing_control.specs.WasmReadersTypes.WasmReadersValues.declared.indices.UnpackedIndex.{UnpackedIndex}
use Rattle.wasm_typing_control.specs.WasmReadersTypes.declared.types.ContType.{ContType}
use Rattle.wasm_typing_control.specs.WasmReadersTypes.declared.types.FuncType.{FuncType}
use Rattle.wasm_typing_control.specs.WasmReadersTypes.declared.types.CompositeInnerType.{CompositeInnerType}
use Rattle.wasm_typing_control.specs.WasmReadersTypes.declared.types.CompositeInnerType.TheVariants.{Func, Array, Struct, Cont}
use Rattle.wasm_typing_control.specs.WasmTypingChecks.WasmSpecSteps.Meanings.{cont_of, defined_in, referred}
use Rattle.wasm_typing_control.specs.WasmTypingChecks.WasmValidatorResources.Answers.{world, sub_in}
use Rattle.wasm_typing_continuations.specs.ContinuationLookups.{continuation_in, type_named, function_named, continuation_named, continued_in, last_continued, continued_at}

-- what isn't a continuation type is of no function type, and what isn't a function type has no signature
pub not_of_continuations : {X : Type 0} (i : CompositeInnerType X) → ((c : ContType) → i ≡ Cont c → ⊥) → cont_of (comp_of i) ≡ None
not_of_continuations (Func f) h = refl
not_of_continuations (Array a) h = refl
not_of_continuations (Struct s) h = refl
not_of_continuations (Cont c) h = absurd (h c refl)

pub not_of_functions : {X : Type 0} (i : CompositeInnerType X) → ((f : FuncType X) → i ≡ Func f → ⊥) → signature_of (comp_of i) ≡ None
not_of_functions (Func f) h = absurd (h f refl)
not_of_functions (Array a) h = refl
not_of_functions (Struct s) h = refl
not_of_functions (Cont c) h = refl

-- a continuation type that is reached
abbrev reached : Bool → Option (Sub UnpackedIndex) → Option UnpackedIndex
reached b o = o >>= λ d. cont_of d.comp >>= guard (implies b d.shared)

none_guarded : (o : Option UnpackedIndex) → (o >>= guard false) ≡ None
none_guarded None = refl
none_guarded (Some i) = refl

module _ (C : Context UnpackedIndex) (b : Bool) (n : ℕ) where
  pub no_type : None ≡ sub_in C n → continuation_in C b n ≡ None
  unfolding continuation_in
  no_type e = ap (reached b) (sym e)

  pub not_a_continuation : (d : Sub UnpackedIndex) → Some d ≡ sub_in C n → cont_of d.comp ≡ None → continuation_in C b n ≡ None
  unfolding continuation_in
  not_a_continuation d e f = ap (reached b) (sym e) ∙ ap (λ o. o >>= guard (implies b d.shared)) f

  pub not_reached : (d : Sub UnpackedIndex) → Some d ≡ sub_in C n → implies b d.shared ≡ false → continuation_in C b n ≡ None
  unfolding continuation_in
  not_reached d e f = ap (reached b) (sym e) ∙ ap (λ c. cont_of d.comp >>= guard c) f ∙ none_guarded (cont_of d.comp)

  pub is_reached : (d : Sub UnpackedIndex) (i : UnpackedIndex) → Some d ≡ sub_in C n → cont_of d.comp ≡ Some i → implies b d.shared ≡ true → continuation_in C b n ≡ Some i
  unfolding continuation_in
  is_reached d i e f g = ap (reached b) (sym e) ∙ ap (λ o. o >>= guard (implies b d.shared)) f ∙ ap (λ c. guard c i) g

  -- with its identity, and what its continuations take and give
  pub not_continued : continuation_in C b n ≡ None → continued_at C b n ≡ None
  unfolding continued_at
  not_continued e = rw e refl

  pub not_identified : (i : UnpackedIndex) → continuation_in C b n ≡ Some i → None ≡ slice_get C.types n → continued_at C b n ≡ None
  unfolding continued_at
  not_identified i e f = rw (e, ← f) refl

  pub not_a_function : (i a : UnpackedIndex) → continuation_in C b n ≡ Some i → Some a ≡ slice_get C.types n → None ≡ function_named C i → continued_at C b n ≡ None
  unfolding continued_at
  not_a_function i a e f g = rw (e, ← f, ← g) refl

  pub is_continued : (i a : UnpackedIndex) (g : Signature UnpackedIndex) → continuation_in C b n ≡ Some i → Some a ≡ slice_get C.types n → Some g ≡ function_named C i → continued_at C b n ≡ Some (a, g)
  unfolding continued_at
  is_continued i a g e f h = rw (e, ← f, ← h) refl

pub ruleset reaches = (no_type, not_a_continuation, not_reached, is_reached)

pub ruleset continuations = (not_continued, not_identified, not_a_function, is_continued)

module _ (C : Context UnpackedIndex) where
  -- the type of an identity
  pub type_is : (i : UnpackedIndex) (o : Option (Sub UnpackedIndex)) → o ≡ (world C).declared i → o ≡ type_named C i
  unfolding type_named
  type_is i o e = e

  -- what the function type of an identity says
  pub no_function : (i : UnpackedIndex) → None ≡ type_named C i → None ≡ function_named C i
  unfolding type_named function_named
  no_function i e = rw (← e) refl

  pub function_is : (i : UnpackedIndex) (d : Sub UnpackedIndex) (o : Option (Signature UnpackedIndex)) → Some d ≡ type_named C i → o ≡ signature_of d.comp → o ≡ function_named C i
  unfolding type_named function_named
  function_is i d o e f = f ∙ ap (λ (p : Option (Sub UnpackedIndex)). p >>= λ d. signature_of d.comp) e

  -- and that of a continuation type
  pub no_continuation : (i : UnpackedIndex) → None ≡ type_named C i → None ≡ continuation_named C i
  unfolding continuation_named
  no_continuation i e = rw (← e) refl

  pub of_no_function : (i : UnpackedIndex) (d : Sub UnpackedIndex) → Some d ≡ type_named C i → None ≡ cont_of d.comp → None ≡ continuation_named C i
  unfolding continuation_named
  of_no_function i d e f = rw (← e, ← f) refl

  pub continuation_is : (i j : UnpackedIndex) (d : Sub UnpackedIndex) (o : Option (Signature UnpackedIndex)) → Some d ≡ type_named C i → Some j ≡ cont_of d.comp → o ≡ function_named C j → o ≡ continuation_named C i
  unfolding continuation_named
  continuation_is i j d o e f g = rw (← e, ← f) g

  -- what a reference is to
  same_heap : (h : Heap UnpackedIndex) → index_in h ≡ defined_in h
  same_heap (abstract_heap s k) = refl
  same_heap (concrete a) = refl
  same_heap (exact a) = refl

  pub refers_to : (r : Ref UnpackedIndex) (i : UnpackedIndex) (o : Option (Signature UnpackedIndex)) → Some i ≡ index_in r.heap → o ≡ continuation_named C i → o ≡ continued_in C (reference r)
  unfolding continued_in
  refers_to r i o e f = f ∙ ap (λ (p : Option UnpackedIndex). p >>= continuation_named C) (e ∙ same_heap r.heap)

  pub refers_to_none : (r : Ref UnpackedIndex) → None ≡ index_in r.heap → None ≡ continued_in C (reference r)
  unfolding continued_in
  refers_to_none r e = ap (λ (p : Option UnpackedIndex). p >>= continuation_named C) (e ∙ same_heap r.heap)

  pub refers_not : (v : Val UnpackedIndex) → referred v ≡ None → None ≡ continued_in C v
  unfolding continued_in
  refers_not v e = ap (λ (p : Option UnpackedIndex). p >>= continuation_named C) (sym e)

  -- and what the last of some types is
  pub last_refers : (vs : List (Val UnpackedIndex)) (w y : Val UnpackedIndex) (o : Option (Signature UnpackedIndex)) → Some w ≡ last_of vs → y ≡ w → o ≡ continued_in C y → o ≡ last_continued C vs
  unfolding last_continued continued_in
  last_refers vs w y o e f g = rw (← e) (g ∙ ap (continued_in C) f)

  pub no_last : (vs : List (Val UnpackedIndex)) → None ≡ last_of vs → None ≡ last_continued C vs
  unfolding last_continued
  no_last vs e = rw (← e) refl

pub ruleset types = (type_is, no_function, function_is, no_continuation, of_no_function, continuation_is)

pub ruleset referents = (refers_to, refers_to_none, refers_not, last_refers, no_last)
