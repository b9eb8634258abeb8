-- Steps of operators on continuations: the types that they take and give, and their checks.
use Rattle.std.proofs.Common.{◌≡◌, ◌⊎◌, inl, inr, ℕ, Bool, true, false, ◌==◌, List, [], ◌∷◌, length, refl, ap, ◌∙◌}
use Rattle.std.specs.Option.{option_map}
use Rattle.std.specs.Prelude.{Option, Some, None, Err, slice_get}
use Rattle.std.proofs.lemmas.Option.{same_Some}
use Rattle.wasm_typing_control.specs.WasmSpec.Syntax.{Val, abstract_heap, exn_heap, concrete, reference, Sub}
use Rattle.wasm_typing_control.specs.WasmSpec.ValueTypes.{implies}
use Rattle.wasm_typing_control.specs.WasmSpecRules.Attempts.{◌>>=◌, guard, passes}
use Rattle.wasm_typing_control.specs.WasmSpecRules.Contexts.{Context}
use Rattle.wasm_typing_control.specs.WasmSpecRules.Signatures.{Signature, signature_of}
use Rattle.wasm_typing_control.specs.WasmReadersTypes.WasmReadersValues.declared.indices.UnpackedIndex.{UnpackedIndex}
use Rattle.wasm_typing_control.specs.WasmTypingChecks.WasmSpecSteps.Actions.{OperandTypes, these, of_tag, params, results, continued, each_matches, reaches_type, is_exception, Action, need}
use Rattle.wasm_typing_control.specs.WasmTypingChecks.WasmSpecSteps.Machine.{State}
use Rattle.wasm_typing_control.specs.WasmTypingChecks.WasmSpecSteps.Matching.{matches_vals}
use Rattle.wasm_typing_control.specs.WasmTypingChecks.WasmSpecSteps.Meanings.{ref_to, cont_of, signature_at, continued_signature}
use Rattle.wasm_typing_control.specs.WasmTypingChecks.WasmSpecSteps.Shapes.{reference_to, takes_of, gives_of}
use Rattle.wasm_typing_control.specs.WasmTypingChecks.WasmValidatorResources.Answers.{world, sub_in, tag_in}
use Rattle.wasm_typing_control.specs.WasmTypingChecks.WasmTypingStacks.BodyStacks.{around}
use Rattle.wasm_typing_control.specs.WasmTypingChecks.WasmTypingStacks.declared.stacks.Stacks.{Stacks}
use Rattle.wasm_typing_control.specs.WasmTypingChecks.Steps.{Took, acted, typed, held}
use Rattle.wasm_typing_control.specs.WasmTypingChecks.declared.faults.OperatorFault.{OperatorFault}
use Rattle.wasm_typing_control.specs.WasmTypingChecks.declared.faults.OperatorError.TheVariants.{Refused}
use Rattle.wasm_typing_control.proofs.WasmTypingChecks.ActionSteps.{needed, refused_here}
use Rattle.wasm_typing_continuations.specs.ContinuationLookups.{continuation_in, function_named, continued_at}

-- an identity, and what continuations of its type take and give
abbrev pub Found : Type 0
Found = UnpackedIndex × Signature UnpackedIndex

abbrev named_so : UnpackedIndex → Signature UnpackedIndex → Found
named_so a g = (a, g)

paired : (a : UnpackedIndex) (o : Option (Signature UnpackedIndex)) (p : Found) → option_map (named_so a) o ≡ Some p → (a ≡ p.0) × (o ≡ Some p.1)
paired a None p e = cc
paired a (Some g) p e = let q : (a, g) ≡ p = same_Some (a, g) p e in (ap (λ (x : Found). x.0) q, ap (λ (x : Found). Some x.1) q)

unpaired : (a : UnpackedIndex) (o : Option (Signature UnpackedIndex)) → option_map (named_so a) o ≡ None → o ≡ None
unpaired a None e = refl
unpaired a (Some g) e = cc

pub is_or_not : (b : Bool) → (b ≡ true) ⊎ (b ≡ false)
is_or_not true = inl refl
is_or_not false = inr refl

-- a type by its index, where it is a continuation type that is reached
module _ (D : UnpackedIndex → Option (Sub UnpackedIndex)) (b : Bool) where
  abbrev sign : UnpackedIndex → Option (Signature UnpackedIndex)
  sign i = D i >>= λ e. signature_of e.comp

  abbrev pub continuation : UnpackedIndex → Option (Signature UnpackedIndex)
  continuation a = D a >>= λ d. cont_of d.comp >>= sign

  abbrev with_identity : UnpackedIndex → UnpackedIndex → Option Found
  with_identity a i = option_map (named_so a) (sign i)

  abbrev reached : Option (Sub UnpackedIndex) → Option UnpackedIndex
  reached o = o >>= λ d. cont_of d.comp >>= guard (implies b d.shared)

  abbrev is_shared : Option (Sub UnpackedIndex) → Bool
  is_shared o = implies b (passes (λ d. d.shared) o)

  by_shared : (c : Bool) (a j : UnpackedIndex) (p : Found) → (guard c j >>= with_identity a) ≡ Some p → (a ≡ p.0) × (sign j ≡ Some p.1) × (c ≡ true)
  by_shared true a j p e = let q = paired a (sign j) p e in (q.0, q.1, refl)
  by_shared false a j p e = cc

  by_function : (c : Bool) (o : Option UnpackedIndex) (a : UnpackedIndex) (p : Found) → (o >>= guard c >>= with_identity a) ≡ Some p → (a ≡ p.0) × ((o >>= sign) ≡ Some p.1) × (c ≡ true)
  by_function c None a p e = cc
  by_function c (Some j) a p e = by_shared c a j p e

  by_type : (o : Option (Sub UnpackedIndex)) (a : UnpackedIndex) (p : Found) → (reached o >>= with_identity a) ≡ Some p → (a ≡ p.0) × ((o >>= λ d. cont_of d.comp >>= sign) ≡ Some p.1) × (is_shared o ≡ true)
  by_type None a p e = cc
  by_type (Some d) a p e = by_function (implies b d.shared) (cont_of d.comp) a p e

  by_index : (t : Option UnpackedIndex) (p : Found) → (reached (t >>= D) >>= λ i. t >>= λ a. with_identity a i) ≡ Some p → (t ≡ Some p.0) × ((t >>= continuation) ≡ Some p.1) × (is_shared (t >>= D) ≡ true)
  by_index None p e = cc
  by_index (Some a) p e = let q = by_type (D a) a p e in (ap Some q.0, q.1, q.2)

  -- and where it isn't
  none_shared : (c : Bool) (a j : UnpackedIndex) → (guard c j >>= with_identity a) ≡ None → c ≡ true → sign j ≡ None
  none_shared true a j e h = unpaired a (sign j) e
  none_shared false a j e h = cc

  none_function : (c : Bool) (o : Option UnpackedIndex) (a : UnpackedIndex) → (o >>= guard c >>= with_identity a) ≡ None → c ≡ true → (o >>= sign) ≡ None
  none_function c None a e h = refl
  none_function c (Some j) a e h = none_shared c a j e h

  none_type : (o : Option (Sub UnpackedIndex)) (a : UnpackedIndex) → (reached o >>= with_identity a) ≡ None → is_shared o ≡ true → (o >>= λ d. cont_of d.comp >>= sign) ≡ None
  none_type None a e h = refl
  none_type (Some d) a e h = none_function (implies b d.shared) (cont_of d.comp) a e h

  none_index : (t : Option UnpackedIndex) → (reached (t >>= D) >>= λ i. t >>= λ a. with_identity a i) ≡ None → is_shared (t >>= D) ≡ true → (t >>= continuation) ≡ None
  none_index None e h = refl
  none_index (Some a) e h = none_type (D a) a e h

  -- of what function type it is
  function_by : (c : Bool) (o : Option UnpackedIndex) (i : UnpackedIndex) → (o >>= guard c) ≡ Some i → (o ≡ Some i) × (c ≡ true)
  function_by c None i e = cc
  function_by true (Some j) i e = (e, refl)
  function_by false (Some j) i e = cc

  reached_by : (o : Option (Sub UnpackedIndex)) (i : UnpackedIndex) → reached o ≡ Some i → ((option_map (λ d. d.comp) o >>= cont_of) ≡ Some i) × (is_shared o ≡ true)
  reached_by None i e = cc
  reached_by (Some d) i e = function_by (implies b d.shared) (cont_of d.comp) i e

  no_function_by : (c : Bool) (o : Option UnpackedIndex) → (o >>= guard c) ≡ None → c ≡ true → o ≡ None
  no_function_by c None e h = refl
  no_function_by true (Some j) e h = cc
  no_function_by false (Some j) e h = cc

  not_reached_by : (o : Option (Sub UnpackedIndex)) → reached o ≡ None → is_shared o ≡ true → (option_map (λ d. d.comp) o >>= cont_of) ≡ None
  not_reached_by None e h = refl
  not_reached_by (Some d) e h = no_function_by (implies b d.shared) (cont_of d.comp) e h

signature_by : (o : Option (Sub UnpackedIndex)) → (option_map (λ d. d.comp) o >>= signature_of) ≡ (o >>= λ d. signature_of d.comp)
signature_by None = refl
signature_by (Some d) = refl

module _ {A : Type 0} (v : Stacks A) (C : Context UnpackedIndex) where
  -- lists that are compared
  pub both_held : (t u : OperandTypes) (vs ws : List (Val UnpackedIndex)) (b : Bool) → typed v C t ≡ Some vs → typed v C u ≡ Some ws → matches_vals (world C) vs ws ≡ b → held v C (each_matches t u) ≡ b
  unfolding typed held
  both_held t u vs ws b e f h = rw (e, f) h

  -- the function type that a continuation type is of
  pub reached_held : (n : ℕ) (i : UnpackedIndex) → continuation_in C v.is_shared n ≡ Some i → held v C (reaches_type n) ≡ true
  unfolding held continuation_in
  reached_held n i e = (reached_by (world C).declared v.is_shared (sub_in C n) i e).1

  pub function_typed : (n : ℕ) (i : UnpackedIndex) (x : Val UnpackedIndex) → continuation_in C v.is_shared n ≡ Some i → x ≡ ref_to true (concrete i) → typed v C (continued n) ≡ Some (x ∷ [])
  unfolding typed continuation_in
  function_typed n i x e f = rw ((reached_by (world C).declared v.is_shared (sub_in C n) i e).0, f) refl

  function_gone : (n : ℕ) → continuation_in C v.is_shared n ≡ None → held v C (reaches_type n) ≡ true → typed v C (continued n) ≡ None
  unfolding held typed continuation_in
  function_gone n e h = rw (not_reached_by (world C).declared v.is_shared (sub_in C n) e h) refl

  pub function_unreached : (f : OperatorFault) (n : ℕ) (rest : List Action) (old : State UnpackedIndex) → continuation_in C v.is_shared n ≡ None → (typed v C (continued n) ≡ None → Took (Err (Refused f)) (acted v C rest) old old)
      → Took (Err (Refused f)) (acted v C (need (reaches_type n) ∷ rest)) old old
  function_unreached f n rest old e h =
      elim (is_or_not (held v C (reaches_type n))) [ inl p ↦ needed v C (Err (Refused f)) (reaches_type n) rest old old p (h (function_gone n e p)) | inr p ↦ refused_here v C f (reaches_type n) rest old p ]

  -- what the continuations of a type index take and give
  abbrev found_at : ℕ → Option (Signature UnpackedIndex)
  found_at n = slice_get C.types n >>= continuation (world C).declared v.is_shared

  told : (n : ℕ) (p : Found) → continued_at C v.is_shared n ≡ Some p → (slice_get C.types n ≡ Some p.0) × (found_at n ≡ Some p.1) × (implies v.is_shared (passes (λ d. d.shared) (sub_in C n)) ≡ true)
  unfolding continued_at continuation_in function_named
  told n p e = by_index (world C).declared v.is_shared (slice_get C.types n) p e

  untold : (n : ℕ) → continued_at C v.is_shared n ≡ None → implies v.is_shared (passes (λ d. d.shared) (sub_in C n)) ≡ true → found_at n ≡ None
  unfolding continued_at continuation_in function_named
  untold n e h = none_index (world C).declared v.is_shared (slice_get C.types n) e h

  abbrev listed : Option UnpackedIndex → Option (List (Val UnpackedIndex))
  listed t = option_map reference (option_map (λ h. record { nullable = true; heap = h }) (option_map concrete t)) >>= λ w. Some (w ∷ [])

  found_by : (t : Option UnpackedIndex) → (listed t >>= continued_signature (world C) (around v C)) ≡ (t >>= continuation (world C).declared v.is_shared)
  found_by None = refl
  found_by (Some a) = refl

  takes_is : (n : ℕ) → typed v C (takes_of n) ≡ option_map (λ g. g.takes) (found_at n)
  unfolding typed
  takes_is n = ap (option_map (λ g. g.takes)) (found_by (slice_get C.types n))

  gives_is : (n : ℕ) → typed v C (gives_of n) ≡ option_map (λ g. g.gives) (found_at n)
  unfolding typed
  gives_is n = ap (option_map (λ g. g.gives)) (found_by (slice_get C.types n))

  pub continued_held : (n : ℕ) (p : Found) → continued_at C v.is_shared n ≡ Some p → held v C (reaches_type n) ≡ true
  unfolding held
  continued_held n p e = (told n p e).2

  pub takes_typed : (n : ℕ) (p : Found) → continued_at C v.is_shared n ≡ Some p → typed v C (takes_of n) ≡ Some p.1.takes
  takes_typed n p e = takes_is n ∙ ap (option_map (λ (g : Signature UnpackedIndex). g.takes)) (told n p e).1

  pub gives_typed : (n : ℕ) (p : Found) → continued_at C v.is_shared n ≡ Some p → typed v C (gives_of n) ≡ Some p.1.gives
  gives_typed n p e = gives_is n ∙ ap (option_map (λ (g : Signature UnpackedIndex). g.gives)) (told n p e).1

  pub named_typed : (k : Bool) (n : ℕ) (a : UnpackedIndex) (x : Val UnpackedIndex) → slice_get C.types n ≡ Some a → x ≡ ref_to k (concrete a) → typed v C (these (reference_to k (concrete n) ∷ [])) ≡ Some (x ∷ [])
  unfolding typed
  named_typed k n a x e f = rw (e, f) refl

  pub continued_typed : (k : Bool) (n : ℕ) (p : Found) (x : Val UnpackedIndex) → continued_at C v.is_shared n ≡ Some p → x ≡ ref_to k (concrete p.0) → typed v C (these (reference_to k (concrete n) ∷ [])) ≡ Some (x ∷ [])
  continued_typed k n p x e f = named_typed k n p.0 x (told n p e).0 f

  pub named_untyped : (k : Bool) (n : ℕ) → None ≡ slice_get C.types n → typed v C (these (reference_to k (concrete n) ∷ [])) ≡ None
  unfolding typed
  named_untyped k n e = rw (← e) refl

  continued_gone : (n : ℕ) → continued_at C v.is_shared n ≡ None → held v C (reaches_type n) ≡ true → found_at n ≡ None
  unfolding held
  continued_gone n e h = untold n e h

  takes_gone : (n : ℕ) → found_at n ≡ None → typed v C (takes_of n) ≡ None
  takes_gone n e = takes_is n ∙ ap (option_map (λ (g : Signature UnpackedIndex). g.takes)) e

  gives_gone : (n : ℕ) → found_at n ≡ None → typed v C (gives_of n) ≡ None
  gives_gone n e = gives_is n ∙ ap (option_map (λ (g : Signature UnpackedIndex). g.gives)) e

  pub gives_gone_at : (n : ℕ) → continued_at C v.is_shared n ≡ None → held v C (reaches_type n) ≡ true → typed v C (gives_of n) ≡ None
  gives_gone_at n e h = gives_gone n (continued_gone n e h)

  pub discontinued : (f : OperatorFault) (n : ℕ) (rest : List Action) (old : State UnpackedIndex) → continued_at C v.is_shared n ≡ None → (typed v C (takes_of n) ≡ None → typed v C (gives_of n) ≡ None → Took (Err (Refused f)) (acted v C rest) old old)
      → Took (Err (Refused f)) (acted v C (need (reaches_type n) ∷ rest)) old old
  discontinued f n rest old e h =
      elim (is_or_not (held v C (reaches_type n))) [
        | inl p ↦ let q = continued_gone n e p in needed v C (Err (Refused f)) (reaches_type n) rest old old p (h (takes_gone n q) (gives_gone n q))
        | inr p ↦ refused_here v C f (reaches_type n) rest old p
      ]

  -- tags
  tag_by : (o : Option ℕ) → (o >>= λ t. option_map (λ d. d.comp) (sub_in C t) >>= signature_of) ≡ (o >>= λ t. sub_in C t >>= λ d. signature_of d.comp)
  tag_by None = refl
  tag_by (Some t) = signature_by (sub_in C t)

  pub same_tag : (x : ℕ) → signature_at (world C) (around v C) (of_tag x) ≡ tag_in C x
  same_tag x = tag_by (slice_get C.tags x)

  pub tag_params : (x : ℕ) (g : Signature UnpackedIndex) → tag_in C x ≡ Some g → typed v C (params (of_tag x)) ≡ Some g.takes
  unfolding typed
  tag_params x g e = ap (option_map (λ (g : Signature UnpackedIndex). g.takes)) (same_tag x ∙ e)

  pub tag_results : (x : ℕ) (g : Signature UnpackedIndex) → tag_in C x ≡ Some g → typed v C (results (of_tag x)) ≡ Some g.gives
  unfolding typed
  tag_results x g e = ap (option_map (λ (g : Signature UnpackedIndex). g.gives)) (same_tag x ∙ e)

  pub no_tag_params : (x : ℕ) → tag_in C x ≡ None → typed v C (params (of_tag x)) ≡ None
  unfolding typed
  no_tag_params x e = ap (option_map (λ (g : Signature UnpackedIndex). g.takes)) (same_tag x ∙ e)

  pub exception_held : (x : ℕ) (g : Signature UnpackedIndex) (b : Bool) → tag_in C x ≡ Some g → (length g.gives == 0) ≡ b → held v C (is_exception x) ≡ b
  unfolding held
  exception_held x g b e f = ap (passes (λ (g : Signature UnpackedIndex). length g.gives == 0)) (same_tag x ∙ e) ∙ f

  pub no_exception : (x : ℕ) → tag_in C x ≡ None → held v C (is_exception x) ≡ false
  unfolding held
  no_exception x e = ap (passes (λ (g : Signature UnpackedIndex). length g.gives == 0)) (same_tag x ∙ e)

  -- a reference to an exception, or null
  pub exception_typed : (x : Val UnpackedIndex) → x ≡ reference (record { nullable = true; heap = abstract_heap false exn_heap }) → typed v C (these (reference_to true (abstract_heap false exn_heap) ∷ [])) ≡ Some (x ∷ [])
  unfolding typed
  exception_typed x e = rw e refl
