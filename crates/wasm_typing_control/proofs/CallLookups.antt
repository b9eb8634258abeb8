-- What calls look up.
use Rattle.std.proofs.Common.{◌≡◌, ◌⊎◌, inl, inr, ℕ, Bool, true, false, List, [], ◌∷◌, refl, sym, ◌∙◌, ap}
use Rattle.std.specs.Option.{option_map}
use Rattle.std.specs.Prelude.{Option, Some, None, Err, slice_get}
use Rattle.wasm_readers_types.specs.WasmSpec.Syntax.{Val, Ref, reference, abstract_heap, func_heap, Sub}
use Rattle.wasm_readers_types.specs.WasmSpec.MatchingTests.{matches_val}
use Rattle.wasm_readers_types.specs.WasmSpec.ValueTypes.{implies}
use Rattle.wasm_typing_numbers.specs.WasmTypingChecks.WasmValidatorResources.WasmSpecRules.Contexts.{Context}
use Rattle.wasm_readers_types.specs.SeenTypes.{comp_of}
use Rattle.wasm_readers_types.specs.WasmReadersValues.declared.indices.UnpackedIndex.{UnpackedIndex}
use Rattle.wasm_readers_types.specs.declared.types.FuncType.{FuncType}
use Rattle.wasm_readers_types.specs.declared.types.CompositeInnerType.{CompositeInnerType}
use Rattle.wasm_readers_types.specs.declared.types.CompositeInnerType.TheVariants.{Func, Array, Struct, Cont}
use Rattle.wasm_typing_numbers.specs.WasmSpecSteps.Actions.{Action, need, these, params, results, of_type, of_function, table_element, reaches_type, reaches_function}
use Rattle.wasm_typing_numbers.specs.WasmTypingChecks.WasmValidatorResources.WasmSpecRules.Attempts.{◌>>=◌, guard, passes}
use Rattle.wasm_typing_numbers.specs.WasmSpecSteps.Machine.{State}
use Rattle.wasm_typing_numbers.specs.WasmTypingChecks.WasmValidatorResources.WasmSpecRules.Signatures.{Signature, signature_of, resolve_val}
use Rattle.wasm_typing_numbers.specs.WasmSpecSteps.Shapes.{nullable_to, holds_functions}
use Rattle.wasm_typing_numbers.specs.WasmTypingStacks.SeenTypeWords.{val_in}
use Rattle.wasm_typing_numbers.specs.WasmTypingStacks.declared.type_word.TypeWord.{TypeWord}
use Rattle.wasm_typing_numbers.specs.WasmTypingChecks.WasmValidatorResources.Answers.{world, sub_in}
use Rattle.wasm_typing_numbers.specs.WasmTypingStacks.declared.stacks.Stacks.{Stacks}
use Rattle.wasm_typing_numbers.specs.WasmTypingChecks.Steps.{Took, acted, typed, held}
use Rattle.wasm_typing_numbers.specs.WasmTypingChecks.declared.faults.OperatorFault.{OperatorFault}
use Rattle.wasm_typing_numbers.specs.WasmTypingChecks.declared.faults.OperatorError.TheVariants.{Refused}
use Rattle.wasm_typing_numbers.proofs.WasmTypingChecks.ActionSteps.{needed, refused_here}
use Rattle.wasm_typing_numbers.proofs.WasmTypingChecks.TypeLookups.{written_typed}
use Rattle.wasm_typing_numbers.proofs.TypeComparisons.{one_held}
use Rattle.wasm_typing_control.specs.Callees.{type_in, function_in}

-- references, or null, to functions
abbrev pub functions : Ref UnpackedIndex
functions = record { nullable = true; heap = abstract_heap false func_heap }

-- a signature that is reached, and one that isn't
abbrev pub reached : Bool → Option (Sub UnpackedIndex) → Option (Signature UnpackedIndex)
reached b o = o >>= λ d. signature_of d.comp >>= guard (implies b d.shared)

-- the signature of what may not be there
abbrev pub signed : Option (Sub UnpackedIndex) → Option (Signature UnpackedIndex)
signed o = option_map (λ d. d.comp) o >>= signature_of

guarded : (b : Bool) (o : Option (Signature UnpackedIndex)) (g : Signature UnpackedIndex) → (o >>= guard b) ≡ Some g → (o ≡ Some g) × (b ≡ true)
guarded b None g e = cc
guarded true (Some x) g e = (e, refl)
guarded false (Some x) g e = cc

unguarded : (b : Bool) (o : Option (Signature UnpackedIndex)) → (o >>= guard b) ≡ None → b ≡ true → o ≡ None
unguarded b None e h = refl
unguarded true (Some x) e h = cc
unguarded false (Some x) e h = cc

there : (b : Bool) (o : Option (Sub UnpackedIndex)) (g : Signature UnpackedIndex) → reached b o ≡ Some g → (signed o ≡ Some g) × (implies b (passes (λ d. d.shared) o) ≡ true)
there b None g e = cc
there b (Some d) g e = guarded (implies b d.shared) (signature_of d.comp) g e

not_there : (b : Bool) (o : Option (Sub UnpackedIndex)) → reached b o ≡ None → implies b (passes (λ d. d.shared) o) ≡ true → signed o ≡ None
not_there b None e h = refl
not_there b (Some d) e h = unguarded (implies b d.shared) (signature_of d.comp) e h

is_or_not : (b : Bool) → (b ≡ true) ⊎ (b ≡ false)
is_or_not true = inl refl
is_or_not false = inr refl

none_guarded : (o : Option (Signature UnpackedIndex)) → (o >>= guard false) ≡ None
none_guarded None = refl
none_guarded (Some g) = refl

-- what isn't a function type has no signature
pub unsigned : {X : Type 0} (i : CompositeInnerType X) → ((f : FuncType X) → i ≡ Func f → ⊥) → signature_of (comp_of i) ≡ None
unsigned (Func f) h = absurd (h f refl)
unsigned (Array a) h = refl
unsigned (Struct s) h = refl
unsigned (Cont c) h = refl

-- what code finds is what is reached
module _ (C : Context UnpackedIndex) (b : Bool) (n : ℕ) where
  pub type_found : (d : Sub UnpackedIndex) (g : Signature UnpackedIndex) → Some d ≡ sub_in C n → signature_of d.comp ≡ Some g → implies b d.shared ≡ true → type_in C b n ≡ Some g
  unfolding type_in
  type_found d g e f h = ap (reached b) (sym e) ∙ ap (λ o. o >>= guard (implies b d.shared)) f ∙ ap (λ c. guard c g) h

  pub type_unshared : (d : Sub UnpackedIndex) → Some d ≡ sub_in C n → implies b d.shared ≡ false → type_in C b n ≡ None
  unfolding type_in
  type_unshared d e h = ap (reached b) (sym e) ∙ ap (λ c. signature_of d.comp >>= guard c) h ∙ none_guarded (signature_of d.comp)

  pub type_unsigned : (d : Sub UnpackedIndex) → Some d ≡ sub_in C n → signature_of d.comp ≡ None → type_in C b n ≡ None
  unfolding type_in
  type_unsigned d e f = ap (reached b) (sym e) ∙ ap (λ o. o >>= guard (implies b d.shared)) f

  pub type_unknown : None ≡ sub_in C n → type_in C b n ≡ None
  unfolding type_in
  type_unknown e = ap (reached b) (sym e)

  pub of_its_type : (k : ℕ) → Some k ≡ slice_get C.functions n → type_in C b k ≡ function_in C b n
  unfolding function_in
  of_its_type k e = ap (λ o. o >>= type_in C b) e

  pub function_unknown : None ≡ slice_get C.functions n → function_in C b n ≡ None
  unfolding function_in
  function_unknown e = ap (λ o. o >>= type_in C b) (sym e)

module _ {A : Type 0} (v : Stacks A) (C : Context UnpackedIndex) where
  -- the function type of a type index
  of_a_type : (n : ℕ) (g : Signature UnpackedIndex) → type_in C v.is_shared n ≡ Some g → (signed (sub_in C n) ≡ Some g) × (implies v.is_shared (passes (λ d. d.shared) (sub_in C n)) ≡ true)
  unfolding type_in
  of_a_type n g e = there v.is_shared (sub_in C n) g e

  pub type_held : (n : ℕ) (g : Signature UnpackedIndex) → type_in C v.is_shared n ≡ Some g → held v C (reaches_type n) ≡ true
  unfolding held
  type_held n g e = (of_a_type n g e).1

  pub type_params : (n : ℕ) (g : Signature UnpackedIndex) (vs : List (Val UnpackedIndex)) → type_in C v.is_shared n ≡ Some g → vs ≡ g.takes → typed v C (params (of_type n)) ≡ Some vs
  unfolding typed
  type_params n g vs e f = rw ((of_a_type n g e).0, f) refl

  pub type_results : (n : ℕ) (g : Signature UnpackedIndex) (vs : List (Val UnpackedIndex)) → type_in C v.is_shared n ≡ Some g → vs ≡ g.gives → typed v C (results (of_type n)) ≡ Some vs
  unfolding typed
  type_results n g vs e f = rw ((of_a_type n g e).0, f) refl

  type_gone : (n : ℕ) → type_in C v.is_shared n ≡ None → held v C (reaches_type n) ≡ true → typed v C (params (of_type n)) ≡ None
  unfolding type_in held typed
  type_gone n e h = rw (not_there v.is_shared (sub_in C n) e h) refl

  pub type_unreached : (f : OperatorFault) (n : ℕ) (rest : List Action) (old : State UnpackedIndex) → type_in C v.is_shared n ≡ None → (typed v C (params (of_type n)) ≡ None → Took (Err (Refused f)) (acted v C rest) old old) → Took (Err (Refused f)) (acted v C (need (reaches_type n) ∷ rest)) old old
  type_unreached f n rest old e h = elim (is_or_not (held v C (reaches_type n))) [ inl p ↦ needed v C (Err (Refused f)) (reaches_type n) rest old old p (h (type_gone n e p)) | inr p ↦ refused_here v C f (reaches_type n) rest old p ]

  -- the type of a function
  of_a_function : (n : ℕ) (g : Signature UnpackedIndex) (o : Option ℕ) → (o >>= type_in C v.is_shared) ≡ Some g
      → ((o >>= λ k. signed (sub_in C k)) ≡ Some g) × (implies v.is_shared (passes (λ d. d.shared) (o >>= sub_in C)) ≡ true)
  of_a_function n g None e = cc
  of_a_function n g (Some k) e = of_a_type k g e

  pub function_held : (n : ℕ) (g : Signature UnpackedIndex) → function_in C v.is_shared n ≡ Some g → held v C (reaches_function n) ≡ true
  unfolding held function_in
  function_held n g e = (of_a_function n g (slice_get C.functions n) e).1

  pub function_params : (n : ℕ) (g : Signature UnpackedIndex) (vs : List (Val UnpackedIndex)) → function_in C v.is_shared n ≡ Some g → vs ≡ g.takes → typed v C (params (of_function n)) ≡ Some vs
  unfolding typed function_in
  function_params n g vs e f = rw ((of_a_function n g (slice_get C.functions n) e).0, f) refl

  pub function_results : (n : ℕ) (g : Signature UnpackedIndex) (vs : List (Val UnpackedIndex)) → function_in C v.is_shared n ≡ Some g → vs ≡ g.gives → typed v C (results (of_function n)) ≡ Some vs
  unfolding typed function_in
  function_results n g vs e f = rw ((of_a_function n g (slice_get C.functions n) e).0, f) refl

  none_of_a_function : (o : Option ℕ) → (o >>= type_in C v.is_shared) ≡ None → implies v.is_shared (passes (λ d. d.shared) (o >>= sub_in C)) ≡ true → (o >>= λ k. signed (sub_in C k)) ≡ None
  unfolding type_in
  none_of_a_function None e h = refl
  none_of_a_function (Some k) e h = not_there v.is_shared (sub_in C k) e h

  function_gone : (n : ℕ) → function_in C v.is_shared n ≡ None → held v C (reaches_function n) ≡ true → typed v C (params (of_function n)) ≡ None
  unfolding function_in held typed
  function_gone n e h = rw (none_of_a_function (slice_get C.functions n) e h) refl

  pub function_unreached : (f : OperatorFault) (n : ℕ) (rest : List Action) (old : State UnpackedIndex) → function_in C v.is_shared n ≡ None → (typed v C (params (of_function n)) ≡ None → Took (Err (Refused f)) (acted v C rest) old old)
      → Took (Err (Refused f)) (acted v C (need (reaches_function n) ∷ rest)) old old
  function_unreached f n rest old e h = elim (is_or_not (held v C (reaches_function n))) [ inl p ↦ needed v C (Err (Refused f)) (reaches_function n) rest old old p (h (function_gone n e p)) | inr p ↦ refused_here v C f (reaches_function n) rest old p ]

  -- a reference, or null, to a function of a type
  pub null_typed : (n : ℕ) (w : TypeWord) → option_map val_in (Some w) ≡ resolve_val C.types (nullable_to n) → typed v C (these (nullable_to n ∷ [])) ≡ Some (val_in w ∷ [])
  unfolding typed
  null_typed n w e = rw (← e) refl

  pub null_untyped : (n : ℕ) → option_map val_in None ≡ resolve_val C.types (nullable_to n) → typed v C (these (nullable_to n ∷ [])) ≡ None
  unfolding typed
  null_untyped n e = rw (← e) refl

  -- a table of functions
  pub functions_held : (n : ℕ) (x : Val UnpackedIndex) (b : Bool) → typed v C (table_element n) ≡ Some (x ∷ []) → matches_val (world C) x (reference functions) ≡ b → held v C (holds_functions n) ≡ b
  functions_held n x b e f = one_held v C (table_element n) _ x (reference functions) b e (written_typed v C _ _ refl) f

pub ruleset calls = (type_held, type_params, type_results, type_unreached, function_held, function_params, function_results, function_unreached, null_typed, null_untyped, functions_held)
