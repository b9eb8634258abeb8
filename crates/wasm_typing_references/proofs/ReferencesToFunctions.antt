-- References to functions.
use Rattle.std.proofs.Common.{◌≡◌, ℕ, Bool, true, false, ◌&&◌, [], ◌∷◌, refl, sym, ◌∙◌, ap, List}
use Rattle.std.specs.Option.{option_map}
use Rattle.std.specs.Prelude.{Some, None, Option, IsSome, slice_get, if◌then◌else◌}
use Rattle.std.proofs.lemmas.Option.{same_Some}
use Rattle.wasm_typing_control.specs.WasmSpec.Syntax.{Heap, concrete, exact, Ref, Val, reference}
use Rattle.wasm_typing_control.specs.WasmTypingChecks.WasmSpecRules.Contexts.{Context}
use Rattle.wasm_typing_control.specs.WasmTypingChecks.WasmSpecRules.FeatureFlags.{features_of}
use Rattle.wasm_typing_control.specs.WasmReadersTypes.WasmReadersValues.declared.indices.UnpackedIndex.{UnpackedIndex}
use Rattle.wasm_typing_control.specs.WasmTypingChecks.WasmSpecSteps.Actions.{function_reference, function_is_referenced}
use Rattle.wasm_typing_control.specs.WasmTypingChecks.WasmSpecRules.Attempts.{◌>>=◌, passes, among}
use Rattle.wasm_typing_control.specs.WasmTypingChecks.WasmSpecRules.Signatures.{resolve_ref}
use Rattle.wasm_typing_control.specs.WasmTypingChecks.WasmSpecSteps.Meanings.{one, ref_to}
use Rattle.wasm_typing_control.specs.WasmTypingChecks.WasmTypingStacks.declared.stacks.Stacks.{Stacks}
use Rattle.wasm_typing_control.specs.WasmTypingChecks.Steps.{typed, held}

-- by whether the function is exact, and custom descriptors are on
abbrev described : Bool → ℕ → Heap ℕ
described b t = if b then exact t else concrete t

told : (o : Option Bool) (e : Bool) → e ≡ passes (λ b. b) o → IsSome o → o ≡ Some e
told None e h k = let q : false ≡ true = k in cc
told (Some x) e h k = rw h refl

exactly_typed : (o : Option UnpackedIndex) (r : Ref UnpackedIndex) → Some r ≡ option_map (λ h. record { nullable = false; heap = h }) (option_map exact o) → one (option_map (ref_to false) (o >>= λ a. Some (exact a))) ≡ Some (reference r ∷ [])
exactly_typed None r e = cc
exactly_typed (Some a) r e = ap (λ q. Some (reference q ∷ [])) (sym (same_Some r (record { nullable = false; heap = exact a }) e))

loosely_typed : (o : Option UnpackedIndex) (r : Ref UnpackedIndex) → Some r ≡ option_map (λ h. record { nullable = false; heap = h }) (option_map concrete o) → one (option_map (ref_to false) (o >>= λ a. Some (concrete a))) ≡ Some (reference r ∷ [])
loosely_typed None r e = cc
loosely_typed (Some a) r e = ap (λ q. Some (reference q ∷ [])) (sym (same_Some r (record { nullable = false; heap = concrete a }) e))

described_typed : (ts : List UnpackedIndex) (t : ℕ) (c : Bool) (r : Ref UnpackedIndex) → Some r ≡ resolve_ref ts (record { nullable = false; heap = described c t }) → one (option_map (ref_to false) (slice_get ts t >>= λ a. Some (if c then exact a else concrete a))) ≡ Some (reference r ∷ [])
described_typed ts t true r e = exactly_typed (slice_get ts t) r e
described_typed ts t false r e = loosely_typed (slice_get ts t) r e

exactly_untyped : (o : Option UnpackedIndex) → None ≡ option_map {U = Ref UnpackedIndex} (λ h. record { nullable = false; heap = h }) (option_map exact o) → one (option_map (ref_to false) (o >>= λ a. Some (exact a))) ≡ None
exactly_untyped None e = refl
exactly_untyped (Some a) e = cc

loosely_untyped : (o : Option UnpackedIndex) → None ≡ option_map {U = Ref UnpackedIndex} (λ h. record { nullable = false; heap = h }) (option_map concrete o) → one (option_map (ref_to false) (o >>= λ a. Some (concrete a))) ≡ None
loosely_untyped None e = refl
loosely_untyped (Some a) e = cc

described_untyped : (ts : List UnpackedIndex) (t : ℕ) (c : Bool) → None ≡ resolve_ref ts (record { nullable = false; heap = described c t }) → one (option_map (ref_to false) (slice_get ts t >>= λ a. Some (if c then exact a else concrete a))) ≡ None
described_untyped ts t true e = exactly_untyped (slice_get ts t) e
described_untyped ts t false e = loosely_untyped (slice_get ts t) e

module _ {A : Type 0} (v : Stacks A) (C : Context UnpackedIndex) where
  -- of a function that is there it is told whether it is exact
  abbrev IsTold : ℕ → Type 0
  IsTold n = IsSome (slice_get C.functions n) → IsSome (slice_get C.exact n)

  exact_told : (n t : ℕ) (e : Bool) → IsTold n → Some t ≡ slice_get C.functions n → e ≡ passes (λ b. b) (slice_get C.exact n) → slice_get C.exact n ≡ Some e
  exact_told n t e m f g = told (slice_get C.exact n) e g (m (rw (← f) refl))

  abbrev is_told : ℕ → Bool
  is_told n = passes (λ b. b) (slice_get C.exact n)

  abbrev descriptors : Bool
  descriptors = (features_of v.features).custom_descriptors

  abbrev named : Bool → ℕ → Option (Ref UnpackedIndex)
  named b t = resolve_ref C.types (record { nullable = false; heap = described b t })

  typed_at : (n t : ℕ) (e : Bool) (r : Ref UnpackedIndex) → Some t ≡ slice_get C.functions n → slice_get C.exact n ≡ Some e → Some r ≡ named (e && descriptors) t → typed v C (function_reference n) ≡ Some (reference r ∷ [])
  unfolding typed
  typed_at n t e r f q p = rw (← f, q) (described_typed C.types t (e && descriptors) r p)

  untyped_at : (n t : ℕ) (e : Bool) → Some t ≡ slice_get C.functions n → slice_get C.exact n ≡ Some e → None ≡ named (e && descriptors) t → typed v C (function_reference n) ≡ None
  unfolding typed
  untyped_at n t e f q p = rw (← f, q) (described_untyped C.types t (e && descriptors) p)

  named_as : (n t : ℕ) (b : Bool) (h : Heap ℕ) → b ≡ (is_told n && descriptors) → h ≡ described b t → resolve_ref C.types (record { nullable = false; heap = h }) ≡ named (is_told n && descriptors) t
  named_as n t b h i j = ap (λ (z : Heap ℕ). resolve_ref C.types (record { nullable = false; heap = z })) (j ∙ ap (λ (z : Bool). described z t) i)

  pub function_typed : (n t : ℕ) (b : Bool) (h : Heap ℕ) (r : Ref UnpackedIndex) (x : Val UnpackedIndex) → IsTold n → Some t ≡ slice_get C.functions n → b ≡ (is_told n && descriptors) → h ≡ described b t
      → Some r ≡ resolve_ref C.types (record { nullable = false; heap = h }) → x ≡ reference r → typed v C (function_reference n) ≡ Some (x ∷ [])
  function_typed n t b h r x m f i j k l = typed_at n t (is_told n) r f (exact_told n t (is_told n) m f refl) (k ∙ named_as n t b h i j) ∙ ap (λ (z : Val UnpackedIndex). Some (z ∷ [])) (sym l)

  pub function_untyped : (n t : ℕ) (b : Bool) (h : Heap ℕ) → IsTold n → Some t ≡ slice_get C.functions n → b ≡ (is_told n && descriptors) → h ≡ described b t → None ≡ resolve_ref C.types (record { nullable = false; heap = h }) → typed v C (function_reference n) ≡ None
  function_untyped n t b h m f i j k = untyped_at n t (is_told n) f (exact_told n t (is_told n) m f refl) (k ∙ named_as n t b h i j)

  pub function_missing : (n : ℕ) → None ≡ slice_get C.functions n → typed v C (function_reference n) ≡ None
  unfolding typed
  function_missing n f = rw (← f) refl

  pub referenced_held : (n : ℕ) (b : Bool) → among n C.references ≡ b → held v C (function_is_referenced n) ≡ b
  unfolding held
  referenced_held n b e = e

pub ruleset functions = (function_typed, function_untyped, function_missing, referenced_held)
