-- What the operators on arrays name and check of an array type.
use Rattle.std.proofs.Common.{◌≡◌, ℕ, Bool, true, false, List, [], ◌∷◌, refl, ◌∙◌}
use Rattle.std.specs.Option.{option_map}
use Rattle.std.specs.Prelude.{Option, Some, None, slice_get, Err}
use Rattle.std.proofs.Math.Bool.{and-true}
use Rattle.wasm_spec.specs.MatchingTests.{World, same_flag, matches_val}
use Rattle.wasm_spec.specs.Syntax.{Ref, Val, i32, concrete, reference, Field}
use Rattle.wasm_typing_checks.specs.WasmSpecRules.Contexts.{Context}
use Rattle.wasm_readers_types.specs.WasmReadersValues.declared.indices.UnpackedIndex.{UnpackedIndex}
use Rattle.wasm_typing_checks.specs.WasmSpecRules.Attempts.{passes}
use Rattle.wasm_typing_checks.specs.WasmSpecSteps.Actions.{gc, has, Action, need, these, element, segment, repeated, each_matches, element_is_mutable, element_has_default, element_is_number, element_is_packed, element_is_storable, reaches_type}
use Rattle.wasm_typing_checks.specs.WasmSpecSteps.Machine.{State, same_number}
use Rattle.wasm_typing_checks.specs.WasmSpecSteps.Matching.{matches_vals, matches_storage}
use Rattle.wasm_typing_checks.specs.WasmSpecSteps.Meanings.{one, copies, ref_to, has_default, is_packed, unpack_field}
use Rattle.wasm_typing_checks.specs.WasmSpecSteps.Shapes.{nullable_to}
use Rattle.wasm_typing_checks.specs.WasmValidatorResources.Answers.{world}
use Rattle.wasm_typing_checks.specs.WasmTypingStacks.declared.stacks.Stacks.{Stacks}
use Rattle.wasm_typing_checks.specs.Steps.{Took, acted, typed, held}
use Rattle.wasm_typing_checks.specs.declared.faults.OperatorFault.{OperatorFault}
use Rattle.wasm_typing_checks.specs.declared.faults.OperatorError.TheVariants.{Refused}
use Rattle.wasm_typing_checks.proofs.ActionSteps.{refused_here, refused_later}
use Rattle.wasm_typing_checks.specs.DeclaredTypes.{element_in, Barred, is_off, is_unreached, is_missing}
use Rattle.wasm_typing_checks.proofs.IndexedTypes.{nullable_resolved, i32_resolved, more_typed}
use Rattle.wasm_typing_arrays.specs.Segments.{segment_matches}

-- the references of a segment, as lists of one type
one_matches : (W : World UnpackedIndex) (o : Option (Ref UnpackedIndex)) (v : Val UnpackedIndex)
    → passes (λ vs. matches_vals W vs (v ∷ [])) (one (option_map reference o)) ≡ passes (λ r. matches_val W (reference r) v) o
one_matches W None v = refl
one_matches W (Some r) v = and-true (matches_val W (reference r) v)

none_passes : {X : Type 0} (o : Option X) → passes (λ x. false) o ≡ false
none_passes None = refl
none_passes (Some x) = refl

module _ {A : Type 0} (v : Stacks A) (C : Context UnpackedIndex) where
  -- the type of an array's elements, alone and so many times
  pub element_typed : (n : ℕ) (x : Field UnpackedIndex) (y : Val UnpackedIndex) → element_in C n ≡ Some x → y ≡ unpack_field x
      → typed v C (element n) ≡ Some (y ∷ [])
  unfolding typed
  element_typed n x y e f = rw (e, f) refl

  pub element_untyped : (n : ℕ) → element_in C n ≡ None → typed v C (element n) ≡ None
  unfolding typed
  element_untyped n e = rw e refl

  pub repeated_typed : (n k : ℕ) (x : Field UnpackedIndex) (y : Val UnpackedIndex) → element_in C n ≡ Some x → y ≡ unpack_field x
      → typed v C (repeated k (element n)) ≡ Some (copies k (y ∷ []))
  unfolding typed
  repeated_typed n k x y e f = rw (e, f) refl

  pub repeated_untyped : (n k : ℕ) → element_in C n ≡ None → typed v C (repeated k (element n)) ≡ None
  unfolding typed
  repeated_untyped n k e = rw e refl

  -- written types: a reference to an array, and a number, in front of others
  pub array_before : (n : ℕ) (ws : List (Val ℕ)) (a : UnpackedIndex) (x : Val UnpackedIndex) (xs : List (Val UnpackedIndex))
      → Some a ≡ slice_get C.types n → x ≡ ref_to true (concrete a) → typed v C (these ws) ≡ Some xs → typed v C (these (nullable_to n ∷ ws)) ≡ Some (x ∷ xs)
  array_before n ws a x xs e f h = more_typed v C (nullable_to n) ws x xs (nullable_resolved C.types n a x e f) h

  pub i32_before : (ws : List (Val ℕ)) (x : Val UnpackedIndex) (xs : List (Val UnpackedIndex)) → x ≡ i32 → typed v C (these ws) ≡ Some xs
      → typed v C (these (i32 ∷ ws)) ≡ Some (x ∷ xs)
  i32_before ws x xs f h = more_typed v C i32 ws x xs (i32_resolved C.types x f) h

  -- checks
  pub mutable_held : (n : ℕ) (x : Field UnpackedIndex) (b : Bool) → element_in C n ≡ Some x → x.mutable ≡ b → held v C (element_is_mutable n) ≡ b
  unfolding held
  mutable_held n x b e f = rw e f

  pub mutable_missing : (n : ℕ) → element_in C n ≡ None → held v C (element_is_mutable n) ≡ false
  unfolding held
  mutable_missing n e = rw e refl

  pub default_held : (n : ℕ) (x : Field UnpackedIndex) (b : Bool) → element_in C n ≡ Some x → has_default (unpack_field x) ≡ b
      → held v C (element_has_default n) ≡ b
  unfolding held
  default_held n x b e f = rw e f

  pub default_missing : (n : ℕ) → element_in C n ≡ None → held v C (element_has_default n) ≡ false
  unfolding held
  default_missing n e = rw e refl

  pub number_held : (n : ℕ) (x : Field UnpackedIndex) (b : Bool) → element_in C n ≡ Some x → same_number (unpack_field x) (unpack_field x) ≡ b
      → held v C (element_is_number n) ≡ b
  unfolding held
  number_held n x b e f = rw e f

  pub number_missing : (n : ℕ) → element_in C n ≡ None → held v C (element_is_number n) ≡ false
  unfolding held
  number_missing n e = rw e refl

  pub packed_held : (p : Bool) (n : ℕ) (x : Field UnpackedIndex) (b : Bool) → element_in C n ≡ Some x → same_flag p (is_packed x.storage) ≡ b
      → held v C (element_is_packed p n) ≡ b
  unfolding held
  packed_held p n x b e f = rw e f

  pub packed_missing : (p : Bool) (n : ℕ) → element_in C n ≡ None → held v C (element_is_packed p n) ≡ false
  unfolding held
  packed_missing p n e = rw e refl

  pub storable_held : (m n : ℕ) (x y : Field UnpackedIndex) (b : Bool) → element_in C m ≡ Some x → element_in C n ≡ Some y
      → matches_storage (world C) x.storage y.storage ≡ b → held v C (element_is_storable m n) ≡ b
  unfolding held
  storable_held m n x y b e f h = rw (e, f) h

  pub storable_missing : (m n : ℕ) → element_in C m ≡ None → held v C (element_is_storable m n) ≡ false
  unfolding held
  storable_missing m n e = rw e refl

  pub segment_held : (n k : ℕ) (x : Field UnpackedIndex) (b : Bool) → element_in C n ≡ Some x → segment_matches C k (unpack_field x) ≡ b
      → held v C (each_matches (segment k) (element n)) ≡ b
  unfolding held
  segment_held n k x b e f = rw e (one_matches (world C) (slice_get C.elements k) (unpack_field x) ∙ f)

  pub segment_missing : (n k : ℕ) → element_in C n ≡ None → held v C (each_matches (segment k) (element n)) ≡ false
  unfolding held
  segment_missing n k e = rw e (none_passes (one (option_map reference (slice_get C.elements k))))

  -- what bars an operator on an array type bars one that writes
  pub bars_writes : (n : ℕ) → Barred v C gc n (element_in C n ≡ None) → Barred v C gc n (held v C (element_is_mutable n) ≡ false)
  bars_writes n (is_off h) = is_off h
  bars_writes n (is_unreached h) = is_unreached h
  bars_writes n (is_missing e) = is_missing (mutable_missing n e)

  -- the second of two types is barred
  pub second_barred : (f : OperatorFault) (m n : ℕ) (rest : List Action) (old : State UnpackedIndex) (Missing : Type 0)
      → (Missing → Took (Err (Refused f)) (acted v C rest) old old) → Barred v C gc n Missing
      → Took (Err (Refused f)) (acted v C (need (has gc) ∷ need (reaches_type m) ∷ need (reaches_type n) ∷ rest)) old old
  second_barred f m n rest old Missing k (is_off h) = refused_here v C f (has gc) (need (reaches_type m) ∷ need (reaches_type n) ∷ rest) old h
  second_barred f m n rest old Missing k (is_unreached h) =
      refused_later v C f (has gc) (need (reaches_type m) ∷ need (reaches_type n) ∷ rest) old old
      (refused_later v C f (reaches_type m) (need (reaches_type n) ∷ rest) old old (refused_here v C f (reaches_type n) rest old h))
  second_barred f m n rest old Missing k (is_missing e) =
      refused_later v C f (has gc) (need (reaches_type m) ∷ need (reaches_type n) ∷ rest) old old
      (refused_later v C f (reaches_type m) (need (reaches_type n) ∷ rest) old old (refused_later v C f (reaches_type n) rest old old (k e)))

pub ruleset elements = (element_typed, repeated_typed, mutable_held, default_held, number_held, packed_held, storable_held, segment_held)

pub ruleset writing = (mutable_held, bars_writes, is_missing)
