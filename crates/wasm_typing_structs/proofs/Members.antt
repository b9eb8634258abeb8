-- Members of structures and of arrays that atomic accesses reach.
use Rattle.std.proofs.Common.{◌≡◌, ◌⊎◌, inl, inr, ℕ, Bool, true, false, not, ◌&&◌, List, [], ◌∷◌, ◌++◌, refl, sym, ◌∙◌, ap}
use Rattle.std.specs.Prelude.{Some, None, Result, Err, slice_get}
use Rattle.wasm_spec.specs.MatchingTests.{World, same_flag}
use Rattle.wasm_spec.specs.Syntax.{Val, i32, Storage, i8, i16, unpacked, Field}
use Rattle.wasm_spec.specs.ValueTypes.{implies}
use Rattle.wasm_readers_types.specs.WasmReadersValues.declared.indices.UnpackedIndex.{UnpackedIndex}
use Rattle.wasm_typing_checks.specs.WasmSpecRules.Contexts.{Context}
use Rattle.wasm_typing_checks.specs.WasmSpecSteps.Access.{Access}
use Rattle.wasm_typing_checks.specs.WasmSpecSteps.Access.TheVariants as access
use Rattle.wasm_typing_checks.specs.WasmSpecSteps.Actions.{gc, has, reaches_type, element, Check, each_matches_some, element_is_mutable, element_is_packed, Action, need, take, give}
use Rattle.wasm_typing_checks.specs.WasmSpecSteps.Machine.{State}
use Rattle.wasm_typing_checks.specs.WasmSpecSteps.Matching.{match_some}
use Rattle.wasm_typing_checks.specs.WasmSpecSteps.Meanings.{is_packed, unpack, unpack_field}
use Rattle.wasm_typing_checks.specs.WasmSpecSteps.Shapes.{allowed_types, where_written, where_given, access_taken, access_given}
use Rattle.wasm_typing_checks.specs.WasmSpecSteps.Steps.{checked, actions_of}
use Rattle.wasm_typing_checks.specs.WasmValidatorResources.Answers.{world}
use Rattle.wasm_typing_checks.specs.WasmTypingStacks.BodyStacks.{state_of}
use Rattle.wasm_typing_checks.specs.WasmTypingStacks.declared.stacks.Stacks.{Stacks}
use Rattle.wasm_typing_checks.specs.Steps.{Took, acted, typed, held}
use Rattle.wasm_typing_checks.specs.SeenTypes.{exchanged}
use Rattle.wasm_typing_checks.specs.DeclaredTypes.{element_in, Barred}
use Rattle.wasm_typing_checks.specs.declared.faults.OperatorFault.{OperatorFault}
use Rattle.wasm_typing_checks.specs.declared.faults.OperatorError.{OperatorError}
use Rattle.wasm_typing_checks.specs.declared.faults.OperatorError.TheVariants.{Refused}
use Rattle.wasm_typing_checks.proofs.ActionSteps.{needed, refused_here, refused_later, plainly}
use Rattle.wasm_typing_checks.proofs.IndexedTypes.{nullable_typed, nullable_resolved, more_typed, barred}
use Rattle.wasm_typing_checks.proofs.TypeLookups.{i32_typed}
use Rattle.wasm_typing_structs.proofs.Structures.{field_typed, mutable_held, packed_held, packed_missing}
use Rattle.wasm_typing_structs.proofs.AtomicAccesses.{some_held, none_held, accessed, written, unwritten}
use Rattle.wasm_typing_structs.specs.Fields.{field_in}
use Rattle.wasm_typing_structs.specs.AtomicOperands.{allowed_of, is_writing, taken_seen, given_seen, member_in, place_in, stored_at, place_at, mutable_at, packed_at, member_shape, packed_shape, stores}

either_false : (a b : Bool) → (a && b) ≡ false → (a ≡ false) ⊎ (b ≡ false)
either_false true b e = inr e
either_false false b e = inl refl

first_true : (a b : Bool) → (a && b) ≡ true → a ≡ true
first_true true b e = refl
first_true false b e = cc

second_true : (a b : Bool) → (a && b) ≡ true → b ≡ true
second_true true b e = e
second_true false b e = cc

-- what is packed is an integer of 32 bits as a value
packed_i32 : (s : Storage UnpackedIndex) → is_packed s ≡ true → unpack s ≡ i32
packed_i32 i8 e = refl
packed_i32 i16 e = refl
packed_i32 (unpacked v) e = cc

-- what is stored is of a type that the access allows
stored_allowed : (W : World UnpackedIndex) (a : Access) (x : Field UnpackedIndex) → stores W a x ≡ true → match_some W (allowed_of true a) (unpack_field x ∷ []) ≡ true
stored_allowed W access.Get x e = second_true (not (is_packed x.storage)) _ e
stored_allowed W access.Set x e = e
stored_allowed W access.Compute x e = second_true (not (is_packed x.storage)) _ e
stored_allowed W access.Exchange x e = second_true (not (is_packed x.storage)) _ e
stored_allowed W access.Compare x e = second_true (not (is_packed x.storage)) _ e

module _ {A : Type 0} (v : Stacks A) (C : Context UnpackedIndex) where
  -- the elements of an array
  element_typed : (n : ℕ) (x : Field UnpackedIndex) (y : Val UnpackedIndex) → element_in C n ≡ Some x → y ≡ unpack_field x → typed v C (element n) ≡ Some (y ∷ [])
  unfolding typed
  element_typed n x y e f = rw (e, f) refl

  element_untyped : (n : ℕ) → element_in C n ≡ None → typed v C (element n) ≡ None
  unfolding typed
  element_untyped n e = rw e refl

  field_untyped : (n k : ℕ) → field_in C n k ≡ None → typed v C (stored_at false n k) ≡ None
  unfolding typed
  field_untyped n k e = rw e refl

  element_mutable : (n : ℕ) (x : Field UnpackedIndex) (b : Bool) → element_in C n ≡ Some x → x.mutable ≡ b → held v C (element_is_mutable n) ≡ b
  unfolding held
  element_mutable n x b e f = rw e f

  element_packed : (p : Bool) (n : ℕ) (x : Field UnpackedIndex) (b : Bool) → element_in C n ≡ Some x → same_flag p (is_packed x.storage) ≡ b
      → held v C (element_is_packed p n) ≡ b
  unfolding held
  element_packed p n x b e f = rw e f

  element_missing : (p : Bool) (n : ℕ) → element_in C n ≡ None → held v C (element_is_packed p n) ≡ false
  unfolding held
  element_missing p n e = rw e refl

  -- members of both kinds
  stored_typed : (b : Bool) (n k : ℕ) (x : Field UnpackedIndex) (y : Val UnpackedIndex) → member_in C b n k ≡ Some x → y ≡ unpack_field x
      → typed v C (stored_at b n k) ≡ Some (y ∷ [])
  stored_typed true n k x y e f = element_typed n x y e f
  stored_typed false n k x y e f = field_typed v C n k x y e f

  stored_untyped : (b : Bool) (n k : ℕ) → member_in C b n k ≡ None → typed v C (stored_at b n k) ≡ None
  stored_untyped true n k e = element_untyped n e
  stored_untyped false n k e = field_untyped n k e

  place_typed : (b : Bool) (n : ℕ) (i : UnpackedIndex) (xs : List (Val UnpackedIndex)) → Some i ≡ slice_get C.types n → xs ≡ place_in b i
      → typed v C (place_at b n) ≡ Some xs
  place_typed true n i xs e f =
      more_typed v C _ (i32 ∷ []) _ (i32 ∷ []) (nullable_resolved C.types n i _ e refl) (i32_typed v C i32 refl) ∙ ap Some (sym f)
  place_typed false n i xs e f = nullable_typed v C n i _ e refl ∙ ap Some (sym f)

  member_mutable : (b : Bool) (n k : ℕ) (x : Field UnpackedIndex) (m : Bool) → member_in C b n k ≡ Some x → x.mutable ≡ m → held v C (mutable_at b n k) ≡ m
  member_mutable true n k x m e f = element_mutable n x m e f
  member_mutable false n k x m e f = mutable_held v C n k x m e f

  member_packed : (p b : Bool) (n k : ℕ) (x : Field UnpackedIndex) (m : Bool) → member_in C b n k ≡ Some x → same_flag p (is_packed x.storage) ≡ m
      → held v C (packed_at p b n k) ≡ m
  member_packed p true n k x m e f = element_packed p n x m e f
  member_packed p false n k x m e f = packed_held v C p n k x m e f

  member_missing : (p b : Bool) (n k : ℕ) → member_in C b n k ≡ None → held v C (packed_at p b n k) ≡ false
  member_missing p true n k e = element_missing p n e
  member_missing p false n k e = packed_missing v C p n k e

  -- the actions of an access
  abbrev behind_member : Bool → Access → ℕ → ℕ → List Action
  behind_member b a n k = take (access_taken a (place_at b n) (stored_at b n k)) ∷ give (access_given a (stored_at b n k)) ∷ []

  abbrev given_checks : Bool → Access → ℕ → ℕ → List Check
  given_checks b a n k = where_given a (packed_at false b n k ∷ [])

  abbrev after_allowed : Bool → Access → ℕ → ℕ → List Action
  after_allowed b a n k = checked (where_written a (mutable_at b n k ∷ []) ++ given_checks b a n k) (behind_member b a n k)

  abbrev allowed_member : Bool → Access → ℕ → ℕ → Check
  allowed_member b a n k = each_matches_some (stored_at b n k) (allowed_types true a)

  -- a check in front of one that fails
  behind_another : (f : OperatorFault) (c d : Check) (rest : List Action) (old : State UnpackedIndex) → held v C d ≡ false
      → Took (Err (Refused f)) (acted v C (need c ∷ need d ∷ rest)) old old
  behind_another f c d rest old h = refused_later v C f c (need d ∷ rest) old old (refused_here v C f d rest old h)

  not_packed : (r : Result (Unit {0}) OperatorError) (b : Bool) (a : Access) (n k : ℕ) (x : Field UnpackedIndex) (rest : List Action) (old new : State UnpackedIndex)
      → member_in C b n k ≡ Some x → stores (world C) a x ≡ true → Took r (acted v C rest) old new → Took r (acted v C (checked (given_checks b a n k) rest)) old new
  not_packed r b access.Get n k x rest old new e s t = needed v C r (packed_at false b n k) rest old new (member_packed false b n k x true e (first_true _ _ s)) t
  not_packed r b access.Set n k x rest old new e s t = t
  not_packed r b access.Compute n k x rest old new e s t = needed v C r (packed_at false b n k) rest old new (member_packed false b n k x true e (first_true _ _ s)) t
  not_packed r b access.Exchange n k x rest old new e s t = needed v C r (packed_at false b n k) rest old new (member_packed false b n k x true e (first_true _ _ s)) t
  not_packed r b access.Compare n k x rest old new e s t = needed v C r (packed_at false b n k) rest old new (member_packed false b n k x true e (first_true _ _ s)) t

  member_allowed : (b : Bool) (a : Access) (n k : ℕ) (x : Field UnpackedIndex) (m : Bool) → member_in C b n k ≡ Some x
      → match_some (world C) (allowed_of true a) (unpack_field x ∷ []) ≡ m → held v C (allowed_member b a n k) ≡ m
  member_allowed b a n k x m e h = some_held v C (stored_at b n k) (unpack_field x) true a m (stored_typed b n k x (unpack_field x) e refl) h

  -- what is packed, or of another type
  packed_or_other : (f : OperatorFault) (b : Bool) (a : Access) (n k : ℕ) (x : Field UnpackedIndex) (rest : List Action) (old : State UnpackedIndex)
      → member_in C b n k ≡ Some x → (not (is_packed x.storage) && match_some (world C) (allowed_of true a) (unpack_field x ∷ [])) ≡ false
      → (held v C (packed_at false b n k) ≡ false → Took (Err (Refused f)) (acted v C rest) old old)
      → Took (Err (Refused f)) (acted v C (need (allowed_member b a n k) ∷ rest)) old old
  packed_or_other f b a n k x rest old e s h =
      elim (either_false (not (is_packed x.storage)) (match_some (world C) (allowed_of true a) (unpack_field x ∷ [])) s) [
        | inl p ↦ refused_later v C f (allowed_member b a n k) rest old old (h (member_packed false b n k x false e p))
        | inr p ↦ refused_here v C f (allowed_member b a n k) rest old (member_allowed b a n k x false e p)
      ]

  not_stored : (f : OperatorFault) (b : Bool) (a : Access) (n k : ℕ) (x : Field UnpackedIndex) (old : State UnpackedIndex)
      → member_in C b n k ≡ Some x → stores (world C) a x ≡ false → Took (Err (Refused f)) (acted v C (need (allowed_member b a n k) ∷ after_allowed b a n k)) old old
  not_stored f b access.Get n k x old e s =
      packed_or_other f b access.Get n k x (after_allowed b access.Get n k) old e s
      (λ h. refused_here v C f (packed_at false b n k) (behind_member b access.Get n k) old h)
  not_stored f b access.Set n k x old e s =
      refused_here v C f (allowed_member b access.Set n k) (after_allowed b access.Set n k) old (member_allowed b access.Set n k x false e s)
  not_stored f b access.Compute n k x old e s =
      packed_or_other f b access.Compute n k x (after_allowed b access.Compute n k) old e s
      (λ h. behind_another f (mutable_at b n k) (packed_at false b n k) (behind_member b access.Compute n k) old h)
  not_stored f b access.Exchange n k x old e s =
      packed_or_other f b access.Exchange n k x (after_allowed b access.Exchange n k) old e s
      (λ h. behind_another f (mutable_at b n k) (packed_at false b n k) (behind_member b access.Exchange n k) old h)
  not_stored f b access.Compare n k x old e s =
      packed_or_other f b access.Compare n k x (after_allowed b access.Compare n k) old e s
      (λ h. behind_another f (mutable_at b n k) (packed_at false b n k) (behind_member b access.Compare n k) old h)

  pub member_barred : (f : OperatorFault) (b : Bool) (a : Access) (n k : ℕ) (old : State UnpackedIndex) → Barred v C gc n (member_in C b n k ≡ None)
      → Took (Err (Refused f)) (acted v C (actions_of (member_shape b a n k))) old old
  member_barred f b a n k old h =
      barred v C f gc n (need (allowed_member b a n k) ∷ after_allowed b a n k) old (member_in C b n k ≡ None)
      (λ e. refused_here v C f (allowed_member b a n k) (after_allowed b a n k) old (none_held v C (stored_at b n k) true a (stored_untyped b n k e))) h

  behind_type : (f : OperatorFault) (n : ℕ) (rest : List Action) (old : State UnpackedIndex) → Took (Err (Refused f)) (acted v C rest) old old
      → Took (Err (Refused f)) (acted v C (need (has gc) ∷ need (reaches_type n) ∷ rest)) old old
  behind_type f n rest old t = refused_later v C f (has gc) (need (reaches_type n) ∷ rest) old old (refused_later v C f (reaches_type n) rest old old t)

  with_type : (r : Result (Unit {0}) OperatorError) (n : ℕ) (rest : List Action) (old new : State UnpackedIndex) → held v C (has gc) ≡ true
      → held v C (reaches_type n) ≡ true → Took r (acted v C rest) old new → Took r (acted v C (need (has gc) ∷ need (reaches_type n) ∷ rest)) old new
  with_type r n rest old new g h t = needed v C r (has gc) (need (reaches_type n) ∷ rest) old new g (needed v C r (reaches_type n) rest old new h t)

  pub member_unwritten : (f : OperatorFault) (b : Bool) (a : Access) (n k : ℕ) (x : Field UnpackedIndex) (old : State UnpackedIndex) → member_in C b n k ≡ Some x
      → implies (is_writing a) x.mutable ≡ false → Took (Err (Refused f)) (acted v C (actions_of (member_shape b a n k))) old old
  member_unwritten f b a n k x old e h =
      behind_type f n (need (allowed_member b a n k) ∷ after_allowed b a n k) old
      (refused_later v C f (allowed_member b a n k) (after_allowed b a n k) old old
      (unwritten v C f a (mutable_at b n k) (given_checks b a n k) (behind_member b a n k) x.mutable old (member_mutable b n k x x.mutable e refl) h))

  pub member_unstored : (f : OperatorFault) (b : Bool) (a : Access) (n k : ℕ) (x : Field UnpackedIndex) (old : State UnpackedIndex) → member_in C b n k ≡ Some x
      → stores (world C) a x ≡ false → Took (Err (Refused f)) (acted v C (actions_of (member_shape b a n k))) old old
  member_unstored f b a n k x old e s = behind_type f n (need (allowed_member b a n k) ∷ after_allowed b a n k) old (not_stored f b a n k x old e s)

  pub member_accessed : (r : Result (Unit {0}) OperatorError) (b : Bool) (a : Access) (n k : ℕ) (i : UnpackedIndex) (x : Field UnpackedIndex) (xs : List (Val UnpackedIndex)) (y : Val UnpackedIndex) (old new : State UnpackedIndex)
      → Some i ≡ slice_get C.types n → member_in C b n k ≡ Some x → held v C (has gc) ≡ true → held v C (reaches_type n) ≡ true
      → implies (is_writing a) x.mutable ≡ true → stores (world C) a x ≡ true → xs ≡ place_in b i → y ≡ unpack_field x
      → Took r (exchanged (world C) (taken_seen a xs y) (given_seen a y) (state_of v)) old new → Took r (acted v C (actions_of (member_shape b a n k))) old new
  member_accessed r b a n k i x xs y old new d e g h m s p q t =
      with_type r n (need (allowed_member b a n k) ∷ after_allowed b a n k) old new g h
      (needed v C r (allowed_member b a n k) (after_allowed b a n k) old new (member_allowed b a n k x true e (stored_allowed (world C) a x s))
      (written v C r a (mutable_at b n k) (given_checks b a n k) (behind_member b a n k) x.mutable old new (member_mutable b n k x x.mutable e refl) m
      (not_packed r b a n k x (behind_member b a n k) old new e s
      (accessed v C r a (place_at b n) (stored_at b n k) xs y old new t (place_typed b n i xs d p) (stored_typed b n k x y e q)))))

  -- what is packed, and is given with a sign or without
  abbrev behind_packed : Bool → ℕ → ℕ → List Action
  behind_packed b n k = take (place_at b n) ∷ give (stored_at b n k) ∷ []

  pub packed_barred : (f : OperatorFault) (b : Bool) (n k : ℕ) (old : State UnpackedIndex) → Barred v C gc n (member_in C b n k ≡ None)
      → Took (Err (Refused f)) (acted v C (actions_of (packed_shape b n k))) old old
  packed_barred f b n k old h =
      barred v C f gc n (need (packed_at true b n k) ∷ behind_packed b n k) old (member_in C b n k ≡ None)
      (λ e. refused_here v C f (packed_at true b n k) (behind_packed b n k) old (member_missing true b n k e)) h

  pub packed_refused : (f : OperatorFault) (b : Bool) (n k : ℕ) (x : Field UnpackedIndex) (old : State UnpackedIndex) → member_in C b n k ≡ Some x
      → is_packed x.storage ≡ false → Took (Err (Refused f)) (acted v C (actions_of (packed_shape b n k))) old old
  packed_refused f b n k x old e h =
      behind_type f n (need (packed_at true b n k) ∷ behind_packed b n k) old
      (refused_here v C f (packed_at true b n k) (behind_packed b n k) old (member_packed true b n k x false e h))

  pub packed_given : (r : Result (Unit {0}) OperatorError) (b : Bool) (n k : ℕ) (i : UnpackedIndex) (x : Field UnpackedIndex) (xs : List (Val UnpackedIndex)) (y : Val UnpackedIndex) (old new : State UnpackedIndex)
      → Some i ≡ slice_get C.types n → member_in C b n k ≡ Some x → held v C (has gc) ≡ true → held v C (reaches_type n) ≡ true
      → is_packed x.storage ≡ true → xs ≡ place_in b i → y ≡ i32
      → Took r (exchanged (world C) xs (y ∷ []) (state_of v)) old new → Took r (acted v C (actions_of (packed_shape b n k))) old new
  packed_given r b n k i x xs y old new d e g h m p q t =
      with_type r n (need (packed_at true b n k) ∷ behind_packed b n k) old new g h
      (needed v C r (packed_at true b n k) (behind_packed b n k) old new (member_packed true b n k x true e m)
      (plainly v C r (place_at b n) (stored_at b n k) xs (y ∷ []) old new t (place_typed b n i xs d p)
      (stored_typed b n k x y e (q ∙ sym (packed_i32 x.storage m)))))

pub ruleset members = (member_barred, member_unwritten, member_unstored, member_accessed, packed_barred, packed_refused, packed_given)
