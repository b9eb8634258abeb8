-- What atomic accesses take and give, and the checks that they have in common; globals and tables that they reach.
use Rattle.std.proofs.Common.{◌≡◌, ℕ, Bool, true, false, List, [], ◌∷◌, ◌++◌, refl, ◌∙◌, subst}
use Rattle.std.specs.Prelude.{Some, None, Result, Err, slice_get}
use Rattle.wasm_spec.specs.Syntax.{Val, reference}
use Rattle.wasm_spec.specs.ValueTypes.{implies}
use Rattle.wasm_readers_types.specs.SeenExterns.{global_of, table_of}
use Rattle.wasm_readers_types.specs.WasmReadersValues.SeenValues.{ref_of, val_of}
use Rattle.wasm_readers_types.specs.WasmReadersValues.declared.indices.UnpackedIndex.{UnpackedIndex}
use Rattle.wasm_readers_types.specs.declared.externs.GlobalType.{GlobalType}
use Rattle.wasm_readers_types.specs.declared.externs.TableType.{TableType}
use Rattle.wasm_typing_checks.specs.WasmSpecRules.Contexts.{Context}
use Rattle.wasm_typing_checks.specs.WasmSpecSteps.Access.{Access}
use Rattle.wasm_typing_checks.specs.WasmSpecSteps.Access.TheVariants as access
use Rattle.wasm_typing_checks.specs.WasmSpecSteps.Actions.{OperandTypes, joined, global, table_address, table_element, Check, each_matches_some, global_is_mutable, reaches_global, reaches_table, Action, need, take, give}
use Rattle.wasm_typing_checks.specs.WasmSpecSteps.Machine.{State}
use Rattle.wasm_typing_checks.specs.WasmSpecSteps.Matching.{match_some}
use Rattle.wasm_typing_checks.specs.WasmSpecSteps.Meanings.{address}
use Rattle.wasm_typing_checks.specs.WasmSpecSteps.Shapes.{allowed_types, where_written, access_taken, access_given, nothing}
use Rattle.wasm_typing_checks.specs.WasmSpecSteps.Steps.{checked}
use Rattle.wasm_typing_checks.specs.WasmValidatorResources.Answers.{world}
use Rattle.wasm_typing_checks.specs.WasmTypingStacks.BodyStacks.{state_of}
use Rattle.wasm_typing_checks.specs.WasmTypingStacks.declared.stacks.Stacks.{Stacks}
use Rattle.wasm_typing_checks.specs.Steps.{Took, acted, typed, held}
use Rattle.wasm_typing_checks.specs.SeenTypes.{exchanged}
use Rattle.wasm_typing_checks.specs.declared.faults.OperatorFault.{OperatorFault}
use Rattle.wasm_typing_checks.specs.declared.faults.OperatorError.{OperatorError}
use Rattle.wasm_typing_checks.specs.declared.faults.OperatorError.TheVariants.{Refused}
use Rattle.wasm_typing_checks.proofs.ActionSteps.{needed, refused_here, refused_later, plainly}
use Rattle.wasm_typing_checks.proofs.TypeLookups.{nothing_typed, both_typed}
use Rattle.wasm_typing_structs.specs.AtomicOperands.{allowed_of, is_writing, taken_seen, given_seen}

module _ {A : Type 0} (v : Stacks A) (C : Context UnpackedIndex) where
  -- the types that an access allows name no type of the module
  allowed_typed : (shared : Bool) (a : Access) → typed v C (allowed_types shared a) ≡ Some (allowed_of shared a)
  unfolding typed
  allowed_typed shared access.Get = refl
  allowed_typed shared access.Set = refl
  allowed_typed shared access.Compute = refl
  allowed_typed shared access.Exchange = refl
  allowed_typed shared access.Compare = refl

  pub some_held : (t : OperandTypes) (x : Val UnpackedIndex) (shared : Bool) (a : Access) (b : Bool) → typed v C t ≡ Some (x ∷ [])
      → match_some (world C) (allowed_of shared a) (x ∷ []) ≡ b → held v C (each_matches_some t (allowed_types shared a)) ≡ b
  unfolding held typed
  some_held t x shared a b e f = rw (e, allowed_typed shared a) f

  pub none_held : (t : OperandTypes) (shared : Bool) (a : Access) → typed v C t ≡ None → held v C (each_matches_some t (allowed_types shared a)) ≡ false
  unfolding held typed
  none_held t shared a e = rw e refl

  -- what an access takes and gives
  taken_typed : (a : Access) (t u : OperandTypes) (xs : List (Val UnpackedIndex)) (x : Val UnpackedIndex) → typed v C t ≡ Some xs → typed v C u ≡ Some (x ∷ [])
      → typed v C (access_taken a t u) ≡ Some (taken_seen a xs x)
  taken_typed access.Get t u xs x e f = e
  taken_typed access.Set t u xs x e f = both_typed v C t u xs (x ∷ []) e f
  taken_typed access.Compute t u xs x e f = both_typed v C t u xs (x ∷ []) e f
  taken_typed access.Exchange t u xs x e f = both_typed v C t u xs (x ∷ []) e f
  taken_typed access.Compare t u xs x e f = both_typed v C t (joined u u) xs (x ∷ x ∷ []) e (both_typed v C u u (x ∷ []) (x ∷ []) f f)

  given_typed : (a : Access) (u : OperandTypes) (x : Val UnpackedIndex) → typed v C u ≡ Some (x ∷ []) → typed v C (access_given a u) ≡ Some (given_seen a x)
  given_typed access.Get u x f = f
  given_typed access.Set u x f = nothing_typed v C
  given_typed access.Compute u x f = f
  given_typed access.Exchange u x f = f
  given_typed access.Compare u x f = f

  pub accessed : (r : Result (Unit {0}) OperatorError) (a : Access) (t u : OperandTypes) (xs : List (Val UnpackedIndex)) (x : Val UnpackedIndex) (old new : State UnpackedIndex)
      → Took r (exchanged (world C) (taken_seen a xs x) (given_seen a x) (state_of v)) old new → typed v C t ≡ Some xs → typed v C u ≡ Some (x ∷ [])
      → Took r (acted v C (take (access_taken a t u) ∷ give (access_given a u) ∷ [])) old new
  accessed r a t u xs x old new k e f =
      plainly v C r (access_taken a t u) (access_given a u) (taken_seen a xs x) (given_seen a x) old new k (taken_typed a t u xs x e f) (given_typed a u x f)

  -- what is written is mutable
  pub written : (r : Result (Unit {0}) OperatorError) (a : Access) (c : Check) (cs : List Check) (rest : List Action) (m : Bool) (old new : State UnpackedIndex)
      → held v C c ≡ m → implies (is_writing a) m ≡ true → Took r (acted v C (checked cs rest)) old new
      → Took r (acted v C (checked (where_written a (c ∷ []) ++ cs) rest)) old new
  written r access.Get c cs rest m old new h w t = t
  written r access.Set c cs rest m old new h w t = needed v C r c (checked cs rest) old new (h ∙ w) t
  written r access.Compute c cs rest m old new h w t = needed v C r c (checked cs rest) old new (h ∙ w) t
  written r access.Exchange c cs rest m old new h w t = needed v C r c (checked cs rest) old new (h ∙ w) t
  written r access.Compare c cs rest m old new h w t = needed v C r c (checked cs rest) old new (h ∙ w) t

  pub unwritten : (f : OperatorFault) (a : Access) (c : Check) (cs : List Check) (rest : List Action) (m : Bool) (old : State UnpackedIndex)
      → held v C c ≡ m → implies (is_writing a) m ≡ false → Took (Err (Refused f)) (acted v C (checked (where_written a (c ∷ []) ++ cs) rest)) old old
  unwritten f access.Get c cs rest m old h w = cc
  unwritten f access.Set c cs rest m old h w = refused_here v C f c (checked cs rest) old (h ∙ w)
  unwritten f access.Compute c cs rest m old h w = refused_here v C f c (checked cs rest) old (h ∙ w)
  unwritten f access.Exchange c cs rest m old h w = refused_here v C f c (checked cs rest) old (h ∙ w)
  unwritten f access.Compare c cs rest m old h w = refused_here v C f c (checked cs rest) old (h ∙ w)

  -- the same with no further checks
  ended : (a : Access) (c : Check) → (where_written a (c ∷ []) ++ []) ≡ where_written a (c ∷ [])
  ended access.Get c = refl
  ended access.Set c = refl
  ended access.Compute c = refl
  ended access.Exchange c = refl
  ended access.Compare c = refl

  with_rest : (r : Result (Unit {0}) OperatorError) (rest : List Action) (old new : State UnpackedIndex) (cs ds : List Check) → cs ≡ ds
      → Took r (acted v C (checked cs rest)) old new → Took r (acted v C (checked ds rest)) old new
  with_rest r rest old new cs ds e t = subst (λ x. Took r (acted v C (checked x rest)) old new) e t

  -- globals
  global_typed : (n : ℕ) (g : GlobalType) (x : Val UnpackedIndex) → Some (global_of g) ≡ slice_get C.globals n → x ≡ val_of g.content_type → typed v C (global n) ≡ Some (x ∷ [])
  unfolding typed
  global_typed n g x e f = rw (← e, f) refl

  global_untyped : (n : ℕ) → None ≡ slice_get C.globals n → typed v C (global n) ≡ None
  unfolding typed
  global_untyped n e = rw (← e) refl

  global_held : (n : ℕ) (g : GlobalType) (b : Bool) → Some (global_of g) ≡ slice_get C.globals n → g.mutable ≡ b → held v C (global_is_mutable n) ≡ b
  unfolding held
  global_held n g b e f = rw (← e) f

  global_reached : (n : ℕ) (g : GlobalType) (b : Bool) → Some (global_of g) ≡ slice_get C.globals n → implies v.is_shared g.shared ≡ b → held v C (reaches_global n) ≡ b
  unfolding held
  global_reached n g b e f = rw (← e) f

  abbrev behind_global : Access → ℕ → List Action
  behind_global a n = take (access_taken a nothing (global n)) ∷ give (access_given a (global n)) ∷ []

  abbrev after_matching : Access → ℕ → List Action
  after_matching a n = checked (where_written a (global_is_mutable n ∷ [])) (behind_global a n)

  abbrev allowed_global : Access → ℕ → Check
  allowed_global a n = each_matches_some (global n) (allowed_types false a)

  abbrev to_global : Access → ℕ → List Action
  to_global a n = need (reaches_global n) ∷ need (allowed_global a n) ∷ after_matching a n

  pub global_missing : (f : OperatorFault) (a : Access) (n : ℕ) (old : State UnpackedIndex) → None ≡ slice_get C.globals n
      → Took (Err (Refused f)) (acted v C (to_global a n)) old old
  global_missing f a n old e =
      refused_later v C f (reaches_global n) (need (allowed_global a n) ∷ after_matching a n) old old
      (refused_here v C f (allowed_global a n) (after_matching a n) old (none_held (global n) false a (global_untyped n e)))

  pub global_unreached : (f : OperatorFault) (a : Access) (n : ℕ) (g : GlobalType) (old : State UnpackedIndex) → Some (global_of g) ≡ slice_get C.globals n
      → implies v.is_shared g.shared ≡ false → Took (Err (Refused f)) (acted v C (to_global a n)) old old
  global_unreached f a n g old e h = refused_here v C f (reaches_global n) (need (allowed_global a n) ∷ after_matching a n) old (global_reached n g false e h)

  pub global_unwritten : (f : OperatorFault) (a : Access) (n : ℕ) (g : GlobalType) (old : State UnpackedIndex) → Some (global_of g) ≡ slice_get C.globals n
      → implies (is_writing a) g.mutable ≡ false → Took (Err (Refused f)) (acted v C (to_global a n)) old old
  global_unwritten f a n g old e h =
      refused_later v C f (reaches_global n) (need (allowed_global a n) ∷ after_matching a n) old old
      (refused_later v C f (allowed_global a n) (after_matching a n) old old
      (with_rest (Err (Refused f)) (behind_global a n) old old _ _ (ended a (global_is_mutable n))
      (unwritten f a (global_is_mutable n) [] (behind_global a n) g.mutable old (global_held n g g.mutable e refl) h)))

  pub global_unallowed : (f : OperatorFault) (a : Access) (n : ℕ) (g : GlobalType) (old : State UnpackedIndex) → Some (global_of g) ≡ slice_get C.globals n
      → match_some (world C) (allowed_of false a) (val_of g.content_type ∷ []) ≡ false → Took (Err (Refused f)) (acted v C (to_global a n)) old old
  global_unallowed f a n g old e h =
      refused_later v C f (reaches_global n) (need (allowed_global a n) ∷ after_matching a n) old old
      (refused_here v C f (allowed_global a n) (after_matching a n) old
      (some_held (global n) (val_of g.content_type) false a false (global_typed n g (val_of g.content_type) e refl) h))

  pub global_accessed : (r : Result (Unit {0}) OperatorError) (a : Access) (n : ℕ) (g : GlobalType) (x : Val UnpackedIndex) (old new : State UnpackedIndex)
      → Some (global_of g) ≡ slice_get C.globals n → implies v.is_shared g.shared ≡ true → implies (is_writing a) g.mutable ≡ true
      → match_some (world C) (allowed_of false a) (val_of g.content_type ∷ []) ≡ true → x ≡ val_of g.content_type
      → Took r (exchanged (world C) (taken_seen a [] x) (given_seen a x) (state_of v)) old new → Took r (acted v C (to_global a n)) old new
  global_accessed r a n g x old new e s m h f k =
      needed v C r (reaches_global n) (need (allowed_global a n) ∷ after_matching a n) old new (global_reached n g true e s)
      (needed v C r (allowed_global a n) (after_matching a n) old new
      (some_held (global n) (val_of g.content_type) false a true (global_typed n g (val_of g.content_type) e refl) h)
      (with_rest r (behind_global a n) old new _ _ (ended a (global_is_mutable n))
      (written r a (global_is_mutable n) [] (behind_global a n) g.mutable old new (global_held n g g.mutable e refl) m
      (accessed r a nothing (global n) [] x old new k (nothing_typed v C) (global_typed n g x e f)))))

  -- tables
  table_typed : (n : ℕ) (t : TableType) (x : Val UnpackedIndex) → Some (table_of t) ≡ slice_get C.tables n → x ≡ reference (ref_of t.element_type)
      → typed v C (table_element n) ≡ Some (x ∷ [])
  unfolding typed
  table_typed n t x e f = rw (← e, f) refl

  table_untyped : (n : ℕ) → None ≡ slice_get C.tables n → typed v C (table_element n) ≡ None
  unfolding typed
  table_untyped n e = rw (← e) refl

  address_typed : (n : ℕ) (t : TableType) (x : Val UnpackedIndex) → Some (table_of t) ≡ slice_get C.tables n → x ≡ address t.table64
      → typed v C (table_address n) ≡ Some (x ∷ [])
  unfolding typed
  address_typed n t x e f = rw (← e, f) refl

  table_reached : (n : ℕ) (t : TableType) (b : Bool) → Some (table_of t) ≡ slice_get C.tables n → implies v.is_shared t.shared ≡ b → held v C (reaches_table n) ≡ b
  unfolding held
  table_reached n t b e f = rw (← e) f

  abbrev behind_table : Access → ℕ → List Action
  behind_table a n = take (access_taken a (table_address n) (table_element n)) ∷ give (access_given a (table_element n)) ∷ []

  abbrev allowed_table : Access → ℕ → Check
  allowed_table a n = each_matches_some (table_element n) (allowed_types true a)

  abbrev to_table : Access → ℕ → List Action
  to_table a n = need (reaches_table n) ∷ need (allowed_table a n) ∷ behind_table a n

  pub table_missing : (f : OperatorFault) (a : Access) (n : ℕ) (old : State UnpackedIndex) → None ≡ slice_get C.tables n
      → Took (Err (Refused f)) (acted v C (to_table a n)) old old
  table_missing f a n old e =
      refused_later v C f (reaches_table n) (need (allowed_table a n) ∷ behind_table a n) old old
      (refused_here v C f (allowed_table a n) (behind_table a n) old (none_held (table_element n) true a (table_untyped n e)))

  pub table_unreached : (f : OperatorFault) (a : Access) (n : ℕ) (t : TableType) (old : State UnpackedIndex) → Some (table_of t) ≡ slice_get C.tables n
      → implies v.is_shared t.shared ≡ false → Took (Err (Refused f)) (acted v C (to_table a n)) old old
  table_unreached f a n t old e h = refused_here v C f (reaches_table n) (need (allowed_table a n) ∷ behind_table a n) old (table_reached n t false e h)

  pub table_unallowed : (f : OperatorFault) (a : Access) (n : ℕ) (t : TableType) (old : State UnpackedIndex) → Some (table_of t) ≡ slice_get C.tables n
      → match_some (world C) (allowed_of true a) (reference (ref_of t.element_type) ∷ []) ≡ false → Took (Err (Refused f)) (acted v C (to_table a n)) old old
  table_unallowed f a n t old e h =
      refused_later v C f (reaches_table n) (need (allowed_table a n) ∷ behind_table a n) old old
      (refused_here v C f (allowed_table a n) (behind_table a n) old
      (some_held (table_element n) (reference (ref_of t.element_type)) true a false (table_typed n t (reference (ref_of t.element_type)) e refl) h))

  pub table_accessed : (r : Result (Unit {0}) OperatorError) (a : Access) (n : ℕ) (t : TableType) (y x : Val UnpackedIndex) (old new : State UnpackedIndex)
      → Some (table_of t) ≡ slice_get C.tables n → implies v.is_shared t.shared ≡ true
      → match_some (world C) (allowed_of true a) (reference (ref_of t.element_type) ∷ []) ≡ true → y ≡ address t.table64 → x ≡ reference (ref_of t.element_type)
      → Took r (exchanged (world C) (taken_seen a (y ∷ []) x) (given_seen a x) (state_of v)) old new → Took r (acted v C (to_table a n)) old new
  table_accessed r a n t y x old new e s h d f k =
      needed v C r (reaches_table n) (need (allowed_table a n) ∷ behind_table a n) old new (table_reached n t true e s)
      (needed v C r (allowed_table a n) (behind_table a n) old new
      (some_held (table_element n) (reference (ref_of t.element_type)) true a true (table_typed n t (reference (ref_of t.element_type)) e refl) h)
      (accessed r a (table_address n) (table_element n) (y ∷ []) x old new k (address_typed n t y e d) (table_typed n t x e f)))

pub ruleset sharing = (global_missing, global_unreached, global_unwritten, global_unallowed, global_accessed, table_missing, table_unreached, table_unallowed, table_accessed)
