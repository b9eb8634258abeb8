-- What operators on tables look up.
use Rattle.std.proofs.Common.{◌≡◌, ◌⊎◌, inl, inr, ℕ, Bool, true, false, ◌&&◌, List, [], ◌∷◌, refl, sym, ◌∙◌, ap}
use Rattle.std.specs.Option.{option_map}
use Rattle.std.specs.Prelude.{Option, Some, None, Err, slice_get}
use Rattle.wasm_readers_errors.specs.WasmSpec.Syntax.{Val, reference, Table}
use Rattle.wasm_readers_errors.specs.WasmSpec.ValueTypes.{implies}
use Rattle.wasm_typing_checks.specs.WasmSpecRules.Contexts.{Context}
use Rattle.wasm_readers_types.specs.SeenExterns.{table_of}
use Rattle.wasm_readers_types.specs.WasmReadersValues.SeenValues.{ref_of}
use Rattle.wasm_readers_types.specs.declared.externs.TableType.{TableType}
use Rattle.wasm_readers_types.specs.WasmReadersValues.declared.values.RefType.{RefType}
use Rattle.wasm_readers_types.specs.WasmReadersValues.declared.indices.UnpackedIndex.{UnpackedIndex}
use Rattle.wasm_typing_checks.specs.WasmSpecSteps.Actions.{Action, need, table_address, lesser_table_address, table_element, segment, segment_is_there, reaches_table}
use Rattle.wasm_typing_checks.specs.WasmSpecRules.Attempts.{◌>>=◌, guard, passes}
use Rattle.wasm_typing_checks.specs.WasmSpecSteps.Machine.{State}
use Rattle.wasm_typing_checks.specs.WasmSpecSteps.Meanings.{address}
use Rattle.wasm_typing_checks.specs.WasmTypingStacks.declared.stacks.Stacks.{Stacks}
use Rattle.wasm_typing_checks.specs.Steps.{Took, acted, typed, held}
use Rattle.wasm_typing_checks.specs.declared.faults.OperatorFault.{OperatorFault}
use Rattle.wasm_typing_checks.specs.declared.faults.OperatorError.TheVariants.{Refused}
use Rattle.wasm_typing_checks.proofs.ActionSteps.{needed, refused_here}
use Rattle.wasm_typing_numbers.specs.ReachableTables.{table_in}

-- a table that is reached, and one that isn't
abbrev pub reached : Bool → Option (Table UnpackedIndex) → Option (Table UnpackedIndex)
reached b o = o >>= λ t. guard (implies b t.shared) t

guarded : {X : Type 0} (b : Bool) (x y : X) → guard b x ≡ Some y → (x ≡ y) × (b ≡ true)
guarded true x y e = let h : x ≡ y = cc in (h, refl)
guarded false x y e = cc

unguarded : {X : Type 0} (b : Bool) (x : X) → guard b x ≡ None → b ≡ false
unguarded true x e = cc
unguarded false x e = refl

there : (b : Bool) (o : Option (Table UnpackedIndex)) (t : Table UnpackedIndex) → reached b o ≡ Some t → (o ≡ Some t) × (implies b t.shared ≡ true)
there b None t e = cc
there b (Some x) t e = let p = guarded (implies b x.shared) x t e in (ap Some p.0, ap (λ z. implies b z.shared) (sym p.0) ∙ p.1)

not_there : (b : Bool) (o : Option (Table UnpackedIndex)) → reached b o ≡ None → implies b (passes (λ t. t.shared) o) ≡ true → o ≡ None
not_there b None e h = refl
not_there b (Some x) e h = let p = unguarded (implies b x.shared) x e in cc

is_or_not : (b : Bool) → (b ≡ true) ⊎ (b ≡ false)
is_or_not true = inl refl
is_or_not false = inr refl

-- what code finds is what is reached
module _ (C : Context UnpackedIndex) (b : Bool) (n : ℕ) where
  pub is_reached : (t : TableType) → option_map table_of (Some t) ≡ slice_get C.tables n → implies b t.shared ≡ true → table_in C b n ≡ Some (table_of t)
  unfolding table_in
  is_reached t e h = rw (← e, h) refl

  pub isnt_reached : (t : TableType) → option_map table_of (Some t) ≡ slice_get C.tables n → implies b t.shared ≡ false → table_in C b n ≡ None
  unfolding table_in
  isnt_reached t e h = rw (← e, h) refl

  pub isnt_there : option_map table_of None ≡ slice_get C.tables n → table_in C b n ≡ None
  unfolding table_in
  isnt_there e = rw (← e) refl

module _ {A : Type 0} (v : Stacks A) (C : Context UnpackedIndex) where
  in_place : (n : ℕ) (t : TableType) → table_in C v.is_shared n ≡ Some (table_of t) → slice_get C.tables n ≡ Some (table_of t)
  unfolding table_in
  in_place n t e = (there v.is_shared (slice_get C.tables n) (table_of t) e).0

  pub table_held : (n : ℕ) (t : TableType) → table_in C v.is_shared n ≡ Some (table_of t) → held v C (reaches_table n) ≡ true
  unfolding table_in held
  table_held n t e = let p = there v.is_shared (slice_get C.tables n) (table_of t) e in rw (p.0) (p.1)

  pub address_typed : (n : ℕ) (t : TableType) (x : Val UnpackedIndex) → table_in C v.is_shared n ≡ Some (table_of t) → x ≡ address t.table64 → typed v C (table_address n) ≡ Some (x ∷ [])
  unfolding typed
  address_typed n t x e f = rw (in_place n t e, f) refl

  pub lesser_typed : (n k : ℕ) (t u : TableType) (x : Val UnpackedIndex) → table_in C v.is_shared n ≡ Some (table_of t) → table_in C v.is_shared k ≡ Some (table_of u) → x ≡ address (t.table64 && u.table64) → typed v C (lesser_table_address n k) ≡ Some (x ∷ [])
  unfolding typed
  lesser_typed n k t u x e f g = rw (in_place n t e, in_place k u f, g) refl

  pub element_typed : (n : ℕ) (t : TableType) (x : Val UnpackedIndex) → table_in C v.is_shared n ≡ Some (table_of t) → x ≡ reference (ref_of t.element_type) → typed v C (table_element n) ≡ Some (x ∷ [])
  unfolding typed
  element_typed n t x e f = rw (in_place n t e, f) refl

  -- a table that isn't there, or isn't reached
  pub address_untyped : (n : ℕ) → slice_get C.tables n ≡ None → typed v C (table_address n) ≡ None
  unfolding typed
  address_untyped n e = rw e refl

  pub element_untyped : (n : ℕ) → slice_get C.tables n ≡ None → typed v C (table_element n) ≡ None
  unfolding typed
  element_untyped n e = rw e refl

  gone : (n : ℕ) → table_in C v.is_shared n ≡ None → held v C (reaches_table n) ≡ true → slice_get C.tables n ≡ None
  unfolding table_in held
  gone n e h = not_there v.is_shared (slice_get C.tables n) e h

  pub unreached : (f : OperatorFault) (n : ℕ) (rest : List Action) (old : State UnpackedIndex) → table_in C v.is_shared n ≡ None → (slice_get C.tables n ≡ None → Took (Err (Refused f)) (acted v C rest) old old) → Took (Err (Refused f)) (acted v C (need (reaches_table n) ∷ rest)) old old
  unreached f n rest old e h = elim (is_or_not (held v C (reaches_table n))) [ inl p ↦ needed v C (Err (Refused f)) (reaches_table n) rest old old p (h (gone n e p)) | inr p ↦ refused_here v C f (reaches_table n) rest old p ]

  -- element segments
  pub segment_typed : (n : ℕ) (r : RefType) (x : Val UnpackedIndex) → option_map ref_of (Some r) ≡ slice_get C.elements n → x ≡ reference (ref_of r) → typed v C (segment n) ≡ Some (x ∷ [])
  unfolding typed
  segment_typed n r x e f = rw (← e, f) refl

  pub segment_untyped : (n : ℕ) → option_map ref_of None ≡ slice_get C.elements n → typed v C (segment n) ≡ None
  unfolding typed
  segment_untyped n e = rw (← e) refl

  pub segment_held : (n : ℕ) (r : RefType) → option_map ref_of (Some r) ≡ slice_get C.elements n → held v C (segment_is_there n) ≡ true
  unfolding held
  segment_held n r e = rw (← e) refl

  pub segment_missing : (n : ℕ) → option_map ref_of None ≡ slice_get C.elements n → held v C (segment_is_there n) ≡ false
  unfolding held
  segment_missing n e = rw (← e) refl

pub ruleset tables = (table_held, address_typed, lesser_typed, element_typed, address_untyped, element_untyped, unreached, segment_typed, segment_untyped, segment_held, segment_missing)
