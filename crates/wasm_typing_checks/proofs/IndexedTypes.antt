-- Types that a type index names, and what bars an operator.
use Rattle.std.proofs.Common.{◌≡◌, ℕ, Bool, true, false, List, [], ◌∷◌, refl}
use Rattle.std.specs.Prelude.{Some, slice_get, Err}
use Rattle.wasm_validator_resources.specs.WasmSpec.Syntax.{Val, i32, concrete, Sub}
use Rattle.wasm_validator_resources.specs.WasmSpec.ValueTypes.{implies}
use Rattle.wasm_validator_resources.specs.WasmSpecRules.Contexts.{Context}
use Rattle.wasm_validator_resources.specs.WasmSpecRules.FeatureFlags.{features_of}
use Rattle.wasm_validator_resources.specs.WasmReadersTypes.WasmReadersValues.declared.indices.UnpackedIndex.{UnpackedIndex}
use Rattle.wasm_typing_stacks.specs.WasmSpecSteps.Actions.{Needed, has, reaches_type, these, new_reference, Action, need}
use Rattle.wasm_typing_stacks.specs.WasmSpecSteps.Machine.{State}
use Rattle.wasm_validator_resources.specs.WasmSpecRules.Signatures.{resolve_val}
use Rattle.wasm_typing_stacks.specs.WasmSpecSteps.Meanings.{ref_to}
use Rattle.wasm_typing_stacks.specs.WasmSpecSteps.Shapes.{nullable_to}
use Rattle.wasm_validator_resources.specs.Answers.{sub_in}
use Rattle.wasm_typing_stacks.specs.declared.stacks.Stacks.{Stacks}
use Rattle.wasm_typing_checks.specs.Steps.{Took, acted, typed, held}
use Rattle.wasm_typing_checks.specs.declared.faults.OperatorFault.{OperatorFault}
use Rattle.wasm_typing_checks.specs.declared.faults.OperatorError.TheVariants.{Refused}
use Rattle.wasm_typing_checks.proofs.ActionSteps.{refused_here, refused_later}
use Rattle.wasm_typing_checks.specs.DeclaredTypes.{new_heap, Barred, is_off, is_unreached, is_missing}

-- a written reference, and a number
pub nullable_resolved : (ts : List UnpackedIndex) (n : ℕ) (a : UnpackedIndex) (x : Val UnpackedIndex) → Some a ≡ slice_get ts n → x ≡ ref_to true (concrete a) → resolve_val ts (nullable_to n) ≡ Some x
nullable_resolved ts n a x e f = rw (← e, f) refl

pub i32_resolved : (ts : List UnpackedIndex) (x : Val UnpackedIndex) → x ≡ i32 → resolve_val ts i32 ≡ Some x
i32_resolved ts x e = rw e refl

module _ {A : Type 0} (v : Stacks A) (C : Context UnpackedIndex) where
  -- one written type more in front
  pub more_typed : (w : Val ℕ) (ws : List (Val ℕ)) (x : Val UnpackedIndex) (xs : List (Val UnpackedIndex)) → resolve_val C.types w ≡ Some x → typed v C (these ws) ≡ Some xs → typed v C (these (w ∷ ws)) ≡ Some (x ∷ xs)
  unfolding typed
  more_typed w ws x xs e f = rw (e, f) refl

  pub nullable_typed : (n : ℕ) (a : UnpackedIndex) (x : Val UnpackedIndex) → Some a ≡ slice_get C.types n → x ≡ ref_to true (concrete a) → typed v C (these (nullable_to n ∷ [])) ≡ Some (x ∷ [])
  unfolding typed
  nullable_typed n a x e f = rw (← e, f) refl

  pub new_typed : (n : ℕ) (a : UnpackedIndex) (x : Val UnpackedIndex) → Some a ≡ slice_get C.types n → x ≡ ref_to false (new_heap (features_of v.features).custom_descriptors a) → typed v C (new_reference n) ≡ Some (x ∷ [])
  unfolding typed
  new_typed n a x e f = rw (← e, f) refl

  pub reached_held : (n : ℕ) (d : Sub UnpackedIndex) (b : Bool) → Some d ≡ sub_in C n → implies v.is_shared d.shared ≡ b → held v C (reaches_type n) ≡ b
  unfolding held
  reached_held n d b e f = rw (← e) f

  -- what is barred is refused, where it is so for what is missing
  pub barred : (f : OperatorFault) (p : Needed) (n : ℕ) (rest : List Action) (old : State UnpackedIndex) (Missing : Type 0)
      → (Missing → Took (Err (Refused f)) (acted v C rest) old old) → Barred v C p n Missing → Took (Err (Refused f)) (acted v C (need (has p) ∷ need (reaches_type n) ∷ rest)) old old
  barred f p n rest old Missing k (is_off h) = refused_here v C f (has p) (need (reaches_type n) ∷ rest) old h
  barred f p n rest old Missing k (is_unreached h) = refused_later v C f (has p) (need (reaches_type n) ∷ rest) old old (refused_here v C f (reaches_type n) rest old h)
  barred f p n rest old Missing k (is_missing m) = refused_later v C f (has p) (need (reaches_type n) ∷ rest) old old (refused_later v C f (reaches_type n) rest old old (k m))

pub ruleset reaching = (reached_held, is_off, is_unreached, is_missing)

pub ruleset naming = (nullable_resolved, i32_resolved, more_typed, nullable_typed, new_typed)
