-- What the operators on structures name and check of a structure type.
use Rattle.std.proofs.Common.{◌≡◌, ℕ, Bool, true, false, not, ◌<◌, ◌≤◌, List, [], ◌∷◌, length, get_or, map, refl, sym, ◌∙◌, ap}
use Rattle.std.specs.Option.{option_map}
use Rattle.std.specs.Prelude.{Option, Some, None, is_some}
use Rattle.std.proofs.lemmas.Option.{slice_get-map, slice_get_read, slice_get_past, same_Some}
use Rattle.wasm_spec.specs.MatchingTests.{same_flag}
use Rattle.wasm_spec.specs.Syntax.{Val, exact, Field, Sub}
use Rattle.wasm_typing_checks.specs.WasmSpecRules.Contexts.{Context}
use Rattle.wasm_readers_types.specs.WasmReadersValues.SeenValues.{field_of, index_of}
use Rattle.wasm_readers_types.specs.WasmReadersValues.declared.indices.PackedIndex.{PackedIndex}
use Rattle.wasm_readers_types.specs.WasmReadersValues.declared.values.FieldType.{FieldType}
use Rattle.wasm_readers_types.specs.WasmReadersValues.declared.indices.UnpackedIndex.{UnpackedIndex}
use Rattle.wasm_typing_checks.specs.WasmSpecRules.Attempts.{◌>>=◌, passes}
use Rattle.wasm_typing_checks.specs.WasmSpecSteps.Actions.{gc, fields, field, descriptor_of, fields_have_defaults, has_no_descriptor, field_is_mutable, field_is_packed}
use Rattle.wasm_typing_checks.specs.WasmSpecSteps.Meanings.{ref_to, is_packed, unpack_field, all_have_defaults, one}
use Rattle.wasm_typing_checks.specs.WasmValidatorResources.Answers.{sub_in}
use Rattle.wasm_typing_checks.specs.WasmTypingStacks.declared.stacks.Stacks.{Stacks}
use Rattle.wasm_typing_checks.specs.Steps.{typed, held}
use Rattle.wasm_typing_checks.specs.DeclaredTypes.{fields_in, descriptor_in, Barred, is_off, is_unreached, is_missing}
use Rattle.wasm_typing_structs.specs.Fields.{field_in}

-- what is declared of a descriptor
described : (o : Option (Sub UnpackedIndex)) (d : Option UnpackedIndex) → option_map (λ s. s.descriptor) o ≡ Some d → (o >>= λ s. s.descriptor) ≡ d
described None d e = cc
described (Some s) d e = same_Some s.descriptor d e

no_descriptor : (o : Option (Sub UnpackedIndex)) (d : Option UnpackedIndex) → option_map (λ s. s.descriptor) o ≡ Some d → passes (λ s. not (is_some s.descriptor)) o ≡ not (is_some d)
no_descriptor None d e = cc
no_descriptor (Some s) d e = ap (λ x. not (is_some x)) (same_Some s.descriptor d e)

still_some : (o : Option PackedIndex) → is_some (option_map index_of o) ≡ is_some o
still_some None = refl
still_some (Some i) = refl

module _ {A : Type 0} (v : Stacks A) (C : Context UnpackedIndex) where
  -- the types of all fields, of one, and of descriptors
  pub fields_typed : (n : ℕ) (xs : List (Field UnpackedIndex)) → fields_in C n ≡ Some xs → typed v C (fields n) ≡ Some (map unpack_field xs)
  unfolding typed
  fields_typed n xs e = rw e refl

  pub fields_untyped : (n : ℕ) → fields_in C n ≡ None → typed v C (fields n) ≡ None
  unfolding typed
  fields_untyped n e = rw e refl

  pub field_typed : (n k : ℕ) (x : Field UnpackedIndex) (y : Val UnpackedIndex) → field_in C n k ≡ Some x → y ≡ unpack_field x → typed v C (field n k) ≡ Some (y ∷ [])
  unfolding typed
  field_typed n k x y e f = rw (e, f) refl

  pub descriptor_typed : (n : ℕ) (a : UnpackedIndex) (y : Val UnpackedIndex) → descriptor_in C n ≡ Some (Some a) → y ≡ ref_to true (exact a) → typed v C (descriptor_of n) ≡ Some (y ∷ [])
  unfolding typed
  descriptor_typed n a y e f = ap (λ o. one (option_map (λ b. ref_to true (exact b)) o)) (described (sub_in C n) (Some a) e) ∙ rw f refl

  pub descriptor_untyped : (n : ℕ) → descriptor_in C n ≡ Some None → typed v C (descriptor_of n) ≡ None
  unfolding typed
  descriptor_untyped n e = ap (λ o. one (option_map (λ b. ref_to true (exact b)) o)) (described (sub_in C n) None e)

  -- checks
  pub defaults_held : (n : ℕ) (xs : List (Field UnpackedIndex)) (b : Bool) → fields_in C n ≡ Some xs → all_have_defaults xs ≡ b → held v C (fields_have_defaults n) ≡ b
  unfolding held
  defaults_held n xs b e f = rw e f

  pub defaults_missing : (n : ℕ) → fields_in C n ≡ None → held v C (fields_have_defaults n) ≡ false
  unfolding held
  defaults_missing n e = rw e refl

  pub undescribed_held : (n : ℕ) (o : Option PackedIndex) (b c : Bool) → descriptor_in C n ≡ Some (option_map index_of o) → c ≡ is_some o → c ≡ b → held v C (has_no_descriptor n) ≡ not b
  unfolding held
  undescribed_held n o b c e f g = no_descriptor (sub_in C n) (option_map index_of o) e ∙ ap not (still_some o ∙ sym f ∙ g)

  pub mutable_held : (n k : ℕ) (x : Field UnpackedIndex) (b : Bool) → field_in C n k ≡ Some x → x.mutable ≡ b → held v C (field_is_mutable n k) ≡ b
  unfolding held
  mutable_held n k x b e f = rw e f

  pub mutable_missing : (n k : ℕ) → field_in C n k ≡ None → held v C (field_is_mutable n k) ≡ false
  unfolding held
  mutable_missing n k e = rw e refl

  pub packed_held : (p : Bool) (n k : ℕ) (x : Field UnpackedIndex) (b : Bool) → field_in C n k ≡ Some x → same_flag p (is_packed x.storage) ≡ b → held v C (field_is_packed p n k) ≡ b
  unfolding held
  packed_held p n k x b e f = rw e f

  pub packed_missing : (p : Bool) (n k : ℕ) → field_in C n k ≡ None → held v C (field_is_packed p n k) ≡ false
  unfolding held
  packed_missing p n k e = rw e refl

-- a field of a structure type
pub member_found : (C : Context UnpackedIndex) (n k : ℕ) (xs : List FieldType) (x : FieldType) → k < length xs → x ≡ get_or xs k x → fields_in C n ≡ Some (map field_of xs) → field_in C n k ≡ Some (field_of x)
member_found C n k xs x h f e = rw e (slice_get-map field_of xs k ∙ ap (option_map field_of) (slice_get_read xs (length xs) k x refl h f))

pub member_past : (C : Context UnpackedIndex) (n k : ℕ) (xs : List FieldType) → fields_in C n ≡ Some (map field_of xs) → length xs ≤ k → field_in C n k ≡ None
member_past C n k xs e h = rw e (slice_get-map field_of xs k ∙ ap (option_map field_of) (slice_get_past xs k h))

pub bars_members : {A : Type 0} (v : Stacks A) (C : Context UnpackedIndex) (n k : ℕ) → Barred v C gc n (fields_in C n ≡ None) → Barred v C gc n (field_in C n k ≡ None)
bars_members v C n k (is_off h) = is_off h
bars_members v C n k (is_unreached h) = is_unreached h
bars_members v C n k (is_missing e) = is_missing (rw e refl)

pub ruleset members = (member_found, member_past, bars_members, is_missing)

pub ruleset structures = (fields_typed, fields_untyped, field_typed, descriptor_typed, descriptor_untyped, defaults_held, defaults_missing, undescribed_held, mutable_held, mutable_missing, packed_held, packed_missing)
