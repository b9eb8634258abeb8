-- Block types that are resolved.
use Rattle.std.proofs.Common.{◌≡◌, ℕ, Bool, true, false, ◌&&◌, List, [], refl, ◌∙◌, ap}
use Rattle.std.specs.Option.{option_map}
use Rattle.std.specs.Prelude.{Option, Some, None, if◌then◌else◌}
use Rattle.wasm_spec.specs.Features.{Features}
use Rattle.wasm_spec.specs.Syntax.{Sub, Heap, abstract_heap, concrete, exact, Val, i32, i64, f32, f64, v128, reference, map_heap, map_val}
use Rattle.wasm_spec.specs.ValueTypes.{implies, allows_heap, allows_val}
use Rattle.wasm_spec_rules.specs.Contexts.{Context}
use Rattle.wasm_spec_rules.specs.FeatureFlags.{features_of}
use Rattle.wasm_readers_types.specs.WasmReadersValues.declared.indices.UnpackedIndex.{UnpackedIndex}
use Rattle.wasm_operators.specs.Control.{Block, empty_block, value_block, func_block}
use Rattle.wasm_spec_rules.specs.Attempts.{◌>>=◌, guard, passes}
use Rattle.wasm_spec_rules.specs.Signatures.{Signature, signature_of}
use Rattle.wasm_typing_control.specs.WasmTypingChecks.WasmSpecSteps.Meanings.{resolve_block}
use Rattle.wasm_typing_control.specs.WasmTypingChecks.WasmValidatorResources.Answers.{sub_in, written_index, val_in, val_resolved}
use Rattle.wasm_typing_control.specs.WasmTypingChecks.WasmTypingStacks.declared.stacks.Stacks.{Stacks}
use Rattle.wasm_typing_control.specs.Callees.{type_in}
use Rattle.wasm_typing_blocks.specs.KnownBlockTypes.{taken_by, block_known}

-- the features allow a type whatever it is named by
module _ (F : Features) where
  same_heap : (b : Bool) (h : Heap UnpackedIndex) → allows_heap F b (map_heap written_index h) ≡ allows_heap F b h
  same_heap b (abstract_heap s k) = refl
  same_heap b (concrete i) = refl
  same_heap b (exact i) = refl

  pub same_allowed : (v : Val UnpackedIndex) → allows_val F (map_val written_index v) ≡ allows_val F v
  same_allowed i32 = refl
  same_allowed i64 = refl
  same_allowed f32 = refl
  same_allowed f64 = refl
  same_allowed v128 = refl
  same_allowed (reference r) = ap (λ b. F.reference_types && b) (same_heap r.nullable r.heap)

with_true : (b : Bool) → (b && true) ≡ b
with_true true = refl
with_true false = refl

none_either : {X : Type 0} (b : Bool) (o : Option X) → o ≡ None → (if b then o else None) ≡ None
none_either true o e = e
none_either false o e = refl

module _ {A : Type 0} (v : Stacks A) (C : Context UnpackedIndex) where
  abbrev if_allowed : Bool → Val UnpackedIndex → Option (Block UnpackedIndex × List (Val UnpackedIndex))
  if_allowed b u = if b then (resolve_block C.types (value_block (map_val written_index u)) >>= taken_by C) else None

  value_by : (u : Val UnpackedIndex) → block_known v C (value_block (map_val written_index u)) ≡ if_allowed (allows_val (features_of v.features) u) u
  unfolding block_known
  value_by u = ap (λ b. if_allowed b u) (with_true (allows_val (features_of v.features) (map_val written_index u)) ∙ same_allowed (features_of v.features) u)

  resolved_by : (b : Bool) (u w : Val UnpackedIndex) → (if b then val_resolved C u else None) ≡ Some w → if_allowed b u ≡ Some (value_block w, [])
  resolved_by true u w e = rw e refl
  resolved_by false u w e = cc

  unresolved_by : (b : Bool) (u : Val UnpackedIndex) → (if b then val_resolved C u else None) ≡ None → if_allowed b u ≡ None
  unresolved_by true u e = rw e refl
  unresolved_by false u e = refl

  pub value_known : (u w x : Val UnpackedIndex) (c : Block UnpackedIndex) → val_in C (features_of v.features) u ≡ Some w → x ≡ w → c ≡ value_block x → block_known v C (value_block (map_val written_index u)) ≡ Some (c, [])
  value_known u w x c e f g = value_by u ∙ rw (g, f) (resolved_by (allows_val (features_of v.features) u) u w e)

  pub value_unknown : (u : Val UnpackedIndex) → val_in C (features_of v.features) u ≡ None → block_known v C (value_block (map_val written_index u)) ≡ None
  value_unknown u e = value_by u ∙ unresolved_by (allows_val (features_of v.features) u) u e

  pub empty_known : (c : Block UnpackedIndex) → c ≡ empty_block → block_known v C empty_block ≡ Some (c, [])
  unfolding block_known
  empty_known c e = rw e refl

  pub function_off : (n : ℕ) → (features_of v.features).multi_value ≡ false → block_known v C (func_block n) ≡ None
  unfolding block_known
  function_off n e = rw e refl

  -- the block of a function type, and what it takes
  abbrev taking : ℕ → Signature UnpackedIndex → Block UnpackedIndex × List (Val UnpackedIndex)
  taking n g = (func_block n, g.takes)

  -- that block, where blocks of many types are allowed and by what is found of it
  abbrev by_type : Bool → Option (Sub UnpackedIndex) → ℕ → Option (Block UnpackedIndex × List (Val UnpackedIndex))
  by_type b o n = if b && (implies v.is_shared (passes (λ d. d.shared) o) && true) then option_map (taking n) (option_map (λ d. d.comp) o >>= signature_of) else None

  unguarded : (b c : Bool) (o : Option (Signature UnpackedIndex)) (n : ℕ) → (o >>= guard c) ≡ None → (if b && (c && true) then option_map (taking n) o else None) ≡ None
  unguarded false c o n e = refl
  unguarded true false o n e = refl
  unguarded true true None n e = refl
  unguarded true true (Some g) n e = cc

  unreached : (b : Bool) (o : Option (Sub UnpackedIndex)) (n : ℕ) → (o >>= λ d. signature_of d.comp >>= guard (implies v.is_shared d.shared)) ≡ None → by_type b o n ≡ None
  unreached b None n e = none_either (b && (implies v.is_shared false && true)) None refl
  unreached b (Some d) n e = unguarded b (implies v.is_shared d.shared) (signature_of d.comp) n e

  guarded : (c : Bool) (o : Option (Signature UnpackedIndex)) (n : ℕ) (g : Signature UnpackedIndex) → (o >>= guard c) ≡ Some g
      → (if true && (c && true) then option_map (taking n) o else None) ≡ Some (func_block n, g.takes)
  guarded c None n g e = cc
  guarded true (Some x) n g e = ap (option_map (taking n)) e
  guarded false (Some x) n g e = cc

  reached : (o : Option (Sub UnpackedIndex)) (n : ℕ) (g : Signature UnpackedIndex) → (o >>= λ d. signature_of d.comp >>= guard (implies v.is_shared d.shared)) ≡ Some g → by_type true o n ≡ Some (func_block n, g.takes)
  reached None n g e = cc
  reached (Some d) n g e = guarded (implies v.is_shared d.shared) (signature_of d.comp) n g e

  pub function_unreached : (n : ℕ) → type_in C v.is_shared n ≡ None → block_known v C (func_block n) ≡ None
  unfolding block_known type_in
  function_unreached n e = unreached (features_of v.features).multi_value (sub_in C n) n e

  pub function_known : (n : ℕ) (g : Signature UnpackedIndex) (c : Block UnpackedIndex) (vs : List (Val UnpackedIndex)) → (features_of v.features).multi_value ≡ true → type_in C v.is_shared n ≡ Some g → c ≡ func_block n → vs ≡ g.takes → block_known v C (func_block n) ≡ Some (c, vs)
  unfolding block_known type_in
  function_known n g c vs e f h i = rw (e, h, i) (reached (sub_in C n) n g f)

pub ruleset resolving = (value_known, value_unknown, empty_known, function_off, function_unreached, function_known)
