-- One recursion group in the list of types, and its ids behind those of the module.
use Rattle.std.proofs.Common.{ℕ, ◌≡◌, sym, ap, subst, ◌∙◌, ◌+◌, true, false, cond, leb, [], length, Some, None, arith}
use Rattle.std.specs.Option.{option_map}
use Rattle.std.specs.declared.result.Result.{Result}
use Rattle.std.specs.declared.result.Result.TheVariants as results
use Rattle.std.proofs.lemmas.Bool.{leb-true}
use Rattle.std.proofs.lemmas.Option.{none-some}
use Rattle.wasm_spec.specs.Syntax.{Rec}
use Rattle.wasm_spec_rules.specs.FeatureFlags.{features_of}
use Rattle.wasm_spec_rules.proofs.Tests.{guarded, map_some}
use Rattle.wasm_readers_types.specs.WasmReadersValues.declared.indices.UnpackedIndex.{UnpackedIndex}
use Rattle.wasm_readers_errors.specs.WasmReadersFeatures.declared.features.WasmFeatures.{WasmFeatures}
use Rattle.wasm_readers_errors.specs.declared.error.Refusal.{Refusal}
use Rattle.wasm_readers_errors.specs.declared.error.Error as below
use Rattle.wasm_readers_errors.specs.declared.error.Error.TheVariants as read
use Rattle.wasm_validator_checks.specs.WasmValidatorTypeList.ListViews.{Listing}
use Rattle.wasm_validator_checks.specs.WasmValidatorCanonical.Answers.{AddsNothing}
use Rattle.wasm_validator_checks.specs.WasmValidatorCanonical.Answers as canonical
use Rattle.wasm_validator_checks.specs.WasmValidatorCanonical.GroupFaults as told
use Rattle.wasm_validator_checks.specs.WasmValidatorCanonical.Groups.{AreValid, with_written}
use Rattle.wasm_validator_checks.proofs.WasmValidatorCanonical.Steps.{written_length, written_known}
use Rattle.wasm_validator_checks.specs.WasmValidatorTypeList.DefTypes.{types_of_list}
use Rattle.wasm_validator_checks.specs.WasmValidatorTypes.Spaces.{Spaces}
use Rattle.wasm_validator_core.specs.declared.limits.TheConstants.{MAX_TYPES}
use Rattle.wasm_validator_core.specs.declared.error.Error.{Error}
use Rattle.wasm_validator_core.specs.Errors.{IsAt, IfContent, lifted}
use Rattle.wasm_validator_core.specs.Answers.{TypesSoFar, IsNowhere, AddsWhere, HasValidTypes}
use Rattle.wasm_validator_core.specs.Machine.{with_ids, add_group}
use Rattle.wasm_validator_core.specs.OpenLists.{AreIdsOf}

-- a refusal, as the answer of a call that gives nothing
abbrev pub refusal : {A : Type 0} → Error A → Result (Unit {0}) (Error A)
refusal e = results.Err e

-- what is told of the list's refusal, which is handed on
pub lifted_tells : (A : Type 0) {P Q : Refusal → Type 0} (e : below.Error) → ((r : Refusal) → P r → Q r) → told.IfContent P e → IfContent Q (lifted {A = A} e)
lifted_tells A (read.Refused r) f h = f r h
lifted_tells A read.OutOfMemory f h = tt

-- a refusal that is handed on stands where it stood
pub lifted_at : (A : Type 0) (place : ℕ) (e : below.Error) → canonical.IsAt place e → IsAt place (lifted {A = A} e)
lifted_at A place (read.Refused r) h = h
lifted_at A place read.OutOfMemory h = tt

module _ (features : WasmFeatures) (us : TypesSoFar) (s : Spaces) (g : Rec UnpackedIndex) where
  -- too many types
  pub group_over : leb (length s.types + length g.types) MAX_TYPES ≡ false → IsNowhere (HasValidTypes features) (add_group features (us, s) g)
  group_over e q h v = none-some q (sym (ap (λ b. cond b (option_map (with_ids s) (with_written (features_of features) us s.types g)) None) e) ∙ h)

  -- a group that isn't added
  pub group_refused : (A : Type 0) (e : below.Error) (here : TypesSoFar × Spaces) → AddsNothing (features_of features) e (with_written (features_of features) us s.types g) → AddsWhere (HasValidTypes features) (refusal {A = A} (lifted e)) (add_group features (us, s) g) here
  group_refused A (read.Refused r) here h =
      λ q e v.
      let a = guarded (leb (length s.types + length g.types) MAX_TYPES) (option_map (with_ids s) (with_written (features_of features) us s.types g)) q e in
      let m = map_some (with_ids s) (with_written (features_of features) us s.types g) q a.1 in
      h m.0 m.1 (subst (λ (p : TypesSoFar × Spaces). AreValid (features_of features) p.0) (sym m.2) v)
  group_refused A read.OutOfMemory here h = tt

-- what adding a group says of the module, which has its ids and is otherwise as it was
module _ {A : Type 0} (features : WasmFeatures) (list list' : Listing A) (s s' : Spaces) (g : Rec UnpackedIndex) (few : leb (length s.types + length g.types) MAX_TYPES ≡ true)
    (e : with_written (features_of features) (types_of_list list) s.types g ≡ Some (types_of_list list', s'.types)) where
  many : length s'.types ≡ length s.types + length g.types
  many = written_length (features_of features) (types_of_list list) s.types g (types_of_list list', s'.types) e

  pub group_added : record s' { types = [] } ≡ record s { types = [] } → add_group features (types_of_list list, s) g ≡ Some (types_of_list list', s')
  group_added same = (λ i. cond (few i) (option_map (with_ids s) (e i)) None) ∙ ap (λ (t : Spaces). Some (types_of_list list', record t { types = s'.types })) (sym same)

  pub ids_of_new : AreIdsOf list s.types → AreIdsOf list' s'.types
  ids_of_new a =
      let room = leb-true (length s.types + length g.types) MAX_TYPES few in
      record { known = written_known (features_of features) (types_of_list list) s.types g (types_of_list list', s'.types) e a.known; few = omega (arith, room, many) }
