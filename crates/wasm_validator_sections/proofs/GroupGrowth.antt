-- What holds of a list of types and of each front of it goes back over a group that is added to it; and what is told of such a group.
use Rattle.std.proofs.Common.{◌≡◌, refl, sym, ap, subst, ◌∙◌, ℕ, ◌+◌, leb, List, ◌++◌, length, Some}
use Rattle.std.specs.Prelude.{IfErr}
use Rattle.std.specs.Option.{option_map}
use Rattle.std.specs.declared.result.Result.{Result}
use Rattle.std.specs.declared.result.Result.TheVariants.{Ok, Err}
use Rattle.wasm_spec.specs.Features.{Features}
use Rattle.wasm_spec.specs.Syntax.{Rec}
use Rattle.wasm_spec.specs.BinaryTypes.{rec_at}
use Rattle.wasm_spec.specs.GroupRules.{IsValidType}
use Rattle.wasm_spec.specs.Trees.{declared}
use Rattle.wasm_spec_rules.specs.FeatureFlags.{features_of}
use Rattle.wasm_spec_rules.proofs.Tests.{guarded, map_some, then_some}
use Rattle.wasm_readers.specs.WrittenIndices.{written}
use Rattle.wasm_readers_errors.specs.WasmReadersFeatures.declared.features.WasmFeatures.{WasmFeatures}
use Rattle.wasm_readers_types.specs.WasmReadersValues.declared.indices.UnpackedIndex.{UnpackedIndex}
use Rattle.wasm_validator_type_list.proofs.GroupMatching.{all-left}
use Rattle.wasm_validator_items.specs.WasmValidatorCore.WasmValidatorCanonical.Groups.{AreValid, with_written}
use Rattle.wasm_validator_items.proofs.WasmValidatorCore.WasmValidatorCanonical.Steps.{written_front}
use Rattle.wasm_validator_type_list.specs.DefTypes.{types_of_list}
use Rattle.wasm_validator_type_list.specs.ListViews.{Listing}
use Rattle.wasm_validator_types.specs.Spaces.{Spaces}
use Rattle.wasm_validator_items.specs.WasmValidatorCore.Errors.{IfContent}
use Rattle.wasm_validator_items.specs.WasmValidatorCore.AddedItemRefusals.{ToldOfAddedGroup}
use Rattle.wasm_validator_items.specs.WasmValidatorCore.declared.error.Error.{Error}
use Rattle.wasm_validator_items.specs.WasmValidatorCore.declared.limits.TheConstants.{MAX_TYPES}
use Rattle.wasm_validator_items.specs.WasmValidatorCore.Answers.{TypesSoFar, HasValidTypes}
use Rattle.wasm_validator_items.specs.WasmValidatorCore.Machine.{with_ids, add_group}
use Rattle.wasm_validator_sections.specs.Sections.{read_one}
use Rattle.wasm_validator_sections.specs.SectionFaults.{TellsOfGroup}

module _ (V : TypesSoFar → Type 0) (left : (us more : TypesSoFar) → V (us ++ more) → V us) (features : WasmFeatures) where
  abbrev Over : TypesSoFar × Spaces → Type 0
  Over p = V p.0

  pub group_back : (p q : TypesSoFar × Spaces) (g : Rec UnpackedIndex) → add_group features p g ≡ Some q → Over q → Over p
  group_back p q g e v =
      let w = with_written (features_of features) p.0 p.1.types g in
      let a = guarded (leb (length p.1.types + length g.types) MAX_TYPES) (option_map (with_ids p.1) w) q e in
      let b = map_some (with_ids p.1) w q a.1 in
      let front = written_front (features_of features) p.0 p.1.types g b.0 b.1 in
      left p.0 front.0 (subst V (sym (ap (λ (x : TypesSoFar × Spaces). x.0) b.2) ∙ front.1) v)

-- so it is with types that are valid
pub fronts_valid : (F : Features) (us more : TypesSoFar) → AreValid F (us ++ more) → AreValid F us
fronts_valid F us more v = all-left (IsValidType F declared) us more v

pub valid_back : (features : WasmFeatures) (p q : TypesSoFar × Spaces) (g : Rec UnpackedIndex) → add_group features p g ≡ Some q → HasValidTypes features q → HasValidTypes features p
valid_back features p q g e v = group_back (AreValid (features_of features)) (fronts_valid (features_of features)) features p q g e v

-- and over a group that is read and then added
pub read_group_back : (features : WasmFeatures) (p q : TypesSoFar × Spaces) (bytes more : List ℕ) → read_one (rec_at written) (add_group features) p bytes ≡ Some (q, more) → HasValidTypes features q → HasValidTypes features p
read_group_back features p q bytes more e v =
    let a = then_some (λ (x : Rec UnpackedIndex × List ℕ). option_map (λ (t : TypesSoFar × Spaces). (t, x.1)) (add_group features p x.0)) (rec_at written bytes) (q, more) e in
    let b = map_some (λ (t : TypesSoFar × Spaces). (t, a.0.1)) (add_group features p a.0.0) (q, more) a.2 in
    valid_back features p b.0 a.0.0 b.1 (subst (λ (x : (TypesSoFar × Spaces) × List ℕ). HasValidTypes features x.0) (sym b.2) v)

-- what the call tells of a group, over the types of its list
pub group_tells : {T A : Type 0} (features : WasmFeatures) (place : ℕ) (list : Listing A) (s : Spaces) (g : Rec UnpackedIndex) (r : Result T (Error A)) → IfErr r (IfContent (ToldOfAddedGroup features place list s g))
    → IfErr r (TellsOfGroup features place (types_of_list list, s) g)
group_tells features place list s g (Ok x) h = tt
group_tells features place list s g (Err e) h = record { list = list; are_types = refl; told = h }
