-- What is kept of a validator's list of types for constant expressions, where a type section was added.
use Rattle.std.proofs.Common.{◌≡◌, sym, ap, subst, ◌∙◌, ℕ, List, [], ◌++◌, append_assoc}
use Rattle.std.proofs.lemmas.List.{append-nil}
use Rattle.std.specs.declared.result.Result.{Result}
use Rattle.std.specs.declared.result.Result.TheVariants as results
use Rattle.wasm_spec.specs.TypeLaws.{HasNoRepetition}
use Rattle.wasm_readers_errors.specs.WasmReadersFeatures.declared.features.WasmFeatures.{WasmFeatures}
use Rattle.wasm_readers_types.specs.declared.types.SubType.{SubType}
use Rattle.wasm_validator_type_list.specs.ListViews.{Listing}
use Rattle.wasm_validator_type_list.specs.GroupOrder.{AreListable}
use Rattle.wasm_validator_type_list.specs.DefTypes.{def_types, types_of_list}
use Rattle.wasm_validator_types.specs.Spaces.{Spaces}
use Rattle.wasm_validator_sections.specs.WasmValidatorCore.Answers.{TypesSoFar, AddsWhere, HasValidTypes}
use Rattle.wasm_validator_sections.specs.WasmValidatorCore.declared.error.Error.{Error}
use Rattle.wasm_validator_sections.specs.WasmLawsCore.WasmValidatorCoreResources.ById.{AreFirstByIds}
use Rattle.wasm_validator_sections.proofs.WasmLawsCore.GrownLists.{first_types_stay_first}
use Rattle.wasm_validator_sections.specs.declared.module_state.ModuleState.{ModuleState}
use Rattle.wasm_validator_sections.specs.Machine.{type_items}
use Rattle.wasm_validator_states.specs.ModuleInvariants.{AreFirstIn}
use Rattle.wasm_validator_states.specs.Views.{state_kept}
use Rattle.wasm_validator_states.proofs.ListGrowth as growing

-- a list of types that ends as this one goes on to it
abbrev GoesOn : TypesSoFar → TypesSoFar → Type 0
GoesOn end us = (more : TypesSoFar) × (end ≡ us ++ more)

goes_on_back : (end us more : TypesSoFar) → GoesOn end (us ++ more) → GoesOn end us
goes_on_back end us more h = (more ++ h.0, h.1 ∙ append_assoc us more h.0)

module _ {T A : Type 0} (features : WasmFeatures) (old new : Listing A) (types : List (SubType A)) (before : Spaces) (m : ModuleState A) (count : ℕ) (bytes : List ℕ) where
  pub grown-first : (r : Result T (Error A)) → AreListable old.groups → AreListable new.groups → HasNoRepetition (types_of_list new) → new.is_canonical ≡ old.is_canonical
      → AddsWhere (HasValidTypes features) r (type_items features count bytes (types_of_list old, before)) (types_of_list new, m.«module») → AreFirstByIds old.groups types → AreFirstIn new types (state_kept r m)
  grown-first (results.Ok x) listable listable' apart mode added first =
      let us = types_of_list old in
      let vs = types_of_list new in
      let front = growing.section_back (GoesOn vs) (goes_on_back vs) features 1 count bytes (us, before) (vs, m.«module») added ([], sym (append-nil vs)) in
      first_types_stay_first old.is_canonical old.groups new.groups front.0 types listable listable' (subst (λ c. HasNoRepetition (def_types c new.groups)) mode apart) (ap (λ c. def_types c new.groups) (sym mode) ∙ front.1) first
  grown-first (results.Err e) listable listable' apart mode added first = tt
