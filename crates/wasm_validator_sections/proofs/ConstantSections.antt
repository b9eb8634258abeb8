-- What a section whose items hold constant expressions adds is what its items add one after another, over what the types of the list
-- declare; and the functions that these name are noted.
use Rattle.std.proofs.Common.{◌≡◌, ap, subst, ◌∙◌, ℕ, Bool, List, Option}
use Rattle.std.specs.Prelude.{OnOk, ⊤}
use Rattle.std.specs.declared.result.Result.{Result}
use Rattle.std.specs.declared.result.Result.TheVariants.{Ok, Err}
use Rattle.wasm_spec.specs.Syntax.{Sub}
use Rattle.wasm_spec.specs.TypeLaws.{HasNoRepetition}
use Rattle.wasm_readers_types.specs.WasmReadersValues.declared.indices.UnpackedIndex.{UnpackedIndex}
use Rattle.wasm_readers_types.specs.declared.types.SubType.{SubType}
use Rattle.wasm_validator_type_list.specs.DefTypes.{def_types}
use Rattle.wasm_validator_type_list.specs.GroupOrder.{AreListable}
use Rattle.wasm_validator_types.specs.Spaces.{Spaces}
use Rattle.wasm_validator_items.specs.ItemSteps.{steps_of, naming_step}
use Rattle.wasm_validator_items.specs.WasmValidatorCore.Answers.{Adds, AddsWhere}
use Rattle.wasm_validator_items.specs.WasmValidatorCore.declared.error.Error.{Error}
use Rattle.wasm_validator_items.specs.WasmValidatorCoreResources.IndexContexts.{id_of}
use Rattle.wasm_validator_items.specs.WasmValidatorCoreResources.ListContexts.{list_declares}
use Rattle.wasm_validator_items.specs.WasmValidatorReferences.References.{marked, names_at, names_in}
use Rattle.wasm_validator_items.proofs.SectionLoop.{adds_items, adds_and_notes}
use Rattle.wasm_laws_modules.specs.WasmLawsCore.ListedTypes.{types_declare}
use Rattle.wasm_laws_modules.proofs.WasmLawsCore.ListedTypes.{lists_declare_their_types}
use Rattle.wasm_validator_sections.specs.Sections.{read_one, read_section}
use Rattle.wasm_validator_sections.specs.ModuleNotes.{Noted, naming}

-- items that are read and typed in one pass, over what the ids of a list declare
module _ {A V : Type 0} (c : Bool) (gs : List (List (SubType A))) (listable : AreListable gs) (apart : HasNoRepetition (def_types c gs)) (reads : List ℕ → Option (V × List ℕ)) (adds : List (UnpackedIndex × Sub UnpackedIndex) → Spaces → V → Option Spaces)
    (step : Spaces → List ℕ → Option (Spaces × List ℕ)) (one : (s : Spaces) (bytes : List ℕ) → step s bytes ≡ read_one reads (adds (list_declares id_of gs)) s bytes) where
  abbrev declared : List (UnpackedIndex × Sub UnpackedIndex)
  declared = types_declare (def_types c gs) (def_types c gs)

  step_is : (s : Spaces) (bytes : List ℕ) → step s bytes ≡ read_one reads (adds declared) s bytes
  step_is s bytes = one s bytes ∙ ap (λ (ds : List (UnpackedIndex × Sub UnpackedIndex)). read_one reads (adds ds) s bytes) (lists_declare_their_types c gs listable apart)

  steps_are : step ≡ read_one reads (adds declared)
  steps_are = λ i s bytes. step_is s bytes i

  module _ {T : Type 0} (r : Result T (Error A)) (there most count : ℕ) (bytes : List ℕ) (s : Spaces) where
    pub constants_added : (t : Spaces) → AddsWhere (λ x. ⊤) r (steps_of step there most count bytes s) t → Adds r (read_section reads (adds declared) there most count bytes s) t
    constants_added t h = adds_items reads (adds declared) there most count bytes r s t (subst (λ f. AddsWhere (λ x. ⊤) r (steps_of f there most count bytes s) t) steps_are h)

    pub constants_noted : (names : V → List ℕ) (flags : List Bool) (p : Spaces × List Bool) → AddsWhere (λ x. ⊤) r (steps_of (naming_step step (names_at reads names)) there most count bytes (s, flags)) p
        → Adds r (read_section reads (adds declared) there most count bytes s) p.0 × OnOk r (p.1 ≡ marked (names_in reads names count bytes) flags)
    constants_noted names flags p h =
        adds_and_notes reads (adds declared) there most count bytes names r s flags p
        (subst (λ f. AddsWhere (λ x. ⊤) r (steps_of (naming_step f (names_at reads names)) there most count bytes (s, flags)) p) steps_are h)

-- what is noted of a section, beside the number of data segments
pub section_noted : {T E : Type 0} (r : Result T E) (old : Noted) (new : List Bool) (xs : List ℕ) → OnOk r (new ≡ marked xs old.referenced) → OnOk r (record { data_count = old.data_count; referenced = new } ≡ naming xs old)
section_noted (Ok x) old new xs h = λ i. record { data_count = old.data_count; referenced = h i }
section_noted (Err e) old new xs h = tt

-- what holds where a call is accepted
pub on_ok_second : {T E : Type 0} (P Q : Type 0) (r : Result T E) → OnOk r (P × Q) → OnOk r Q
on_ok_second P Q (Ok x) h = h.1
on_ok_second P Q (Err e) h = tt

pub on_ok_first : {T E : Type 0} (P Q : Type 0) (r : Result T E) → OnOk r (P × Q) → OnOk r P
on_ok_first P Q (Ok x) h = h.0
on_ok_first P Q (Err e) h = tt
