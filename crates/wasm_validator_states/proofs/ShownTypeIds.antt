-- All types that an accepted module shows name ids of the list only.
use Rattle.std.proofs.Common.{sym, subst, ℕ, ◌<◌, List, length, All}
use Rattle.std.specs.Prelude.{IfOk}
use Rattle.std.specs.declared.result.Result.{Result}
use Rattle.std.specs.declared.result.Result.TheVariants as results
use Rattle.wasm_spec.specs.Syntax.{Ref, Table, Global}
use Rattle.wasm_spec.specs.References.{refs_heap, refs_val}
use Rattle.wasm_spec.specs.Features.{Features, canonical}
use Rattle.wasm_spec.specs.Trees.{DefType}
use Rattle.wasm_spec_rules.specs.FeatureFlags.{features_of}
use Rattle.wasm_spec_rules.specs.IndexSpaces.{index_spaces}
use Rattle.wasm_spec_rules.specs.Modules.{AreValidParts}
use Rattle.wasm_spec_rules.specs.Parts.{Parts}
use Rattle.wasm_readers_types.specs.WasmReadersValues.declared.indices.UnpackedIndex.{UnpackedIndex}
use Rattle.wasm_validator_type_list.specs.ListViews.{types_in}
use Rattle.wasm_validator_canonical.specs.Sections.{StandsFor}
use Rattle.wasm_validator_types.specs.Entities.{Entity, IsIdOfOne, IsEntityOver}
use Rattle.wasm_validator_types.specs.Rows.{all_imports}
use Rattle.wasm_validator_types.specs.Spaces.{Spaces}
use Rattle.wasm_validator_types.specs.ShownModules.{shown_of, HoldsIds}
use Rattle.wasm_validator_types.specs.declared.shown.Types as shown
use Rattle.wasm_validator_sections.specs.WasmValidatorCore.Answers.{TypesSoFar}
use Rattle.wasm_validator_sections.specs.WasmValidatorCore.declared.error.Error.{Error}
use Rattle.wasm_validator_sections.specs.WasmLawsCore.ModuleParts.{spaces_of}
use Rattle.wasm_validator_sections.specs.WasmLawsCore.ShownTypeIds.{AreOver}
use Rattle.wasm_validator_sections.proofs.WasmLawsCore.HeldTypes.{shown_types_are_held}
use Rattle.wasm_validator_states.specs.Payloads.{HoldsTypes}
use Rattle.wasm_validator_states.specs.ShownModules.{ShowModule}
use Rattle.wasm_validator_states.specs.ValidatorStages.{Standing}
use Rattle.wasm_validator_states.specs.Verdict.{AcceptsModule, DecidesModule}
use Rattle.wasm_validator_states.proofs.AddedTypes.{as_many_zipped}

module _ (F : Features) (list : TypesSoFar) (s : Spaces) (types : List DefType) (parts : Parts) (n : ℕ) where
  pub shown_over : ShowModule F list s (index_spaces types parts) parts → AreValidParts F (index_spaces types parts) parts → All (λ id. id < n) s.types → AreOver n s
  shown_over m valid below =
      let over : AreOver n (spaces_of F types s.types parts) = shown_types_are_held F types s.types parts n (sym (as_many_zipped (StandsFor (canonical F) list) s.types types m.types)) below valid in
      record {
        tables = subst (λ (ts : List (Table UnpackedIndex)). All (λ (t : Table UnpackedIndex). All (IsIdOfOne n) (refs_heap t.element.heap)) ts) (sym m.tables) over.tables;
        globals = subst (λ (gs : List (Global UnpackedIndex)). All (λ (g : Global UnpackedIndex). All (IsIdOfOne n) (refs_val g.content)) gs) (sym m.globals) over.globals;
        elements = subst (λ (rs : List (Ref UnpackedIndex)). All (λ (r : Ref UnpackedIndex). All (IsIdOfOne n) (refs_heap r.heap)) rs) (sym m.elements) over.elements;
        imports = subst (λ (is : List ((List ℕ × List ℕ) × List Entity)). All (λ (i : List ℕ × List ℕ × Entity). IsEntityOver n i.2) (all_imports is)) (sym m.imports) over.imports;
        exports = subst (λ (es : List (List ℕ × Entity)). All (λ (e : List ℕ × Entity). IsEntityOver n e.1) es) (sym m.exports) over.exports;
      }

pub accepted_held : {A : Type 0} (bytes : List ℕ) (old new : Standing) (t : shown.Types A) → AcceptsModule bytes old new t → HoldsIds (shown_of t) → HoldsTypes t
accepted_held bytes old new t m ids =
    let w = m.module_valid.well_formed in
    shown_over (features_of old.features) _ (shown_of t).spaces w.types.types w.parts (length (types_in (shown_of t).list)) m.shows w.rules ids

pub answer_held : {A : Type 0} (r : Result (shown.Types A) (Error A)) (bytes : List ℕ) (old new : Standing) → DecidesModule r bytes old new → IfOk r (λ t. HoldsIds (shown_of t)) → IfOk r (λ t. HoldsTypes t)
answer_held (results.Ok t) bytes old new d h = accepted_held bytes old new t d h
answer_held (results.Err e) bytes old new d h = h
