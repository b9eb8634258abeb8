-- What is told of a section that is refused: the first thing in it that is wrong, and where that stands. Core
-- Specification 3.0, Binary Format, Modules, and Validation, Modules.
use Rattle.std.specs.Prelude.{ℕ, ◌≡◌, ◌≤◌, ◌⊎◌, List, [], ◌∷◌, length, Option, Some, None, IsTrue, ⊤}
use Rattle.std.specs.String.{string_bytes}
use Rattle.wasm_spec.specs.Values.{u32_at}
use Rattle.wasm_spec.specs.BinaryModules.{Import, Export, import_at, entry_at, export_at}
use Rattle.wasm_spec.specs.Syntax.{Memory, Rec}
use Rattle.wasm_spec.specs.BinaryTypes.{rec_at, memory_at, tag_at}
use Rattle.wasm_spec_rules.specs.FeatureFlags.{features_of}
use Rattle.wasm_spec_rules.specs.Limits.{most_tables, most_memories}
use Rattle.wasm_readers_errors.specs.declared.error.Counted.{Counted}
use Rattle.wasm_readers_errors.specs.declared.error.Counted.TheVariants as counted
use Rattle.wasm_readers_errors.specs.declared.error.Refusal.{Refusal}
use Rattle.wasm_readers_errors.specs.WasmReadersFeatures.declared.features.WasmFeatures.{WasmFeatures}
use Rattle.wasm_readers_types.specs.SeenExterns.{kind_of}
use Rattle.wasm_readers_types.specs.declared.externs.ExternalKind.{ExternalKind}
use Rattle.wasm_readers_types.specs.WasmReadersValues.declared.indices.UnpackedIndex.{UnpackedIndex}
use Rattle.wasm_readers.specs.SectionsSeen.{count_of, bytes_of, section_start, section_end}
use Rattle.wasm_readers.specs.WrittenIndices.{written}
use Rattle.wasm_readers.specs.declared.section_limited.SectionLimited.{SectionLimited}
use Rattle.wasm_validator_type_list.specs.ListViews.{Listing}
use Rattle.wasm_validator_type_list.specs.DefTypes.{types_of_list}
use Rattle.wasm_validator_types.specs.Spaces.{Spaces, is_exported}
use Rattle.wasm_validator_items.specs.WasmValidatorCore.declared.error.Error.{Error}
use Rattle.wasm_validator_items.specs.WasmValidatorCore.declared.error.Error.TheVariants.{Refused, DuplicateExport, InFunction, OutOfMemory}
use Rattle.wasm_validator_items.specs.WasmValidatorCore.declared.limits.TheConstants.{MAX_TYPES, MAX_IMPORTS, MAX_FUNCTIONS, MAX_GLOBALS, MAX_TAGS, MAX_EXPORTS, MAX_ELEMENT_SEGMENTS, MAX_DATA_SEGMENTS}
use Rattle.wasm_validator_items.specs.WasmValidatorCore.Answers.{TypesSoFar, IsNowhere, HasValidTypes}
use Rattle.wasm_validator_items.specs.WasmValidatorCore.Errors.{IsAt, IfContent}
use Rattle.wasm_validator_items.specs.WasmValidatorCore.Items.{add_import, add_function, add_memory, add_tag, add_export, exported_entity}
use Rattle.wasm_validator_items.specs.WasmValidatorCore.Machine.{add_group}
use Rattle.wasm_validator_sections.specs.Machine.{add_entry}
use Rattle.wasm_validator_items.specs.WasmValidatorCore.AddedItemRefusals.{told_of_import, told_of_added_function, told_of_added_memory, told_of_added_tag, ToldOfAddedGroup, told_of_export}
pub use Rattle.wasm_validator_items.specs.SectionRefusals.{IsNone, Either, Read, Added, OfContent, TellsFormat, TellsAt, TellsEach, TellsCount}
pub use Rattle.wasm_validator_items.specs.Answers.{StandsBetween}

module _ {A : Type 0} where
  -- the same of an export of this name, which may be taken
  abbrev pub TellsNamedAt : Spaces → List ℕ → ℕ → Option Refusal → Error A → Type 0
  TellsNamedAt s name place told (Refused r) = (told ≡ Some r) × (r.offset ≡ place)
  TellsNamedAt s name place told (DuplicateExport n offset) = (told ≡ None) × (string_bytes n ≡ name) × (offset ≡ place) × IsTrue (is_exported s.exports name)
  TellsNamedAt s name place told (InFunction index r) = ⊥
  TellsNamedAt s name place told OutOfMemory = ⊤

  module _ {T B : Type 0} (section : SectionLimited T B) (e : Error A) where
    abbrev pub TellsSection : {S V : Type 0} → (List ℕ → Option (V × List ℕ)) → (S → V → Option S) → (Option S → Type 0) → (ℕ → S → V → Error A → Type 0) → Counted → ℕ → ℕ → S → Type 0
    TellsSection encoded add nowhere tells what there most s =
        TellsCount what there most (section_start section) (count_of section) e
        (TellsEach encoded add nowhere tells (section_end section) e (count_of section) (bytes_of section) s)

  -- what is told of items that are added to the lists s, where us are the types of all modules
  module _ (features : WasmFeatures) (us : TypesSoFar) where
    abbrev pub tells_import : ℕ → Spaces → Import UnpackedIndex → Error A → Type 0
    tells_import place s i e = TellsAt place (told_of_import features place us s i) e

    -- one of the imports of an entry, behind those before it; it stands where the entry does, or further on
    abbrev pub tells_entry : ℕ → Spaces → List (Import UnpackedIndex) → Error A → Type 0
    tells_entry place s [] e = ⊥
    tells_entry place s (i ∷ is) e =
        (IsNone (add_import (features_of features) us s i) × ((at : ℕ) × (place ≤ at) × tells_import at s i e))
        ⊎ Added (λ t. tells_entry place t is e) (add_import (features_of features) us s i)

    abbrev pub tells_tag : ℕ → Spaces → ℕ → Error A → Type 0
    tells_tag place s x e = TellsAt place (told_of_added_tag features place us s x) e

    -- the kind of an export is told by its name
    pub record TellsOfExport (place : ℕ) (s : Spaces) (x : Export) (e : Error A) : Type 0 where
      pub kind : ExternalKind
      pub is_kind : kind_of kind ≡ x.kind
      pub tells : TellsNamedAt s x.name place (told_of_export features place us s x.name kind x.index (exported_entity (features_of features) s x)) e

  abbrev pub tells_function : TypesSoFar → ℕ → Spaces → ℕ → Error A → Type 0
  tells_function us place s x e = TellsAt place (told_of_added_function place us s x) e

  abbrev pub tells_memory : WasmFeatures → ℕ → Spaces → Memory → Error A → Type 0
  tells_memory features place s m e = TellsAt place (told_of_added_memory features place s m) e

  -- a group that a list of these types refuses, or the module behind its own
  pub record TellsOfGroup (features : WasmFeatures) (place : ℕ) (p : TypesSoFar × Spaces) (g : Rec UnpackedIndex) (e : Error A) : Type 0 where
    pub list : Listing A
    pub are_types : types_of_list list ≡ p.0
    pub told : IfContent (ToldOfAddedGroup features place list p.1 g) e

  abbrev pub tells_group : WasmFeatures → ℕ → TypesSoFar × Spaces → Rec UnpackedIndex → Error A → Type 0
  tells_group features place p g e = IsAt place e × TellsOfGroup features place p g e

  -- the sections, by what they have
  module _ {T B : Type 0} (features : WasmFeatures) (section : SectionLimited T B) (us : TypesSoFar) (m : Spaces) (e : Error A) where
    abbrev pub TellsTypes : Type 0
    TellsTypes = TellsSection section e (rec_at written) (add_group features) (IsNowhere (HasValidTypes features)) (tells_group features) counted.Types (length m.types) MAX_TYPES (us, m)

    abbrev pub TellsSingleImports : Type 0
    TellsSingleImports = TellsSection section e (import_at written) (add_import (features_of features) us) IsNone (tells_import features us) counted.Imports (length m.imports) MAX_IMPORTS m

    -- where an entry may stand for several, entries are counted
    abbrev pub TellsEntries : Type 0
    TellsEntries = TellsSection section e (entry_at written) (add_entry (features_of features) us) IsNone (tells_entry features us) counted.Imports (length m.imports) MAX_IMPORTS m

    abbrev pub TellsImports : Type 0
    TellsImports = Either (features_of features).compact_imports TellsEntries TellsSingleImports

    abbrev pub TellsTags : Type 0
    TellsTags = TellsSection section e tag_at (add_tag (features_of features) us) IsNone (tells_tag features us) counted.Tags (length m.tags) MAX_TAGS m

    abbrev pub TellsExports : Type 0
    TellsExports = TellsSection section e export_at (add_export (features_of features) us) IsNone (TellsOfExport features us) counted.Exports (length m.exports) MAX_EXPORTS m

  module _ {T B : Type 0} (section : SectionLimited T B) where
    abbrev pub TellsFunctions : TypesSoFar → Spaces → Error A → Type 0
    TellsFunctions us m e = TellsSection section e u32_at (add_function us) IsNone (tells_function us) counted.Functions (length m.functions) MAX_FUNCTIONS m

    -- memories need no types
    abbrev pub TellsMemories : WasmFeatures → Spaces → Error A → Type 0
    TellsMemories features m e =
        TellsSection section e memory_at (add_memory (features_of features)) IsNone (tells_memory features) counted.Memories (length m.memories) (most_memories (features_of features)) m

    -- Of items with constant expressions a count that is over its limit is told at the section's start. Of anything else nothing more is
    -- promised than where it stands.
    abbrev pub TellsCountAlone : Counted → ℕ → ℕ → Error A → Type 0
    TellsCountAlone what there most e = TellsCount what there most (section_start section) (count_of section) e ⊤

    abbrev pub TellsTables : WasmFeatures → Spaces → Error A → Type 0
    TellsTables features m e = TellsCountAlone counted.Tables (length m.tables) (most_tables (features_of features)) e

    abbrev pub TellsGlobals : Spaces → Error A → Type 0
    TellsGlobals m e = TellsCountAlone counted.Globals (length m.globals) MAX_GLOBALS e

    abbrev pub TellsElements : Spaces → Error A → Type 0
    TellsElements m e = TellsCountAlone counted.ElementSegments (length m.elements) MAX_ELEMENT_SEGMENTS e

    abbrev pub TellsData : Error A → Type 0
    TellsData e = TellsCountAlone counted.DataSegments 0 MAX_DATA_SEGMENTS e
