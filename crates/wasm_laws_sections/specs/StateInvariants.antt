-- What has been read of a module, in whatever order its sections came: what is true of every state that calls lead to.
-- Core Specification 3.0, Validation, Conventions (Contexts), and Modules.
use Rattle.std.specs.Prelude.{ℕ, ◌≡◌, ◌≤◌, ◌<◌, ◌+◌, Bool, List, [], map, length, Some, ⊤}
use Rattle.std.specs.List.{All, flat_map}
use Rattle.wasm_spec.specs.Syntax.{Table, Memory, Global, Rec}
use Rattle.wasm_spec.specs.BinaryModules.{Import}
use Rattle.wasm_spec.specs.Features.{Features, canonical}
use Rattle.wasm_spec.specs.Trees.{DefType}
use Rattle.wasm_spec_rules.specs.Contexts.{exact_in}
use Rattle.wasm_spec_rules.specs.FeatureFlags.{features_of}
use Rattle.wasm_spec_rules.specs.IndexSpaces.{IndexSpaces, IsFunctionType, IsRefInRange, IsValInRange}
use Rattle.wasm_spec_rules.specs.Limits.{most_types, most_functions, most_tables, most_memories, most_globals, most_tags, size_limit}
use Rattle.wasm_spec_rules.specs.Parts.{Parts}
use Rattle.wasm_spec_validity.specs.Modules.{imported_globals}
use Rattle.wasm_readers_types.specs.WasmReadersValues.declared.indices.UnpackedIndex.{UnpackedIndex}
use Rattle.wasm_validator_states.specs.WasmValidatorCanonical.DistinctTypes.{AreApart}
use Rattle.wasm_validator_states.specs.WasmValidatorCanonical.Groups.{AreValid}
use Rattle.wasm_validator_states.specs.WasmValidatorCanonical.Sections.{with_all_written, HoldsSection}
use Rattle.wasm_validator_types.specs.Entities.{Entity}
use Rattle.wasm_validator_types.specs.Spaces.{Spaces}
use Rattle.wasm_validator_states.specs.WasmValidatorSections.WasmValidatorCore.Answers.{TypesSoFar}
use Rattle.wasm_validator_states.specs.WasmValidatorSections.WasmLawsCore.Exports as export_laws
use Rattle.wasm_validator_states.specs.WasmValidatorSections.WasmLawsCore.ModuleParts.{listed_table, listed_global}
use Rattle.wasm_validator_states.specs.WasmValidatorSections.ModuleNotes.{Noted}
use Rattle.wasm_validator_states.specs.WasmValidatorSections.CodeProgress.{Started, starting}
use Rattle.wasm_validator_states.specs.ValidatorStages.{Stage, unparsed, in_module, in_code, ended, failed, Standing}
use Rattle.wasm_laws_sections.specs.CallStates.{IsReached}

-- The types of all modules are valid, and none comes twice.
pub record AreHeld (F : Features) (us : TypesSoFar) : Type 0 where
  pub valid : AreValid F us
  pub apart : AreApart (canonical F) us

-- A module has these types: its groups are a valid type section, which was added to the list after the types of other modules,
-- and the list has each of its types at the id of the same place.
pub record HasTypes (F : Features) (us : TypesSoFar) (ids : List ℕ) (types : List DefType) : Type 0 where
  pub before : TypesSoFar
  pub apart : AreApart (canonical F) before
  pub groups : List (Rec ℕ)
  pub added : with_all_written F before [] groups ≡ Some (us, ids)
  pub holds : HoldsSection F before groups (us, ids)
  pub are : holds.section.types ≡ types
  pub valid : AreValid F us
  pub few : length ids ≤ most_types

-- A list of functions or of tags, by the indices of their types, which are function types, and no more than so many.
pub record ShowsIndices (most : ℕ) (types : List DefType) (listed shown : List ℕ) : Type 0 where
  pub same : listed ≡ shown
  pub of_functions : All (IsFunctionType types) shown
  pub few : length listed ≤ most

-- tables, whose types are in range
pub record ShowsTables (F : Features) (ids : List ℕ) (types : List DefType) (listed : List (Table UnpackedIndex)) (shown : List (Table ℕ)) : Type 0 where
  pub same : listed ≡ map (listed_table ids) shown
  pub in_range : All (λ (t : Table ℕ). IsRefInRange types t.element) shown
  pub few : length listed ≤ most_tables F

pub record ShowsMemories (F : Features) (listed shown : List Memory) : Type 0 where
  pub same : listed ≡ shown
  pub few : length listed ≤ most_memories F

pub record ShowsGlobals (ids : List ℕ) (types : List DefType) (listed : List (Global UnpackedIndex)) (shown : List (Global ℕ)) : Type 0 where
  pub same : listed ≡ map (listed_global ids) shown
  pub in_range : All (λ (g : Global ℕ). IsValInRange types g.content) shown
  pub few : length listed ≤ most_globals

-- no name is exported twice, and the size of the module's type is below its limit
pub record ShowsExports (rows : List (List ℕ × Entity)) (size : ℕ) : Type 0 where
  pub names : export_laws.AreApart (map export_laws.row_name rows)
  pub small : size < size_limit

-- of the functions so many are imported, exactly or not, and the others are defined; and so many globals are imported
pub record ShowsImported (parts : Parts) (functions : List ℕ) (exactly : List Bool) (globals : ℕ) : Type 0 where
  pub same : exactly ≡ flat_map (λ (i : Import ℕ). exact_in i.ty) parts.imports
  pub defined : length exactly + length parts.functions ≡ length functions
  pub imported : globals ≡ imported_globals parts

-- The lists of a module so far are these index spaces, in the order in which the sections came; the imports and the functions that were
-- read are those of these parts.
pub record Shows (F : Features) (us : TypesSoFar) (m : Spaces) (C : IndexSpaces) (parts : Parts) : Type 0 where
  pub types : HasTypes F us m.types C.types
  pub functions : ShowsIndices most_functions C.types m.functions C.functions
  pub tables : ShowsTables F m.types C.types m.tables C.tables
  pub memories : ShowsMemories F m.memories C.memories
  pub globals : ShowsGlobals m.types C.types m.globals C.globals
  pub tags : ShowsIndices most_tags C.types m.tags C.tags
  pub exports : ShowsExports m.exports m.size
  pub imported : ShowsImported parts C.functions m.imported_functions m.imported_globals

pub record HasRead (F : Features) (us : TypesSoFar) (m : Spaces) : Type 0 where
  pub spaces : IndexSpaces
  pub parts : Parts
  pub shows : Shows F us m spaces parts

-- bodies are checked in the context that the start of the code of these lists made
pub record HasStarted (us : TypesSoFar) (m : Spaces) (c : Started) : Type 0 where
  pub noted : Noted
  pub context : c.context ≡ (starting us m noted).context

abbrev pub IsReadAt : Features → Stage → Type 0
IsReadAt F (unparsed us) = AreHeld F us
IsReadAt F (in_module us m n) = HasRead F us m
IsReadAt F (in_code us m c) = HasRead F us m × HasStarted us m c
IsReadAt F (ended us) = AreHeld F us
IsReadAt F failed = ⊤

-- So it is wherever calls lead.
abbrev pub ReachedStatesAreRead : Type 0
ReachedStatesAreRead = (s : Standing) → IsReached s → IsReadAt (features_of s.features) s.stage
