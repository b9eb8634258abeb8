-- The bodies of a module whose code section has started, over the ids of a list of types, are those in the module's own context, over the
-- numbers of its types by first appearance. Core Specification 3.0, Validation, Conventions (Contexts), and Modules (Functions).
use Rattle.std.specs.Prelude.{ℕ, ◌≡◌, ◌↔◌, nat_eq, List, map, slice_get, Option}
use Rattle.wasm_spec.specs.Features.{Features, canonical}
use Rattle.wasm_spec.specs.Trees.{DefType}
use Rattle.wasm_spec.specs.TypeLaws.{HasNoRepetition}
use Rattle.wasm_spec_rules.specs.Attempts.{among}
use Rattle.wasm_spec_rules.specs.Contexts.{Context}
use Rattle.wasm_spec_rules.specs.IndexSpaces.{index_spaces}
use Rattle.wasm_spec_rules.specs.LinkRules.{referenced}
use Rattle.wasm_spec_rules.specs.Modules.{AreValidParts}
use Rattle.wasm_spec_rules.specs.Parts.{Parts}
use Rattle.wasm_readers_types.specs.WasmReadersValues.declared.indices.UnpackedIndex.{UnpackedIndex}
use Rattle.wasm_laws_core.specs.WasmValidatorCanonical.Groups.{AreValid}
use Rattle.wasm_laws_core.specs.WasmValidatorChecks.Laws.{Stand}
use Rattle.wasm_laws_core.specs.WasmValidatorTypes.Spaces.{Spaces}
use Rattle.wasm_laws_core.specs.ModuleParts.{spaces_of}
use Rattle.wasm_laws_core.specs.WasmValidatorCoreResources.ModuleContexts.{exact_flags}
use Rattle.wasm_laws_core.specs.WasmValidatorCoreResources.IndexContexts.{id_of}
use Rattle.wasm_validator_resources.specs.Answers.{same_index}
use Rattle.wasm_laws_core.specs.ListedTypes.{types_declare}
use Rattle.wasm_spec_validity.specs.Expressions.{named}
use Rattle.wasm_spec_validity.specs.Modules.{Numbering, context_of}
use Rattle.wasm_spec_validity.specs.Typing.{HasTypedBodies}
use Rattle.wasm_laws_modules.specs.Contexts.{HasOwnIds, AreModuleTypes}

-- The context of a module whose code section has started, over the ids of a list of these types: with this data count, and where these
-- functions count as referenced.
abbrev pub code_context : List DefType → Spaces → Option ℕ → List ℕ → Context UnpackedIndex
code_context us s data_count references = record {
  types = map id_of s.types;
  declares = types_declare us us;
  functions = s.functions;
  exact = exact_flags s.functions s.imported_functions;
  tables = s.tables;
  memories = s.memories;
  globals = s.globals;
  tags = s.tags;
  elements = s.elements;
  data_count = data_count;
  references = references;
}

-- Where the types of a module stand in a list of valid types, in which no type has two ids, and its parts keep their rules, its bodies are
-- typed over these ids exactly where they are typed in the module's context, if the same functions count as referenced.
abbrev pub BodiesAreOverNumbers : Type 0
BodiesAreOverNumbers =
    (F : Features) (us : List DefType) → AreValid F us → HasNoRepetition us
    → (ids : List ℕ) (types : List DefType) → Stand (canonical F) us ids types → HasOwnIds F ids → AreModuleTypes F types
    → (n : Numbering types) (parts : Parts) → AreValidParts F (index_spaces types parts) parts
    → (references : List ℕ) → ((i : ℕ) → among i references ≡ among i (referenced named parts))
    → HasTypedBodies nat_eq F (context_of (index_spaces types parts) n parts) parts
    ↔ HasTypedBodies same_index F (code_context us (spaces_of F types ids parts) (slice_get parts.data_counts 0) references) parts
