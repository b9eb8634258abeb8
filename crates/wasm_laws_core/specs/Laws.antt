-- What adding the lists of a module's parts says of them, where its types stand in the list of types: a list is added
-- exactly where it is valid, and then the state is that of a module with these parts, by which its start function is
-- accepted exactly where it is valid.
use Rattle.std.specs.Prelude.{ℕ, ◌≡◌, ◌≤◌, ◌<◌, ◌↔◌, List, [], length, Some}
use Rattle.std.specs.Bool.{Decides}
use Rattle.std.specs.List.{All}
use Rattle.wasm_spec.specs.Syntax.{Memory}
use Rattle.wasm_spec.specs.BinaryModules.{Import, Export}
use Rattle.wasm_spec.specs.BinarySections.{TableEntry}
use Rattle.wasm_spec.specs.Features.{Features, canonical}
use Rattle.wasm_spec.specs.Trees.{DefType}
use Rattle.wasm_spec_rules.specs.Parts.{Parts, Expression}
use Rattle.wasm_spec_rules.specs.IndexSpaces.{index_spaces, imported, functions_in, tables_in, memories_in, globals_in, tags_in, IsFunctionType}
use Rattle.wasm_spec_rules.specs.ItemRules.{IsValidTableEntry, IsValidMemory, IsValidTag}
use Rattle.wasm_spec_rules.specs.LinkRules.{IsValidImport, IsValidExport, HasDistinctNames, effective_size, IsValidStart}
use Rattle.wasm_spec_rules.specs.Limits.{most_functions, most_tables, most_memories, most_globals, most_tags, size_limit}
use Rattle.wasm_validator_core.specs.WasmValidatorChecks.Laws.{Stand}
use Rattle.wasm_validator_types.specs.Spaces.{Spaces}
use Rattle.wasm_validator_core.specs.Items.{is_startable}
use Rattle.wasm_laws_core.specs.ModuleParts.{spaces_of}
use Rattle.wasm_laws_core.specs.Lists.{only_types, only_imports, has_no_init, add_imports, add_functions, add_tables, add_memories, add_tags, add_exports, add_lists, HasNoInitializer, AreValidLists, listed_parts}

-- Imports keep their rules and limits.
pub record AreValidImports (F : Features) (types : List DefType) (is : List (Import ℕ)) : Type 0 where
  pub valid : All (IsValidImport F types) is
  pub size : effective_size (index_spaces types (only_imports is)) is [] < size_limit
  pub few_functions : length (imported functions_in is) ≤ most_functions
  pub few_tables : length (imported tables_in is) ≤ most_tables F
  pub few_memories : length (imported memories_in is) ≤ most_memories F
  pub few_globals : length (imported globals_in is) ≤ most_globals
  pub few_tags : length (imported tags_in is) ≤ most_tags

abbrev pub ImportsAreAdded : Type 0
ImportsAreAdded =
    (F : Features) (us : List DefType) (ids : List ℕ) (types : List DefType) → Stand (canonical F) us ids types
    → (is : List (Import ℕ)) (t : Spaces) → (add_imports F us (only_types ids) is ≡ Some t) ↔ (AreValidImports F types is × (spaces_of F types ids (only_imports is) ≡ t))

-- items that are defined, behind a state in which none of their kind is and nothing is exported
abbrev pub FunctionsAreAdded : Type 0
FunctionsAreAdded =
    (F : Features) (us : List DefType) (ids : List ℕ) (types : List DefType) → Stand (canonical F) us ids types
    → (p : Parts) → p.functions ≡ [] → p.exports ≡ [] → length (index_spaces types p).functions ≤ most_functions
    → (xs : List ℕ) (t : Spaces) → (add_functions us (spaces_of F types ids p) xs ≡ Some t)
    ↔ ((All (IsFunctionType types) xs × (length (index_spaces types (record p { functions = xs })).functions ≤ most_functions)) × (spaces_of F types ids (record p { functions = xs }) ≡ t))

abbrev pub TablesAreAdded : Type 0
TablesAreAdded =
    (F : Features) (us : List DefType) (ids : List ℕ) (types : List DefType) → Stand (canonical F) us ids types
    → (p : Parts) → p.tables ≡ [] → p.exports ≡ [] → length (index_spaces types p).tables ≤ most_tables F
    → (ts : List (TableEntry Expression ℕ)) → All has_no_init ts
    → (t : Spaces) → (add_tables F us (spaces_of F types ids p) ts ≡ Some t)
    ↔ ((All (IsValidTableEntry F types) ts × (length (index_spaces types (record p { tables = ts })).tables ≤ most_tables F)) × (spaces_of F types ids (record p { tables = ts }) ≡ t))

abbrev pub MemoriesAreAdded : Type 0
MemoriesAreAdded =
    (F : Features) (ids : List ℕ) (types : List DefType) (p : Parts) → p.memories ≡ [] → p.exports ≡ [] → length (index_spaces types p).memories ≤ most_memories F
    → (ms : List Memory) (t : Spaces) → (add_memories F (spaces_of F types ids p) ms ≡ Some t)
    ↔ ((All (IsValidMemory F) ms × (length (index_spaces types (record p { memories = ms })).memories ≤ most_memories F)) × (spaces_of F types ids (record p { memories = ms }) ≡ t))

abbrev pub TagsAreAdded : Type 0
TagsAreAdded =
    (F : Features) (us : List DefType) (ids : List ℕ) (types : List DefType) → Stand (canonical F) us ids types
    → (p : Parts) → p.tags ≡ [] → p.exports ≡ [] → length (index_spaces types p).tags ≤ most_tags
    → (xs : List ℕ) (t : Spaces) → (add_tags F us (spaces_of F types ids p) xs ≡ Some t)
    ↔ ((All (IsValidTag F types) xs × (length (index_spaces types (record p { tags = xs })).tags ≤ most_tags)) × (spaces_of F types ids (record p { tags = xs }) ≡ t))

-- exports, behind a state of which nothing is exported and whose functions and tags are of function types
abbrev pub ExportsAreAdded : Type 0
ExportsAreAdded =
    (F : Features) (us : List DefType) (ids : List ℕ) (types : List DefType) → Stand (canonical F) us ids types
    → (p : Parts) → p.exports ≡ [] → All (IsFunctionType types) (index_spaces types p).functions → All (IsFunctionType types) (index_spaces types p).tags
    → effective_size (index_spaces types p) p.imports [] < size_limit
    → (es : List Export) (t : Spaces) → (add_exports F us (spaces_of F types ids p) es ≡ Some t)
    ↔ ((All (IsValidExport F (index_spaces types p)) es × HasDistinctNames es × (effective_size (index_spaces types p) p.imports es < size_limit)) × (spaces_of F types ids (record p { exports = es }) ≡ t))

-- all lists, in the order of their sections
abbrev pub ValidListsAreAdded : Type 0
ValidListsAreAdded =
    (F : Features) (us : List DefType) (ids : List ℕ) (types : List DefType) → Stand (canonical F) us ids types
    → (parts : Parts) → HasNoInitializer parts
    → (t : Spaces) → (add_lists F us (only_types ids) parts ≡ Some t) ↔ (AreValidLists F (index_spaces types parts) parts × (spaces_of F types ids (listed_parts parts) ≡ t))

-- the start function, by the state of a module with these parts
abbrev pub StartsAreDecided : Type 0
StartsAreDecided =
    (F : Features) (us : List DefType) (ids : List ℕ) (types : List DefType) → Stand (canonical F) us ids types
    → (p : Parts) (x : ℕ) → Decides (is_startable us (spaces_of F types ids p) x) (IsValidStart (index_spaces types p) x)
