-- What a contract sees of the index spaces, and what is always true of them.
use Rattle.std.specs.Prelude.{ℕ, ◌≡◌, ◌≤◌, ◌<◌, ◌^◌, List, [], ◌∷◌, ◌++◌, map, length, slice_index, slice_get, Some}
use Rattle.std.specs.List.{All}
use Rattle.std.specs.Map.{values_of}
use Rattle.indexmap.specs.Layout.{set_value_at}
use Rattle.std.specs.String.{string_bytes}
use Rattle.std.specs.declared.string.String.{String}
use Rattle.wasm_readers.specs.WasmReadersTypes.SeenExterns.{table_of, memory_of, global_of}
use Rattle.wasm_readers.specs.WasmReadersTypes.WasmReadersValues.SeenValues.{ref_of}
pub use Rattle.wasm_readers.specs.WasmReadersTypes.WasmReadersValues.Indices.{numbers}
use Rattle.wasm_readers.specs.WasmReadersTypes.declared.externs.EntityType.{EntityType}
use Rattle.wasm_validator_types.specs.declared.index_spaces.IndexSpaces.TheInside.{Inside}
use Rattle.wasm_validator_types.specs.Entities.{Entity, entity_of, IsAmong}
use Rattle.wasm_validator_types.specs.Spaces.{Spaces, with_import}

-- each number of the list is below this one
abbrev pub AreBelow : List ℕ → ℕ → Type 0
AreBelow ns n = (k : ℕ) → k < length ns → slice_index ns k < n

-- functions and tags that are imported or exported have types with these ids
abbrev pub AreImportsAmong : List ℕ → List ((List ℕ × List ℕ) × List Entity) → Type 0
AreImportsAmong ids imports = All (λ (p : (List ℕ × List ℕ) × List Entity). All (IsAmong ids) p.1) imports

abbrev pub AreExportsAmong : List ℕ → List (List ℕ × Entity) → Type 0
AreExportsAmong ids exports = All (λ (e : List ℕ × Entity). IsAmong ids e.1) exports

module _ {A : Type 0} where
  -- a pair of names with what is imported from there
  abbrev pub shown_import : (String A × String A) × List EntityType → (List ℕ × List ℕ) × List Entity
  shown_import p = ((string_bytes p.0.0, string_bytes p.0.1), map entity_of p.1)

  -- a name with what is exported under it
  abbrev pub shown_export : String A × EntityType → List ℕ × Entity
  shown_export e = (string_bytes e.0, entity_of e.1)

  abbrev pub shown_spaces : Inside A → Spaces
  shown_spaces a = record {
    types = numbers a.types.items;
    functions = a.functions.items;
    imported_functions = a.imported_functions.items;
    tables = map table_of a.tables.items;
    memories = map memory_of a.memories.items;
    globals = map global_of a.globals.items;
    imported_globals = a.imported_globals;
    tags = a.tags.items;
    elements = map ref_of a.elements.items;
    imports = map shown_import a.imports.entries;
    exports = map shown_export a.exports.entries;
    size = a.size;
  }

  -- the counts fit a `u32`, each function and each tag has a type of the module, also those that are imported or exported,
  -- and imported globals are among all
  pub record IsSound (a : Inside A) : Type 0 where
    pub types : length a.types.items < 2 ^ 32
    pub functions : length a.functions.items < 2 ^ 32
    pub tables : length a.tables.items < 2 ^ 32
    pub memories : length a.memories.items < 2 ^ 32
    pub globals : length a.globals.items < 2 ^ 32
    pub tags : length a.tags.items < 2 ^ 32
    pub elements : length a.elements.items < 2 ^ 32
    pub functions_typed : AreBelow a.functions.items (length a.types.items)
    pub tags_typed : AreBelow a.tags.items (length a.types.items)
    pub imported_globals : a.imported_globals ≤ length a.globals.items
    pub imports_typed : AreImportsAmong (numbers a.types.items) (map shown_import a.imports.entries)
    pub exports_typed : AreExportsAmong (numbers a.types.items) (map shown_export a.exports.entries)

  -- the i-th pair has one more entity, and all else is the same
  abbrev pub PutsAt : List ((String A × String A) × List EntityType) → ℕ → EntityType → List ((String A × String A) × List EntityType) → Type 0
  PutsAt old i entity new = (v : List EntityType) × (slice_get (values_of old) i ≡ Some v) × (new ≡ set_value_at old i (v ++ entity ∷ []))

  -- an entity more, after the others of its pair of names, or with the pair at the end
  abbrev pub AddsToPair : List ((String A × String A) × List EntityType) → String A × String A → EntityType → List ((String A × String A) × List EntityType) → Type 0
  AddsToPair old pair entity new = map shown_import new ≡ with_import (map shown_import old) (string_bytes pair.0) (string_bytes pair.1) (entity_of entity)
