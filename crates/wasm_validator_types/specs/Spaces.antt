-- The index spaces of a module, as far as it has been read.
use Rattle.std.specs.Prelude.{ℕ, ◌+◌, Bool, true, ◌&&◌, if◌then◌else◌, List, [], ◌∷◌, ◌++◌, get_or}
use Rattle.std.specs.List.{list_any}
use Rattle.std.specs.Str.{bytes_eq}
use Rattle.wasm_spec_rules.specs.WasmSpec.Syntax.{Ref, Table, Memory, Global}
use Rattle.wasm_readers.specs.WasmReadersTypes.WasmReadersValues.declared.indices.UnpackedIndex.{UnpackedIndex}
use Rattle.wasm_validator_types.specs.Entities.{Entity}

-- The numbers of the ids of its types; the type index of each function, and of each imported one whether it is
-- imported exactly; the types of its tables, memories and globals, and how many globals are imported; the type index
-- of each tag; the types of its element segments; the pairs of names (of a module and in it) that it imports from, in the
-- order in which they first came, each with what it imports from there; its exports; and its effective size, one and that
-- of all imports and exports.
pub record Spaces : Type 0 where
  pub types : List ℕ
  pub functions : List ℕ
  pub imported_functions : List Bool
  pub tables : List (Table UnpackedIndex)
  pub memories : List Memory
  pub globals : List (Global UnpackedIndex)
  pub imported_globals : ℕ
  pub tags : List ℕ
  pub elements : List (Ref UnpackedIndex)
  pub imports : List ((List ℕ × List ℕ) × List Entity)
  pub exports : List (List ℕ × Entity)
  pub size : ℕ

-- those of a module of which nothing has been read
abbrev pub no_spaces : Spaces
no_spaces = record {
  types = [];
  functions = [];
  imported_functions = [];
  tables = [];
  memories = [];
  globals = [];
  imported_globals = 0;
  tags = [];
  elements = [];
  imports = [];
  exports = [];
  size = 1;
}

-- one more global, which is imported
abbrev pub importing_global : Spaces → Global UnpackedIndex → Spaces
importing_global s g = record s { globals = s.globals ++ g ∷ []; imported_globals = s.imported_globals + 1 }

-- the function has exactly its type: it is imported so, or it isn't among the imported ones
abbrev pub is_exact : Spaces → ℕ → Bool
is_exact s x = get_or s.imported_functions x true

-- the pair has these names
abbrev pub is_pair : List ℕ → List ℕ → List ℕ × List ℕ → Bool
is_pair source name pair = bytes_eq source pair.0 && bytes_eq name pair.1

-- the imports with one more: after the others of its pair of names, or as a new pair at the end
abbrev pub with_import : List ((List ℕ × List ℕ) × List Entity) → List ℕ → List ℕ → Entity → List ((List ℕ × List ℕ) × List Entity)
with_import [] source name entity = ((source, name), entity ∷ []) ∷ []
with_import (p ∷ ps) source name entity =
    if is_pair source name p.0 then (p.0, p.1 ++ entity ∷ []) ∷ ps else p ∷ with_import ps source name entity

-- one of the exports has the name
abbrev pub is_exported : List (List ℕ × Entity) → List ℕ → Bool
is_exported exports name = list_any (λ e. bytes_eq name e.0) exports
