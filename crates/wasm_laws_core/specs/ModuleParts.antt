-- What the state of a module shows of its parts, where its types stand in a list under these ids. Core Specification
-- 3.0, Validation, Conventions, Contexts.
use Rattle.std.specs.Prelude.{ℕ, Bool, true, not, ◌&&◌, if◌then◌else◌, List, [], ◌∷◌, ◌++◌, map, filter, length, get_or, slice_index, Option, Some, None}
use Rattle.std.specs.Option.{option_map}
use Rattle.std.specs.List.{flat_map}
use Rattle.wasm_spec.specs.Syntax.{Ref, Table, Global, Extern, func_extern, func_exact_extern, table_extern, memory_extern, global_extern, tag_extern, map_ref, map_table, map_global}
use Rattle.wasm_spec.specs.BinaryModules.{Import, Export}
use Rattle.wasm_spec.specs.BinarySections.{Element}
use Rattle.wasm_spec.specs.Features.{Features}
use Rattle.wasm_spec.specs.Trees.{DefType}
use Rattle.wasm_spec_rules.specs.Parts.{Parts, Expression}
use Rattle.wasm_spec_rules.specs.IndexSpaces.{IndexSpaces, index_spaces, imported, globals_in}
use Rattle.wasm_spec_rules.specs.LinkRules.{exported, effective_size}
use Rattle.wasm_spec_rules.specs.SegmentRules.{items_type}
use Rattle.wasm_spec_rules.specs.Contexts.{exact_in, is_exact}
use Rattle.wasm_readers_types.specs.WasmReadersValues.declared.indices.UnpackedIndex.{UnpackedIndex}
use Rattle.wasm_validator_core.specs.WasmValidatorCanonical.Indices.{canonical_index}
use Rattle.wasm_validator_core.specs.WasmValidatorCanonical.Sections.{written}
use Rattle.wasm_validator_types.specs.Entities.{Entity}
use Rattle.wasm_validator_types.specs.Spaces.{Spaces, is_pair}

-- a type index as the list of types has it, by the id of the type there
abbrev pub listed : List ℕ → ℕ → UnpackedIndex
listed ids x = canonical_index ids (written x)

abbrev pub listed_table : List ℕ → Table ℕ → Table UnpackedIndex
listed_table ids t = map_table (listed ids) t

abbrev pub listed_global : List ℕ → Global ℕ → Global UnpackedIndex
listed_global ids g = map_global (listed ids) g

-- the type of an element segment's items
abbrev pub listed_element : List ℕ → Element Expression ℕ → Ref UnpackedIndex
listed_element ids e = map_ref (listed ids) (items_type e.items)

-- what is imported or exported, with ids for type indices
abbrev pub entity_in : List ℕ → Extern ℕ → Entity
entity_in ids (func_extern x) = func_extern (slice_index ids x)
entity_in ids (func_exact_extern x) = func_exact_extern (slice_index ids x)
entity_in ids (table_extern t) = table_extern (listed_table ids t)
entity_in ids (memory_extern m) = memory_extern m
entity_in ids (global_extern g) = global_extern (listed_global ids g)
entity_in ids (tag_extern x) = tag_extern (slice_index ids x)

-- the two names of an import
abbrev pub names_of : Import ℕ → List ℕ × List ℕ
names_of i = (i.module_name, i.item_name)

abbrev pub has_names : List ℕ × List ℕ → Import ℕ → Bool
has_names pair i = is_pair i.module_name i.item_name pair

-- pairs of names by first appearance, each once
abbrev pub first_pairs : List (List ℕ × List ℕ) → List (List ℕ × List ℕ)
first_pairs [] = []
first_pairs (p ∷ ps) = p ∷ filter (λ (q : List ℕ × List ℕ). not (is_pair p.0 p.1 q)) (first_pairs ps)

-- a pair of names, with all that is imported under it
abbrev pub import_row : List ℕ → List (Import ℕ) → List ℕ × List ℕ → (List ℕ × List ℕ) × List Entity
import_row ids imports pair = (pair, map (λ (i : Import ℕ). entity_in ids i.ty) (filter (has_names pair) imports))

abbrev pub import_rows : List ℕ → List (Import ℕ) → List ((List ℕ × List ℕ) × List Entity)
import_rows ids imports = map (import_row ids imports) (first_pairs (map names_of imports))

-- which functions are exactly of their type: those that are imported so, and those that are defined
abbrev pub exact_functions : Parts → List Bool
exact_functions parts = flat_map (λ (i : Import ℕ). exact_in i.ty) parts.imports ++ map is_exact parts.functions

-- a function is exported with exactly its type where it has exactly this type and there are exact types
abbrev pub as_exported : Features → List Bool → ℕ → Extern ℕ → Extern ℕ
as_exported F exact x (func_extern ty) = if F.custom_descriptors && get_or exact x true then func_exact_extern ty else func_extern ty
as_exported F exact x e = e

abbrev pub exported_as : Features → List Bool → ℕ → Option (Extern ℕ) → Option (Extern ℕ)
exported_as F exact x item = option_map (as_exported F exact x) item

-- an export: its name, and what it exports
abbrev pub export_row : List ℕ → List ℕ → Option (Extern ℕ) → List (List ℕ × Entity)
export_row ids name None = []
export_row ids name (Some x) = (name, entity_in ids x) ∷ []

abbrev pub exported_row : Features → List ℕ → IndexSpaces → List Bool → Export → List (List ℕ × Entity)
exported_row F ids C exact e = export_row ids e.name (exported_as F exact e.index (exported C e))

abbrev pub export_rows : Features → List ℕ → IndexSpaces → List Bool → List Export → List (List ℕ × Entity)
export_rows F ids C exact exports = flat_map (exported_row F ids C exact) exports

-- The state of a module with these parts.
abbrev pub spaces_of : Features → List DefType → List ℕ → Parts → Spaces
spaces_of F types ids parts = record {
  types = ids;
  functions = (index_spaces types parts).functions;
  imported_functions = flat_map (λ (i : Import ℕ). exact_in i.ty) parts.imports;
  tables = map (listed_table ids) (index_spaces types parts).tables;
  memories = (index_spaces types parts).memories;
  globals = map (listed_global ids) (index_spaces types parts).globals;
  imported_globals = length (imported globals_in parts.imports);
  tags = (index_spaces types parts).tags;
  elements = map (listed_element ids) parts.elements;
  imports = import_rows ids parts.imports;
  exports = export_rows F ids (index_spaces types parts) (exact_functions parts) parts.exports;
  size = effective_size (index_spaces types parts) parts.imports parts.exports;
}
