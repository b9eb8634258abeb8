-- What is told of the imports and the exports of a module.
use Rattle.std.specs.Prelude.{ℕ, ◌≡◌, ◌+◌, ◌-◌, ◌^◌, ◌++◌, if◌then◌else◌, Bool, List, [], ◌∷◌, length, map, min, is_some}
use Rattle.std.specs.Option.{unwrap_or}
use Rattle.wasm_spec.specs.Syntax.{Table, Memory, Global, map_ref, map_val}
use Rattle.wasm_spec.specs.Syntax.{func_extern, func_exact_extern, table_extern, memory_extern, global_extern, tag_extern}
use Rattle.wasm_readers_types.specs.WasmReadersValues.declared.indices.UnpackedIndex.{UnpackedIndex}
use Rattle.wasm_validator.specs.WasmValidatorTypes.Entities.{Entity}
use Rattle.wasm_validator.specs.WasmValidatorTypes.Rows.{all_imports}
use Rattle.wasm_validator.specs.WasmValidatorTypes.Spaces.{Spaces}
use Rattle.wasm_validator.specs.WasmValidatorTypes.WasmValidatorTypeList.Lookups.{leads_to}
use Rattle.wasm_validator_handles.specs.declared.entities.Extern.{Extern}
use Rattle.wasm_validator_handles.specs.declared.entities.ExternType.{ExternType}
use Rattle.wasm_validator_handles.specs.declared.entities.TheConstants.{FUNCTION, TABLE, MEMORY, GLOBAL, TAG, EXACT_FUNCTION, NO_ID}
use Rattle.wasm_validator_handles.specs.declared.entities.TheConstants.{HAS_MAXIMUM, HAS_64_BITS, IS_SHARED, IS_MUTABLE, PAGE_SIZE_LOG2, EXTERN_SIZE}
use Rattle.wasm_validator_handles.specs.Values.{numbers_of, plain_numbers, reference_numbers}

-- a count, as far as 64 bits count
abbrev pub counted : ℕ → ℕ
counted n = min n (2 ^ 64 - 1)

abbrev pub flag_of : ℕ → Bool → ℕ
flag_of bit is_set = if is_set then bit else 0

abbrev pub limit_flags : Bool → Bool → Bool → ℕ
limit_flags has_maximum has_64_bits is_shared = flag_of HAS_MAXIMUM has_maximum + flag_of HAS_64_BITS has_64_bits + flag_of IS_SHARED is_shared

-- a function or a tag, by the id of its type, with no names
abbrev pub by_id : ℕ → ℕ → ExternType
by_id kind id = record {
  size = EXTERN_SIZE;
  module_start = 0;
  module_length = 0;
  name_start = 0;
  name_length = 0;
  minimum = 0;
  maximum = 0;
  kind = kind;
  type_id = id;
  flags = 0;
  page_size_log2 = 0;
  value = plain_numbers 0;
}

-- a table: its limits in elements, and what its places hold
abbrev pub table_type_of : Table UnpackedIndex → ExternType
table_type_of t = record {
  size = EXTERN_SIZE;
  module_start = 0;
  module_length = 0;
  name_start = 0;
  name_length = 0;
  minimum = t.minimum;
  maximum = unwrap_or t.maximum 0;
  kind = TABLE;
  type_id = NO_ID;
  flags = limit_flags (is_some t.maximum) t.is_64 t.shared;
  page_size_log2 = 0;
  value = reference_numbers (map_ref (leads_to 0) t.element);
}

-- a memory: its limits in pages, and how large a page is
abbrev pub memory_type_of : Memory → ExternType
memory_type_of m = record {
  size = EXTERN_SIZE;
  module_start = 0;
  module_length = 0;
  name_start = 0;
  name_length = 0;
  minimum = m.minimum;
  maximum = unwrap_or m.maximum 0;
  kind = MEMORY;
  type_id = NO_ID;
  flags = limit_flags (is_some m.maximum) m.is_64 m.shared;
  page_size_log2 = unwrap_or m.page_size_log2 PAGE_SIZE_LOG2;
  value = plain_numbers 0;
}

-- a global: what it holds
abbrev pub global_type_of : Global UnpackedIndex → ExternType
global_type_of g = record {
  size = EXTERN_SIZE;
  module_start = 0;
  module_length = 0;
  name_start = 0;
  name_length = 0;
  minimum = 0;
  maximum = 0;
  kind = GLOBAL;
  type_id = NO_ID;
  flags = flag_of IS_MUTABLE g.mutable + flag_of IS_SHARED g.shared;
  page_size_log2 = 0;
  value = numbers_of (map_val (leads_to 0) g.content);
}

-- What is imported or exported, by the number of its kind in the binary format (Core Specification 3.0, Binary Format, Modules, Import Section and
-- Export Section, with the exact functions of custom descriptors) and its type, with no names.
abbrev pub entity_type_of : Entity → ExternType
entity_type_of (func_extern id) = by_id FUNCTION id
entity_type_of (func_exact_extern id) = by_id EXACT_FUNCTION id
entity_type_of (table_extern t) = table_type_of t
entity_type_of (memory_extern m) = memory_type_of m
entity_type_of (global_extern g) = global_type_of g
entity_type_of (tag_extern id) = by_id TAG id

-- the same with names that stand behind these in the text of all names
abbrev pub extern_type_of : List ℕ → List ℕ → List ℕ → Entity → ExternType
extern_type_of names source name entity = record (entity_type_of entity) {
  module_start = length names;
  module_length = length source;
  name_start = length (names ++ source);
  name_length = length name;
}

-- the names, the kind and the id of the type, without the rest of it
abbrev pub plain_of : ExternType → Extern
plain_of e = record {
  module_start = e.module_start;
  module_length = e.module_length;
  name_start = e.name_start;
  name_length = e.name_length;
  kind = e.kind;
  type_id = e.type_id;
}

-- exports as imports from a module with the empty name
abbrev pub export_rows : List (List ℕ × Entity) → List (List ℕ × List ℕ × Entity)
export_rows exports = map (λ (e : List ℕ × Entity). ([], e.0, e.1)) exports

-- the names one after another, for each that of the module and then its own
abbrev pub names_of : List (List ℕ × List ℕ × Entity) → List ℕ
names_of [] = []
names_of (row ∷ rows) = row.0 ++ (row.1 ++ names_of rows)

-- all of these, whose names stand behind these
abbrev pub externs_behind : List ℕ → List (List ℕ × List ℕ × Entity) → List ExternType
externs_behind names [] = []
externs_behind names (row ∷ rows) = extern_type_of names row.0 row.1 row.2 ∷ externs_behind ((names ++ row.0) ++ row.1) rows

-- one after another behind those that are there, and so their names
pub record Joins
    (rows : List (List ℕ × List ℕ × Entity))
    (externs_old : List ExternType) (names_old : List ℕ) (externs_new : List ExternType) (names_new : List ℕ) : Type 0 where
  pub externs : externs_new ≡ externs_old ++ externs_behind names_old rows
  pub names : names_new ≡ names_old ++ names_of rows

-- These are the imports and the exports of a module with these index spaces, and their names, those of imports first.
pub record AreOf (spaces : Spaces) (its_imports its_exports : List ExternType) (its_names : List ℕ) : Type 0 where
  pub imports : its_imports ≡ externs_behind [] (all_imports spaces.imports)
  pub exports : its_exports ≡ externs_behind (names_of (all_imports spaces.imports)) (export_rows spaces.exports)
  pub names : its_names ≡ names_of (all_imports spaces.imports) ++ names_of (export_rows spaces.exports)
