-- What an import asks for and what an export names, in a module with these index spaces. Core Specification 3.0, Validation, Modules, Imports and
-- Exports.
use Rattle.std.specs.Prelude.{ℕ, ◌==◌, Bool, ◌&&◌, if◌then◌else◌, slice_get, slice_index, Option, Some, None}
use Rattle.std.specs.Option.{option_map}
use Rattle.wasm_spec_rules.specs.WasmSpec.Syntax.{Extern, func_extern, func_exact_extern, table_extern, memory_extern, global_extern, tag_extern}
use Rattle.wasm_spec_rules.specs.WasmSpec.BinaryModules.{Export}
use Rattle.wasm_readers.specs.WasmReadersTypes.WasmReadersValues.declared.indices.UnpackedIndex.{UnpackedIndex}
use Rattle.wasm_validator_types.specs.Entities.{Entity}
use Rattle.wasm_validator_types.specs.Spaces.{Spaces, is_exact}

-- Functions and tags by the ids of their types: nothing where there is no such type. References in the types of tables and globals stay as they
-- are written.
abbrev pub imported_entity : Spaces → Extern UnpackedIndex → Option Entity
imported_entity s (func_extern x) = option_map func_extern (slice_get s.types x)
imported_entity s (func_exact_extern x) = option_map func_exact_extern (slice_get s.types x)
imported_entity s (table_extern t) = Some (table_extern t)
imported_entity s (memory_extern m) = Some (memory_extern m)
imported_entity s (global_extern g) = Some (global_extern g)
imported_entity s (tag_extern x) = option_map tag_extern (slice_get s.types x)

-- With custom descriptors (the flag) a function that is defined, or imported so, has exactly its type.
abbrev pub named_function : Bool → Spaces → ℕ → ℕ → Entity
named_function descriptors s x type_index =
    if descriptors && is_exact s x then func_exact_extern (slice_index s.types type_index) else func_extern (slice_index s.types type_index)

abbrev pub named_tag : Spaces → ℕ → Entity
named_tag s type_index = tag_extern (slice_index s.types type_index)

-- What has this index among the functions, tables, memories, globals or tags, by the kind's number: nothing where none has.
abbrev pub named_entity : Bool → Spaces → Export → Option Entity
named_entity descriptors s e =
    if e.kind == 0 then option_map (named_function descriptors s e.index) (slice_get s.functions e.index)
    else (if e.kind == 1 then option_map table_extern (slice_get s.tables e.index)
    else (if e.kind == 2 then option_map memory_extern (slice_get s.memories e.index)
    else (if e.kind == 3 then option_map global_extern (slice_get s.globals e.index)
    else (if e.kind == 4 then option_map (named_tag s) (slice_get s.tags e.index)
    else None))))
