-- What a module imports and exports, as the list of types has it. Core Specification 3.0, Validation, Types, External Types.
use Rattle.std.specs.Prelude.{slice_index}
use Rattle.wasm_spec.specs.Syntax.{Extern, func_extern, func_exact_extern, table_extern, memory_extern, global_extern, tag_extern, map_extern}
use Rattle.wasm_readers_types.specs.WasmReadersValues.declared.indices.UnpackedIndex.{UnpackedIndex}
use Rattle.wasm_validator_canonical.specs.Indices.{canonical_index}
use Rattle.wasm_validator_types.specs.Entities.{Entity}
use Rattle.wasm_validator_types.specs.Spaces.{Spaces}

-- an external type of the module, with its references as the list of types has them
abbrev pub listed : Spaces → Extern UnpackedIndex → Extern UnpackedIndex
listed s x = map_extern (canonical_index s.types) x

-- the same as an entity: functions and tags by the ids of their types
abbrev pub entity : Spaces → Extern UnpackedIndex → Entity
entity s (func_extern x) = func_extern (slice_index s.types x)
entity s (func_exact_extern x) = func_exact_extern (slice_index s.types x)
entity s (table_extern t) = table_extern t
entity s (memory_extern m) = memory_extern m
entity s (global_extern g) = global_extern g
entity s (tag_extern x) = tag_extern (slice_index s.types x)
