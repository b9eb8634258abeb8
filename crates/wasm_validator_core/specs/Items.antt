-- What one item of a section changes, but for types: the machine that a module's state is. `us` are the types of all
-- modules so far. Core Specification 3.0, Validation, Modules.
use Rattle.std.specs.Prelude.{ℕ, ◌+◌, ◌==◌, nat_le, Bool, true, false, ◌&&◌, if◌then◌else◌, List, [], ◌∷◌, ◌++◌, length, slice_get, slice_index, Option, Some, None}
use Rattle.std.specs.Option.{option_map, option_and_then}
use Rattle.wasm_spec.specs.Syntax.{Table, Memory, Global, Extern, func_extern, func_exact_extern, table_extern, memory_extern, global_extern, tag_extern, map_table}
use Rattle.wasm_spec.specs.BinaryModules.{Import, Export}
use Rattle.wasm_spec.specs.Features.{Features}
use Rattle.wasm_spec.specs.Trees.{DefType}
use Rattle.wasm_spec_rules.specs.Limits.{most_tables, most_memories}
use Rattle.wasm_readers_types.specs.WasmReadersValues.declared.indices.UnpackedIndex.{UnpackedIndex}
use Rattle.wasm_validator_checks.specs.WasmValidatorCanonical.Arities.{arity_at}
use Rattle.wasm_validator_checks.specs.WasmValidatorCanonical.Groups.{types_at}
use Rattle.wasm_validator_checks.specs.WasmValidatorCanonical.Indices.{canonical_index}
use Rattle.wasm_validator_checks.specs.Items.{is_function, is_valid_defined_table, is_valid_memory, is_valid_tag, is_importable, is_movable}
use Rattle.wasm_validator_checks.specs.WasmValidatorTypes.Entities.{Entity}
use Rattle.wasm_validator_checks.specs.WasmValidatorTypes.Spaces.{Spaces, with_import, is_exported, is_exact}
use Rattle.wasm_validator_core.specs.declared.limits.TheConstants.{MAX_FUNCTIONS, MAX_GLOBALS, MAX_TAGS, MAX_DATA_SEGMENTS}
use Rattle.wasm_validator_core.specs.Answers.{TypesSoFar}
pub use Rattle.wasm_validator_checks.specs.Names.{is_short}
pub use Rattle.wasm_validator_checks.specs.ListedExterns.{listed, entity}
pub use Rattle.wasm_validator_checks.specs.Sizes.{function_size, entity_size, grown}

-- the module's types, in the order of their indices
abbrev pub types_of_module : TypesSoFar → Spaces → List DefType
types_of_module us s = types_at us s.types

-- one more item, where so many keep to the limit
abbrev pub limited : ℕ → ℕ → Spaces → Option Spaces
limited count most s = if nat_le count most then Some s else None

abbrev pub with_function : Spaces → ℕ → Option Spaces
with_function s x = limited (length s.functions + 1) MAX_FUNCTIONS (record s { functions = s.functions ++ x ∷ [] })

abbrev pub with_table : Features → Spaces → Table UnpackedIndex → Option Spaces
with_table F s t = limited (length s.tables + 1) (most_tables F) (record s { tables = s.tables ++ t ∷ [] })

abbrev pub with_memory : Features → Spaces → Memory → Option Spaces
with_memory F s m = limited (length s.memories + 1) (most_memories F) (record s { memories = s.memories ++ m ∷ [] })

abbrev pub with_imported_global : Spaces → Global UnpackedIndex → Option Spaces
with_imported_global s g = limited (length s.globals + 1) MAX_GLOBALS (record s { globals = s.globals ++ g ∷ []; imported_globals = s.imported_globals + 1 })

-- a global that is defined, whose type is as the list of types has it
abbrev pub with_global : Spaces → Global UnpackedIndex → Option Spaces
with_global s g = limited (length s.globals + 1) MAX_GLOBALS (record s { globals = s.globals ++ g ∷ [] })

abbrev pub with_tag : Spaces → ℕ → Option Spaces
with_tag s x = limited (length s.tags + 1) MAX_TAGS (record s { tags = s.tags ++ x ∷ [] })

-- items that are defined
abbrev pub add_function : TypesSoFar → Spaces → ℕ → Option Spaces
add_function us s x = if is_function (types_of_module us s) x then with_function s x else None

-- a table without an initializer; the list of types has its references as ids
abbrev pub add_table : Features → TypesSoFar → Spaces → Table UnpackedIndex → Option Spaces
add_table F us s t = if is_valid_defined_table F (types_of_module us s) t false then with_table F s (map_table (canonical_index s.types) t) else None

abbrev pub add_memory : Features → Spaces → Memory → Option Spaces
add_memory F s m = if is_valid_memory F m then with_memory F s m else None

abbrev pub add_tag : Features → TypesSoFar → Spaces → ℕ → Option Spaces
add_tag F us s x = if is_valid_tag F (types_of_module us s) x then with_tag s x else None

-- an import at the end of its index space, where functions are noted as imported
abbrev pub noted_function : Bool → Spaces → Spaces
noted_function exactly s = record s { imported_functions = s.imported_functions ++ exactly ∷ [] }

abbrev pub with_imported : Features → Spaces → Extern UnpackedIndex → Option Spaces
with_imported F s (func_extern x) = option_map (noted_function false) (with_function s x)
with_imported F s (func_exact_extern x) = option_map (noted_function true) (with_function s x)
with_imported F s (table_extern t) = with_table F s t
with_imported F s (memory_extern m) = with_memory F s m
with_imported F s (global_extern g) = with_imported_global s g
with_imported F s (tag_extern x) = with_tag s x

-- an entity under the names of an import, and in the effective size
abbrev pub with_named : TypesSoFar → Import UnpackedIndex → Entity → Spaces → Option Spaces
with_named us i e s = option_map (λ size. record s { imports = with_import s.imports i.module_name i.item_name e; size = size }) (grown s.size (entity_size us e))

-- an import, its names aside
abbrev pub add_importing : Features → TypesSoFar → Spaces → Import UnpackedIndex → Option Spaces
add_importing F us s i =
    if is_importable F (types_of_module us s) i.ty
    then option_and_then (with_named us i (entity s (listed s i.ty))) (with_imported F s (listed s i.ty))
    else None

abbrev pub add_import : Features → TypesSoFar → Spaces → Import UnpackedIndex → Option Spaces
add_import F us s i = if is_short F i.module_name && is_short F i.item_name then add_importing F us s i else None

-- what an export names of each kind: a function has exactly its type where it is defined or imported so
abbrev pub function_entity : Features → Spaces → ℕ → ℕ → Entity
function_entity F s x type_index = if F.custom_descriptors && is_exact s x then func_exact_extern (slice_index s.types type_index) else func_extern (slice_index s.types type_index)

abbrev pub exported_function : Features → Spaces → ℕ → Option Entity
exported_function F s x = option_map (function_entity F s x) (slice_get s.functions x)

abbrev pub exported_table : Spaces → ℕ → Option Entity
exported_table s x = option_map table_extern (slice_get s.tables x)

abbrev pub exported_memory : Spaces → ℕ → Option Entity
exported_memory s x = option_map memory_extern (slice_get s.memories x)

abbrev pub exported_global : Spaces → ℕ → Option Entity
exported_global s x = option_map global_extern (slice_get s.globals x)

abbrev pub exported_tag : Spaces → ℕ → Option Entity
exported_tag s x = option_map (λ type_index. tag_extern (slice_index s.types type_index)) (slice_get s.tags x)

-- by the kinds' numbers: functions, tables, memories, globals, tags
abbrev pub exported_entity : Features → Spaces → Export → Option Entity
exported_entity F s e =
    if e.kind == 0 then exported_function F s e.index
    else (if e.kind == 1 then exported_table s e.index
    else (if e.kind == 2 then exported_memory s e.index
    else (if e.kind == 3 then exported_global s e.index
    else (if e.kind == 4 then exported_tag s e.index
    else None))))

-- an entity under the name of an export, and in the effective size
abbrev pub with_export : TypesSoFar → List ℕ → Entity → Spaces → Option Spaces
with_export us name e s =
    if is_exported s.exports name then None
    else option_map (λ size. record s { exports = s.exports ++ (name, e) ∷ []; size = size }) (grown s.size (entity_size us e))

abbrev pub export_movable : Features → TypesSoFar → Spaces → List ℕ → Entity → Option Spaces
export_movable F us s name e = if is_movable F e then with_export us name e s else None

-- an export, the length of its name aside
abbrev pub add_exporting : Features → TypesSoFar → Spaces → Export → Option Spaces
add_exporting F us s e = option_and_then (export_movable F us s e.name) (exported_entity F s e)

abbrev pub add_export : Features → TypesSoFar → Spaces → Export → Option Spaces
add_export F us s e = if is_short F e.name then add_exporting F us s e else None

-- how many parameters and results a function has, by its index, where the type of the function at this index is a
-- function type
abbrev pub arity_of_function : TypesSoFar → Spaces → ℕ → Option (ℕ × ℕ)
arity_of_function us s x = option_and_then (arity_at (types_of_module us s)) (slice_get s.functions x)

-- neither parameters nor results
abbrev pub takes_and_gives_nothing : Option (ℕ × ℕ) → Bool
takes_and_gives_nothing None = false
takes_and_gives_nothing (Some arity) = arity.0 == 0 && arity.1 == 0

-- a function that is there and may be the start function
abbrev pub is_startable : TypesSoFar → Spaces → ℕ → Bool
is_startable us s x = takes_and_gives_nothing (arity_of_function us s x)

-- so many data segments may be said before the code
abbrev pub is_data_count : Features → ℕ → Bool
is_data_count F count = F.bulk_memory && nat_le count MAX_DATA_SEGMENTS
