-- What a module imports and exports, as contracts see it.
use Rattle.std.specs.Prelude.{ℕ, ◌<◌, ⊤, List}
use Rattle.std.specs.List.{All}
use Rattle.wasm_readers_values.specs.WasmSpec.Syntax.{Extern, func_extern, func_exact_extern, table_extern, memory_extern, global_extern, tag_extern}
use Rattle.wasm_readers_values.specs.WasmSpec.References.{refs_heap, refs_val}
use Rattle.wasm_readers_values.specs.declared.indices.UnpackedIndex.{UnpackedIndex}
use Rattle.wasm_readers_values.specs.declared.indices.UnpackedIndex.TheVariants as index
use Rattle.wasm_readers_types.specs.SeenExterns.{table_of, memory_of, global_of}
use Rattle.wasm_readers_types.specs.declared.externs.EntityType.{EntityType}
use Rattle.wasm_readers_types.specs.declared.externs.EntityType.TheVariants.{Func, FuncExact, Table, Memory, Global, Tag}

-- an external type, in which functions and tags have the numbers of the ids of their types in place of type indices
abbrev pub Entity : Type 0
Entity = Extern UnpackedIndex

abbrev pub entity_of : EntityType → Entity
entity_of (Func id) = func_extern id.index
entity_of (FuncExact id) = func_exact_extern id.index
entity_of (Table t) = table_extern (table_of t)
entity_of (Memory m) = memory_extern (memory_of m)
entity_of (Global g) = global_extern (global_of g)
entity_of (Tag id) = tag_extern id.index

-- the reference is the id of one of so many types
abbrev pub IsIdOfOne : ℕ → UnpackedIndex → Type 0
IsIdOfOne types (index.Module i) = ⊥
IsIdOfOne types (index.RecGroup i) = ⊥
IsIdOfOne types (index.Id id) = id.index < types

-- the type of the function or tag, or each reference in the type of the table or global, is the id of one of so many types
abbrev pub IsEntityOver : ℕ → Entity → Type 0
IsEntityOver types (func_extern id) = id < types
IsEntityOver types (func_exact_extern id) = id < types
IsEntityOver types (table_extern t) = All (IsIdOfOne types) (refs_heap t.element.heap)
IsEntityOver types (memory_extern m) = ⊤
IsEntityOver types (global_extern g) = All (IsIdOfOne types) (refs_val g.content)
IsEntityOver types (tag_extern id) = id < types

-- the id of the type of a function or tag is below this number
abbrev pub HasIdBelow : ℕ → Entity → Type 0
HasIdBelow n (func_extern id) = id < n
HasIdBelow n (func_exact_extern id) = id < n
HasIdBelow n (table_extern t) = ⊤
HasIdBelow n (memory_extern m) = ⊤
HasIdBelow n (global_extern g) = ⊤
HasIdBelow n (tag_extern id) = id < n

-- it is below each number that these are below
abbrev pub IsAmong : List ℕ → Entity → Type 0
IsAmong ids e = (n : ℕ) → All (λ id. id < n) ids → HasIdBelow n e
