-- The ids of a module's types, and what they may be asked for.
use Rattle.std.specs.Prelude.{ℕ, ◌<◌, List, length, ⊤}
use Rattle.std.specs.List.{All}
use Rattle.wasm_spec.specs.Syntax.{Extern, func_extern, func_exact_extern, table_extern, memory_extern, global_extern, tag_extern}
use Rattle.wasm_readers_types.specs.WasmReadersValues.declared.indices.CoreTypeId.{CoreTypeId}
use Rattle.wasm_readers_types.specs.WasmReadersValues.declared.indices.UnpackedIndex.{UnpackedIndex}
use Rattle.wasm_readers_types.specs.WasmReadersValues.declared.indices.TheConstants.{MAX_IDS}
use Rattle.wasm_validator_type_list.specs.ListViews.{Listing}
use Rattle.wasm_validator_type_list.specs.DefTypes.{types_of_list}

-- ids that fit a packed index
abbrev pub AreSmall : List CoreTypeId → Type 0
AreSmall ids = All (λ (id : CoreTypeId). id.index < MAX_IDS) ids

-- the type index of a function or tag is that of one of so many types
abbrev pub IsTyped : ℕ → Extern UnpackedIndex → Type 0
IsTyped count (func_extern x) = x < count
IsTyped count (func_exact_extern x) = x < count
IsTyped count (table_extern t) = ⊤
IsTyped count (memory_extern m) = ⊤
IsTyped count (global_extern g) = ⊤
IsTyped count (tag_extern x) = x < count

-- the list has a type under each of the ids
abbrev pub AreHeld : {A : Type 0} → Listing A → List ℕ → Type 0
AreHeld list ids = All (λ id. id < length (types_of_list list)) ids
