-- How large types are, in parts.
use Rattle.std.specs.Prelude.{ℕ, ◌+◌, ◌-◌, ◌*◌, length}
use Rattle.std.specs.declared.ops.Range.{Range}
use Rattle.wasm_readers_types.specs.WasmReadersValues.declared.indices.CoreTypeId.{CoreTypeId}
use Rattle.wasm_readers_types.specs.declared.types.CompositeInnerType.{CompositeInnerType}
use Rattle.wasm_readers_types.specs.declared.types.CompositeInnerType.TheVariants.{Func, Array, Struct, Cont}
use Rattle.wasm_readers_types.specs.declared.types.SubType.{SubType}

abbrev pub size_of_inner : {A : Type 0} → CompositeInnerType A → ℕ
size_of_inner (Func f) = 2 + length f.params + length f.results
size_of_inner (Array a) = 3
size_of_inner (Struct s) = 2 + 2 * length s.fields
size_of_inner (Cont c) = 2

abbrev pub size_of_sub : {A : Type 0} → SubType A → ℕ
size_of_sub ty = size_of_inner ty.composite_type.inner

-- the number of types of a group with these ids
abbrev pub size_of_group : Range CoreTypeId → ℕ
size_of_group ids = ids.end.index - ids.start.index
