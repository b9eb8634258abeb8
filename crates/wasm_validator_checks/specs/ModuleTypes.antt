-- The types of a module as a list has them, under the ids of the module's types.
use Rattle.std.specs.Prelude.{ℕ, ◌≡◌, ◌<◌, List, length, slice_get, Option, Some, None}
use Rattle.std.specs.Option.{option_and_then}
use Rattle.std.specs.List.{All}
use Rattle.wasm_spec.specs.Trees.{DefType}
use Rattle.wasm_readers_types.specs.WasmReadersValues.declared.indices.CoreTypeId.{CoreTypeId}
use Rattle.wasm_readers_types.specs.declared.types.FuncType.{FuncType}
use Rattle.wasm_readers_types.specs.declared.types.SubType.{SubType}
use Rattle.wasm_readers_types.specs.declared.types.CompositeInnerType.{CompositeInnerType}
use Rattle.wasm_readers_types.specs.declared.types.CompositeInnerType.TheVariants.{Func, Array, Struct, Cont}
use Rattle.wasm_validator_type_list.specs.ListViews.{Listing, types_in}
use Rattle.wasm_validator_type_list.specs.DefTypes.{types_of_list}
use Rattle.wasm_validator_canonical.specs.Arities.{type_arity}
use Rattle.wasm_validator_canonical.specs.Groups.{types_at}
use Rattle.wasm_validator_canonical.specs.Indices.{numbers}

module _ {A : Type 0} where
  -- the module's types, in the order of their indices
  abbrev pub module_types : Listing A → List CoreTypeId → List DefType
  module_types list ids = types_at (types_of_list list) (numbers ids)

  -- the list has a type under each of the ids
  abbrev pub AreKnown : Listing A → List CoreTypeId → Type 0
  AreKnown list ids = All (λ (id : CoreTypeId). id.index < length (types_of_list list)) ids

  -- the type at the index is this sub type of the list
  pub record IsSubTypeAt (list : Listing A) (ids : List CoreTypeId) (x : ℕ) (ty : SubType A) : Type 0 where
    pub id : CoreTypeId
    pub at : slice_get ids x ≡ Some id
    pub there : slice_get (types_in list) id.index ≡ Some ty

  -- the type at the index is this function type of the list
  pub record IsFuncTypeAt (list : Listing A) (ids : List CoreTypeId) (x : ℕ) (f : FuncType A) : Type 0 where
    pub ty : SubType A
    pub at : IsSubTypeAt list ids x ty
    pub is_func : ty.composite_type.inner ≡ Func f

-- how many parameters and results the type at an index has, if it is a function type
abbrev pub arity_at : List DefType → ℕ → Option (ℕ × ℕ)
arity_at types x = option_and_then type_arity (slice_get types x)

-- how many a composite type of the list has
abbrev pub func_arity : {A : Type 0} → CompositeInnerType A → Option (ℕ × ℕ)
func_arity (Func f) = Some (length f.params, length f.results)
func_arity (Array x) = None
func_arity (Struct x) = None
func_arity (Cont x) = None
