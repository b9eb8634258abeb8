-- Types of a list, by their ids.
use Rattle.std.specs.Prelude.{ℕ, ◌≡◌, ◌<◌, List, length, Option, option_map}
use Rattle.std.specs.declared.option.Option.TheVariants.{Some}
use Rattle.std.specs.List.{All}
use Rattle.wasm_spec.specs.Syntax.{Sub, map_sub}
use Rattle.wasm_spec.specs.References.{refs_sub}
use Rattle.wasm_readers_types.specs.WasmReadersValues.SeenValues.{index_of}
use Rattle.wasm_readers_types.specs.WasmReadersValues.declared.indices.CoreTypeId.{CoreTypeId}
use Rattle.wasm_readers_types.specs.WasmReadersValues.declared.indices.PackedIndex.{PackedIndex}
use Rattle.wasm_readers_types.specs.declared.types.SubType.{SubType}
use Rattle.wasm_readers_types.specs.SeenTypes.{sub_of}
use Rattle.wasm_validator_type_list.specs.ListViews.{Listing, types_in}
use Rattle.wasm_validator_type_list.specs.DeclarationsById.{declares}
use Rattle.wasm_validator_type_list.specs.GroupTypes.{leads_in, IsKnownIn}

-- the number of an id
abbrev pub number : CoreTypeId → ℕ
number id = id.index

abbrev pub numbered : Option CoreTypeId → Option ℕ
numbered o = option_map number o

module _ {A : Type 0} where
  -- the id is one of the list
  abbrev pub IsIn : Listing A → CoreTypeId → Type 0
  IsIn l id = id.index < length (types_in l)

  -- the number of the id that a reference in the k-th group leads to
  abbrev pub leads_packed : List (List (SubType A)) → ℕ → PackedIndex → ℕ
  leads_packed gs k p = leads_in gs k (index_of p)

  -- what a sub type in the k-th group says, over ids
  abbrev pub says : List (List (SubType A)) → ℕ → SubType A → Sub ℕ
  says gs k ty = map_sub (leads_in gs k) (sub_of ty)

  -- the id is that of this sub type in the k-th group, where its references lead to ids
  pub record IsListed (gs : List (List (SubType A))) (id k : ℕ) (ty : SubType A) : Type 0 where
    pub there : k < length gs
    pub declared : declares gs id ≡ Some (says gs k ty)
    pub known : All (IsKnownIn gs k) (refs_sub (sub_of ty))
