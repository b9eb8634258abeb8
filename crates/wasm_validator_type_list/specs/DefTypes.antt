-- The types that the ids of a list stand for.
use Rattle.std.specs.Prelude.{ℕ, ◌≡◌, ◌+◌, ◌<◌, Bool, List, map, length, take, slice_get}
use Rattle.std.specs.declared.option.Option.TheVariants.{Some}
use Rattle.wasm_readers_errors.specs.WasmSpec.Syntax.{Sub, map_sub}
use Rattle.wasm_readers_errors.specs.WasmSpec.Trees.{RecTree, DefType}
use Rattle.wasm_readers_errors.specs.WasmSpec.TypeLists.{ListedUse, by_id, by_position, listed_tree, types_of}
use Rattle.wasm_readers_types.specs.WasmReadersValues.declared.indices.UnpackedIndex.{UnpackedIndex}
use Rattle.wasm_readers_types.specs.WasmReadersValues.declared.indices.UnpackedIndex.TheVariants.{Module, RecGroup, Id}
use Rattle.wasm_readers_types.specs.declared.types.SubType.{SubType}
use Rattle.wasm_readers_types.specs.SeenTypes.{sub_of}
use Rattle.wasm_validator_type_list.specs.ListViews.{Listing}

-- a reference in a group of a list; a module's index isn't in lists
abbrev pub listed_ref : UnpackedIndex → ListedUse
listed_ref (Module i) = by_position i
listed_ref (RecGroup i) = by_position i
listed_ref (Id id) = by_id id.index

module _ {A : Type 0} where
  abbrev pub listed_sub : SubType A → Sub ListedUse
  listed_sub s = map_sub listed_ref (sub_of s)

  abbrev pub listed_group : List (SubType A) → List (Sub ListedUse)
  listed_group g = map listed_sub g

  -- what the ids stand for, in their order, where equal types are one or each has its place
  abbrev pub def_types : Bool → List (List (SubType A)) → List DefType
  def_types is_canonical gs = types_of is_canonical (map listed_group gs)

  -- the same of all groups of a list
  abbrev pub types_of_list : Listing A → List DefType
  types_of_list l = def_types l.is_canonical l.groups

  -- the recursive type that a group behind these is
  abbrev pub tree_behind : Bool → List (List (SubType A)) → List (SubType A) → RecTree
  tree_behind is_canonical gs g = listed_tree is_canonical (def_types is_canonical gs) (listed_group g)

  -- one of the groups is this recursive type
  pub record IsTreeOfOne (is_canonical : Bool) (gs : List (List (SubType A))) (t : RecTree) : Type 0 where
    pub place : ℕ
    pub members : List (SubType A)
    pub there : slice_get gs place ≡ Some members
    pub tree : tree_behind is_canonical (take place gs) members ≡ t

  -- from this id on, an id for each member of a group stands for that member's place in a recursive type
  abbrev pub StandFor : List DefType → ℕ → List (SubType A) → RecTree → Type 0
  StandFor ts start g t = (i : ℕ) → i < length g → slice_get ts (start + i) ≡ Some (record { tree = t; position = i })
