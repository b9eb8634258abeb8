-- The groups of a list of types, and the recursive types that its ids stand for. Core Specification 3.0, Validation, Types (Recursive Types).
use Rattle.std.specs.Prelude.{ℕ, ◌≡◌, ◌+◌, ◌<◌, Bool, List, length, slice_get, Some}
use Rattle.std.specs.Option.{option_map}
use Rattle.wasm_spec.specs.Syntax.{Sub, map_sub}
use Rattle.wasm_spec.specs.Trees.{TypeUse, DefType, members, start_of}
use Rattle.wasm_spec.specs.Closing.{start_unless}
use Rattle.wasm_spec.specs.TypeLists.{resolve_listed}
use Rattle.wasm_readers_types.specs.declared.types.SubType.{SubType}
use Rattle.wasm_validator_type_groups.specs.Groups.{all_in, first_of, IsInGroup}
use Rattle.wasm_validator_type_list.specs.GroupOrder.{AreListable}
use Rattle.wasm_validator_type_list.specs.DefTypes.{listed_sub, def_types}

module _ {A : Type 0} where
  -- a sub type of a list as a member of its recursive type: each position in the group stays one, and each id is the type that it stands for in ts
  abbrev pub member_in : List DefType → SubType A → Sub TypeUse
  member_in ts s = map_sub (resolve_listed ts) (listed_sub s)

  -- The k-th group is the recursive type of d, for which the id stands: it begins at the id less d's position, and has as many types as the recursive
  -- type has members. From its first id on, an id stands for each position in the recursive type, and the list has the member at that position under it.
  -- Where equal types aren't one, the recursive type also has the group's first id.
  pub record IsGroupOf (is_canonical : Bool) (gs : List (List (SubType A))) (k id : ℕ) (d : DefType) : Type 0 where
    pub begins : first_of gs k + d.position ≡ id
    pub as_many : first_of gs (k + 1) ≡ first_of gs k + length (members d.tree)
    pub start : start_of d.tree ≡ start_unless is_canonical (first_of gs k)
    pub ids : (i : ℕ) → i < length (members d.tree) → slice_get (def_types is_canonical gs) (first_of gs k + i) ≡ Some (record { tree = d.tree; position = i })
    pub types : (i : ℕ) → i < length (members d.tree) → option_map (member_in (def_types is_canonical gs)) (slice_get (all_in gs) (first_of gs k + i)) ≡ slice_get (members d.tree) i

-- So is the group of each id, in a list of which each group may stand behind those before it.
abbrev pub GroupsAreRecursiveTypes : Type 0 → Type 0
GroupsAreRecursiveTypes A =
    (is_canonical : Bool) (gs : List (List (SubType A))) → AreListable gs
    → (k id : ℕ) (d : DefType) → IsInGroup gs k id → slice_get (def_types is_canonical gs) id ≡ Some d → IsGroupOf is_canonical gs k id d
