-- The types of a list of groups that name one another by ids: the list in which a validator keeps recursive types.
-- An id is an index in the list of all types. Core Specification 3.0, Validation, Types (Recursive Types), with
-- indices of one list in place of a module's.
use Rattle.std.specs.Prelude.{ℕ, ◌-◌, Bool, List, [], ◌∷◌, ◌++◌, map, length, slice_get, Option, Some, None}
use Rattle.wasm_spec.specs.Syntax.{Sub, map_sub}
use Rattle.wasm_spec.specs.Trees.{RecTree, TypeUse, local, outer, DefType, close}
use Rattle.wasm_spec.specs.Closing.{start_unless, positions}

-- a use of a type in a group of the list: the id of a type before the group, or a position in the group
pub data ListedUse : Type 0 where
  by_id by_position : ℕ → ListedUse

-- what an id stands for; nothing is said of groups with ids that aren't there
abbrev pub use_of_id : Option DefType → TypeUse
use_of_id None = local 0
use_of_id (Some d) = outer d.tree d.position

abbrev pub resolve_listed : List DefType → ListedUse → TypeUse
resolve_listed ts (by_id k) = use_of_id (slice_get ts k)
resolve_listed ts (by_position i) = local i

-- the recursive type of a group, behind the types so far, where equal types are one or each has its place
abbrev pub listed_tree : Bool → List DefType → List (Sub ListedUse) → RecTree
listed_tree is_canonical ts g = close (start_unless is_canonical (length ts)) (map (map_sub (resolve_listed ts)) g)

-- the types so far, and those of a group
abbrev pub with_listed : Bool → List DefType → List (Sub ListedUse) → List DefType
with_listed is_canonical ts g = ts ++ positions (listed_tree is_canonical ts g) 0 g

abbrev pub with_all_listed : Bool → List DefType → List (List (Sub ListedUse)) → List DefType
with_all_listed is_canonical ts [] = ts
with_all_listed is_canonical ts (g ∷ gs) = with_all_listed is_canonical (with_listed is_canonical ts g) gs

-- the types of a list of groups, in the order of their ids
abbrev pub types_of : Bool → List (List (Sub ListedUse)) → List DefType
types_of is_canonical gs = with_all_listed is_canonical [] gs

-- A type index of a module as the list writes it, where ids are those of the module's types so far: the id of the
-- type at it, or from the end of them on a position in the group.
abbrev pub listed_use : Option ℕ → ℕ → ListedUse
listed_use (Some id) i = by_id id
listed_use None i = by_position i

abbrev pub listed_from : List ℕ → ℕ → ListedUse
listed_from ids k = listed_use (slice_get ids k) (k - length ids)
