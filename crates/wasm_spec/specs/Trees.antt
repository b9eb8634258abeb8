-- Recursive types as trees, and defined types. Core Specification 3.0, Validation, Types and Matching: a defined
-- type is a place in a closed recursive type, which names its own types by position and other types by themselves.
--
-- A tree holds the sub types of a recursive type with their references numbered in the order of writing, and the
-- list of what the numbers stand for. Every tree that is spoken of is made by `close`; the data has others, and no
-- statement is about them.
use Rattle.std.specs.Prelude.{ℕ, List, [], ◌∷◌, map, flat_map, get_or, slice_get, Option, option_map}
use Rattle.wasm_spec.specs.Syntax.{Sub, map_sub}
use Rattle.wasm_spec.specs.References.{refs_sub, number_sub, number_list}

mutual
  -- A recursive type. Where references aren't canonicalized it also has the index at which it begins in its
  -- module's list of types, so that no two written ones are the same.
  pub data RecTree : Type 0 where
    rec_tree : Option ℕ → List (Sub ℕ) → TypeUses → RecTree

  -- a use of a type in a recursive type: a position in the recursive type itself, or a position in another
  pub data TypeUse : Type 0 where
    local : ℕ → TypeUse
    outer : RecTree → ℕ → TypeUse

  pub data TypeUses : Type 0 where
    no_uses : TypeUses
    and_use : TypeUse → TypeUses → TypeUses

-- a defined type: a recursive type, and a position in it
pub record DefType : Type 0 where
  pub tree : RecTree
  pub position : ℕ

-- what the numbers stand for, as a list
abbrev pub listed : TypeUses → List TypeUse
listed no_uses = []
listed (and_use u us) = u ∷ listed us

abbrev pub unlisted : List TypeUse → TypeUses
unlisted [] = no_uses
unlisted (u ∷ us) = and_use u (unlisted us)

abbrev pub number_subs : List (Sub TypeUse) → List (Sub ℕ)
number_subs g = number_list refs_sub number_sub 0 g

abbrev pub use_at : List TypeUse → ℕ → TypeUse
use_at us n = get_or us n (local 0)

-- the recursive type of these sub types
unfoldable pub close : Option ℕ → List (Sub TypeUse) → RecTree
close start g = rec_tree start (number_subs g) (unlisted (flat_map refs_sub g))

-- the sub types of a recursive type, and the index at which it begins where it has one
unfoldable pub members : RecTree → List (Sub TypeUse)
members (rec_tree start ss us) = map (map_sub (use_at (listed us))) ss

unfoldable pub start_of : RecTree → Option ℕ
start_of (rec_tree start ss us) = start

-- the defined type that a use in a recursive type stands for
abbrev pub denote : RecTree → TypeUse → DefType
denote t (local i) = record { tree = t; position = i }
denote t (outer u i) = record { tree = u; position = i }

-- the sub type that a defined type declares, over defined types: it is unrolled, as the standard says
unfoldable pub declared : DefType → Option (Sub DefType)
declared d = option_map (map_sub (denote d.tree)) (slice_get (members d.tree) d.position)
