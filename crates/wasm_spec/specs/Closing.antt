-- Closing the recursive types of a type section, one after another, over the types so far.
-- Core Specification 3.0, Validation, Types (Recursive Types) and Modules (Types).
use Rattle.std.specs.Prelude.{ℕ, ◌+◌, ◌-◌, nat_lt, nat_le, Bool, true, not, ◌&&◌, ◌||◌, if◌then◌else◌, List, [], ◌∷◌, ◌++◌, map, length, slice_get, Option, Some, None}
use Rattle.std.specs.Option.{option_map, option_and_then}
use Rattle.std.specs.List.{list_all}
use Rattle.wasm_spec.specs.Syntax.{Sub, Rec, map_sub}
use Rattle.wasm_spec.specs.References.{refs_option, refs_comp}
use Rattle.wasm_spec.specs.Features.{Features, canonical}
use Rattle.wasm_spec.specs.Trees.{RecTree, TypeUse, local, outer, DefType, close}

-- The bounds of the type at index n of a group at the indices from start to below end: its supertype and what it
-- describes come before it, and any other reference before the group, or with gc in it.
abbrev pub is_in_bounds : Features → ℕ → ℕ → ℕ → Sub ℕ → Bool
is_in_bounds F start end n s =
    list_all (λ k. nat_lt k n) s.supers
    && list_all (λ k. nat_lt k n) (refs_option s.describes)
    && list_all (λ k. nat_lt k start || (F.gc && nat_lt k end)) (refs_option s.descriptor ++ refs_comp s.comp)

-- each type from index n on in its bounds, with at most one supertype
abbrev pub are_closable : Features → ℕ → ℕ → ℕ → List (Sub ℕ) → Bool
are_closable F start end n [] = true
are_closable F start end n (s ∷ ss) = is_in_bounds F start end n s && nat_le (length s.supers) 1 && are_closable F start end (n + 1) ss

-- a written group at the index start: `rec` needs gc
abbrev pub is_closable : Features → ℕ → Rec ℕ → Bool
is_closable F start g = (not g.is_explicit || F.gc) && are_closable F start (start + length g.types) start g.types

-- what stands for a type index: the type there, or from the end of the types so far on a position in the group
abbrev pub use_of : Option DefType → ℕ → TypeUse
use_of (Some d) i = outer d.tree d.position
use_of None i = local i

abbrev pub resolve : List DefType → ℕ → TypeUse
resolve ts k = use_of (slice_get ts k) (k - length ts)

-- the index at which a group begins, where equal types aren't one
abbrev pub start_unless : Bool → ℕ → Option ℕ
start_unless is_canonical start = if is_canonical then None else Some start

-- the recursive type that a written group is, behind the types so far
abbrev pub closed : Features → List DefType → Rec ℕ → Option RecTree
closed F ts g = if is_closable F (length ts) g then Some (close (start_unless (canonical F) (length ts)) (map (map_sub (resolve ts)) g.types)) else None

-- the types of a recursive type from position i on, one for each item of the list
abbrev pub positions : {X : Type 0} → RecTree → ℕ → List X → List DefType
positions t i [] = []
positions t i (x ∷ xs) = record { tree = t; position = i } ∷ positions t (i + 1) xs

-- the types so far, and those of one more group
abbrev pub with_group : Features → List DefType → Rec ℕ → Option (List DefType)
with_group F ts g = option_map (λ t. ts ++ positions t 0 g.types) (closed F ts g)

-- the types so far, and those of groups behind them
abbrev pub with_groups : Features → List DefType → List (Rec ℕ) → Option (List DefType)
with_groups F ts [] = Some ts
with_groups F ts (g ∷ gs) = option_and_then (λ us. with_groups F us gs) (with_group F ts g)

-- the types of a module's type section
abbrev pub type_space : Features → List (Rec ℕ) → Option (List DefType)
type_space F gs = with_groups F [] gs
