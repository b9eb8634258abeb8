-- What one recursion group adds to the types of a validator and of a module. Core Specification 3.0, Validation, Types
-- (Recursive Types), with the types of a list in place of a module's.
use Rattle.std.specs.Prelude.{ℕ, ◌==◌, nat_le, if◌then◌else◌, Bool, true, false, not, ◌&&◌, ◌||◌, List, ◌++◌, map, length, get_or, Option, Some, None}
use Rattle.std.specs.Option.{option_map, option_and_then}
use Rattle.std.specs.List.{list_all, All}
use Rattle.wasm_spec.specs.Syntax.{Rec, map_rec}
use Rattle.wasm_spec.specs.Features.{Features, canonical}
use Rattle.wasm_spec.specs.Trees.{RecTree, DefType, close, members, declared}
use Rattle.wasm_spec.specs.Closing.{is_closable, positions, closed}
use Rattle.wasm_spec.specs.GroupRules.{IsValidType}
pub use Rattle.wasm_spec_rules.specs.IndexSpaces.{nowhere}
use Rattle.wasm_readers_types.specs.WasmReadersValues.declared.indices.UnpackedIndex.{UnpackedIndex}
use Rattle.wasm_readers_types.specs.WasmReadersValues.declared.indices.TheConstants.{MAX_IDS}
use Rattle.wasm_validator_type_list.specs.WasmValidatorTypeGroups.Elements.{numbers_from}
use Rattle.wasm_validator_canonical.specs.ListPlaces.{place_of}
use Rattle.wasm_validator_canonical.specs.Indices.{is_written_sub, number_in}

-- a group that is written without `rec` has one type
abbrev pub has_form : {R : Type 0} → Rec R → Bool
has_form g = g.is_explicit || (length g.types == 1)

-- `rec` needs its proposal
abbrev pub allows_written : {R : Type 0} → Features → Rec R → Bool
allows_written F g = not g.is_explicit || F.gc

-- the group's references are indices of a module, and it closes behind so many types
abbrev pub closes : Features → ℕ → Rec UnpackedIndex → Bool
closes F start g = list_all is_written_sub g.types && is_closable F start (map_rec number_in g)

-- the types of a module whose types have these ids, where ids stand for these types
abbrev pub types_at : List DefType → List ℕ → List DefType
types_at us ids = map (λ id. get_or us id nowhere) ids

-- a recursive type as a list of so many types has it behind them: where equal types aren't one it has its place there
abbrev pub placed : Bool → ℕ → RecTree → RecTree
placed true n t = t
placed false n t = close (Some n) (members t)

-- types that stand in the list at a place, or come to its end, and their ids behind others
abbrev pub held_at : Option ℕ → List DefType → List ℕ → List DefType → List DefType × List ℕ
held_at (Some k) us ids ds = (us, ids ++ numbers_from k (length ds))
held_at None us ids ds = (us ++ ds, ids ++ numbers_from (length us) (length ds))

-- where equal types are one, types that are there keep their ids
abbrev pub held : Bool → List DefType → List ℕ → List DefType → List DefType × List ℕ
held is_canonical us ids ds = held_at (if is_canonical then place_of us ds else None) us ids ds

-- the types of a list are valid
abbrev pub AreValid : Features → List DefType → Type 0
AreValid F us = All (IsValidType F declared) us

-- a list of types that has an id for each
abbrev pub with_an_id_each : List DefType × List ℕ → Option (List DefType × List ℕ)
with_an_id_each r = if nat_le (length r.0) MAX_IDS then Some r else None

-- The list of types with those of a group that a module writes behind its types, and the ids of the module's types
-- with theirs: where the group closes and there are ids for all types of the list, which stays as it is where equal types
-- are one and it has them. Whether they are valid is said of the list.
abbrev pub with_written : Features → List DefType → List ℕ → Rec UnpackedIndex → Option (List DefType × List ℕ)
with_written F us ids g =
    if list_all is_written_sub g.types
    then option_and_then with_an_id_each (option_map (λ t. held (canonical F) us ids (positions (placed (canonical F) (length us) t) 0 g.types)) (closed F (types_at us ids) (map_rec number_in g)))
    else None
