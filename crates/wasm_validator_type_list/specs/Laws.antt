-- Laws that join ids and the types that they stand for, as facts that a contract can name.
use Rattle.std.specs.Prelude.{ℕ, ◌≡◌, ◌<◌, ◌↔◌, Bool, false, List, length, get_or, slice_get, option_map}
use Rattle.std.specs.List.{All}
use Rattle.std.specs.declared.option.Option.TheVariants.{Some}
use Rattle.wasm_readers_errors.specs.WasmSpec.Syntax.{Val, map_val, map_sub}
use Rattle.wasm_readers_errors.specs.WasmSpec.References.{refs_val}
use Rattle.wasm_readers_errors.specs.WasmSpec.Trees.{DefType, declared}
use Rattle.wasm_readers_errors.specs.WasmSpec.SupertypeOrder.{IsAncestor}
use Rattle.wasm_readers_errors.specs.WasmSpec.Matching.{MatchesVal}
use Rattle.wasm_readers_errors.specs.WasmSpec.TypeLaws.{HasNoRepetition}
use Rattle.wasm_readers_types.specs.declared.types.SubType.{SubType}
use Rattle.wasm_validator_type_list.specs.GroupOrder.{AreListable}
use Rattle.wasm_validator_type_list.specs.DefTypes.{def_types}
use Rattle.wasm_validator_type_list.specs.DeclarationsById.{declares}

-- the type that an id stands for; where there is none, the one that is given
abbrev pub type_of_id : List DefType → DefType → ℕ → DefType
type_of_id ts other id = get_or ts id other

-- A type declares what its id declares, with each id as the type that it stands for.
abbrev pub TypesDeclareWhatIdsDeclare : Type 0 → Type 0
TypesDeclareWhatIdsDeclare A =
    (is_canonical : Bool) (gs : List (List (SubType A))) (other : DefType) → AreListable gs → (id : ℕ) (d : DefType) → slice_get (def_types is_canonical gs) id ≡ Some d
    → declared d ≡ option_map (map_sub (type_of_id (def_types is_canonical gs) other)) (declares gs id)

-- Where equal types aren't one, each type has its place, so that no type has two ids there either.
abbrev pub TypesHaveTheirPlaces : Type 0 → Type 0
TypesHaveTheirPlaces A = (gs : List (List (SubType A))) → HasNoRepetition (def_types false gs)

-- Where no type has two ids, ids are ordered as the types that they stand for.
abbrev pub IdsAreOrderedAsTypes : Type 0 → Type 0
IdsAreOrderedAsTypes A =
    (is_canonical : Bool) (gs : List (List (SubType A))) (other : DefType) → AreListable gs → HasNoRepetition (def_types is_canonical gs)
    → (a b : ℕ) → a < length (def_types is_canonical gs) → b < length (def_types is_canonical gs)
    → IsAncestor (declares gs) a b ↔ IsAncestor declared (type_of_id (def_types is_canonical gs) other a) (type_of_id (def_types is_canonical gs) other b)

-- And value types over ids match exactly where those match in which each id is the type that it stands for.
abbrev pub IdsMatchAsTypes : Type 0 → Type 0
IdsMatchAsTypes A =
    (is_canonical : Bool) (gs : List (List (SubType A))) (other : DefType) → AreListable gs → HasNoRepetition (def_types is_canonical gs)
    → (v w : Val ℕ) → All (λ id. id < length (def_types is_canonical gs)) (refs_val v) → All (λ id. id < length (def_types is_canonical gs)) (refs_val w)
    → MatchesVal (declares gs) v w ↔ MatchesVal declared (map_val (type_of_id (def_types is_canonical gs) other) v) (map_val (type_of_id (def_types is_canonical gs) other) w)
