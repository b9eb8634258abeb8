-- The rules over ids and over the types that the ids stand for.
use Rattle.std.specs.Prelude.{ℕ, ◌≡◌, ◌<◌, ◌↔◌, Bool, List, length, slice_get}
use Rattle.std.specs.List.{All}
use Rattle.std.specs.declared.option.Option.TheVariants.{Some}
use Rattle.wasm_spec.specs.Syntax.{Sub, map_sub}
use Rattle.wasm_spec.specs.References.{refs_comp}
use Rattle.wasm_spec.specs.Features.{Features}
use Rattle.wasm_spec.specs.Matching.{MatchesSub}
use Rattle.wasm_validator_type_list.specs.Laws.{type_of_id}
use Rattle.wasm_spec.specs.Trees.{DefType, declared}
use Rattle.wasm_spec.specs.GroupRules.{IsValidType, IsValidGroup}
use Rattle.wasm_spec.specs.TypeLaws.{HasNoRepetition}
use Rattle.wasm_readers_types.specs.declared.types.SubType.{SubType}
use Rattle.wasm_validator_type_list.specs.GroupOrder.{AreListable}
use Rattle.wasm_validator_type_list.specs.DefTypes.{def_types, tree_behind, StandFor}
use Rattle.wasm_validator_type_list.specs.DeclarationsById.{declares}
use Rattle.wasm_validator_type_list.specs.WasmValidatorTypeGroups.Groups.{first_of}
use Rattle.wasm_validator_type_checks.specs.Rules.{IsValidGroupAt}

-- Where no type has two ids, what an id declares keeps the rules exactly where the type that it stands for does.
abbrev pub IdsKeepRulesAsTypes : Type 0 → Type 0
IdsKeepRulesAsTypes A =
    (F : Features) (is_canonical : Bool) (gs : List (List (SubType A))) → AreListable gs → HasNoRepetition (def_types is_canonical gs)
    → (id : ℕ) (d : DefType) → slice_get (def_types is_canonical gs) id ≡ Some d → IsValidType F (declares gs) id ↔ IsValidType F declared d

-- And where the ids of a group stand for the places of a recursive type, the group's types keep the rules exactly where
-- the recursive type is valid.
abbrev pub GroupsKeepRulesAsTypes : Type 0 → Type 0
GroupsKeepRulesAsTypes A =
    (F : Features) (is_canonical : Bool) (gs hs : List (List (SubType A))) → AreListable gs → HasNoRepetition (def_types is_canonical gs)
    → (k : ℕ) (g : List (SubType A)) → slice_get gs k ≡ Some g → StandFor (def_types is_canonical gs) (first_of gs k) g (tree_behind is_canonical hs g)
    → IsValidGroupAt F gs k ↔ IsValidGroup F (tree_behind is_canonical hs g)

-- And sub types over ids match exactly where those match in which each id is the type that it stands for.
abbrev pub SubTypesMatchAsTypes : Type 0 → Type 0
SubTypesMatchAsTypes A =
    (is_canonical : Bool) (gs : List (List (SubType A))) (other : DefType) → AreListable gs → HasNoRepetition (def_types is_canonical gs)
    → (s t : Sub ℕ) → All (λ id. id < length (def_types is_canonical gs)) (refs_comp s.comp) → All (λ id. id < length (def_types is_canonical gs)) (refs_comp t.comp)
    → MatchesSub (declares gs) s t ↔ MatchesSub declared (map_sub (type_of_id (def_types is_canonical gs) other) s) (map_sub (type_of_id (def_types is_canonical gs) other) t)
