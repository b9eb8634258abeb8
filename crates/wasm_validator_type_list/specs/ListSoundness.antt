-- What is always true of a list of types.
use Rattle.std.specs.Prelude.{ℕ, suc, ◌≡◌, ◌≤◌, true, List, [], ◌∷◌, map, length}
use Rattle.std.specs.Bool.{Decides}
use Rattle.std.specs.declared.option.Option.{Option}
use Rattle.wasm_readers_types.specs.WasmReadersValues.declared.indices.TheConstants.{MAX_IDS}
use Rattle.wasm_readers_errors.specs.WasmSpec.SupertypeOrder.{supertype}
use Rattle.wasm_readers_types.specs.declared.types.SubType.{SubType}
use Rattle.wasm_validator_type_list.specs.declared.type_list.TypeList.TheInside.{Inside}
use Rattle.wasm_validator_type_ancestors.specs.WasmValidatorTypeGroups.Groups.{all_in}
use Rattle.wasm_validator_type_list.specs.ListViews.{Listing}
use Rattle.wasm_validator_type_list.specs.GroupOrder.{AreListable, ReferByIds}
use Rattle.wasm_validator_type_list.specs.DeclarationsById.{subs_by_ids}
use Rattle.wasm_validator_type_list.specs.GroupInterning.{AreOnce}
use Rattle.wasm_validator_type_list.specs.Depths.{AreDepths}

-- how many of the groups have no members
abbrev pub count_of_empty : {X : Type 0} → List (List X) → ℕ
count_of_empty [] = 0
count_of_empty ([] ∷ gs) = suc (count_of_empty gs)
count_of_empty ((x ∷ xs) ∷ gs) = count_of_empty gs

module _ {A : Type 0} where
  abbrev pub shown : Inside A → Listing A
  shown a = record { is_canonical = a.is_canonical; is_open = a.is_open; groups = a.groups; depths = a.depths }

  -- the ids that the types of groups extend, in the order of their own
  abbrev pub supers_in : List (List (SubType A)) → List (Option ℕ)
  supers_in gs = map supertype (subs_by_ids 0 gs)

  -- each id fits a packed index, at most one group is empty, references are known, where equal groups are kept once none
  -- is there twice, the lists of ancestors follow what types extend, it is said whether references are ids alone, and the
  -- depths that are kept are right
  pub record IsSound (a : Inside A) : Type 0 where
    pub room : length (all_in a.groups) ≤ MAX_IDS
    pub few : count_of_empty a.groups ≤ 1
    pub listable : AreListable a.groups
    pub once : a.is_canonical ≡ true → AreOnce a.groups
    pub ancestors : a.ancestors ≡ supers_in a.groups
    pub by_ids : Decides a.refers_by_ids (ReferByIds (all_in a.groups))
    pub deep : AreDepths a.groups a.depths
