-- A table of groups.
use Rattle.std.specs.Prelude.{◌≡◌, ◌≤◌, ◌^◌, true, List, length}
use Rattle.std.specs.Hash.{HashWrites}
use Rattle.wasm_validator_type_groups.specs.declared.group_table.GroupTable.TheInside.{Inside}
use Rattle.wasm_validator_type_groups.specs.GroupHashes.{AreKnown}

module _ {T A : Type 0} where
  abbrev pub groups_in : Inside T A → List (List T)
  groups_in a = a.groups

  -- groups have numbers, and where they are indexed each is found by its hash, of items that are fed like this
  pub record IsTable (F : T → HashWrites) (a : Inside T A) : Type 0 where
    pub few : length a.groups ≤ 2 ^ 32
    pub known : a.is_indexed ≡ true → AreKnown F a.known a.groups
