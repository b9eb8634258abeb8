-- What a contract sees of a list of types.
use Rattle.std.specs.Prelude.{ℕ, Bool, true, false, List, []}
use Rattle.wasm_readers_types.specs.declared.types.SubType.{SubType}
use Rattle.wasm_validator_type_ancestors.specs.WasmValidatorTypeGroups.Groups.{all_in}

-- whether equal groups are kept once, whether groups may be added, the sub types of each group, and the ids of which the
-- number of proper ancestors is kept, in their order, each with that number
pub record Listing (A : Type 0) : Type 0 where
  pub is_canonical : Bool
  pub is_open : Bool
  pub groups : List (List (SubType A))
  pub depths : List (ℕ × ℕ)

module _ {A : Type 0} where
  -- the list of no groups, to which groups may be added
  abbrev pub no_groups : Bool → Listing A
  no_groups c = record { is_canonical = c; is_open = true; groups = []; depths = [] }

  -- all types, in the order of their ids
  abbrev pub types_in : Listing A → List (SubType A)
  types_in l = all_in l.groups

  -- the same groups, to which none may be added, with no depths
  abbrev pub committed : Listing A → Listing A
  committed l = record { is_canonical = l.is_canonical; is_open = false; groups = l.groups; depths = [] }

  -- the same list with other depths
  abbrev pub with_depths : Listing A → List (ℕ × ℕ) → Listing A
  with_depths l depths = record { is_canonical = l.is_canonical; is_open = l.is_open; groups = l.groups; depths = depths }
