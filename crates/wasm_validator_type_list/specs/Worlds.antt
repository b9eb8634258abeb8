-- The world of a list of types: what its ids declare, and tests of their order and of their equality.
use Rattle.std.specs.Prelude.{ℕ, zero, suc, Bool, false, ◌||◌, ◌==◌, List, Option, Some, None}
use Rattle.wasm_readers_errors.specs.WasmSpec.Syntax.{Sub}
use Rattle.wasm_readers_errors.specs.WasmSpec.SupertypeOrder.{supertype_of}
use Rattle.wasm_readers_errors.specs.WasmSpec.MatchingTests.{World, IsWorld}
use Rattle.wasm_readers_types.specs.declared.types.SubType.{SubType}
use Rattle.wasm_validator_type_list.specs.GroupOrder.{AreListable}
use Rattle.wasm_validator_type_list.specs.DeclarationsById.{declares}

-- whether b is the first or one of its ancestors at so many steps at most
abbrev pub is_within : (ℕ → Option (Sub ℕ)) → ℕ → Option ℕ → ℕ → Bool
is_within D zero None b = false
is_within D zero (Some a) b = a == b
is_within D (suc n) None b = false
is_within D (suc n) (Some a) b = (a == b) || is_within D n (supertype_of D a) b

module _ {A : Type 0} where
  -- a type has fewer ancestors than its id counts, since each comes before what extends it
  abbrev pub ids_world : List (List (SubType A)) → World ℕ
  ids_world gs = record { declared = declares gs; below = λ a b. is_within (declares gs) a (Some a) b; same = λ a b. a == b }

-- the tests of a list's world are right
abbrev pub IdsAreAWorld : Type 0 → Type 0
IdsAreAWorld A = (gs : List (List (SubType A))) → AreListable gs → IsWorld (ids_world gs)
