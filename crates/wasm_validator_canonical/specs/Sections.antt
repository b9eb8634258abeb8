-- The types of a type section, added to a list group by group. Core Specification 3.0, Validation, Modules (Types).
use Rattle.std.specs.Prelude.{ℕ, ◌≡◌, ◌↔◌, ◌+◌, ◌≤◌, ◌++◌, Bool, true, false, List, [], ◌∷◌, length, slice_get, Option, Some, IsTrue}
use Rattle.std.specs.Option.{option_and_then}
use Rattle.std.specs.List.{AllZip}
use Rattle.wasm_spec.specs.Syntax.{Rec, map_rec}
use Rattle.wasm_spec.specs.Features.{Features, canonical}
use Rattle.wasm_spec.specs.Trees.{DefType, members}
use Rattle.wasm_spec.specs.GroupRules.{IsValidTypeSection}
use Rattle.wasm_spec.specs.TypeLaws.{HasNoRepetition}
use Rattle.wasm_readers_types.specs.WasmReadersValues.declared.indices.UnpackedIndex.{UnpackedIndex}
use Rattle.wasm_readers_types.specs.WasmReadersValues.declared.indices.UnpackedIndex.TheVariants.{Module}
use Rattle.wasm_readers_types.specs.WasmReadersValues.declared.indices.TheConstants.{MAX_IDS}
use Rattle.wasm_validator_type_list.specs.WasmValidatorTypeGroups.Elements.{numbers_from}
use Rattle.wasm_validator_canonical.specs.Groups.{AreValid, with_written}

-- an index as a module writes it
abbrev pub written : ℕ → UnpackedIndex
written n = Module n

-- one group after another
abbrev pub with_all_written : Features → List DefType → List ℕ → List (Rec ℕ) → Option (List DefType × List ℕ)
with_all_written F us ids [] = Some (us, ids)
with_all_written F us ids (g ∷ gs) = option_and_then (λ (r : List DefType × List ℕ). with_all_written F r.0 r.1 gs) (with_written F us ids (map_rec written g))

-- The id stands for a type of the module: the type of the list there is at the same position of a recursive type
-- with the same members, and where equal types are one it is this type.
pub record StandsFor (is_canonical : Bool) (us : List DefType) (id : ℕ) (d : DefType) : Type 0 where
  pub listed : DefType
  pub is_there : slice_get us id ≡ Some listed
  pub same_position : listed.position ≡ d.position
  pub same_members : members listed.tree ≡ members d.tree
  pub same : IsTrue is_canonical → listed ≡ d

-- The groups are a valid type section, each of its types stands in the list under the id at its index, and the list
-- begins with the types that it had. Where equal types aren't one, each type has an id of its own: the next ids in order,
-- and the list becomes longer by these types.
pub record HoldsSection (F : Features) (us : List DefType) (gs : List (Rec ℕ)) (held : List DefType × List ℕ) : Type 0 where
  pub section : IsValidTypeSection F gs
  pub stand : AllZip (StandsFor (canonical F) held.0) held.1 section.types
  pub more : List DefType
  pub front : held.0 ≡ us ++ more
  pub own_ids : canonical F ≡ false → held.1 ≡ numbers_from (length us) (length section.types)
  pub grows : canonical F ≡ false → length held.0 ≡ length us + length section.types

-- Groups that are added so that the types of the list are valid are a valid type section, which the list then holds.
abbrev pub AddedSectionsAreValid : Type 0
AddedSectionsAreValid = (F : Features) (us : List DefType) (gs : List (Rec ℕ)) (held : List DefType × List ℕ) → with_all_written F us [] gs ≡ Some held → AreValid F held.0 → HoldsSection F us gs held

-- what adding them gives
pub record Adds (F : Features) (us : List DefType) (gs : List (Rec ℕ)) : Type 0 where
  pub held : List DefType × List ℕ
  pub added : with_all_written F us [] gs ≡ Some held
  pub valid : AreValid F held.0

-- A valid type section is added to a list of valid types where there are ids for its types, and then these are valid too.
abbrev pub ValidSectionsAreAdded : Type 0
ValidSectionsAreAdded = (F : Features) (us : List DefType) (gs : List (Rec ℕ)) → AreValid F us → (v : IsValidTypeSection F gs) → length us + length v.types ≤ MAX_IDS → Adds F us gs

-- In a list where equal types are one, and in a longer one that begins with it, ids of two types are the same exactly
-- where these types are.
abbrev pub OneIdForOneType : Type 0
OneIdForOneType =
    (us more : List DefType) → HasNoRepetition (us ++ more)
    → (i j : ℕ) (d e : DefType) → StandsFor true us i d → StandsFor true (us ++ more) j e → (i ≡ j) ↔ (d ≡ e)
