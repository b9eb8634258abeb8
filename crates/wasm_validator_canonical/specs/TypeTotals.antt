-- The types that a list has with those of a module, and so how many ids they take. Core Specification 3.0, Validation, Types (Recursive Types).
use Rattle.std.specs.Prelude.{ℕ, ◌≡◌, ◌+◌, ◌≤◌, ◌||◌, if◌then◌else◌, Bool, true, false, List, [], ◌∷◌, ◌++◌, length, fold, Some}
use Rattle.wasm_spec.specs.Syntax.{Rec}
use Rattle.wasm_spec.specs.Features.{Features, canonical}
use Rattle.wasm_spec.specs.Trees.{DefType}
use Rattle.wasm_spec.specs.GroupRules.{IsValidTypeSection}
use Rattle.wasm_readers_types.specs.WasmReadersValues.declared.indices.TheConstants.{MAX_IDS}
use Rattle.wasm_validator_canonical.specs.ListPlaces.{is_same}
use Rattle.wasm_validator_canonical.specs.Groups.{AreValid}
use Rattle.wasm_validator_canonical.specs.Sections.{with_all_written, Adds}
use Rattle.wasm_validator_canonical.specs.DistinctTypes.{AreApart}

-- whether the type is in the list
abbrev pub has_type : List DefType → DefType → Bool
has_type [] d = false
has_type (u ∷ us) d = is_same u d || has_type us d

-- the list with this type, once
abbrev pub with_type : List DefType → DefType → List DefType
with_type us d = if has_type us d then us else us ++ d ∷ []

-- The list with these types: where equal types are one each that isn't there yet comes behind, and else all do. Of a recursive type all types are
-- there or none, so a recursion group that the list has adds nothing, and another one all its types.
abbrev pub with_types : Bool → List DefType → List DefType → List DefType
with_types true us ds = fold with_type us ds
with_types false us ds = us ++ ds

-- A list has the types of another and these so. Where equal types aren't one, those of the list have their places in it, and this says how many
-- there are.
abbrev pub AreWith : Bool → List DefType → List DefType → List DefType → Type 0
AreWith true all us ds = all ≡ with_types true us ds
AreWith false all us ds = length all ≡ length us + length ds

-- So has the list that the groups of a valid type section are added to.
abbrev pub AddedTypesAreCounted : Type 0
AddedTypesAreCounted =
    (F : Features) (us : List DefType) (gs : List (Rec ℕ)) (held : List DefType × List ℕ) → AreApart (canonical F) us → with_all_written F us [] gs ≡ Some held → AreValid F held.0
    → (v : IsValidTypeSection F gs) → AreWith (canonical F) held.0 us v.types

-- A valid type section is added to a list of valid types where there are ids for these types with the section's.
abbrev pub CountedSectionsAreAdded : Type 0
CountedSectionsAreAdded =
    (F : Features) (us : List DefType) (gs : List (Rec ℕ)) → AreApart (canonical F) us → AreValid F us → (v : IsValidTypeSection F gs)
    → length (with_types (canonical F) us v.types) ≤ MAX_IDS → Adds F us gs
