-- No type comes twice in a list of types: where equal types are one, since each is put there once; and where they aren't, since each
-- has its place in its tree. Core Specification 3.0, Validation, Types (Recursive Types).
use Rattle.std.specs.Prelude.{ℕ, ◌≡◌, ◌+◌, ◌<◌, Bool, true, false, List, [], length, slice_get, Some}
use Rattle.wasm_spec.specs.Syntax.{Rec}
use Rattle.wasm_spec.specs.Features.{Features, canonical}
use Rattle.wasm_spec.specs.Trees.{DefType, members, start_of}
use Rattle.wasm_spec.specs.TypeLaws.{HasNoRepetition}
use Rattle.wasm_readers_types.specs.declared.types.SubType.{SubType}
use Rattle.wasm_validator_type_list.specs.DefTypes.{def_types}
use Rattle.wasm_validator_type_list.specs.GroupInterning.{AreOnce}
use Rattle.wasm_validator_canonical.specs.Sections.{with_all_written}

-- each type's recursive type begins so far before the type's own place as its position says
abbrev pub ArePlaced : List DefType → Type 0
ArePlaced us = (k : ℕ) (d : DefType) → slice_get us k ≡ Some d → (first : ℕ) × (start_of d.tree ≡ Some first) × (first + d.position ≡ k)

-- of each type's recursive type all types are there, in their order
abbrev pub AreWhole : List DefType → Type 0
AreWhole us =
    (k : ℕ) (d : DefType) → slice_get us k ≡ Some d
    → (first : ℕ) × ((i : ℕ) → i < length (members d.tree) → slice_get us (first + i) ≡ Some (record { tree = d.tree; position = i }))

-- the types of a list are told apart, where equal types are one and where they aren't
abbrev pub AreApart : Bool → List DefType → Type 0
AreApart true us = HasNoRepetition us × AreWhole us
AreApart false us = ArePlaced us

abbrev pub ApartTypesAreDistinct : Type 0
ApartTypesAreDistinct = (is_canonical : Bool) (us : List DefType) → AreApart is_canonical us → HasNoRepetition us

-- so are those of the groups of a list
abbrev pub ListedTypesAreApart : Type 0 → Type 0
ListedTypesAreApart A = (is_canonical : Bool) (gs : List (List (SubType A))) → (is_canonical ≡ true → AreOnce gs) → AreApart is_canonical (def_types is_canonical gs)

-- and they stay so when a module's types are added
abbrev pub AddedTypesStayApart : Type 0
AddedTypesStayApart =
    (F : Features) (us : List DefType) (gs : List (Rec ℕ)) (held : List DefType × List ℕ) → AreApart (canonical F) us → with_all_written F us [] gs ≡ Some held → AreApart (canonical F) held.0
