-- What a refusal of a group says that a module writes behind its types: the first of the limits and rules that is
-- broken, with its fault, and where the group stands. Core Specification 3.0, Validation, Types (Recursive Types).
use Rattle.std.specs.Prelude.{ℕ, ◌≡◌, ◌+◌, ◌<◌, ◌≤◌, if◌then◌else◌, Bool, true, false, List, [], ◌∷◌, ◌++◌, map, length, ⊤}
use Rattle.wasm_spec.specs.Syntax.{Rec}
use Rattle.wasm_spec.specs.Features.{canonical}
use Rattle.wasm_spec_rules.specs.FeatureFlags.{features_of}
use Rattle.wasm_readers_errors.specs.declared.error.Error.{Error}
use Rattle.wasm_readers_errors.specs.declared.error.Error.TheVariants.{Refused, OutOfMemory}
use Rattle.wasm_readers_errors.specs.declared.error.Refusal.{Refusal}
use Rattle.wasm_readers_errors.specs.WasmReadersFeatures.declared.features.WasmFeatures.{WasmFeatures}
use Rattle.wasm_readers_types.specs.WasmReadersValues.declared.indices.TheConstants.{MAX_IDS}
use Rattle.wasm_readers_types.specs.WasmReadersValues.declared.indices.UnpackedIndex.{UnpackedIndex}
use Rattle.wasm_readers_types.specs.declared.types.SubType.{SubType}
use Rattle.wasm_readers_types.specs.SeenTypes.{sub_of}
use Rattle.wasm_validator_type_list.specs.ListViews.{Listing, types_in}
use Rattle.wasm_validator_type_list.specs.ListRefusals.{too_many_types, IsFull}
use Rattle.wasm_validator_type_checks.specs.TypeRefusals.{ToldOfGroup}
use Rattle.wasm_validator_canonical.specs.declared.type_canonicalizer.TypeCanonicalizer.{TypeCanonicalizer}
use Rattle.wasm_validator_canonical.specs.Groups.{allows_written, closes}
use Rattle.wasm_validator_canonical.specs.Indices.{canonical_group, extend_at_most_one}
use Rattle.wasm_validator_canonical.specs.GroupInterning.{HasIdsFor}
use Rattle.wasm_validator_canonical.specs.Refusals.{rec_without_gc, extends_many, extends_later, describes_later, unknown_type, unknown_without_gc}

-- a refusal of the content says this, and one for want of memory nothing
abbrev pub IfContent : (Refusal → Type 0) → Error → Type 0
IfContent P (Refused r) = P r
IfContent P OutOfMemory = ⊤

-- An index in a group that stands at the indices from start to below end: it is of no type so far, or not one that a
-- module writes, or without gc one of the group itself; or a type extends or describes one that doesn't come before it.
pub data ToldOfIndex (gc : Bool) (start end offset : ℕ) (r : Refusal) : Type 0 where
  unknown : (index : ℕ) → end ≤ index → r ≡ unknown_type index offset → ToldOfIndex gc start end offset r
  not_written : r ≡ unknown_type 0 offset → ToldOfIndex gc start end offset r
  needs_gc : (index : ℕ) → gc ≡ false → start ≤ index → index < end → r ≡ unknown_without_gc index offset → ToldOfIndex gc start end offset r
  late_supertype : r ≡ extends_later offset → ToldOfIndex gc start end offset r
  late_described : r ≡ describes_later offset → ToldOfIndex gc start end offset r

abbrev pub ToldOfIndexBy : TypeCanonicalizer → Refusal → Type 0
ToldOfIndexBy c = ToldOfIndex c.has_gc (length c.ids.now) c.end c.offset

-- a group as it is written behind so many types: `rec`, more than one supertype of a type, and its indices
pub data ToldOfWritten (features : WasmFeatures) (offset start : ℕ) (g : Rec UnpackedIndex) (r : Refusal) : Type 0 where
  with_rec : allows_written (features_of features) g ≡ false → r ≡ rec_without_gc offset → ToldOfWritten features offset start g r
  extends_two : allows_written (features_of features) g ≡ true → extend_at_most_one g ≡ false → r ≡ extends_many offset → ToldOfWritten features offset start g r
  index : allows_written (features_of features) g ≡ true → extend_at_most_one g ≡ true → ToldOfIndex (features_of features).gc start (start + length g.types) offset r → ToldOfWritten features offset start g r

-- a group that is interned: it would be new and there are no ids for its types, or it comes to the end and a type of it breaks a rule
pub data ToldOfInterned {A : Type 0} (features : WasmFeatures) (offset : ℕ) (old : Listing A) (g : List (SubType A)) (r : Refusal) : Type 0 where
  no_ids : IsFull old g → r ≡ too_many_types offset → ToldOfInterned features offset old g r
  breaks : HasIdsFor old (length g) → ToldOfGroup features offset (old.groups ++ g ∷ []) (length old.groups) r → ToldOfInterned features offset old g r

-- the group's types as the list has them, where they would be new and there are no ids for them
pub record ToldOfFull {A : Type 0} (offset : ℕ) (old : Listing A) (ids : List ℕ) (g : Rec UnpackedIndex) (r : Refusal) : Type 0 where
  pub types : List (SubType A)
  pub are_types : map sub_of types ≡ canonical_group ids g.types
  pub full : IsFull old types
  pub told : r ≡ too_many_types offset

-- the group's types as the list has them, where they come to its end and one of them breaks a rule
pub record ToldOfNew {A : Type 0} (features : WasmFeatures) (offset : ℕ) (old : Listing A) (ids : List ℕ) (g : Rec UnpackedIndex) (r : Refusal) : Type 0 where
  pub types : List (SubType A)
  pub are_types : map sub_of types ≡ canonical_group ids g.types
  pub told : ToldOfGroup features offset (old.groups ++ types ∷ []) (length old.groups) r

-- how many types are counted with those of a group before it is looked up: those of the list, unless equal types are one
abbrev pub counted_first : Bool → ℕ → ℕ
counted_first is_canonical held = if is_canonical then 0 else held

-- there are ids for these and so many more
abbrev pub FitsFirst : {A : Type 0} → Bool → Listing A → ℕ → Type 0
FitsFirst is_canonical l count = counted_first is_canonical (length (types_in l)) + count ≤ MAX_IDS

-- A group that a module, whose types have these ids, adds to the list: there are too few ids for its types, it can't be
-- written so, or a type of it isn't valid. Where equal types are one, the ids are asked for only where the group is new.
pub data ToldOfAdded {A : Type 0} (features : WasmFeatures) (offset : ℕ) (old : Listing A) (ids : List ℕ) (g : Rec UnpackedIndex) (r : Refusal) : Type 0 where
  too_many : MAX_IDS < counted_first (canonical (features_of features)) (length (types_in old)) + length g.types → r ≡ too_many_types offset → ToldOfAdded features offset old ids g r
  written : FitsFirst (canonical (features_of features)) old (length g.types) → ToldOfWritten features offset (length ids) g r → ToldOfAdded features offset old ids g r
  full : closes (features_of features) (length ids) g ≡ true → ToldOfFull offset old ids g r → ToldOfAdded features offset old ids g r
  invalid : HasIdsFor old (length g.types) → closes (features_of features) (length ids) g ≡ true → ToldOfNew features offset old ids g r → ToldOfAdded features offset old ids g r
