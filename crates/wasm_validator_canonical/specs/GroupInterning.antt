-- What interning a group does to a list, with the ids of the group's types, and what it says of these.
use Rattle.std.specs.Prelude.{ℕ, ◌≡◌, ◌+◌, ◌≤◌, ◌⊎◌, Bool, true, List, [], ◌∷◌, ◌++◌, length, ⊤}
use Rattle.std.specs.declared.result.Result.{Result}
use Rattle.std.specs.declared.result.Result.TheVariants.{Ok, Err}
use Rattle.wasm_spec.specs.Features.{Features}
use Rattle.wasm_spec.specs.Syntax.{Rec}
use Rattle.wasm_readers_errors.specs.declared.error.Error.{Error}
use Rattle.wasm_readers_errors.specs.declared.error.Error.TheVariants.{Refused, OutOfMemory}
use Rattle.wasm_readers_types.specs.WasmReadersValues.declared.indices.TheConstants.{MAX_IDS}
use Rattle.wasm_readers_types.specs.WasmReadersValues.declared.indices.UnpackedIndex.{UnpackedIndex}
use Rattle.wasm_readers_types.specs.declared.types.SubType.{SubType}
use Rattle.wasm_validator_type_list.specs.WasmValidatorTypeGroups.declared.elements.RecGroupElements.{RecGroupElements}
use Rattle.wasm_validator_type_list.specs.WasmValidatorTypeGroups.Elements.{numbers_from, ids_left}
use Rattle.wasm_validator_type_list.specs.WasmValidatorTypeGroups.Groups.{first_of}
use Rattle.wasm_validator_type_list.specs.ListViews.{Listing, types_in}
use Rattle.wasm_validator_type_list.specs.DefTypes.{types_of_list}
use Rattle.wasm_validator_type_list.specs.GroupInterning.{AreOnce, Interns, InternsTypes}
use Rattle.wasm_validator_type_list.specs.ListRefusals.{IsFull}
use Rattle.wasm_validator_canonical.specs.Answers.{AddsIds, AddsGroup}
use Rattle.wasm_validator_canonical.specs.Groups.{AreValid, with_written}

-- The second list begins with the groups of the first: none is dropped, and none is changed.
pub record KeepsGroups {A : Type 0} (old new : Listing A) : Type 0 where
  pub more : List (List (SubType A))
  pub groups : new.groups ≡ old.groups ++ more

-- the group is in the list, found or new, and these are the ids of its types
pub record InternsUnder {A : Type 0} (old new : Listing A) (g : List (SubType A)) (ids : List ℕ) : Type 0 where
  pub is_new : Bool
  pub group : ℕ
  pub interned : Interns old new g is_new group
  pub types : InternsTypes old new g is_new group
  pub once : old.is_canonical ≡ true → AreOnce new.groups
  pub room : length (types_in new) ≤ MAX_IDS
  pub are_ids : ids ≡ numbers_from (first_of new.groups group) (length g)

module _ {A : Type 0} where
  -- the ids of so many types behind those of the list
  abbrev pub next_ids : Listing A → ℕ → List ℕ
  next_ids l count = numbers_from (length (types_in l)) count

  -- there are ids for so many more
  abbrev pub HasIdsFor : Listing A → ℕ → Type 0
  HasIdsFor l count = length (types_in l) + count ≤ MAX_IDS

  -- What adding a group answers that a module writes behind its types, which have these ids: by the ids of the group's
  -- types, or by those that the module has afterwards.
  abbrev pub AddsWritten : Features → Result RecGroupElements Error → Listing A → List ℕ → Rec UnpackedIndex → Listing A → Type 0
  AddsWritten F r old ids g new = AddsIds F r (with_written F (types_of_list old) ids g) (types_of_list new) ids

  abbrev pub AddsWrittenGroup : {T : Type 0} → Features → Result T Error → Listing A → List ℕ → Rec UnpackedIndex → Listing A → List ℕ → Type 0
  AddsWrittenGroup F r old before g new after = AddsGroup F r (with_written F (types_of_list old) before g) (types_of_list new) after

  -- the group was interned, and then the types of the list aren't valid
  pub record InternsInvalid (F : Features) (old new : Listing A) (g : List (SubType A)) : Type 0 where
    pub ids : List ℕ
    pub interned : InternsUnder old new g ids
    pub invalid : AreValid F (types_of_list new) → ⊥

  -- the group would be new, and there are no ids for its types
  pub record InternsNone (old : Listing A) (g : List (SubType A)) : Type 0 where
    pub full : IsFull old g
    pub once : old.is_canonical ≡ true → AreOnce (old.groups ++ g ∷ [])

  -- The group is in a list of valid types, and these are its ids; or there are no ids for it, or a type of it isn't
  -- valid; or memory was refused.
  abbrev pub InternsValid : Features → Result RecGroupElements Error → Listing A → Listing A → List (SubType A) → Type 0
  InternsValid F (Ok elements) old new g = InternsUnder old new g (ids_left elements) × AreValid F (types_of_list new)
  InternsValid F (Err (Refused r)) old new g = InternsNone old g ⊎ InternsInvalid F old new g
  InternsValid F (Err OutOfMemory) old new g = ⊤
