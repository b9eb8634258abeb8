-- The refusals of a list of types.
use Rattle.std.specs.Prelude.{ℕ, ◌≡◌, ◌+◌, ◌<◌, true, List, [], ◌∷◌, length, slice_get, ⊤}
use Rattle.std.specs.declared.option.Option.TheVariants.{Some, None}
use Rattle.std.specs.declared.result.Result.{Result}
use Rattle.std.specs.declared.result.Result.TheVariants.{Ok, Err}
use Rattle.wasm_readers_errors.specs.declared.error.Error.{Error}
use Rattle.wasm_readers_errors.specs.declared.error.Error.TheVariants.{Refused, OutOfMemory}
use Rattle.wasm_readers_errors.specs.declared.error.Fault.TheVariants.{Rule, OutOfGroup}
use Rattle.wasm_readers_errors.specs.declared.error.Refusal.{Refusal}
use Rattle.wasm_readers_errors.specs.declared.error.Rule.TheVariants.{TooManyTypes}
use Rattle.wasm_readers_errors.specs.WasmSpec.Syntax.{Sub}
use Rattle.wasm_readers_types.specs.WasmReadersValues.declared.indices.TheConstants.{MAX_IDS}
use Rattle.wasm_readers_types.specs.WasmReadersValues.declared.indices.UnpackedIndex.{UnpackedIndex}
use Rattle.wasm_readers_types.specs.SeenTypes.{sub_of}
use Rattle.wasm_readers_types.specs.declared.types.SubType.{SubType}
use Rattle.wasm_validator_type_ancestors.specs.WasmValidatorTypeGroups.Places.{IsNew}
use Rattle.wasm_validator_type_list.specs.ListViews.{Listing, types_in}

-- there would be more types than ids
abbrev pub too_many_types : ℕ → Refusal
too_many_types offset = record { fault = Rule TooManyTypes; offset = offset; missing = None }

-- the position is not in the group
abbrev pub not_in_group : ℕ → ℕ → Refusal
not_in_group index offset = record { fault = OutOfGroup index; offset = offset; missing = None }

module _ {A : Type 0} where
  -- equal groups are kept once, and the list has this one
  abbrev pub HasGroup : Listing A → List (SubType A) → Type 0
  HasGroup l g = (l.is_canonical ≡ true) × ((k : ℕ) × (slice_get l.groups k ≡ Some g))

  -- there is no id for the types of a group that it hasn't, and the group would be new
  pub record IsFull (l : Listing A) (g : List (SubType A)) : Type 0 where
    pub absent : l.is_canonical ≡ true → IsNew l.groups g
    pub over : MAX_IDS < length (types_in l) + length g

  -- The call at the offset refuses the content exactly where the group is new and the types of the list and its own are more
  -- than there are ids, unless memory is refused.
  abbrev pub RefusesTooMany : {X : Type 0} → Result X Error → Listing A → List (SubType A) → ℕ → Type 0
  RefusesTooMany (Ok x) l g offset = IsFull l g → ⊥
  RefusesTooMany (Err (Refused r)) l g offset = IsFull l g × (r ≡ too_many_types offset)
  RefusesTooMany (Err OutOfMemory) l g offset = ⊤

  -- The same of a group whose one sub type says this.
  pub record RefusesSeen {X : Type 0} (r : Result X Error) (l : Listing A) (seen : Sub UnpackedIndex) (offset : ℕ) : Type 0 where
    pub ty : SubType A
    pub says : sub_of ty ≡ seen
    pub refuses : RefusesTooMany r l (ty ∷ []) offset
