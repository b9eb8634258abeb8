-- What interning a group does to a list.
use Rattle.std.specs.Prelude.{ℕ, ◌≡◌, ◌<◌, ◌≤◌, Bool, true, false, ◌↔◌, List, [], ◌∷◌, ◌++◌, length, slice_get}
use Rattle.std.specs.declared.option.Option.TheVariants.{Some}
use Rattle.wasm_readers_errors.specs.WasmSpec.Syntax.{Sub}
use Rattle.wasm_readers_errors.specs.WasmSpec.TypeLaws.{HasNoRepetition}
use Rattle.wasm_readers_types.specs.WasmReadersValues.declared.indices.UnpackedIndex.{UnpackedIndex}
use Rattle.wasm_readers_types.specs.SeenTypes.{sub_of}
use Rattle.wasm_readers_types.specs.declared.types.SubType.{SubType}
use Rattle.wasm_validator_type_ancestors.specs.WasmValidatorTypeGroups.Places.{IsNew}
use Rattle.wasm_validator_type_ancestors.specs.WasmValidatorTypeGroups.Groups.{all_in, first_of}
use Rattle.wasm_validator_type_list.specs.ListViews.{Listing}
use Rattle.wasm_validator_type_list.specs.DefTypes.{def_types, tree_behind, IsTreeOfOne, StandFor}

module _ {A : Type 0} where
  -- no group is there twice, and no type has two ids
  pub record AreOnce (gs : List (List (SubType A))) : Type 0 where
    pub groups : (j k : ℕ) (g : List (SubType A)) → slice_get gs j ≡ Some g → slice_get gs k ≡ Some g → j ≡ k
    pub types : HasNoRepetition (def_types true gs)

  abbrev pub with_one : Listing A → List (SubType A) → Listing A
  with_one l g = record { is_canonical = l.is_canonical; is_open = l.is_open; groups = l.groups ++ g ∷ []; depths = l.depths }

  -- The answer is the number of a group with these sub types: one that the list had, which happens only where equal
  -- groups are kept once, and then the list stays; or a new one at its end, and there equal groups are kept once only
  -- if the list had none.
  pub record Interns (old new : Listing A) (g : List (SubType A)) (is_new : Bool) (n : ℕ) : Type 0 where
    pub mode : is_new ≡ false → old.is_canonical ≡ true
    pub known : is_new ≡ false → new ≡ old
    pub there : is_new ≡ false → slice_get old.groups n ≡ Some g
    pub added : is_new ≡ true → new ≡ with_one old g
    pub last : is_new ≡ true → n ≡ length old.groups
    pub absent : is_new ≡ true → old.is_canonical ≡ true → IsNew old.groups g

  -- The same of the types. Where equal groups are kept once, the group is known exactly if its recursive type is that
  -- of one of the list. The ids of the answered group stand for the places of the recursive type, and each id that the
  -- list had stands for what it stood for.
  pub record InternsTypes (old new : Listing A) (g : List (SubType A)) (is_new : Bool) (n : ℕ) : Type 0 where
    pub known : old.is_canonical ≡ true → (is_new ≡ false) ↔ IsTreeOfOne true old.groups (tree_behind true old.groups g)
    pub members : StandFor (def_types old.is_canonical new.groups) (first_of new.groups n) g (tree_behind old.is_canonical old.groups g)
    pub kept : length (all_in old.groups) ≤ length (all_in new.groups)
    pub earlier : (id : ℕ) → id < length (all_in old.groups) → slice_get (def_types old.is_canonical new.groups) id ≡ slice_get (def_types old.is_canonical old.groups) id

  -- The id is that of the one member of a group that is interned.
  pub record InternsOne (old new : Listing A) (ty : SubType A) (id : ℕ) : Type 0 where
    pub is_new : Bool
    pub group : ℕ
    pub interned : Interns old new (ty ∷ []) is_new group
    pub types : InternsTypes old new (ty ∷ []) is_new group
    pub first : id ≡ first_of new.groups group

  -- The same of a sub type that says this.
  pub record InternsSeen (old new : Listing A) (seen : Sub UnpackedIndex) (id : ℕ) : Type 0 where
    pub ty : SubType A
    pub says : sub_of ty ≡ seen
    pub interned : InternsOne old new ty id
