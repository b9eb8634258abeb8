-- When a list of types is full for a group, and when it has the group.
use Rattle.std.proofs.Common.{◌≡◌, subst, ℕ, ◌+◌, ◌<◌, ◌≤◌, true, List, length, slice_get, Some, arith}
use Rattle.wasm_readers_types.specs.WasmReadersValues.declared.indices.TheConstants.{MAX_IDS}
use Rattle.wasm_readers_types.specs.declared.types.SubType.{SubType}
use Rattle.wasm_validator_type_ancestors.specs.WasmValidatorTypeGroups.Groups.{all_in}
use Rattle.wasm_validator_type_ancestors.specs.WasmValidatorTypeGroups.Places.{IsNew}
use Rattle.wasm_validator_type_list.specs.declared.type_list.TypeList.TheInside.{Inside}
use Rattle.wasm_validator_type_list.specs.ListViews.{Listing}
use Rattle.wasm_validator_type_list.specs.ListRefusals.{HasGroup, IsFull}
use Rattle.wasm_validator_type_list.specs.ListSoundness.{shown}

module _ {A : Type 0} where
  -- it is full where the group is not there and the types are too many
  pub full_missed : (a : Inside A) (l : Listing A) (g : List (SubType A)) → shown a ≡ l → (a.is_canonical ≡ true → IsNew a.groups g)
      → MAX_IDS < length (all_in a.groups) + length g → IsFull l g
  full_missed a l g e n o = subst (λ (m : Listing A). IsFull m g) e (record { absent = n; over = o })

  -- it is not full where it has the group
  pub full_found : (a : Inside A) (l : Listing A) (g : List (SubType A)) (n : ℕ) → shown a ≡ l → a.is_canonical ≡ true → slice_get a.groups n ≡ Some g → IsFull l g → ⊥
  full_found a l g n e c f = subst (λ (m : Listing A). IsFull m g → ⊥) e (λ h. h.absent c n f)

  -- nor where the types fit
  pub full_fits : (a : Inside A) (l : Listing A) (g : List (SubType A)) → shown a ≡ l → length (all_in a.groups) + length g ≤ MAX_IDS → IsFull l g → ⊥
  full_fits a l g e r = subst (λ (m : Listing A). IsFull m g → ⊥) e (λ h. omega (arith, r, h.over))

  -- it has no group that is not there
  pub known_missed : (a : Inside A) (l : Listing A) (g : List (SubType A)) → shown a ≡ l → (a.is_canonical ≡ true → IsNew a.groups g) → HasGroup l g → ⊥
  known_missed a l g e n = subst (λ (m : Listing A). HasGroup m g → ⊥) e (λ h. n h.0 h.1.0 h.1.1)
