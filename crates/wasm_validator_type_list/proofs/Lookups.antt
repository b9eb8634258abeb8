-- Types by their ids.
use Rattle.std.proofs.Common.{◌≡◌, refl, sym, ap, subst, ◌∙◌, ℕ, zero, suc, ◌+◌, ◌-◌, ◌<◌, List, [], ◌∷◌, ◌++◌, length, slice_get, take, drop, Some, None, arith, length-append}
use Rattle.std.proofs.lemmas.Option.{none-some, same_Some, slice_get_within, get_or_from_slice_get}
use Rattle.std.proofs.lemmas.List.Concat.{flat_map-append}
use Rattle.wasm_readers_types.specs.WasmReadersValues.SeenValues.{index_of}
use Rattle.wasm_readers_types.specs.WasmReadersValues.Indices.{module_of}
use Rattle.wasm_readers_types.specs.WasmReadersValues.declared.indices.PackedIndex.{PackedIndex}
use Rattle.wasm_readers_types.specs.WasmReadersValues.declared.indices.UnpackedIndex.{UnpackedIndex}
use Rattle.wasm_readers_types.specs.WasmReadersValues.declared.indices.UnpackedIndex.TheVariants.{Module, RecGroup, Id}
use Rattle.wasm_readers_types.specs.declared.types.SubType.{SubType}
use Rattle.wasm_validator_type_ancestors.specs.WasmValidatorTypeGroups.Groups.{all_in, first_of, IsInGroup}
use Rattle.wasm_validator_type_list.specs.GroupOrder.{IsKnown, AreListable}
use Rattle.wasm_validator_type_ancestors.proofs.WasmValidatorTypeGroups.Places.{get-left, get-right, split-at, first_of-suc}

-- what a known reference is not
pub not_module : (n m : ℕ) (r : UnpackedIndex) → IsKnown n m r → module_of r ≡ None
not_module n m (Module i) h = absurd h
not_module n m (RecGroup i) h = refl
not_module n m (Id id) h = refl

pub group_found : {X : Type 0} (xs : List X) (k : ℕ) → k < length xs → (x : X) × (slice_get xs k ≡ Some x)
group_found [] k h = absurd (omega (arith, h))
group_found (x ∷ xs) zero h = (x, refl)
group_found (x ∷ xs) (suc k) h = group_found xs k (omega (arith, h))

-- the type at a place of a group is a member of the group
pub record IsMember {X : Type 0} (gs : List (List X)) (k place : ℕ) (x : X) : Type 0 where
  pub members : List X
  pub group : slice_get gs k ≡ Some members
  pub position : slice_get members (place - first_of gs k) ≡ Some x

pub first_of-next : {X : Type 0} (gs : List (List X)) (k : ℕ) (g : List X) → slice_get gs k ≡ Some g → first_of gs (k + 1) ≡ first_of gs k + length g
first_of-next [] k g e = absurd (none-some g e)
first_of-next (x ∷ xs) zero g e = let same : x ≡ g = same_Some x g e in omega (arith, ap length same, length-append x [])
first_of-next (x ∷ xs) (suc k) g e =
    let n : suc k + 1 ≡ suc (k + 1) = omega arith in
    omega (arith, ap (first_of (x ∷ xs)) n, first_of-suc x xs (k + 1), first_of-suc x xs k, first_of-next xs k g e)

pub member_at : {X : Type 0} (gs : List (List X)) (k place : ℕ) (x : X) → IsInGroup gs k place → slice_get (all_in gs) place ≡ Some x → IsMember gs k place x
member_at gs k place x h e =
    let f = group_found gs k h.there in
    let g = f.0 in
    let a = take k gs in
    let b = drop (k + 1) gs in
    let is : a ++ g ∷ b ≡ gs = split-at gs k g f.1 in
    let i = place - first_of gs k in
    let at : place ≡ length (all_in a) + i = omega (arith, h.from) in
    let all : all_in gs ≡ all_in a ++ (g ++ all_in b) = ap all_in (sym is) ∙ flat_map-append (λ l. l) a (g ∷ b) in
    let l : i < length g = omega (arith, h.from, h.below, first_of-next gs k g f.1) in
    record {
      members = g;
      group = f.1;
      position = sym (get-left g (all_in b) i l) ∙ sym (get-right (all_in a) (g ++ all_in b) i) ∙ ap (slice_get (all_in a ++ (g ++ all_in b))) (sym at) ∙ ap (λ ys. slice_get ys place) (sym all) ∙ e;
    }

module _ {A : Type 0} where
  pub supertype_listed : (gs : List (List (SubType A))) (k place : ℕ) (ty : SubType A) (p : PackedIndex) → AreListable gs → IsInGroup gs k place
      → slice_get (all_in gs) place ≡ Some ty → slice_get ty.supertype_idxs 0 ≡ Some p → module_of (index_of p) ≡ None
  supertype_listed gs k place ty p h in_group e f =
      let m = member_at gs k place ty in_group e in
      let i = place - first_of gs k in
      let known = (h k m.members m.group).earlier i ty m.position 0 p (slice_get_within ty.supertype_idxs 0 p f) in
      not_module (first_of gs k) i (index_of p) (subst (λ (q : PackedIndex). IsKnown (first_of gs k) i (index_of q)) (get_or_from_slice_get ty.supertype_idxs 0 p p f) known)
