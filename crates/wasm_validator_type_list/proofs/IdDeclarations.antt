-- What the ids of a list declare, from the groups.
use Rattle.std.proofs.Common.{◌≡◌, refl, sym, ap, ◌∙◌, ℕ, zero, suc, ◌+◌, ◌-◌, ◌<◌, List, [], ◌∷◌, map, length, slice_get, Option, Some, All, arith}
use Rattle.std.specs.Option.{option_map, option_and_then}
use Rattle.std.proofs.lemmas.List.{length-map}
use Rattle.std.proofs.lemmas.Option.{none-some, same_Some, slice_get_within, option_and_then_some}
use Rattle.std.proofs.lemmas.List.Elements.{All-head}
use Rattle.wasm_readers_errors.specs.WasmSpec.Syntax.{Sub}
use Rattle.wasm_readers_errors.specs.WasmSpec.SupertypeOrder.{supertype, supertype_of}
use Rattle.wasm_readers_types.specs.WasmReadersValues.SeenValues.{index_of}
use Rattle.wasm_readers_types.specs.WasmReadersValues.declared.indices.CoreTypeId.{CoreTypeId}
use Rattle.wasm_readers_types.specs.WasmReadersValues.declared.indices.PackedIndex.{PackedIndex}
use Rattle.wasm_readers_types.specs.WasmReadersValues.declared.indices.UnpackedIndex.{UnpackedIndex}
use Rattle.wasm_readers_types.specs.WasmReadersValues.declared.indices.UnpackedIndex.TheVariants.{Module, RecGroup, Id}
use Rattle.wasm_readers_types.specs.declared.types.SubType.{SubType}
use Rattle.wasm_validator_type_ancestors.specs.WasmValidatorTypeGroups.Groups.{all_in, first_of, IsInGroup}
use Rattle.wasm_validator_type_list.specs.GroupOrder.{IsKnown, AreListable}
use Rattle.wasm_validator_type_list.specs.Lookups.{leads_to, IsSupertypeAt}
use Rattle.wasm_validator_type_list.specs.DeclarationsById.{sub_by_ids, subs_by_ids, declares}
use Rattle.wasm_validator_type_ancestors.proofs.WasmValidatorTypeGroups.Places.{get-left, get-right, get-map, get-append, first_of-suc}
use Rattle.wasm_validator_type_list.proofs.Lookups.{member_at}

-- an element of a mapped list comes from one of the list
pub from-map : {X Y P : Type 0} (f : X → Y) (xs : List X) (k : ℕ) (y : Y) → slice_get (map f xs) k ≡ Some y → ((x : X) → slice_get xs k ≡ Some x → f x ≡ y → P) → P
from-map f [] k y e h = absurd (none-some y e)
from-map f (x ∷ xs) zero y e h = h x refl (same_Some (f x) y e)
from-map f (x ∷ xs) (suc k) y e h = from-map f xs k y e h

pub first-mapped : {X Y Z : Type 0} (f : Y → Z) (g : X → Y) (xs : List X) → slice_get (map f (map g xs)) 0 ≡ option_map (λ x. f (g x)) (slice_get xs 0)
first-mapped f g [] = refl
first-mapped f g (x ∷ xs) = refl

-- the first of a list of known references leads before a type
pub leads_before : (start i : ℕ) (r : UnpackedIndex) → IsKnown start i r → leads_to start r < start + i
leads_before start i (Module j) h = absurd h
leads_before start i (RecGroup j) h = omega (arith, h)
leads_before start i (Id id) h = omega (arith, h)

first_before : (start i y : ℕ) (ps : List PackedIndex) → All (λ (p : PackedIndex). IsKnown start i (index_of p)) ps → slice_get (map (leads_to start) (map index_of ps)) 0 ≡ Some y → y < start + i
first_before start i y [] h e = absurd (none-some y e)
first_before start i y (p ∷ ps) h e = let n : leads_to start (index_of p) ≡ y = same_Some (leads_to start (index_of p)) y e in let l = leads_before start i (index_of p) (All-head (λ (q : PackedIndex). IsKnown start i (index_of q)) p ps h) in omega (arith, n, l)

module _ {A : Type 0} where
  -- the member at a position of a group
  declared-member :
      (gs : List (List (SubType A))) (start k i : ℕ) (g : List (SubType A)) (ty : SubType A) → slice_get gs k ≡ Some g → slice_get g i ≡ Some ty
      → slice_get (subs_by_ids start gs) (first_of gs k + i) ≡ Some (sub_by_ids (start + first_of gs k) ty)
  declared-member [] start k i g ty e f = absurd (none-some g e)
  declared-member (x ∷ xs) start zero i g ty e f =
      let n : first_of (x ∷ xs) 0 + i ≡ i = omega arith in
      let s : start ≡ start + first_of (x ∷ xs) 0 = omega arith in
      let there : slice_get x i ≡ Some ty = ap (λ l. slice_get l i) (same_Some x g e) ∙ f in
      let here = map (sub_by_ids start) x in
      let l : i < length here = omega (arith, slice_get_within x i ty there, length-map x (sub_by_ids start)) in
      ap (slice_get (subs_by_ids start (x ∷ xs))) n ∙ get-left here (subs_by_ids (start + length x) xs) i l ∙ get-map (sub_by_ids start) x i ty there ∙ (λ j. Some (sub_by_ids (s j) ty))
  declared-member (x ∷ xs) start (suc k) i g ty e f =
      let here = map (sub_by_ids start) x in
      let n : first_of (x ∷ xs) (suc k) + i ≡ length here + (first_of xs k + i) = omega (arith, first_of-suc x xs k, length-map x (sub_by_ids start)) in
      let s : start + length x + first_of xs k ≡ start + first_of (x ∷ xs) (suc k) = omega (arith, first_of-suc x xs k) in
      ap (slice_get (subs_by_ids start (x ∷ xs))) n ∙ get-right here (subs_by_ids (start + length x) xs) (first_of xs k + i) ∙ declared-member xs (start + length x) k i g ty e f ∙ (λ j. Some (sub_by_ids (s j) ty))

  -- which member declares what an id declares
  pub record IsDeclared (gs : List (List (SubType A))) (start id : ℕ) (s : Sub ℕ) : Type 0 where
    pub group : ℕ
    pub position : ℕ
    pub members : List (SubType A)
    pub ty : SubType A
    pub there : slice_get gs group ≡ Some members
    pub member : slice_get members position ≡ Some ty
    pub place : id ≡ first_of gs group + position
    pub says : sub_by_ids (start + first_of gs group) ty ≡ s

  declared-from : (gs : List (List (SubType A))) (start id : ℕ) (s : Sub ℕ) → slice_get (subs_by_ids start gs) id ≡ Some s → IsDeclared gs start id s
  declared-from [] start id s e = absurd (none-some s e)
  declared-from (x ∷ xs) start id s e =
      get-append (map (sub_by_ids start) x) (subs_by_ids (start + length x) xs) id s e
      (λ f. from-map (sub_by_ids start) x id s f (λ ty g h.
      let z : start + first_of (x ∷ xs) 0 ≡ start = omega arith in
      record { group = 0; position = id; members = x; ty = ty; there = refl; member = g; place = omega arith; says = ap (λ n. sub_by_ids n ty) z ∙ h }))
      (λ j f g.
      let d = declared-from xs (start + length x) j s g in
      let z : start + first_of (x ∷ xs) (suc d.group) ≡ start + length x + first_of xs d.group = omega (arith, first_of-suc x xs d.group) in
      record {
        group = suc d.group;
        position = d.position;
        members = d.members;
        ty = d.ty;
        there = d.there;
        member = d.member;
        place = omega (arith, f, d.place, first_of-suc x xs d.group, length-map x (sub_by_ids start));
        says = ap (λ n. sub_by_ids n d.ty) z ∙ d.says;
      })

  pub declared_by : (gs : List (List (SubType A))) (id : ℕ) (s : Sub ℕ) → declares gs id ≡ Some s → IsDeclared gs 0 id s
  unfolding declares
  declared_by gs id s e = declared-from gs 0 id s e

  pub declares-member : (gs : List (List (SubType A))) (k i : ℕ) (g : List (SubType A)) (ty : SubType A) → slice_get gs k ≡ Some g → slice_get g i ≡ Some ty → declares gs (first_of gs k + i) ≡ Some (sub_by_ids (first_of gs k) ty)
  unfolding declares
  declares-member gs k i g ty e f = let z : 0 + first_of gs k ≡ first_of gs k = omega arith in declared-member gs 0 k i g ty e f ∙ (λ j. Some (sub_by_ids (z j) ty))

  pub declares-at : (gs : List (List (SubType A))) (k place : ℕ) (ty : SubType A) → IsInGroup gs k place → slice_get (all_in gs) place ≡ Some ty → declares gs place ≡ Some (sub_by_ids (first_of gs k) ty)
  declares-at gs k place ty h e =
      let m = member_at gs k place ty h e in
      let n : place ≡ first_of gs k + (place - first_of gs k) = omega (arith, h.from) in
      ap (declares gs) n ∙ declares-member gs k (place - first_of gs k) m.members ty m.group m.position

  -- the supertype that a type declares
  pub supertype_read : (gs : List (List (SubType A))) (place : ℕ) (o : Option CoreTypeId) → IsSupertypeAt gs place o → supertype_of (declares gs) place ≡ option_map (λ (id : CoreTypeId). id.index) o
  supertype_read gs place o h =
      ap (option_and_then supertype) (declares-at gs h.group place h.ty h.in_group h.there) ∙ first-mapped (leads_to (first_of gs h.group)) index_of h.ty.supertype_idxs ∙ sym h.leads

  -- it comes before the type
  pub descends : (gs : List (List (SubType A))) → AreListable gs → (x y : ℕ) → supertype_of (declares gs) x ≡ Some y → y < x
  descends gs h x y e = option_and_then_some supertype (declares gs x) y e (λ s f g.
      let d = declared_by gs x s f in
      let st = first_of gs d.group in
      let z : 0 + st ≡ st = omega arith in
      let says : slice_get (map (leads_to st) (map index_of d.ty.supertype_idxs)) 0 ≡ Some y = ap (λ n. supertype (sub_by_ids n d.ty)) (sym z) ∙ ap supertype d.says ∙ g in
      let l : y < st + d.position = first_before st d.position y d.ty.supertype_idxs ((h d.group d.members d.there).earlier d.position d.ty d.member) says in
      let n : x ≡ st + d.position = d.place in
      omega (arith, l, n))
