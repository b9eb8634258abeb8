-- What is seen of a type in the list, and what of it matches.
use Rattle.std.proofs.Common.{◌≡◌, refl, sym, ap, subst, ◌∙◌, ℕ, ◌+◌, ◌<◌, Bool, true, false, true≢false, List, [], ◌∷◌, ◌++◌, map, length, slice_get, Option, Some, arith}
use Rattle.std.specs.Bool.{Decides}
use Rattle.std.specs.Cmp.{booleans_Decides}
use Rattle.std.specs.List.{slice_index_or}
use Rattle.std.specs.Option.{option_map}
use Rattle.std.proofs.Math.Bool.{beq}
use Rattle.std.proofs.lemmas.List.{length-map}
use Rattle.std.proofs.lemmas.Option.{none-some, same_Some, slice_get_within, slice_get-get_or}
use Rattle.wasm_readers_errors.specs.WasmSpec.Syntax.{AbstractHeap, abstract_heap, concrete, Comp, func, array, struct, cont, Sub, map_comp}
use Rattle.wasm_readers_errors.specs.WasmSpec.Matching.{kind_of, bottom_of, top_of, shared_flag, top_of_heap, is_shared_type, MatchesAbstract, MatchesKind, IsAboveBottom}
use Rattle.wasm_readers_errors.specs.WasmSpec.MatchingTests.{matches_abstract}
use Rattle.wasm_readers_errors.proofs.WasmSpec.MatchingTests.{tests_decide_matching}
use Rattle.wasm_readers_types.specs.WasmReadersValues.SeenValues.{abstract_heap_of}
use Rattle.wasm_readers_types.specs.SeenTypes.{comp_of}
use Rattle.wasm_readers_types.specs.WasmReadersValues.declared.values.AbstractHeapType.{AbstractHeapType}
use Rattle.wasm_readers_types.specs.declared.types.SubType.{SubType}
use Rattle.wasm_validator_type_ancestors.specs.WasmValidatorTypeGroups.Groups.{all_in}
use Rattle.wasm_validator_type_list.specs.ListViews.{Listing, types_in}
use Rattle.wasm_validator_type_list.specs.Lookups.{leads_to}
use Rattle.wasm_validator_type_list.specs.DeclarationsById.{sub_by_ids, subs_by_ids, declares}
use Rattle.wasm_validator_type_ancestors.proofs.WasmValidatorTypeGroups.Places.{get-left, get-right, get-map, get-append}

pub kind_kept : {R S : Type 0} (f : R → S) (c : Comp R) → kind_of (map_comp f c) ≡ kind_of c
kind_kept f (func ps rs) = refl
kind_kept f (array x) = refl
kind_kept f (struct xs) = refl
kind_kept f (cont r) = refl

pub bottom_kept : {R S : Type 0} (f : R → S) (c : Comp R) → bottom_of (map_comp f c) ≡ bottom_of c
bottom_kept f (func ps rs) = refl
bottom_kept f (array x) = refl
bottom_kept f (struct xs) = refl
bottom_kept f (cont r) = refl

-- abstract heap types with one shared flag
pub abstract-decides : (s t : Bool) (j k : AbstractHeap) (r : Bool) → beq s t ≡ true → r ≡ matches_abstract j k → Decides r ((s ≡ t) × MatchesAbstract j k)
abstract-decides s t j k r e f =
    let d = (tests_decide_matching {R = ℕ}).abstract_types j k in
    ((λ g. ((booleans_Decides s t).0 e, d.0 (sym f ∙ g))), (λ m. f ∙ d.1 m.1))

-- the kind and the bottom of what is declared
module _ (D : ℕ → Option (Sub ℕ)) (a : ℕ) (s : Sub ℕ) (e : D a ≡ Some s) (shared : Bool) (k : AbstractHeap) where
  same_sub : (t : Sub ℕ) → D a ≡ Some t → s ≡ t
  same_sub t f = same_Some s t (sym e ∙ f)

  kind-decides : (j : AbstractHeap) (r : Bool) → j ≡ kind_of s.comp → s.shared ≡ shared → r ≡ matches_abstract j k → Decides r (MatchesKind D a shared k)
  kind-decides j r f g h =
      let d = (tests_decide_matching {R = ℕ}).abstract_types j k in (
        (λ t. record { sub = s; declares = e; same_shared = g; matches = subst (λ x. MatchesAbstract x k) f (d.0 (sym h ∙ t)) }),
        (λ m. h ∙ d.1 (subst (λ x. MatchesAbstract x k) (sym (f ∙ ap (λ (t : Sub ℕ). kind_of t.comp) (same_sub m.sub m.declares))) m.matches)),
      )

  other_kind : (x : Bool) → x ≡ s.shared → beq x shared ≡ false → Decides (beq x shared) (MatchesKind D a shared k)
  other_kind x f g = (
    (λ t. absurd (true≢false (sym t ∙ g))),
    (λ m. (booleans_Decides x shared).1 (f ∙ ap (λ (t : Sub ℕ). t.shared) (same_sub m.sub m.declares) ∙ m.same_shared)),
  )

  bottom-decides : (j : AbstractHeap) (r : Bool) → j ≡ bottom_of s.comp → s.shared ≡ shared → Decides r (j ≡ k) → Decides r (IsAboveBottom D a shared k)
  bottom-decides j r f g d = (
    (λ t. record { sub = s; declares = e; same_shared = g; is_bottom = sym f ∙ d.0 t }),
    (λ m. d.1 (f ∙ ap (λ (t : Sub ℕ). bottom_of t.comp) (same_sub m.sub m.declares) ∙ m.is_bottom)),
  )

  other_bottom : (x : Bool) → x ≡ s.shared → beq x shared ≡ false → Decides (beq x shared) (IsAboveBottom D a shared k)
  other_bottom x f g = (
    (λ t. absurd (true≢false (sym t ∙ g))),
    (λ m. (booleans_Decides x shared).1 (f ∙ ap (λ (t : Sub ℕ). t.shared) (same_sub m.sub m.declares) ∙ m.same_shared)),
  )

module _ {A : Type 0} where
  -- what is declared at the place of a type
  pub record IsAt (D : ℕ → Option (Sub ℕ)) (id : ℕ) (ty : SubType A) : Type 0 where
    pub start : ℕ
    pub declares : D id ≡ Some (sub_by_ids start ty)

  at-from : (gs : List (List (SubType A))) (start id : ℕ) (ty : SubType A) → slice_get (all_in gs) id ≡ Some ty → (n : ℕ) × (slice_get (subs_by_ids start gs) id ≡ Some (sub_by_ids n ty))
  at-from [] start id ty e = absurd (none-some ty e)
  at-from (g ∷ gs) start id ty e =
      let here = map (sub_by_ids start) g in
      let behind = subs_by_ids (start + length g) gs in
      get-append g (all_in gs) id ty e
      (λ f. let l : id < length here = omega (arith, slice_get_within g id ty f, length-map g (sub_by_ids start)) in (start, get-left here behind id l ∙ get-map (sub_by_ids start) g id ty f))
      (λ j f h.
      let r = at-from gs (start + length g) j ty h in
      let n : id ≡ length here + j = omega (arith, f, length-map g (sub_by_ids start)) in
      (r.0, ap (slice_get (here ++ behind)) n ∙ get-right here behind j ∙ r.1))

  pub at_place : (l : Listing A) (id : ℕ) (ty : SubType A) → id < length (types_in l) → ty ≡ slice_index_or (types_in l) id ty → IsAt (declares l.groups) id ty
  unfolding declares
  at_place l id ty h e = let r = at-from l.groups 0 id ty (slice_get-get_or (types_in l) id ty h ∙ ap Some (sym e)) in record { start = r.0; declares = r.1 }

  module _ (l : Listing A) (id : ℕ) (ty : SubType A) (h : id < length (types_in l)) (e : ty ≡ slice_index_or (types_in l) id ty) (shared : Bool) (k : AbstractHeap) where
    pub kind_seen : (j : AbstractHeap) (r : Bool) → j ≡ kind_of (comp_of ty.composite_type.inner) → beq ty.composite_type.shared shared ≡ true → r ≡ matches_abstract j k → Decides r (MatchesKind (declares l.groups) id shared k)
    kind_seen j r f g m =
        let p = at_place l id ty h e in
        kind-decides (declares l.groups) id (sub_by_ids p.start ty) p.declares shared k j r (f ∙ sym (kind_kept (leads_to p.start) (comp_of ty.composite_type.inner))) ((booleans_Decides ty.composite_type.shared shared).0 g) m

    pub kind_unlike : beq ty.composite_type.shared shared ≡ false → Decides (beq ty.composite_type.shared shared) (MatchesKind (declares l.groups) id shared k)
    kind_unlike g = let p = at_place l id ty h e in other_kind (declares l.groups) id (sub_by_ids p.start ty) p.declares shared k ty.composite_type.shared refl g

    pub bottom_seen : (r : Bool) → beq ty.composite_type.shared shared ≡ true → Decides r (bottom_of (comp_of ty.composite_type.inner) ≡ k) → Decides r (IsAboveBottom (declares l.groups) id shared k)
    bottom_seen r g d =
        let p = at_place l id ty h e in
        let c = comp_of ty.composite_type.inner in
        bottom-decides (declares l.groups) id (sub_by_ids p.start ty) p.declares shared k (bottom_of c) r (sym (bottom_kept (leads_to p.start) c)) ((booleans_Decides ty.composite_type.shared shared).0 g) d

    pub bottom_unlike : beq ty.composite_type.shared shared ≡ false → Decides (beq ty.composite_type.shared shared) (IsAboveBottom (declares l.groups) id shared k)
    bottom_unlike g = let p = at_place l id ty h e in other_bottom (declares l.groups) id (sub_by_ids p.start ty) p.declares shared k ty.composite_type.shared refl g

  -- the shared flag and the top of what is declared
  pub shared_seen : (l : Listing A) (id : ℕ) (ty : SubType A) → id < length (types_in l) → ty ≡ slice_index_or (types_in l) id ty → is_shared_type (declares l.groups) id ≡ ty.composite_type.shared
  shared_seen l id ty h e = let p = at_place l id ty h e in ap shared_flag p.declares

  pub top_seen : (l : Listing A) (id : ℕ) (ty : SubType A) (j k : AbstractHeapType) → id < length (types_in l) → ty ≡ slice_index_or (types_in l) id ty
      → abstract_heap_of j ≡ kind_of (comp_of ty.composite_type.inner) → abstract_heap_of k ≡ top_of (abstract_heap_of j) → top_of_heap (declares l.groups) (concrete id) ≡ Some (abstract_heap ty.composite_type.shared (abstract_heap_of k))
  top_seen l id ty j k h e f g =
      let p = at_place l id ty h e in
      let top : top_of (kind_of (map_comp (leads_to p.start) (comp_of ty.composite_type.inner))) ≡ abstract_heap_of k = ap top_of (kind_kept (leads_to p.start) (comp_of ty.composite_type.inner) ∙ sym f) ∙ sym g in
      ap (option_map (λ (s : Sub ℕ). abstract_heap s.shared (top_of (kind_of s.comp)))) p.declares ∙ (λ i. Some (abstract_heap ty.composite_type.shared (top i)))
