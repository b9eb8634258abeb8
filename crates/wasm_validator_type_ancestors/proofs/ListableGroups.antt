-- When the references of a group are known, part by part.
use Rattle.std.proofs.Common.{◌≡◌, refl, sym, ap, subst, ◌∙◌, ℕ, ◌<◌, ◌≤◌, Bool, true, false, true≢false, List, [], ◌∷◌, ◌++◌, map, length, arith, All}
use Rattle.std.specs.Bool.{Decides}
use Rattle.std.specs.List.{flat_map, slice_index_or}
use Rattle.std.specs.Option.{option_map}
use Rattle.std.specs.declared.option.Option.TheVariants.{Some}
use Rattle.std.proofs.lemmas.List.Elements.{All-map, All-weaker}
use Rattle.std.proofs.lemmas.Option.{slice_get_within, slice_get-get_or, get_or_from_slice_get}
use Rattle.wasm_validator_type_groups.specs.WasmSpec.References.{refs_val, refs_field, refs_comp, refs_sub, refs_option}
use Rattle.wasm_validator_type_groups.specs.WasmReadersTypes.WasmReadersValues.SeenValues.{index_of, val_of, field_of}
use Rattle.wasm_validator_type_groups.specs.WasmReadersTypes.WasmReadersValues.declared.indices.PackedIndex.{PackedIndex}
use Rattle.wasm_validator_type_groups.specs.WasmReadersTypes.WasmReadersValues.declared.indices.UnpackedIndex.{UnpackedIndex}
use Rattle.wasm_validator_type_groups.specs.WasmReadersTypes.WasmReadersValues.declared.indices.UnpackedIndex.TheVariants.{Module, RecGroup, Id}
use Rattle.wasm_validator_type_groups.specs.WasmReadersTypes.WasmReadersValues.declared.values.ValType.{ValType}
use Rattle.wasm_validator_type_groups.specs.WasmReadersTypes.WasmReadersValues.declared.values.FieldType.{FieldType}
use Rattle.wasm_validator_type_groups.specs.WasmReadersTypes.declared.types.FuncType.{FuncType}
use Rattle.wasm_validator_type_groups.specs.WasmReadersTypes.declared.types.StructType.{StructType}
use Rattle.wasm_validator_type_groups.specs.WasmReadersTypes.declared.types.CompositeInnerType.{CompositeInnerType}
use Rattle.wasm_validator_type_groups.specs.WasmReadersTypes.declared.types.CompositeInnerType.TheVariants.{Func, Struct}
use Rattle.wasm_validator_type_groups.specs.WasmReadersTypes.declared.types.SubType.{SubType}
use Rattle.wasm_validator_type_groups.specs.WasmReadersTypes.SeenTypes.{comp_of, sub_of}
use Rattle.wasm_validator_type_ancestors.specs.GroupReferences.{IsKnown, IsListable, IsListableAt}
use Rattle.wasm_validator_type_ancestors.proofs.Items.{FirstHold, none_first, one_more, both, left, right, flat_decides}

known_further : (types place positions : ℕ) → place ≤ positions → (r : UnpackedIndex) → IsKnown types place r → IsKnown types positions r
known_further types place positions l (Module i) h = absurd h
known_further types place positions l (RecGroup i) h = omega (arith, l, h)
known_further types place positions l (Id id) h = h

module _ (types positions : ℕ) where
  abbrev pub Known : List UnpackedIndex → Type 0
  Known rs = All (IsKnown types positions) rs

  abbrev pub ValuesKnown : List ValType → Type 0
  ValuesKnown vs = All (λ v. All (IsKnown types positions) (refs_val (val_of v))) vs

module _ {A : Type 0} (types positions : ℕ) where
  -- a function type, and a structure type
  module _ (inner : CompositeInnerType A) (f : FuncType A) (e : inner ≡ Func f) (ps : List ValType) (a : Bool) (p : ps ≡ f.params) (d : Decides a (ValuesKnown types positions ps)) where
    params : Decides a (Known types positions (flat_map refs_val (map val_of f.params)))
    params = flat_decides (IsKnown types positions) refs_val val_of f.params a (subst (λ vs. Decides a (ValuesKnown types positions vs)) p d)

    pub funcs_known : (rs : List ValType) (b : Bool) → rs ≡ f.results → a ≡ true → Decides b (ValuesKnown types positions rs) → Decides b (Known types positions (refs_comp (comp_of inner)))
    funcs_known rs b q t c =
        let ins = flat_map refs_val (map val_of f.params) in
        let outs = flat_map refs_val (map val_of f.results) in
        let results : Decides b (Known types positions outs) = flat_decides (IsKnown types positions) refs_val val_of f.results b (subst (λ vs. Decides b (ValuesKnown types positions vs)) q c) in
        subst (λ i. Decides b (Known types positions (refs_comp (comp_of i)))) (sym e)
        ((λ u. both (IsKnown types positions) ins outs (params.0 t) (results.0 u)), (λ h. results.1 (right (IsKnown types positions) ins outs h)))

    pub funcs_unknown : a ≡ false → Decides a (Known types positions (refs_comp (comp_of inner)))
    funcs_unknown t =
        let ins = flat_map refs_val (map val_of f.params) in
        let outs = flat_map refs_val (map val_of f.results) in
        subst (λ i. Decides a (Known types positions (refs_comp (comp_of i)))) (sym e)
        ((λ u. absurd (true≢false (sym u ∙ t))), (λ h. params.1 (left (IsKnown types positions) ins outs h)))

  pub structs_known : (inner : CompositeInnerType A) (s : StructType A) (xs : List FieldType) (r : Bool) → inner ≡ Struct s → xs ≡ s.fields
      → Decides r (All (λ f. All (IsKnown types positions) (refs_field (field_of f))) xs) → Decides r (Known types positions (refs_comp (comp_of inner)))
  structs_known inner s xs r e q d =
      subst (λ i. Decides r (Known types positions (refs_comp (comp_of i)))) (sym e)
      (flat_decides (IsKnown types positions) refs_field field_of s.fields r (subst (λ fs. Decides r (All (λ f. All (IsKnown types positions) (refs_field (field_of f))) fs)) q d))

  -- a type at its place
  module _ (place : ℕ) (s : SubType A) where
    abbrev supers : List UnpackedIndex
    supers = map index_of s.supertype_idxs

    abbrev describes : List UnpackedIndex
    describes = refs_option (option_map index_of s.composite_type.describes_idx)

    abbrev descriptor : List UnpackedIndex
    descriptor = refs_option (option_map index_of s.composite_type.descriptor_idx)

    abbrev inner : List UnpackedIndex
    inner = refs_comp (comp_of s.composite_type.inner)

    behind_supers : IsListableAt types positions place s → Known types positions (describes ++ (descriptor ++ inner))
    behind_supers m = right (IsKnown types positions) supers (describes ++ (descriptor ++ inner)) m.known

    behind_describes : IsListableAt types positions place s → Known types positions (descriptor ++ inner)
    behind_describes m = right (IsKnown types positions) describes (descriptor ++ inner) (behind_supers m)

    pub type_listable : (ps : List PackedIndex) (a r : Bool) → ps ≡ s.supertype_idxs → Decides a ((length ps ≤ 1) × All (λ p. IsKnown types place (index_of p)) ps) → a ≡ true → place ≤ positions
        → Known types positions describes → Known types positions descriptor → Decides r (Known types positions inner) → Decides r (IsListableAt types positions place s)
    type_listable ps a r q d e lt h k c =
        let first = subst (λ is. (length is ≤ 1) × All (λ p. IsKnown types place (index_of p)) is) q (d.0 e) in
        let up : Known types positions supers = All-map (IsKnown types positions) index_of s.supertype_idxs
        (All-weaker (λ p. IsKnown types place (index_of p)) (λ p. IsKnown types positions (index_of p)) (λ p. known_further types place positions lt (index_of p)) s.supertype_idxs first.1) in (
          (λ t. record {
            known = both (IsKnown types positions) supers (describes ++ (descriptor ++ inner)) up
                (both (IsKnown types positions) describes (descriptor ++ inner) h (both (IsKnown types positions) descriptor inner k (c.0 t)));
            one_supertype = first.0;
            earlier = first.1;
          }),
          (λ m. c.1 (right (IsKnown types positions) descriptor inner (behind_describes m))),
        )

    pub not_described : (b : Bool) → Decides b (Known types positions describes) → b ≡ false → Decides false (IsListableAt types positions place s)
    not_described b d e =
        ((λ t. absurd (true≢false (sym t))), (λ m. absurd (true≢false (sym (d.1 (left (IsKnown types positions) describes (descriptor ++ inner) (behind_supers m))) ∙ e))))

    pub no_descriptor : (b : Bool) → Decides b (Known types positions descriptor) → b ≡ false → Decides false (IsListableAt types positions place s)
    no_descriptor b d e =
        ((λ t. absurd (true≢false (sym t))), (λ m. absurd (true≢false (sym (d.1 (left (IsKnown types positions) descriptor inner (behind_describes m))) ∙ e))))

-- a group
module _ {A : Type 0} (types : ℕ) (g : List (SubType A)) where
  abbrev pub StandAt : ℕ → SubType A → Type 0
  StandAt k s = IsListableAt types (length g) k s

  pub group_listable : (n : ℕ) → length g ≤ n → FirstHold StandAt g n → Decides true (IsListable types g)
  group_listable n l h = (
    (λ _. record {
      known = λ k d m. (h k d (omega (arith, m, l))).known;
      one_supertype = λ k d m. (h k d (omega (arith, m, l))).one_supertype;
      earlier = λ i s e.
          let m : i < length g = slice_get_within g i s e in
          subst (λ (x : SubType A). All (λ p. IsKnown types i (index_of p)) x.supertype_idxs) (get_or_from_slice_get g i s s e) (h i s (omega (arith, m, l))).earlier;
    }),
    (λ _. refl),
  )

  pub type_missed : (i : ℕ) (s : SubType A) (r : Bool) → i < length g → s ≡ slice_index_or g i s → Decides r (StandAt i s) → r ≡ false → Decides false (IsListable types g)
  type_missed i s r l f d e = (
    (λ t. absurd (true≢false (sym t))),
    (λ m.
        let here : StandAt i s = record {
          known = subst (λ (x : SubType A). All (IsKnown types (length g)) (refs_sub (sub_of x))) (sym f) (m.known i s l);
          one_supertype = subst (λ (x : SubType A). length x.supertype_idxs ≤ 1) (sym f) (m.one_supertype i s l);
          earlier = m.earlier i s (slice_get-get_or g i s l ∙ ap Some (sym f));
        } in
        absurd (true≢false (sym (d.1 here) ∙ e))),
  )

-- one type alone
pub listable_alone : {A : Type 0} (types : ℕ) (s : SubType A) (r : Bool) → Decides r (IsListableAt types 1 0 s) → Decides r (IsListable types (s ∷ []))
listable_alone types s r d =
    let l : 0 < length (s ∷ []) = omega arith in (
      (λ t. (group_listable types (s ∷ []) 1 (omega arith) (one_more (StandAt types (s ∷ [])) (s ∷ []) 0 s l refl (d.0 t) (none_first (StandAt types (s ∷ [])) (s ∷ [])))).0 refl),
      (λ m. d.1 (record { known = m.known 0 s l; one_supertype = m.one_supertype 0 s l; earlier = m.earlier 0 s refl })),
    )
