-- Groups in which each reference is an id.
use Rattle.std.proofs.Common.{◌≡◌, sym, subst, ◌∙◌, ℕ, ◌<◌, ◌≤◌, Bool, true, false, true≢false, List, [], ◌∷◌, ◌++◌, map, length, get_or, arith, All}
use Rattle.std.specs.Bool.{Decides}
use Rattle.std.specs.List.{slice_index_or}
use Rattle.std.proofs.lemmas.List.Elements.{All-head, All-tail, All-cons, All-nil, All-weaker}
use Rattle.wasm_validator_type_groups.specs.WasmSpec.References.{refs_comp, refs_sub, refs_option}
use Rattle.wasm_validator_type_groups.specs.WasmReadersTypes.WasmReadersValues.Indices.{IsId}
use Rattle.wasm_validator_type_groups.specs.WasmReadersTypes.WasmReadersValues.SeenValues.{index_of}
use Rattle.wasm_validator_type_groups.specs.WasmReadersTypes.WasmReadersValues.declared.indices.UnpackedIndex.{UnpackedIndex}
use Rattle.wasm_validator_type_groups.specs.WasmReadersTypes.WasmReadersValues.declared.indices.UnpackedIndex.TheVariants.{Module, RecGroup, Id}
use Rattle.wasm_validator_type_groups.specs.WasmReadersTypes.declared.types.SubType.{SubType}
use Rattle.wasm_validator_type_groups.specs.WasmReadersTypes.SeenTypes.{sub_of}
use Rattle.wasm_validator_type_ancestors.specs.GroupReferences.{IsKnown, IsListable, IsListableAt, ReferByIds}
use Rattle.wasm_validator_type_ancestors.proofs.Items.{both, left, right}

-- what holds of all that items are seen as
of_each : {X Y : Type 0} (P : Y → Type 0) (f : X → Y) (xs : List X) → All P (map f xs) → All (λ x. P (f x)) xs
of_each P f [] h = All-nil (λ x. P (f x))
of_each P f (x ∷ xs) h = All-cons (λ y. P (f y)) x xs (All-head P (f x) (map f xs) h) (of_each P f xs (All-tail P (f x) (map f xs) h))

module _ (types : ℕ) where
  -- where there are no positions, what is known is an id
  id_alone : (r : UnpackedIndex) → IsKnown types 0 r → IsId r
  id_alone (Module i) h = absurd h
  id_alone (RecGroup i) h = absurd (omega (arith, h))
  id_alone (Id id) h = tt

  known_alone : (positions : ℕ) (r : UnpackedIndex) → IsKnown types positions r → IsId r → IsKnown types 0 r
  known_alone positions (Module i) h k = absurd k
  known_alone positions (RecGroup i) h k = absurd k
  known_alone positions (Id id) h k = h

  module _ {A : Type 0} where
    abbrev pub ByIds : SubType A → Type 0
    ByIds s = All IsId (refs_sub (sub_of s))

    pub ids_there : (s : SubType A) → IsListableAt types 0 0 s → ByIds s
    ids_there s m = All-weaker (IsKnown types 0) IsId id_alone (refs_sub (sub_of s)) m.known

    listable_by_ids : (positions : ℕ) (s : SubType A) → All (IsKnown types positions) (refs_sub (sub_of s)) → length s.supertype_idxs ≤ 1 → ByIds s → IsListableAt types 0 0 s
    listable_by_ids positions s h one i =
        let known : All (IsKnown types 0) (refs_sub (sub_of s)) = λ k d l. known_alone positions (get_or (refs_sub (sub_of s)) k d) (h k d l) (i k d l) in
        let behind = refs_option (sub_of s).describes ++ (refs_option (sub_of s).descriptor ++ refs_comp (sub_of s).comp) in
        record {
          known = known;
          one_supertype = one;
          earlier = of_each (IsKnown types 0) index_of s.supertype_idxs (left (IsKnown types 0) (map index_of s.supertype_idxs) behind known);
        }

    pub not_by_ids : (g : List (SubType A)) (i : ℕ) (s : SubType A) (r : Bool) → IsListable types g → i < length g → s ≡ slice_index_or g i s → Decides r (IsListableAt types 0 0 s) → r ≡ false → Decides false (All ByIds g)
    not_by_ids g i s r h l f d e = (
      (λ t. absurd (true≢false (sym t))),
      (λ m.
          let here : IsListableAt types 0 0 s =
          listable_by_ids (length g) s
          (subst (λ (x : SubType A). All (IsKnown types (length g)) (refs_sub (sub_of x))) (sym f) (h.known i s l))
          (subst (λ (x : SubType A). length x.supertype_idxs ≤ 1) (sym f) (h.one_supertype i s l))
          (subst ByIds (sym f) (m i s l)) in
          absurd (true≢false (sym (d.1 here) ∙ e))),
    )

-- more types behind others
module _ {A : Type 0} (listed g : List (SubType A)) (b : Bool) (d : Decides b (ReferByIds listed)) where
  abbrev IsByIds : SubType A → Type 0
  IsByIds s = All IsId (refs_sub (sub_of s))

  pub more_by_ids : (r : Bool) → b ≡ true → Decides r (ReferByIds g) → Decides r (ReferByIds (listed ++ g))
  more_by_ids r e c = ((λ t. both IsByIds listed g (d.0 e) (c.0 t)), (λ h. c.1 (right IsByIds listed g h)))

  pub less_by_ids : b ≡ false → Decides false (ReferByIds (listed ++ g))
  less_by_ids e = ((λ t. absurd (true≢false (sym t))), (λ h. absurd (true≢false (sym (d.1 (left IsByIds listed g h)) ∙ e))))
