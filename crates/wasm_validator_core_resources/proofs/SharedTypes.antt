-- Types that a list has committed, where each reference is an id.
use Rattle.std.proofs.Common.{◌≡◌, refl, sym, ap, ◌∙◌, ℕ, zero, suc, ◌+◌, ◌≤◌, List, [], ◌∷◌, ◌++◌, map, length, take, arith, All}
use Rattle.std.proofs.Math.Seq.{take-append_seam, take-length}
use Rattle.std.proofs.lemmas.List.{map-append, take-map}
use Rattle.std.proofs.lemmas.List.Elements.{All-head, All-tail, All-weaker, recursion_from_All}
use Rattle.wasm_spec.specs.Syntax.{map_sub}
use Rattle.wasm_spec.specs.References.{refs_sub}
use Rattle.wasm_spec.proofs.Agreement.{map_sub-undone}
use Rattle.wasm_readers_types.specs.WasmReadersValues.Indices.{IsId}
use Rattle.wasm_readers_types.specs.SeenTypes.{sub_of}
use Rattle.wasm_readers_types.specs.SyntaxEquality.{subs_of-apart}
use Rattle.wasm_readers_types.specs.WasmReadersValues.declared.indices.UnpackedIndex.{UnpackedIndex}
use Rattle.wasm_readers_types.specs.WasmReadersValues.declared.indices.UnpackedIndex.TheVariants.{Module, RecGroup, Id}
use Rattle.wasm_readers_types.specs.declared.types.SubType.{SubType}
use Rattle.wasm_validator_type_list.specs.WasmValidatorTypeGroups.Groups.{all_in}
use Rattle.wasm_validator_type_list.specs.WasmValidatorTypeGroups.Fronts.{IsFront}
use Rattle.wasm_validator_type_list.specs.Lookups.{leads_to}
use Rattle.wasm_validator_type_list.specs.DeclarationsById.{sub_by_ids, subs_by_ids}
use Rattle.wasm_validator_type_list.specs.GroupOrder.{ReferByIds}
use Rattle.wasm_validator_type_list.proofs.GroupMatching.{all-left, all-right}
use Rattle.wasm_validator_core_resources.specs.IndexContexts.{id_of}
use Rattle.wasm_validator_core_resources.specs.ById.{AreFirstByIds}

-- an id leads to itself
id_back : (start : ℕ) (r : UnpackedIndex) → IsId r → id_of (leads_to start r) ≡ r
id_back start (Module i) h = absurd h
id_back start (RecGroup i) h = absurd h
id_back start (Id id) h = refl

take_fewer : {X : Type 0} (n m : ℕ) (xs : List X) → n ≤ m → take n (take m xs) ≡ take n xs
take_fewer zero m xs l = refl
take_fewer (suc n) zero xs l = absurd (omega (arith, l))
take_fewer (suc n) (suc m) [] l = refl
take_fewer (suc n) (suc m) (x ∷ xs) l = ap (λ ys. x ∷ ys) (take_fewer n m xs (omega (arith, l)))

taken_no_more : {X : Type 0} (n : ℕ) (xs : List X) → length (take n xs) ≤ length xs
taken_no_more zero xs = omega arith
taken_no_more (suc n) [] = omega arith
taken_no_more (suc n) (x ∷ xs) = let l = taken_no_more n xs in omega (arith, l)

module _ {A : Type 0} where
  abbrev IsByIds : SubType A → Type 0
  IsByIds s = All IsId (refs_sub (sub_of s))

  -- a type, a group and all groups
  same_type : (start : ℕ) (s : SubType A) → IsByIds s → map_sub id_of (sub_by_ids start s) ≡ sub_of s
  same_type start s h =
      map_sub-undone (leads_to start) id_of (sub_of s)
      (recursion_from_All (λ r. id_of (leads_to start r) ≡ r) (refs_sub (sub_of s)) (All-weaker IsId (λ r. id_of (leads_to start r) ≡ r) (id_back start) (refs_sub (sub_of s)) h))

  same_group : (start : ℕ) (g : List (SubType A)) → All IsByIds g → map (map_sub id_of) (map (sub_by_ids start) g) ≡ map sub_of g
  same_group start [] h = refl
  same_group start (s ∷ ss) h = λ i. same_type start s (All-head IsByIds s ss h) i ∷ same_group start ss (All-tail IsByIds s ss h) i

  same_groups : (start : ℕ) (gs : List (List (SubType A))) → ReferByIds (all_in gs) → map (map_sub id_of) (subs_by_ids start gs) ≡ map sub_of (all_in gs)
  same_groups start [] h = refl
  same_groups start (g ∷ gs) h =
      map-append (map_sub id_of) (map (sub_by_ids start) g) (subs_by_ids (start + length g) gs)
      ∙ (λ i. same_group start g (all-left IsByIds g (all_in gs) h) i ++ same_groups (start + length g) gs (all-right IsByIds g (all_in gs) h) i)
      ∙ sym (map-append sub_of g (all_in gs))

  -- what a list has committed is the first of its types
  pub front_is_first : (gs : List (List (SubType A))) (front whole : List (SubType A)) → whole ≡ all_in gs → IsFront front whole → ReferByIds (all_in gs) → AreFirstByIds gs front
  front_is_first gs front whole e f h =
      let n = length front in
      let whole_is : all_in gs ≡ front ++ f.rest = sym e ∙ f.split in
      ap (map sub_of) (sym (take-append_seam front f.rest) ∙ ap (take n) (sym whole_is))
      ∙ sym (take-map sub_of n (all_in gs)) ∙ ap (take n) (sym (same_groups 0 gs h)) ∙ take-map (map_sub id_of) n (subs_by_ids 0 gs)

  -- and what was there is the first of that
  pub kept_by_front : (gs : List (List (SubType A))) (old front : List (SubType A)) → AreFirstByIds gs old → AreFirstByIds gs front → length old ≤ length front → take (length old) front ≡ old
  kept_by_front gs old front h k l =
      let n = length old in
      let ds = subs_by_ids 0 gs in
      subs_of-apart (take n front) old
      (sym (take-map sub_of n front) ∙ ap (take n) k ∙ take-map (map_sub id_of) n (take (length front) ds) ∙ ap (map (map_sub id_of)) (take_fewer n (length front) ds l) ∙ sym h)

  pub all_kept : (old : List (SubType A)) → take (length old) old ≡ old
  all_kept old = take-length old

  pub kept_twice : (old middle new : List (SubType A)) → take (length old) middle ≡ old → take (length middle) new ≡ middle → take (length old) new ≡ old
  kept_twice old middle new h k =
      let l : length old ≤ length middle = omega (arith, ap length h, taken_no_more (length old) middle) in
      sym (take_fewer (length old) (length middle) new l) ∙ ap (take (length old)) k ∙ h
