-- The lists of ancestors of a list of types follow what its types extend.
use Rattle.std.proofs.Common.{◌≡◌, refl, sym, ap, ◌∙◌, ℕ, zero, suc, ◌+◌, ◌<◌, List, [], ◌∷◌, ◌++◌, map, length, slice_get, Option, All, arith}
use Rattle.std.specs.Option.{option_map, option_and_then, IfSome}
use Rattle.std.proofs.lemmas.List.{length-map}
use Rattle.std.proofs.lemmas.List.Elements.{All-head}
use Rattle.wasm_readers_errors.specs.WasmSpec.SupertypeOrder.{supertype}
use Rattle.wasm_readers_types.specs.WasmReadersValues.SeenValues.{index_of}
use Rattle.wasm_readers_types.specs.WasmReadersValues.declared.indices.PackedIndex.{PackedIndex}
use Rattle.wasm_readers_types.specs.declared.types.SubType.{SubType}
use Rattle.wasm_validator_type_ancestors.specs.WasmValidatorTypeGroups.Groups.{all_in}
use Rattle.wasm_validator_type_ancestors.specs.Supers.{leads_to, extended_in, ExtendEarlier, Tells}
use Rattle.wasm_validator_type_list.specs.declared.type_list.TypeList.TheInside.{Inside}
use Rattle.wasm_validator_type_list.specs.ListViews.{Listing}
use Rattle.wasm_validator_type_list.specs.GroupOrder.{IsKnown, IsListable}
use Rattle.wasm_validator_type_list.specs.DeclarationsById.{sub_by_ids, subs_by_ids, declares}
use Rattle.wasm_validator_type_list.specs.ListSoundness.{shown, supers_in, IsSound}
use Rattle.wasm_validator_type_list.proofs.IdDeclarations.{first-mapped, leads_before}
use Rattle.wasm_validator_type_list.proofs.Depths.{subs-push}
use Rattle.wasm_validator_type_list.proofs.IdsAndTypes.{length-subs}

-- what is found in a list of options, and in what a function makes of another list
through_map : {X Y : Type 0} (f : X → Option Y) (xs : List X) (k : ℕ) → option_and_then f (slice_get xs k) ≡ option_and_then (λ o. o) (slice_get (map f xs) k)
through_map f [] k = refl
through_map f (x ∷ xs) zero = refl
through_map f (x ∷ xs) (suc k) = through_map f xs k

maps-joined : {X Y : Type 0} (f : X → Y) (xs ys : List X) → map f (xs ++ ys) ≡ map f xs ++ map f ys
maps-joined f [] ys = refl
maps-joined f (x ∷ xs) ys = λ i. f x ∷ maps-joined f xs ys i

first_earlier : (n i : ℕ) (ps : List PackedIndex) → All (λ (p : PackedIndex). IsKnown n i (index_of p)) ps → IfSome (option_map (λ (p : PackedIndex). leads_to n (index_of p)) (slice_get ps 0)) (λ m. m < n + i)
first_earlier n i [] h = tt
first_earlier n i (p ∷ ps) h = leads_before n i (index_of p) (All-head (λ (q : PackedIndex). IsKnown n i (index_of q)) p ps h)

module _ {A : Type 0} where
  extended_subs : (n : ℕ) (g : List (SubType A)) → map supertype (map (sub_by_ids n) g ++ []) ≡ extended_in n g
  extended_subs n [] = refl
  extended_subs n (s ∷ g) = λ i. first-mapped (leads_to n) index_of s.supertype_idxs i ∷ extended_subs n g i

  -- a group more
  pub supers-push : (gs : List (List (SubType A))) (g : List (SubType A)) → supers_in (gs ++ g ∷ []) ≡ supers_in gs ++ extended_in (length (all_in gs)) g
  supers-push gs g =
      let n : 0 + length (all_in gs) ≡ length (all_in gs) = omega arith in
      ap (map supertype) (subs-push gs g 0)
      ∙ maps-joined supertype (subs_by_ids 0 gs) (subs_by_ids (0 + length (all_in gs)) (g ∷ []))
      ∙ ap (λ l. supers_in gs ++ l) (extended_subs (0 + length (all_in gs)) g ∙ ap (λ m. extended_in m g) n)

  -- whose types extend earlier ones
  pub extend_earlier : (n : ℕ) (g : List (SubType A)) → IsListable n g → ExtendEarlier n g
  extend_earlier n g h i s e = first_earlier n i s.supertype_idxs (h.earlier i s e)

  supers_tell : (gs : List (List (SubType A))) → Tells (supers_in gs) (declares gs)
  unfolding declares
  supers_tell gs id = through_map supertype (subs_by_ids 0 gs) id

  -- the lists are as many as types, and tell what these extend
  pub as_many : (a : Inside A) → IsSound a → length a.ancestors ≡ length (all_in a.groups)
  as_many a h = ap length h.ancestors ∙ length-map (subs_by_ids 0 a.groups) supertype ∙ length-subs a.groups 0

  pub ids_tell : (a : Inside A) (l : Listing A) → shown a ≡ l → IsSound a → Tells a.ancestors (declares l.groups)
  ids_tell a l e h id = ap (λ (m : Listing A). option_and_then supertype (declares m.groups id)) (sym e) ∙ supers_tell a.groups id ∙ ap (λ ss. option_and_then (λ o. o) (slice_get ss id)) (sym h.ancestors)
