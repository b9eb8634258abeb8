-- What is kept of a list of types, where types are added behind.
use Rattle.std.proofs.Common.{◌≡◌, refl, sym, ap, ◌∙◌, ℕ, zero, suc, ◌≤◌, List, [], ◌∷◌, ◌++◌, map, length, take, arith}
use Rattle.std.proofs.lemmas.Grind.{flat_map-append}
use Rattle.std.proofs.lemmas.List.{append-nil, map-append, length-map, take-append-le, take-map}
use Rattle.wasm_spec.specs.Syntax.{Sub, map_sub}
use Rattle.wasm_spec.specs.Trees.{DefType, declared}
use Rattle.wasm_spec_rules.specs.Contexts.{declares_at}
use Rattle.wasm_readers_types.specs.SeenTypes.{sub_of}
use Rattle.wasm_readers_types.specs.WasmReadersValues.declared.indices.UnpackedIndex.{UnpackedIndex}
use Rattle.wasm_validator_type_list.specs.DefTypes.{def_types}
use Rattle.wasm_validator_type_list.specs.DeclarationsById.{subs_by_ids}
use Rattle.wasm_validator_core_resources.specs.ListContexts.{under_ids, list_declares}
use Rattle.wasm_validator_core_resources.specs.IndexContexts.{id_of}
use Rattle.wasm_laws_core.specs.ListedTypes.{id_in, types_declare}
use Rattle.wasm_laws_core.specs.GrownLists.{FirstTypesStayFirst}
use Rattle.wasm_laws_core.proofs.ListedTypes.{declare_in_front}

abbrev Entry : Type 0
Entry = UnpackedIndex × Sub UnpackedIndex

-- what stands under ids
what_stands : (n : ℕ) (ds : List (Sub ℕ)) → map (λ (p : Entry). p.1) (under_ids id_of n ds) ≡ map (map_sub id_of) ds
what_stands n [] = refl
what_stands n (d ∷ ds) = ap (λ l. map_sub id_of d ∷ l) (what_stands (suc n) ds)

taken_within : {X : Type 0} (n : ℕ) (xs : List X) → length (take n xs) ≤ length xs
taken_within zero xs = omega arith
taken_within (suc n) [] = omega arith
taken_within (suc n) (x ∷ xs) = let l = taken_within n xs in omega (arith, l)

pub first_types_stay_first : {A : Type 0} → FirstTypesStayFirst A
first_types_stay_first c gs hs more types listable listable' once grows first =
    let us = def_types c gs in
    let vs = def_types c hs in
    let f = map_sub id_of in
    let old = subs_by_ids 0 gs in
    let new = subs_by_ids 0 hs in
    let n = length types in
    let at : DefType → List Entry = λ (d : DefType). declares_at (id_in vs) d (declared d) in
    let behind : List (Sub UnpackedIndex) = map (λ (p : Entry). p.1) (types_declare vs more) in
    let all : list_declares id_of hs ≡ list_declares id_of gs ++ types_declare vs more =
    declare_in_front c hs listable' vs [] once (sym (append-nil vs)) ∙ ap (types_declare vs) grows ∙ flat_map-append at us more ∙ ap (λ l. l ++ types_declare vs more) (sym (declare_in_front c gs listable vs more once grows)) in
    let subs : map f new ≡ map f old ++ behind =
    sym (what_stands 0 new) ∙ ap (map (λ (p : Entry). p.1)) all ∙ map-append (λ (p : Entry). p.1) (list_declares id_of gs) (types_declare vs more) ∙ ap (λ l. l ++ behind) (what_stands 0 old) in
    let few : n ≤ length (map f old) = omega (arith, ap length first, length-map types sub_of, length-map (take n old) f, taken_within n old, length-map old f) in
    first ∙ sym (take-map f n old) ∙ sym (take-append-le n (map f old) behind few) ∙ ap (take n) (sym subs) ∙ take-map f n new
