-- The context of a module over the ids of a list, field by field.
use Rattle.std.proofs.Common.{◌≡◌, refl, sym, ap, ◌∙◌, ℕ, zero, suc, ◌-◌, ◌<◌, Bool, true, List, [], ◌∷◌, ◌++◌, map, length, slice_get, Option, Some, append_assoc}
use Rattle.std.specs.List.{flat_map, Contains, AllZip, AllByRecursion}
use Rattle.std.proofs.lemmas.List.Elements.{All-contains, recursion_from_All}
use Rattle.std.proofs.lemmas.Option.{none-some, same_Some, get_or_from_slice_get}
use Rattle.wasm_spec.specs.Syntax.{Ref, Extern, func_extern, func_exact_extern, table_extern, memory_extern, global_extern, tag_extern, map_ref, map_table, map_global}
use Rattle.wasm_spec.specs.BinaryModules.{Import}
use Rattle.wasm_spec.specs.Trees.{DefType}
use Rattle.wasm_spec.specs.TypeLaws.{HasNoRepetition, AreIdsOf}
use Rattle.wasm_spec.proofs.SyntaxMaps.{map-map_by, map_table-map, map_global-map}
use Rattle.wasm_spec_rules.specs.Parts.{Parts}
use Rattle.wasm_spec_rules.specs.IndexSpaces.{IndexSpaces, imported, functions_in, nowhere, type_at}
use Rattle.wasm_spec_rules.specs.Contexts.{Context, exact_in, is_exact, map_context, AreFirst}
use Rattle.wasm_readers_types.specs.WasmReadersValues.declared.indices.UnpackedIndex.{UnpackedIndex}
use Rattle.wasm_validator_type_list.specs.ListViews.{Listing}
use Rattle.wasm_validator_type_list.specs.GroupOrder.{AreListable}
use Rattle.wasm_validator_type_list.specs.DefTypes.{def_types}
use Rattle.wasm_validator_type_list.proofs.Lookups.{group_found}
use Rattle.wasm_validator_core.specs.WasmValidatorCanonical.Indices.{use_of_index, canonical_index}
use Rattle.wasm_validator_core.specs.WasmValidatorCanonical.Sections.{written, StandsFor}
use Rattle.wasm_validator_core_resources.specs.WasmValidatorTypes.Spaces.{Spaces}
use Rattle.wasm_spec_steps.specs.Bodies.{map_local}
use Rattle.wasm_spec_steps.specs.Steps.{is_typed}
use Rattle.wasm_operators.specs.Maps.{map_block}
use Rattle.wasm_validator_core_resources.specs.ListContexts.{list_declares}
use Rattle.wasm_validator_core_resources.specs.IndexContexts.{id_of, same_index}
use Rattle.wasm_validator_core_resources.specs.ModuleContexts.{exact_flags}
use Rattle.wasm_laws_core.specs.ContextWorlds.{with_declared}
use Rattle.wasm_laws_core.specs.TypeNumbers.{AreNumbered, same_number, identity_at}
use Rattle.wasm_laws_core.specs.ModuleOverIds.{ShowSpaces, numbered_context, listed_context, within, IsOverIds, ModulesAreOverIds}
use Rattle.wasm_laws_core.proofs.WorldsAlone.{verdicts_rename_in_worlds}
use Rattle.wasm_laws_core.proofs.AcceptedTypeNumbers.{all_of}
use Rattle.wasm_laws_core.proofs.IndexRanges.{tables-agree, globals-agree, zip_at, zip-length}
use Rattle.wasm_laws_core.proofs.NumbersAndIds.{place_of, type-back, ids_rename_numbers}

-- which functions are exactly of their type
pub defined-exact : (xs : List ℕ) → exact_flags xs [] ≡ map is_exact xs
defined-exact [] = refl
defined-exact (x ∷ xs) = λ i. true ∷ defined-exact xs i

import-exact : (e : Extern ℕ) (xs : List ℕ) (bs : List Bool) → exact_flags (functions_in e ++ xs) (exact_in e ++ bs) ≡ exact_in e ++ exact_flags xs bs
import-exact (func_extern x) xs bs = refl
import-exact (func_exact_extern x) xs bs = refl
import-exact (table_extern t) xs bs = refl
import-exact (memory_extern m) xs bs = refl
import-exact (global_extern g) xs bs = refl
import-exact (tag_extern x) xs bs = refl

all-exact : (is : List (Import ℕ)) (xs : List ℕ) → exact_flags (imported functions_in is ++ xs) (flat_map (λ (i : Import ℕ). exact_in i.ty) is) ≡ flat_map (λ (i : Import ℕ). exact_in i.ty) is ++ map is_exact xs
all-exact [] xs = defined-exact xs
all-exact (i ∷ is) xs =
    let rest = flat_map (λ (j : Import ℕ). exact_in j.ty) is in
    ap (λ l. exact_flags l (exact_in i.ty ++ rest)) (append_assoc (functions_in i.ty) (imported functions_in is) xs)
    ∙ import-exact i.ty (imported functions_in is ++ xs) rest
    ∙ ap (λ l. exact_in i.ty ++ l) (all-exact is xs)
    ∙ sym (append_assoc (exact_in i.ty) rest (map is_exact xs))

-- an id for each type of a list
abbrev IsIdOf : List DefType → ℕ → DefType → Type 0
IsIdOf us id d = slice_get us id ≡ Some d

zipped-each : (us : List DefType) (ids : List ℕ) (ds : List DefType) → AllZip (IsIdOf us) ids ds → (k id : ℕ) → slice_get ids k ≡ Some id → slice_get us id ≡ slice_get ds k
zipped-each us [] [] z k id e = absurd (none-some id e)
zipped-each us [] (d ∷ ds) z k id e = absurd z
zipped-each us (i ∷ ids) [] z k id e = absurd z
zipped-each us (i ∷ ids) (d ∷ ds) z zero id e = ap (slice_get us) (sym (same_Some i id e)) ∙ z.0
zipped-each us (i ∷ ids) (d ∷ ds) z (suc k) id e = zipped-each us ids ds z.1 k id e

found-ids : (us ds : List DefType) → AllByRecursion (λ d. (id : ℕ) × IsIdOf us id d) ds → (ids : List ℕ) × AllZip (IsIdOf us) ids ds
found-ids us [] h = ([], tt)
found-ids us (d ∷ ds) h = let r = found-ids us ds h.1 in (h.0.0 ∷ r.0, (h.0.1, r.1))

stands-there : (us : List DefType) (id : ℕ) (d : DefType) → StandsFor true us id d → IsIdOf us id d
stands-there us id d s = s.is_there ∙ ap Some (s.same refl)

module _ {A : Type 0} (n : DefType → ℕ) (distinct : List DefType) (are : AreNumbered n distinct) (list : Listing A) (listable : AreListable list.groups) (one : HasNoRepetition (def_types true list.groups))
    (s : Spaces) (C : IndexSpaces) (parts : Parts) (first : AreFirst C.types distinct) (shows : ShowSpaces (def_types true list.groups) s C parts) where
  abbrev us : List DefType
  us = def_types true list.groups

  ids_found : (ids : List ℕ) × AllZip (IsIdOf us) ids distinct
  ids_found =
      found-ids us distinct (recursion_from_All (λ d. (id : ℕ) × IsIdOf us id d) distinct
      (all_of (Contains C.types) (λ d. (id : ℕ) × IsIdOf us id d)
      (λ d c. let z = zip_at (StandsFor true us) s.types C.types shows.types c.0 d (place_of C.types d c) in (z.0, stands-there us z.0 d z.2))
      distinct first.only))

  stand : AreIdsOf us ids_found.0 distinct
  stand = record { as_many = zip-length (IsIdOf us) ids_found.0 distinct ids_found.1; each = zipped-each us ids_found.0 distinct ids_found.1 }

  -- over any ids of the distinct types
  module _ (ids : List ℕ) (are_ids : AreIdsOf us ids distinct) where
    abbrev f : ℕ → UnpackedIndex
    f k = identity_at ids k

    stands-back : (id : ℕ) (d : DefType) → StandsFor true us id d → Contains distinct d → id_of id ≡ f (n d)
    stands-back id d p c = type-back n distinct are list.groups listable one ids are_ids id d (stands-there us id d p) c

    types-back : (xs : List ℕ) (ds : List DefType) → AllZip (StandsFor true us) xs ds → AllByRecursion (Contains distinct) ds → map id_of xs ≡ map f (map n ds)
    types-back [] [] z c = refl
    types-back [] (d ∷ ds) z c = absurd z
    types-back (x ∷ xs) [] z c = absurd z
    types-back (x ∷ xs) (d ∷ ds) z c = λ i. stands-back x d z.0 c.0 i ∷ types-back xs ds z.1 c.1 i

    index-back : (x : ℕ) → x < length C.types → canonical_index s.types (written x) ≡ f (n (type_at C.types x))
    index-back x l =
        let g = group_found C.types x l in
        let z = zip_at (StandsFor true us) s.types C.types shows.types x g.0 g.1 in
        let c : Contains distinct g.0 = All-contains (Contains distinct) C.types g.0 first.all (x, l, get_or_from_slice_get C.types x g.0 g.0 g.1) in
        ap (λ o. use_of_index o (x - length s.types)) z.1
        ∙ stands-back z.0 g.0 z.2 c
        ∙ ap (λ d. f (n d)) (sym (get_or_from_slice_get C.types x g.0 nowhere g.1))

    context-is : (segments : List (Ref ℕ)) (count : Option ℕ) (references : List ℕ)
        → listed_context f s list segments count references ≡ with_declared (list_declares id_of list.groups) (map_context f (numbered_context n distinct C parts segments count references))
    context-is segments count references =
        let at : ℕ → ℕ = λ x. n (type_at C.types x) in
        let from : ℕ → UnpackedIndex = λ x. canonical_index s.types (written x) in
        let to : ℕ → UnpackedIndex = λ x. f (at x) in
        let tables : s.tables ≡ map (map_table f) (map (map_table at) C.tables)
        = shows.tables ∙ tables-agree from to (length C.types) index-back C.tables shows.tables_in_range ∙ sym (map-map_by (map_table f) (map_table at) (map_table to) (map_table-map f at) C.tables) in
        let globals : s.globals ≡ map (map_global f) (map (map_global at) C.globals)
        = shows.globals ∙ globals-agree from to (length C.types) index-back C.globals shows.globals_in_range ∙ sym (map-map_by (map_global f) (map_global at) (map_global to) (map_global-map f at) C.globals) in
        let exactness : exact_flags s.functions s.imported_functions ≡ flat_map (λ (i : Import ℕ). exact_in i.ty) parts.imports ++ map is_exact parts.functions
        = (λ i. exact_flags ((shows.functions ∙ shows.imported_first) i) (shows.imported_functions i)) ∙ all-exact parts.imports parts.functions in
        λ i. record {
          types = types-back s.types C.types shows.types (recursion_from_All (Contains distinct) C.types first.all) i;
          declares = list_declares id_of list.groups;
          functions = shows.functions i;
          exact = exactness i;
          tables = tables i;
          memories = shows.memories i;
          globals = globals i;
          tags = shows.tags i;
          elements = map (map_ref f) segments;
          data_count = count;
          references = references;
        }

  over_ids : IsOverIds n distinct list s C parts
  over_ids =
      let ids = ids_found.0 in
      let f : ℕ → UnpackedIndex = λ k. identity_at ids k in
      let ds = list_declares id_of list.groups in
      record {
        ids = ids;
        stand = stand;
        context = context-is ids stand;
        typed = λ segments count references F locals shared b ops.
            let D = numbered_context n distinct C parts segments count references in
            let B = within F D locals shared in
            ap (λ (E : Context UnpackedIndex). is_typed same_index (within F E (map (map_local f) locals) shared) (map_block f b) ops) (context-is ids stand segments count references)
            ∙ verdicts_rename_in_worlds same_number same_index f B ds
            (ids_rename_numbers n distinct are list.groups listable one ids stand D refl (with_declared ds (map_context f D)) refl) b ops;
      }

pub modules_are_over_ids : {A : Type 0} → ModulesAreOverIds A
modules_are_over_ids n distinct are list listable one s C parts first shows = over_ids n distinct are list listable one s C parts first shows
