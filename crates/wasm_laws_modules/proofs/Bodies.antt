-- The context of bodies over the ids of a list is the module's own, with each number of a type renamed to its id.
use Rattle.std.proofs.Common.{◌≡◌, refl, sym, ◌∙◌, ℕ, suc, ◌<◌, nat_eq, List, [], ◌∷◌, ◌++◌, map, length, slice_get, Some, All, arith}
use Rattle.std.specs.List.{flat_map}
use Rattle.std.proofs.lemmas.List.Elements.{All-head, All-tail}
use Rattle.wasm_spec.specs.Syntax.{Ref, map_ref, map_table, map_global}
use Rattle.wasm_spec.specs.BinaryModules.{Import}
use Rattle.wasm_spec.specs.BinarySections.{Element, ElementItems, functions, expressions}
use Rattle.wasm_spec.specs.Features.{Features, canonical}
use Rattle.wasm_spec.specs.Trees.{DefType}
use Rattle.wasm_spec.proofs.SyntaxMaps.{map-map_by, map_ref-map, map_table-map, map_global-map}
use Rattle.wasm_spec_rules.specs.Contexts.{Context, exact_in, is_exact, map_context}
use Rattle.wasm_spec_rules.specs.IndexSpaces.{IndexSpaces, index_spaces}
use Rattle.wasm_spec_rules.specs.Modules.{AreValidParts}
use Rattle.wasm_spec_rules.specs.Parts.{Parts, Expression}
use Rattle.wasm_spec_rules.specs.SegmentRules.{items_type, AreValidItems, IsValidElement}
use Rattle.wasm_readers_types.specs.WasmReadersValues.declared.indices.UnpackedIndex.{UnpackedIndex}
use Rattle.wasm_laws_core.specs.WasmValidatorCanonical.Sections.{StandsFor}
use Rattle.wasm_laws_core.specs.WasmValidatorChecks.Laws.{Stand}
use Rattle.wasm_laws_core.specs.WasmValidatorTypes.Spaces.{Spaces}
use Rattle.wasm_laws_core.specs.ModuleParts.{listed, listed_element, spaces_of}
use Rattle.wasm_laws_core.specs.WasmValidatorCoreResources.ModuleContexts.{exact_flags}
use Rattle.wasm_laws_core.specs.WasmValidatorCoreResources.IndexContexts.{id_of}
use Rattle.wasm_validator_resources.specs.Answers.{same_index}
use Rattle.wasm_laws_core.specs.ListedTypes.{types_declare}
use Rattle.wasm_laws_core.specs.TypeNumbers.{identity_at}
use Rattle.wasm_laws_core.proofs.IndexRanges.{ref-agrees, tables-agree, globals-agree, zip-length}
use Rattle.wasm_spec_validity.specs.Modules.{Numbering, number_at, context_of}
use Rattle.wasm_spec_validity.proofs.RenamedBodies.{typed_bodies_are_renamed}
use Rattle.wasm_laws_modules.proofs.ConstantsOverNumbers.{renamed_types}
use Rattle.wasm_laws_modules.proofs.Indices.{index-back}
use Rattle.wasm_laws_modules.proofs.DistinctTypeIds.{AreRenamed}
use Rattle.wasm_laws_modules.specs.BodyContexts.{code_context, BodiesAreOverNumbers}
use Rattle.wasm_laws_modules.proofs.Exactness.{all-exact}
use Rattle.wasm_laws_modules.proofs.TypeRanges.{tables_in_range, globals_in_range}

-- the id of each type of a module is the identity of its number
types-back : (f : ℕ → UnpackedIndex) (n : DefType → ℕ) (ids : List ℕ) (types : List DefType) → length ids ≡ length types
    → ((j y : ℕ) (d : DefType) → slice_get types j ≡ Some d → slice_get ids j ≡ Some y → id_of y ≡ f (n d)) → map id_of ids ≡ map f (map n types)
types-back f n [] [] e h = refl
types-back f n [] (d ∷ ds) e h = absurd (omega (arith, e))
types-back f n (x ∷ xs) [] e h = absurd (omega (arith, e))
types-back f n (x ∷ xs) (d ∷ ds) e h = λ i. h 0 x d refl refl i ∷ types-back f n xs ds (omega (arith, e)) (λ j y c g k. h (suc j) y c g k) i

module _ (F : Features) (us : List DefType) (ids : List ℕ) (types : List DefType) (stand : Stand (canonical F) us ids types) (n : Numbering types)
    (renamed : AreRenamed us ids types n.distinct n.number) (parts : Parts) (rules : AreValidParts F (index_spaces types parts) parts) where
  abbrev f : ℕ → UnpackedIndex
  f = identity_at renamed.ids

  abbrev at : ℕ → ℕ
  at = number_at n

  abbrev through : ℕ → UnpackedIndex
  through x = f (at x)

  abbrev spaces : IndexSpaces
  spaces = index_spaces types parts

  abbrev shown : Spaces
  shown = spaces_of F types ids parts

  index-at : (x : ℕ) → x < length types → listed ids x ≡ through x
  index-at = index-back (canonical F) us ids types n.distinct n.number stand renamed

  types-are : map id_of ids ≡ map f (map n.number types)
  types-are = types-back f n.number ids types (zip-length (StandsFor (canonical F) us) ids types stand) renamed.back

  tables-are : shown.tables ≡ map (map_table f) (map (map_table at) spaces.tables)
  tables-are =
      tables-agree (listed ids) through (length types) index-at spaces.tables (tables_in_range F types parts.imports parts.tables rules.imports rules.tables)
      ∙ sym (map-map_by (map_table f) (map_table at) (map_table through) (map_table-map f at) spaces.tables)

  globals-are : shown.globals ≡ map (map_global f) (map (map_global at) spaces.globals)
  globals-are =
      globals-agree (listed ids) through (length types) index-at spaces.globals (globals_in_range F types parts.imports parts.globals rules.imports rules.globals)
      ∙ sym (map-map_by (map_global f) (map_global at) (map_global through) (map_global-map f at) spaces.globals)

  -- the type of an element segment's items, which is written or that of functions
  items-are : (x : ElementItems Expression ℕ) → AreValidItems F spaces x → map_ref (listed ids) (items_type x) ≡ map_ref f (map_ref at (items_type x))
  items-are (functions xs) v = refl
  items-are (expressions ty es) v = ref-agrees (listed ids) through (length types) index-at ty v.in_range ∙ sym (map_ref-map f at ty)

  abbrev numbered_element : Element Expression ℕ → Ref ℕ
  numbered_element e = map_ref at (items_type e.items)

  each-element : (es : List (Element Expression ℕ)) → All (IsValidElement F spaces) es → map (listed_element ids) es ≡ map (map_ref f) (map numbered_element es)
  each-element [] v = refl
  each-element (e ∷ es) v = λ i. items-are e.items (All-head (IsValidElement F spaces) e es v).items i ∷ each-element es (All-tail (IsValidElement F spaces) e es v) i

  exact-are : exact_flags shown.functions shown.imported_functions ≡ flat_map (λ (i : Import ℕ). exact_in i.ty) parts.imports ++ map is_exact parts.functions
  exact-are = all-exact parts.imports parts.functions

  -- the module's own context, and that over the ids
  abbrev C : Context ℕ
  C = context_of spaces n parts

  module _ (references : List ℕ) where
    abbrev D : Context UnpackedIndex
    D = code_context us shown (slice_get parts.data_counts 0) references

    pub context-is : D ≡ record (map_context f C) { declares = types_declare us us; references = references }
    context-is = λ i. record {
      types = types-are i;
      declares = types_declare us us;
      functions = spaces.functions;
      exact = exact-are i;
      tables = tables-are i;
      memories = spaces.memories;
      globals = globals-are i;
      tags = spaces.tags;
      elements = each-element parts.elements rules.elements i;
      data_count = slice_get parts.data_counts 0;
      references = references;
    }

pub bodies_are_over_numbers : BodiesAreOverNumbers
bodies_are_over_numbers F us valid one ids types stand own are n parts rules references same =
    let r = renamed_types F us valid one ids types are stand own n in
    let C : Context ℕ = context_of (index_spaces types parts) n parts in
    let D : Context UnpackedIndex = code_context us (spaces_of F types ids parts) (slice_get parts.data_counts 0) references in
    typed_bodies_are_renamed nat_eq same_index (identity_at r.ids) F C D (r.renames C refl D refl)
    (record { shows = context-is F us ids types stand n r parts rules references; references = same }) parts
