-- What a module shows names ids of its types only.
use Rattle.std.proofs.Common.{◌≡◌, refl, sym, subst, inl, inr, ℕ, ◌-◌, ◌<◌, ◌==◌, ◌&&◌, Bool, true, false, true≢false, cond, List, [], ◌∷◌, map, length, get_or, filter, flat_map, slice_get, Option, Some, None, is_some, IsTrue, All}
use Rattle.std.specs.Option.{option_map, option_and_then}
use Rattle.std.proofs.lemmas.List.Elements.{All-head, All-tail, All-cons, All-nil, All-map, All-weaker, All-append, All-filter}
use Rattle.std.proofs.lemmas.Option.{slice_get-get_or, slice_get_within}
use Rattle.wasm_spec.specs.Syntax.{Heap, abstract_heap, concrete, exact, Ref, Val, i32, i64, f32, f64, v128, reference, Sub, Table, Global, Extern, func_extern, func_exact_extern, table_extern, memory_extern, global_extern, tag_extern, map_heap, map_val}
use Rattle.wasm_spec.specs.References.{refs_heap, refs_val}
use Rattle.wasm_spec.specs.BinaryModules.{Import, Export}
use Rattle.wasm_spec.specs.BinarySections.{TableEntry, GlobalEntry, Element, ElementItems, functions, expressions}
use Rattle.wasm_spec.specs.Features.{Features}
use Rattle.wasm_spec.specs.Trees.{DefType, declared}
use Rattle.wasm_spec_rules.specs.Parts.{Parts, Expression}
use Rattle.wasm_spec_rules.specs.IndexSpaces.{IndexSpaces, index_spaces, imported, functions_in, tables_in, globals_in, tags_in, table_type, global_type, signature, IsFunctionType}
use Rattle.wasm_spec_rules.specs.ItemRules.{IsValidTableEntry, IsValidGlobal, IsValidTag}
use Rattle.wasm_spec_rules.specs.LinkRules.{IsValidExtern, IsValidImport, exported}
use Rattle.wasm_spec_rules.specs.SegmentRules.{items_type, AreValidItems, IsValidElement}
use Rattle.wasm_spec_rules.specs.Modules.{AreValidParts}
use Rattle.wasm_spec_rules.proofs.Tests.{chosen, map_some}
use Rattle.wasm_readers_types.specs.WasmReadersValues.declared.indices.UnpackedIndex.{UnpackedIndex}
use Rattle.wasm_validator_core.specs.WasmValidatorCanonical.Indices.{use_of_index}
use Rattle.wasm_readers_types.specs.Entities.{Entity, IsIdOfOne, IsEntityOver}
use Rattle.wasm_validator_types.specs.Rows.{all_imports}
use Rattle.wasm_validator_types.specs.Rows as rows
use Rattle.wasm_laws_core.proofs.ExportedEntities.{found_keeps}
use Rattle.wasm_laws_core.specs.ShownTypeIds.{AreOver, ShownTypesAreHeld}
use Rattle.wasm_laws_core.specs.ModuleParts.{listed, listed_table, listed_global, listed_element, entity_in, names_of, has_names, first_pairs, import_row, import_rows, as_exported, exported_as, export_row, exported_row, export_rows, exact_functions, spaces_of}

-- a function type's index is one of a type
typed_within : (types : List DefType) (x : ℕ) (o : Option DefType) → slice_get types x ≡ o → IsTrue (is_some (option_and_then (λ (s : Sub DefType). signature s.comp) (option_and_then declared o))) → x < length types
typed_within types x None e h = absurd (true≢false (sym h))
typed_within types x (Some d) e h = slice_get_within types x d e

-- all of the lists that items give
all_flat : {X Y : Type 0} (Q : X → Type 0) (P : Y → Type 0) (f : X → List Y) → ((x : X) → Q x → All P (f x)) → (xs : List X) → All Q xs → All P (flat_map f xs)
all_flat Q P f g [] h = All-nil P
all_flat Q P f g (x ∷ xs) h = All-append P (f x) (flat_map f xs) (g x (All-head Q x xs h)) (all_flat Q P f g xs (All-tail Q x xs h))

module _ (n : ℕ) (ids : List ℕ) (below : All (λ id. id < n) ids) where
  -- the index is one of a type
  abbrev IsIn : ℕ → Type 0
  IsIn x = x < length ids

  abbrev TableIn : Table ℕ → Type 0
  TableIn t = All IsIn (refs_heap t.element.heap)

  abbrev GlobalIn : Global ℕ → Type 0
  GlobalIn g = All IsIn (refs_val g.content)

  abbrev ExternIn : Extern ℕ → Type 0
  ExternIn (func_extern x) = IsIn x
  ExternIn (func_exact_extern x) = IsIn x
  ExternIn (table_extern t) = TableIn t
  ExternIn (memory_extern m) = Unit {0}
  ExternIn (global_extern g) = GlobalIn g
  ExternIn (tag_extern x) = IsIn x

  held_index : (x : ℕ) → IsIn x → IsIdOfOne n (listed ids x)
  held_index x l = subst (λ (o : Option ℕ). IsIdOfOne n (use_of_index o (x - length ids))) (sym (slice_get-get_or ids x 0 l)) (below x 0 l)

  held_heap : (h : Heap ℕ) → All IsIn (refs_heap h) → All (IsIdOfOne n) (refs_heap (map_heap (listed ids) h))
  held_heap (abstract_heap s a) h = All-nil (IsIdOfOne n)
  held_heap (concrete r) h = All-cons (IsIdOfOne n) (listed ids r) [] (held_index r (All-head IsIn r [] h)) (All-nil (IsIdOfOne n))
  held_heap (exact r) h = All-cons (IsIdOfOne n) (listed ids r) [] (held_index r (All-head IsIn r [] h)) (All-nil (IsIdOfOne n))

  held_val : (v : Val ℕ) → All IsIn (refs_val v) → All (IsIdOfOne n) (refs_val (map_val (listed ids) v))
  held_val i32 h = All-nil (IsIdOfOne n)
  held_val i64 h = All-nil (IsIdOfOne n)
  held_val f32 h = All-nil (IsIdOfOne n)
  held_val f64 h = All-nil (IsIdOfOne n)
  held_val v128 h = All-nil (IsIdOfOne n)
  held_val (reference r) h = held_heap r.heap h

  held_entity : (e : Extern ℕ) → ExternIn e → IsEntityOver n (entity_in ids e)
  held_entity (func_extern x) h = below x 0 h
  held_entity (func_exact_extern x) h = below x 0 h
  held_entity (table_extern t) h = held_heap t.element.heap h
  held_entity (memory_extern m) h = tt
  held_entity (global_extern g) h = held_val g.content h
  held_entity (tag_extern x) h = below x 0 h

  -- what imports add
  add_functions : (e : Extern ℕ) → ExternIn e → All IsIn (functions_in e)
  add_functions (func_extern x) h = All-cons IsIn x [] h (All-nil IsIn)
  add_functions (func_exact_extern x) h = All-cons IsIn x [] h (All-nil IsIn)
  add_functions (table_extern t) h = All-nil IsIn
  add_functions (memory_extern m) h = All-nil IsIn
  add_functions (global_extern g) h = All-nil IsIn
  add_functions (tag_extern x) h = All-nil IsIn

  add_tags : (e : Extern ℕ) → ExternIn e → All IsIn (tags_in e)
  add_tags (func_extern x) h = All-nil IsIn
  add_tags (func_exact_extern x) h = All-nil IsIn
  add_tags (table_extern t) h = All-nil IsIn
  add_tags (memory_extern m) h = All-nil IsIn
  add_tags (global_extern g) h = All-nil IsIn
  add_tags (tag_extern x) h = All-cons IsIn x [] h (All-nil IsIn)

  add_tables : (e : Extern ℕ) → ExternIn e → All TableIn (tables_in e)
  add_tables (func_extern x) h = All-nil TableIn
  add_tables (func_exact_extern x) h = All-nil TableIn
  add_tables (table_extern t) h = All-cons TableIn t [] h (All-nil TableIn)
  add_tables (memory_extern m) h = All-nil TableIn
  add_tables (global_extern g) h = All-nil TableIn
  add_tables (tag_extern x) h = All-nil TableIn

  add_globals : (e : Extern ℕ) → ExternIn e → All GlobalIn (globals_in e)
  add_globals (func_extern x) h = All-nil GlobalIn
  add_globals (func_exact_extern x) h = All-nil GlobalIn
  add_globals (table_extern t) h = All-nil GlobalIn
  add_globals (memory_extern m) h = All-nil GlobalIn
  add_globals (global_extern g) h = All-cons GlobalIn g [] h (All-nil GlobalIn)
  add_globals (tag_extern x) h = All-nil GlobalIn

  -- imports one by one
  held_rows : (source name : List ℕ) (es : List Entity) → All (IsEntityOver n) es → All (λ (i : List ℕ × List ℕ × Entity). IsEntityOver n i.2) (rows.import_rows source name es)
  held_rows source name es h = All-map (λ (i : List ℕ × List ℕ × Entity). IsEntityOver n i.2) (λ (e : Entity). (source, name, e)) es h

  held_pairs : (ps : List ((List ℕ × List ℕ) × List Entity)) → All (λ (p : (List ℕ × List ℕ) × List Entity). All (IsEntityOver n) p.1) ps → All (λ (i : List ℕ × List ℕ × Entity). IsEntityOver n i.2) (all_imports ps)
  held_pairs [] h = All-nil (λ (i : List ℕ × List ℕ × Entity). IsEntityOver n i.2)
  held_pairs (p ∷ ps) h =
      All-append (λ (i : List ℕ × List ℕ × Entity). IsEntityOver n i.2) (rows.import_rows p.0.0 p.0.1 p.1) (all_imports ps)
      (held_rows p.0.0 p.0.1 p.1 (All-head (λ (q : (List ℕ × List ℕ) × List Entity). All (IsEntityOver n) q.1) p ps h))
      (held_pairs ps (All-tail (λ (q : (List ℕ × List ℕ) × List Entity). All (IsEntityOver n) q.1) p ps h))

  held_imports : (imports : List (Import ℕ)) → All (λ (i : Import ℕ). ExternIn i.ty) imports → (pairs : List (List ℕ × List ℕ))
      → All (λ (p : (List ℕ × List ℕ) × List Entity). All (IsEntityOver n) p.1) (map (import_row ids imports) pairs)
  held_imports imports h [] = All-nil (λ (p : (List ℕ × List ℕ) × List Entity). All (IsEntityOver n) p.1)
  held_imports imports h (pair ∷ pairs) =
      All-cons (λ (p : (List ℕ × List ℕ) × List Entity). All (IsEntityOver n) p.1) (import_row ids imports pair) (map (import_row ids imports) pairs)
      (All-map (IsEntityOver n) (λ (i : Import ℕ). entity_in ids i.ty) (filter (has_names pair) imports)
      (All-weaker (λ (i : Import ℕ). ExternIn i.ty) (λ (i : Import ℕ). IsEntityOver n (entity_in ids i.ty)) (λ i g. held_entity i.ty g) (filter (has_names pair) imports)
      (All-filter (has_names pair) (λ (i : Import ℕ). ExternIn i.ty) imports h)))
      (held_imports imports h pairs)

  -- exports, where all that may be named is in range
  module _ (C : IndexSpaces) (fs : All IsIn C.functions) (ts : All TableIn C.tables) (gs : All GlobalIn C.globals) (tags : All IsIn C.tags) where
    as_in : {X : Type 0} (f : X → Extern ℕ) (xs : List X) (k : ℕ) (item : Extern ℕ) → ((x : X) → slice_get xs k ≡ Some x → ExternIn (f x)) → option_map f (slice_get xs k) ≡ Some item → ExternIn item
    as_in f xs k item h e = let m = map_some f (slice_get xs k) item e in subst ExternIn m.2 (h m.0 m.1)

    exported_in : (e : Export) (item : Extern ℕ) → exported C e ≡ Some item → ExternIn item
    exported_in e item h =
        elim (chosen (e.kind == 0) _ _ (Some item) h) [
          | inl a ↦ as_in func_extern C.functions e.index item (λ x g. found_keeps IsIn C.functions e.index x fs g) a.1
          | inr a ↦ elim (chosen (e.kind == 1) _ _ (Some item) a.1) [
            | inl b ↦ as_in table_extern C.tables e.index item (λ x g. found_keeps TableIn C.tables e.index x ts g) b.1
            | inr b ↦ elim (chosen (e.kind == 2) _ _ (Some item) b.1) [
              | inl c ↦ as_in memory_extern C.memories e.index item (λ x g. tt) c.1
              | inr c ↦ elim (chosen (e.kind == 3) _ _ (Some item) c.1) [
                | inl d ↦ as_in global_extern C.globals e.index item (λ x g. found_keeps GlobalIn C.globals e.index x gs g) d.1
                | inr d ↦ elim (chosen (e.kind == 4) _ _ (Some item) d.1) [
                  | inl g ↦ as_in tag_extern C.tags e.index item (λ x l. found_keeps IsIn C.tags e.index x tags l) g.1
                  | inr g ↦ absurd (let none : None ≡ Some item = g.1 in cc)
                ]
              ]
            ]
          ]
        ]

    exactly_in : (b : Bool) (x : ℕ) → IsIn x → ExternIn (cond b (func_exact_extern x) (func_extern x))
    exactly_in true x h = h
    exactly_in false x h = h

    as_exported_in : (F : Features) (exactly : List Bool) (k : ℕ) (item : Extern ℕ) → ExternIn item → ExternIn (as_exported F exactly k item)
    as_exported_in F exactly k (func_extern x) h = exactly_in (F.custom_descriptors && get_or exactly k true) x h
    as_exported_in F exactly k (func_exact_extern x) h = h
    as_exported_in F exactly k (table_extern t) h = h
    as_exported_in F exactly k (memory_extern m) h = h
    as_exported_in F exactly k (global_extern g) h = h
    as_exported_in F exactly k (tag_extern x) h = h

    held_row : (F : Features) (exactly : List Bool) (name : List ℕ) (k : ℕ) (o : Option (Extern ℕ)) → ((item : Extern ℕ) → o ≡ Some item → ExternIn item)
        → All (λ (e : List ℕ × Entity). IsEntityOver n e.1) (export_row ids name (exported_as F exactly k o))
    held_row F exactly name k None h = All-nil (λ (e : List ℕ × Entity). IsEntityOver n e.1)
    held_row F exactly name k (Some item) h =
        All-cons (λ (e : List ℕ × Entity). IsEntityOver n e.1) (name, entity_in ids (as_exported F exactly k item)) []
        (held_entity (as_exported F exactly k item) (as_exported_in F exactly k item (h item refl))) (All-nil (λ (e : List ℕ × Entity). IsEntityOver n e.1))

    held_exports : (F : Features) (exactly : List Bool) (exports : List Export) → All (λ (e : List ℕ × Entity). IsEntityOver n e.1) (export_rows F ids C exactly exports)
    held_exports F exactly [] = All-nil (λ (e : List ℕ × Entity). IsEntityOver n e.1)
    held_exports F exactly (e ∷ es) =
        All-append (λ (e : List ℕ × Entity). IsEntityOver n e.1) (exported_row F ids C exactly e) (export_rows F ids C exactly es)
        (held_row F exactly e.name e.index (exported C e) (exported_in e)) (held_exports F exactly es)

  -- all of a module whose types have these ids
  module _ (F : Features) (types : List DefType) (same : length types ≡ length ids) where
    refs_in : (rs : List ℕ) → All (λ x. x < length types) rs → All IsIn rs
    refs_in rs h = subst (λ m. All (λ x. x < m) rs) same h

    function_in : (x : ℕ) → IsFunctionType types x → IsIn x
    function_in x h = subst (λ m. x < m) same (typed_within types x (slice_get types x) refl h)

    extern_in : (e : Extern ℕ) → IsValidExtern F types e → ExternIn e
    extern_in (func_extern x) h = function_in x h
    extern_in (func_exact_extern x) h = function_in x h.0
    extern_in (table_extern t) h = refs_in (refs_heap t.element.heap) h.element.in_range
    extern_in (memory_extern m) h = tt
    extern_in (global_extern g) h = refs_in (refs_val g.content) h.0.content.in_range
    extern_in (tag_extern x) h = function_in x h.is_of_function_type

    element_in : (C : IndexSpaces) → C.types ≡ types → (items : ElementItems Expression ℕ) → AreValidItems F C items → All (IsIdOfOne n) (refs_heap (map_heap (listed ids) (items_type items).heap))
    element_in C e (functions xs) h = All-nil (IsIdOfOne n)
    element_in C e (expressions ty es) h = held_heap ty.heap (refs_in (refs_heap ty.heap) (subst (λ (us : List DefType). All (λ x. x < length us) (refs_heap ty.heap)) e h.in_range))

    module _ (parts : Parts) (valid : AreValidParts F (index_spaces types parts) parts) where
      abbrev C : IndexSpaces
      C = index_spaces types parts

      imports_in : All (λ (i : Import ℕ). ExternIn i.ty) parts.imports
      imports_in = All-weaker (IsValidImport F types) (λ (i : Import ℕ). ExternIn i.ty) (λ i (g : IsValidImport F types i). extern_in i.ty g.item) parts.imports valid.imports

      functions_in_range : All IsIn C.functions
      functions_in_range = All-append IsIn (imported functions_in parts.imports) parts.functions
          (all_flat (λ (i : Import ℕ). ExternIn i.ty) IsIn (λ (i : Import ℕ). functions_in i.ty) (λ i g. add_functions i.ty g) parts.imports imports_in)
          (All-weaker (IsFunctionType types) IsIn function_in parts.functions valid.functions)

      tags_in_range : All IsIn C.tags
      tags_in_range = All-append IsIn (imported tags_in parts.imports) parts.tags
          (all_flat (λ (i : Import ℕ). ExternIn i.ty) IsIn (λ (i : Import ℕ). tags_in i.ty) (λ i g. add_tags i.ty g) parts.imports imports_in)
          (All-weaker (IsValidTag F types) IsIn (λ x g. function_in x g.is_of_function_type) parts.tags valid.tags)

      tables_in_range : All TableIn C.tables
      tables_in_range = All-append TableIn (imported tables_in parts.imports) (map table_type parts.tables)
          (all_flat (λ (i : Import ℕ). ExternIn i.ty) TableIn (λ (i : Import ℕ). tables_in i.ty) (λ i g. add_tables i.ty g) parts.imports imports_in)
          (All-map TableIn table_type parts.tables
          (All-weaker (IsValidTableEntry F types) (λ (t : TableEntry Expression ℕ). TableIn t.ty) (λ t g. refs_in (refs_heap t.ty.element.heap) g.ty.element.in_range) parts.tables valid.tables))

      globals_in_range : All GlobalIn C.globals
      globals_in_range = All-append GlobalIn (imported globals_in parts.imports) (map global_type parts.globals)
          (all_flat (λ (i : Import ℕ). ExternIn i.ty) GlobalIn (λ (i : Import ℕ). globals_in i.ty) (λ i g. add_globals i.ty g) parts.imports imports_in)
          (All-map GlobalIn global_type parts.globals
          (All-weaker (λ (g : GlobalEntry Expression ℕ). IsValidGlobal F types g.ty) (λ (g : GlobalEntry Expression ℕ). GlobalIn g.ty) (λ g h. refs_in (refs_val g.ty.content) h.content.in_range) parts.globals valid.globals))

      pub all_held : AreOver n (spaces_of F types ids parts)
      all_held = record {
        tables = All-map (λ (t : Table UnpackedIndex). All (IsIdOfOne n) (refs_heap t.element.heap)) (listed_table ids) C.tables
            (All-weaker TableIn (λ (t : Table ℕ). All (IsIdOfOne n) (refs_heap (map_heap (listed ids) t.element.heap))) (λ t g. held_heap t.element.heap g) C.tables tables_in_range);
        globals = All-map (λ (g : Global UnpackedIndex). All (IsIdOfOne n) (refs_val g.content)) (listed_global ids) C.globals
            (All-weaker GlobalIn (λ (g : Global ℕ). All (IsIdOfOne n) (refs_val (map_val (listed ids) g.content))) (λ g h. held_val g.content h) C.globals globals_in_range);
        elements = All-map (λ (r : Ref UnpackedIndex). All (IsIdOfOne n) (refs_heap r.heap)) (listed_element ids) parts.elements
            (All-weaker (IsValidElement F C) (λ (e : Element Expression ℕ). All (IsIdOfOne n) (refs_heap (map_heap (listed ids) (items_type e.items).heap))) (λ e g. element_in C refl e.items g.items) parts.elements valid.elements);
        imports = held_pairs (import_rows ids parts.imports) (held_imports parts.imports imports_in (first_pairs (map names_of parts.imports)));
        exports = held_exports C functions_in_range tables_in_range globals_in_range tags_in_range F (exact_functions parts) parts.exports;
      }

pub shown_types_are_held : ShownTypesAreHeld
shown_types_are_held F types ids parts n same below valid = all_held n ids below F types same parts valid
