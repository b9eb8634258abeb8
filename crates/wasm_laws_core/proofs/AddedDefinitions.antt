-- Functions, tables, memories and tags that are defined, added behind the imports of their kind.
use Rattle.std.proofs.Common.{◌≡◌, sym, ap, subst, ◌∙◌, ℕ, ◌+◌, ◌≤◌, Bool, false, cond, leb, List, [], ◌∷◌, ◌++◌, map, length, Option, Some, None, is_some, append_assoc, length-append}
use Rattle.std.specs.Prelude.{◌↔◌}
use Rattle.std.specs.Bool.{Decides}
use Rattle.std.specs.List.{All}
use Rattle.std.proofs.lemmas.Bool.Decides.{Decides-at}
use Rattle.std.proofs.lemmas.List.{length-map, map-append}
use Rattle.wasm_spec.specs.Syntax.{Table, Memory, map_table}
use Rattle.wasm_spec.specs.BinaryModules.{Export}
use Rattle.wasm_spec.specs.BinarySections.{TableEntry}
use Rattle.wasm_spec.specs.Features.{Features, canonical}
use Rattle.wasm_spec.specs.Trees.{DefType}
use Rattle.wasm_spec.proofs.SyntaxMaps.{map_table-map}
use Rattle.wasm_spec_rules.specs.Parts.{Parts, Expression}
use Rattle.wasm_spec_rules.specs.IndexSpaces.{index_spaces, imported, functions_in, tables_in, memories_in, tags_in, IsFunctionType, table_type}
use Rattle.wasm_spec_rules.specs.ItemRules.{IsValidTableEntry, IsValidMemory, IsValidTag}
use Rattle.wasm_spec_rules.specs.Limits.{most_functions, most_tables, most_memories, most_tags}
use Rattle.wasm_spec_rules.specs.Sections.{each}
use Rattle.wasm_readers_types.specs.WasmReadersValues.declared.indices.UnpackedIndex.{UnpackedIndex}
use Rattle.wasm_validator_core.specs.WasmValidatorCanonical.Groups.{types_at}
use Rattle.wasm_validator_core.specs.WasmValidatorCanonical.Indices.{canonical_index}
use Rattle.wasm_validator_core.specs.WasmValidatorCanonical.Sections.{written}
use Rattle.wasm_validator_core.specs.WasmValidatorChecks.Items.{is_function, is_valid_defined_table, is_valid_memory, is_valid_tag}
use Rattle.wasm_validator_core.specs.WasmValidatorChecks.Laws.{Stand}
use Rattle.wasm_validator_core.proofs.WasmValidatorChecks.ItemTests.{functions_are_decided, defined_tables_are_decided, memories_are_decided, tags_are_decided}
use Rattle.wasm_validator_types.specs.Spaces.{Spaces}
use Rattle.wasm_validator_core.specs.Items.{add_function, add_table, add_memory, add_tag}
use Rattle.wasm_laws_core.specs.ModuleParts.{spaces_of, listed_table}
use Rattle.wasm_laws_core.specs.Lists.{has_no_init, add_functions, add_tables, add_memories, add_tags}
use Rattle.wasm_laws_core.specs.Laws.{FunctionsAreAdded, TablesAreAdded, MemoriesAreAdded, TagsAreAdded}
use Rattle.wasm_laws_core.proofs.Fronts.{front}
use Rattle.wasm_laws_core.proofs.AddedItems.{of_each, for_each, each_changed, IsStep, step_of, list_law}

-- a law of two lists that are empty
emptied : {X Y : Type 0} (Q : List X → List Y → Type 0) (xs : List X) (ys : List Y) → xs ≡ [] → ys ≡ [] → Q [] [] → Q xs ys
emptied {X} {Y} Q xs ys e f q = subst (λ (vs : List X). Q vs ys) (sym e) (subst (λ (ws : List Y). Q [] ws) (sym f) q)

module _ (F : Features) (ids : List ℕ) (types : List DefType) where
  -- the state where nothing is exported, and these are defined
  abbrev with_functions : Parts → List ℕ → Spaces
  with_functions p xs = spaces_of F types ids (record p { functions = xs; exports = [] })

  abbrev with_tables : Parts → List (TableEntry Expression ℕ) → Spaces
  with_tables p ts = spaces_of F types ids (record p { tables = ts; exports = [] })

  abbrev with_memories : Parts → List Memory → Spaces
  with_memories p ms = spaces_of F types ids (record p { memories = ms; exports = [] })

  abbrev with_tags : Parts → List ℕ → Spaces
  with_tags p xs = spaces_of F types ids (record p { tags = xs; exports = [] })

  memory_step : (p : Parts) (m : Memory) → IsStep (IsValidMemory F) (add_memory F) (with_memories p) (length (imported memories_in p.imports)) (most_memories F) m
  memory_step p m =
      let before = imported memories_in p.imports in
      let test = is_valid_memory F m in
      step_of (IsValidMemory F) (add_memory F) (with_memories p) (length before) (most_memories F) m test (memories_are_decided F m)
      (λ acc. λ i. cond test (cond (leb (length-append before acc i + 1) (most_memories F)) (Some (record (with_memories p acc) { memories = append_assoc before acc (m ∷ []) i })) None) None)

  module _ (us : List DefType) (s : Stand (canonical F) us ids types) where
    function_step : (p : Parts) (x : ℕ) → IsStep (IsFunctionType types) (add_function us) (with_functions p) (length (imported functions_in p.imports)) most_functions x
    function_step p x =
        let before = imported functions_in p.imports in
        let test = is_function (types_at us ids) x in
        step_of (IsFunctionType types) (add_function us) (with_functions p) (length before) most_functions x test (functions_are_decided (canonical F) us ids types s x)
        (λ acc. λ i. cond test (cond (leb (length-append before acc i + 1) most_functions) (Some (record (with_functions p acc) { functions = append_assoc before acc (x ∷ []) i })) None) None)

    tag_step : (p : Parts) (x : ℕ) → IsStep (IsValidTag F types) (add_tag F us) (with_tags p) (length (imported tags_in p.imports)) most_tags x
    tag_step p x =
        let before = imported tags_in p.imports in
        let test = is_valid_tag F (types_at us ids) x in
        step_of (IsValidTag F types) (add_tag F us) (with_tags p) (length before) most_tags x test (tags_are_decided F (canonical F) us ids types s x)
        (λ acc. λ i. cond test (cond (leb (length-append before acc i + 1) most_tags) (Some (record (with_tags p acc) { tags = append_assoc before acc (x ∷ []) i })) None) None)

    -- a table, by its entry
    abbrev add_entry : Spaces → TableEntry Expression ℕ → Option Spaces
    add_entry t x = add_table F us t (map_table written (table_type x))

    entry_decided : (x : TableEntry Expression ℕ) → has_no_init x → Decides (is_valid_defined_table F (types_at us ids) (map_table written x.ty) false) (IsValidTableEntry F types x)
    entry_decided x none =
        let test : Bool → Bool = λ has_init. is_valid_defined_table F (types_at us ids) (map_table written x.ty) has_init in
        Decides-at (test false) (test (is_some x.init)) (λ i. test (is_some (sym none i))) (defined_tables_are_decided F (canonical F) us ids types s x)

    tables_counted : (before : List (Table ℕ)) (acc : List (TableEntry Expression ℕ)) → length (map (listed_table ids) (before ++ map table_type acc)) ≡ length before + length acc
    tables_counted before acc = length-map (before ++ map table_type acc) (listed_table ids) ∙ length-append before (map table_type acc) ∙ ap (λ n. length before + n) (length-map acc table_type)

    one_more_table : (before : List (Table ℕ)) (acc : List (TableEntry Expression ℕ)) (x : TableEntry Expression ℕ)
        → map (listed_table ids) (before ++ map table_type acc) ++ map_table (canonical_index ids) (map_table written x.ty) ∷ [] ≡ map (listed_table ids) (before ++ map table_type (acc ++ x ∷ []))
    one_more_table before acc x =
        let listed : List (Table ℕ) → List (Table UnpackedIndex) = map (listed_table ids) in
        (λ i. listed (before ++ map table_type acc) ++ map_table-map (canonical_index ids) written x.ty i ∷ [])
        ∙ sym (map-append (listed_table ids) (before ++ map table_type acc) (x.ty ∷ []))
        ∙ ap listed (append_assoc before (map table_type acc) (x.ty ∷ []))
        ∙ ap (λ ts. listed (before ++ ts)) (sym (map-append table_type acc (x ∷ [])))

    table_step : (p : Parts) (x : TableEntry Expression ℕ) → has_no_init x → IsStep (IsValidTableEntry F types) add_entry (with_tables p) (length (imported tables_in p.imports)) (most_tables F) x
    table_step p x none =
        let before = imported tables_in p.imports in
        let test = is_valid_defined_table F (types_at us ids) (map_table written x.ty) false in
        step_of (IsValidTableEntry F types) add_entry (with_tables p) (length before) (most_tables F) x test (entry_decided x none)
        (λ acc. λ i. cond test (cond (leb (tables_counted before acc i + 1) (most_tables F)) (Some (record (with_tables p acc) { tables = one_more_table before acc x i })) None) None)

    -- the laws, where no item of the kind is and nothing is exported
    abbrev FunctionsFrom : Parts → List ℕ → List Export → Type 0
    FunctionsFrom p fs es =
        length (index_spaces types (record p { functions = fs })).functions ≤ most_functions
        → (xs : List ℕ) (t : Spaces) → (add_functions us (spaces_of F types ids (record p { functions = fs; exports = es })) xs ≡ Some t)
        ↔ ((All (IsFunctionType types) xs × (length (index_spaces types (record p { functions = xs })).functions ≤ most_functions)) × (spaces_of F types ids (record p { functions = xs; exports = es }) ≡ t))

    functions_from : (p : Parts) → FunctionsFrom p [] []
    functions_from p few xs t =
        let before = imported functions_in p.imports in
        let P : ℕ → Type 0 = IsFunctionType types in
        list_law P (add_function us) (with_functions p) (length before) most_functions xs (length (before ++ xs)) (length-append before xs)
        (of_each (IsStep P (add_function us) (with_functions p) (length before) most_functions) xs (function_step p)) (front before [] most_functions few) t

    abbrev TagsFrom : Parts → List ℕ → List Export → Type 0
    TagsFrom p ys es =
        length (index_spaces types (record p { tags = ys })).tags ≤ most_tags
        → (xs : List ℕ) (t : Spaces) → (add_tags F us (spaces_of F types ids (record p { tags = ys; exports = es })) xs ≡ Some t)
        ↔ ((All (IsValidTag F types) xs × (length (index_spaces types (record p { tags = xs })).tags ≤ most_tags)) × (spaces_of F types ids (record p { tags = xs; exports = es }) ≡ t))

    tags_from : (p : Parts) → TagsFrom p [] []
    tags_from p few xs t =
        let before = imported tags_in p.imports in
        let P : ℕ → Type 0 = IsValidTag F types in
        list_law P (add_tag F us) (with_tags p) (length before) most_tags xs (length (before ++ xs)) (length-append before xs)
        (of_each (IsStep P (add_tag F us) (with_tags p) (length before) most_tags) xs (tag_step p)) (front before [] most_tags few) t

    abbrev TablesFrom : List (TableEntry Expression ℕ) → Parts → List (TableEntry Expression ℕ) → List Export → Type 0
    TablesFrom ts p ys es =
        length (index_spaces types (record p { tables = ys })).tables ≤ most_tables F
        → (t : Spaces) → (add_tables F us (spaces_of F types ids (record p { tables = ys; exports = es })) ts ≡ Some t)
        ↔ ((All (IsValidTableEntry F types) ts × (length (index_spaces types (record p { tables = ts })).tables ≤ most_tables F)) × (spaces_of F types ids (record p { tables = ts; exports = es }) ≡ t))

    entries_added : (a : Spaces) (ts : List (TableEntry Expression ℕ)) → add_tables F us a ts ≡ each add_entry a ts
    entries_added a ts = each_changed (add_table F us) (map_table written) a (map table_type ts) ∙ each_changed (λ (b : Spaces) (x : Table ℕ). add_table F us b (map_table written x)) table_type a ts

    tables_from : (p : Parts) (ts : List (TableEntry Expression ℕ)) → All has_no_init ts → TablesFrom ts p [] []
    tables_from p ts none few t =
        let before = imported tables_in p.imports in
        let P : TableEntry Expression ℕ → Type 0 = IsValidTableEntry F types in
        let steps = for_each has_no_init (IsStep P add_entry (with_tables p) (length before) (most_tables F)) ts (table_step p) none in
        let law = list_law P add_entry (with_tables p) (length before) (most_tables F) ts (length (before ++ map table_type ts)) (length-append before (map table_type ts) ∙ ap (λ n. length before + n) (length-map ts table_type)) steps (front before [] (most_tables F) few) t in
        (λ e. law.0 (sym (entries_added (with_tables p []) ts) ∙ e), λ h. entries_added (with_tables p []) ts ∙ law.1 h)

  abbrev MemoriesFrom : Parts → List Memory → List Export → Type 0
  MemoriesFrom p ys es =
      length (index_spaces types (record p { memories = ys })).memories ≤ most_memories F
      → (ms : List Memory) (t : Spaces) → (add_memories F (spaces_of F types ids (record p { memories = ys; exports = es })) ms ≡ Some t)
      ↔ ((All (IsValidMemory F) ms × (length (index_spaces types (record p { memories = ms })).memories ≤ most_memories F)) × (spaces_of F types ids (record p { memories = ms; exports = es }) ≡ t))

  memories_from : (p : Parts) → MemoriesFrom p [] []
  memories_from p few ms t =
      let before = imported memories_in p.imports in
      let P : Memory → Type 0 = IsValidMemory F in
      list_law P (add_memory F) (with_memories p) (length before) (most_memories F) ms (length (before ++ ms)) (length-append before ms)
      (of_each (IsStep P (add_memory F) (with_memories p) (length before) (most_memories F)) ms (memory_step p)) (front before [] (most_memories F) few) t

pub functions_are_added : FunctionsAreAdded
functions_are_added F us ids types s p e f = emptied (FunctionsFrom F ids types us s p) p.functions p.exports e f (functions_from F ids types us s p)

pub tables_are_added : TablesAreAdded
tables_are_added F us ids types s p e f few ts none = emptied (TablesFrom F ids types us s ts p) p.tables p.exports e f (tables_from F ids types us s p ts none) few

pub memories_are_added : MemoriesAreAdded
memories_are_added F ids types p e f = emptied (MemoriesFrom F ids types p) p.memories p.exports e f (memories_from F ids types p)

pub tags_are_added : TagsAreAdded
tags_are_added F us ids types s p e f = emptied (TagsFrom F ids types us s p) p.tags p.exports e f (tags_from F ids types us s p)
