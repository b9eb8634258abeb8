-- All lists of a module, one after another, with their constant expressions.
use Rattle.std.proofs.Common.{refl, ℕ, ◌+◌, ◌≤◌, ◌<◌, nat_eq, List, map, length, Option, arith}
use Rattle.std.specs.Option.{option_and_then}
use Rattle.std.specs.List.{All}
use Rattle.std.proofs.lemmas.List.Elements.{All-append}
use Rattle.wasm_spec.specs.BinarySections.{GlobalEntry, Element, Data}
use Rattle.wasm_spec.specs.Features.{Features}
use Rattle.wasm_spec.specs.Trees.{DefType}
use Rattle.wasm_spec_rules.specs.Parts.{Parts, Expression}
use Rattle.wasm_spec_rules.specs.IndexSpaces.{IndexSpaces, index_spaces, imported, functions_in, tables_in, memories_in, globals_in, tags_in, IsFunctionType, table_type, global_type}
use Rattle.wasm_spec_rules.specs.ItemRules.{IsValidTableEntry, IsValidMemory, IsValidTag}
use Rattle.wasm_spec_rules.specs.LinkRules.{IsValidExport, HasDistinctNames, effective_size, sum, import_size, export_size}
use Rattle.wasm_spec_rules.specs.SegmentRules.{IsValidElement, IsValidData}
use Rattle.wasm_spec_rules.specs.Limits.{most_functions, most_tables, most_memories, most_globals, most_tags, size_limit}
use Rattle.wasm_laws_core.specs.WasmValidatorTypes.Spaces.{Spaces}
use Rattle.wasm_laws_core.specs.ModuleParts.{spaces_of}
use Rattle.wasm_laws_core.specs.Lists.{only_types, only_imports, up_to_functions, add_imports, add_functions, add_memories, add_tags, add_exports}
use Rattle.wasm_laws_core.specs.Laws.{AreValidImports}
use Rattle.wasm_laws_core.proofs.Fronts.{front, alone}
use Rattle.wasm_laws_core.proofs.Steps.{law_of_verdict}
use Rattle.wasm_laws_core.proofs.AddedItems.{for_each}
use Rattle.wasm_laws_core.proofs.AddedImports.{imports_are_added}
use Rattle.wasm_laws_core.proofs.AddedExports.{exports_are_added}
use Rattle.wasm_laws_core.proofs.AddedDefinitions.{functions_are_added, memories_are_added, tags_are_added}
use Rattle.wasm_laws_core.proofs.AllLists.{StepLaw, then_law, law_as, function_of_extern, tag_of_extern, all_imported}
use Rattle.wasm_spec_validity.specs.Typing.{IsTypedTable, IsTypedGlobal, IsTypedElement, IsTypedData}
use Rattle.wasm_spec_validity.specs.Modules.{Numbering, number_at, context_of, imported_globals}
use Rattle.wasm_laws_modules.specs.Contexts.{ConstantsAreOverNumbers, ReferencesMatchOverIds}
use Rattle.wasm_laws_modules.specs.Lists.{up_to_tables, up_to_memories, up_to_tags, up_to_globals, up_to_exports, up_to_elements, add_table_entries, add_global_entries, add_elements, add_segments, add_all_lists, AreValidModuleLists}
use Rattle.wasm_laws_modules.specs.Laws.{AreTypedConstants, AllListsAreAdded}
use Rattle.wasm_laws_modules.proofs.ItemSequences.{All-both, AllFrom, at_index, from_index}
use Rattle.wasm_laws_modules.proofs.Constants.{Setting}
use Rattle.wasm_laws_modules.proofs.AddedTables.{tables_verdict}
use Rattle.wasm_laws_modules.proofs.AddedGlobals.{IsValidEntry, all_in_range, globals_verdict}
use Rattle.wasm_laws_modules.proofs.AddedElements.{tables_in_range, elements_verdict}
use Rattle.wasm_laws_modules.proofs.AddedData.{segments_verdict}

-- the lists one after another, each behind those before it
module _ (constants : ConstantsAreOverNumbers) (matching : ReferencesMatchOverIds) (F : Features) (us : List DefType) (ids : List ℕ) (types : List DefType)
    (w : Setting F us ids types) (n : Numbering types) (parts : Parts) where
  abbrev shown : Parts → Spaces
  shown p = spaces_of F types ids p

  abbrev C : IndexSpaces
  C = index_spaces types parts

  -- what is asked of each list
  abbrev ImportsFit : Type 0
  ImportsFit = AreValidImports F types parts.imports

  abbrev FunctionsFit : Type 0
  FunctionsFit = All (IsFunctionType types) parts.functions × (length C.functions ≤ most_functions)

  abbrev TablesFit : Type 0
  TablesFit = (All (IsValidTableEntry F types) parts.tables × All (IsTypedTable nat_eq F (context_of C n parts) (imported_globals parts) (number_at n)) parts.tables) × (length C.tables ≤ most_tables F)

  abbrev MemoriesFit : Type 0
  MemoriesFit = All (IsValidMemory F) parts.memories × (length C.memories ≤ most_memories F)

  abbrev TagsFit : Type 0
  TagsFit = All (IsValidTag F types) parts.tags × (length C.tags ≤ most_tags)

  abbrev IsTypedEntry : ℕ → GlobalEntry Expression ℕ → Type 0
  IsTypedEntry x g = IsTypedGlobal nat_eq F (context_of C n parts) (imported_globals parts) (number_at n) x g

  abbrev GlobalsFit : Type 0
  GlobalsFit = (All (IsValidEntry F types) parts.globals × AllFrom IsTypedEntry (imported_globals parts) parts.globals) × (length C.globals ≤ most_globals)

  abbrev ExportsFit : Type 0
  ExportsFit = All (IsValidExport F C) parts.exports × HasDistinctNames parts.exports × (effective_size C parts.imports parts.exports < size_limit)

  abbrev IsTypedSegment : Element Expression ℕ → Type 0
  IsTypedSegment e = IsTypedElement nat_eq F (context_of C n parts) (imported_globals parts) (number_at n) e

  abbrev ElementsFit : Type 0
  ElementsFit = All (λ (e : Element Expression ℕ). IsValidElement F C e × IsTypedSegment e) parts.elements

  abbrev AreTypedBytes : Data Expression → Type 0
  AreTypedBytes d = IsTypedData nat_eq F (context_of C n parts) (imported_globals parts) (number_at n) d

  abbrev SegmentsFit : Type 0
  SegmentsFit = All (λ (d : Data Expression). IsValidData F C d × AreTypedBytes d) parts.segments

  -- the laws of the lists, last to first
  segments_law : ImportsFit → GlobalsFit → StepLaw (add_segments F us (shown (up_to_elements parts)) parts.segments) SegmentsFit (shown parts)
  segments_law i g =
      law_of_verdict (add_segments F us (shown (up_to_elements parts)) parts.segments) (shown parts)
      (segments_verdict F us ids types w parts constants n (all_in_range F types parts.imports parts.globals i.valid g.0.0))

  abbrev from_elements : Spaces → Option Spaces
  from_elements g = option_and_then (λ h. add_segments F us h parts.segments) (add_elements F us g parts.elements)

  elements_law : ImportsFit → TablesFit → GlobalsFit → StepLaw (from_elements (shown (up_to_exports parts))) (ElementsFit × SegmentsFit) (shown parts)
  elements_law i t g =
      then_law (add_elements F us (shown (up_to_exports parts)) parts.elements) (shown (up_to_elements parts)) (λ h. add_segments F us h parts.segments) (shown parts)
      (law_of_verdict (add_elements F us (shown (up_to_exports parts)) parts.elements) (shown (up_to_elements parts))
      (elements_verdict F us ids types w parts constants matching n (all_in_range F types parts.imports parts.globals i.valid g.0.0) (tables_in_range F types parts.imports parts.tables i.valid t.0.0)))
      (λ _. segments_law i g)

  abbrev from_exports : Spaces → Option Spaces
  from_exports f = option_and_then from_elements (add_exports F us f parts.exports)

  exports_law : ImportsFit → FunctionsFit → TablesFit → TagsFit → GlobalsFit → StepLaw (from_exports (shown (up_to_globals parts))) (ExportsFit × (ElementsFit × SegmentsFit)) (shown parts)
  exports_law i f t e g =
      let functions = All-append (IsFunctionType types) (imported functions_in parts.imports) parts.functions (all_imported F types functions_in (function_of_extern F types) parts.imports i.valid) f.0 in
      let of_tags = for_each (IsValidTag F types) (IsFunctionType types) parts.tags (λ x (v : IsValidTag F types x). v.is_of_function_type) e.0 in
      let tags = All-append (IsFunctionType types) (imported tags_in parts.imports) parts.tags (all_imported F types tags_in (tag_of_extern F types) parts.imports i.valid) of_tags in
      then_law (add_exports F us (shown (up_to_globals parts)) parts.exports) (shown (up_to_exports parts)) from_elements (shown parts)
      (exports_are_added F us ids types w.stand (up_to_globals parts) refl functions tags i.size parts.exports)
      (λ _. elements_law i t g)

  abbrev from_globals : Spaces → Option Spaces
  from_globals e = option_and_then from_exports (add_global_entries F us e parts.globals)

  abbrev FromGlobals : Type 0
  FromGlobals = GlobalsFit × (ExportsFit × (ElementsFit × SegmentsFit))

  globals_law : ImportsFit → FunctionsFit → TablesFit → TagsFit → StepLaw (from_globals (shown (up_to_tags parts))) FromGlobals (shown parts)
  globals_law i f t e =
      then_law (add_global_entries F us (shown (up_to_tags parts)) parts.globals) (shown (up_to_globals parts)) from_exports (shown parts)
      (law_of_verdict (add_global_entries F us (shown (up_to_tags parts)) parts.globals) (shown (up_to_globals parts))
      (globals_verdict F us ids types w parts constants n i.valid i.few_globals))
      (exports_law i f t e)

  abbrev from_tags : Spaces → Option Spaces
  from_tags d = option_and_then from_globals (add_tags F us d parts.tags)

  tags_law : ImportsFit → FunctionsFit → TablesFit → StepLaw (from_tags (shown (up_to_memories parts))) (TagsFit × FromGlobals) (shown parts)
  tags_law i f t =
      then_law (add_tags F us (shown (up_to_memories parts)) parts.tags) (shown (up_to_tags parts)) from_globals (shown parts)
      (tags_are_added F us ids types w.stand (up_to_memories parts) refl refl (alone (imported tags_in parts.imports) most_tags i.few_tags) parts.tags)
      (globals_law i f t)

  abbrev from_memories : Spaces → Option Spaces
  from_memories c = option_and_then from_tags (add_memories F c parts.memories)

  memories_law : ImportsFit → FunctionsFit → TablesFit → StepLaw (from_memories (shown (up_to_tables parts))) (MemoriesFit × (TagsFit × FromGlobals)) (shown parts)
  memories_law i f t =
      then_law (add_memories F (shown (up_to_tables parts)) parts.memories) (shown (up_to_memories parts)) from_tags (shown parts)
      (memories_are_added F ids types (up_to_tables parts) refl refl (alone (imported memories_in parts.imports) (most_memories F) i.few_memories) parts.memories)
      (λ _. tags_law i f t)

  abbrev from_tables : Spaces → Option Spaces
  from_tables b = option_and_then from_memories (add_table_entries F us b parts.tables)

  tables_law : ImportsFit → FunctionsFit → StepLaw (from_tables (shown (up_to_functions parts))) (TablesFit × (MemoriesFit × (TagsFit × FromGlobals))) (shown parts)
  tables_law i f =
      then_law (add_table_entries F us (shown (up_to_functions parts)) parts.tables) (shown (up_to_tables parts)) from_memories (shown parts)
      (law_of_verdict (add_table_entries F us (shown (up_to_functions parts)) parts.tables) (shown (up_to_tables parts))
      (tables_verdict F us ids types w parts constants n i.valid i.few_tables))
      (memories_law i f)

  abbrev from_functions : Spaces → Option Spaces
  from_functions a = option_and_then from_tables (add_functions us a parts.functions)

  abbrev DefinitionsFit : Type 0
  DefinitionsFit = FunctionsFit × (TablesFit × (MemoriesFit × (TagsFit × FromGlobals)))

  functions_law : ImportsFit → StepLaw (from_functions (shown (only_imports parts.imports))) DefinitionsFit (shown parts)
  functions_law i =
      then_law (add_functions us (shown (only_imports parts.imports)) parts.functions) (shown (up_to_functions parts)) from_tables (shown parts)
      (functions_are_added F us ids types w.stand (only_imports parts.imports) refl refl (alone (imported functions_in parts.imports) most_functions i.few_functions) parts.functions)
      (tables_law i)

  lists_law : StepLaw (add_all_lists F us (only_types ids) parts) (ImportsFit × DefinitionsFit) (shown parts)
  lists_law =
      then_law (add_imports F us (only_types ids) parts.imports) (shown (only_imports parts.imports)) from_functions (shown parts)
      (imports_are_added F us ids types w.stand parts.imports)
      functions_law

  -- these are the rules of the lists, and of their constant expressions
  valid_from : ImportsFit × DefinitionsFit → AreValidModuleLists F C parts
  valid_from h =
      let i = h.0 in
      let t = h.1.1 in
      let g = t.1.1.1 in record {
        imports = i.valid;
        functions = h.1.0.0;
        tables = t.0.0.0;
        memories = t.1.0.0;
        tags = t.1.1.0.0;
        globals = g.0.0.0;
        exports = g.1.0.0;
        export_names = g.1.0.1;
        size = g.1.0.2;
        elements = for_each (λ (e : Element Expression ℕ). IsValidElement F C e × IsTypedSegment e) (IsValidElement F C) parts.elements (λ _ p. p.0) g.1.1.0;
        segments = for_each (λ (d : Data Expression). IsValidData F C d × AreTypedBytes d) (IsValidData F C) parts.segments (λ _ p. p.0) g.1.1.1;
        few_functions = h.1.0.1;
        few_tables = t.0.1;
        few_memories = t.1.0.1;
        few_globals = g.0.1;
        few_tags = t.1.1.0.1;
      }

  typed_from : ImportsFit × DefinitionsFit → AreTypedConstants F types n parts
  typed_from h =
      let t = h.1.1 in
      let g = t.1.1.1 in record {
        globals = at_index IsTypedEntry (imported_globals parts) parts.globals g.0.0.1;
        tables = t.0.0.1;
        elements = for_each (λ (e : Element Expression ℕ). IsValidElement F C e × IsTypedSegment e) IsTypedSegment parts.elements (λ _ p. p.1) g.1.1.0;
        segments = for_each (λ (d : Data Expression). IsValidData F C d × AreTypedBytes d) AreTypedBytes parts.segments (λ _ p. p.1) g.1.1.1;
      }

  small_imports : (a b : ℕ) → 1 + (a + b) < size_limit → 1 + (a + 0) < size_limit
  small_imports a b small = omega (arith, small)

  imports_fit : AreValidModuleLists F C parts → ImportsFit
  imports_fit v = record {
    valid = v.imports;
    size = small_imports (sum (map (import_size types) parts.imports)) (sum (map (export_size C) parts.exports)) v.size;
    few_functions = front (imported functions_in parts.imports) parts.functions most_functions v.few_functions;
    few_tables = front (imported tables_in parts.imports) (map table_type parts.tables) (most_tables F) v.few_tables;
    few_memories = front (imported memories_in parts.imports) parts.memories (most_memories F) v.few_memories;
    few_globals = front (imported globals_in parts.imports) (map global_type parts.globals) most_globals v.few_globals;
    few_tags = front (imported tags_in parts.imports) parts.tags most_tags v.few_tags;
  }

  fit_from : AreValidModuleLists F C parts × AreTypedConstants F types n parts → ImportsFit × DefinitionsFit
  fit_from h =
      let v = h.0 in
      let c = h.1 in
      let elements : ElementsFit = All-both (IsValidElement F C) IsTypedSegment parts.elements v.elements c.elements in
      let segments : SegmentsFit = All-both (IsValidData F C) AreTypedBytes parts.segments v.segments c.segments in
      let globals : GlobalsFit = ((v.globals, from_index IsTypedEntry (imported_globals parts) parts.globals c.globals), v.few_globals) in
      let tables : TablesFit = ((v.tables, c.tables), v.few_tables) in
      (imports_fit v, ((v.functions, v.few_functions), (tables, ((v.memories, v.few_memories), ((v.tags, v.few_tags), (globals, ((v.exports, v.export_names, v.size), (elements, segments))))))))

-- All lists are added where they are valid and their constant expressions are typed.
pub all_lists_added : ConstantsAreOverNumbers → ReferencesMatchOverIds → AllListsAreAdded
all_lists_added constants matching F us valid once ids types stand own module_types n parts =
    let w : Setting F us ids types = record { valid = valid; once = once; stand = stand; own_ids = own; module_types = module_types } in
    law_as (add_all_lists F us (only_types ids) parts) (spaces_of F types ids parts)
    (λ h. (valid_from constants matching F us ids types w n parts h, typed_from constants matching F us ids types w n parts h))
    (fit_from constants matching F us ids types w n parts)
    (lists_law constants matching F us ids types w n parts)
