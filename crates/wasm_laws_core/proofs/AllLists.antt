-- All lists of a module, one after another.
use Rattle.std.proofs.Common.{◌≡◌, refl, sym, ap, subst, ◌∙◌, ℕ, ◌+◌, ◌≤◌, ◌<◌, List, [], ◌∷◌, ◌++◌, map, length, Option, Some, arith}
use Rattle.std.specs.Prelude.{◌↔◌}
use Rattle.std.specs.Option.{option_and_then}
use Rattle.std.specs.List.{All}
use Rattle.std.proofs.lemmas.List.Elements.{All-nil, All-cons, All-head, All-tail, All-append}
use Rattle.wasm_spec.specs.Syntax.{Extern, func_extern, func_exact_extern, table_extern, memory_extern, global_extern, tag_extern}
use Rattle.wasm_spec.specs.BinaryModules.{Import}
use Rattle.wasm_spec.specs.Features.{Features, canonical}
use Rattle.wasm_spec.specs.Trees.{DefType}
use Rattle.wasm_spec_rules.specs.Parts.{Parts}
use Rattle.wasm_spec_rules.specs.IndexSpaces.{IndexSpaces, index_spaces, imported, functions_in, tables_in, memories_in, globals_in, tags_in, IsFunctionType, table_type, global_type}
use Rattle.wasm_spec_rules.specs.ItemRules.{IsValidTableEntry, IsValidMemory, IsValidTag}
use Rattle.wasm_spec_rules.specs.LinkRules.{IsValidExtern, IsValidImport, IsValidExport, HasDistinctNames, effective_size, sum, import_size, export_size}
use Rattle.wasm_spec_rules.specs.Limits.{most_functions, most_tables, most_memories, most_globals, most_tags, size_limit}
use Rattle.wasm_spec_rules.proofs.Tests.{then_some}
use Rattle.wasm_validator_core.specs.WasmValidatorChecks.Laws.{Stand}
use Rattle.wasm_validator_types.specs.Spaces.{Spaces}
use Rattle.wasm_laws_core.specs.ModuleParts.{spaces_of}
use Rattle.wasm_laws_core.specs.Lists.{only_types, only_imports, up_to_functions, up_to_tables, up_to_memories, up_to_tags, listed_parts, add_imports, add_functions, add_tables, add_memories, add_tags, add_exports, add_lists, HasNoInitializer, AreValidLists}
use Rattle.wasm_laws_core.specs.Laws.{AreValidImports, ImportsAreAdded, ExportsAreAdded, ValidListsAreAdded}
use Rattle.wasm_laws_core.proofs.Fronts.{front, alone}
use Rattle.wasm_laws_core.proofs.AddedItems.{for_each}
use Rattle.wasm_laws_core.proofs.AddedImports.{imports_are_added}
use Rattle.wasm_laws_core.proofs.AddedExports.{exports_are_added}
use Rattle.wasm_laws_core.proofs.AddedDefinitions.{functions_are_added, tables_are_added, memories_are_added, tags_are_added}

-- a step gives s exactly where P holds, and else nothing
abbrev pub StepLaw : {S : Type 0} → Option S → Type 0 → S → Type 0
StepLaw {S} o P s = (t : S) → (o ≡ Some t) ↔ (P × (s ≡ t))

-- two steps, one after the other
after_step : {S P Q : Type 0} (o : Option S) (s : S) (g : S → Option S) (r t : S) → StepLaw o P s → (P → StepLaw (g s) Q r) → option_and_then g o ≡ Some t → (P × Q) × (r ≡ t)
after_step {S} {P} {Q} o s g r t first second e =
    let x = then_some g o t e in
    let one = (first x.0).0 x.1 in
    let two = (second one.0 t).0 (ap g one.1 ∙ x.2) in
    ((one.0, two.0), two.1)

before_step : {S P Q : Type 0} (o : Option S) (s : S) (g : S → Option S) (r t : S) → StepLaw o P s → (P → StepLaw (g s) Q r) → (P × Q) × (r ≡ t) → option_and_then g o ≡ Some t
before_step {S} {P} {Q} o s g r t first second h = ap (option_and_then g) ((first s).1 (h.0.0, refl)) ∙ (second h.0.0 t).1 (h.0.1, h.1)

pub then_law : {S P Q : Type 0} (o : Option S) (s : S) (g : S → Option S) (r : S) → StepLaw o P s → (P → StepLaw (g s) Q r) → StepLaw (option_and_then g o) (P × Q) r
then_law o s g r first second t = (after_step o s g r t first second, before_step o s g r t first second)

pub law_as : {S P Q : Type 0} (o : Option S) (s : S) → (P → Q) → (Q → P) → StepLaw o P s → StepLaw o Q s
law_as {S} {P} {Q} o s f g law t = (λ e. let h = (law t).0 e in (f h.0, h.1), λ h. (law t).1 (g h.0, h.1))

-- functions and tags that are imported are of function types
module _ (F : Features) (types : List DefType) where
  pub function_of_extern : (x : Extern ℕ) → IsValidExtern F types x → All (IsFunctionType types) (functions_in x)
  function_of_extern (func_extern x) v = All-cons (IsFunctionType types) x [] v (All-nil (IsFunctionType types))
  function_of_extern (func_exact_extern x) v = All-cons (IsFunctionType types) x [] v.0 (All-nil (IsFunctionType types))
  function_of_extern (table_extern t) v = All-nil (IsFunctionType types)
  function_of_extern (memory_extern m) v = All-nil (IsFunctionType types)
  function_of_extern (global_extern g) v = All-nil (IsFunctionType types)
  function_of_extern (tag_extern x) v = All-nil (IsFunctionType types)

  pub tag_of_extern : (x : Extern ℕ) → IsValidExtern F types x → All (IsFunctionType types) (tags_in x)
  tag_of_extern (func_extern x) v = All-nil (IsFunctionType types)
  tag_of_extern (func_exact_extern x) v = All-nil (IsFunctionType types)
  tag_of_extern (table_extern t) v = All-nil (IsFunctionType types)
  tag_of_extern (memory_extern m) v = All-nil (IsFunctionType types)
  tag_of_extern (global_extern g) v = All-nil (IsFunctionType types)
  tag_of_extern (tag_extern x) v = All-cons (IsFunctionType types) x [] v.is_of_function_type (All-nil (IsFunctionType types))

  -- what valid imports add to an index space, where each adds what is of a function type
  pub all_imported : (adds : Extern ℕ → List ℕ) → ((x : Extern ℕ) → IsValidExtern F types x → All (IsFunctionType types) (adds x))
      → (is : List (Import ℕ)) → All (IsValidImport F types) is → All (IsFunctionType types) (imported adds is)
  all_imported adds each_is [] v = All-nil (IsFunctionType types)
  all_imported adds each_is (i ∷ is) v =
      All-append (IsFunctionType types) (adds i.ty) (imported adds is) (each_is i.ty (All-head (IsValidImport F types) i is v).item) (all_imported adds each_is is (All-tail (IsValidImport F types) i is v))

-- the lists one after another, each behind those before it
module _ (F : Features) (us : List DefType) (ids : List ℕ) (types : List DefType) (s : Stand (canonical F) us ids types) (parts : Parts) where
  abbrev shown : Parts → Spaces
  shown p = spaces_of F types ids p

  abbrev C : IndexSpaces
  C = index_spaces types (up_to_tags parts)

  -- what is asked of each list
  abbrev FunctionsFit : Type 0
  FunctionsFit = All (IsFunctionType types) parts.functions × (length C.functions ≤ most_functions)

  abbrev TablesFit : Type 0
  TablesFit = All (IsValidTableEntry F types) parts.tables × (length C.tables ≤ most_tables F)

  abbrev MemoriesFit : Type 0
  MemoriesFit = All (IsValidMemory F) parts.memories × (length C.memories ≤ most_memories F)

  abbrev TagsFit : Type 0
  TagsFit = All (IsValidTag F types) parts.tags × (length C.tags ≤ most_tags)

  abbrev ExportsFit : Type 0
  ExportsFit = All (IsValidExport F C) parts.exports × HasDistinctNames parts.exports × (effective_size C parts.imports parts.exports < size_limit)

  abbrev ImportsFit : Type 0
  ImportsFit = AreValidImports F types parts.imports

  -- the laws of the lists, last to first
  pub exports_law : ExportsAreAdded → ImportsFit → FunctionsFit → TagsFit → StepLaw (add_exports F us (shown (up_to_tags parts)) parts.exports) ExportsFit (shown (listed_parts parts))
  exports_law added i f g =
      let functions = All-append (IsFunctionType types) (imported functions_in parts.imports) parts.functions (all_imported F types functions_in (function_of_extern F types) parts.imports i.valid) f.0 in
      let of_tags = for_each (IsValidTag F types) (IsFunctionType types) parts.tags (λ x (v : IsValidTag F types x). v.is_of_function_type) g.0 in
      let tags = All-append (IsFunctionType types) (imported tags_in parts.imports) parts.tags (all_imported F types tags_in (tag_of_extern F types) parts.imports i.valid) of_tags in
      added F us ids types s (up_to_tags parts) refl functions tags i.size parts.exports

  abbrev from_tags : Spaces → Option Spaces
  from_tags d = option_and_then (λ e. add_exports F us e parts.exports) (add_tags F us d parts.tags)

  tags_law : ExportsAreAdded → ImportsFit → FunctionsFit → StepLaw (from_tags (shown (up_to_memories parts))) (TagsFit × ExportsFit) (shown (listed_parts parts))
  tags_law added i f =
      then_law (add_tags F us (shown (up_to_memories parts)) parts.tags) (shown (up_to_tags parts)) (λ e. add_exports F us e parts.exports) (shown (listed_parts parts))
      (tags_are_added F us ids types s (up_to_memories parts) refl refl (alone (imported tags_in parts.imports) most_tags i.few_tags) parts.tags)
      (exports_law added i f)

  abbrev from_memories : Spaces → Option Spaces
  from_memories c = option_and_then from_tags (add_memories F c parts.memories)

  memories_law : ExportsAreAdded → ImportsFit → FunctionsFit → StepLaw (from_memories (shown (up_to_tables parts))) (MemoriesFit × (TagsFit × ExportsFit)) (shown (listed_parts parts))
  memories_law added i f =
      then_law (add_memories F (shown (up_to_tables parts)) parts.memories) (shown (up_to_memories parts)) from_tags (shown (listed_parts parts))
      (memories_are_added F ids types (up_to_tables parts) refl refl (alone (imported memories_in parts.imports) (most_memories F) i.few_memories) parts.memories)
      (λ m. tags_law added i f)

  abbrev from_tables : Spaces → Option Spaces
  from_tables b = option_and_then from_memories (add_tables F us b parts.tables)

  tables_law : ExportsAreAdded → HasNoInitializer parts → ImportsFit → FunctionsFit → StepLaw (from_tables (shown (up_to_functions parts))) (TablesFit × (MemoriesFit × (TagsFit × ExportsFit))) (shown (listed_parts parts))
  tables_law added none i f =
      then_law (add_tables F us (shown (up_to_functions parts)) parts.tables) (shown (up_to_tables parts)) from_memories (shown (listed_parts parts))
      (tables_are_added F us ids types s (up_to_functions parts) refl refl (alone (imported tables_in parts.imports) (most_tables F) i.few_tables) parts.tables none.tables)
      (λ t. memories_law added i f)

  abbrev from_functions : Spaces → Option Spaces
  from_functions a = option_and_then from_tables (add_functions us a parts.functions)

  abbrev DefinitionsFit : Type 0
  DefinitionsFit = FunctionsFit × (TablesFit × (MemoriesFit × (TagsFit × ExportsFit)))

  functions_law : ExportsAreAdded → HasNoInitializer parts → ImportsFit → StepLaw (from_functions (shown (only_imports parts.imports))) DefinitionsFit (shown (listed_parts parts))
  functions_law added none i =
      then_law (add_functions us (shown (only_imports parts.imports)) parts.functions) (shown (up_to_functions parts)) from_tables (shown (listed_parts parts))
      (functions_are_added F us ids types s (only_imports parts.imports) refl refl (alone (imported functions_in parts.imports) most_functions i.few_functions) parts.functions)
      (tables_law added none i)

  lists_law : ImportsAreAdded → ExportsAreAdded → HasNoInitializer parts → StepLaw (add_lists F us (only_types ids) parts) (ImportsFit × DefinitionsFit) (shown (listed_parts parts))
  lists_law imports_added exports_added none =
      then_law (add_imports F us (only_types ids) parts.imports) (shown (only_imports parts.imports)) from_functions (shown (listed_parts parts))
      (imports_added F us ids types s parts.imports)
      (functions_law exports_added none)

  -- these are the rules of the lists
  valid_from : ImportsFit × DefinitionsFit → AreValidLists F C parts
  valid_from h =
      let i = h.0 in
      let d = h.1 in record {
        imports = i.valid;
        functions = d.0.0;
        tables = d.1.0.0;
        memories = d.1.1.0.0;
        tags = d.1.1.1.0.0;
        exports = d.1.1.1.1.0;
        export_names = d.1.1.1.1.1;
        size = d.1.1.1.1.2;
        few_functions = d.0.1;
        few_tables = d.1.0.1;
        few_memories = d.1.1.0.1;
        few_globals = alone (imported globals_in parts.imports) most_globals i.few_globals;
        few_tags = d.1.1.1.0.1;
      }

  small_imports : (n m : ℕ) → 1 + (n + m) < size_limit → 1 + (n + 0) < size_limit
  small_imports n m small = omega (arith, small)

  imports_fit : AreValidLists F C parts → ImportsFit
  imports_fit v = record {
    valid = v.imports;
    size = small_imports (sum (map (import_size types) parts.imports)) (sum (map (export_size C) parts.exports)) v.size;
    few_functions = front (imported functions_in parts.imports) parts.functions most_functions v.few_functions;
    few_tables = front (imported tables_in parts.imports) (map table_type parts.tables) (most_tables F) v.few_tables;
    few_memories = front (imported memories_in parts.imports) parts.memories (most_memories F) v.few_memories;
    few_globals = front (imported globals_in parts.imports) [] most_globals v.few_globals;
    few_tags = front (imported tags_in parts.imports) parts.tags most_tags v.few_tags;
  }

  pub fit_from : AreValidLists F C parts → ImportsFit × DefinitionsFit
  fit_from v = (imports_fit v, ((v.functions, v.few_functions), ((v.tables, v.few_tables), ((v.memories, v.few_memories), ((v.tags, v.few_tags), (v.exports, v.export_names, v.size))))))

  -- globals aside, these are the index spaces of the module
  same_spaces : HasNoInitializer parts → C ≡ index_spaces types parts
  same_spaces none = λ i. record (index_spaces types parts) { globals = imported globals_in parts.imports ++ map global_type (sym none.globals i) }

-- All lists are added where they are valid.
pub valid_lists_are_added : ValidListsAreAdded
valid_lists_are_added F us ids types s parts none =
    let o = add_lists F us (only_types ids) parts in
    let shown = spaces_of F types ids (listed_parts parts) in
    subst
    (λ (D : IndexSpaces). StepLaw o (AreValidLists F D parts) shown)
    (same_spaces F us ids types s parts none)
    (law_as o shown (valid_from F us ids types s parts) (fit_from F us ids types s parts) (lists_law F us ids types s parts imports_are_added exports_are_added none))
