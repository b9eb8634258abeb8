-- The lists of a module with the items of one more section.
use Rattle.std.proofs.Common.{◌≡◌, refl, sym, ap, subst, ◌∙◌, ℕ, ◌+◌, ◌≤◌, Bool, List, [], ◌∷◌, ◌++◌, map, length, Option, arith, append-nil, length-append}
use Rattle.std.specs.List.{All}
use Rattle.std.proofs.lemmas.List.{length-map, map-append}
use Rattle.std.proofs.lemmas.List.Concat.{flat_map-append}
use Rattle.std.proofs.lemmas.List.Elements.{All-nil, All-cons, All-head, All-tail, All-append, All-map}
use Rattle.wasm_spec.specs.Syntax.{Ref, Table, Memory, Global, Extern, func_extern, func_exact_extern, table_extern, memory_extern, global_extern, tag_extern}
use Rattle.wasm_spec.specs.BinaryModules.{Import, Export}
use Rattle.wasm_spec.specs.BinarySections.{TableEntry, GlobalEntry}
use Rattle.wasm_spec.specs.Features.{Features}
use Rattle.wasm_spec.specs.Trees.{DefType}
use Rattle.wasm_spec_rules.specs.Contexts.{exact_in}
use Rattle.wasm_spec_rules.specs.IndexSpaces.{IndexSpaces, functions_in, tables_in, memories_in, globals_in, tags_in, imported, table_type, global_type, IsFunctionType, IsRefInRange, IsValInRange}
use Rattle.wasm_spec_rules.specs.ItemRules.{IsValidTableEntry, IsValidTag, IsValidGlobal}
use Rattle.wasm_spec_rules.specs.Limits.{most_functions, most_tables, most_memories, most_globals, most_tags}
use Rattle.wasm_spec_rules.specs.LinkRules.{IsValidExtern, export_name, IsValidExport}
use Rattle.wasm_spec_rules.specs.Parts.{Parts, Expression}
use Rattle.wasm_readers_types.specs.WasmReadersValues.declared.indices.UnpackedIndex.{UnpackedIndex}
use Rattle.wasm_validator_types.specs.Spaces.{Spaces, no_spaces}
use Rattle.wasm_validator_states.specs.WasmValidatorSections.WasmValidatorCore.Answers.{TypesSoFar}
use Rattle.wasm_validator_states.specs.WasmValidatorSections.WasmLawsCore.Exports.{AreApart, HasSpaces, FitExports, with_exports}
use Rattle.wasm_validator_states.specs.WasmValidatorSections.WasmLawsCore.Imports.{KeepsLimits, FitsImport, with_entry}
use Rattle.wasm_validator_states.specs.WasmValidatorSections.WasmLawsCore.ModuleParts.{listed_table, listed_global, entity_in, as_exported, exported_as, export_row, exported_row, export_rows}
use Rattle.wasm_validator_states.proofs.WasmValidatorSections.WasmLawsCore.AddedItems.{for_each}
use Rattle.wasm_validator_states.proofs.WasmValidatorSections.WasmLawsCore.ExportNames.{row_names, no_names, names_append}
use Rattle.wasm_laws_sections.specs.StateInvariants.{AreHeld, ShowsIndices, ShowsTables, ShowsMemories, ShowsGlobals, Shows}
use Rattle.wasm_laws_sections.proofs.HeldTypes.{no_types}

mapped : {X Y Z : Type 0} (f : Y → Z) (g : X → Y) (xs : List X) → map (λ x. f (g x)) xs ≡ map f (map g xs)
mapped f g [] = refl
mapped f g (x ∷ xs) = λ i. f (g x) ∷ mapped f g xs i

-- one kind of item behind others
module _ (types : List DefType) where
  indices_behind : (most : ℕ) (xs ys zs : List ℕ) → ShowsIndices most types xs ys → All (IsFunctionType types) zs → length xs + length zs ≤ most → ShowsIndices most types (xs ++ zs) (ys ++ zs)
  indices_behind most xs ys zs h a few = record {
    same = ap (λ ws. ws ++ zs) h.same;
    of_functions = All-append (IsFunctionType types) ys zs h.of_functions a;
    few = let many = length-append xs zs in omega (arith, few, many);
  }

  abbrev IsTableInRange : Table ℕ → Type 0
  IsTableInRange t = IsRefInRange types t.element

  abbrev IsGlobalInRange : Global ℕ → Type 0
  IsGlobalInRange g = IsValInRange types g.content

  tables_behind : (F : Features) (ids : List ℕ) (xs : List (Table UnpackedIndex)) (ys zs : List (Table ℕ)) → ShowsTables F ids types xs ys → All IsTableInRange zs → length xs + length zs ≤ most_tables F
      → ShowsTables F ids types (xs ++ map (listed_table ids) zs) (ys ++ zs)
  tables_behind F ids xs ys zs h a few = record {
    same = ap (λ ts. ts ++ map (listed_table ids) zs) h.same ∙ sym (map-append (listed_table ids) ys zs);
    in_range = All-append IsTableInRange ys zs h.in_range a;
    few = let many = length-append xs (map (listed_table ids) zs) in let same_many = length-map zs (listed_table ids) in omega (arith, few, many, same_many);
  }

  pub globals_behind : (ids : List ℕ) (xs : List (Global UnpackedIndex)) (ys zs : List (Global ℕ)) → ShowsGlobals ids types xs ys → All IsGlobalInRange zs → length xs + length zs ≤ most_globals
      → ShowsGlobals ids types (xs ++ map (listed_global ids) zs) (ys ++ zs)
  globals_behind ids xs ys zs h a few = record {
    same = ap (λ gs. gs ++ map (listed_global ids) zs) h.same ∙ sym (map-append (listed_global ids) ys zs);
    in_range = All-append IsGlobalInRange ys zs h.in_range a;
    few = let many = length-append xs (map (listed_global ids) zs) in let same_many = length-map zs (listed_global ids) in omega (arith, few, many, same_many);
  }

memories_behind : (F : Features) (xs ys zs : List Memory) → ShowsMemories F xs ys → length xs + length zs ≤ most_memories F → ShowsMemories F (xs ++ zs) (ys ++ zs)
memories_behind F xs ys zs h few = record { same = ap (λ ms. ms ++ zs) h.same; few = let many = length-append xs zs in omega (arith, few, many) }

-- what a valid external type adds
module _ (F : Features) (types : List DefType) where
  functions_valid : (x : Extern ℕ) → IsValidExtern F types x → All (IsFunctionType types) (functions_in x)
  functions_valid (func_extern x) v = All-cons (IsFunctionType types) x [] v (All-nil (IsFunctionType types))
  functions_valid (func_exact_extern x) v = All-cons (IsFunctionType types) x [] v.0 (All-nil (IsFunctionType types))
  functions_valid (table_extern t) v = All-nil (IsFunctionType types)
  functions_valid (memory_extern m) v = All-nil (IsFunctionType types)
  functions_valid (global_extern g) v = All-nil (IsFunctionType types)
  functions_valid (tag_extern x) v = All-nil (IsFunctionType types)

  tags_valid : (x : Extern ℕ) → IsValidExtern F types x → All (IsFunctionType types) (tags_in x)
  tags_valid (func_extern x) v = All-nil (IsFunctionType types)
  tags_valid (func_exact_extern x) v = All-nil (IsFunctionType types)
  tags_valid (table_extern t) v = All-nil (IsFunctionType types)
  tags_valid (memory_extern m) v = All-nil (IsFunctionType types)
  tags_valid (global_extern g) v = All-nil (IsFunctionType types)
  tags_valid (tag_extern x) v = All-cons (IsFunctionType types) x [] v.is_of_function_type (All-nil (IsFunctionType types))

  tables_valid : (x : Extern ℕ) → IsValidExtern F types x → All (IsTableInRange types) (tables_in x)
  tables_valid (func_extern x) v = All-nil (IsTableInRange types)
  tables_valid (func_exact_extern x) v = All-nil (IsTableInRange types)
  tables_valid (table_extern t) v = All-cons (IsTableInRange types) t [] v.element.in_range (All-nil (IsTableInRange types))
  tables_valid (memory_extern m) v = All-nil (IsTableInRange types)
  tables_valid (global_extern g) v = All-nil (IsTableInRange types)
  tables_valid (tag_extern x) v = All-nil (IsTableInRange types)

  globals_valid : (x : Extern ℕ) → IsValidExtern F types x → All (IsGlobalInRange types) (globals_in x)
  globals_valid (func_extern x) v = All-nil (IsGlobalInRange types)
  globals_valid (func_exact_extern x) v = All-nil (IsGlobalInRange types)
  globals_valid (table_extern t) v = All-nil (IsGlobalInRange types)
  globals_valid (memory_extern m) v = All-nil (IsGlobalInRange types)
  globals_valid (global_extern g) v = All-cons (IsGlobalInRange types) g [] v.0.content.in_range (All-nil (IsGlobalInRange types))
  globals_valid (tag_extern x) v = All-nil (IsGlobalInRange types)

exact_of : (x : Extern ℕ) → length (exact_in x) ≡ length (functions_in x)
exact_of (func_extern x) = refl
exact_of (func_exact_extern x) = refl
exact_of (table_extern t) = refl
exact_of (memory_extern m) = refl
exact_of (global_extern g) = refl
exact_of (tag_extern x) = refl

-- what one more import adds
import_behind : {X : Type 0} (adds : Extern ℕ → List X) (is : List (Import ℕ)) (i : Import ℕ) → imported adds (is ++ i ∷ []) ≡ imported adds is ++ adds i.ty
import_behind adds is i = flat_map-append (λ (j : Import ℕ). adds j.ty) is (i ∷ []) ∙ ap (λ xs. imported adds is ++ xs) (append-nil (adds i.ty))

-- the names of exports that are valid
rows_named : (F : Features) (ids : List ℕ) (C : IndexSpaces) (flags : List Bool) (es : List Export) → All (IsValidExport F C) es → row_names (export_rows F ids C flags es) ≡ map export_name es
rows_named F ids C flags [] a = refl
rows_named F ids C flags (e ∷ es) a =
    let v = All-head (IsValidExport F C) e es a in
    let one : exported_row F ids C flags e ≡ (e.name, entity_in ids (as_exported F flags e.index v.item)) ∷ [] = ap (λ (o : Option (Extern ℕ)). export_row ids e.name (exported_as F flags e.index o)) v.exports in
    names_append (exported_row F ids C flags e) (export_rows F ids C flags es)
    ∙ (λ i. row_names (one i) ++ rows_named F ids C flags es (All-tail (IsValidExport F C) e es a) i)

-- a module of which nothing has been read
abbrev pub nothing_shown : IndexSpaces
nothing_shown = record { types = []; functions = []; tables = []; memories = []; globals = []; tags = [] }

abbrev pub no_parts : Parts
no_parts = record {
  groups = [];
  imports = [];
  functions = [];
  tables = [];
  memories = [];
  tags = [];
  globals = [];
  exports = [];
  starts = [];
  elements = [];
  data_counts = [];
  bodies = [];
  segments = [];
}

pub begun_shown : (F : Features) (us : TypesSoFar) → AreHeld F us → Shows F us no_spaces nothing_shown no_parts
begun_shown F us h = record {
  types = no_types F us h;
  functions = record { same = refl; of_functions = All-nil (IsFunctionType []); few = omega arith };
  tables = record { same = refl; in_range = All-nil (IsTableInRange []); few = omega arith };
  memories = record { same = refl; few = omega arith };
  globals = record { same = refl; in_range = All-nil (IsGlobalInRange []); few = omega arith };
  tags = record { same = refl; of_functions = All-nil (IsFunctionType []); few = omega arith };
  exports = record { names = no_names; small = omega arith };
  imported = record { same = refl; defined = omega arith; imported = refl };
}

module _ (F : Features) (us : TypesSoFar) (m : Spaces) (C : IndexSpaces) (parts : Parts) (h : Shows F us m C parts) where
  -- what the laws of exports and of imports ask
  pub has_spaces : HasSpaces C m
  has_spaces = record {
    functions = h.functions.same;
    tables = h.tables.same;
    memories = h.memories.same;
    globals = h.globals.same;
    tags = h.tags.same;
    function_types = h.functions.of_functions;
    tag_types = h.tags.of_functions;
    names = h.exports.names;
    size = h.exports.small;
  }

  pub keeps_limits : KeepsLimits F m
  keeps_limits = record { few_functions = h.functions.few; few_tables = h.tables.few; few_memories = h.memories.few; few_globals = h.globals.few; few_tags = h.tags.few }

  -- one more import
  abbrev pub with_extern : Extern ℕ → IndexSpaces
  with_extern x = record C {
    functions = C.functions ++ functions_in x;
    tables = C.tables ++ tables_in x;
    memories = C.memories ++ memories_in x;
    globals = C.globals ++ globals_in x;
    tags = C.tags ++ tags_in x;
  }

  pub import_shown : (i : Import ℕ) → FitsImport F C.types m i → Shows F us (with_entry m.types C.types m i) (with_extern i.ty) (record parts { imports = parts.imports ++ i ∷ [] })
  import_shown i fits =
      let v = fits.0 in
      let room = fits.1.0 in
      record {
        types = h.types;
        functions = indices_behind C.types most_functions m.functions C.functions (functions_in i.ty) h.functions (functions_valid F C.types i.ty v.item) room.few_functions;
        tables = tables_behind C.types F m.types m.tables C.tables (tables_in i.ty) h.tables (tables_valid F C.types i.ty v.item) room.few_tables;
        memories = memories_behind F m.memories C.memories (memories_in i.ty) h.memories room.few_memories;
        globals = globals_behind C.types m.types m.globals C.globals (globals_in i.ty) h.globals (globals_valid F C.types i.ty v.item) room.few_globals;
        tags = indices_behind C.types most_tags m.tags C.tags (tags_in i.ty) h.tags (tags_valid F C.types i.ty v.item) room.few_tags;
        exports = record { names = h.exports.names; small = fits.1.1 };
        imported = record {
          same = ap (λ bs. bs ++ exact_in i.ty) h.imported.same ∙ sym (import_behind exact_in parts.imports i);
          defined =
              let before = h.imported.defined in
              let flags = length-append m.imported_functions (exact_in i.ty) in
              let same_many = exact_of i.ty in
              let all = length-append C.functions (functions_in i.ty) in
              omega (arith, before, flags, same_many, all);
          imported = ap (λ k. k + length (globals_in i.ty)) h.imported.imported ∙ sym (ap length (import_behind globals_in parts.imports i) ∙ length-append (imported globals_in parts.imports) (globals_in i.ty));
        };
      }

  pub functions_shown : (xs : List ℕ) → All (IsFunctionType C.types) xs → length m.functions + length xs ≤ most_functions
      → Shows F us (record m { functions = m.functions ++ xs }) (record C { functions = C.functions ++ xs }) (record parts { functions = parts.functions ++ xs })
  functions_shown xs a few = record {
    types = h.types;
    functions = indices_behind C.types most_functions m.functions C.functions xs h.functions a few;
    tables = h.tables;
    memories = h.memories;
    globals = h.globals;
    tags = h.tags;
    exports = h.exports;
    imported = record {
      same = h.imported.same;
      defined =
          let before = h.imported.defined in
          let own = length-append parts.functions xs in
          let all = length-append C.functions xs in
          omega (arith, before, own, all);
      imported = h.imported.imported;
    };
  }

  pub tables_shown : (ts : List (TableEntry Expression ℕ)) → All (IsValidTableEntry F C.types) ts → length m.tables + length ts ≤ most_tables F
      → Shows F us (record m { tables = m.tables ++ map (λ (t : TableEntry Expression ℕ). listed_table m.types t.ty) ts }) (record C { tables = C.tables ++ map table_type ts }) parts
  tables_shown ts a few = record {
    types = h.types;
    functions = h.functions;
    tables =
        subst (λ (new : List (Table UnpackedIndex)). ShowsTables F m.types C.types (m.tables ++ new) (C.tables ++ map table_type ts)) (sym (mapped (listed_table m.types) table_type ts))
        (tables_behind C.types F m.types m.tables C.tables (map table_type ts) h.tables
        (All-map (IsTableInRange C.types) table_type ts
        (for_each (IsValidTableEntry F C.types) (λ (t : TableEntry Expression ℕ). IsTableInRange C.types t.ty) ts (λ t (v : IsValidTableEntry F C.types t). v.ty.element.in_range) a))
        (let same_many = length-map ts table_type in omega (arith, few, same_many)));
    memories = h.memories;
    globals = h.globals;
    tags = h.tags;
    exports = h.exports;
    imported = h.imported;
  }

  pub memories_shown : (ms : List Memory) → length m.memories + length ms ≤ most_memories F → Shows F us (record m { memories = m.memories ++ ms }) (record C { memories = C.memories ++ ms }) parts
  memories_shown ms few = record {
    types = h.types;
    functions = h.functions;
    tables = h.tables;
    memories = memories_behind F m.memories C.memories ms h.memories few;
    globals = h.globals;
    tags = h.tags;
    exports = h.exports;
    imported = h.imported;
  }

  pub tags_shown : (xs : List ℕ) → All (IsValidTag F C.types) xs → length m.tags + length xs ≤ most_tags → Shows F us (record m { tags = m.tags ++ xs }) (record C { tags = C.tags ++ xs }) parts
  tags_shown xs a few = record {
    types = h.types;
    functions = h.functions;
    tables = h.tables;
    memories = h.memories;
    globals = h.globals;
    tags = indices_behind C.types most_tags m.tags C.tags xs h.tags (for_each (IsValidTag F C.types) (IsFunctionType C.types) xs (λ x (v : IsValidTag F C.types x). v.is_of_function_type) a) few;
    exports = h.exports;
    imported = h.imported;
  }

  abbrev IsValidEntry : GlobalEntry Expression ℕ → Type 0
  IsValidEntry g = IsValidGlobal F C.types g.ty

  pub globals_shown : (gs : List (GlobalEntry Expression ℕ)) → All (λ (g : GlobalEntry Expression ℕ). IsValidGlobal F C.types g.ty) gs → length m.globals + length gs ≤ most_globals
      → Shows F us (record m { globals = m.globals ++ map (λ (g : GlobalEntry Expression ℕ). listed_global m.types g.ty) gs }) (record C { globals = C.globals ++ map global_type gs }) parts
  globals_shown gs a few = record {
    types = h.types;
    functions = h.functions;
    tables = h.tables;
    memories = h.memories;
    globals =
        subst (λ (new : List (Global UnpackedIndex)). ShowsGlobals m.types C.types (m.globals ++ new) (C.globals ++ map global_type gs)) (sym (mapped (listed_global m.types) global_type gs))
        (globals_behind C.types m.types m.globals C.globals (map global_type gs) h.globals
        (All-map (IsGlobalInRange C.types) global_type gs
        (for_each IsValidEntry (λ (g : GlobalEntry Expression ℕ). IsGlobalInRange C.types g.ty) gs (λ g (v : IsValidEntry g). v.content.in_range) a))
        (let same_many = length-map gs global_type in omega (arith, few, same_many)));
    tags = h.tags;
    exports = h.exports;
    imported = h.imported;
  }

  -- a global behind those that are there
  pub global_shown : (g : GlobalEntry Expression ℕ) → IsValidGlobal F C.types g.ty → length m.globals + 1 ≤ most_globals
      → Shows F us (record m { globals = m.globals ++ listed_global m.types g.ty ∷ [] }) (record C { globals = C.globals ++ g.ty ∷ [] }) parts
  global_shown g v few = record {
    types = h.types;
    functions = h.functions;
    tables = h.tables;
    memories = h.memories;
    globals = globals_behind C.types m.types m.globals C.globals (g.ty ∷ []) h.globals (All-cons (IsGlobalInRange C.types) g.ty [] v.content.in_range (All-nil (IsGlobalInRange C.types))) few;
    tags = h.tags;
    exports = h.exports;
    imported = h.imported;
  }

  pub exports_shown : (es : List Export) → All (IsValidExport F C) es → FitExports C m es → Shows F us (with_exports F C m es) C parts
  exports_shown es a fit = record {
    types = h.types;
    functions = h.functions;
    tables = h.tables;
    memories = h.memories;
    globals = h.globals;
    tags = h.tags;
    exports = record {
      names = subst AreApart
          (sym (names_append m.exports (export_rows F m.types C m.imported_functions es) ∙ ap (λ ns. row_names m.exports ++ ns) (rows_named F m.types C m.imported_functions es a)))
          fit.names;
      small = fit.size;
    };
    imported = h.imported;
  }

  -- element segments are not among these lists
  pub elements_shown : (rs : List (Ref UnpackedIndex)) → Shows F us (record m { elements = rs }) C parts
  elements_shown rs = record {
    types = h.types;
    functions = h.functions;
    tables = h.tables;
    memories = h.memories;
    globals = h.globals;
    tags = h.tags;
    exports = h.exports;
    imported = h.imported;
  }
