-- A section of imports adds them one by one, where each is valid and fits behind those before it.
use Rattle.std.proofs.Common.{◌≡◌, refl, sym, ap, ◌∙◌, ℕ, ◌+◌, cond, leb, List, [], ◌∷◌, map, length, Option, Some, None, arith, length-append}
use Rattle.std.specs.Option.{option_and_then}
use Rattle.std.proofs.lemmas.Bool.{leb-true, le-leb}
use Rattle.std.proofs.lemmas.List.{length-map}
use Rattle.std.proofs.lemmas.Option.{same_Some}
use Rattle.wasm_spec.specs.BinaryModules.{Import, map_import}
use Rattle.wasm_spec.specs.Features.{Features, canonical}
use Rattle.wasm_spec.specs.Trees.{DefType}
use Rattle.wasm_spec_rules.specs.FeatureFlags.{features_of}
use Rattle.wasm_spec_rules.specs.IndexSpaces.{functions_in, tables_in, memories_in, globals_in, tags_in}
use Rattle.wasm_spec_rules.specs.Parts.{index, section_imports}
use Rattle.wasm_spec_rules.specs.Sections.{each}
use Rattle.wasm_spec_rules.specs.Limits.{most_imports}
use Rattle.wasm_spec_rules.proofs.Tests.{then_some, guarded}
use Rattle.wasm_readers.specs.WrittenIndices.{written}
use Rattle.wasm_validator_sections.specs.WasmValidatorChecks.Laws.{Stand}
use Rattle.wasm_validator_types.specs.Spaces.{Spaces}
use Rattle.wasm_validator_sections.specs.WasmValidatorCore.Answers.{TypesSoFar}
use Rattle.wasm_validator_sections.specs.WasmValidatorCore.Items.{add_import}
use Rattle.wasm_validator_sections.specs.WasmLawsCore.Imports.{KeepsLimits, FitsImport, with_entry}
use Rattle.wasm_validator_sections.specs.WasmLawsCore.ModuleParts.{listed_table, listed_global}
use Rattle.wasm_validator_sections.proofs.WasmLawsCore.AddedImports.{one_import_is_added}
use Rattle.wasm_validator_sections.proofs.WasmLawsCore.AddedItems.{each_changed}
use Rattle.wasm_validator_sections.specs.Machine.{import_items}
use Rattle.wasm_validator_states.specs.SectionLaws.{AddsEach, ImportsAdd}
use Rattle.wasm_validator_sections.proofs.ImportEntries.{counted_imports, section_of_imports}
use Rattle.wasm_validator_states.proofs.SectionLaws.{moved_from, moved_to, at_module}

module _ (F : Features) (us : TypesSoFar) (ids : List ℕ) (types : List DefType) (stand : Stand (canonical F) us ids types) where
  abbrev next : Spaces → Import ℕ → Spaces
  next s i = with_entry ids types s i

  abbrev add : Spaces → Import ℕ → Option Spaces
  add s i = add_import F us s (map_import written i)

  -- lists with an import that fits keep their limits
  keeps : (s : Spaces) (i : Import ℕ) → FitsImport F types s i → KeepsLimits F (next s i)
  keeps s i h =
      let room = h.1.0 in
      let functions = room.few_functions in
      let tables = room.few_tables in
      let memories = room.few_memories in
      let globals = room.few_globals in
      let tags = room.few_tags in
      let f = length-append s.functions (functions_in i.ty) in
      let t = length-append s.tables (map (listed_table s.types) (tables_in i.ty)) in
      let ts = length-map (tables_in i.ty) (listed_table s.types) in
      let m = length-append s.memories (memories_in i.ty) in
      let g = length-append s.globals (map (listed_global s.types) (globals_in i.ty)) in
      let gs = length-map (globals_in i.ty) (listed_global s.types) in
      let e = length-append s.tags (tags_in i.ty) in
      record {
        few_functions = omega (arith, functions, f);
        few_tables = omega (arith, tables, t, ts);
        few_memories = omega (arith, memories, m);
        few_globals = omega (arith, globals, g, gs);
        few_tags = omega (arith, tags, e);
      }

  each_fits : (is : List (Import ℕ)) (s t : Spaces) → s.types ≡ ids → KeepsLimits F s → each add s is ≡ Some t → AddsEach (FitsImport F types) next s is t
  each_fits [] s t same few e = same_Some s t e
  each_fits (i ∷ is) s t same few e =
      let a = then_some (λ u. each add u is) (add s i) t e in
      let one = (one_import_is_added F us ids types stand s same few i a.0).0 a.1 in
      (one.0, each_fits is (next s i) t same (keeps s i one.0) (ap (λ u. each add u is) one.1 ∙ a.2))

  fits_each : (is : List (Import ℕ)) (s t : Spaces) → s.types ≡ ids → KeepsLimits F s → AddsEach (FitsImport F types) next s is t → each add s is ≡ Some t
  fits_each [] s t same few h = ap Some h
  fits_each (i ∷ is) s t same few h =
      ap (option_and_then (λ u. each add u is)) ((one_import_is_added F us ids types stand s same few i (next s i)).1 (h.0, refl))
      ∙ fits_each is (next s i) t same (keeps s i h.0) h.1

pub imports_add : ImportsAdd
imports_add old new us m n types count bytes r few =
    let F = features_of old.features in
    let section = import_items F us count bytes m in
    let read = section_imports index F.compact_imports count bytes in
    let imports = section_of_imports F us count bytes m in (
      λ e. let a = moved_from old new us n section (sym (at_module old us m n 2 count bytes r.stage) ∙ e) in
          let b = then_some (counted_imports F us count m) read a.0 (sym imports ∙ a.1) in
          let c = guarded (leb (length m.imports + count) most_imports) (each (add_import F us) m (map (map_import written) b.0)) a.0 b.2 in
          record {
            items = b.0;
            read = b.1;
            few = leb-true (length m.imports + count) most_imports c.0;
            lists = a.0;
            added = each_fits F us m.types types r.stand b.0 m a.0 refl few (sym (each_changed (add_import F us) (map_import written) m b.0) ∙ c.1);
            after = a.2;
          },
      λ h. at_module old us m n 2 count bytes r.stage
          ∙ moved_to old new us n section h.lists
          (imports
          ∙ ap (option_and_then (counted_imports F us count m)) h.read
          ∙ ap (λ b. cond b (each (add_import F us) m (map (map_import written) h.items)) None) (le-leb (length m.imports + count) most_imports h.few)
          ∙ each_changed (add_import F us) (map_import written) m h.items
          ∙ fits_each F us m.types types r.stand h.items m h.lists refl few h.added)
          h.after,
    )
