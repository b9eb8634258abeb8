-- Sections whose items hold constant expressions add them one by one, where each is valid and typed behind those before it.
use Rattle.std.proofs.Common.{◌≡◌, refl, sym, ap, subst, ◌∙◌, ℕ, suc, ◌+◌, ◌≤◌, Bool, true, ◌&&◌, cond, leb, List, [], ◌∷◌, ◌++◌, map, length, Option, Some, None, arith, length-append}
use Rattle.std.specs.Prelude.{◌↔◌, is_some}
use Rattle.std.specs.Bool.{Decides}
use Rattle.std.specs.Option.{option_and_then}
use Rattle.std.proofs.lemmas.Bool.{leb-true, le-leb}
use Rattle.std.proofs.lemmas.Bool.Decides.{Decides-and}
use Rattle.std.proofs.lemmas.Option.{same_Some}
use Rattle.wasm_spec.specs.Values.{items_at}
use Rattle.wasm_spec.specs.Syntax.{reference, map_ref, map_val, map_table, map_global}
use Rattle.wasm_spec.specs.BinarySections.{TableEntry, GlobalEntry, Element, ElementItems, functions, expressions, table_entry_at, global_entry_at, element_at, data_at}
use Rattle.wasm_spec.specs.Features.{Features, canonical}
use Rattle.wasm_spec.specs.Trees.{DefType}
use Rattle.wasm_spec.proofs.SyntaxMaps.{map_ref-map, map_val-map, map_table-map, map_global-map}
use Rattle.wasm_spec_rules.specs.FeatureFlags.{features_of}
use Rattle.wasm_spec_rules.specs.Limits.{most_tables, most_globals, most_elements, most_segments}
use Rattle.wasm_spec_rules.specs.Parts.{Expression, index}
use Rattle.wasm_spec_rules.specs.Sections.{each}
use Rattle.wasm_spec_rules.specs.SegmentRules.{items_type}
use Rattle.wasm_spec_rules.proofs.Tests.{then_some, guarded, when}
use Rattle.wasm_readers.specs.WrittenIndices.{written}
use Rattle.wasm_validator_canonical.specs.Indices.{canonical_index}
use Rattle.wasm_validator_sections.specs.WasmValidatorChecks.Items.{is_valid_defined_table, is_valid_global}
use Rattle.wasm_validator_sections.specs.WasmValidatorChecks.Laws.{Stand}
use Rattle.wasm_validator_sections.proofs.WasmValidatorChecks.ItemTests.{defined_tables_are_decided, globals_are_decided}
use Rattle.wasm_validator_types.specs.Spaces.{Spaces}
use Rattle.wasm_validator_sections.specs.WasmValidatorCore.Answers.{TypesSoFar}
use Rattle.wasm_validator_sections.specs.WasmValidatorCore.Items.{types_of_module, with_table, with_global}
use Rattle.wasm_validator_sections.specs.WasmLawsCore.ModuleParts.{listed, listed_table, listed_global, listed_element}
use Rattle.wasm_validator_sections.proofs.WasmLawsCore.AddedItems.{each_changed}
use Rattle.wasm_validator_sections.specs.WasmLawsCore.ListedTypes.{types_declare}
use Rattle.wasm_spec_validity.specs.Expressions.{expression_at}
use Rattle.wasm_validator_sections.specs.Sections.{read_section}
use Rattle.wasm_validator_sections.specs.Entries.{is_constant_of, is_constant_or_none, are_items, may_be_placed, may_be_stored, listed_items_type, add_table_entry, add_global_entry, add_element, add_data}
use Rattle.wasm_validator_sections.specs.WasmLawsModules.Maps.{map_table_entry, map_global_entry, map_items, map_element}
use Rattle.wasm_validator_sections.specs.WasmLawsModules.OnePassSections.{EntriesAreRenamed}
use Rattle.wasm_validator_sections.specs.ModuleNotes.{Noted, naming}
use Rattle.wasm_validator_states.specs.ValidatorStages.{Standing}
use Rattle.wasm_validator_sections.specs.WasmValidatorReferences.References.{names_of_tables, names_of_globals, names_of_elements}
use Rattle.wasm_validator_states.specs.States.{after_section}
use Rattle.wasm_validator_states.specs.SectionLaws.{AddsEach, HasAddedEach, FitsTable, FitsGlobal, FitsElement, FitsData, TablesAdd, GlobalsAdd, ElementsAdd, SegmentsAdd}
use Rattle.wasm_validator_sections.proofs.SectionEntries.{Renames, limited, section_entries, renames_nothing, same_item}
use Rattle.wasm_validator_states.proofs.SectionLaws.{moved, moved_from, moved_to, at_module}

-- Items are added under a test that decides their rule, where what is kept leaves room for so many more of them.
pub record Adding {V W : Type 0} (f : V → W) (add : Spaces → W → Option Spaces) (rule : Spaces → V → Type 0) (next : Spaces → V → Spaces) (Keeps : Spaces → ℕ → Type 0) : Type 0 where
  pub test : Spaces → V → Bool
  pub place : Spaces → V → Option Spaces
  pub is : (s : Spaces) (v : V) → add s (f v) ≡ cond (test s v) (place s v) None
  pub decided : (s : Spaces) (v : V) (n : ℕ) → Keeps s (suc n) → Decides (test s v) (rule s v)
  pub placed : (s : Spaces) (v : V) (n : ℕ) → Keeps s (suc n) → place s v ≡ Some (next s v)
  pub keeps : (s : Spaces) (v : V) (n : ℕ) → Keeps s (suc n) → Keeps (next s v) n

module _ {V W : Type 0} {f : V → W} {add : Spaces → W → Option Spaces} {rule : Spaces → V → Type 0} {next : Spaces → V → Spaces} {Keeps : Spaces → ℕ → Type 0} (a : Adding f add rule next Keeps) where
  abbrev add_as : Spaces → V → Option Spaces
  add_as s v = add s (f v)

  each_fits : (vs : List V) (s t : Spaces) → Keeps s (length vs) → each add_as s vs ≡ Some t → AddsEach rule next s vs t
  each_fits [] s t k e = same_Some s t e
  each_fits (v ∷ vs) s t k e =
      let one = then_some (λ u. each add_as u vs) (add s (f v)) t e in
      let b = guarded (a.test s v) (a.place s v) one.0 (sym (a.is s v) ∙ one.1) in
      let there : next s v ≡ one.0 = same_Some (next s v) one.0 (sym (a.placed s v (length vs) k) ∙ b.1) in
      ((a.decided s v (length vs) k).0 b.0, each_fits vs (next s v) t (a.keeps s v (length vs) k) (ap (λ u. each add_as u vs) there ∙ one.2))

  fits_each : (vs : List V) (s t : Spaces) → Keeps s (length vs) → AddsEach rule next s vs t → each add_as s vs ≡ Some t
  fits_each [] s t k h = ap Some h
  fits_each (v ∷ vs) s t k h =
      ap (option_and_then (λ u. each add_as u vs)) (a.is s v ∙ when (a.test s v) (a.place s v) None ((a.decided s v (length vs) k).1 h.0) ∙ a.placed s v (length vs) k)
      ∙ fits_each vs (next s v) t (a.keeps s v (length vs) k) h.1

  module _ (reads : List ℕ → Option (V × List ℕ)) (renamed : List ℕ → Option (W × List ℕ)) (renames : Renames f reads renamed) (there most : ℕ)
      (old new : Standing) (us : TypesSoFar) (m : Spaces) (n : Noted) (count : ℕ) (bytes : List ℕ) (room : (k : ℕ) → there + k ≤ most → Keeps m k) where
    abbrev section : Option Spaces
    section = read_section renamed add there most count bytes m

    entries : section ≡ option_and_then (limited add f there most m) (items_at reads count bytes)
    entries = section_entries add f there most m reads renamed renames count bytes

    from_section : moved old new us n section ≡ Some new → HasAddedEach reads rule next there most old new us m n count bytes
    from_section e =
        let x = moved_from old new us n section e in
        let b = then_some (limited add f there most m) (items_at reads count bytes) x.0 (sym entries ∙ x.1) in
        let c = guarded (leb (there + length b.0) most) (each add m (map f b.0)) x.0 b.2 in
        let few = leb-true (there + length b.0) most c.0 in
        record {
          items = b.0;
          read = b.1;
          few = few;
          lists = x.0;
          added = each_fits b.0 m x.0 (room (length b.0) few) (sym (each_changed add f m b.0) ∙ c.1);
          after = x.2;
        }

    to_section : HasAddedEach reads rule next there most old new us m n count bytes → moved old new us n section ≡ Some new
    to_section h =
        moved_to old new us n section h.lists
        (entries
        ∙ ap (option_and_then (limited add f there most m)) h.read
        ∙ ap (λ b. cond b (each add m (map f h.items)) None) (le-leb (there + length h.items) most h.few)
        ∙ each_changed add f m h.items
        ∙ fits_each h.items m h.lists (room (length h.items) h.few) h.added)
        h.after

    pub added_section : (id : ℕ) → after_section old id count bytes ≡ moved old new us n section → (after_section old id count bytes ≡ Some new) ↔ HasAddedEach reads rule next there most old new us m n count bytes
    added_section id is = (λ e. from_section (sym is ∙ e), λ h. is ∙ to_section h)

-- one more at the end of a list, which leaves room for one less
one_more : {X : Type 0} (xs : List X) (x : X) (n most : ℕ) → length xs + suc n ≤ most → length (xs ++ x ∷ []) + n ≤ most
one_more xs x n most h = let a = length-append xs (x ∷ []) in omega (arith, a, h)

has_room : (k n most : ℕ) → k + suc n ≤ most → leb (k + 1) most ≡ true
has_room k n most h = le-leb (k + 1) most (omega (arith, h))

itself : (b : Bool) → Decides b (b ≡ true)
itself b = (λ e. e, λ e. e)

module _ (F : Features) (us : TypesSoFar) (ids : List ℕ) (types : List DefType) (stand : Stand (canonical F) us ids types) where
  abbrev TableRoom : Spaces → ℕ → Type 0
  TableRoom s n = (s.types ≡ ids) × (length s.tables + n ≤ most_tables F)

  abbrev GlobalRoom : Spaces → ℕ → Type 0
  GlobalRoom s n = (s.types ≡ ids) × (length s.globals + n ≤ most_globals)

  stands : (s : Spaces) → s.types ≡ ids → Stand (canonical F) us s.types types
  stands s e = subst (λ (is : List ℕ). Stand (canonical F) us is types) (sym e) stand

  abbrev valid_table : Spaces → TableEntry Expression ℕ → Bool
  valid_table s t = is_valid_defined_table F (types_of_module us s) (map_table written t.ty) (is_some t.init)

  abbrev typed_table : Spaces → TableEntry Expression ℕ → Bool
  typed_table s t = is_constant_or_none F (types_declare us us) s (reference (map_ref (listed s.types) t.ty.element)) t.init

  abbrev next_table : Spaces → TableEntry Expression ℕ → Spaces
  next_table s t = record s { tables = s.tables ++ listed_table s.types t.ty ∷ [] }

  pub adding_tables : Adding (map_table_entry written) (add_table_entry F (types_declare us us) us) (FitsTable F us types) next_table TableRoom
  adding_tables = record {
    test = λ s t. valid_table s t && typed_table s t;
    place = λ s t. with_table F s (listed_table s.types t.ty);
    is = λ s t i.
        cond (valid_table s t && is_constant_or_none F (types_declare us us) s (reference (map_ref-map (canonical_index s.types) written t.ty.element i)) t.init)
        (with_table F s (map_table-map (canonical_index s.types) written t.ty i)) None;
    decided = λ s t n k. Decides-and (valid_table s t) (typed_table s t) (defined_tables_are_decided F (canonical F) us s.types types (stands s k.0) t) (itself (typed_table s t));
    placed = λ s t n k. when (leb (length s.tables + 1) (most_tables F)) (Some (next_table s t)) None (has_room (length s.tables) n (most_tables F) k.1);
    keeps = λ s t n k. (k.0, one_more s.tables (listed_table s.types t.ty) n (most_tables F) k.1);
  }

  abbrev valid_global : Spaces → GlobalEntry Expression ℕ → Bool
  valid_global s g = is_valid_global F (types_of_module us s) (map_global written g.ty)

  abbrev typed_global : Spaces → GlobalEntry Expression ℕ → Bool
  typed_global s g = is_constant_of F (types_declare us us) s (map_val (listed s.types) g.ty.content) g.init

  abbrev next_global : Spaces → GlobalEntry Expression ℕ → Spaces
  next_global s g = record s { globals = s.globals ++ listed_global s.types g.ty ∷ [] }

  pub adding_globals : Adding (map_global_entry written) (add_global_entry F (types_declare us us) us) (FitsGlobal F us types) next_global GlobalRoom
  adding_globals = record {
    test = λ s g. valid_global s g && typed_global s g;
    place = λ s g. with_global s (listed_global s.types g.ty);
    is = λ s g i.
        cond (valid_global s g && is_constant_of F (types_declare us us) s (map_val-map (canonical_index s.types) written g.ty.content i) g.init)
        (with_global s (map_global-map (canonical_index s.types) written g.ty i)) None;
    decided = λ s g n k. Decides-and (valid_global s g) (typed_global s g) (globals_are_decided F (canonical F) us s.types types (stands s k.0) g.ty) (itself (typed_global s g));
    placed = λ s g n k. when (leb (length s.globals + 1) most_globals) (Some (next_global s g)) None (has_room (length s.globals) n most_globals k.1);
    keeps = λ s g n k. (k.0, one_more s.globals (listed_global s.types g.ty) n most_globals k.1);
  }

-- segments have room wherever the section keeps to the limit
abbrev Always : Spaces → ℕ → Type 0
Always s n = Unit {0}

module _ (F : Features) (us : TypesSoFar) where
  items_listed : (s : Spaces) (xs : ElementItems Expression ℕ) → listed_items_type s (map_items written xs) ≡ map_ref (listed s.types) (items_type xs)
  items_listed s (functions xs) = refl
  items_listed s (expressions r es) = map_ref-map (canonical_index s.types) written r

  abbrev fit_element : Spaces → Element Expression ℕ → Bool
  fit_element s e = are_items F (types_declare us us) s (map_items written e.items)

  abbrev placed_element : Spaces → Element Expression ℕ → Bool
  placed_element s e = may_be_placed F (types_declare us us) s (listed_element s.types e) e.mode

  abbrev next_element : Spaces → Element Expression ℕ → Spaces
  next_element s e = record s { elements = s.elements ++ listed_element s.types e ∷ [] }

  pub adding_elements : Adding (map_element written) (add_element F (types_declare us us)) (FitsElement F us) next_element Always
  adding_elements = record {
    test = λ s e. fit_element s e && placed_element s e;
    place = λ s e. Some (next_element s e);
    is = λ s e i.
        cond (fit_element s e && may_be_placed F (types_declare us us) s (items_listed s e.items i) e.mode)
        (Some (record s { elements = s.elements ++ items_listed s e.items i ∷ [] })) None;
    decided = λ s e n k. Decides-and (fit_element s e) (placed_element s e) (itself (fit_element s e)) (itself (placed_element s e));
    placed = λ s e n k. refl;
    keeps = λ s e n k. tt;
  }

  pub adding_segments : Adding same_item (add_data F (types_declare us us)) (FitsData F us) (λ s d. s) Always
  adding_segments = record {
    test = λ s d. may_be_stored F (types_declare us us) s d.mode;
    place = λ s d. Some s;
    is = λ s d. refl;
    decided = λ s d n k. itself (may_be_stored F (types_declare us us) s d.mode);
    placed = λ s d n k. refl;
    keeps = λ s d n k. tt;
  }

pub tables_add : EntriesAreRenamed → TablesAdd
tables_add renamed old new us m n types count bytes r =
    let F = features_of old.features in
    added_section (adding_tables F us m.types types r.stand) (table_entry_at expression_at index) (table_entry_at expression_at written) renamed.tables (length m.tables) (most_tables F) old new us m (naming (names_of_tables count bytes) n) count bytes (λ n few. (refl, few)) 4
    (at_module old us m n 4 count bytes r.stage)

pub globals_add : EntriesAreRenamed → GlobalsAdd
globals_add renamed old new us m n types count bytes r =
    let F = features_of old.features in
    added_section (adding_globals F us m.types types r.stand) (global_entry_at expression_at index) (global_entry_at expression_at written) renamed.globals (length m.globals) most_globals old new us m (naming (names_of_globals count bytes) n) count bytes (λ n few. (refl, few)) 6
    (at_module old us m n 6 count bytes r.stage)

pub elements_add : EntriesAreRenamed → ElementsAdd
elements_add renamed old new us m n types count bytes r =
    let F = features_of old.features in
    added_section (adding_elements F us) (element_at expression_at index) (element_at expression_at written) renamed.elements (length m.elements) most_elements old new us m (naming (names_of_elements count bytes) n) count bytes (λ n few. tt) 9
    (at_module old us m n 9 count bytes r.stage)

pub segments_add : EntriesAreRenamed → SegmentsAdd
segments_add _ old new us m n types count bytes r =
    let F = features_of old.features in
    added_section (adding_segments F us) (data_at expression_at) (data_at expression_at) (renames_nothing (data_at expression_at)) 0 most_segments old new us m n count bytes (λ n few. tt) 11
    (at_module old us m n 11 count bytes r.stage)
