-- The machine's run over the pieces between the header and the end, by the items of its sections.
use Rattle.std.proofs.Common.{◌≡◌, refl, sym, ap, subst, ◌∙◌, ℕ, ◌+◌, ◌≤◌, Bool, true, false, cond, eqb, leb, List, [], ◌∷◌, ◌++◌, map, length, append-nil, Option, Some, None, arith, inl, inr}
use Rattle.std.specs.Prelude.{◌↔◌}
use Rattle.std.specs.Option.{option_map, option_and_then}
use Rattle.std.specs.List.{All, flat_map}
use Rattle.std.proofs.lemmas.Bool.{leb-true, le-leb, and_from}
use Rattle.wasm_validator_canonical.proofs.CanonicalTypes.{and_right}
use Rattle.std.proofs.lemmas.Option.{same_Some}
use Rattle.std.proofs.lemmas.List.{length-append, length-map}
use Rattle.std.proofs.lemmas.List.Elements.{All-nil, All-cons, All-head, All-tail}
use Rattle.wasm_spec.specs.Syntax.{Rec, map_rec}
use Rattle.wasm_spec.specs.BinarySections.{table_entry_at, global_entry_at, element_at, data_at}
use Rattle.wasm_spec.specs.Values.{u32_at, items_at}
use Rattle.wasm_spec.specs.BinaryTypes.{rec_at, memory_at, tag_at}
use Rattle.wasm_spec.specs.BinaryModules.{Import, import_at, entry_at, export_at, map_import, map_entry}
use Rattle.wasm_spec.specs.Features.{Features, canonical}
use Rattle.wasm_spec.specs.TypeLaws.{HasNoRepetition}
use Rattle.wasm_spec.proofs.LawSet.{rec_renames, import_renames, entry_renames}
use Rattle.wasm_spec.specs.Framing.{Piece, Counted, Start, DataCount, place}
use Rattle.wasm_spec_rules.specs.FeatureFlags.{features_of}
use Rattle.wasm_spec_rules.specs.Limits.{most_imports, most_tables, most_memories}
use Rattle.wasm_spec_rules.specs.Sections.{each, rank, ranks, at_rank, by_rank}
use Rattle.wasm_spec_rules.specs.Parts.{Parts, HasParts, index, in_order, imports_of, all_items, starts_of, data_counts_of, bodies_of}
use Rattle.wasm_spec_rules.specs.IndexSpaces.{index_spaces, imported, functions_in, tables_in, memories_in, globals_in, tags_in, table_type, global_type}
use Rattle.wasm_spec_rules.specs.LinkRules.{IsValidStart}
use Rattle.wasm_spec_rules.specs.Modules.{IsAllowedPiece}
use Rattle.wasm_spec_rules.proofs.SectionRanks.{Follows}
use Rattle.wasm_spec_rules.proofs.Tests.{then_some, map_some, guarded, truth, when, unless}
use Rattle.wasm_readers.specs.WrittenIndices.{written}
use Rattle.wasm_readers_errors.specs.WasmReadersFeatures.declared.features.WasmFeatures.{WasmFeatures}
use Rattle.wasm_validator_type_groups.specs.Elements.{numbers_from}
use Rattle.wasm_validator_types.specs.Spaces.{Spaces, no_spaces}
use Rattle.wasm_validator_sections.specs.WasmValidatorCore.declared.limits.TheConstants.{MAX_TYPES, MAX_IMPORTS, MAX_FUNCTIONS, MAX_GLOBALS, MAX_TAGS, MAX_EXPORTS, MAX_ELEMENT_SEGMENTS, MAX_DATA_SEGMENTS}
use Rattle.wasm_validator_sections.specs.WasmValidatorCore.Answers.{TypesSoFar, HasValidTypes}
use Rattle.wasm_validator_sections.specs.WasmValidatorCore.Machine.{add_group}
use Rattle.wasm_validator_sections.specs.WasmValidatorCore.Items.{is_startable, is_data_count, add_import, add_function, add_memory, add_tag, add_export}
use Rattle.wasm_validator_sections.specs.WasmLawsCore.ModuleParts.{listed_table, listed_global, spaces_of}
use Rattle.wasm_validator_sections.specs.WasmLawsCore.Lists.{only_types, only_imports, up_to_functions, add_imports, add_functions, add_memories, add_tags, add_exports}
use Rattle.wasm_validator_sections.proofs.WasmLawsCore.AddedItems.{for_each}
use Rattle.wasm_validator_sections.proofs.WasmLawsCore.StartFunctions.{starts_are_decided}
use Rattle.wasm_validator_sections.specs.WasmLawsCore.ListedTypes.{types_declare}
use Rattle.wasm_spec_validity.specs.Expressions.{expression_at}
use Rattle.wasm_spec_validity.specs.Modules.{Numbering}
use Rattle.wasm_spec_validity.proofs.FirstAppearances.{types_are_numbered}
use Rattle.wasm_validator_sections.proofs.WasmLawsModules.SectionTypes.{sections_give_module_types}
use Rattle.wasm_validator_sections.specs.WasmLawsModules.Contexts.{HasOwnIds}
use Rattle.wasm_validator_sections.specs.Sections.{read_section}
use Rattle.wasm_validator_sections.specs.Machine.{add_entry, single_imports, entry_imports}
use Rattle.wasm_validator_sections.proofs.ItemReads.{as_many_as_counted}
use Rattle.wasm_validator_sections.proofs.ImportEntries.{each_entry}
use Rattle.wasm_validator_sections.specs.Entries.{add_table_entry, add_global_entry, add_element, add_data}
use Rattle.wasm_validator_sections.specs.WasmLawsModules.Maps.{map_table_entry, map_global_entry, map_element}
use Rattle.wasm_validator_sections.specs.WasmLawsModules.OnePassSections.{EntriesAreRenamed}
use Rattle.wasm_validator_canonical.specs.DistinctTypes.{AreApart}
use Rattle.wasm_validator_sections.specs.WasmLawsModules.Lists.{add_table_entries, add_global_entries, add_elements, add_segments, add_all_lists, up_to_tables, up_to_memories, up_to_tags, up_to_globals, up_to_exports, AreValidModuleLists}
use Rattle.wasm_validator_sections.specs.WasmLawsModules.Laws.{AreTypedConstants}
use Rattle.wasm_validator_sections.specs.Machine.{start_item, data_count_item, beside}
use Rattle.wasm_validator_states.proofs.AddedTypes.{TypesAdded, section, type_space, list_after, ids, as_many_types, runs_to, ends_at}
use Rattle.wasm_validator_sections.proofs.ItemSteps.{each_back}
use Rattle.wasm_validator_states.proofs.ModuleRun.{step, step_back, AreParts, by_sections, SectionOf, section_at, StartOf, start_at, DataCountOf, data_count_at, CodeStartOf, code_start_at, bodies_pass, ranked_items, ranked_starts, ranked_data_counts}
use Rattle.wasm_validator_sections.proofs.SectionEntries.{same_item, map_same, Renames, renames_nothing}
use Rattle.wasm_validator_states.proofs.SectionLists.{ReadAdded, step_read, read_step, each_beside, beside_each, section_beside}
use Rattle.wasm_validator_states.proofs.UsedLaws.{UsedLaws}
use Rattle.wasm_validator_states.proofs.ValidRules.{AreSmall, KeepsOthers, few_by_size}

-- What there is to know of pieces that the machine accepts: their parts, which keep to the limits, and are valid and typed.
pub record Accepted (features : WasmFeatures) (T : TypesSoFar) (ps : List Piece) : Type 0 where
  pub parts : Parts
  pub has : HasParts (features_of features).compact_imports expression_at ps parts
  pub types : TypesAdded features T parts.groups
  pub valid : AreValidModuleLists (features_of features) (index_spaces (type_space features T parts.groups types) parts) parts
  pub numbering : Numbering (type_space features T parts.groups types)
  pub typed : AreTypedConstants (features_of features) (type_space features T parts.groups types) numbering parts
  pub others : KeepsOthers (index_spaces (type_space features T parts.groups types) parts) parts

abbrev pub end_of : (features : WasmFeatures) (T : TypesSoFar) (ps : List Piece) → Accepted features T ps → TypesSoFar × Spaces
end_of features T ps a =
    (list_after features T a.parts.groups a.types, spaces_of (features_of features) (type_space features T a.parts.groups a.types) (ids features T a.parts.groups a.types) a.parts)

-- what holds of all pieces holds of those of a rank
ranked_case : (P : Piece → Type 0) (k : ℕ) (p : Piece) (ps : List Piece) → All P (p ∷ ps) → All P (at_rank k ps) → All P (at_rank k (p ∷ ps))
ranked_case P k p ps a h =
    elim (truth (eqb (rank p) k)) [
      | inl e ↦ subst (All P) (sym (when (eqb (rank p) k) (p ∷ at_rank k ps) (at_rank k ps) e)) (All-cons P p (at_rank k ps) (All-head P p ps a) h)
      | inr e ↦ subst (All P) (sym (unless (eqb (rank p) k) (p ∷ at_rank k ps) (at_rank k ps) e)) h
    ]

all_ranked : (P : Piece → Type 0) (k : ℕ) (ps : List Piece) → All P ps → All P (at_rank k ps)
all_ranked P k [] a = a
all_ranked P k (p ∷ ps) a = ranked_case P k p ps a (all_ranked P k ps (All-tail P p ps a))

-- items that are added beside the list of types, and where they lead
pub record LeftBeside {W : Type 0} (add : TypesSoFar → Spaces → W → Option Spaces) (T : TypesSoFar) (s : Spaces) (ws : List W) (u : TypesSoFar × Spaces) : Type 0 where
  pub after : Spaces
  pub ran : each (add T) s ws ≡ Some after
  pub gives : (T, after) ≡ u

left_beside : {W : Type 0} (add : TypesSoFar → Spaces → W → Option Spaces) (T : TypesSoFar) (s : Spaces) (ws : List W) (u : TypesSoFar × Spaces) → each (each_beside add) (T, s) ws ≡ Some u → LeftBeside add T s ws u
left_beside add T s ws u e =
    let a = then_some (λ (t : Spaces). Some (T, t)) (each (add T) s ws) u (sym (beside_each add ws T s) ∙ e) in
    record { after = a.0; ran = a.1; gives = same_Some (T, a.0) u a.2 }

beside_left : {W : Type 0} (add : TypesSoFar → Spaces → W → Option Spaces) (T : TypesSoFar) (s t : Spaces) (ws : List W) → each (add T) s ws ≡ Some t → each (each_beside add) (T, s) ws ≡ Some (T, t)
beside_left add T s t ws e = beside_each add ws T s ∙ ap (λ o. option_and_then (λ (u : Spaces). Some (T, u)) o) e

-- one section behind others: its items, and the state behind it
pub record OneSection {V W : Type 0} (add : TypesSoFar → Spaces → W → Option Spaces) (f : V → W) (most : ℕ) (T : TypesSoFar) (s : Spaces) (read : Option (List V)) (u : TypesSoFar × Spaces) : Type 0 where
  pub items : List V
  pub are : read ≡ Some items
  pub few : length items ≤ most
  pub after : Spaces
  pub ran : each (add T) s (map f items) ≡ Some after
  pub gives : (T, after) ≡ u

one_section_of : {V W : Type 0} (add : TypesSoFar → Spaces → W → Option Spaces) (f : V → W) (most : ℕ) (T : TypesSoFar) (s : Spaces) (read : Option (List V)) (u : TypesSoFar × Spaces) → ReadAdded (each_beside add) f most (T, s) read u → OneSection add f most T s read u
one_section_of add f most T s read u r =
    let l = left_beside add T s (map f r.items) u r.ran in
    record { items = r.items; are = r.are; few = r.few; after = l.after; ran = l.ran; gives = l.gives }

-- How a section of items is read and added, where it is among these pieces.
record Reads {V W : Type 0} (features : WasmFeatures) (ps : List Piece) (id k most : ℕ) (add : TypesSoFar → Spaces → W → Option Spaces) (f : V → W) (reads : List ℕ → Option (V × List ℕ)) (renamed : List ℕ → Option (W × List ℕ)) (there : Spaces → ℕ) : Type 0 where
  renames : Renames f reads renamed
  ranked : all_items id reads ps ≡ all_items id reads (at_rank k ps)
  section : SectionOf id (at_rank k ps)
  is : (T : TypesSoFar) (s : Spaces) (n : ℕ) (bytes : List ℕ) → at_rank k ps ≡ Counted id n bytes ∷ [] → step features (T, s) (Counted id n bytes) ≡ read_section renamed (each_beside add) (there s) most n bytes (T, s)

module _ {V W : Type 0} {features : WasmFeatures} {ps : List Piece} {id k most : ℕ} {add : TypesSoFar → Spaces → W → Option Spaces} {f : V → W} {reads : List ℕ → Option (V × List ℕ)} {renamed : List ℕ → Option (W × List ℕ)} {there : Spaces → ℕ} (r : Reads features ps id k most add f reads renamed there) (T : TypesSoFar) (s : Spaces) where
  -- from a state equal to this
  one_read : (p u : TypesSoFar × Spaces) → (T, s) ≡ p → each (step features) p (at_rank k ps) ≡ Some u → OneSection add f most T s (all_items id reads ps) u
  one_read p u same e =
      one_section_of add f most T s (all_items id reads ps) u
      (subst (λ o. ReadAdded (each_beside add) f most (T, s) o u) (sym r.ranked)
      (step_read features (each_beside add) f most id reads renamed r.renames (T, s) (there s) (at_rank k ps) r.section (r.is T s) u (ap (λ q. each (step features) q (at_rank k ps)) same ∙ e)))

  read_one : (vs : List V) (t : Spaces) → all_items id reads ps ≡ Some vs → there s + length vs ≤ most → each (add T) s (map f vs) ≡ Some t → each (step features) (T, s) (at_rank k ps) ≡ Some (T, t)
  read_one vs t are few ran =
      read_step features (each_beside add) f most id reads renamed r.renames (T, s) (there s) (at_rank k ps) r.section (r.is T s) vs (T, t) (sym r.ranked ∙ are) few (beside_left add T s t (map f vs) ran)

module _ (entries : EntriesAreRenamed) (features : WasmFeatures) (ps : List Piece) (parts : AreParts ps) (follows : Follows ranks ps) (allowed : All (IsAllowedPiece (features_of features)) ps) where
  abbrev F : Features
  F = features_of features

  -- where exceptions are there, so may tags be
  tags_need : (n : ℕ) (bytes : List ℕ) → at_rank 6 ps ≡ Counted 13 n bytes ∷ [] → F.exceptions ≡ true
  tags_need n bytes e =
      let here = All-head (IsAllowedPiece F) (Counted 13 n bytes) [] (subst (All (IsAllowedPiece F)) e (all_ranked (IsAllowedPiece F) 6 ps allowed)) in
      here.0 refl

  -- the groups
  read_groups : (s u : TypesSoFar × Spaces) → each (step features) s (at_rank 1 ps) ≡ Some u → ReadAdded (add_group features) (map_rec written) MAX_TYPES s (all_items 1 (rec_at index) ps) u
  unfolding place
  read_groups s u e =
      subst (λ o. ReadAdded (add_group features) (map_rec written) MAX_TYPES s o u) (sym (ranked_items 1 (rec_at index) ps))
      (step_read features (add_group features) (map_rec written) MAX_TYPES 1 (rec_at index) (rec_at written) (rec_renames written index) s (length s.1.types) (at_rank 1 ps) (section_at ps parts follows 1 ((λ h. cc), (λ h. cc), (λ h. cc), (λ h. cc)) (λ h. cc)) (λ n bytes h. refl) u e)

  groups_read : (s u : TypesSoFar × Spaces) (gs : List (Rec ℕ)) → all_items 1 (rec_at index) ps ≡ Some gs → length s.1.types + length gs ≤ MAX_TYPES → each (add_group features) s (map (map_rec written) gs) ≡ Some u → each (step features) s (at_rank 1 ps) ≡ Some u
  unfolding place
  groups_read s u gs are few ran =
      read_step features (add_group features) (map_rec written) MAX_TYPES 1 (rec_at index) (rec_at written) (rec_renames written index) s (length s.1.types) (at_rank 1 ps) (section_at ps parts follows 1 ((λ h. cc), (λ h. cc), (λ h. cc), (λ h. cc)) (λ h. cc)) (λ n bytes h. refl) gs u (sym (ranked_items 1 (rec_at index) ps) ∙ are) few ran

  -- the sections that leave the list of types

  -- entries that are one import each, and entries that may be several
  singles_are : F.compact_imports ≡ false → Reads features ps 2 2 MAX_IMPORTS (λ us. add_import F us) (map_import written) (import_at index) (import_at written) (λ (s : Spaces). length s.imports)
  unfolding place
  singles_are off = record {
    renames = import_renames written index;
    ranked = ranked_items 2 (import_at index) ps;
    section = section_at ps parts follows 2 ((λ h. cc), (λ h. cc), (λ h. cc), (λ h. cc)) (λ h. cc);
    is = λ T s n bytes h. ap (λ b. beside (λ us s'. cond b (entry_imports F us n bytes s') (single_imports F us n bytes s')) (T, s)) off ∙ section_beside (λ us. add_import F us) (import_at written) (length s.imports) MAX_IMPORTS n bytes T s;
  }

  entries_are : F.compact_imports ≡ true → Reads features ps 2 2 MAX_IMPORTS (λ us. add_entry F us) (map_entry written) (entry_at index) (entry_at written) (λ (s : Spaces). length s.imports)
  unfolding place
  entries_are on = record {
    renames = entry_renames written index;
    ranked = ranked_items 2 (entry_at index) ps;
    section = section_at ps parts follows 2 ((λ h. cc), (λ h. cc), (λ h. cc), (λ h. cc)) (λ h. cc);
    is = λ T s n bytes h. ap (λ b. beside (λ us s'. cond b (entry_imports F us n bytes s') (single_imports F us n bytes s')) (T, s)) on ∙ section_beside (λ us. add_entry F us) (entry_at written) (length s.imports) MAX_IMPORTS n bytes T s;
  }

  imports_are : (b : Bool) → F.compact_imports ≡ b → imports_of F.compact_imports ps ≡ cond b (option_map in_order (all_items 2 (entry_at index) ps)) (all_items 2 (import_at index) ps)
  imports_are b e = ap (λ c. imports_of c ps) e

  -- what the import section adds, one import after another
  record ImportsRead (T : TypesSoFar) (s : Spaces) (u : TypesSoFar × Spaces) : Type 0 where
    items : List (Import ℕ)
    are : imports_of F.compact_imports ps ≡ Some items
    after : Spaces
    ran : each (add_import F T) s (map (map_import written) items) ≡ Some after
    gives : (T, after) ≡ u

  imports_read : (T : TypesSoFar) (s : Spaces) (p u : TypesSoFar × Spaces) → (T, s) ≡ p → each (step features) p (at_rank 2 ps) ≡ Some u → ImportsRead T s u
  imports_read T s p u same e =
      elim (truth F.compact_imports) [
        | inl on ↦
            let a = one_read (entries_are on) T s p u same e in
            record { items = in_order a.items; are = imports_are true on ∙ ap (option_map in_order) a.are; after = a.after; ran = sym (each_entry F T s a.items) ∙ a.ran; gives = a.gives }
        | inr off ↦
            let a = one_read (singles_are off) T s p u same e in
            record { items = a.items; are = imports_are false off ∙ a.are; after = a.after; ran = a.ran; gives = a.gives }
      ]

  -- the entries keep to the limit
  entry_count : {V : Type 0} (reads : List ℕ → Option (V × List ℕ)) (es : List V) (n : ℕ) (bytes : List ℕ) → n ≤ most_imports → all_items 2 reads (Counted 2 n bytes ∷ []) ≡ Some es → length es ≤ MAX_IMPORTS
  entry_count {V} reads es n bytes few e =
      let a = then_some (λ (xs : List V). Some (xs ++ [])) (items_at reads n bytes) es e in
      let many = as_many_as_counted reads n bytes a.0 a.1 in
      let same : length es ≡ length a.0 = ap length (sym (same_Some (a.0 ++ []) es a.2) ∙ append-nil a.0) in
      omega (arith, many, same, few)

  few_entries : {V : Type 0} (reads : List ℕ → Option (V × List ℕ)) (es : List V) → SectionOf 2 (at_rank 2 ps) → all_items 2 reads ps ≡ Some es → length es ≤ MAX_IMPORTS
  unfolding place
  few_entries {V} reads es (inl none) e =
      let nothing : Some [] ≡ Some es = sym (ranked_items 2 reads ps ∙ ap (all_items 2 reads) none) ∙ e in
      let same : length {A = V} [] ≡ length es = ap length (same_Some [] es nothing) in
      omega (arith, same)
  few_entries reads es (inr one) e =
      let here = All-head (IsAllowedPiece F) (Counted 2 one.count one.contents) [] (subst (All (IsAllowedPiece F)) one.is (all_ranked (IsAllowedPiece F) 2 ps allowed)) in
      entry_count reads es one.count one.contents (here.1 refl) (sym (ranked_items 2 reads ps ∙ ap (all_items 2 reads) one.is) ∙ e)

  read_imports : (T : TypesSoFar) (s : Spaces) (is : List (Import ℕ)) (t : Spaces) → s.imports ≡ [] → imports_of F.compact_imports ps ≡ Some is → each (add_import F T) s (map (map_import written) is) ≡ Some t
      → each (step features) (T, s) (at_rank 2 ps) ≡ Some (T, t)
  read_imports T s is t none are ran =
      let zero = ap length none in
      elim (truth F.compact_imports) [
        | inl on ↦
            let b = map_some in_order (all_items 2 (entry_at index) ps) is (sym (imports_are true on) ∙ are) in
            let few = few_entries (entry_at index) b.0 (entries_are on).section b.1 in
            read_one (entries_are on) T s b.0 t b.1 (omega (arith, few, zero)) (each_entry F T s b.0 ∙ ap (λ xs. each (add_import F T) s (map (map_import written) xs)) b.2 ∙ ran)
        | inr off ↦
            let b = sym (imports_are false off) ∙ are in
            let few = few_entries (import_at index) is (singles_are off).section b in
            read_one (singles_are off) T s is t b (omega (arith, few, zero)) ran
      ]

  functions_are : Reads features ps 3 3 MAX_FUNCTIONS add_function same_item u32_at u32_at (λ (s : Spaces). length s.functions)
  unfolding place
  functions_are = record {
    renames = renames_nothing u32_at;
    ranked = ranked_items 3 u32_at ps;
    section = section_at ps parts follows 3 ((λ h. cc), (λ h. cc), (λ h. cc), (λ h. cc)) (λ h. cc);
    is = λ T s n bytes h. section_beside add_function u32_at (length s.functions) MAX_FUNCTIONS n bytes T s;
  }

  tables_are : Reads features ps 4 4 (most_tables F) (λ us. add_table_entry F (types_declare us us) us) (map_table_entry written) (table_entry_at expression_at index) (table_entry_at expression_at written) (λ (s : Spaces). length s.tables)
  unfolding place
  tables_are = record {
    renames = entries.tables;
    ranked = ranked_items 4 (table_entry_at expression_at index) ps;
    section = section_at ps parts follows 4 ((λ h. cc), (λ h. cc), (λ h. cc), (λ h. cc)) (λ h. cc);
    is = λ T s n bytes h. section_beside (λ us. add_table_entry F (types_declare us us) us) (table_entry_at expression_at written) (length s.tables) (most_tables F) n bytes T s;
  }

  memories_are : Reads features ps 5 5 (most_memories F) (λ us. add_memory F) same_item memory_at memory_at (λ (s : Spaces). length s.memories)
  unfolding place
  memories_are = record {
    renames = renames_nothing memory_at;
    ranked = ranked_items 5 memory_at ps;
    section = section_at ps parts follows 5 ((λ h. cc), (λ h. cc), (λ h. cc), (λ h. cc)) (λ h. cc);
    is = λ T s n bytes h. section_beside (λ us. add_memory F) memory_at (length s.memories) (most_memories F) n bytes T s;
  }

  tags_are : Reads features ps 13 6 MAX_TAGS (λ us. add_tag F us) same_item tag_at tag_at (λ (s : Spaces). length s.tags)
  unfolding place
  tags_are = record {
    renames = renames_nothing tag_at;
    ranked = ranked_items 13 tag_at ps;
    section = section_at ps parts follows 6 ((λ h. cc), (λ h. cc), (λ h. cc), (λ h. cc)) (λ h. cc);
    is = λ T s n bytes h. ap (λ b. beside (λ us s'. cond b (read_section tag_at (add_tag F us) (length s'.tags) MAX_TAGS n bytes s') None) (T, s)) (tags_need n bytes h) ∙ section_beside (λ us. add_tag F us) tag_at (length s.tags) MAX_TAGS n bytes T s;
  }

  globals_are : Reads features ps 6 7 MAX_GLOBALS (λ us. add_global_entry F (types_declare us us) us) (map_global_entry written) (global_entry_at expression_at index) (global_entry_at expression_at written) (λ (s : Spaces). length s.globals)
  unfolding place
  globals_are = record {
    renames = entries.globals;
    ranked = ranked_items 6 (global_entry_at expression_at index) ps;
    section = section_at ps parts follows 7 ((λ h. cc), (λ h. cc), (λ h. cc), (λ h. cc)) (λ h. cc);
    is = λ T s n bytes h. section_beside (λ us. add_global_entry F (types_declare us us) us) (global_entry_at expression_at written) (length s.globals) MAX_GLOBALS n bytes T s;
  }

  exports_are : Reads features ps 7 8 MAX_EXPORTS (λ us. add_export F us) same_item export_at export_at (λ (s : Spaces). length s.exports)
  unfolding place
  exports_are = record {
    renames = renames_nothing export_at;
    ranked = ranked_items 7 export_at ps;
    section = section_at ps parts follows 8 ((λ h. cc), (λ h. cc), (λ h. cc), (λ h. cc)) (λ h. cc);
    is = λ T s n bytes h. section_beside (λ us. add_export F us) export_at (length s.exports) MAX_EXPORTS n bytes T s;
  }

  elements_are : Reads features ps 9 10 MAX_ELEMENT_SEGMENTS (λ us. add_element F (types_declare us us)) (map_element written) (element_at expression_at index) (element_at expression_at written) (λ (s : Spaces). length s.elements)
  unfolding place
  elements_are = record {
    renames = entries.elements;
    ranked = ranked_items 9 (element_at expression_at index) ps;
    section = section_at ps parts follows 10 ((λ h. cc), (λ h. cc), (λ h. cc), (λ h. cc)) (λ h. cc);
    is = λ T s n bytes h. section_beside (λ us. add_element F (types_declare us us)) (element_at expression_at written) (length s.elements) MAX_ELEMENT_SEGMENTS n bytes T s;
  }

  segments_are : Reads features ps 11 14 MAX_DATA_SEGMENTS (λ us. add_data F (types_declare us us)) same_item (data_at expression_at) (data_at expression_at) (λ (s : Spaces). 0)
  unfolding place
  segments_are = record {
    renames = renames_nothing (data_at expression_at);
    ranked = ranked_items 11 (data_at expression_at) ps;
    section = section_at ps parts follows 14 ((λ h. cc), (λ h. cc), (λ h. cc), (λ h. cc)) (λ h. cc);
    is = λ T s n bytes h. section_beside (λ us. add_data F (types_declare us us)) (data_at expression_at) (0) MAX_DATA_SEGMENTS n bytes T s;
  }

  -- the start function
  abbrev AreStartable : TypesSoFar × Spaces → List ℕ → Type 0
  AreStartable s xs = All (λ x. is_startable s.0 s.1 x ≡ true) xs

  one_start : (s u : TypesSoFar × Spaces) (x : ℕ) → each (step features) s (Start x ∷ []) ≡ Some u → (s ≡ u) × AreStartable s (x ∷ [])
  one_start s u x e =
      let a = then_some (λ t. Some t) (step features s (Start x)) u e in
      let b = then_some (λ (t : Spaces). Some (s.0, t)) (start_item s.0 s.1 x) a.0 a.1 in
      let c = guarded (is_startable s.0 s.1 x) (Some s.1) b.0 b.1 in
      ((λ i. (s.0, same_Some s.1 b.0 c.1 i)) ∙ same_Some (s.0, b.0) a.0 b.2 ∙ same_Some a.0 u a.2, All-cons (λ y. is_startable s.0 s.1 y ≡ true) x [] c.0 (All-nil (λ y. is_startable s.0 s.1 y ≡ true)))

  read_start : (qs : List Piece) → StartOf qs → (s u : TypesSoFar × Spaces) → each (step features) s qs ≡ Some u → (s ≡ u) × AreStartable s (flat_map starts_of qs)
  read_start qs (inl h) s u e = subst (λ (xs : List Piece). each (step features) s xs ≡ Some u → (s ≡ u) × AreStartable s (flat_map starts_of xs)) (sym h) (λ f. (same_Some s u f, All-nil (λ y. is_startable s.0 s.1 y ≡ true))) e
  read_start qs (inr h) s u e = subst (λ (xs : List Piece). each (step features) s xs ≡ Some u → (s ≡ u) × AreStartable s (flat_map starts_of xs)) (sym h.1) (λ f. one_start s u h.0 f) e

  read_starts : (s u : TypesSoFar × Spaces) → each (step features) s (at_rank 9 ps) ≡ Some u → (s ≡ u) × AreStartable s (flat_map starts_of ps)
  read_starts s u e =
      let h = read_start (at_rank 9 ps) (start_at ps parts follows) s u e in
      (h.0, subst (AreStartable s) (sym (ranked_starts ps)) h.1)

  start_read : (qs : List Piece) → StartOf qs → (s : TypesSoFar × Spaces) → AreStartable s (flat_map starts_of qs) → each (step features) s qs ≡ Some s
  start_read qs (inl h) s a = subst (λ (xs : List Piece). each (step features) s xs ≡ Some s) (sym h) refl
  start_read qs (inr h) s a =
      subst (λ (xs : List Piece). AreStartable s (flat_map starts_of xs) → each (step features) s xs ≡ Some s) (sym h.1)
      (λ b. ap (λ c. option_and_then (λ t. Some t) (option_and_then (λ (t : Spaces). Some (s.0, t)) (cond c (Some s.1) None))) (All-head (λ y. is_startable s.0 s.1 y ≡ true) h.0 [] b)) a

  starts_read : (s : TypesSoFar × Spaces) → AreStartable s (flat_map starts_of ps) → each (step features) s (at_rank 9 ps) ≡ Some s
  starts_read s a = start_read (at_rank 9 ps) (start_at ps parts follows) s (subst (AreStartable s) (ranked_starts ps) a)

  -- the data count
  abbrev AreFew : List ℕ → Type 0
  AreFew ns = All (λ n. n ≤ MAX_DATA_SEGMENTS) ns

  one_count : (s u : TypesSoFar × Spaces) (n : ℕ) → each (step features) s (DataCount n ∷ []) ≡ Some u → (s ≡ u) × AreFew (n ∷ [])
  one_count s u n e =
      let a = then_some (λ t. Some t) (step features s (DataCount n)) u e in
      let b = then_some (λ (t : Spaces). Some (s.0, t)) (data_count_item F s.1 n) a.0 a.1 in
      let c = guarded (is_data_count F n) (Some s.1) b.0 b.1 in
      let few = leb-true n MAX_DATA_SEGMENTS (and_right F.bulk_memory (leb n MAX_DATA_SEGMENTS) c.0) in
      ((λ i. (s.0, same_Some s.1 b.0 c.1 i)) ∙ same_Some (s.0, b.0) a.0 b.2 ∙ same_Some a.0 u a.2, All-cons (λ k. k ≤ MAX_DATA_SEGMENTS) n [] few (All-nil (λ k. k ≤ MAX_DATA_SEGMENTS)))

  read_count : (qs : List Piece) → DataCountOf qs → (s u : TypesSoFar × Spaces) → each (step features) s qs ≡ Some u → (s ≡ u) × AreFew (flat_map data_counts_of qs)
  read_count qs (inl h) s u e = subst (λ (xs : List Piece). each (step features) s xs ≡ Some u → (s ≡ u) × AreFew (flat_map data_counts_of xs)) (sym h) (λ f. (same_Some s u f, All-nil (λ k. k ≤ MAX_DATA_SEGMENTS))) e
  read_count qs (inr h) s u e = subst (λ (xs : List Piece). each (step features) s xs ≡ Some u → (s ≡ u) × AreFew (flat_map data_counts_of xs)) (sym h.1) (λ f. one_count s u h.0 f) e

  read_counts : (s u : TypesSoFar × Spaces) → each (step features) s (at_rank 11 ps) ≡ Some u → (s ≡ u) × AreFew (flat_map data_counts_of ps)
  read_counts s u e =
      let h = read_count (at_rank 11 ps) (data_count_at ps parts follows) s u e in
      (h.0, subst AreFew (sym (ranked_data_counts ps)) h.1)

  count_read : (qs : List Piece) → DataCountOf qs → (s : TypesSoFar × Spaces) → All (IsAllowedPiece F) qs → AreFew (flat_map data_counts_of qs) → each (step features) s qs ≡ Some s
  count_read qs (inl h) s b a = subst (λ (xs : List Piece). each (step features) s xs ≡ Some s) (sym h) refl
  count_read qs (inr h) s b a =
      subst (λ (xs : List Piece). All (IsAllowedPiece F) xs → AreFew (flat_map data_counts_of xs) → each (step features) s xs ≡ Some s) (sym h.1)
      (λ c d.
      let few = All-head (λ k. k ≤ MAX_DATA_SEGMENTS) h.0 [] d in
      let is = and_from F.bulk_memory (leb h.0 MAX_DATA_SEGMENTS) (All-head (IsAllowedPiece F) (DataCount h.0) [] c) (le-leb h.0 MAX_DATA_SEGMENTS few) in
      ap (λ c. option_and_then (λ t. Some t) (option_and_then (λ (t : Spaces). Some (s.0, t)) (cond c (Some s.1) None))) is) b a

  counts_read : (s : TypesSoFar × Spaces) → AreFew (flat_map data_counts_of ps) → each (step features) s (at_rank 11 ps) ≡ Some s
  counts_read s a = count_read (at_rank 11 ps) (data_count_at ps parts follows) s (all_ranked (IsAllowedPiece F) 11 ps allowed) (subst AreFew (ranked_data_counts ps) a)

  -- the start of the code
  code_passed : (qs : List Piece) → CodeStartOf qs → (s : TypesSoFar × Spaces) → each (step features) s qs ≡ Some s
  code_passed qs (inl h) s = ap (each (step features) s) h
  code_passed qs (inr h) s = ap (each (step features) s) h.2

  code_starts : (s : TypesSoFar × Spaces) → each (step features) s (at_rank 12 ps) ≡ Some s
  code_starts s = code_passed (at_rank 12 ps) (code_start_at ps parts follows) s

  -- bodies
  bodies_passed : (s : TypesSoFar × Spaces) → each (step features) s (at_rank 13 ps) ≡ Some s
  bodies_passed s = bodies_pass features ps parts s

front_fits : {X : Type 0} (xs ys : List X) {most : ℕ} → length (xs ++ ys) ≤ most → length (xs ++ []) + length ys ≤ most
front_fits xs ys {most} h =
    let a = length-append xs ys in
    let b = ap length (append-nil xs) in
    omega (arith, a, b, h)

-- the same where what is there is listed, and what comes is of another form
listed_fit : {X Y Z : Type 0} (f : X → Y) (g : Z → X) (xs : List X) (zs : List Z) {most : ℕ} → length (xs ++ map g zs) ≤ most → length (map f (xs ++ [])) + length zs ≤ most
listed_fit f g xs zs {most} h =
    let a = length-append xs (map g zs) in
    let b = ap length (append-nil xs) in
    let c = length-map (xs ++ []) f in
    let d = length-map zs g in
    omega (arith, a, b, c, d, h)

module _ (laws : UsedLaws) (features : WasmFeatures) (T : TypesSoFar) (ps : List Piece) (parts : AreParts ps) (follows : Follows ranks ps) (allowed : All (IsAllowedPiece (features_of features)) ps) (apart : AreApart (canonical (features_of features)) T) where
  abbrev start : TypesSoFar × Spaces
  start = (T, no_spaces)

  abbrev G : Features
  G = features_of features

  -- the groups, whose types are valid
  record TypesRead (t : TypesSoFar × Spaces) : Type 0 where
    gs : List (Rec ℕ)
    read : all_items 1 (rec_at index) ps ≡ Some gs
    few : length gs ≤ MAX_TYPES
    types : TypesAdded features T gs
    gives : (list_after features T gs types, only_types (ids features T gs types)) ≡ t

  types_read : (t : TypesSoFar × Spaces) → HasValidTypes features t → each (step features) start (at_rank 1 ps) ≡ Some t → TypesRead t
  types_read t v e =
      let g = read_groups laws.entries features ps parts follows allowed start t e in
      let r = ends_at features g.items start t (omega arith) g.ran in
      record { gs = g.items; read = g.are; few = g.few; types = record { end = r.end; ran = r.ran; few = r.few; valid = subst (HasValidTypes features) (sym r.is) v }; gives = r.is }

  back : (vs : List Piece) (s t : TypesSoFar × Spaces) → each (step features) s vs ≡ Some t → HasValidTypes features t → HasValidTypes features s
  back = each_back (step features) (HasValidTypes features) (step_back features)

  unmapped : {V : Type 0} (add : Spaces → V → Option Spaces) (s t : Spaces) (vs : List V) → each add s (map same_item vs) ≡ Some t → each add s vs ≡ Some t
  unmapped add s t vs e = ap (each add s) (sym (map_same vs)) ∙ e

  mapped : {V : Type 0} (add : Spaces → V → Option Spaces) (s t : Spaces) (vs : List V) → each add s vs ≡ Some t → each add s (map same_item vs) ≡ Some t
  mapped add s t vs e = ap (each add s) (map_same vs) ∙ e

  -- the lists behind the types, one after another
  chained : (us : TypesSoFar) (s a b c d e f g h k : Spaces) (p : Parts)
      → add_imports G us s p.imports ≡ Some a
      → add_functions us a p.functions ≡ Some b
      → add_table_entries G us b p.tables ≡ Some c
      → add_memories G c p.memories ≡ Some d
      → add_tags G us d p.tags ≡ Some e
      → add_global_entries G us e p.globals ≡ Some f
      → add_exports G us f p.exports ≡ Some g
      → add_elements G us g p.elements ≡ Some h
      → add_segments G us h p.segments ≡ Some k
      → add_all_lists G us s p ≡ Some k
  chained us s a b c d e f g h k p e1 e2 e3 e4 e5 e6 e7 e8 e9 =
      ap (option_and_then (λ a. option_and_then (λ b. option_and_then (λ c. option_and_then (λ d. option_and_then (λ e. option_and_then (λ f. option_and_then (λ g. option_and_then (λ h. add_segments G us h p.segments) (add_elements G us g p.elements)) (add_exports G us f p.exports)) (add_global_entries G us e p.globals)) (add_tags G us d p.tags)) (add_memories G c p.memories)) (add_table_entries G us b p.tables)) (add_functions us a p.functions))) e1
      ∙ ap (option_and_then (λ b. option_and_then (λ c. option_and_then (λ d. option_and_then (λ e. option_and_then (λ f. option_and_then (λ g. option_and_then (λ h. add_segments G us h p.segments) (add_elements G us g p.elements)) (add_exports G us f p.exports)) (add_global_entries G us e p.globals)) (add_tags G us d p.tags)) (add_memories G c p.memories)) (add_table_entries G us b p.tables))) e2
      ∙ ap (option_and_then (λ c. option_and_then (λ d. option_and_then (λ e. option_and_then (λ f. option_and_then (λ g. option_and_then (λ h. add_segments G us h p.segments) (add_elements G us g p.elements)) (add_exports G us f p.exports)) (add_global_entries G us e p.globals)) (add_tags G us d p.tags)) (add_memories G c p.memories))) e3
      ∙ ap (option_and_then (λ d. option_and_then (λ e. option_and_then (λ f. option_and_then (λ g. option_and_then (λ h. add_segments G us h p.segments) (add_elements G us g p.elements)) (add_exports G us f p.exports)) (add_global_entries G us e p.globals)) (add_tags G us d p.tags))) e4
      ∙ ap (option_and_then (λ e. option_and_then (λ f. option_and_then (λ g. option_and_then (λ h. add_segments G us h p.segments) (add_elements G us g p.elements)) (add_exports G us f p.exports)) (add_global_entries G us e p.globals))) e5
      ∙ ap (option_and_then (λ f. option_and_then (λ g. option_and_then (λ h. add_segments G us h p.segments) (add_elements G us g p.elements)) (add_exports G us f p.exports))) e6
      ∙ ap (option_and_then (λ g. option_and_then (λ h. add_segments G us h p.segments) (add_elements G us g p.elements))) e7
      ∙ ap (option_and_then (λ h. add_segments G us h p.segments)) e8
      ∙ e9

  -- the law of all lists, behind the types of these groups
  module _ (gs : List (Rec ℕ)) (types : TypesAdded features T gs) where
    pub distinct : HasNoRepetition (list_after features T gs types)
    distinct = laws.are_distinct (canonical G) (list_after features T gs types) (laws.stay_apart G T gs types.end apart types.ran)

    pub own_ids : HasOwnIds G (ids features T gs types)
    own_ids own = (length T, (section features T gs types).own_ids own ∙ ap (numbers_from (length T)) (sym (as_many_types features T gs types)))

    all_lists : (n : Numbering (type_space features T gs types)) (p : Parts) (t : Spaces)
        → (add_all_lists G (list_after features T gs types) (only_types (ids features T gs types)) p ≡ Some t)
        ↔ ((AreValidModuleLists G (index_spaces (type_space features T gs types) p) p × AreTypedConstants G (type_space features T gs types) n p) × (spaces_of G (type_space features T gs types) (ids features T gs types) p ≡ t))
    all_lists n p t = laws.lists G (list_after features T gs types) types.valid distinct (ids features T gs types) (type_space features T gs types) (section features T gs types).stand own_ids (sections_give_module_types G gs (section features T gs types).section) n p t

    -- what has been added so far is what is shown of it
    so_far : (p : Parts) (t : Spaces) → add_all_lists G (list_after features T gs types) (only_types (ids features T gs types)) p ≡ Some t → spaces_of G (type_space features T gs types) (ids features T gs types) p ≡ t
    so_far p t e = ((all_lists (types_are_numbered (type_space features T gs types)) p t).0 e).1

  -- The lists behind the types, one after another; and those up to the exports, where the start function comes.
  record Added (us : TypesSoFar) (s : Spaces) (r q : TypesSoFar × Spaces) (gs : List (Rec ℕ)) : Type 0 where
    its : Parts
    has : HasParts G.compact_imports expression_at ps (record its { groups = gs })
    few_exports : length its.exports ≤ MAX_EXPORTS
    few_elements : length its.elements ≤ MAX_ELEMENT_SEGMENTS
    few_segments : length its.segments ≤ MAX_DATA_SEGMENTS
    to_exports : Spaces
    exports_added : add_all_lists G us s (up_to_exports its) ≡ Some to_exports
    gives_exports : (us, to_exports) ≡ r
    after : Spaces
    added : add_all_lists G us s its ≡ Some after
    gives : (us, after) ≡ q

  lists_added : (us : TypesSoFar) (s : Spaces) (gs : List (Rec ℕ)) → all_items 1 (rec_at index) ps ≡ Some gs → (p1 p2 p3 p4 p5 p6 p7 p8 p10 q : TypesSoFar × Spaces) → (us, s) ≡ p1
      → each (step features) p1 (at_rank 2 ps) ≡ Some p2
      → each (step features) p2 (at_rank 3 ps) ≡ Some p3
      → each (step features) p3 (at_rank 4 ps) ≡ Some p4
      → each (step features) p4 (at_rank 5 ps) ≡ Some p5
      → each (step features) p5 (at_rank 6 ps) ≡ Some p6
      → each (step features) p6 (at_rank 7 ps) ≡ Some p7
      → each (step features) p7 (at_rank 8 ps) ≡ Some p8
      → each (step features) p8 (at_rank 10 ps) ≡ Some p10
      → each (step features) p10 (at_rank 14 ps) ≡ Some q
      → Added us s p8 q gs
  lists_added us s gs groups p1 p2 p3 p4 p5 p6 p7 p8 p10 q same e2 e3 e4 e5 e6 e7 e8 e10 e14 =
      let a = imports_read laws.entries features ps parts follows allowed us s p1 p2 same e2 in
      let b = one_read (functions_are laws.entries features ps parts follows allowed) us a.after p2 p3 a.gives e3 in
      let c = one_read (tables_are laws.entries features ps parts follows allowed) us b.after p3 p4 b.gives e4 in
      let d = one_read (memories_are laws.entries features ps parts follows allowed) us c.after p4 p5 c.gives e5 in
      let e = one_read (tags_are laws.entries features ps parts follows allowed) us d.after p5 p6 d.gives e6 in
      let f = one_read (globals_are laws.entries features ps parts follows allowed) us e.after p6 p7 e.gives e7 in
      let g = one_read (exports_are laws.entries features ps parts follows allowed) us f.after p7 p8 f.gives e8 in
      let h = one_read (elements_are laws.entries features ps parts follows allowed) us g.after p8 p10 g.gives e10 in
      let k = one_read (segments_are laws.entries features ps parts follows allowed) us h.after p10 q h.gives e14 in
      let its : Parts = record {
        groups = gs;
        imports = a.items;
        functions = b.items;
        tables = c.items;
        memories = d.items;
        tags = e.items;
        globals = f.items;
        exports = g.items;
        elements = h.items;
        segments = k.items;
        starts = flat_map starts_of ps;
        data_counts = flat_map data_counts_of ps;
        bodies = flat_map bodies_of ps;
      } in
      let r2 = a.ran in
      let r3 = (unmapped (add_function us) a.after b.after b.items b.ran) in
      let r4 = c.ran in
      let r5 = (unmapped (add_memory G) c.after d.after d.items d.ran) in
      let r6 = (unmapped (add_tag G us) d.after e.after e.items e.ran) in
      let r7 = f.ran in
      let r8 = (unmapped (add_export G us) f.after g.after g.items g.ran) in
      let r10 = h.ran in
      let r14 = (unmapped (add_data G (types_declare us us)) h.after k.after k.items k.ran) in
      record {
        its = its;
        has = record {
          groups = groups;
          imports = a.are;
          functions = b.are;
          tables = c.are;
          memories = d.are;
          tags = e.are;
          globals = f.are;
          exports = g.are;
          elements = h.are;
          segments = k.are;
          starts = refl;
          data_counts = refl;
          bodies = refl;
        };
        few_exports = g.few;
        few_elements = h.few;
        few_segments = k.few;
        to_exports = g.after;
        exports_added = chained us s a.after b.after c.after d.after e.after f.after g.after g.after g.after (up_to_exports its) r2 r3 r4 r5 r6 r7 r8 refl refl;
        gives_exports = g.gives;
        after = k.after;
        added = chained us s a.after b.after c.after d.after e.after f.after g.after h.after k.after its r2 r3 r4 r5 r6 r7 r8 r10 r14;
        gives = k.gives;
      }

  -- a run that is accepted
  pub record Ran (q : TypesSoFar × Spaces) : Type 0 where
    pub accepted : Accepted features T ps
    pub ends : end_of features T ps accepted ≡ q

  -- what the lists behind the types say
  ran_lists : AreSmall (flat_map bodies_of ps) → (t : TypesSoFar × Spaces) (r : TypesRead t) (p q : TypesSoFar × Spaces) (l : Added (list_after features T r.gs r.types) (only_types (ids features T r.gs r.types)) p q r.gs)
      → All (λ x. is_startable p.0 p.1 x ≡ true) (flat_map starts_of ps) → All (λ n. n ≤ MAX_DATA_SEGMENTS) (flat_map data_counts_of ps) → Ran q
  ran_lists small t r p q l startable few =
      let us = list_after features T r.gs r.types in
      let is = ids features T r.gs r.types in
      let space = type_space features T r.gs r.types in
      let stand = (section features T r.gs r.types).stand in
      let its : Parts = record (l.its) { groups = r.gs } in
      let n = types_are_numbered space in
      let v = (all_lists r.gs r.types n its l.after).0 l.added in
      let shown = so_far r.gs r.types (up_to_exports its) l.to_exports l.exports_added in
      let ends : (us, spaces_of G space is (up_to_exports its)) ≡ p = (λ j. (us, shown j)) ∙ l.gives_exports in
      let here : All (λ x. is_startable us (spaces_of G space is (up_to_exports its)) x ≡ true) its.starts =
      subst (λ (xs : List ℕ). All (λ x. is_startable us (spaces_of G space is (up_to_exports its)) x ≡ true) xs) (l.has).starts
      (subst (λ (p : TypesSoFar × Spaces). All (λ x. is_startable p.0 p.1 x ≡ true) (flat_map starts_of ps)) (sym ends) startable) in
      record {
        accepted = record {
          parts = its;
          has = l.has;
          types = r.types;
          valid = v.0.0;
          numbering = n;
          typed = v.0.1;
          others = record {
            groups = r.few;
            types = subst (λ n. n ≤ MAX_TYPES) (as_many_types features T r.gs r.types) (r.types).few;
            imports = few_by_size (index_spaces space its) its (v.0.0).size;
            exports = l.few_exports;
            elements = l.few_elements;
            segments = l.few_segments;
            data_counts = subst (λ (ns : List ℕ). All (λ n. n ≤ MAX_DATA_SEGMENTS) ns) (l.has).data_counts few;
            bodies = subst AreSmall (l.has).bodies small;
            starts = for_each (λ x. is_startable us (spaces_of G space is (up_to_exports its)) x ≡ true) (IsValidStart (index_spaces space its)) its.starts (λ x e. (starts_are_decided G us is space stand (up_to_exports its) x).0 e) here;
          };
        };
        ends = (λ j. (us, v.1 j)) ∙ l.gives;
      }

  -- types that are valid at the end are valid behind the type section
  ran_sections : AreSmall (flat_map bodies_of ps) → (p1 p2 p3 p4 p5 p6 p7 p8 p10 q : TypesSoFar × Spaces) → HasValidTypes features q → each (step features) start (at_rank 1 ps) ≡ Some p1
      → each (step features) p1 (at_rank 2 ps) ≡ Some p2
      → each (step features) p2 (at_rank 3 ps) ≡ Some p3
      → each (step features) p3 (at_rank 4 ps) ≡ Some p4
      → each (step features) p4 (at_rank 5 ps) ≡ Some p5
      → each (step features) p5 (at_rank 6 ps) ≡ Some p6
      → each (step features) p6 (at_rank 7 ps) ≡ Some p7
      → each (step features) p7 (at_rank 8 ps) ≡ Some p8
      → each (step features) p8 (at_rank 10 ps) ≡ Some p10
      → each (step features) p10 (at_rank 14 ps) ≡ Some q
      → All (λ x. is_startable p8.0 p8.1 x ≡ true) (flat_map starts_of ps) → All (λ n. n ≤ MAX_DATA_SEGMENTS) (flat_map data_counts_of ps) → Ran q
  ran_sections small p1 p2 p3 p4 p5 p6 p7 p8 p10 q v e1 e2 e3 e4 e5 e6 e7 e8 e10 e14 startable few =
      let valid = back (at_rank 2 ps) p1 p2 e2 (back (at_rank 3 ps) p2 p3 e3 (back (at_rank 4 ps) p3 p4 e4 (back (at_rank 5 ps) p4 p5 e5 (back (at_rank 6 ps) p5 p6 e6 (back (at_rank 7 ps) p6 p7 e7 (back (at_rank 8 ps) p7 p8 e8 (back (at_rank 10 ps) p8 p10 e10 (back (at_rank 14 ps) p10 q e14 v)))))))) in
      let t = types_read p1 valid e1 in
      let us = list_after features T t.gs t.types in
      let is = ids features T t.gs t.types in
      ran_lists small p1 t p8 q (lists_added us (only_types is) t.gs t.read p1 p2 p3 p4 p5 p6 p7 p8 p10 q t.gives e2 e3 e4 e5 e6 e7 e8 e10 e14) startable few

  -- the sections behind the exports: the start function, the data count and the start of the code leave what they are given
  record Behind (s q : TypesSoFar × Spaces) : Type 0 where
    middle : TypesSoFar × Spaces
    elements : each (step features) s (at_rank 10 ps) ≡ Some middle
    segments : each (step features) middle (at_rank 14 ps) ≡ Some q
    startable : All (λ x. is_startable s.0 s.1 x ≡ true) (flat_map starts_of ps)
    few : All (λ n. n ≤ MAX_DATA_SEGMENTS) (flat_map data_counts_of ps)

  behind : (s q : TypesSoFar × Spaces) → by_rank (step features) (9 ∷ 10 ∷ 11 ∷ 12 ∷ 13 ∷ 14 ∷ []) s ps ≡ Some q → Behind s q
  behind s q run =
      let x9 = then_some (λ t. by_rank (step features) (10 ∷ 11 ∷ 12 ∷ 13 ∷ 14 ∷ []) t ps) (each (step features) s (at_rank 9 ps)) q run in
      let x10 = then_some (λ t. by_rank (step features) (11 ∷ 12 ∷ 13 ∷ 14 ∷ []) t ps) (each (step features) x9.0 (at_rank 10 ps)) q x9.2 in
      let x11 = then_some (λ t. by_rank (step features) (12 ∷ 13 ∷ 14 ∷ []) t ps) (each (step features) x10.0 (at_rank 11 ps)) q x10.2 in
      let x12 = then_some (λ t. by_rank (step features) (13 ∷ 14 ∷ []) t ps) (each (step features) x11.0 (at_rank 12 ps)) q x11.2 in
      let x13 = then_some (λ t. by_rank (step features) (14 ∷ []) t ps) (each (step features) x12.0 (at_rank 13 ps)) q x12.2 in
      let x14 = then_some (λ t. Some t) (each (step features) x13.0 (at_rank 14 ps)) q x13.2 in
      let start_there = read_starts laws.entries features ps parts follows allowed s x9.0 x9.1 in
      let counted = read_counts laws.entries features ps parts follows allowed x10.0 x11.0 x11.1 in
      let coded : x11.0 ≡ x12.0 = same_Some x11.0 x12.0 (sym (code_starts laws.entries features ps parts follows allowed x11.0) ∙ x12.1) in
      let passed : x12.0 ≡ x13.0 = same_Some x12.0 x13.0 (sym (bodies_passed laws.entries features ps parts follows allowed x12.0) ∙ x13.1) in
      record {
        middle = x10.0;
        elements = ap (λ t. each (step features) t (at_rank 10 ps)) start_there.0 ∙ x10.1;
        segments = ap (λ t. each (step features) t (at_rank 14 ps)) (counted.0 ∙ coded ∙ passed) ∙ x14.1 ∙ x14.2;
        startable = start_there.1;
        few = counted.1;
      }

  pub ran : AreSmall (flat_map bodies_of ps) → (q : TypesSoFar × Spaces) → HasValidTypes features q → each (step features) start ps ≡ Some q → Ran q
  ran small q valid run =
      let x1 = then_some (λ t. by_rank (step features) (2 ∷ 3 ∷ 4 ∷ 5 ∷ 6 ∷ 7 ∷ 8 ∷ 9 ∷ 10 ∷ 11 ∷ 12 ∷ 13 ∷ 14 ∷ []) t ps) (each (step features) start (at_rank 1 ps)) q (sym (by_sections features ps start parts follows) ∙ run) in
      let x2 = then_some (λ t. by_rank (step features) (3 ∷ 4 ∷ 5 ∷ 6 ∷ 7 ∷ 8 ∷ 9 ∷ 10 ∷ 11 ∷ 12 ∷ 13 ∷ 14 ∷ []) t ps) (each (step features) x1.0 (at_rank 2 ps)) q x1.2 in
      let x3 = then_some (λ t. by_rank (step features) (4 ∷ 5 ∷ 6 ∷ 7 ∷ 8 ∷ 9 ∷ 10 ∷ 11 ∷ 12 ∷ 13 ∷ 14 ∷ []) t ps) (each (step features) x2.0 (at_rank 3 ps)) q x2.2 in
      let x4 = then_some (λ t. by_rank (step features) (5 ∷ 6 ∷ 7 ∷ 8 ∷ 9 ∷ 10 ∷ 11 ∷ 12 ∷ 13 ∷ 14 ∷ []) t ps) (each (step features) x3.0 (at_rank 4 ps)) q x3.2 in
      let x5 = then_some (λ t. by_rank (step features) (6 ∷ 7 ∷ 8 ∷ 9 ∷ 10 ∷ 11 ∷ 12 ∷ 13 ∷ 14 ∷ []) t ps) (each (step features) x4.0 (at_rank 5 ps)) q x4.2 in
      let x6 = then_some (λ t. by_rank (step features) (7 ∷ 8 ∷ 9 ∷ 10 ∷ 11 ∷ 12 ∷ 13 ∷ 14 ∷ []) t ps) (each (step features) x5.0 (at_rank 6 ps)) q x5.2 in
      let x7 = then_some (λ t. by_rank (step features) (8 ∷ 9 ∷ 10 ∷ 11 ∷ 12 ∷ 13 ∷ 14 ∷ []) t ps) (each (step features) x6.0 (at_rank 7 ps)) q x6.2 in
      let x8 = then_some (λ t. by_rank (step features) (9 ∷ 10 ∷ 11 ∷ 12 ∷ 13 ∷ 14 ∷ []) t ps) (each (step features) x7.0 (at_rank 8 ps)) q x7.2 in
      let b = behind x8.0 q x8.2 in
      ran_sections small x1.0 x2.0 x3.0 x4.0 x5.0 x6.0 x7.0 x8.0 b.middle q valid x1.1 x2.1 x3.1 x4.1 x5.1 x6.1 x7.1 x8.1 b.elements b.segments b.startable b.few

  -- and the other way round
  pub runs : (a : Accepted features T ps) → each (step features) start ps ≡ Some (end_of features T ps a)
  runs accepted =
      let p = accepted.parts in
      let has = accepted.has in
      let gs = p.groups in
      let types = accepted.types in
      let us = list_after features T gs types in
      let is = ids features T gs types in
      let space = type_space features T gs types in
      let stand = (section features T gs types).stand in
      let valid = accepted.valid in
      let others = accepted.others in
      let s : Spaces = only_types is in
      let q = spaces_of G space is p in
      let added : add_all_lists G us s p ≡ Some q = (all_lists gs types accepted.numbering p q).1 ((valid, accepted.typed), refl) in
      let a = then_some (λ a. option_and_then (λ b. option_and_then (λ c. option_and_then (λ d. option_and_then (λ e. option_and_then (λ f. option_and_then (λ g. option_and_then (λ h. add_segments G us h p.segments) (add_elements G us g p.elements)) (add_exports G us f p.exports)) (add_global_entries G us e p.globals)) (add_tags G us d p.tags)) (add_memories G c p.memories)) (add_table_entries G us b p.tables)) (add_functions us a p.functions)) (add_imports G us s p.imports) q added in
      let b = then_some (λ b. option_and_then (λ c. option_and_then (λ d. option_and_then (λ e. option_and_then (λ f. option_and_then (λ g. option_and_then (λ h. add_segments G us h p.segments) (add_elements G us g p.elements)) (add_exports G us f p.exports)) (add_global_entries G us e p.globals)) (add_tags G us d p.tags)) (add_memories G c p.memories)) (add_table_entries G us b p.tables)) (add_functions us a.0 p.functions) q a.2 in
      let c = then_some (λ c. option_and_then (λ d. option_and_then (λ e. option_and_then (λ f. option_and_then (λ g. option_and_then (λ h. add_segments G us h p.segments) (add_elements G us g p.elements)) (add_exports G us f p.exports)) (add_global_entries G us e p.globals)) (add_tags G us d p.tags)) (add_memories G c p.memories)) (add_table_entries G us b.0 p.tables) q b.2 in
      let d = then_some (λ d. option_and_then (λ e. option_and_then (λ f. option_and_then (λ g. option_and_then (λ h. add_segments G us h p.segments) (add_elements G us g p.elements)) (add_exports G us f p.exports)) (add_global_entries G us e p.globals)) (add_tags G us d p.tags)) (add_memories G c.0 p.memories) q c.2 in
      let e = then_some (λ e. option_and_then (λ f. option_and_then (λ g. option_and_then (λ h. add_segments G us h p.segments) (add_elements G us g p.elements)) (add_exports G us f p.exports)) (add_global_entries G us e p.globals)) (add_tags G us d.0 p.tags) q d.2 in
      let f = then_some (λ f. option_and_then (λ g. option_and_then (λ h. add_segments G us h p.segments) (add_elements G us g p.elements)) (add_exports G us f p.exports)) (add_global_entries G us e.0 p.globals) q e.2 in
      let g = then_some (λ g. option_and_then (λ h. add_segments G us h p.segments) (add_elements G us g p.elements)) (add_exports G us f.0 p.exports) q f.2 in
      let h = then_some (λ h. add_segments G us h p.segments) (add_elements G us g.0 p.elements) q g.2 in
      let a_is = so_far gs types (only_imports p.imports) a.0 (chained us s a.0 a.0 a.0 a.0 a.0 a.0 a.0 a.0 a.0 (only_imports p.imports) a.1 refl refl refl refl refl refl refl refl) in
      let b_is = so_far gs types (up_to_functions p) b.0 (chained us s a.0 b.0 b.0 b.0 b.0 b.0 b.0 b.0 b.0 (up_to_functions p) a.1 b.1 refl refl refl refl refl refl refl) in
      let c_is = so_far gs types (up_to_tables p) c.0 (chained us s a.0 b.0 c.0 c.0 c.0 c.0 c.0 c.0 c.0 (up_to_tables p) a.1 b.1 c.1 refl refl refl refl refl refl) in
      let d_is = so_far gs types (up_to_memories p) d.0 (chained us s a.0 b.0 c.0 d.0 d.0 d.0 d.0 d.0 d.0 (up_to_memories p) a.1 b.1 c.1 d.1 refl refl refl refl refl) in
      let e_is = so_far gs types (up_to_tags p) e.0 (chained us s a.0 b.0 c.0 d.0 e.0 e.0 e.0 e.0 e.0 (up_to_tags p) a.1 b.1 c.1 d.1 e.1 refl refl refl refl) in
      let f_is = so_far gs types (up_to_globals p) f.0 (chained us s a.0 b.0 c.0 d.0 e.0 f.0 f.0 f.0 f.0 (up_to_globals p) a.1 b.1 c.1 d.1 e.1 f.1 refl refl refl) in
      let g_is = so_far gs types (up_to_exports p) g.0 (chained us s a.0 b.0 c.0 d.0 e.0 f.0 g.0 g.0 g.0 (up_to_exports p) a.1 b.1 c.1 d.1 e.1 f.1 g.1 refl refl) in
      let few_groups = others.groups in
      let few_exports = others.exports in
      let few_elements = others.elements in
      let few_segments = others.segments in
      let run1 : each (step features) start (at_rank 1 ps) ≡ Some (us, s) = groups_read laws.entries features ps parts follows allowed start (us, s) gs has.groups (omega (arith, few_groups)) (runs_to features gs start types.end types.ran types.few) in
      let run2 : each (step features) (us, s) (at_rank 2 ps) ≡ Some (us, a.0) = read_imports laws.entries features ps parts follows allowed us s p.imports a.0 refl has.imports a.1 in
      let run3 : each (step features) (us, a.0) (at_rank 3 ps) ≡ Some (us, b.0) = read_one (functions_are laws.entries features ps parts follows allowed) us a.0 p.functions b.0 has.functions (subst (λ (t : Spaces). length t.functions + length p.functions ≤ MAX_FUNCTIONS) a_is (front_fits (imported functions_in p.imports) p.functions valid.few_functions)) (mapped (add_function us) a.0 b.0 p.functions b.1) in
      let run4 : each (step features) (us, b.0) (at_rank 4 ps) ≡ Some (us, c.0) = read_one (tables_are laws.entries features ps parts follows allowed) us b.0 p.tables c.0 has.tables (subst (λ (t : Spaces). length t.tables + length p.tables ≤ most_tables G) b_is (listed_fit (listed_table is) table_type (imported tables_in p.imports) p.tables valid.few_tables)) c.1 in
      let run5 : each (step features) (us, c.0) (at_rank 5 ps) ≡ Some (us, d.0) = read_one (memories_are laws.entries features ps parts follows allowed) us c.0 p.memories d.0 has.memories (subst (λ (t : Spaces). length t.memories + length p.memories ≤ most_memories G) c_is (front_fits (imported memories_in p.imports) p.memories valid.few_memories)) (mapped (add_memory G) c.0 d.0 p.memories d.1) in
      let run6 : each (step features) (us, d.0) (at_rank 6 ps) ≡ Some (us, e.0) = read_one (tags_are laws.entries features ps parts follows allowed) us d.0 p.tags e.0 has.tags (subst (λ (t : Spaces). length t.tags + length p.tags ≤ MAX_TAGS) d_is (front_fits (imported tags_in p.imports) p.tags valid.few_tags)) (mapped (add_tag G us) d.0 e.0 p.tags e.1) in
      let run7 : each (step features) (us, e.0) (at_rank 7 ps) ≡ Some (us, f.0) = read_one (globals_are laws.entries features ps parts follows allowed) us e.0 p.globals f.0 has.globals (subst (λ (t : Spaces). length t.globals + length p.globals ≤ MAX_GLOBALS) e_is (listed_fit (listed_global is) global_type (imported globals_in p.imports) p.globals valid.few_globals)) f.1 in
      let run8 : each (step features) (us, f.0) (at_rank 8 ps) ≡ Some (us, g.0) = read_one (exports_are laws.entries features ps parts follows allowed) us f.0 p.exports g.0 has.exports (subst (λ (t : Spaces). length t.exports + length p.exports ≤ MAX_EXPORTS) f_is (omega (arith, few_exports))) (mapped (add_export G us) f.0 g.0 p.exports g.1) in
      let startable = for_each (IsValidStart (index_spaces space p)) (λ x. is_startable us (spaces_of G space is (up_to_exports p)) x ≡ true) p.starts (λ x v. (starts_are_decided G us is space stand (up_to_exports p) x).1 v) others.starts in
      let run9 : each (step features) (us, g.0) (at_rank 9 ps) ≡ Some (us, g.0) = starts_read laws.entries features ps parts follows allowed (us, g.0)
      (subst (λ (xs : List ℕ). All (λ x. is_startable us g.0 x ≡ true) xs) (sym has.starts) (subst (λ (t : Spaces). All (λ x. is_startable us t x ≡ true) p.starts) g_is startable)) in
      let run10 : each (step features) (us, g.0) (at_rank 10 ps) ≡ Some (us, h.0) = read_one (elements_are laws.entries features ps parts follows allowed) us g.0 p.elements h.0 has.elements (subst (λ (t : Spaces). length t.elements + length p.elements ≤ MAX_ELEMENT_SEGMENTS) g_is (omega (arith, few_elements))) h.1 in
      let run11 : each (step features) (us, h.0) (at_rank 11 ps) ≡ Some (us, h.0) = counts_read laws.entries features ps parts follows allowed (us, h.0) (subst (λ (ns : List ℕ). All (λ n. n ≤ MAX_DATA_SEGMENTS) ns) (sym has.data_counts) others.data_counts) in
      let run12 = code_starts laws.entries features ps parts follows allowed (us, h.0) in
      let run13 = bodies_passed laws.entries features ps parts follows allowed (us, h.0) in
      let run14 : each (step features) (us, h.0) (at_rank 14 ps) ≡ Some (us, q) = read_one (segments_are laws.entries features ps parts follows allowed) us h.0 p.segments q has.segments (omega (arith, few_segments)) (mapped (add_data G (types_declare us us)) h.0 q p.segments h.2) in
      by_sections features ps start parts follows
      ∙ ap (option_and_then (λ t. by_rank (step features) (2 ∷ 3 ∷ 4 ∷ 5 ∷ 6 ∷ 7 ∷ 8 ∷ 9 ∷ 10 ∷ 11 ∷ 12 ∷ 13 ∷ 14 ∷ []) t ps)) run1
      ∙ ap (option_and_then (λ t. by_rank (step features) (3 ∷ 4 ∷ 5 ∷ 6 ∷ 7 ∷ 8 ∷ 9 ∷ 10 ∷ 11 ∷ 12 ∷ 13 ∷ 14 ∷ []) t ps)) run2
      ∙ ap (option_and_then (λ t. by_rank (step features) (4 ∷ 5 ∷ 6 ∷ 7 ∷ 8 ∷ 9 ∷ 10 ∷ 11 ∷ 12 ∷ 13 ∷ 14 ∷ []) t ps)) run3
      ∙ ap (option_and_then (λ t. by_rank (step features) (5 ∷ 6 ∷ 7 ∷ 8 ∷ 9 ∷ 10 ∷ 11 ∷ 12 ∷ 13 ∷ 14 ∷ []) t ps)) run4
      ∙ ap (option_and_then (λ t. by_rank (step features) (6 ∷ 7 ∷ 8 ∷ 9 ∷ 10 ∷ 11 ∷ 12 ∷ 13 ∷ 14 ∷ []) t ps)) run5
      ∙ ap (option_and_then (λ t. by_rank (step features) (7 ∷ 8 ∷ 9 ∷ 10 ∷ 11 ∷ 12 ∷ 13 ∷ 14 ∷ []) t ps)) run6
      ∙ ap (option_and_then (λ t. by_rank (step features) (8 ∷ 9 ∷ 10 ∷ 11 ∷ 12 ∷ 13 ∷ 14 ∷ []) t ps)) run7
      ∙ ap (option_and_then (λ t. by_rank (step features) (9 ∷ 10 ∷ 11 ∷ 12 ∷ 13 ∷ 14 ∷ []) t ps)) run8
      ∙ ap (option_and_then (λ t. by_rank (step features) (10 ∷ 11 ∷ 12 ∷ 13 ∷ 14 ∷ []) t ps)) run9
      ∙ ap (option_and_then (λ t. by_rank (step features) (11 ∷ 12 ∷ 13 ∷ 14 ∷ []) t ps)) run10
      ∙ ap (option_and_then (λ t. by_rank (step features) (12 ∷ 13 ∷ 14 ∷ []) t ps)) run11
      ∙ ap (option_and_then (λ t. by_rank (step features) (13 ∷ 14 ∷ []) t ps)) run12
      ∙ ap (option_and_then (λ t. by_rank (step features) (14 ∷ []) t ps)) run13
      ∙ ap (option_and_then (λ t. Some t)) run14
