-- What has been read is so in every state that calls lead to.
use Rattle.std.proofs.Common.{◌≡◌, refl, sym, ap, subst, ◌∙◌, ℕ, ◌+◌, ◌==◌, Bool, true, false, ◌&&◌, ◌||◌, cond, eqb, leb, List, [], ◌∷◌, ◌++◌, map, length, Option, Some, None}
use Rattle.std.specs.Option.{option_and_then}
use Rattle.std.proofs.lemmas.Bool.{eqb-true}
use Rattle.std.proofs.lemmas.List.Elements.{All-nil}
use Rattle.std.proofs.lemmas.Option.{none-some, same_Some}
use Rattle.wasm_spec.specs.Syntax.{map_rec}
use Rattle.wasm_spec.specs.Values.{items_at}
use Rattle.wasm_spec.specs.BinaryModules.{Import}
use Rattle.wasm_spec.specs.BinaryTypes.{rec_at}
use Rattle.wasm_spec.specs.Features.{Features, canonical}
use Rattle.wasm_spec.specs.Framing as framing
use Rattle.wasm_spec.specs.Framing.{Piece, Version, Custom, Counted, Start, DataCount, CodeStart, CodeEntry, Unknown}
use Rattle.wasm_spec.specs.GroupRules.{IsValidType}
use Rattle.wasm_spec.specs.Trees.{DefType, declared}
use Rattle.wasm_spec.proofs.LawSet.{rec_renames}
use Rattle.wasm_spec_rules.specs.FeatureFlags.{features_of}
use Rattle.wasm_spec_rules.specs.IndexSpaces.{IndexSpaces, table_type, global_type}
use Rattle.wasm_spec_rules.specs.ItemRules.{IsValidTableEntry}
use Rattle.wasm_spec_rules.specs.Parts.{Parts, index}
use Rattle.wasm_spec_rules.specs.Sections.{each}
use Rattle.wasm_spec_rules.specs.Limits.{most_types}
use Rattle.wasm_spec_rules.proofs.Tests.{then_some, guarded}
use Rattle.wasm_spec_validity.specs.Modules.{Numbering}
use Rattle.wasm_spec_validity.proofs.FirstAppearances.{types_are_numbered}
use Rattle.wasm_validator_states.specs.WasmValidatorCanonical.Sections.{written}
use Rattle.wasm_validator_states.specs.WasmValidatorCanonical.DistinctTypes.{AreApart}
use Rattle.wasm_validator_states.specs.WasmValidatorCanonical.Groups.{AreValid}
use Rattle.wasm_validator_types.specs.Spaces.{Spaces, no_spaces}
use Rattle.wasm_validator_states.specs.WasmValidatorSections.WasmValidatorCore.Answers.{TypesSoFar}
use Rattle.wasm_validator_states.specs.WasmValidatorSections.WasmValidatorCore.Machine.{add_group}
use Rattle.wasm_validator_states.specs.WasmValidatorSections.WasmValidatorReferences.References.{section_names}
use Rattle.wasm_validator_states.specs.WasmValidatorSections.WasmLawsCore.Imports.{FitsImport, with_entry}
use Rattle.wasm_validator_states.specs.WasmValidatorSections.Machine.{type_items, section_items, start_item, data_count_item, beside}
use Rattle.wasm_validator_states.specs.WasmValidatorSections.ModuleNotes.{Noted, nothing_noted, naming, counting, noting_nothing}
use Rattle.wasm_validator_states.specs.WasmValidatorSections.CodeProgress.{Started, starting, taking, bodies_left}
use Rattle.wasm_validator_states.proofs.WasmValidatorSections.WasmLawsCore.AddedItems.{for_each}
use Rattle.wasm_validator_states.proofs.WasmValidatorSections.SectionEntries.{limited, section_entries}
use Rattle.wasm_validator_states.specs.ValidatorStages.{Stage, unparsed, in_module, in_code, ended, failed, Standing, fresh, refused_at, read_refused_at, body_refused_at, ended_at, reset_at, within, at_stage, HoldsValid}
use Rattle.wasm_validator_states.specs.States.{begun, within_by, after_section, after_start, after_data_count, after_code_start, code_started, body_taken, after_body, module_ended, after_piece, is_barred, left_by}
use Rattle.wasm_validator_states.specs.SectionLaws.{AddsEach}
use Rattle.wasm_validator_states.proofs.AddedTypes.{ends_at}
use Rattle.wasm_validator_states.proofs.ListGrowth.{within_some}
use Rattle.wasm_validator_states.proofs.KnownSections.{section_known}
use Rattle.wasm_validator_states.proofs.ModuleRun.{section_case}
use Rattle.wasm_validator_states.proofs.SectionLaws.{at_module}
use Rattle.wasm_laws_sections.specs.CallStates.{Called, accepted, refused, without_memory, reset, Leads, LeadsAll}
use Rattle.wasm_laws_sections.specs.StateInvariants.{Shows, HasRead, IsReadAt, ReachedStatesAreRead}
use Rattle.wasm_laws_sections.specs.AnyOrder.{Reads, ReadsCode, IsRightTable}
use Rattle.wasm_laws_sections.proofs.HeldTypes.{are_held, grown, types_shown}
use Rattle.wasm_laws_sections.proofs.ShownLists.{nothing_shown, no_parts, begun_shown, with_extern, import_shown, functions_shown, tables_shown, memories_shown, tags_shown, globals_shown, exports_shown, elements_shown}
use Rattle.wasm_laws_sections.proofs.SectionMethods.{starts_anywhere, data_counts_anywhere, code_starts_anywhere, bodies_anywhere, imports_anywhere, functions_anywhere, memories_anywhere, tags_anywhere, exports_anywhere, tables_anywhere, globals_anywhere, elements_anywhere, segments_anywhere, segments_after_code}

abbrev IsRead : Standing → Type 0
IsRead s = IsReadAt (features_of s.features) s.stage

at : (s t : Standing) (g : Stage) → t ≡ record s { stage = g } → IsReadAt (features_of s.features) g → IsRead t
at s t g e h = subst IsRead (sym e) h

unchanged : (s t : Standing) (g : Stage) → s.stage ≡ g → t ≡ s → IsReadAt (features_of s.features) g → IsRead t
unchanged s t g same e h = subst IsRead (sym e) (subst (λ (x : Stage). IsReadAt (features_of s.features) x) (sym same) h)

-- imports, one after another
imports_shown : (F : Features) (us : TypesSoFar) (ids : List ℕ) (types : List DefType) (is : List (Import ℕ)) (s t : Spaces) (C : IndexSpaces) (p : Parts) → s.types ≡ ids → C.types ≡ types → Shows F us s C p
    → AddsEach (FitsImport F types) (with_entry ids types) s is t → HasRead F us t
imports_shown F us ids types [] s t C p e same h a = subst (HasRead F us) a (record { spaces = C; parts = p; shows = h })
imports_shown F us ids types (i ∷ is) s t C p e same h a =
    let D = with_extern F us s C p h i.ty in
    let q : Parts = record p { imports = p.imports ++ i ∷ [] } in
    let one = import_shown F us s C p h i (subst (λ (ts : List DefType). FitsImport F ts s i) (sym same) a.0) in
    imports_shown F us ids types is (with_entry ids types s i) t D q e same
    (subst (λ (xs : List ℕ). Shows F us (with_entry xs types s i) D q) e (subst (λ (ts : List DefType). Shows F us (with_entry s.types ts s i) D q) same one))
    a.1

-- where a step within a module leads
moved_on : (s t : Standing) (p q : TypesSoFar × Spaces) (n : Noted) → record s { stage = in_module p.0 p.1 n } ≡ t → q ≡ p → t ≡ record s { stage = in_module q.0 q.1 n }
moved_on s t p q n e f = sym e ∙ (λ i. record s { stage = in_module (sym f i).0 (sym f i).1 n })

valid_before : (s t : Standing) (p : TypesSoFar × Spaces) (n : Noted) → record s { stage = in_module p.0 p.1 n } ≡ t → HoldsValid t → AreValid (features_of s.features) p.0
valid_before s t p n e v = subst HoldsValid (sym e) v

-- sections of a module, before the start of its code
module _ (s t : Standing) (us : TypesSoFar) (m : Spaces) (n : Noted) (stage : s.stage ≡ in_module us m n) (h : HasRead (features_of s.features) us m) (count : ℕ) (bytes : List ℕ) where
  abbrev F : Features
  F = features_of s.features

  abbrev C : IndexSpaces
  C = h.spaces

  abbrev P : Parts
  P = h.parts

  reads : Reads s us m n C P
  reads = record { stage = stage; shows = h.shows }

  k : Numbering C.types
  k = types_are_numbered C.types

  with_types : HoldsValid t → after_section s 1 count bytes ≡ Some t → IsRead t
  with_types v e =
      let add = add_group s.features in
      let there = length m.types in
      let entries = section_entries add (map_rec written) there most_types (us, m) (rec_at index) (rec_at written) (rec_renames written index) count bytes in
      let a = within_some s t us m n (naming []) (λ p. type_items s.features count bytes p) (sym (at_module s us m n 1 count bytes stage) ∙ e) in
      let b = then_some (limited add (map_rec written) there most_types (us, m)) (items_at (rec_at index) count bytes) a.0 (sym entries ∙ a.1) in
      let c = guarded (leb (there + length b.0) most_types) (each add (us, m) (map (map_rec written) b.0)) a.0 b.2 in
      let x = ends_at s.features b.0 (us, m) a.0 h.shows.types.few c.1 in
      let valid : AreValid F a.0.0 = valid_before s t a.0 (naming [] n) a.2 v in
      let still : AreValid F x.end.0 = subst (λ (p : TypesSoFar × Spaces). AreValid F p.0) (sym x.is) valid in
      let g = grown F us m.types C.types h.shows.types b.0 x.end.0 x.end.1 x.ran still x.few in
      at s t (in_module x.end.0 (record m { types = x.end.1 }) (naming [] n)) (moved_on s t a.0 (x.end.0, record m { types = x.end.1 }) (naming [] n) a.2 x.is)
      (record { spaces = record C { types = C.types ++ g.new_types }; parts = P; shows = types_shown F us m C P h.shows x.end.0 x.end.1 g })

  with_imports : after_section s 2 count bytes ≡ Some t → IsRead t
  with_imports e =
      let a = (imports_anywhere s t us m n C P count bytes reads).0 e in
      at s t (in_module us a.lists n) a.after (imports_shown F us m.types C.types a.items m a.lists C P refl refl h.shows a.added)

  with_functions : after_section s 3 count bytes ≡ Some t → IsRead t
  with_functions e =
      let a = (functions_anywhere s t us m n C P count bytes reads).0 e in
      at s t (in_module us (record m { functions = m.functions ++ a.items }) n) a.after
      (record { spaces = record C { functions = C.functions ++ a.items }; parts = record P { functions = P.functions ++ a.items }; shows = functions_shown F us m C P h.shows a.items a.rules a.few })

  with_tables : after_section s 4 count bytes ≡ Some t → IsRead t
  with_tables e =
      let a = (tables_anywhere s t us m n C P k count bytes reads).0 e in
      let valid = for_each (IsRightTable F C P k) (IsValidTableEntry F C.types) a.items (λ x (v : IsRightTable F C P k x). v.0) a.rules in
      subst IsRead (sym a.after) (record { spaces = record C { tables = C.tables ++ map table_type a.items }; parts = P; shows = tables_shown F us m C P h.shows a.items valid a.few })

  with_memories : after_section s 5 count bytes ≡ Some t → IsRead t
  with_memories e =
      let a = (memories_anywhere s t us m n C P count bytes reads).0 e in
      subst IsRead (sym a.after) (record { spaces = record C { memories = C.memories ++ a.items }; parts = P; shows = memories_shown F us m C P h.shows a.items a.few })

  with_globals : after_section s 6 count bytes ≡ Some t → IsRead t
  with_globals e =
      let a = (globals_anywhere s t us m n C P k count bytes reads).0 e in
      subst IsRead (sym a.0.after) (record { spaces = record C { globals = C.globals ++ map global_type a.0.items }; parts = P; shows = globals_shown F us m C P h.shows a.0.items a.0.rules a.0.few })

  with_exports : after_section s 7 count bytes ≡ Some t → IsRead t
  with_exports e =
      let a = (exports_anywhere s t us m n C P count bytes reads).0 e in
      subst IsRead (sym a.0.after) (record { spaces = C; parts = P; shows = exports_shown F us m C P h.shows a.0.items a.0.rules a.1 })

  with_elements : after_section s 9 count bytes ≡ Some t → IsRead t
  with_elements e =
      let a = (elements_anywhere s t us m n C P k count bytes reads).0 e in
      subst IsRead (sym a.after) (record { spaces = C; parts = P; shows = elements_shown F us m C P h.shows _ })

  with_segments : after_section s 11 count bytes ≡ Some t → IsRead t
  with_segments e = unchanged s t (in_module us m n) stage ((segments_anywhere s t us m n C P k count bytes reads).0 e).after h

  with_tags : after_section s 13 count bytes ≡ Some t → IsRead t
  with_tags e =
      let a = ((tags_anywhere s t us m n C P count bytes reads).0 e).1 in
      subst IsRead (sym a.after) (record { spaces = record C { tags = C.tags ++ a.items }; parts = P; shows = tags_shown F us m C P h.shows a.items a.rules a.few })

  some_items : (b : Bool) (g d : Noted) (o : Option (TypesSoFar × Spaces))
      → at_stage s (cond b (option_and_then (λ (p : TypesSoFar × Spaces). Some (in_module p.0 p.1 g)) o) (option_and_then (λ (p : TypesSoFar × Spaces). Some (in_module p.0 p.1 d)) o)) ≡ Some t → (q : TypesSoFar × Spaces) × (o ≡ Some q)
  some_items true g d None e = absurd (none-some t e)
  some_items true g d (Some q) e = (q, refl)
  some_items false g d None e = absurd (none-some t e)
  some_items false g d (Some q) e = (q, refl)

  with_section : (id : ℕ) → HoldsValid t → after_section s id count bytes ≡ Some t → IsRead t
  with_section id v e =
      let q = some_items (eqb id 11) n (naming (section_names id count bytes) n) (section_items s.features id count bytes (us, m)) (sym (at_module s us m n id count bytes stage) ∙ e) in
      section_case (λ i. after_section s i count bytes ≡ Some t → IsRead t) (with_types v) with_imports with_functions with_tables with_memories with_globals with_exports with_elements with_segments with_tags
      id (section_known s.features (us, m) q.0 id count bytes q.1) e

-- elsewhere none is accepted, but for data behind the start of the code
nowhere : (b : Bool) (s t : Standing) → at_stage s (cond b None None) ≡ Some t → ⊥
nowhere true s t e = none-some t e
nowhere false s t e = none-some t e

code_only : (b : Bool) (s t : Standing) (o : Option Stage) → at_stage s (cond b o None) ≡ Some t → b ≡ true
code_only true s t o e = refl
code_only false s t o e = absurd (none-some t e)

section_read : (s t : Standing) (id count : ℕ) (bytes : List ℕ) (g : Stage) → s.stage ≡ g → IsReadAt (features_of s.features) g → after_section s id count bytes ≡ Some t → HoldsValid t → IsRead t
section_read s t id count bytes (unparsed us) same h e v =
    absurd (nowhere (eqb id 11) s t (sym (ap (λ (x : Stage). at_stage s (within_by id (section_names id count bytes) (section_items s.features id count bytes) x)) same) ∙ e))
section_read s t id count bytes (in_module us m n) same h e v = with_section s t us m n same h count bytes id v e
section_read s t id count bytes (in_code us m c) same h e v =
    let here = sym (ap (λ (x : Stage). at_stage s (within_by id (section_names id count bytes) (section_items s.features id count bytes) x)) same) ∙ e in
    let is : id ≡ 11 = eqb-true id 11 (code_only (eqb id 11) s t _ here) in
    let r : ReadsCode s us m c h.0.spaces h.0.parts = record { stage = same; shows = h.0.shows } in
    let law = segments_after_code s t us m c h.0.spaces h.0.parts (types_are_numbered h.0.spaces.types) count bytes r in
    unchanged s t (in_code us m c) same (law.0 (subst (λ i. after_section s i count bytes ≡ Some t) is e)).after h
section_read s t id count bytes (ended us) same h e v =
    absurd (nowhere (eqb id 11) s t (sym (ap (λ (x : Stage). at_stage s (within_by id (section_names id count bytes) (section_items s.features id count bytes) x)) same) ∙ e))
section_read s t id count bytes failed same h e v =
    absurd (nowhere (eqb id 11) s t (sym (ap (λ (x : Stage). at_stage s (within_by id (section_names id count bytes) (section_items s.features id count bytes) x)) same) ∙ e))

-- other calls
module _ (s t : Standing) where
  start_read : (x : ℕ) (g : Stage) → s.stage ≡ g → IsReadAt (features_of s.features) g → after_start s x ≡ Some t → IsRead t
  start_read x (unparsed us) same h e = absurd (none-some t (sym (ap (λ (g : Stage). at_stage s (within noting_nothing (beside (λ us u. start_item us u x)) g)) same) ∙ e))
  start_read x (in_module us m n) same h e =
      unchanged s t (in_module us m n) same ((starts_anywhere s t us m n h.spaces h.parts x (record { stage = same; shows = h.shows })).0 e).1 h
  start_read x (in_code us m c) same h e = absurd (none-some t (sym (ap (λ (g : Stage). at_stage s (within noting_nothing (beside (λ us u. start_item us u x)) g)) same) ∙ e))
  start_read x (ended us) same h e = absurd (none-some t (sym (ap (λ (g : Stage). at_stage s (within noting_nothing (beside (λ us u. start_item us u x)) g)) same) ∙ e))
  start_read x failed same h e = absurd (none-some t (sym (ap (λ (g : Stage). at_stage s (within noting_nothing (beside (λ us u. start_item us u x)) g)) same) ∙ e))

  abbrev counted : ℕ → Stage → Option Standing
  counted k g = at_stage s (within (counting k) (beside (λ us u. data_count_item (features_of s.features) u k)) g)

  count_read : (k : ℕ) (g : Stage) → s.stage ≡ g → IsReadAt (features_of s.features) g → after_data_count s k ≡ Some t → IsRead t
  count_read k (unparsed us) same h e = absurd (none-some t (sym (ap (counted k) same) ∙ e))
  count_read k (in_module us m n) same h e =
      at s t (in_module us m (counting k n)) ((data_counts_anywhere s t us m n h.spaces h.parts k (record { stage = same; shows = h.shows })).0 e).1 h
  count_read k (in_code us m c) same h e = absurd (none-some t (sym (ap (counted k) same) ∙ e))
  count_read k (ended us) same h e = absurd (none-some t (sym (ap (counted k) same) ∙ e))
  count_read k failed same h e = absurd (none-some t (sym (ap (counted k) same) ∙ e))

  abbrev code_at : Stage → Option Standing
  code_at g = at_stage s (code_started g)

  code_read : (g : Stage) → s.stage ≡ g → IsReadAt (features_of s.features) g → after_code_start s ≡ Some t → IsRead t
  code_read (unparsed us) same h e = absurd (none-some t (sym (ap code_at same) ∙ e))
  code_read (in_module us m n) same h e =
      at s t (in_code us m (starting us m n)) ((code_starts_anywhere s t us m n h.spaces h.parts (record { stage = same; shows = h.shows })).0 e) (h, record { noted = n; context = refl })
  code_read (in_code us m c) same h e = absurd (none-some t (sym (ap code_at same) ∙ e))
  code_read (ended us) same h e = absurd (none-some t (sym (ap code_at same) ∙ e))
  code_read failed same h e = absurd (none-some t (sym (ap code_at same) ∙ e))

  abbrev body_at_stage : List ℕ → Stage → Option Standing
  body_at_stage bytes g = at_stage s (body_taken bytes g)

  body_read : (bytes : List ℕ) (g : Stage) → s.stage ≡ g → IsReadAt (features_of s.features) g → after_body s bytes ≡ Some t → IsRead t
  body_read bytes (unparsed us) same h e = absurd (none-some t (sym (ap (body_at_stage bytes) same) ∙ e))
  body_read bytes (in_module us m n) same h e = absurd (none-some t (sym (ap (body_at_stage bytes) same) ∙ e))
  body_read bytes (in_code us m c) same h e =
      at s t (in_code us m (taking c)) ((bodies_anywhere s t us m c h.0.spaces h.0.parts bytes (record { stage = same; shows = h.0.shows })).0 e).1 (h.0, record { noted = h.1.noted; context = h.1.context })
  body_read bytes (ended us) same h e = absurd (none-some t (sym (ap (body_at_stage bytes) same) ∙ e))
  body_read bytes failed same h e = absurd (none-some t (sym (ap (body_at_stage bytes) same) ∙ e))

  abbrev begun_at : ℕ → Bool → Stage → Option Standing
  begun_at number b g = at_stage s (begun number b g)

  header_read : (number : ℕ) (b : Bool) (g : Stage) → s.stage ≡ g → IsReadAt (features_of s.features) g → at_stage s (begun number b s.stage) ≡ Some t → IsRead t
  header_read number b (unparsed us) same h e =
      let a = then_some (λ (x : Stage). Some (record s { stage = x })) (begun number b (unparsed us)) t (sym (ap (begun_at number b) same) ∙ e) in
      let c = guarded (eqb number 1 && b) (Some (in_module us no_spaces nothing_noted)) a.0 a.1 in
      let there : t ≡ record s { stage = in_module us no_spaces nothing_noted } = sym (same_Some (record s { stage = a.0 }) t a.2) ∙ (λ i. record s { stage = sym (same_Some (in_module us no_spaces nothing_noted) a.0 c.1) i }) in
      at s t (in_module us no_spaces nothing_noted) there (record { spaces = nothing_shown; parts = no_parts; shows = begun_shown (features_of s.features) us h })
  header_read number b (in_module us m n) same h e = absurd (none-some t (sym (ap (begun_at number b) same) ∙ e))
  header_read number b (in_code us m c) same h e = absurd (none-some t (sym (ap (begun_at number b) same) ∙ e))
  header_read number b (ended us) same h e = absurd (none-some t (sym (ap (begun_at number b) same) ∙ e))
  header_read number b failed same h e = absurd (none-some t (sym (ap (begun_at number b) same) ∙ e))

  abbrev ended_there : Stage → Option Standing
  ended_there g = at_stage s (module_ended g)

  end_read : (g : Stage) → s.stage ≡ g → IsReadAt (features_of s.features) g → at_stage s (module_ended s.stage) ≡ Some t → IsRead t
  end_read (unparsed us) same h e = absurd (none-some t (sym (ap ended_there same) ∙ e))
  end_read (in_module us m n) same h e =
      at s t (ended us) (sym (same_Some (record s { stage = ended us }) t (sym (ap ended_there same) ∙ e))) (are_held (features_of s.features) us m.types h.spaces.types h.shows.types)
  end_read (in_code us m c) same h e =
      at s t (ended us) (sym (same_Some (record s { stage = ended us }) t (sym (ap ended_there same) ∙ e))) (are_held (features_of s.features) us m.types h.0.spaces.types h.0.shows.types)
  end_read (ended us) same h e = absurd (none-some t (sym (ap ended_there same) ∙ e))
  end_read failed same h e = absurd (none-some t (sym (ap ended_there same) ∙ e))

  piece_read : (p : Piece) → IsRead s → after_piece s p ≡ Some t → HoldsValid t → IsRead t
  piece_read (Version number kind) h e v = header_read number (eqb kind 0) s.stage refl h e
  piece_read (Custom name bytes) h e v = subst IsRead (same_Some s t e) h
  piece_read (Counted id n bytes) h e v = section_read s t id n bytes s.stage refl h e v
  piece_read (Start x) h e v = start_read x s.stage refl h e
  piece_read (DataCount n) h e v = count_read n s.stage refl h e
  piece_read (CodeStart n size) h e v = code_read s.stage refl h e
  piece_read (CodeEntry bytes) h e v = body_read bytes s.stage refl h e
  piece_read (Unknown id bytes) h e v = absurd (none-some t e)
  piece_read framing.End h e v = end_read s.stage refl h e

-- calls that are refused, and resets
module _ (F : Features) where
  refused_read : (g : Stage) → IsReadAt F g → IsReadAt F (refused_at g)
  refused_read (unparsed us) h = h
  refused_read (in_module us m n) h = tt
  refused_read (in_code us m c) h = h
  refused_read (ended us) h = h
  refused_read failed h = tt

  data_refused_read : (g : Stage) → IsReadAt F g → IsReadAt F (read_refused_at g)
  data_refused_read (unparsed us) h = h
  data_refused_read (in_module us m n) h = tt
  data_refused_read (in_code us m c) h = tt
  data_refused_read (ended us) h = h
  data_refused_read failed h = tt

  either_read : (b : Bool) (g : Stage) → IsReadAt F g → IsReadAt F (cond b (read_refused_at g) (refused_at g))
  either_read true g h = data_refused_read g h
  either_read false g h = refused_read g h

  turn_read : (b : Bool) (us : TypesSoFar) (m : Spaces) (c : Started) → IsReadAt F (in_code us m c) → IsReadAt F (cond b (in_code us m c) failed)
  turn_read true us m c h = h
  turn_read false us m c h = tt

  body_refused_read : (g : Stage) → IsReadAt F g → IsReadAt F (body_refused_at g)
  body_refused_read (unparsed us) h = h
  body_refused_read (in_module us m n) h = h
  body_refused_read (in_code us m c) h = turn_read (bodies_left m c == 0) us m c h
  body_refused_read (ended us) h = h
  body_refused_read failed h = tt

  end_refused_read : (g : Stage) → IsReadAt F g → IsReadAt F (ended_at g)
  end_refused_read (unparsed us) h = h
  end_refused_read (in_module us m n) h = tt
  end_refused_read (in_code us m c) h = tt
  end_refused_read (ended us) h = h
  end_refused_read failed h = tt

  reset_read : (g : Stage) → IsReadAt F g → IsReadAt F (reset_at g)
  reset_read (unparsed us) h = h
  reset_read (in_module us m n) h = h
  reset_read (in_code us m c) h = h
  reset_read (ended us) h = h
  reset_read failed h = tt

left_read : (s : Standing) (p : Piece) → IsRead s → IsReadAt (features_of s.features) (left_by s p)
left_read s (Version number kind) h = h
left_read s (Custom name bytes) h = h
left_read s (Counted id n bytes) h = either_read (features_of s.features) ((id == 11) || is_barred s.features id) s.stage h
left_read s (Start x) h = refused_read (features_of s.features) s.stage h
left_read s (DataCount n) h = refused_read (features_of s.features) s.stage h
left_read s (CodeStart n size) h = refused_read (features_of s.features) s.stage h
left_read s (CodeEntry bytes) h = body_refused_read (features_of s.features) s.stage h
left_read s (Unknown id bytes) h = h
left_read s framing.End h = end_refused_read (features_of s.features) s.stage h

call_read : (c : Called) (s t : Standing) → IsRead s → Leads c s t → IsRead t
call_read (accepted p) s t h e = piece_read s t p h e.0 e.1
call_read (refused p) s t h e = at s t (left_by s p) e (left_read s p h)
call_read without_memory s t h e = at s t failed e tt
call_read reset s t h e = at s t (reset_at s.stage) e.1 (reset_read (features_of s.features) s.stage h)

calls_read : (cs : List Called) (s t : Standing) → IsRead s → LeadsAll cs s t → IsRead t
calls_read [] s t h e = subst IsRead e h
calls_read (c ∷ cs) s t h e = calls_read cs e.0 t (call_read c s e.0 h e.1) e.2

none_apart : (c : Bool) → AreApart c []
none_apart true = (record { one_id = λ j k d e f. absurd (none-some d e) }, λ k d e. absurd (none-some d e))
none_apart false = λ k d e. absurd (none-some d e)

pub reached_states_are_read : ReachedStatesAreRead
reached_states_are_read s r =
    let F = features_of r.features in
    calls_read r.calls (fresh r.id r.features) s (record { valid = All-nil (IsValidType F declared); apart = none_apart (canonical F) }) r.led
