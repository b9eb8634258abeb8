-- Each section method, in whatever state calls have led to.
use Rattle.std.proofs.Common.{◌≡◌, refl, sym, ap, subst, ◌∙◌, ℕ, ◌+◌, ◌-◌, ◌≤◌, ◌<◌, true, false, cond, eqb, leb, List, [], ◌∷◌, ◌++◌, map, length, Option, Some, None, IsTrue, arith, append_assoc, append-nil, length-append}
use Rattle.std.specs.Bool.{Decides}
use Rattle.std.specs.List.{All}
use Rattle.std.specs.Option.{option_and_then}
use Rattle.std.proofs.lemmas.Bool.{leb-true, le-leb, eqb-false, ne_eqb}
use Rattle.std.proofs.lemmas.Bool.Decides.{Decides-at, Decides-like, Decides-and}
use Rattle.std.proofs.lemmas.List.Elements.{All-nil, All-cons, All-head, All-tail}
use Rattle.std.proofs.lemmas.Option.{none-some, same_Some}
use Rattle.wasm_spec.specs.Values.{items_at}
use Rattle.wasm_spec.specs.BinarySections.{TableEntry, GlobalEntry, Element, Data, data_at}
use Rattle.wasm_spec.specs.Features.{Features}
use Rattle.wasm_spec.specs.Trees.{DefType}
use Rattle.wasm_spec_rules.specs.FeatureFlags.{features_of}
use Rattle.wasm_spec_rules.specs.IndexSpaces.{IndexSpaces, index_spaces}
use Rattle.wasm_spec_rules.specs.ItemRules.{IsValidGlobal}
use Rattle.wasm_spec_rules.specs.LinkRules.{IsValidStart}
use Rattle.wasm_spec_rules.specs.Parts.{Parts, Expression}
use Rattle.wasm_spec_rules.specs.Sections.{each}
use Rattle.wasm_spec_rules.specs.Limits.{most_globals, most_segments, most_body_bytes}
use Rattle.wasm_spec_rules.proofs.Tests.{then_some, guarded}
use Rattle.wasm_spec_validity.specs.Expressions.{expression_at}
use Rattle.wasm_spec_validity.specs.Modules.{Numbering}
use Rattle.wasm_validator_states.specs.WasmValidatorCanonical.Groups.{AreValid}
use Rattle.wasm_validator_types.specs.Spaces.{Spaces}
use Rattle.wasm_validator_states.specs.WasmValidatorSections.WasmValidatorCore.Answers.{TypesSoFar}
use Rattle.wasm_validator_states.specs.WasmValidatorSections.WasmValidatorCore.Items.{is_startable, is_data_count}
use Rattle.wasm_validator_states.specs.WasmValidatorSections.WasmValidatorReferences.References.{section_names, names_of_globals}
use Rattle.wasm_validator_states.specs.WasmValidatorSections.WasmLawsCore.ListedTypes.{types_declare}
use Rattle.wasm_validator_states.specs.WasmValidatorSections.WasmLawsCore.ModuleParts.{listed_table, listed_global, listed_element}
use Rattle.wasm_validator_states.specs.WasmValidatorSections.WasmLawsModules.Contexts.{ShowsConstants}
use Rattle.wasm_validator_states.specs.WasmValidatorSections.Entries.{may_be_stored, add_data}
use Rattle.wasm_validator_states.specs.WasmValidatorSections.Machine.{data_items, section_items, start_item, data_count_item, beside}
use Rattle.wasm_validator_states.specs.WasmValidatorSections.ModuleNotes.{Noted, naming, counting, noting_nothing}
use Rattle.wasm_validator_states.specs.WasmValidatorSections.CodeProgress.{Started, starting, taking, bodies_left}
use Rattle.wasm_validator_states.proofs.WasmValidatorSections.WasmLawsCore.AddedItems.{each_changed}
use Rattle.wasm_validator_states.proofs.WasmValidatorSections.WasmLawsCore.StartFunctions.{starts_are_decided}
use Rattle.wasm_validator_states.proofs.WasmValidatorSections.SectionEntries.{limited, section_entries, renames_nothing, same_item}
use Rattle.wasm_validator_states.specs.ValidatorStages.{Stage, Standing, in_module, in_code, HoldsAt, within, at_stage}
use Rattle.wasm_validator_states.specs.States.{within_by, after_section, after_start, after_data_count, after_code_start, code_started, body_taken, after_body}
use Rattle.wasm_validator_states.specs.SectionLaws.{IsReading, HasAdded, AddsEach, HasAddedEach, FitsTable, FitsGlobal, FitsElement}
use Rattle.wasm_validator_states.proofs.ListGrowth.{body_some}
use Rattle.wasm_validator_states.proofs.SectionLaws.{moved, moved_from, moved_to, at_module, functions_add, memories_add, tags_add}
use Rattle.wasm_validator_states.proofs.EntriesAdded.{tables_add, globals_add, elements_add}
use Rattle.wasm_validator_states.proofs.ExportsAdded.{exports_add}
use Rattle.wasm_validator_states.proofs.ImportsAdded.{imports_add}
use Rattle.wasm_validator_states.proofs.TypesAdded.{types_add}
use Rattle.wasm_validator_states.proofs.UsedLaws.{used_laws}
use Rattle.wasm_laws_sections.specs.StateInvariants.{HasTypes, Shows}
use Rattle.wasm_laws_sections.specs.AnyOrder.{Reads, IsRightTable, IsRightElement, IsRightData, AreRightGlobals, StartsAnywhere, DataCountsAnywhere, CodeStartsAnywhere, BodiesAnywhere, TypesAnywhere, ImportsAnywhere, FunctionsAnywhere, MemoriesAnywhere, TagsAnywhere, ExportsAnywhere, TablesAnywhere, GlobalsAnywhere, ElementsAnywhere, SegmentsAnywhere, SegmentsAfterCode}
use Rattle.wasm_laws_sections.proofs.HeldTypes.{stand}
use Rattle.wasm_laws_sections.proofs.ShownLists.{has_spaces, keeps_limits, elements_shown, global_shown}
use Rattle.wasm_laws_sections.proofs.ConstantsSoFar.{shows_constants, table_right, global_right, element_right, data_right}
use Rattle.wasm_laws_sections.proofs.AppendedItems.{all_of, each_of}

-- what the laws of sections ask of a state
pub reading : (old : Standing) (us : TypesSoFar) (m : Spaces) (n : Noted) (C : IndexSpaces) (parts : Parts) → Reads old us m n C parts → IsReading old us m n C.types
reading old us m n C parts r = record { stage = r.stage; stand = stand (features_of old.features) us m.types C.types r.shows.types }

-- a state at the stage where it is
same_stage : (old new : Standing) (g : Stage) → old.stage ≡ g → new ≡ record old { stage = g } → new ≡ old
same_stage old new g e is = is ∙ (λ i. record old { stage = sym e i })

stage_same : (old new : Standing) (g : Stage) → old.stage ≡ g → new ≡ old → new ≡ record old { stage = g }
stage_same old new g e is = is ∙ (λ i. record old { stage = e i })

pub types_anywhere : TypesAnywhere
types_anywhere old new us m n C parts count bytes r =
    types_add old new us m n C.types count bytes (reading old us m n C parts r) (subst (λ (g : Stage). HoldsAt (AreValid (features_of old.features)) g) (sym r.stage) r.shows.types.valid)

pub imports_anywhere : ImportsAnywhere
imports_anywhere old new us m n C parts count bytes r =
    imports_add old new us m n C.types count bytes (reading old us m n C parts r) (keeps_limits (features_of old.features) us m C parts r.shows)

pub functions_anywhere : FunctionsAnywhere
functions_anywhere old new us m n C parts count bytes r = functions_add old new us m n C.types count bytes (reading old us m n C parts r)

pub memories_anywhere : MemoriesAnywhere
memories_anywhere old new us m n C parts count bytes r = memories_add old new us m n C.types count bytes (reading old us m n C parts r)

pub tags_anywhere : TagsAnywhere
tags_anywhere old new us m n C parts count bytes r = tags_add old new us m n C.types count bytes (reading old us m n C parts r)

pub exports_anywhere : ExportsAnywhere
exports_anywhere old new us m n C parts count bytes r =
    exports_add old new us m n C count bytes (reading old us m n C parts r) (has_spaces (features_of old.features) us m C parts r.shows)

-- the start function
start_right : (F : Features) (us : TypesSoFar) (m : Spaces) (C : IndexSpaces) (parts : Parts) → Shows F us m C parts → (x : ℕ) → Decides (is_startable us m x) (IsValidStart C x)
start_right F us m C parts h x =
    let only : Parts = record parts { imports = []; functions = C.functions } in
    let there : Spaces = record m { functions = C.functions } in
    Decides-at (is_startable us m x) (is_startable us there x) (ap (λ (fs : List ℕ). is_startable us (record m { functions = fs }) x) h.functions.same)
    (Decides-like (is_startable us there x)
    (λ (v : IsValidStart (index_spaces C.types only) x). record { ty = v.ty; is_there = v.is_there; takes_and_gives_nothing = v.takes_and_gives_nothing })
    (λ (v : IsValidStart C x). record { ty = v.ty; is_there = v.is_there; takes_and_gives_nothing = v.takes_and_gives_nothing })
    (starts_are_decided F us m.types C.types (stand F us m.types C.types h.types) only x))

pub starts_anywhere : StartsAnywhere
starts_anywhere old new us m n C parts x r =
    let right = start_right (features_of old.features) us m C parts r.shows x in
    let here : after_start old x ≡ moved old new us n (start_item us m x) = ap (λ (g : Stage). at_stage old (within noting_nothing (beside (λ us t. start_item us t x)) g)) r.stage in (
      λ e. let a = moved_from old new us n (start_item us m x) (sym here ∙ e) in
          let g = guarded (is_startable us m x) (Some m) a.0 a.1 in
          (right.0 g.0, same_stage old new (in_module us m n) r.stage (a.2 ∙ (λ i. record old { stage = in_module us (sym (same_Some m a.0 g.1) i) n }))),
      λ p. here ∙ moved_to old new us n (start_item us m x) m (ap (λ b. cond b (Some m) None) (right.1 p.0)) (stage_same old new (in_module us m n) r.stage p.1),
    )

-- the data count
count_right : (F : Features) (k : ℕ) → Decides (is_data_count F k) (IsTrue F.bulk_memory × (k ≤ most_segments))
count_right F k = Decides-and F.bulk_memory (leb k most_segments) (λ e. e, λ e. e) (leb-true k most_segments, le-leb k most_segments)

pub data_counts_anywhere : DataCountsAnywhere
data_counts_anywhere old new us m n C parts k r =
    let F = features_of old.features in
    let right = count_right F k in
    let here : after_data_count old k ≡ moved old new us (counting k n) (data_count_item F m k) = ap (λ (g : Stage). at_stage old (within (counting k) (beside (λ us t. data_count_item F t k)) g)) r.stage in (
      λ e. let a = moved_from old new us (counting k n) (data_count_item F m k) (sym here ∙ e) in
          let g = guarded (is_data_count F k) (Some m) a.0 a.1 in
          (right.0 g.0, a.2 ∙ (λ i. record old { stage = in_module us (sym (same_Some m a.0 g.1) i) (counting k n) })),
      λ p. here ∙ moved_to old new us (counting k n) (data_count_item F m k) m (ap (λ b. cond b (Some m) None) (right.1 p.0)) p.1,
    )

-- the start of the code
pub code_starts_anywhere : CodeStartsAnywhere
code_starts_anywhere old new us m n C parts r =
    let next : Standing = record old { stage = in_code us m (starting us m n) } in
    let here : after_code_start old ≡ Some next = ap (λ (g : Stage). at_stage old (code_started g)) r.stage in
    (λ e. sym (same_Some next new (sym here ∙ e)), λ p. here ∙ ap Some (sym p))

-- a body: so many are left as are to come
left_some : (a b d t : ℕ) → b + d ≡ a → eqb ((a - b) - t) 0 ≡ false → t < d
left_some a b d t e h = let some = eqb-false ((a - b) - t) 0 h in omega (arith, e, some)

some_left : (a b d t : ℕ) → b + d ≡ a → t < d → eqb ((a - b) - t) 0 ≡ false
some_left a b d t e h = ne_eqb ((a - b) - t) 0 (λ none. omega (arith, e, h, none))

body_given : (old : Standing) (us : TypesSoFar) (m : Spaces) (c : Started) (bytes : List ℕ) → eqb (bodies_left m c) 0 ≡ false → leb (length bytes) most_body_bytes ≡ true
    → at_stage old (body_taken bytes (in_code us m c)) ≡ Some (record old { stage = in_code us m (taking c) })
body_given old us m c bytes some few =
    ap (λ b. at_stage old (cond b None (cond (leb (length bytes) most_body_bytes) (Some (in_code us m (taking c))) None))) some
    ∙ ap (λ b. at_stage old (cond b (Some (in_code us m (taking c))) None)) few

pub bodies_anywhere : BodiesAnywhere
bodies_anywhere old new us m c C parts bytes r =
    let here : after_body old bytes ≡ at_stage old (body_taken bytes (in_code us m c)) = ap (λ (g : Stage). at_stage old (body_taken bytes g)) r.stage in
    let defined : length m.imported_functions + length parts.functions ≡ length m.functions = r.shows.imported.defined ∙ sym (ap length r.shows.functions.same) in (
      λ e. let a = body_some old new bytes us m c (sym here ∙ e) in
          ((left_some (length m.functions) (length m.imported_functions) (length parts.functions) c.taken defined a.0, leb-true (length bytes) most_body_bytes a.1), sym a.2),
      λ p. here ∙ body_given old us m c bytes (some_left (length m.functions) (length m.imported_functions) (length parts.functions) c.taken defined p.0.0) (le-leb (length bytes) most_body_bytes p.0.1) ∙ ap Some (sym p.1),
    )

-- tables
module _ (F : Features) (us : TypesSoFar) (ids : List ℕ) (C : IndexSpaces) (parts : Parts) (k : Numbering C.types) (types : HasTypes F us ids C.types) where
  abbrev next_table : Spaces → TableEntry Expression ℕ → Spaces
  next_table s t = record s { tables = s.tables ++ listed_table s.types t.ty ∷ [] }

  abbrev with_tables : Spaces → List (TableEntry Expression ℕ) → Spaces
  with_tables s ts = record s { tables = s.tables ++ map (λ (t : TableEntry Expression ℕ). listed_table s.types t.ty) ts }

  abbrev ShowsHere : Spaces → Type 0
  ShowsHere s = ShowsConstants F us s C parts (length C.globals)

  table_keeps : (s : Spaces) (t : TableEntry Expression ℕ) → ShowsHere s → ShowsHere (next_table s t)
  table_keeps s t w = record {
    types = w.types;
    own_ids = w.own_ids;
    functions = w.functions;
    imported_functions = w.imported_functions;
    imported_first = w.imported_first;
    globals = w.globals;
    globals_in_range = w.globals_in_range;
    imported_globals = w.imported_globals;
  }

  no_tables : (s : Spaces) → with_tables s [] ≡ s
  no_tables s = λ i. record s { tables = append-nil s.tables i }

  one_table : (s : Spaces) (t : TableEntry Expression ℕ) (ts : List (TableEntry Expression ℕ)) → with_tables (next_table s t) ts ≡ with_tables s (t ∷ ts)
  one_table s t ts = λ i. record s { tables = append_assoc s.tables (listed_table s.types t.ty ∷ []) (map (λ (u : TableEntry Expression ℕ). listed_table s.types u.ty) ts) i }

  pub tables_all : (ts : List (TableEntry Expression ℕ)) (s t : Spaces) → ShowsHere s → AddsEach (FitsTable F us C.types) next_table s ts t → All (IsRightTable F C parts k) ts × (with_tables s ts ≡ t)
  tables_all = all_of (FitsTable F us C.types) (IsRightTable F C parts k) next_table ShowsHere (λ s t w. table_right F us ids C parts k types s w t) table_keeps with_tables no_tables one_table

  pub tables_each : (ts : List (TableEntry Expression ℕ)) (s t : Spaces) → ShowsHere s → All (IsRightTable F C parts k) ts → with_tables s ts ≡ t → AddsEach (FitsTable F us C.types) next_table s ts t
  tables_each = each_of (FitsTable F us C.types) (IsRightTable F C parts k) next_table ShowsHere (λ s t w. table_right F us ids C parts k types s w t) table_keeps with_tables no_tables one_table

-- items one after another, as a list of items
module _ {V : Type 0} {reads : List ℕ → Option (V × List ℕ)} {P : Spaces → V → Type 0} {Q : V → Type 0} {next : Spaces → V → Spaces} {there most : ℕ} {old new : Standing} {us : TypesSoFar} {m : Spaces} {n : Noted} {count : ℕ} {bytes : List ℕ} (lists : List V → Spaces) where
  as_all : HasAddedEach reads P next there most old new us m n count bytes → ((vs : List V) (t : Spaces) → AddsEach P next m vs t → All Q vs × (lists vs ≡ t)) → HasAdded reads Q there most lists old new us n count bytes
  as_all h f =
      let a = f h.items h.lists h.added in
      record { items = h.items; read = h.read; rules = a.0; few = h.few; after = h.after ∙ (λ i. record old { stage = in_module us (sym a.1 i) n }) }

  as_each : HasAdded reads Q there most lists old new us n count bytes → ((vs : List V) (t : Spaces) → All Q vs → lists vs ≡ t → AddsEach P next m vs t) → HasAddedEach reads P next there most old new us m n count bytes
  as_each h f = record { items = h.items; read = h.read; few = h.few; lists = lists h.items; added = f h.items (lists h.items) h.rules refl; after = h.after }

pub tables_anywhere : TablesAnywhere
tables_anywhere old new us m n C parts k count bytes r =
    let F = features_of old.features in
    let types = r.shows.types in
    let shows = shows_constants F us m C parts r.shows (length C.globals) refl in
    let law = tables_add used_laws.entries old new us m n C.types count bytes (reading old us m n C parts r) in (
      λ e. as_all (with_tables F us m.types C parts k types m) (law.0 e) (λ ts t a. tables_all F us m.types C parts k types ts m t shows a),
      λ h. law.1 (as_each (with_tables F us m.types C parts k types m) h (λ ts t a is. tables_each F us m.types C parts k types ts m t shows a is)),
    )

-- element segments
module _ (F : Features) (us : TypesSoFar) (C : IndexSpaces) (parts : Parts) (k : Numbering C.types) where
  abbrev next_element : Spaces → Element Expression ℕ → Spaces
  next_element s e = record s { elements = s.elements ++ listed_element s.types e ∷ [] }

  abbrev with_elements : Spaces → List (Element Expression ℕ) → Spaces
  with_elements s es = record s { elements = s.elements ++ map (listed_element s.types) es }

  abbrev ShowsLists : Spaces → Type 0
  ShowsLists s = Shows F us s C parts

  no_elements : (s : Spaces) → with_elements s [] ≡ s
  no_elements s = λ i. record s { elements = append-nil s.elements i }

  one_element : (s : Spaces) (e : Element Expression ℕ) (es : List (Element Expression ℕ)) → with_elements (next_element s e) es ≡ with_elements s (e ∷ es)
  one_element s e es = λ i. record s { elements = append_assoc s.elements (listed_element s.types e ∷ []) (map (listed_element s.types) es) i }

  element_keeps : (s : Spaces) (e : Element Expression ℕ) → ShowsLists s → ShowsLists (next_element s e)
  element_keeps s e w = elements_shown F us s C parts w (s.elements ++ listed_element s.types e ∷ [])

  pub elements_all : (es : List (Element Expression ℕ)) (s t : Spaces) → ShowsLists s → AddsEach (FitsElement F us) next_element s es t → All (IsRightElement F C parts k) es × (with_elements s es ≡ t)
  elements_all = all_of (FitsElement F us) (IsRightElement F C parts k) next_element ShowsLists (λ s e w. element_right F us C parts k s w e) element_keeps with_elements no_elements one_element

  pub elements_each : (es : List (Element Expression ℕ)) (s t : Spaces) → ShowsLists s → All (IsRightElement F C parts k) es → with_elements s es ≡ t → AddsEach (FitsElement F us) next_element s es t
  elements_each = each_of (FitsElement F us) (IsRightElement F C parts k) next_element ShowsLists (λ s e w. element_right F us C parts k s w e) element_keeps with_elements no_elements one_element

pub elements_anywhere : ElementsAnywhere
elements_anywhere old new us m n C parts k count bytes r =
    let F = features_of old.features in
    let law = elements_add used_laws.entries old new us m n C.types count bytes (reading old us m n C parts r) in (
      λ e. as_all (with_elements F us C parts k m) (law.0 e) (λ es t a. elements_all F us C parts k es m t r.shows a),
      λ h. law.1 (as_each (with_elements F us C parts k m) h (λ es t a is. elements_each F us C parts k es m t r.shows a is)),
    )

-- globals, each behind those before it
module _ (F : Features) (us : TypesSoFar) (parts : Parts) where
  abbrev next_global : Spaces → GlobalEntry Expression ℕ → Spaces
  next_global s g = record s { globals = s.globals ++ listed_global s.types g.ty ∷ [] }

  abbrev with_globals : Spaces → List (GlobalEntry Expression ℕ) → Spaces
  with_globals s gs = record s { globals = s.globals ++ map (λ (g : GlobalEntry Expression ℕ). listed_global s.types g.ty) gs }

  no_globals : (s : Spaces) → with_globals s [] ≡ s
  no_globals s = λ i. record s { globals = append-nil s.globals i }

  one_global : (s : Spaces) (g : GlobalEntry Expression ℕ) (gs : List (GlobalEntry Expression ℕ)) → with_globals (next_global s g) gs ≡ with_globals s (g ∷ gs)
  one_global s g gs = λ i. record s { globals = append_assoc s.globals (listed_global s.types g.ty ∷ []) (map (λ (u : GlobalEntry Expression ℕ). listed_global s.types u.ty) gs) i }

  abbrev with_global : IndexSpaces → GlobalEntry Expression ℕ → IndexSpaces
  with_global C g = record C { globals = C.globals ++ g.ty ∷ [] }

  abbrev AreValidGlobals : List DefType → List (GlobalEntry Expression ℕ) → Type 0
  AreValidGlobals types gs = All (λ (g : GlobalEntry Expression ℕ). IsValidGlobal F types g.ty) gs

  -- one more leaves room for the others
  longer : (s : Spaces) (g : GlobalEntry Expression ℕ) (gs : List (GlobalEntry Expression ℕ)) → length s.globals + length (g ∷ gs) ≤ most_globals → length (next_global s g).globals + length gs ≤ most_globals
  longer s g gs few = let many = length-append s.globals (listed_global s.types g.ty ∷ []) in omega (arith, few, many)

  pub globals_all : (gs : List (GlobalEntry Expression ℕ)) (s t : Spaces) (C : IndexSpaces) (k : Numbering C.types) → Shows F us s C parts → length s.globals + length gs ≤ most_globals
      → AddsEach (FitsGlobal F us C.types) next_global s gs t → AreValidGlobals C.types gs × AreRightGlobals F C parts k gs × (with_globals s gs ≡ t)
  globals_all [] s t C k h few a = (All-nil (λ (g : GlobalEntry Expression ℕ). IsValidGlobal F C.types g.ty), tt, no_globals s ∙ a)
  globals_all (g ∷ gs) s t C k h few a =
      let right = (global_right F us C parts k s h g).0 a.0 in
      let rest = globals_all gs (next_global s g) t (with_global C g) k (global_shown F us s C parts h g right.0 (omega (arith, few))) (longer s g gs few) a.1 in
      (All-cons (λ (x : GlobalEntry Expression ℕ). IsValidGlobal F C.types x.ty) g gs right.0 rest.0, (right, rest.1), sym (one_global s g gs) ∙ rest.2)

  pub globals_each : (gs : List (GlobalEntry Expression ℕ)) (s t : Spaces) (C : IndexSpaces) (k : Numbering C.types) → Shows F us s C parts → length s.globals + length gs ≤ most_globals
      → AreRightGlobals F C parts k gs → with_globals s gs ≡ t → AddsEach (FitsGlobal F us C.types) next_global s gs t
  globals_each [] s t C k h few a e = sym (no_globals s) ∙ e
  globals_each (g ∷ gs) s t C k h few a e = (
    (global_right F us C parts k s h g).1 a.0,
    globals_each gs (next_global s g) t (with_global C g) k (global_shown F us s C parts h g a.0.0 (omega (arith, few))) (longer s g gs few) a.1 (one_global s g gs ∙ e),
  )

pub globals_anywhere : GlobalsAnywhere
globals_anywhere old new us m n C parts k count bytes r =
    let F = features_of old.features in
    let law = globals_add used_laws.entries old new us m n C.types count bytes (reading old us m n C parts r) in (
      λ e. let h = law.0 e in
          let a = globals_all F us parts h.items m h.lists C k r.shows h.few h.added in
          (record { items = h.items; read = h.read; rules = a.0; few = h.few; after = h.after ∙ (λ i. record old { stage = in_module us (sym a.2 i) (naming (names_of_globals count bytes) n) }) }, a.1),
      λ p. law.1 (record {
        items = p.0.items;
        read = p.0.read;
        few = p.0.few;
        lists = with_globals F us parts m p.0.items;
        added = globals_each F us parts p.0.items m (with_globals F us parts m p.0.items) C k r.shows p.0.few p.1 refl;
        after = p.0.after;
      }),
    )

-- data segments, which change nothing
module _ (F : Features) (us : TypesSoFar) (m : Spaces) (C : IndexSpaces) (parts : Parts) (k : Numbering C.types) (h : Shows F us m C parts) where
  abbrev add : Spaces → Data Expression → Option Spaces
  add s d = add_data F (types_declare us us) s d

  abbrev IsRight : Data Expression → Type 0
  IsRight d = IsRightData F C parts k d

  segments_all : (ds : List (Data Expression)) (t : Spaces) → each add m ds ≡ Some t → All IsRight ds × (m ≡ t)
  segments_all [] t e = (All-nil IsRight, same_Some m t e)
  segments_all (d ∷ ds) t e =
      let a = then_some (λ s. each add s ds) (add m d) t e in
      let g = guarded (may_be_stored F (types_declare us us) m d.mode) (Some m) a.0 a.1 in
      let rest = segments_all ds t (ap (λ s. each add s ds) (same_Some m a.0 g.1) ∙ a.2) in
      (All-cons IsRight d ds ((data_right F us C parts k m h d).0 g.0) rest.0, rest.1)

  segments_each : (ds : List (Data Expression)) → All IsRight ds → each add m ds ≡ Some m
  segments_each [] a = refl
  segments_each (d ∷ ds) a =
      ap (λ b. option_and_then (λ s. each add s ds) (cond b (Some m) None)) ((data_right F us C parts k m h d).1 (All-head IsRight d ds a))
      ∙ segments_each ds (All-tail IsRight d ds a)

  module _ (count : ℕ) (bytes : List ℕ) where
    pub record AreSegments : Type 0 where
      pub items : List (Data Expression)
      pub read : items_at (data_at expression_at) count bytes ≡ Some items
      pub rules : All IsRight items
      pub few : length items ≤ most_segments

    entries : data_items F us count bytes m ≡ option_and_then (limited add same_item 0 most_segments m) (items_at (data_at expression_at) count bytes)
    entries = section_entries add same_item 0 most_segments m (data_at expression_at) (data_at expression_at) (renames_nothing (data_at expression_at)) count bytes

    pub segments_from : (t : Spaces) → data_items F us count bytes m ≡ Some t → AreSegments × (m ≡ t)
    segments_from t e =
        let b = then_some (limited add same_item 0 most_segments m) (items_at (data_at expression_at) count bytes) t (sym entries ∙ e) in
        let c = guarded (leb (0 + length b.0) most_segments) (each add m (map same_item b.0)) t b.2 in
        let a = segments_all b.0 t (sym (each_changed add same_item m b.0) ∙ c.1) in
        let few = leb-true (0 + length b.0) most_segments c.0 in
        (record { items = b.0; read = b.1; rules = a.0; few = omega (arith, few) }, a.1)

    pub segments_to : AreSegments → data_items F us count bytes m ≡ Some m
    segments_to s =
        let few = s.few in
        entries
        ∙ ap (option_and_then (limited add same_item 0 most_segments m)) s.read
        ∙ ap (λ b. cond b (each add m (map same_item s.items)) None) (le-leb (0 + length s.items) most_segments (omega (arith, few)))
        ∙ each_changed add same_item m s.items
        ∙ segments_each s.items s.rules

pub segments_anywhere : SegmentsAnywhere
segments_anywhere old new us m n C parts k count bytes r =
    let F = features_of old.features in
    let here : after_section old 11 count bytes ≡ moved old new us n (data_items F us count bytes m) = at_module old us m n 11 count bytes r.stage in (
      λ e. let a = moved_from old new us n (data_items F us count bytes m) (sym here ∙ e) in
          let s = segments_from F us m C parts k r.shows count bytes a.0 a.1 in
          record {
            items = s.0.items;
            read = s.0.read;
            rules = s.0.rules;
            few = s.0.few;
            after = same_stage old new (in_module us m n) r.stage (a.2 ∙ (λ i. record old { stage = in_module us (sym s.1 i) n }));
          },
      λ h. here
          ∙ moved_to old new us n (data_items F us count bytes m) m (segments_to F us m C parts k r.shows count bytes (record { items = h.items; read = h.read; rules = h.rules; few = h.few }))
          (stage_same old new (in_module us m n) r.stage h.after),
    )

-- behind the start of the code
module _ (s new : Standing) (us : TypesSoFar) (c : Started) where
  abbrev moved_code : Option Spaces → Option Standing
  moved_code o = option_and_then (λ (g : Stage). Some (record s { stage = g })) (option_and_then (λ (p : TypesSoFar × Spaces). Some (in_code p.0 p.1 c)) (option_and_then (λ (t : Spaces). Some (us, t)) o))

  pub code_from : (o : Option Spaces) → moved_code o ≡ Some new → (t : Spaces) × (o ≡ Some t) × (new ≡ record s { stage = in_code us t c })
  code_from None e = absurd (none-some new e)
  code_from (Some t) e = (t, refl, sym (same_Some (record s { stage = in_code us t c }) new e))

  pub code_to : (o : Option Spaces) (t : Spaces) → o ≡ Some t → new ≡ record s { stage = in_code us t c } → moved_code o ≡ Some new
  code_to o t e is = ap moved_code e ∙ ap Some (sym is)

pub segments_after_code : SegmentsAfterCode
segments_after_code old new us m c C parts k count bytes r =
    let F = features_of old.features in
    let here : after_section old 11 count bytes ≡ moved_code old new us c (data_items F us count bytes m)
    = ap (λ (g : Stage). at_stage old (within_by 11 (section_names 11 count bytes) (section_items old.features 11 count bytes) g)) r.stage in (
      λ e. let a = code_from old new us c (data_items F us count bytes m) (sym here ∙ e) in
          let s = segments_from F us m C parts k r.shows count bytes a.0 a.1 in
          record {
            items = s.0.items;
            read = s.0.read;
            rules = s.0.rules;
            few = s.0.few;
            after = same_stage old new (in_code us m c) r.stage (a.2 ∙ (λ i. record old { stage = in_code us (sym s.1 i) c }));
          },
      λ h. here
          ∙ code_to old new us c (data_items F us count bytes m) m (segments_to F us m C parts k r.shows count bytes (record { items = h.items; read = h.read; rules = h.rules; few = h.few }))
          (stage_same old new (in_code us m c) r.stage h.after),
    )
