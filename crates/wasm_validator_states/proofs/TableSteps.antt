-- The machine keeps the state table.
use Rattle.std.proofs.Common.{◌≡◌, refl, sym, ap, subst, ◌∙◌, inl, inr, ℕ, zero, suc, ◌+◌, ◌-◌, Bool, true, false, not, ◌&&◌, ◌||◌, cond, eqb, leb, List, length, Option, Some, None, arith}
use Rattle.std.specs.Option.{option_and_then}
use Rattle.std.proofs.lemmas.Bool.{eqb-true, eq-eqb, ne_eqb, not-true}
use Rattle.std.proofs.lemmas.Option.{same_Some}
use Rattle.wasm_spec_rules.proofs.Tests.{truth, when, unless, guarded, then_some}
use Rattle.wasm_spec.specs.Framing as parts
use Rattle.wasm_spec.specs.Framing.{Version, Custom, Counted, Start, DataCount, CodeStart, CodeEntry, Unknown}
use Rattle.wasm_spec_rules.specs.StateTable as table
use Rattle.wasm_spec_rules.specs.StateTable.{section, barred_section, data_section, code_start, accepted_to, refused_to}
use Rattle.wasm_validator_sections.specs.Bodies.{expected_bodies}
use Rattle.wasm_spec_rules.specs.FeatureFlags.{features_of}
use Rattle.wasm_readers_errors.specs.WasmReadersFeatures.declared.features.WasmFeatures.{WasmFeatures}
use Rattle.wasm_validator_types.specs.Spaces.{Spaces, no_spaces}
use Rattle.wasm_validator_sections.specs.WasmValidatorCore.declared.limits.TheConstants.{MAX_TAGS, MAX_DATA_SEGMENTS}
use Rattle.wasm_validator_sections.specs.WasmValidatorCore.Items.{add_tag}
use Rattle.wasm_validator_canonical.proofs.CanonicalTypes.{and_left, and_right}
use Rattle.wasm_spec.specs.BinaryTypes.{tag_at}
use Rattle.wasm_spec.specs.BinarySections.{Data, data_at}
use Rattle.wasm_spec.specs.Features.{Features}
use Rattle.wasm_spec_rules.specs.Parts.{Expression}
use Rattle.wasm_validator_sections.specs.WasmValidatorCore.Answers.{TypesSoFar}
use Rattle.wasm_validator_sections.specs.ModuleNotes.{Noted, nothing_noted, naming, counting, noting_nothing}
use Rattle.wasm_validator_sections.specs.CodeProgress.{Started, starting, taking, bodies_left}
use Rattle.wasm_validator_states.specs.ValidatorStages.{Stage, unparsed, in_module, in_code, ended, failed, Standing, refused_at, read_refused_at, body_refused_at, ended_at, within, within_all, at_stage}
use Rattle.wasm_validator_states.specs.States.{begun, code_started, body_taken, module_ended, after_piece, is_barred}
use Rattle.wasm_validator_sections.specs.WasmValidatorReferences.References.{section_names}
use Rattle.wasm_validator_states.proofs.ListGrowth.{body_some}
use Rattle.wasm_validator_sections.specs.Sections.{read_each, read_section}
use Rattle.wasm_validator_sections.specs.Entries.{may_be_stored, add_data}
use Rattle.wasm_validator_sections.specs.WasmLawsCore.ListedTypes.{types_declare}
use Rattle.wasm_spec_validity.specs.Expressions.{expression_at}
use Rattle.wasm_validator_sections.specs.Machine.{data_items, section_items, start_item, data_count_item, beside}
use Rattle.wasm_validator_sections.proofs.ItemSteps.{read_back}
use Rattle.wasm_validator_states.specs.Table.{phase_of, bodies_at, call_of, AcceptedByTable, RefusedByTable}

stays : (s t : Standing) (k : Noted) (o : Option (TypesSoFar × Spaces)) → at_stage s (option_and_then (λ (p : TypesSoFar × Spaces). Some (in_module p.0 p.1 k)) o) ≡ Some t → phase_of t.stage ≡ table.in_module
stays s t k None e = absurd cc
stays s t k (Some p) e = let same : record s { stage = in_module p.0 p.1 k } ≡ t = cc in ap (λ (u : Standing). phase_of u.stage) (sym same)

begins : (s t : Standing) (a b : Bool) (types : TypesSoFar) → at_stage s (cond (a && b) (Some (in_module types no_spaces nothing_noted)) None) ≡ Some t → phase_of t.stage ≡ table.in_module
begins s t true true types e = let same : record s { stage = in_module types no_spaces nothing_noted } ≡ t = cc in ap (λ (u : Standing). phase_of u.stage) (sym same)
begins s t true false types e = absurd cc
begins s t false b types e = absurd cc

-- a step within a module stays in it
within_stays : (s t : Standing) (g : Stage) (note : Noted → Noted) (f : TypesSoFar × Spaces → Option (TypesSoFar × Spaces)) → at_stage s (within note f g) ≡ Some t → (phase_of g ≡ table.in_module) × (phase_of t.stage ≡ table.in_module)
within_stays s t (unparsed types) note f e = absurd cc
within_stays s t (in_module types spaces more) note f e = (refl, stays s t (note more) (f (types, spaces)) e)
within_stays s t (in_code types spaces more) note f e = absurd cc
within_stays s t (ended types) note f e = absurd cc
within_stays s t failed note f e = absurd cc

section_accepted : (s t : Standing) (g : Stage) (note : Noted → Noted) (f : TypesSoFar × Spaces → Option (TypesSoFar × Spaces)) → at_stage s (within note f g) ≡ Some t → accepted_to section (phase_of g) ≡ Some (phase_of t.stage)
section_accepted s t g note f e = let h = within_stays s t g note f e in ap (accepted_to section) h.0 ∙ ap Some (sym h.1)

-- a data segment changes nothing, and so doesn't a section of them
segment_stays : (F : Features) (us : TypesSoFar) (s t : Spaces) (d : Data Expression) → add_data F (types_declare us us) s d ≡ Some t → s ≡ t
segment_stays F us s t d e = same_Some s t (guarded (may_be_stored F (types_declare us us) s d.mode) (Some s) t e).1

segments_stay : (F : Features) (n : ℕ) (bytes : List ℕ) (p q : TypesSoFar × Spaces) → beside (λ us. data_items F us n bytes) p ≡ Some q → p ≡ q
segments_stay F n bytes p q e =
    let declares = types_declare p.0 p.0 in
    let a = then_some (λ (s : Spaces). Some (p.0, s)) (data_items F p.0 n bytes p.1) q e in
    let b = guarded (leb (0 + n) MAX_DATA_SEGMENTS) (read_each (data_at expression_at) (add_data F declares) n bytes p.1) a.0 a.1 in
    let same : p.1 ≡ a.0 = read_back (data_at expression_at) (add_data F declares) (λ (u : Spaces). u ≡ a.0) (λ s t d g h. segment_stays F p.0 s t d g ∙ h) n bytes p.1 a.0 b.1 refl in
    (λ i. (p.0, same i)) ∙ same_Some (p.0, a.0) q a.2

pub data_stays : (features : WasmFeatures) (id n : ℕ) (bytes : List ℕ) (p q : TypesSoFar × Spaces) → id ≡ 11 → section_items features id n bytes p ≡ Some q → p ≡ q
data_stays features id n bytes p q h e = segments_stay (features_of features) n bytes p q (subst (λ k. section_items features k n bytes p ≡ Some q) h e)

-- a step that changes nothing, before the start of the code or behind it
within_all_stays : (s t : Standing) (g : Stage) (f : TypesSoFar × Spaces → Option (TypesSoFar × Spaces)) → ((p q : TypesSoFar × Spaces) → f p ≡ Some q → p ≡ q) → at_stage s (within_all f g) ≡ Some t → accepted_to data_section (phase_of g) ≡ Some (phase_of t.stage)
within_all_stays s t (unparsed types) f h e = absurd cc
within_all_stays s t (in_module types spaces more) f h e = ap Some (sym (stays s t more (f (types, spaces)) e))
within_all_stays s t (in_code types spaces more) f h e =
    let a = then_some (λ (g : Stage). Some (record s { stage = g })) (within_all f (in_code types spaces more)) t e in
    let b = then_some (λ (p : TypesSoFar × Spaces). Some (in_code p.0 p.1 more)) (f (types, spaces)) a.0 a.1 in
    ap (λ (p : TypesSoFar × Spaces). Some (phase_of (in_code p.0 p.1 more))) (h (types, spaces) b.0 b.1)
    ∙ ap (λ g. Some (phase_of g)) (same_Some (in_code b.0.0 b.0.1 more) a.0 b.2)
    ∙ ap (λ (u : Standing). Some (phase_of u.stage)) (same_Some (record s { stage = a.0 }) t a.2)
within_all_stays s t (ended types) f h e = absurd cc
within_all_stays s t failed f h e = absurd cc

-- a barred section is not accepted
barred_nowhere : (features : WasmFeatures) (id n : ℕ) (bytes : List ℕ) (p : TypesSoFar × Spaces) → is_barred features id ≡ true → section_items features id n bytes p ≡ None
barred_nowhere features id n bytes p e =
    let is = eqb-true id 13 (and_left (eqb id 13) (not (features_of features).exceptions) e) in
    let missing = not-true (features_of features).exceptions (and_right (eqb id 13) (not (features_of features).exceptions) e) in
    ap (λ k. section_items features k n bytes p) is
    ∙ ap (λ b. option_and_then (λ (s : Spaces). Some (p.0, s)) (cond b (read_section tag_at (add_tag (features_of features) p.0) (length p.1.tags) MAX_TAGS n bytes p.1) None)) missing

nowhere_within : (s t : Standing) (g : Stage) (note : Noted → Noted) (f : TypesSoFar × Spaces → Option (TypesSoFar × Spaces)) → ((p : TypesSoFar × Spaces) → f p ≡ None) → at_stage s (within note f g) ≡ Some t → ⊥
nowhere_within s t (unparsed types) note f none e = cc
nowhere_within s t (in_module types spaces more) note f none e = let h = ap (λ o. at_stage s (option_and_then (λ (p : TypesSoFar × Spaces). Some (in_module p.0 p.1 (note more))) o)) (sym (none (types, spaces))) ∙ e in cc
nowhere_within s t (in_code types spaces more) note f none e = cc
nowhere_within s t (ended types) note f none e = cc
nowhere_within s t failed note f none e = cc

section_or_barred : (s t : Standing) (b : Bool) (note : Noted → Noted) (f : TypesSoFar × Spaces → Option (TypesSoFar × Spaces)) → (b ≡ true → (p : TypesSoFar × Spaces) → f p ≡ None) → at_stage s (within note f s.stage) ≡ Some t
    → accepted_to (cond b barred_section section) (phase_of s.stage) ≡ Some (phase_of t.stage)
section_or_barred s t true note f none e = absurd (nowhere_within s t s.stage note f (none refl) e)
section_or_barred s t false note f none e = section_accepted s t s.stage note f e

counted_accepted : (s t : Standing) (id n : ℕ) (bytes : List ℕ) → after_piece s (Counted id n bytes) ≡ Some t → accepted_to (call_of s (Counted id n bytes)) (phase_of s.stage) ≡ Some (phase_of t.stage)
counted_accepted s t id n bytes e =
    let f = section_items s.features id n bytes in
    let note = naming (section_names id n bytes) in
    elim (truth (eqb id 11)) [
      | inl a ↦ ap (λ c. accepted_to c (phase_of s.stage)) (when (eqb id 11) data_section (cond (is_barred s.features id) barred_section section) a)
          ∙ within_all_stays s t s.stage f (λ p q. data_stays s.features id n bytes p q (eqb-true id 11 a)) (sym (ap (at_stage s) (when (eqb id 11) (within_all f s.stage) (within note f s.stage) a)) ∙ e)
      | inr a ↦ ap (λ c. accepted_to c (phase_of s.stage)) (unless (eqb id 11) data_section (cond (is_barred s.features id) barred_section section) a)
          ∙ section_or_barred s t (is_barred s.features id) note f (λ b p. barred_nowhere s.features id n bytes p b) (sym (ap (at_stage s) (unless (eqb id 11) (within_all f s.stage) (within note f s.stage) a)) ∙ e)
    ]

version_in : (s t : Standing) (number : ℕ) (b : Bool) (g : Stage) → at_stage s (begun number b g) ≡ Some t → (phase_of g ≡ table.unparsed) × (phase_of t.stage ≡ table.in_module)
version_in s t number b (unparsed types) e = (refl, begins s t (eqb number 1) b types e)
version_in s t number b (in_module types spaces more) e = absurd cc
version_in s t number b (in_code types spaces more) e = absurd cc
version_in s t number b (ended types) e = absurd cc
version_in s t number b failed e = absurd cc

code_starts : (s t : Standing) (g : Stage) → at_stage s (code_started g) ≡ Some t → accepted_to (code_start (bodies_at g)) (phase_of g) ≡ Some (phase_of t.stage)
code_starts s t (unparsed types) e = absurd cc
code_starts s t (in_module types spaces more) e = let same : record s { stage = in_code types spaces (starting types spaces more) } ≡ t = cc in ap (λ (u : Standing). Some (phase_of u.stage)) same
code_starts s t (in_code types spaces more) e = absurd cc
code_starts s t (ended types) e = absurd cc
code_starts s t failed e = absurd cc

ends : (s t : Standing) (g : Stage) → at_stage s (module_ended g) ≡ Some t → accepted_to table.end (phase_of g) ≡ Some (phase_of t.stage)
ends s t (unparsed types) e = absurd cc
ends s t (in_module types spaces more) e = let same : record s { stage = ended types } ≡ t = cc in ap (λ (u : Standing). Some (phase_of u.stage)) same
ends s t (in_code types spaces more) e = let same : record s { stage = ended types } ≡ t = cc in ap (λ (u : Standing). Some (phase_of u.stage)) same
ends s t (ended types) e = absurd cc
ends s t failed e = absurd cc

-- a body that is taken is one less to come
one_less : (s t : Standing) (spaces : Spaces) (c : Started) (n : ℕ) → bodies_left spaces c ≡ n → eqb (bodies_left spaces c) 0 ≡ false → accepted_to table.code_entry (table.in_code n) ≡ Some (table.in_code (bodies_left spaces (taking c)))
one_less s t spaces c zero e h = absurd (let is : eqb (bodies_left spaces c) 0 ≡ true = eq-eqb (bodies_left spaces c) 0 e in cc)
one_less s t spaces c (suc n) e h = ap (λ k. Some (table.in_code k)) (let less : n ≡ expected_bodies spaces - suc c.taken = omega (arith, e) in less)

body_accepted : (s t : Standing) (bytes : List ℕ) (g : Stage) → at_stage s (body_taken bytes g) ≡ Some t → accepted_to table.code_entry (phase_of g) ≡ Some (phase_of t.stage)
body_accepted s t bytes (unparsed types) e = absurd cc
body_accepted s t bytes (in_module types spaces more) e = absurd cc
body_accepted s t bytes (in_code types spaces more) e =
    let b = body_some s t bytes types spaces more e in
    one_less s t spaces more (bodies_left spaces more) refl b.0 ∙ ap (λ (u : Standing). Some (phase_of u.stage)) b.2
body_accepted s t bytes (ended types) e = absurd cc
body_accepted s t bytes failed e = absurd cc

pub accepted_by_table : AcceptedByTable
accepted_by_table s t (Version number kind) e = let h = version_in s t number (eqb kind 0) s.stage e in ap (accepted_to table.header) h.0 ∙ ap Some (sym h.1)
accepted_by_table s t (Custom name bytes) e = let same : s ≡ t = cc in ap (λ (u : Standing). Some (phase_of u.stage)) same
accepted_by_table s t (Counted id n bytes) e = counted_accepted s t id n bytes e
accepted_by_table s t (Start x) e = section_accepted s t s.stage noting_nothing (beside (λ us u. start_item us u x)) e
accepted_by_table s t (DataCount n) e = section_accepted s t s.stage (counting n) (beside (λ us u. data_count_item (features_of s.features) u n)) e
accepted_by_table s t (CodeStart n size) e = code_starts s t s.stage e
accepted_by_table s t (CodeEntry bytes) e = body_accepted s t bytes s.stage e
accepted_by_table s t (Unknown id bytes) e = absurd cc
accepted_by_table s t parts.End e = ends s t s.stage e

refused_section : (g : Stage) → refused_to section (phase_of g) ≡ phase_of (refused_at g)
refused_section (unparsed types) = refl
refused_section (in_module types spaces more) = refl
refused_section (in_code types spaces more) = refl
refused_section (ended types) = refl
refused_section failed = refl

refused_data : (g : Stage) → refused_to data_section (phase_of g) ≡ phase_of (read_refused_at g)
refused_data (unparsed types) = refl
refused_data (in_module types spaces more) = refl
refused_data (in_code types spaces more) = refl
refused_data (ended types) = refl
refused_data failed = refl

refused_barred : (g : Stage) → refused_to barred_section (phase_of g) ≡ phase_of (read_refused_at g)
refused_barred (unparsed types) = refl
refused_barred (in_module types spaces more) = refl
refused_barred (in_code types spaces more) = refl
refused_barred (ended types) = refl
refused_barred failed = refl

refused_counted : (a b : Bool) (g : Stage) → refused_to (cond a data_section (cond b barred_section section)) (phase_of g) ≡ phase_of (cond (a || b) (read_refused_at g) (refused_at g))
refused_counted true b g = refused_data g
refused_counted false true g = refused_barred g
refused_counted false false g = refused_section g

refused_code : (n : ℕ) (g : Stage) → refused_to (code_start n) (phase_of g) ≡ phase_of (refused_at g)
refused_code n (unparsed types) = refl
refused_code n (in_module types spaces more) = refl
refused_code n (in_code types spaces more) = refl
refused_code n (ended types) = refl
refused_code n failed = refl

refused_header : (g : Stage) → refused_to table.header (phase_of g) ≡ phase_of g
refused_header (unparsed types) = refl
refused_header (in_module types spaces more) = refl
refused_header (in_code types spaces more) = refl
refused_header (ended types) = refl
refused_header failed = refl

refused_custom : (g : Stage) → refused_to table.custom (phase_of g) ≡ phase_of g
refused_custom (unparsed types) = refl
refused_custom (in_module types spaces more) = refl
refused_custom (in_code types spaces more) = refl
refused_custom (ended types) = refl
refused_custom failed = refl

-- a body, where so many are to come
body_turn : (types : TypesSoFar) (spaces : Spaces) (more : Started) (n : ℕ) → bodies_left spaces more ≡ n → refused_to table.code_entry (table.in_code n) ≡ phase_of (cond (eqb n 0) (in_code types spaces more) failed)
body_turn types spaces more zero e = ap table.in_code (sym e)
body_turn types spaces more (suc n) e = ap phase_of (sym (unless (eqb (suc n) 0) (in_code types spaces more) failed (ne_eqb (suc n) 0 (λ h. cc))))

refused_body : (g : Stage) → refused_to table.code_entry (phase_of g) ≡ phase_of (body_refused_at g)
refused_body (unparsed types) = refl
refused_body (in_module types spaces more) = refl
refused_body (in_code types spaces more) = body_turn types spaces more (bodies_left spaces more) refl
refused_body (ended types) = refl
refused_body failed = refl

refused_unknown : (g : Stage) → refused_to table.unknown (phase_of g) ≡ phase_of g
refused_unknown (unparsed types) = refl
refused_unknown (in_module types spaces more) = refl
refused_unknown (in_code types spaces more) = refl
refused_unknown (ended types) = refl
refused_unknown failed = refl

refused_end : (g : Stage) → refused_to table.end (phase_of g) ≡ phase_of (ended_at g)
refused_end (unparsed types) = refl
refused_end (in_module types spaces more) = refl
refused_end (in_code types spaces more) = refl
refused_end (ended types) = refl
refused_end failed = refl

pub refused_by_table : RefusedByTable
refused_by_table s (Version number kind) = refused_header s.stage
refused_by_table s (Custom name bytes) = refused_custom s.stage
refused_by_table s (Counted id n bytes) = refused_counted (eqb id 11) (is_barred s.features id) s.stage
refused_by_table s (Start x) = refused_section s.stage
refused_by_table s (DataCount n) = refused_section s.stage
refused_by_table s (CodeStart n size) = refused_code (bodies_at s.stage) s.stage
refused_by_table s (CodeEntry bytes) = refused_body s.stage
refused_by_table s (Unknown id bytes) = refused_unknown s.stage
refused_by_table s parts.End = refused_end s.stage

pub ruleset table_laws = (accepted_by_table, refused_by_table)
