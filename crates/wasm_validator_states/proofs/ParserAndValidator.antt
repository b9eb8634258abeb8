-- The parser and the validator go together: while the parser gives sections, a module is being read.
use Rattle.std.proofs.Common.{◌≡◌, refl, sym, ap, subst, ◌∙◌, ◌⊎◌, inl, inr, ℕ, ◌-◌, Bool, true, false, true≢false, ◌==◌, ◌||◌, ◌&&◌, cond, eqb, ltb, leb, List, length, Option, Some, None}
use Rattle.std.specs.Option.{option_map, option_and_then}
use Rattle.std.specs.Prelude.{IsSome, nat_eq}
use Rattle.std.specs.Cmp.Lexicographic.{pointwise}
use Rattle.std.proofs.lemmas.Option.{cond_some, none-some, same_Some}
use Rattle.wasm_spec.specs.Values.{name_at, u32_at, bytes_at, sized_at}
use Rattle.wasm_spec.specs.Framing as parts
use Rattle.wasm_spec.specs.Framing.{Piece, Version, Custom, Counted, Start, DataCount, CodeStart, CodeEntry, Unknown, magic, u16_at, section_at, piece_of, number_of, agrees}
use Rattle.wasm_spec_rules.specs.FeatureFlags.{features_of}
use Rattle.wasm_parser.specs.Machine as parser
use Rattle.wasm_parser.specs.Machine.{may_follow, State, at_header, at_sections, version_of, numbers_of, header_of, entry_of, opened, behind, contents_of, alone_of, part_of, next_at, next_of}
use Rattle.wasm_parser.proofs.Steps.{then_some, map_some, gives, guarded, chosen, alone_is, which}
use Rattle.wasm_validator_sections.specs.WasmValidatorReferences.References.{section_names}
use Rattle.wasm_validator_types.specs.Spaces.{Spaces, no_spaces}
use Rattle.wasm_validator_sections.specs.WasmValidatorCore.Answers.{TypesSoFar}
use Rattle.wasm_validator_sections.specs.Machine.{section_items, start_item, data_count_item, beside}
use Rattle.wasm_validator_sections.specs.ModuleNotes.{Noted, nothing_noted, naming, counting, noting_nothing}
use Rattle.wasm_validator_sections.specs.CodeProgress.{starting, bodies_left}
use Rattle.wasm_validator_states.specs.ValidatorStages.{Stage, unparsed, in_module, in_code, ended, failed, Standing, shown_at, within, within_all, at_stage, refused_at, read_refused_at, body_refused_at, ended_at, IsEnded, HasNotEnded}
use Rattle.wasm_validator_states.specs.States.{begun, code_started, body_taken, after_piece, is_barred, left_by, IsBeforeEnd}
use Rattle.wasm_validator_states.proofs.ListGrowth.{within_some, body_some}
use Rattle.wasm_validator_states.proofs.ParserProgress.{IsOn}

-- where a piece leads the parser: the header to the sections, and each of them to more, up to the end
abbrev Leads : parser.Stage → Piece → parser.Stage → Type 0
Leads at_header p g = (number : ℕ) × (kind : ℕ) × (Version number kind ≡ p) × (at_sections ≡ g)
Leads at_sections p g = (IsBeforeEnd p × (at_sections ≡ g)) ⊎ (parser.ended ≡ g)
Leads parser.ended p g = ⊥
Leads parser.failed p g = ⊥

-- a section is not the end
before_end : (id : ℕ) (bytes : List ℕ) (p : Piece) → piece_of id bytes ≡ Some p → IsBeforeEnd p
unfolding piece_of
before_end id bytes p e =
    elim (chosen (eqb id 0) _ _ (Some p) e) [
      | inl a ↦ let m = map_some (λ (n : List ℕ × List ℕ). Custom n.0 n.1) (name_at bytes) p a.1 in subst IsBeforeEnd m.2 tt
      | inr a ↦ elim (chosen (eqb id 8) _ _ (Some p) a.1) [
        | inl b ↦ let m = map_some Start (number_of bytes) p b.1 in subst IsBeforeEnd m.2 tt
        | inr b ↦ elim (chosen (eqb id 12) _ _ (Some p) b.1) [
          | inl c ↦ let m = map_some DataCount (number_of bytes) p c.1 in subst IsBeforeEnd m.2 tt
          | inr c ↦ elim (chosen (ltb id 14) _ _ (Some p) c.1) [
            | inl d ↦ let m = map_some (λ (n : ℕ × List ℕ). Counted id n.0 n.1) (u32_at bytes) p d.1 in subst IsBeforeEnd m.2 tt
            | inr d ↦ subst IsBeforeEnd (same_Some (Unknown id bytes) p d.1) tt
          ]
        ]
      ]
    ]

abbrev stage_of : Piece × State → parser.Stage
stage_of x = x.1.stage

abbrev first_of : Piece × State → Piece
first_of x = x.0

abbrev InSections : Piece × State → Type 0
InSections x = IsBeforeEnd x.0 × (at_sections ≡ x.1.stage)

entry_leads : (s : State) (x : Piece × State) → s.stage ≡ at_sections → entry_of s ≡ Some x → InSections x
entry_leads s x on e =
    let m = map_some (λ (b : List ℕ × List ℕ). (CodeEntry b.0, record s { code = b.1; left = s.left - 1 })) (sized_at s.code) x e in
    (subst IsBeforeEnd (ap first_of m.2) tt, sym on ∙ ap stage_of m.2)

section_leads : (s : State) (z : Piece × State) → s.stage ≡ at_sections → alone_of s ≡ Some z → InSections z
section_leads s z on e =
    let x = then_some (λ (x : (ℕ × List ℕ) × List ℕ). cond (may_follow s.place x.0.0) (contents_of s x.0.0 x.0.1 x.1) None) (section_at s.bytes) z e in
    let id = x.0.0.0 in
    let body = x.0.0.1 in
    let rest = x.0.1 in
    let g = guarded (may_follow s.place id) (contents_of s id body rest) z x.2 in
    elim (chosen (eqb id 10) (option_map (λ (n : ℕ × List ℕ). (CodeStart n.0 (length n.1), opened s rest n)) (u32_at body)) (option_map (λ (q : Piece). (q, behind s id rest q)) (piece_of id body)) (Some z) g.1) [
      | inl a ↦
          let m = map_some (λ (n : ℕ × List ℕ). (CodeStart n.0 (length n.1), opened s rest n)) (u32_at body) z a.1 in
          (subst IsBeforeEnd (ap first_of m.2) tt, sym on ∙ ap stage_of m.2)
      | inr a ↦
          let m = map_some (λ (q : Piece). (q, behind s id rest q)) (piece_of id body) z a.1 in
          (subst IsBeforeEnd (ap first_of m.2) (before_end id body m.0 m.1), sym on ∙ ap stage_of m.2)
    ]

part_leads : (s : State) (x : Piece × State) → s.stage ≡ at_sections → part_of s ≡ Some x → Leads at_sections x.0 x.1.stage
part_leads s x on e =
    elim (which s x e) [
      | inl a ↦ inl (entry_leads s x on a.entry)
      | inr b ↦ elim b [
        | inl a ↦ inl (section_leads s x on (alone_is s x a.section))
        | inr a ↦ inr (ap stage_of (cond_some (agrees s.counts) (parts.End, record s { stage = parser.ended }) x a.ending).1)
      ]
    ]

header_leads : (s : State) (z : Piece × State) → header_of s ≡ Some z → Leads at_header z.0 z.1.stage
header_leads s z e =
    let x = then_some (λ (m : List ℕ × List ℕ). cond (pointwise nat_eq m.0 magic) (numbers_of s m.1) None) (bytes_at 4 s.bytes) z e in
    let g = guarded (pointwise nat_eq x.0.0 magic) (numbers_of s x.0.1) z x.2 in
    let n = then_some (λ (number : ℕ × List ℕ). option_and_then (version_of s number.0) (u16_at number.1)) (u16_at x.0.1) z g.1 in
    let k = then_some (version_of s n.0.0) (u16_at n.0.1) z n.2 in
    let is = (cond_some (leb k.0.0 1) (Version n.0.0 k.0.0, record s { stage = at_sections; bytes = k.0.1 }) z k.2).1 in
    (n.0.0, k.0.0, ap first_of is, ap stage_of is)

given_leads : (g : parser.Stage) (s : State) (p : Piece) (t : State) → s.stage ≡ g → next_at g s ≡ Some (Some (p, t)) → Leads g p t.stage
given_leads at_header s p t on e = header_leads s (p, t) (gives (header_of s) (p, t) e)
given_leads at_sections s p t on e = part_leads s (p, t) on (gives (part_of s) (p, t) e)
given_leads parser.ended s p t on e = absurd cc
given_leads parser.failed s p t on e = absurd cc

-- a module is being read
abbrev IsRead : Standing → Type 0
IsRead s = IsSome (shown_at s.stage)

within_read : (s t : Standing) (g : Stage) (note : Noted → Noted) (f : TypesSoFar × Spaces → Option (TypesSoFar × Spaces)) → at_stage s (within note f g) ≡ Some t → IsRead t
within_read s t (unparsed types) note f e = absurd (none-some t e)
within_read s t (in_module types spaces more) note f e = subst IsRead (within_some s t types spaces more note f e).2 refl
within_read s t (in_code types spaces more) note f e = absurd (none-some t e)
within_read s t (ended types) note f e = absurd (none-some t e)
within_read s t failed note f e = absurd (none-some t e)

within_all_read : (s t : Standing) (g : Stage) (f : TypesSoFar × Spaces → Option (TypesSoFar × Spaces)) → at_stage s (within_all f g) ≡ Some t → IsRead t
within_all_read s t (unparsed types) f e = absurd (none-some t e)
within_all_read s t (in_module types spaces more) f e = subst IsRead (within_some s t types spaces more noting_nothing f e).2 refl
within_all_read s t (in_code types spaces more) f e =
    let a = then_some (λ (g : Stage). Some (record s { stage = g })) (within_all f (in_code types spaces more)) t e in
    let b = then_some (λ (p : TypesSoFar × Spaces). Some (in_code p.0 p.1 more)) (f (types, spaces)) a.0 a.1 in
    subst IsRead (ap (λ (g : Stage). record s { stage = g }) (same_Some (in_code b.0.0 b.0.1 more) a.0 b.2) ∙ same_Some (record s { stage = a.0 }) t a.2) refl
within_all_read s t (ended types) f e = absurd (none-some t e)
within_all_read s t failed f e = absurd (none-some t e)

section_read : (b : Bool) (s t : Standing) (g : Stage) (note : Noted → Noted) (f : TypesSoFar × Spaces → Option (TypesSoFar × Spaces)) → at_stage s (cond b (within_all f g) (within note f g)) ≡ Some t → IsRead t
section_read true s t g note f e = within_all_read s t g f e
section_read false s t g note f e = within_read s t g note f e

begun_read : (s t : Standing) (number : ℕ) (b : Bool) (g : Stage) → at_stage s (begun number b g) ≡ Some t → IsRead t
begun_read s t number b (unparsed types) e =
    let a = then_some (λ (g : Stage). Some (record s { stage = g })) (begun number b (unparsed types)) t e in
    let c = cond_some (eqb number 1 && b) (in_module types no_spaces nothing_noted) a.0 a.1 in
    subst IsRead (ap (λ (g : Stage). record s { stage = g }) c.1 ∙ same_Some (record s { stage = a.0 }) t a.2) refl
begun_read s t number b (in_module types spaces more) e = absurd (none-some t e)
begun_read s t number b (in_code types spaces more) e = absurd (none-some t e)
begun_read s t number b (ended types) e = absurd (none-some t e)
begun_read s t number b failed e = absurd (none-some t e)

code_read : (s t : Standing) (g : Stage) → at_stage s (code_started g) ≡ Some t → IsRead t
code_read s t (unparsed types) e = absurd (none-some t e)
code_read s t (in_module types spaces more) e = subst IsRead (same_Some (record s { stage = in_code types spaces (starting types spaces more) }) t e) refl
code_read s t (in_code types spaces more) e = absurd (none-some t e)
code_read s t (ended types) e = absurd (none-some t e)
code_read s t failed e = absurd (none-some t e)

body_read : (s t : Standing) (bytes : List ℕ) (g : Stage) → at_stage s (body_taken bytes g) ≡ Some t → IsRead t
body_read s t bytes (unparsed types) e = absurd (none-some t e)
body_read s t bytes (in_module types spaces more) e = absurd (none-some t e)
body_read s t bytes (in_code types spaces more) e = subst IsRead (body_some s t bytes types spaces more e).2 refl
body_read s t bytes (ended types) e = absurd (none-some t e)
body_read s t bytes failed e = absurd (none-some t e)

-- it is read on behind what is accepted before its end
piece_read : (s t : Standing) (p : Piece) → IsBeforeEnd p → after_piece s p ≡ Some t → IsRead s → IsRead t
piece_read s t (Version number kind) b e h = begun_read s t number (eqb kind 0) s.stage e
piece_read s t (Custom name bytes) b e h = subst IsRead (same_Some s t e) h
piece_read s t (Counted id n bytes) b e h = section_read (eqb id 11) s t s.stage (naming (section_names id n bytes)) (section_items s.features id n bytes) e
piece_read s t (Start x) b e h = within_read s t s.stage noting_nothing (beside (λ us u. start_item us u x)) e
piece_read s t (DataCount n) b e h = within_read s t s.stage (counting n) (beside (λ us u. data_count_item (features_of s.features) u n)) e
piece_read s t (CodeStart n size) b e h = code_read s t s.stage e
piece_read s t (CodeEntry bytes) b e h = body_read s t bytes s.stage e
piece_read s t (Unknown id bytes) b e h = absurd (none-some t e)
piece_read s t parts.End b e h = absurd b

-- Before the header nothing was taken; while the parser gives sections a module is being read.
abbrev pub Together : parser.Stage → Standing → Standing → Type 0
Together at_header old now = old ≡ now
Together at_sections old now = IsRead now
Together parser.ended old now = Unit {0}
Together parser.failed old now = ⊥

pub is_on : (g : parser.Stage) (old now : Standing) → Together g old now → IsOn g
is_on at_header old now h = tt
is_on at_sections old now h = tt
is_on parser.ended old now h = tt
is_on parser.failed old now h = h

step_from : (g : parser.Stage) (s s' : State) (p : Piece) (old now now' : Standing) → s.stage ≡ g → next_at g s ≡ Some (Some (p, s')) → after_piece now p ≡ Some now' → Together g old now → Together s'.stage old now'
step_from at_header s s' p old now now' on e a h =
    let b = given_leads at_header s p s' on e in
    subst (λ (g : parser.Stage). Together g old now') b.3 (begun_read now now' b.0 (eqb b.1 0) now.stage (ap (after_piece now) b.2 ∙ a))
step_from at_sections s s' p old now now' on e a h =
    elim (given_leads at_sections s p s' on e) [
      | inl b ↦ subst (λ (g : parser.Stage). Together g old now') b.1 (piece_read now now' p b.0 a h)
      | inr b ↦ subst (λ (g : parser.Stage). Together g old now') b tt
    ]
step_from parser.ended s s' p old now now' on e a h = absurd cc
step_from parser.failed s s' p old now now' on e a h = absurd h

pub together_step : (s s' : State) (p : Piece) (old now now' : Standing) → next_of s ≡ Some (Some (p, s')) → after_piece now p ≡ Some now' → Together s.stage old now → Together s'.stage old now'
together_step s s' p old now now' e a h = step_from s.stage s s' p old now now' refl e a h

-- a refusal while a module is being read doesn't end it
stays_read : (g : Stage) → IsSome (shown_at g) → IsEnded g → ⊥
stays_read (unparsed types) h e = e
stays_read (in_module types spaces more) h e = e
stays_read (in_code types spaces more) h e = e
stays_read (ended types) h e = true≢false (sym h)
stays_read failed h e = e

refused_read : (g : Stage) → IsSome (shown_at g) → IsEnded (refused_at g) → ⊥
refused_read (unparsed types) h e = e
refused_read (in_module types spaces more) h e = e
refused_read (in_code types spaces more) h e = e
refused_read (ended types) h e = true≢false (sym h)
refused_read failed h e = e

all_refused_read : (g : Stage) → IsSome (shown_at g) → IsEnded (read_refused_at g) → ⊥
all_refused_read (unparsed types) h e = e
all_refused_read (in_module types spaces more) h e = e
all_refused_read (in_code types spaces more) h e = e
all_refused_read (ended types) h e = true≢false (sym h)
all_refused_read failed h e = e

either_refused_read : (b : Bool) (g : Stage) → IsSome (shown_at g) → IsEnded (cond b (read_refused_at g) (refused_at g)) → ⊥
either_refused_read true g h e = all_refused_read g h e
either_refused_read false g h e = refused_read g h e

turn_read : (b : Bool) (g : Stage) → (IsEnded g → ⊥) → IsEnded (cond b g failed) → ⊥
turn_read true g h e = h e
turn_read false g h e = e

body_refused_read : (g : Stage) → IsSome (shown_at g) → IsEnded (body_refused_at g) → ⊥
body_refused_read (unparsed types) h e = e
body_refused_read (in_module types spaces more) h e = e
body_refused_read (in_code types spaces more) h e = turn_read (eqb (bodies_left spaces more) 0) (in_code types spaces more) (λ x. x) e
body_refused_read (ended types) h e = true≢false (sym h)
body_refused_read failed h e = e

end_read : (g : Stage) → IsSome (shown_at g) → IsEnded (ended_at g) → ⊥
end_read (unparsed types) h e = true≢false (sym h)
end_read (in_module types spaces more) h e = e
end_read (in_code types spaces more) h e = e
end_read (ended types) h e = true≢false (sym h)
end_read failed h e = e

left_read : (s : Standing) (p : Piece) → IsRead s → IsEnded (left_by s p) → ⊥
left_read s (Version number kind) h e = stays_read s.stage h e
left_read s (Custom name bytes) h e = stays_read s.stage h e
left_read s (Counted id n bytes) h e = either_refused_read ((id == 11) || is_barred s.features id) s.stage h e
left_read s (Start x) h e = refused_read s.stage h e
left_read s (DataCount n) h e = refused_read s.stage h e
left_read s (CodeStart n size) h e = refused_read s.stage h e
left_read s (CodeEntry bytes) h e = body_refused_read s.stage h e
left_read s (Unknown id bytes) h e = stays_read s.stage h e
left_read s parts.End h e = end_read s.stage h e

-- so where the next payload is refused, no module has ended
refused_from : (g : parser.Stage) (s s' : State) (p : Piece) (old now : Standing) → s.stage ≡ g → next_at g s ≡ Some (Some (p, s')) → Together g old now → IsEnded (left_by now p) → IsEnded old.stage
refused_from at_header s s' p old now on e h x =
    let b = given_leads at_header s p s' on e in
    subst (λ (w : Standing). IsEnded w.stage) (sym h) (subst (λ (q : Piece). IsEnded (left_by now q)) (sym b.2) x)
refused_from at_sections s s' p old now on e h x = absurd (left_read now p h x)
refused_from parser.ended s s' p old now on e h x = absurd cc
refused_from parser.failed s s' p old now on e h x = absurd h

pub refused_together : (s s' : State) (p : Piece) (old now new : Standing) → next_of s ≡ Some (Some (p, s')) → Together s.stage old now → new ≡ record now { stage = left_by now p } → HasNotEnded old new
refused_together s s' p old now new e h left x = refused_from s.stage s s' p old now refl e h (subst (λ (w : Standing). IsEnded w.stage) left x)

-- nor where the parser refuses what follows
stuck_from : (g : parser.Stage) (s : State) (old now : Standing) → next_at g s ≡ None → Together g old now → HasNotEnded old now
stuck_from at_header s old now e h x = subst (λ (w : Standing). IsEnded w.stage) (sym h) x
stuck_from at_sections s old now e h x = absurd (stays_read now.stage h x)
stuck_from parser.ended s old now e h x = absurd cc
stuck_from parser.failed s old now e h x = absurd h

pub stuck_together : (s : State) (old now : Standing) → next_of s ≡ None → Together s.stage old now → HasNotEnded old now
stuck_together s old now e h = stuck_from s.stage s old now e h
