-- Where a custom section and a body lie.
use Rattle.std.proofs.Common.{◌≡◌, ◌≤◌, ◌<◌, ◌+◌, ◌-◌, refl, sym, ap, ◌∙◌, ℕ, Bool, false, cond, eqb, ltb, leb, List, [], ◌∷◌, length, Option, Some, None, ◌⊎◌, inl, inr, arith}
use Rattle.std.specs.Option.{option_map, option_and_then}
use Rattle.std.specs.Prelude.{nat_eq}
use Rattle.std.specs.Cmp.Lexicographic.{pointwise}
use Rattle.std.proofs.lemmas.List.{length-drop}
use Rattle.std.proofs.lemmas.Bool.{eqb-true, eqb-false}
use Rattle.std.proofs.lemmas.Option.{cond_some}
use Rattle.wasm_spec.specs.Values.{u32_at, bytes_at, sized_at, name_at}
use Rattle.wasm_spec.specs.Framing.{Piece, Version, Custom, Counted, Start, DataCount, CodeStart, CodeEntry, Unknown, End, magic, u16_at, section_at, number_of, piece_of, agrees}
use Rattle.wasm_parser.specs.Machine.{Stage, State, start, at_header, at_sections, ended, failed, may_follow, version_of, numbers_of, header_of, entry_of, opened, behind, contents_of, alone_of, ending_of, part_of, next_at, next_of}
use Rattle.wasm_parser.specs.Places.{reader_end, section_size, body_size, next_size, next_end, starts_at, ends_at, stands_at, stands_in_code, input_end, CodeIsWithin, CodeIsLast, BodiesAreLast, OfSameInput}
use Rattle.wasm_readers_bytes.specs.Reader.{input, original, position_in}
use Rattle.wasm_parser.specs.PayloadViews.{seen, state, name_of, data_of, data_reader, body_of, body_reader}
use Rattle.wasm_parser.specs.declared.payload.Payload.{Payload}
use Rattle.wasm_parser.specs.declared.payload.Payload.TheVariants as payloads
use Rattle.wasm_parser.specs.declared.parser.ParseAll.{ParseAll}
use Rattle.wasm_parser.proofs.Steps.{then_some, map_some, gives, guarded, chosen, truth, alone_is, which}
use Rattle.wasm_parser_ranges.specs.Ranges.{custom_section, custom_between, body_between, customs_in, bodies_in}
use Rattle.wasm_parser_ranges.specs.declared.bodies.Body.{Body}

-- what a header gives is a version
header_gives : (s : State) (z : Piece × State) → header_of s ≡ Some z → (number : ℕ) × (kind : ℕ) × (z.0 ≡ Version number kind)
header_gives s z e =
    let x = then_some (λ (m : List ℕ × List ℕ). cond (pointwise nat_eq m.0 magic) (numbers_of s m.1) None) (bytes_at 4 s.bytes) z e in
    let g = guarded (pointwise nat_eq x.0.0 magic) (numbers_of s x.0.1) z x.2 in
    let n = then_some (λ (number : ℕ × List ℕ). option_and_then (version_of s number.0) (u16_at number.1)) (u16_at x.0.1) z g.1 in
    let k = then_some (version_of s n.0.0) (u16_at n.0.1) z n.2 in
    let v = cond_some (leb k.0.0 1) (Version n.0.0 k.0.0, record s { stage = at_sections; bytes = k.0.1 }) z k.2 in
    (n.0.0, k.0.0, ap (λ (y : Piece × State). y.0) (sym v.1))

abbrev front_length : Option (List ℕ × List ℕ) → ℕ
front_length None = 0
front_length (Some b) = length b.0

-- what the code section gives while bodies are left is a body
entry_gives : (s : State) (z : Piece × State) → entry_of s ≡ Some z → (bytes : List ℕ) × (z.0 ≡ CodeEntry bytes) × (body_size s.code ≡ length bytes)
entry_gives s z e =
    let y = map_some (λ (b : List ℕ × List ℕ). (CodeEntry b.0, record s { code = b.1; left = s.left - 1 })) (sized_at s.code) z e in
    (y.0.0, ap (λ (w : Piece × State). w.0) (sym y.2), ap front_length y.1)

-- what the end gives is the end
ending_gives : (s : State) (z : Piece × State) → ending_of s ≡ Some z → z.0 ≡ End
ending_gives s z e = ap (λ (w : Piece × State). w.0) (sym (cond_some (agrees s.counts) (End, record s { stage = ended }) z e).1)

-- a piece that is no body
abbrev IsNoBody : Piece → Type 0
IsNoBody p = (bytes : List ℕ) → p ≡ CodeEntry bytes → ⊥

-- what a section alone gives is no body
piece_no_body : (id : ℕ) (body : List ℕ) (p : Piece) → piece_of id body ≡ Some p → IsNoBody p
unfolding piece_of
piece_no_body id body p e = λ bytes b.
    elim (chosen (eqb id 0) (option_map (λ (n : List ℕ × List ℕ). Custom n.0 n.1) (name_at body)) (cond (eqb id 8) (option_map Start (number_of body)) (cond (eqb id 12) (option_map DataCount (number_of body)) (cond (ltb id 14) (option_map (λ (n : ℕ × List ℕ). Counted id n.0 n.1) (u32_at body)) (Some (Unknown id body))))) (Some p) e) [
      | inl a ↦ let y = map_some (λ (n : List ℕ × List ℕ). Custom n.0 n.1) (name_at body) p a.1 in absurd (let f = y.2 ∙ b in cc)
      | inr a ↦ elim (chosen (eqb id 8) (option_map Start (number_of body)) (cond (eqb id 12) (option_map DataCount (number_of body)) (cond (ltb id 14) (option_map (λ (n : ℕ × List ℕ). Counted id n.0 n.1) (u32_at body)) (Some (Unknown id body)))) (Some p) a.1) [
        | inl c ↦ let y = map_some Start (number_of body) p c.1 in absurd (let f = y.2 ∙ b in cc)
        | inr c ↦ elim (chosen (eqb id 12) (option_map DataCount (number_of body)) (cond (ltb id 14) (option_map (λ (n : ℕ × List ℕ). Counted id n.0 n.1) (u32_at body)) (Some (Unknown id body))) (Some p) c.1) [
          | inl d ↦ let y = map_some DataCount (number_of body) p d.1 in absurd (let f = y.2 ∙ b in cc)
          | inr d ↦ elim (chosen (ltb id 14) (option_map (λ (n : ℕ × List ℕ). Counted id n.0 n.1) (u32_at body)) (Some (Unknown id body)) (Some p) d.1) [
            | inl g ↦ let y = map_some (λ (n : ℕ × List ℕ). Counted id n.0 n.1) (u32_at body) p g.1 in absurd (let f = y.2 ∙ b in cc)
            | inr g ↦ absurd (let f : Unknown id body ≡ p = cc in let h = f ∙ b in cc)
          ]
        ]
      ]
    ]

section_no_body : (s : State) (z : Piece × State) → alone_of s ≡ Some z → IsNoBody z.0
section_no_body s z e = λ bytes b.
    let x = then_some (λ (x : (ℕ × List ℕ) × List ℕ). cond (may_follow s.place x.0.0) (contents_of s x.0.0 x.0.1 x.1) None) (section_at s.bytes) z e in
    let id = x.0.0.0 in
    let body = x.0.0.1 in
    let rest = x.0.1 in
    let g = guarded (may_follow s.place id) (contents_of s id body rest) z x.2 in
    elim (chosen (eqb id 10) (option_map (λ (n : ℕ × List ℕ). (CodeStart n.0 (length n.1), opened s rest n)) (u32_at body)) (option_map (λ (q : Piece). (q, behind s id rest q)) (piece_of id body)) (Some z) g.1) [
      | inl a ↦
          let y = map_some (λ (n : ℕ × List ℕ). (CodeStart n.0 (length n.1), opened s rest n)) (u32_at body) z a.1 in
          absurd (let f : CodeStart y.0.0 (length y.0.1) ≡ CodeEntry bytes = ap (λ (w : Piece × State). w.0) y.2 ∙ b in cc)
      | inr a ↦
          let y = map_some (λ (q : Piece). (q, behind s id rest q)) (piece_of id body) z a.1 in
          absurd (piece_no_body id body y.0 y.1 bytes (ap (λ (w : Piece × State). w.0) y.2 ∙ b))
    ]

-- where the machine stands before a custom section
record BeforeCustom (s : State) : Type 0 where
  on : s.stage ≡ at_sections
  left : s.left ≡ 0

custom_at : (st : Stage) (s t : State) (name contents : List ℕ) → s.stage ≡ st → next_at st s ≡ Some (Some (Custom name contents, t)) → BeforeCustom s
custom_at at_header s t name contents on e = absurd (let v = header_gives s (Custom name contents, t) (gives (header_of s) (Custom name contents, t) e) in let f = v.2 in cc)
custom_at at_sections s t name contents on e =
    elim (which s (Custom name contents, t) (gives (part_of s) (Custom name contents, t) e)) [
      | inl a ↦ absurd (let v = entry_gives s (Custom name contents, t) a.entry in let f = v.1 in cc)
      | inr b ↦ elim b [
        | inl a ↦ record { on = on; left = a.left }
        | inr a ↦ absurd (let f = ending_gives s (Custom name contents, t) a.ending in cc)
      ]
    ]
custom_at ended s t name contents on e = absurd cc
custom_at failed s t name contents on e = absurd cc

-- and before a body
record BeforeBody (s : State) (bytes : List ℕ) : Type 0 where
  on : s.stage ≡ at_sections
  busy : eqb s.left 0 ≡ false
  size : body_size s.code ≡ length bytes

body_at : (st : Stage) (s t : State) (bytes : List ℕ) → s.stage ≡ st → next_at st s ≡ Some (Some (CodeEntry bytes, t)) → BeforeBody s bytes
body_at at_header s t bytes on e = absurd (let v = header_gives s (CodeEntry bytes, t) (gives (header_of s) (CodeEntry bytes, t) e) in let f = v.2 in cc)
body_at at_sections s t bytes on e =
    elim (which s (CodeEntry bytes, t) (gives (part_of s) (CodeEntry bytes, t) e)) [
      | inl a ↦
          let v = entry_gives s (CodeEntry bytes, t) a.entry in
          let same : bytes ≡ v.0 = let f = v.1 in cc in
          record { on = on; busy = a.busy; size = v.2 ∙ ap length (sym same) }
      | inr b ↦ elim b [
        | inl a ↦ absurd (section_no_body s (CodeEntry bytes, t) (alone_is s (CodeEntry bytes, t) a.section) bytes refl)
        | inr a ↦ absurd (let f = ending_gives s (CodeEntry bytes, t) a.ending in cc)
      ]
    ]
body_at ended s t bytes on e = absurd cc
body_at failed s t bytes on e = absurd cc

differs : (m n : ℕ) → (m ≡ n → ⊥) → eqb m n ≡ false
differs m n apart = elim (truth (eqb m n)) [ inl e ↦ absurd (apart (eqb-true _ _ e)) | inr e ↦ e ]

some_or_none : (bytes : List ℕ) → cond (eqb (length bytes) 0) 0 (section_size bytes) ≡ section_size bytes
some_or_none [] = refl
some_or_none (x ∷ xs) = let some = differs (length (x ∷ xs)) 0 (λ e. omega (arith, e)) in rw some refl

-- how long a section is
section_part : (s : State) → s.stage ≡ at_sections → s.left ≡ 0 → next_size s.stage s ≡ section_size s.bytes
section_part s on left =
    ap (λ (st : Stage). next_size st s) on ∙ ap (λ (n : ℕ). cond (eqb n 0) (cond (eqb (length s.bytes) 0) 0 (section_size s.bytes)) (body_size s.code)) left ∙ some_or_none s.bytes

abbrev placed : ℕ → ℕ → Body
placed first end = record { size = 24; start = first; end = end }

module _ {A : Type 0} (s : State) (w : ParseAll A) where
  -- A custom section is where its payload says.
  pub customs_are : (q : Payload A) → next_of s ≡ Some (Some (seen q, state w)) → starts_at q + next_size s.stage s ≡ ends_at q → ends_at q ≡ next_end s.stage s w → ends_at q ≤ input_end w
      → customs_in q ≡ custom_between (input_end w) s (seen q) (state w)
  customs_are (payloads.CustomSection c) e size last within =
      let b = custom_at s.stage s (state w) (name_of c) (data_of c) refl e in
      let part = section_part s b.on b.left in
      let stands : reader_end (data_reader c) ≡ stands_at w = last ∙ ap (λ (st : Stage). next_end st s w) b.on ∙ ap (λ (n : ℕ). cond (eqb n 0) (stands_at w) (stands_in_code w)) b.left in
      let left = length-drop (position_in w.reader) (input w.reader) in
      let end : reader_end (data_reader c) ≡ input_end w - length (state w).bytes = omega (arith, stands, within, left) in
      let first : original (data_reader c) ≡ (input_end w - length (state w).bytes) - section_size s.bytes = omega (arith, size, part, end) in
      λ i. custom_section (first i) (end i) (name_of c) (data_of c) ∷ []
  customs_are q e size last within = refl

  -- And so is a body.
  pub bodies_are : (q : Payload A) → next_of s ≡ Some (Some (seen q, state w)) → starts_at q + next_size s.stage s ≡ ends_at q → ends_at q ≡ next_end s.stage s w → ends_at q ≤ input_end w
      → CodeIsWithin w → (s.stage ≡ at_sections → 0 < s.left → CodeIsLast w) → bodies_in q ≡ body_between (input_end w) s (seen q) (state w)
  bodies_are (payloads.CodeSectionEntry b) e size last within code kept =
      let at = body_at s.stage s (state w) (body_of b) refl e in
      let none : s.left ≡ 0 → ⊥ = eqb-false _ _ at.busy in
      let more : 0 < s.left = omega (arith, none) in
      let part : next_size s.stage s ≡ body_size s.code = ap (λ (st : Stage). next_size st s) at.on ∙ ap (λ (c : Bool). cond c (cond (eqb (length s.bytes) 0) 0 (section_size s.bytes)) (body_size s.code)) at.busy in
      let stands : reader_end (body_reader b) ≡ stands_in_code w = last ∙ ap (λ (st : Stage). next_end st s w) at.on ∙ ap (λ (c : Bool). cond c (stands_at w) (stands_in_code w)) at.busy in
      let left = length-drop (position_in w.reader) (input w.reader) in
      let left_code = length-drop (position_in w.code) (input w.code) in
      let lies : CodeIsLast w = kept at.on more in
      let ends_in : reader_end w.code ≤ reader_end w.reader = code.1 in
      let end : reader_end (body_reader b) ≡ input_end w - (length (state w).code + length (state w).bytes) = omega (arith, stands, within, left, left_code, lies, ends_in) in
      let long = at.size in
      let first : original (body_reader b) + position_in (body_reader b) ≡ (input_end w - (length (state w).code + length (state w).bytes)) - length (body_of b) = omega (arith, size, part, end, long) in
      λ i. placed (first i) (end i) ∷ []
  bodies_are q e size last within code kept = refl

section_stays : (s t : State) (p : Piece) → s.stage ≡ at_sections → t.stage ≡ at_header → alone_of s ≡ Some (p, t) → ⊥
section_stays s t p on h e =
    let x = then_some (λ (x : (ℕ × List ℕ) × List ℕ). cond (may_follow s.place x.0.0) (contents_of s x.0.0 x.0.1 x.1) None) (section_at s.bytes) (p, t) e in
    let id = x.0.0.0 in
    let body = x.0.0.1 in
    let rest = x.0.1 in
    let g = guarded (may_follow s.place id) (contents_of s id body rest) (p, t) x.2 in
    elim (chosen (eqb id 10) (option_map (λ (n : ℕ × List ℕ). (CodeStart n.0 (length n.1), opened s rest n)) (u32_at body)) (option_map (λ (q : Piece). (q, behind s id rest q)) (piece_of id body)) (Some (p, t)) g.1) [
      | inl a ↦
          let y = map_some (λ (n : ℕ × List ℕ). (CodeStart n.0 (length n.1), opened s rest n)) (u32_at body) (p, t) a.1 in
          let wrong : at_sections ≡ at_header = sym on ∙ ap (λ (w : Piece × State). w.1.stage) y.2 ∙ h in
          absurd cc
      | inr a ↦
          let y = map_some (λ (q : Piece). (q, behind s id rest q)) (piece_of id body) (p, t) a.1 in
          let wrong : at_sections ≡ at_header = sym on ∙ ap (λ (w : Piece × State). w.1.stage) y.2 ∙ h in
          absurd cc
    ]

-- behind no piece the header comes
next_at_header : (st : Stage) (s t : State) (p : Piece) → s.stage ≡ st → next_at st s ≡ Some (Some (p, t)) → t.stage ≡ at_header → ⊥
next_at_header at_header s t p on e h =
    let x = then_some (λ (m : List ℕ × List ℕ). cond (pointwise nat_eq m.0 magic) (numbers_of s m.1) None) (bytes_at 4 s.bytes) (p, t) (gives (header_of s) (p, t) e) in
    let g = guarded (pointwise nat_eq x.0.0 magic) (numbers_of s x.0.1) (p, t) x.2 in
    let n = then_some (λ (number : ℕ × List ℕ). option_and_then (version_of s number.0) (u16_at number.1)) (u16_at x.0.1) (p, t) g.1 in
    let k = then_some (version_of s n.0.0) (u16_at n.0.1) (p, t) n.2 in
    let v = cond_some (leb k.0.0 1) (Version n.0.0 k.0.0, record s { stage = at_sections; bytes = k.0.1 }) (p, t) k.2 in
    let same : at_sections ≡ t.stage = ap (λ (y : Piece × State). y.1.stage) v.1 in
    let wrong : at_sections ≡ at_header = same ∙ h in
    cc
next_at_header at_sections s t p on e h =
    elim (which s (p, t) (gives (part_of s) (p, t) e)) [
      | inl a ↦
          let y = map_some (λ (b : List ℕ × List ℕ). (CodeEntry b.0, record s { code = b.1; left = s.left - 1 })) (sized_at s.code) (p, t) a.entry in
          let wrong : at_sections ≡ at_header = sym on ∙ ap (λ (w : Piece × State). w.1.stage) y.2 ∙ h in
          absurd cc
      | inr b ↦ elim b [
        | inl a ↦ section_stays s t p on h (alone_is s (p, t) a.section)
        | inr a ↦
            let v = cond_some (agrees s.counts) (End, record s { stage = ended }) (p, t) a.ending in
            let wrong : ended ≡ at_header = ap (λ (w : Piece × State). w.1.stage) v.1 ∙ h in
            absurd cc
      ]
    ]
next_at_header ended s t p on e h = cc
next_at_header failed s t p on e h = cc

pub no_header_next : (s t : State) (p : Piece) → next_of s ≡ Some (Some (p, t)) → t.stage ≡ at_header → ⊥
no_header_next s t p e h = next_at_header s.stage s t p refl e h

-- the parser reads the same input
pub same_end : {A : Type 0} (old new : ParseAll A) → OfSameInput old new → input_end new ≡ input_end old
same_end old new w = let l = ap (λ (xs : List ℕ). length xs) w.0 in let o = w.1 in omega (arith, l, o)

-- the bodies that are left lie last, once the header is read, and none are left before it
pub record BodiesLie {A : Type 0} (w : ParseAll A) : Type 0 where
  pub before : (state w).stage ≡ at_header → (state w).left ≡ 0
  pub behind : (state w).stage ≡ at_sections → 0 < (state w).left → CodeIsLast w

pub begin_lie : {A : Type 0} (w : ParseAll A) (bytes : List ℕ) → state w ≡ start bytes → BodiesLie w
begin_lie w bytes e =
    let none : (state w).left ≡ 0 = ap (λ (s : State). s.left) e in
    record { before = λ h. none; behind = λ on more. absurd (omega (arith, none, more)) }

zero_or_more : (n : ℕ) → (n ≡ 0) ⊎ (0 < n)
zero_or_more n = elim (truth (eqb n 0)) [ inl a ↦ inl (eqb-true _ _ a) | inr a ↦ inr (let isnt : n ≡ 0 → ⊥ = eqb-false _ _ a in omega (arith, isnt)) ]

at_sections_before : (st : Stage) (s t : State) (p : Piece) → s.stage ≡ st → next_at st s ≡ Some (Some (p, t)) → (s.stage ≡ at_header → s.left ≡ 0) → 0 < s.left → s.stage ≡ at_sections
at_sections_before at_header s t p on e none more = let zero_left = none on in absurd (omega (arith, zero_left, more))
at_sections_before at_sections s t p on e none more = on
at_sections_before ended s t p on e none more = absurd cc
at_sections_before failed s t p on e none more = absurd cc

pub lie_on : {A : Type 0} (old new : ParseAll A) (p : Piece) → BodiesLie old → next_of (state old) ≡ Some (Some (p, state new))
    → ((state old).stage ≡ at_sections → 0 < (state old).left → CodeIsLast old → CodeIsLast new) → ((state old).left ≡ 0 → BodiesAreLast new) → BodiesLie new
lie_on {A} old new p l e code bodies = record {
  before = λ h. absurd (no_header_next (state old) (state new) p e h);
  behind = λ on more. elim (zero_or_more (state old).left) [
    | inl none ↦ bodies none more
    | inr some ↦ let was = at_sections_before (state old).stage (state old) (state new) p refl e l.before some in code was some (l.behind was some)
  ];
}
