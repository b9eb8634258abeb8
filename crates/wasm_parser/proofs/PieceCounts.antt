-- Each piece leaves fewer to come.
use Rattle.std.proofs.Common.{◌≡◌, ◌<◌, ◌≤◌, ◌+◌, ◌-◌, ◌*◌, ◌^◌, ℕ, cond, eqb, ltb, leb, List, [], ◌∷◌, length, take, drop, Option, Some, None, refl, sym, ap, ◌∙◌, inl, inr, arith}
use Rattle.std.specs.Option.{option_map, option_and_then}
use Rattle.std.specs.Prelude.{nat_eq}
use Rattle.std.specs.Cmp.Lexicographic.{pointwise}
use Rattle.std.proofs.lemmas.List.{length-drop, length-take}
use Rattle.std.proofs.lemmas.Bool.{ltb-false}
use Rattle.std.proofs.lemmas.Option.{cond_some}
use Rattle.wasm_spec.specs.Values.{unsigned_at, u32_at, bytes_at, sized_at}
use Rattle.wasm_spec.specs.Framing.{Piece, Version, CodeStart, CodeEntry, End, magic, u16_at, section_at, piece_of, agrees}
use Rattle.wasm_parser.specs.Machine.{may_follow}
use Rattle.wasm_parser.specs.Machine.{Stage, State, at_header, at_sections, ended, failed, version_of, numbers_of, header_of, entry_of, opened, behind, contents_of, alone_of, ending_of, part_of, next_at, next_of, most_at, most_left}
use Rattle.wasm_parser.proofs.Steps.{then_some, map_some, gives, guarded, chosen, unless, alone_is, which}

pub number_falls : (bits : ℕ) (bytes : List ℕ) (x : ℕ × List ℕ) → unsigned_at bits bytes ≡ Some x → length x.1 < length bytes
number_falls bits [] x e = absurd cc
number_falls bits (n ∷ more) x e =
    elim (chosen (ltb n (2 ^ 7)) (cond (ltb n (2 ^ bits)) (Some (n, more)) None) (cond (ltb 7 bits) (option_map (λ m. (2 ^ 7 * m.0 + (n - 2 ^ 7), m.1)) (unsigned_at (bits - 7) more)) None) (Some x) e) [
      | inl a ↦ elim (chosen (ltb n (2 ^ bits)) (Some (n, more)) None (Some x) a.1) [
        | inl b ↦ let same : (n, more) ≡ x = cc in let l : length more ≡ length x.1 = ap (λ (y : ℕ × List ℕ). length y.1) same in omega arith
        | inr b ↦ absurd cc
      ]
      | inr a ↦ elim (chosen (ltb 7 bits) (option_map (λ m. (2 ^ 7 * m.0 + (n - 2 ^ 7), m.1)) (unsigned_at (bits - 7) more)) None (Some x) a.1) [
        | inl b ↦
            let m = map_some (λ (m : ℕ × List ℕ). (2 ^ 7 * m.0 + (n - 2 ^ 7), m.1)) (unsigned_at (bits - 7) more) x b.1 in
            let l : length m.0.1 ≡ length x.1 = ap (λ (y : ℕ × List ℕ). length y.1) m.2 in
            let f : length m.0.1 < length more = number_falls (bits - 7) more m.0 m.1 in
            omega arith
        | inr b ↦ absurd cc
      ]
    ]

bytes_split : (n : ℕ) (bytes : List ℕ) (x : List ℕ × List ℕ) → bytes_at n bytes ≡ Some x → length x.0 + length x.1 ≡ length bytes
bytes_split n bytes x e =
    let g = unless (ltb (length bytes) n) (take n bytes, drop n bytes) x e in
    let le : n ≤ length bytes = ltb-false _ _ g.0 in
    let a : length (take n bytes) ≡ length x.0 = ap (λ (y : List ℕ × List ℕ). length y.0) g.1 in
    let b : length (drop n bytes) ≡ length x.1 = ap (λ (y : List ℕ × List ℕ). length y.1) g.1 in
    omega (arith, length-take n bytes, length-drop n bytes)

sized_falls : (bytes : List ℕ) (x : List ℕ × List ℕ) → sized_at bytes ≡ Some x → length x.0 + length x.1 < length bytes
sized_falls bytes x e =
    let n = then_some (λ (n : ℕ × List ℕ). bytes_at n.0 n.1) (u32_at bytes) x e in
    let f : length n.0.1 < length bytes = number_falls 32 bytes n.0 n.1 in
    let s = bytes_split n.0.0 n.0.1 x n.2 in
    omega (arith, s)

section_falls : (bytes : List ℕ) (x : (ℕ × List ℕ) × List ℕ) → section_at bytes ≡ Some x → length x.0.1 + length x.1 < length bytes
section_falls [] x e = absurd cc
section_falls (id ∷ bytes) x e =
    let b = map_some (λ (b : List ℕ × List ℕ). ((id, b.0), b.1)) (sized_at bytes) x e in
    let f : length b.0.0 + length b.0.1 < length bytes = sized_falls bytes b.0 b.1 in
    let l : length b.0.0 ≡ length x.0.1 = ap (λ (y : (ℕ × List ℕ) × List ℕ). length y.0.1) b.2 in
    let m : length b.0.1 ≡ length x.1 = ap (λ (y : (ℕ × List ℕ) × List ℕ). length y.1) b.2 in
    omega arith

abbrev length_of : Option (ℕ × List ℕ) → ℕ
length_of None = 0
length_of (Some x) = length x.1

short_falls : (bytes : List ℕ) (x : ℕ × List ℕ) → u16_at bytes ≡ Some x → length x.1 < length bytes
short_falls [] x e = absurd cc
short_falls (a ∷ []) x e = absurd cc
short_falls (a ∷ b ∷ more) x e = let l : length more ≡ length x.1 = ap (λ (y : Option (ℕ × List ℕ)). length_of y) e in omega arith

entry_falls : (s : State) (x : Piece × State) → s.stage ≡ at_sections → entry_of s ≡ Some x → most_left x.1 < most_left s
entry_falls s x on e =
    let y = map_some (λ (b : List ℕ × List ℕ). (CodeEntry b.0, record s { code = b.1; left = s.left - 1 })) (sized_at s.code) x e in
    let l : most_left (record s { code = y.0.1; left = s.left - 1 }) ≡ most_left x.1 = ap (λ (z : Piece × State). most_left z.1) y.2 in
    let m : length s.bytes + length y.0.1 + 1 ≡ most_left x.1 = ap (λ (st : Stage). most_at st (record s { code = y.0.1; left = s.left - 1 })) (sym on) ∙ l in
    let n : most_left s ≡ length s.bytes + length s.code + 1 = ap (λ (st : Stage). most_at st s) on in
    omega (arith, sized_falls s.code y.0 y.1)

section_step_falls : (s : State) (z : Piece × State) → s.stage ≡ at_sections → alone_of s ≡ Some z → most_left z.1 < most_left s
section_step_falls s z on e =
    let x = then_some (λ (x : (ℕ × List ℕ) × List ℕ). cond (may_follow s.place x.0.0) (contents_of s x.0.0 x.0.1 x.1) None) (section_at s.bytes) z e in
    let id = x.0.0.0 in
    let body = x.0.0.1 in
    let rest = x.0.1 in
    let g = guarded (may_follow s.place id) (contents_of s id body rest) z x.2 in
    let n : most_left s ≡ length s.bytes + length s.code + 1 = ap (λ (st : Stage). most_at st s) on in
    elim (chosen (eqb id 10) (option_map (λ (n : ℕ × List ℕ). (CodeStart n.0 (length n.1), opened s rest n)) (u32_at body)) (option_map (λ (q : Piece). (q, behind s id rest q)) (piece_of id body)) (Some z) g.1) [
      | inl a ↦
          let y = map_some (λ (n : ℕ × List ℕ). (CodeStart n.0 (length n.1), opened s rest n)) (u32_at body) z a.1 in
          let l : length rest + length y.0.1 + 1 ≡ most_left z.1 = ap (λ (st : Stage). most_at st (opened s rest y.0)) (sym on) ∙ ap (λ (w : Piece × State). most_left w.1) y.2 in
          omega (arith, section_falls s.bytes x.0 x.1, number_falls 32 body y.0 y.1)
      | inr a ↦
          let y = map_some (λ (q : Piece). (q, behind s id rest q)) (piece_of id body) z a.1 in
          let l : length rest + length s.code + 1 ≡ most_left z.1 = ap (λ (st : Stage). most_at st (behind s id rest y.0)) (sym on) ∙ ap (λ (w : Piece × State). most_left w.1) y.2 in
          omega (arith, section_falls s.bytes x.0 x.1)
    ]

ending_falls : (s : State) (x : Piece × State) → s.stage ≡ at_sections → ending_of s ≡ Some x → most_left x.1 < most_left s
ending_falls s x on e =
    let g = cond_some (agrees s.counts) (End, record s { stage = ended }) x e in
    let l : 0 ≡ most_left x.1 = ap (λ (w : Piece × State). most_left w.1) g.1 in
    let n : most_left s ≡ length s.bytes + length s.code + 1 = ap (λ (st : Stage). most_at st s) on in
    omega arith

part_falls : (s : State) (x : Piece × State) → s.stage ≡ at_sections → part_of s ≡ Some x → most_left x.1 < most_left s
part_falls s x on e =
    elim (which s x e) [
      | inl a ↦ entry_falls s x on a.entry
      | inr b ↦ elim b [
        | inl a ↦ section_step_falls s x on (alone_is s x a.section)
        | inr a ↦ ending_falls s x on a.ending
      ]
    ]

version_left : (s : State) (number : ℕ) (kind : ℕ × List ℕ) (z : Piece × State) → version_of s number kind ≡ Some z → length kind.1 + length s.code + 1 ≡ most_left z.1
version_left s number kind z e =
    ap (λ (w : Piece × State). most_left w.1) (cond_some (leb kind.0 1) (Version number kind.0, record s { stage = at_sections; bytes = kind.1 }) z e).1

header_falls : (s : State) (x : Piece × State) → s.stage ≡ at_header → header_of s ≡ Some x → most_left x.1 < most_left s
header_falls s z on e =
    let x = then_some (λ (m : List ℕ × List ℕ). cond (pointwise nat_eq m.0 magic) (numbers_of s m.1) None) (bytes_at 4 s.bytes) z e in
    let g = guarded (pointwise nat_eq x.0.0 magic) (numbers_of s x.0.1) z x.2 in
    let n = then_some (λ (number : ℕ × List ℕ). option_and_then (version_of s number.0) (u16_at number.1)) (u16_at x.0.1) z g.1 in
    let k = then_some (version_of s n.0.0) (u16_at n.0.1) z n.2 in
    let l : length k.0.1 + length s.code + 1 ≡ most_left z.1 = version_left s n.0.0 k.0 z k.2 in
    let m : most_left s ≡ length s.bytes + length s.code + 1 = ap (λ (st : Stage). most_at st s) on in
    omega (arith, bytes_split 4 s.bytes x.0 x.1, short_falls x.0.1 n.0 n.1, short_falls n.0.1 k.0 k.1)

falls_at : (st : Stage) (s : State) (p : Piece) (t : State) → s.stage ≡ st → next_at st s ≡ Some (Some (p, t)) → most_left t < most_left s
falls_at at_header s p t on e = header_falls s (p, t) on (gives (header_of s) (p, t) e)
falls_at at_sections s p t on e = part_falls s (p, t) on (gives (part_of s) (p, t) e)
falls_at ended s p t on e = absurd cc
falls_at failed s p t on e = absurd cc

pub falls : (s : State) (p : Piece) (t : State) → next_of s ≡ Some (Some (p, t)) → most_left t < most_left s
falls s p t e = falls_at s.stage s p t refl e
