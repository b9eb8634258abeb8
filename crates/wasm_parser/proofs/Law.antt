-- From the first byte: the machine's runs are the framings.
use Rattle.std.proofs.Common.{◌≡◌, ◌≤◌, ℕ, true, false, cond, ltb, leb, List, [], ◌∷◌, ◌++◌, length, take, drop, map, Some, None, refl, sym, ap, subst, ◌∙◌, arith}
use Rattle.std.specs.Option.{option_map, option_and_then}
use Rattle.std.specs.Prelude.{nat_eq}
use Rattle.std.specs.Cmp.Lexicographic.{pointwise}
use Rattle.std.proofs.lemmas.Slice.Eq.{slice_eq-Decides}
use Rattle.std.proofs.lemmas.Bool.Decides.{Decides-eqb}
use Rattle.std.proofs.lemmas.Bool.{le-ltb, leb-true, le-leb}
use Rattle.std.proofs.lemmas.List.{take-append-drop, length-append}
use Rattle.std.proofs.lemmas.Option.{cond_some}
use Rattle.wasm_spec.specs.Values.{bytes_at}
use Rattle.wasm_spec.specs.Framing.{Piece, Version, CodeEntry, End, magic, u16_at, nothing_yet, tally_all, agrees, IsFramed}
use Rattle.wasm_parser.specs.Machine.{State, start, at_sections, version_of, numbers_of, header_of, Run}
use Rattle.wasm_parser.proofs.Steps.{then_some, not_end, gives, guarded, unless, some_is, at_start}
use Rattle.wasm_parser.proofs.Order.{to_order, from_order, below_zero}
use Rattle.wasm_parser.proofs.Counts.{without_end, with_end}
use Rattle.wasm_parser.proofs.RemaindersOfRuns.{run_completes}
use Rattle.wasm_parser.proofs.RunsOfRemainders.{completes_run}

abbrev pub behind_header : List ℕ → State
behind_header rest = record { stage = at_sections; bytes = rest; place = 0; code = []; left = 0; counts = nothing_yet }

-- the parts of a header
pub record Header (bytes : List ℕ) (p : Piece) (t : State) : Type 0 where
  pub numbered : List ℕ
  pub number : ℕ
  pub kinded : List ℕ
  pub kind : ℕ
  pub rest : List ℕ
  pub begins : bytes ≡ magic ++ numbered
  pub has_number : u16_at numbered ≡ Some (number, kinded)
  pub has_kind : u16_at kinded ≡ Some (kind, rest)
  pub known_kind : kind ≤ 1
  pub piece : Version number kind ≡ p
  pub next : behind_header rest ≡ t

header_parts : (bytes : List ℕ) (p : Piece) (t : State) → header_of (start bytes) ≡ Some (p, t) → Header bytes p t
header_parts bytes p t e =
    let s = start bytes in
    let x = then_some (λ (m : List ℕ × List ℕ). cond (pointwise nat_eq m.0 magic) (numbers_of s m.1) None) (bytes_at 4 bytes) (p, t) e in
    let g = guarded (pointwise nat_eq x.0.0 magic) (numbers_of s x.0.1) (p, t) x.2 in
    let h = unless (ltb (length bytes) 4) (take 4 bytes, drop 4 bytes) x.0 x.1 in
    let front : x.0.0 ≡ magic = (slice_eq-Decides Decides-eqb x.0.0 magic _ refl).0 g.0 in
    let split : bytes ≡ x.0.0 ++ x.0.1 = sym (take-append-drop 4 bytes) ∙ ap (λ (y : List ℕ × List ℕ). y.0 ++ y.1) h.1 in
    let n = then_some (λ (number : ℕ × List ℕ). option_and_then (version_of s number.0) (u16_at number.1)) (u16_at x.0.1) (p, t) g.1 in
    let k = then_some (version_of s n.0.0) (u16_at n.0.1) (p, t) n.2 in
    let v = cond_some (leb k.0.0 1) (Version n.0.0 k.0.0, record s { stage = at_sections; bytes = k.0.1 }) (p, t) k.2 in
    record {
      numbered = x.0.1;
      number = n.0.0;
      kinded = n.0.1;
      kind = k.0.0;
      rest = k.0.1;
      begins = split ∙ ap (λ (f : List ℕ). f ++ x.0.1) front;
      has_number = n.1;
      has_kind = k.1;
      known_kind = leb-true _ _ v.0;
      piece = ap (λ (y : Piece × State). y.0) v.1;
      next = ap (λ (y : Piece × State). y.1) v.1;
    }

pub run_framed : (bytes : List ℕ) (ps : List Piece) → Run (start bytes) ps → IsFramed bytes ps
run_framed bytes [] run = absurd (not_end (header_of (start bytes)) (sym (at_start (start bytes) refl) ∙ run))
run_framed bytes (p ∷ ps) run =
    let t = run.0 in
    let e : header_of (start bytes) ≡ Some (p, t) = gives (header_of (start bytes)) (p, t) (sym (at_start (start bytes) refl) ∙ run.1) in
    let h = header_parts bytes p t e in
    let c = run_completes ps (behind_header h.rest) refl (subst (λ (u : State). Run u ps) (sym h.next) run.2) in
    let none : [] ≡ c.bodies = some_is [] c.bodies c.code in
    let all : ps ≡ c.others ++ End ∷ [] = c.all ∙ ap (λ (bs : List (List ℕ)). map CodeEntry bs ++ (c.others ++ End ∷ [])) (sym none) in
    record {
      numbered = h.numbered;
      number = h.number;
      kinded = h.kinded;
      kind = h.kind;
      rest = h.rest;
      sections = c.sections;
      others = c.others;
      begins = h.begins;
      has_number = h.has_number;
      has_kind = h.has_kind;
      known_kind = h.known_kind;
      frames = c.frames;
      in_order = to_order c.sections 0 c.in_order;
      made = c.made;
      all = ap (λ (q : Piece). q ∷ ps) (sym h.piece) ∙ ap (λ (qs : List Piece). Version h.number h.kind ∷ qs) all;
      agree = without_end nothing_yet c.others (subst (λ (qs : List Piece). agrees (tally_all nothing_yet qs) ≡ true) all c.agree);
    }

header_is : (numbered : List ℕ) (number : ℕ) (kinded : List ℕ) (kind : ℕ) (rest : List ℕ) → u16_at numbered ≡ Some (number, kinded) → u16_at kinded ≡ Some (kind, rest) → kind ≤ 1 → header_of (start (magic ++ numbered)) ≡ Some (Version number kind, behind_header rest)
header_is numbered number kinded kind rest n k le =
    let long : ltb (length (magic ++ numbered)) 4 ≡ false = le-ltb _ _ (omega (arith, length-append magic numbered)) in
    rw (long, n) (rw (k, le-leb kind 1 le) refl)

pub framed_run : (bytes : List ℕ) (ps : List Piece) → IsFramed bytes ps → Run (start bytes) ps
framed_run bytes ps f =
    let r : Run (start (magic ++ f.numbered)) (Version f.number f.kind ∷ (f.others ++ End ∷ [])) = (
      behind_header f.rest,
      at_start (start (magic ++ f.numbered)) refl ∙ ap (option_map Some) (header_is f.numbered f.number f.kinded f.kind f.rest f.has_number f.has_kind f.known_kind),
      completes_run (f.others ++ End ∷ []) (behind_header f.rest) refl
          (record { bodies = []; sections = f.sections; others = f.others; code = refl; frames = f.frames; in_order = from_order f.sections 0 (below_zero f.sections) f.in_order; made = f.made; all = refl; agree = with_end nothing_yet f.others f.agree }),
    ) in
    let q = subst (λ (qs : List Piece). Run (start (magic ++ f.numbered)) qs) (sym f.all) r in
    subst (λ (bs : List ℕ). Run (start bs) ps) (sym f.begins) q
