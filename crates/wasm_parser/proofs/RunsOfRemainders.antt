-- What is left is read by a run.
use Rattle.std.proofs.Common.{◌≡◌, ◌-◌, ℕ, zero, suc, Bool, true, false, cond, eqb, List, [], ◌∷◌, ◌++◌, length, map, Some, None, refl, sym, ap, subst, ◌∙◌, ◌⊎◌, inl, inr, arith, append_assoc}
use Rattle.std.specs.Option.{option_map}
use Rattle.std.proofs.Math.Dec.{eqb-suc-zero}
use Rattle.std.proofs.lemmas.Bool.{eqb-true}
use Rattle.std.proofs.lemmas.List.{nil_from_length}
use Rattle.std.proofs.lemmas.Option.{cond_some}
use Rattle.wasm_spec.specs.Values.{u32_at, sized_at}
use Rattle.wasm_spec.specs.Framing.{Piece, CodeStart, CodeEntry, End, section_at, Frames, piece_of, code_pieces, pieces_of, all_pieces, tally, tally_all, agrees}
use Rattle.wasm_parser.specs.Machine.{may_follow}
use Rattle.wasm_parser.proofs.Order.{Follow}
use Rattle.wasm_parser.specs.Machine.{State, at_sections, ended, entry_of, opened, behind, settled, section_of, part_of, Run}
use Rattle.wasm_parser.proofs.Steps.{then_some, map_some, chosen, some_is, is_empty_at, at_part, at_over, in_code, at_section, at_end, bodies_of, Completes, no_bodies}
use Rattle.wasm_parser.proofs.Counts.{settled_code, settled_piece}

bodies_nil : (n : ℕ) (bytes : List ℕ) → bodies_of n bytes ≡ Some [] → (n ≡ 0) × (bytes ≡ [])
bodies_nil zero bytes e = (refl, nil_from_length bytes (eqb-true _ _ (cond_some (eqb (length bytes) 0) [] [] e).0))
bodies_nil (suc n) bytes e =
    let x = then_some (λ (b : List ℕ × List ℕ). option_map (λ bs. b.0 ∷ bs) (bodies_of n b.1)) (sized_at bytes) [] e in
    let y = map_some (λ bs. x.0.0 ∷ bs) (bodies_of n x.0.1) [] x.2 in
    absurd cc

pub record Body (n : ℕ) (bytes b : List ℕ) (bs : List (List ℕ)) : Type 0 where
  pub left : ℕ
  pub more : List ℕ
  pub count : n ≡ suc left
  pub first : sized_at bytes ≡ Some (b, more)
  pub others : bodies_of left more ≡ Some bs

bodies_cons : (n : ℕ) (bytes b : List ℕ) (bs : List (List ℕ)) → bodies_of n bytes ≡ Some (b ∷ bs) → Body n bytes b bs
bodies_cons zero bytes b bs e = let h = cond_some (eqb (length bytes) 0) [] (b ∷ bs) e in absurd cc
bodies_cons (suc n) bytes b bs e =
    let x = then_some (λ (b : List ℕ × List ℕ). option_map (λ bs. b.0 ∷ bs) (bodies_of n b.1)) (sized_at bytes) (b ∷ bs) e in
    let y = map_some (λ bs. x.0.0 ∷ bs) (bodies_of n x.0.1) (b ∷ bs) x.2 in
    let first : x.0.0 ≡ b = cc in
    let others : y.0 ≡ bs = cc in
    record { left = n; more = x.0.1; count = refl; first = x.1 ∙ ap (λ (c : List ℕ). Some (c, x.0.1)) first; others = y.1 ∙ ap Some others }

-- the machine gives the next piece, and the others are still to come
pub record Goes (s : State) (p : Piece) (ps : List Piece) : Type 0 where
  pub next : State
  pub gives : part_of s ≡ Some (p, next)
  pub behind : ((next.stage ≡ at_sections) × Completes next ps) ⊎ ((next.stage ≡ ended) × (ps ≡ []))

-- a body
goes_entry : (s : State) (p : Piece) (ps : List Piece) (b : List ℕ) (bs : List (List ℕ)) (c : Completes s (p ∷ ps)) → s.stage ≡ at_sections → c.bodies ≡ b ∷ bs → Goes s p ps
goes_entry s p ps b bs c on e =
    let x = bodies_cons s.left s.code b bs (c.code ∙ ap Some e) in
    let all : p ∷ ps ≡ CodeEntry b ∷ (map CodeEntry bs ++ (c.others ++ End ∷ [])) = c.all ∙ ap (λ (xs : List (List ℕ)). map CodeEntry xs ++ (c.others ++ End ∷ [])) e in
    let p-is : p ≡ CodeEntry b = cc in
    let ps-is : ps ≡ map CodeEntry bs ++ (c.others ++ End ∷ []) = cc in
    let t : State = record s { code = x.more; left = s.left - 1 } in
    let left : s.left - 1 ≡ x.left = omega (arith, x.count) in
    let busy : eqb s.left 0 ≡ false = ap (λ (n : ℕ). eqb n 0) x.count ∙ eqb-suc-zero x.left in
    let entry : entry_of s ≡ Some (CodeEntry b, t) = ap (option_map (λ (y : List ℕ × List ℕ). (CodeEntry y.0, record s { code = y.1; left = s.left - 1 }))) x.first in
    record {
      next = t;
      gives = in_code s busy ∙ entry ∙ ap (λ (q : Piece). Some (q, t)) (sym p-is);
      behind = inl (
        on,
        record {
          bodies = bs;
          sections = c.sections;
          others = c.others;
          code = ap (λ (n : ℕ). bodies_of n x.more) left ∙ x.others;
          frames = c.frames;
          in_order = c.in_order;
          made = c.made;
          all = ps-is;
          agree = subst (λ (q : Piece). agrees (tally_all (tally s.counts q) ps) ≡ true) p-is c.agree;
        },
      );
    }

-- the parts of sections that are read
pub record Opens (x : ℕ × List ℕ) (ss : List (ℕ × List ℕ)) (qs : List Piece) : Type 0 where
  pub front : List Piece
  pub others : List Piece
  pub section : pieces_of x ≡ Some front
  pub made : all_pieces ss ≡ Some others
  pub all : front ++ others ≡ qs

opens : (x : ℕ × List ℕ) (ss : List (ℕ × List ℕ)) (qs : List Piece) → all_pieces (x ∷ ss) ≡ Some qs → Opens x ss qs
opens x ss qs e =
    let a = then_some (λ (ps : List Piece). option_map (λ rs. ps ++ rs) (all_pieces ss)) (pieces_of x) qs e in
    let b = map_some (λ (rs : List Piece). a.0 ++ rs) (all_pieces ss) qs a.2 in
    record { front = a.0; others = b.0; section = a.1; made = b.1; all = b.2 }

-- bytes that a section is read from are some
some_bytes : (bytes : List ℕ) (x : (ℕ × List ℕ) × List ℕ) → section_at bytes ≡ Some x → eqb (length bytes) 0 ≡ false
some_bytes [] x e = absurd cc
some_bytes (b ∷ bytes) x e = eqb-suc-zero (length bytes)

piece_is : (s : State) (id : ℕ) (body rest : List ℕ) (q : Piece) → section_at s.bytes ≡ Some ((id, body), rest) → may_follow s.place id ≡ true → eqb id 10 ≡ false → piece_of id body ≡ Some q → settled (tally s.counts q) q ≡ true → section_of s ≡ Some (q, behind s id rest q)
piece_is s id body rest q e f n g h = rw e (rw f (rw (n, g) (rw h refl)))

code_is : (s : State) (body rest : List ℕ) (n : ℕ × List ℕ) → section_at s.bytes ≡ Some ((10, body), rest) → may_follow s.place 10 ≡ true → u32_at body ≡ Some n → settled (tally s.counts (CodeStart n.0 (length n.1))) (CodeStart n.0 (length n.1)) ≡ true → section_of s ≡ Some (CodeStart n.0 (length n.1), opened s rest n)
code_is s body rest n e f g h = rw e (rw f (rw g (rw h refl)))

-- what stands before the sections are read
pub record Idle (s : State) (x : ℕ × List ℕ) (ss : List (ℕ × List ℕ)) (ps : List Piece) : Type 0 where
  pub on : s.stage ≡ at_sections
  pub left : s.left ≡ 0
  pub code : s.code ≡ []
  pub rest : List ℕ
  pub section : section_at s.bytes ≡ Some (x, rest)
  pub frames : Frames ss rest
  pub in_order : Follow s.place (x ∷ ss)
  pub agree : agrees (tally_all s.counts ps) ≡ true

reads_section : (s : State) (x : ℕ × List ℕ) (ss : List (ℕ × List ℕ)) (ps : List Piece) → Idle s x ss ps → part_of s ≡ section_of s
reads_section s x ss ps i = at_section s (ap (λ (n : ℕ). eqb n 0) i.left) (is_empty_at s.code i.code) (some_bytes s.bytes (x, i.rest) i.section)

goes_piece : (s : State) (id : ℕ) (body : List ℕ) (ss : List (ℕ × List ℕ)) (q : Piece) (others : List Piece) (p : Piece) (ps : List Piece) → Idle s (id, body) ss (p ∷ ps) → eqb id 10 ≡ false → piece_of id body ≡ Some q → all_pieces ss ≡ Some others → p ≡ q → ps ≡ others ++ End ∷ [] → Goes s p ps
goes_piece s id body ss q others p ps i n f m p-is ps-is =
    let t : State = behind s id i.rest q in
    let agree : agrees (tally_all (tally s.counts q) ps) ≡ true = subst (λ (r : Piece). agrees (tally_all (tally s.counts r) ps) ≡ true) p-is i.agree in
    let fits : settled (tally s.counts q) q ≡ true = settled_piece (tally s.counts q) s.place id body q ss others f i.in_order.1 m (ap (λ (rs : List Piece). agrees (tally_all (tally s.counts q) rs)) (sym ps-is) ∙ agree) in
    record {
      next = t;
      gives = reads_section s (id, body) ss (p ∷ ps) i ∙ piece_is s id body i.rest q i.section i.in_order.0 n f fits ∙ ap (λ (r : Piece). Some (r, t)) (sym p-is);
      behind = inl (
        i.on,
        record {
          bodies = [];
          sections = ss;
          others = others;
          code = no_bodies s i.left i.code;
          frames = i.frames;
          in_order = i.in_order.1;
          made = m;
          all = ps-is;
          agree = agree;
        },
      );
    }

goes_code : (s : State) (body : List ℕ) (ss : List (ℕ × List ℕ)) (n : ℕ × List ℕ) (bs : List (List ℕ)) (others : List Piece) (p : Piece) (ps : List Piece) → Idle s (10, body) ss (p ∷ ps) → u32_at body ≡ Some n → bodies_of n.0 n.1 ≡ Some bs → all_pieces ss ≡ Some others → p ≡ CodeStart n.0 (length n.1) → ps ≡ map CodeEntry bs ++ (others ++ End ∷ []) → Goes s p ps
goes_code s body ss n bs others p ps i f b m p-is ps-is =
    let t : State = opened s i.rest n in
    let first : Piece = CodeStart n.0 (length n.1) in
    let agree : agrees (tally_all (tally s.counts first) ps) ≡ true = subst (λ (r : Piece). agrees (tally_all (tally s.counts r) ps) ≡ true) p-is i.agree in
    let fits : settled (tally s.counts first) first ≡ true = settled_code (tally s.counts first) s.place ss bs others i.in_order.1 m (ap (λ (rs : List Piece). agrees (tally_all (tally s.counts first) rs)) (sym ps-is) ∙ agree) in
    record {
      next = t;
      gives = reads_section s (10, body) ss (p ∷ ps) i ∙ code_is s body i.rest n i.section i.in_order.0 f fits ∙ ap (λ (r : Piece). Some (r, t)) (sym p-is);
      behind = inl (
        i.on,
        record {
          bodies = bs;
          sections = ss;
          others = others;
          code = b;
          frames = i.frames;
          in_order = i.in_order.1;
          made = m;
          all = ps-is;
          agree = agree;
        },
      );
    }

goes_opened : (s : State) (id : ℕ) (body : List ℕ) (ss : List (ℕ × List ℕ)) (p : Piece) (ps others : List Piece) → Idle s (id, body) ss (p ∷ ps) → Opens (id, body) ss others → p ∷ ps ≡ others ++ End ∷ [] → Goes s p ps
goes_opened s id body ss p ps others i o all =
    elim (chosen (eqb id 10) (code_pieces body) (option_map (λ (q : Piece). q ∷ []) (piece_of id body)) (Some o.front) o.section) [
      | inl a ↦
          let ten : id ≡ 10 = eqb-true _ _ a.0 in
          let x = then_some (λ (n : ℕ × List ℕ). option_map (λ bs. CodeStart n.0 (length n.1) ∷ map CodeEntry bs) (bodies_of n.0 n.1)) (u32_at body) o.front a.1 in
          let y = map_some (λ (bs : List (List ℕ)). CodeStart x.0.0 (length x.0.1) ∷ map CodeEntry bs) (bodies_of x.0.0 x.0.1) o.front x.2 in
          let whole : p ∷ ps ≡ CodeStart x.0.0 (length x.0.1) ∷ ((map CodeEntry y.0 ++ o.others) ++ End ∷ []) =
          all ∙ ap (λ (qs : List Piece). qs ++ End ∷ []) (sym o.all ∙ ap (λ (qs : List Piece). qs ++ o.others) (sym y.2)) in
          let p-is : p ≡ CodeStart x.0.0 (length x.0.1) = cc in
          let ps-is : ps ≡ (map CodeEntry y.0 ++ o.others) ++ End ∷ [] = cc in
          goes_code s body ss x.0 y.0 o.others p ps (subst (λ (n : ℕ). Idle s (n, body) ss (p ∷ ps)) ten i) x.1 y.1 o.made p-is
          (ps-is ∙ append_assoc (map CodeEntry y.0) o.others (End ∷ []))
      | inr a ↦
          let y = map_some (λ (q : Piece). q ∷ []) (piece_of id body) o.front a.1 in
          let whole : p ∷ ps ≡ y.0 ∷ (o.others ++ End ∷ []) =
          all ∙ ap (λ (qs : List Piece). qs ++ End ∷ []) (sym o.all ∙ ap (λ (qs : List Piece). qs ++ o.others) (sym y.2)) in
          let p-is : p ≡ y.0 = cc in
          let ps-is : ps ≡ o.others ++ End ∷ [] = cc in
          goes_piece s id body ss y.0 o.others p ps i a.0 y.1 o.made p-is ps-is
    ]

ends_here : (s : State) (p : Piece) (ps : List Piece) → s.left ≡ 0 → s.code ≡ [] → s.bytes ≡ [] → agrees (tally_all s.counts (p ∷ ps)) ≡ true → p ≡ End → ps ≡ [] → Goes s p ps
ends_here s p ps l c b a p-is ps-is =
    let agree : agrees (tally_all s.counts (End ∷ [])) ≡ true = subst (λ (qs : List Piece). agrees (tally_all s.counts qs) ≡ true) (ap (λ (q : Piece). q ∷ ps) p-is ∙ ap (λ (qs : List Piece). End ∷ qs) ps-is) a in
    record {
      next = record s { stage = ended };
      gives = at_end s (ap (λ (n : ℕ). eqb n 0) l) (is_empty_at s.code c) (is_empty_at s.bytes b)
          ∙ ap (λ (t : Bool). cond t (Some (End, record s { stage = ended })) None) agree
          ∙ ap (λ (q : Piece). Some (q, record s { stage = ended })) (sym p-is);
      behind = inr (refl, ps-is);
    }

goes_section : (s : State) (p : Piece) (ps : List Piece) (ss : List (ℕ × List ℕ)) (c : Completes s (p ∷ ps)) → s.stage ≡ at_sections → c.bodies ≡ [] → c.sections ≡ ss → Goes s p ps
goes_section s p ps [] c on e f =
    let b = bodies_nil s.left s.code (c.code ∙ ap Some e) in
    let none : [] ≡ c.others = some_is [] c.others (ap all_pieces (sym f) ∙ c.made) in
    let all : p ∷ ps ≡ End ∷ [] = c.all ∙ ap (λ (xs : List (List ℕ)). map CodeEntry xs ++ (c.others ++ End ∷ [])) e ∙ ap (λ (qs : List Piece). qs ++ End ∷ []) (sym none) in
    let p-is : p ≡ End = cc in
    let ps-is : ps ≡ [] = cc in
    ends_here s p ps b.0 b.1 (subst (λ (rs : List (ℕ × List ℕ)). Frames rs s.bytes) f c.frames) c.agree p-is ps-is
goes_section s p ps ((id, body) ∷ ss) c on e f =
    let b = bodies_nil s.left s.code (c.code ∙ ap Some e) in
    let frames : Frames ((id, body) ∷ ss) s.bytes = subst (λ (rs : List (ℕ × List ℕ)). Frames rs s.bytes) f c.frames in
    let all : p ∷ ps ≡ c.others ++ End ∷ [] = c.all ∙ ap (λ (xs : List (List ℕ)). map CodeEntry xs ++ (c.others ++ End ∷ [])) e in
    goes_opened s id body ss p ps c.others
    (record { on = on; left = b.0; code = b.1; rest = frames.0; section = frames.1; frames = frames.2; in_order = subst (Follow s.place) f c.in_order; agree = c.agree })
    (opens (id, body) ss c.others (ap all_pieces (sym f) ∙ c.made))
    all

goes : (s : State) (p : Piece) (ps : List Piece) (bs : List (List ℕ)) (c : Completes s (p ∷ ps)) → s.stage ≡ at_sections → c.bodies ≡ bs → Goes s p ps
goes s p ps [] c on e = goes_section s p ps c.sections c on e refl
goes s p ps (b ∷ bs) c on e = goes_entry s p ps b bs c on e

not_nothing : (xs ys : List Piece) (z : Piece) → [] ≡ xs ++ (ys ++ z ∷ []) → ⊥
not_nothing [] [] z e = cc
not_nothing [] (y ∷ ys) z e = cc
not_nothing (x ∷ xs) ys z e = cc

runs_on : (t : State) (ps : List Piece) → ((t.stage ≡ at_sections) × Completes t ps) ⊎ ((t.stage ≡ ended) × (ps ≡ [])) → (t.stage ≡ at_sections → Completes t ps → Run t ps) → Run t ps
runs_on t ps (inl a) h = h a.0 a.1
runs_on t ps (inr a) h = subst (Run t) (sym a.1) (at_over t a.0)

pub completes_run : (ps : List Piece) (s : State) → s.stage ≡ at_sections → Completes s ps → Run s ps
completes_run [] s on c = absurd (not_nothing (map CodeEntry c.bodies) c.others End c.all)
completes_run (p ∷ ps) s on c =
    let g = goes s p ps c.bodies c on refl in
    (g.next, at_part s on ∙ ap (option_map Some) g.gives, runs_on g.next ps g.behind (λ o d. completes_run ps g.next o d))
