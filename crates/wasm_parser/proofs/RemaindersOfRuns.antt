-- A run reads what is left.
use Rattle.std.proofs.Common.{◌≡◌, ◌-◌, ℕ, suc, true, false, cond, eqb, List, [], ◌∷◌, ◌++◌, length, map, Some, None, refl, sym, ap, subst, ◌∙◌, ◌⊎◌, inl, inr, append_assoc}
use Rattle.std.specs.Option.{option_map}
use Rattle.std.proofs.lemmas.Bool.{eqb-true}
use Rattle.std.proofs.lemmas.Option.{cond_some}
use Rattle.wasm_spec.specs.Values.{u32_at, sized_at}
use Rattle.wasm_spec.specs.Framing.{Piece, CodeStart, CodeEntry, End, section_at, piece_of, all_pieces, agrees}
use Rattle.wasm_parser.specs.Machine.{may_follow}
use Rattle.wasm_parser.specs.Machine.{State, at_sections, ended, entry_of, opened, behind, contents_of, alone_of, section_of, part_of, Run}
use Rattle.wasm_parser.proofs.Steps.{then_some, map_some, not_end, gives, guarded, chosen, some_is, left_more, at_part, alone_is, AtEnd, which, bodies_of, Completes, no_bodies, over_run}

-- a step goes from what is left to what is left behind it
pub record Steps (s : State) (p : Piece) (t : State) : Type 0 where
  pub on : t.stage ≡ at_sections
  pub before : (ps : List Piece) → Completes t ps → Completes s (p ∷ ps)

-- or to the end
pub record Ends (s : State) (p : Piece) (t : State) : Type 0 where
  pub over : t.stage ≡ ended
  pub completes : Completes s (p ∷ [])

bodies_more : (n : ℕ) (bytes b more : List ℕ) (bs : List (List ℕ)) → sized_at bytes ≡ Some (b, more) → bodies_of n more ≡ Some bs → bodies_of (suc n) bytes ≡ Some (b ∷ bs)
bodies_more n bytes b more bs e f = rw e (rw f refl)

pub made_piece : (id : ℕ) (body : List ℕ) (ss : List (ℕ × List ℕ)) (p : Piece) (qs : List Piece) → eqb id 10 ≡ false → piece_of id body ≡ Some p → all_pieces ss ≡ Some qs → all_pieces ((id, body) ∷ ss) ≡ Some (p ∷ qs)
made_piece id body ss p qs n e g = rw (n, e) (rw g refl)

pub made_code : (body : List ℕ) (ss : List (ℕ × List ℕ)) (n : ℕ) (code : List ℕ) (bs : List (List ℕ)) (qs : List Piece) → u32_at body ≡ Some (n, code) → bodies_of n code ≡ Some bs → all_pieces ss ≡ Some qs → all_pieces ((10, body) ∷ ss) ≡ Some ((CodeStart n (length code) ∷ map CodeEntry bs) ++ qs)
made_code body ss n code bs qs e f g = rw e (rw f (rw g refl))

entry_steps : (s : State) (p : Piece) (t : State) → s.stage ≡ at_sections → eqb s.left 0 ≡ false → entry_of s ≡ Some (p, t) → Steps s p t
entry_steps s p t on busy e =
    let x = map_some (λ (b : List ℕ × List ℕ). (CodeEntry b.0, record s { code = b.1; left = s.left - 1 })) (sized_at s.code) (p, t) e in
    let b = x.0.0 in
    let more = x.0.1 in
    let u : State = record s { code = more; left = s.left - 1 } in
    let made : Steps s (CodeEntry b) u = record {
      on = on;
      before = λ ps c. record {
        bodies = b ∷ c.bodies;
        sections = c.sections;
        others = c.others;
        code = ap (λ (n : ℕ). bodies_of n s.code) (left_more s.left busy) ∙ bodies_more (s.left - 1) s.code b more c.bodies x.1 c.code;
        frames = c.frames;
        in_order = c.in_order;
        made = c.made;
        all = ap (λ (qs : List Piece). CodeEntry b ∷ qs) c.all;
        agree = c.agree;
      };
    } in
    subst (λ (y : Piece × State). Steps s y.0 y.1) x.2 made

piece_steps : (s : State) (id : ℕ) (body rest : List ℕ) (q : Piece) → s.stage ≡ at_sections → s.left ≡ 0 → s.code ≡ [] → section_at s.bytes ≡ Some ((id, body), rest) → may_follow s.place id ≡ true → eqb id 10 ≡ false → piece_of id body ≡ Some q → Steps s q (behind s id rest q)
piece_steps s id body rest q on l c e m n f = record {
  on = on;
  before = λ ps d.
      let none : d.bodies ≡ [] = sym (some_is [] d.bodies (sym (no_bodies s l c) ∙ d.code)) in
      record {
        bodies = [];
        sections = (id, body) ∷ d.sections;
        others = q ∷ d.others;
        code = no_bodies s l c;
        frames = (rest, e, d.frames);
        in_order = (m, d.in_order);
        made = made_piece id body d.sections q d.others n f d.made;
        all = ap (λ (qs : List Piece). q ∷ qs) (d.all ∙ ap (λ (bs : List (List ℕ)). map CodeEntry bs ++ (d.others ++ End ∷ [])) none);
        agree = d.agree;
      };
}

code_steps : (s : State) (body rest : List ℕ) (n : ℕ × List ℕ) → s.stage ≡ at_sections → s.left ≡ 0 → s.code ≡ [] → section_at s.bytes ≡ Some ((10, body), rest) → may_follow s.place 10 ≡ true → u32_at body ≡ Some n → Steps s (CodeStart n.0 (length n.1)) (opened s rest n)
code_steps s body rest n on l c e m f = record {
  on = on;
  before = λ ps d. record {
    bodies = [];
    sections = (10, body) ∷ d.sections;
    others = (CodeStart n.0 (length n.1) ∷ map CodeEntry d.bodies) ++ d.others;
    code = no_bodies s l c;
    frames = (rest, e, d.frames);
    in_order = (m, d.in_order);
    made = made_code body d.sections n.0 n.1 d.bodies d.others f d.code d.made;
    all = ap (λ (qs : List Piece). CodeStart n.0 (length n.1) ∷ qs) (d.all ∙ sym (append_assoc (map CodeEntry d.bodies) d.others (End ∷ [])));
    agree = d.agree;
  };
}

alone_steps : (s : State) (p : Piece) (t : State) → s.stage ≡ at_sections → s.left ≡ 0 → s.code ≡ [] → alone_of s ≡ Some (p, t) → Steps s p t
alone_steps s p t on l c e =
    let x = then_some (λ (x : (ℕ × List ℕ) × List ℕ). cond (may_follow s.place x.0.0) (contents_of s x.0.0 x.0.1 x.1) None) (section_at s.bytes) (p, t) e in
    let id = x.0.0.0 in
    let body = x.0.0.1 in
    let rest = x.0.1 in
    let g = guarded (may_follow s.place id) (contents_of s id body rest) (p, t) x.2 in
    elim (chosen (eqb id 10) (option_map (λ (n : ℕ × List ℕ). (CodeStart n.0 (length n.1), opened s rest n)) (u32_at body)) (option_map (λ (q : Piece). (q, behind s id rest q)) (piece_of id body)) (Some (p, t)) g.1) [
      | inl a ↦
          let ten : id ≡ 10 = eqb-true _ _ a.0 in
          let y = map_some (λ (n : ℕ × List ℕ). (CodeStart n.0 (length n.1), opened s rest n)) (u32_at body) (p, t) a.1 in
          subst (λ (z : Piece × State). Steps s z.0 z.1) y.2
          (code_steps s body rest y.0 on l c (x.1 ∙ ap (λ (i : ℕ). Some ((i, body), rest)) ten) (ap (may_follow s.place) (sym ten) ∙ g.0) y.1)
      | inr a ↦
          let y = map_some (λ (q : Piece). (q, behind s id rest q)) (piece_of id body) (p, t) a.1 in
          subst (λ (z : Piece × State). Steps s z.0 z.1) y.2 (piece_steps s id body rest y.0 on l c x.1 g.0 a.0 y.1)
    ]

section_steps : (s : State) (p : Piece) (t : State) → s.stage ≡ at_sections → s.left ≡ 0 → s.code ≡ [] → section_of s ≡ Some (p, t) → Steps s p t
section_steps s p t on l c e = alone_steps s p t on l c (alone_is s (p, t) e)

end_ends : (s : State) (p : Piece) (t : State) → AtEnd s (p, t) → Ends s p t
end_ends s p t a =
    let g = cond_some (agrees s.counts) (End, record s { stage = ended }) (p, t) a.ending in
    let made : Ends s End (record s { stage = ended }) = record {
      over = refl;
      completes = record {
        bodies = [];
        sections = [];
        others = [];
        code = no_bodies s a.left a.code;
        frames = a.bytes;
        in_order = tt;
        made = refl;
        all = refl;
        agree = g.0;
      };
    } in
    subst (λ (y : Piece × State). Ends s y.0 y.1) g.1 made

moves : (s : State) (p : Piece) (t : State) → s.stage ≡ at_sections → part_of s ≡ Some (p, t) → Steps s p t ⊎ Ends s p t
moves s p t on e =
    elim (which s (p, t) e) [
      | inl a ↦ inl (entry_steps s p t on a.busy a.entry)
      | inr b ↦ elim b [
        | inl a ↦ inl (section_steps s p t on a.left a.code a.section)
        | inr a ↦ inr (end_ends s p t a)
      ]
    ]

goes_on : (s : State) (p : Piece) (t : State) (ps : List Piece) → Steps s p t ⊎ Ends s p t → Run t ps → (t.stage ≡ at_sections → Completes t ps) → Completes s (p ∷ ps)
goes_on s p t ps (inl step) r h = step.before ps (h step.on)
goes_on s p t ps (inr stop) r h = subst (λ (qs : List Piece). Completes s (p ∷ qs)) (sym (over_run ps t stop.over r)) stop.completes

pub run_completes : (ps : List Piece) (s : State) → s.stage ≡ at_sections → Run s ps → Completes s ps
run_completes [] s on run = absurd (not_end (part_of s) (sym (at_part s on) ∙ run))
run_completes (p ∷ ps) s on run =
    let e : part_of s ≡ Some (p, run.0) = gives (part_of s) (p, run.0) (sym (at_part s on) ∙ run.1) in
    goes_on s p run.0 ps (moves s p run.0 on e) run.2 (λ o. run_completes ps run.0 o run.2)
