-- A framed module has as many bodies as functions.
use Rattle.std.proofs.Common.{◌≡◌, ◌≢◌, refl, sym, ap, subst, ◌∙◌, inl, inr, ℕ, zero, suc, ◌+◌, ◌<◌, ◌≤◌, Bool, true, false, ◌&&◌, cond, eqb, ltb, List, [], ◌∷◌, ◌++◌, map, length, Option, Some, arith, length-append}
use Rattle.std.specs.Option.{option_map}
use Rattle.std.specs.List.{flat_map}
use Rattle.std.proofs.lemmas.Bool.{eqb-true, eqb-false, eq-eqb, ne_eqb, ltb-false}
use Rattle.std.proofs.lemmas.Grind.{flat_map-append}
use Rattle.wasm_readers_errors.specs.WasmSpec.Values.{u32_at, name_at, sized_at, items_at}
use Rattle.wasm_readers_errors.specs.WasmSpec.Framing.{Piece, Version, Custom, Counted, Start, DataCount, CodeStart, CodeEntry, Unknown, End, place, InOrder, piece_of, number_of, code_pieces, pieces_of, all_pieces, Tally, nothing_yet, tally_all, is_none_or, agrees}
use Rattle.wasm_spec_rules.specs.Parts.{items_of, all_items, bodies_of}
use Rattle.wasm_spec_rules.proofs.Tests.{then_some, map_some, when, unless, chosen}
use Rattle.wasm_spec_rules.specs.Bodies.{BodiesAreAsManyAsFunctions}
use Rattle.wasm_spec_rules.proofs.Counts.{total, total-append, AreQuiet, counted_once}

-- how many functions a piece declares
abbrev declares : Piece → ℕ
declares (Counted id n bytes) = cond (eqb id 3) n 0
declares (Version number kind) = 0
declares (Custom name bytes) = 0
declares (Start x) = 0
declares (DataCount n) = 0
declares (CodeStart n size) = 0
declares (CodeEntry bytes) = 0
declares (Unknown id bytes) = 0
declares End = 0

-- how many bodies a piece announces
abbrev announces : Piece → ℕ
announces (CodeStart n size) = n
announces (Version number kind) = 0
announces (Custom name bytes) = 0
announces (Counted id n bytes) = 0
announces (Start x) = 0
announces (DataCount n) = 0
announces (CodeEntry bytes) = 0
announces (Unknown id bytes) = 0
announces End = 0

-- so many items are so many
as_many : {V : Type 0} (reads : List ℕ → Option (V × List ℕ)) (n : ℕ) (bytes : List ℕ) (xs : List V) → items_at reads n bytes ≡ Some xs → length xs ≡ n
as_many reads zero bytes xs e =
    elim (chosen (eqb (length bytes) 0) _ _ (Some xs) e) [
      | inl a ↦ let none : [] ≡ xs = cc in sym (ap length none)
      | inr a ↦ absurd cc
    ]
as_many {V} reads (suc n) bytes xs e =
    let x = then_some (λ (x : V × List ℕ). option_map (λ (ys : List V). x.0 ∷ ys) (items_at reads n x.1)) (reads bytes) xs e in
    let y = map_some (λ (ys : List V). x.0.0 ∷ ys) (items_at reads n x.0.1) xs x.2 in
    sym (ap length y.2) ∙ ap suc (as_many reads n x.0.1 y.0 y.1)

-- the functions of a module are as many as its pieces declare
one_declares : (p : Piece) (xs : List ℕ) → items_of 3 u32_at p ≡ Some xs → length xs ≡ declares p
one_declares (Counted id n bytes) xs e =
    elim (chosen (eqb id 3) (items_at u32_at n bytes) (Some []) (Some xs) e) [
      | inl a ↦ as_many u32_at n bytes xs a.1 ∙ sym (when (eqb id 3) n 0 a.0)
      | inr a ↦ let none : [] ≡ xs = cc in sym (ap length none) ∙ sym (unless (eqb id 3) n 0 a.0)
    ]
one_declares (Version number kind) xs e = let none : [] ≡ xs = cc in sym (ap length none)
one_declares (Custom name bytes) xs e = let none : [] ≡ xs = cc in sym (ap length none)
one_declares (Start x) xs e = let none : [] ≡ xs = cc in sym (ap length none)
one_declares (DataCount n) xs e = let none : [] ≡ xs = cc in sym (ap length none)
one_declares (CodeStart n size) xs e = let none : [] ≡ xs = cc in sym (ap length none)
one_declares (CodeEntry bytes) xs e = let none : [] ≡ xs = cc in sym (ap length none)
one_declares (Unknown id bytes) xs e = let none : [] ≡ xs = cc in sym (ap length none)
one_declares End xs e = let none : [] ≡ xs = cc in sym (ap length none)

all_declare : (ps : List Piece) (xs : List ℕ) → all_items 3 u32_at ps ≡ Some xs → length xs ≡ total declares ps
all_declare [] xs e = let none : [] ≡ xs = cc in sym (ap length none)
all_declare (p ∷ ps) xs e =
    let y = then_some (λ (ys : List ℕ). option_map (λ (zs : List ℕ). ys ++ zs) (all_items 3 u32_at ps)) (items_of 3 u32_at p) xs e in
    let z = map_some (λ (zs : List ℕ). y.0 ++ zs) (all_items 3 u32_at ps) xs y.2 in
    sym (ap length z.2) ∙ omega (arith, length-append y.0 z.0, one_declares p y.0 y.1, all_declare ps z.0 z.1)

-- what a section with this id makes, where it isn't the code section
abbrev IsPlain : ℕ → Piece → Type 0
IsPlain id (Counted i n bytes) = i ≡ id
IsPlain id (Custom name bytes) = id ≡ 0
IsPlain id (Start x) = id ≡ 8
IsPlain id (DataCount n) = id ≡ 12
IsPlain id (Unknown i bytes) = 14 ≤ id
IsPlain id (CodeStart n size) = ⊥
IsPlain id (CodeEntry bytes) = ⊥
IsPlain id (Version number kind) = ⊥
IsPlain id End = ⊥

plain_piece : (id : ℕ) (bytes : List ℕ) (p : Piece) → piece_of id bytes ≡ Some p → IsPlain id p
unfolding piece_of
plain_piece id bytes p e =
    elim (chosen (eqb id 0) _ _ (Some p) e) [
      | inl a ↦ let m = map_some (λ (n : List ℕ × List ℕ). Custom n.0 n.1) (name_at bytes) p a.1 in subst (IsPlain id) m.2 (eqb-true id 0 a.0)
      | inr a ↦ elim (chosen (eqb id 8) _ _ (Some p) a.1) [
        | inl b ↦ let m = map_some Start (number_of bytes) p b.1 in subst (IsPlain id) m.2 (eqb-true id 8 b.0)
        | inr b ↦ elim (chosen (eqb id 12) _ _ (Some p) b.1) [
          | inl c ↦ let m = map_some DataCount (number_of bytes) p c.1 in subst (IsPlain id) m.2 (eqb-true id 12 c.0)
          | inr c ↦ elim (chosen (ltb id 14) _ _ (Some p) c.1) [
            | inl d ↦ let m = map_some (λ (n : ℕ × List ℕ). Counted id n.0 n.1) (u32_at bytes) p d.1 in subst (IsPlain id) m.2 refl
            | inr d ↦ let same : Unknown id bytes ≡ p = cc in subst (IsPlain id) same (ltb-false id 14 d.0)
          ]
        ]
      ]
    ]

-- What holds of one plain piece, and of the front of the code and so many bodies, holds of each section's pieces.
module _ (P : ℕ → List Piece → Type 0) (plain : (id : ℕ) (p : Piece) → id ≢ 10 → IsPlain id p → P id (p ∷ []))
    (code : (n size : ℕ) (bs : List (List ℕ)) → length bs ≡ n → P 10 (CodeStart n size ∷ map CodeEntry bs)) where
  code_holds : (bytes : List ℕ) (qs : List Piece) → code_pieces bytes ≡ Some qs → P 10 qs
  code_holds bytes qs e =
      let n = then_some (λ (n : ℕ × List ℕ). option_map (λ (bs : List (List ℕ)). CodeStart n.0 (length n.1) ∷ map CodeEntry bs) (items_at sized_at n.0 n.1)) (u32_at bytes) qs e in
      let m = map_some (λ (bs : List (List ℕ)). CodeStart n.0.0 (length n.0.1) ∷ map CodeEntry bs) (items_at sized_at n.0.0 n.0.1) qs n.2 in
      subst (P 10) m.2 (code n.0.0 (length n.0.1) m.0 (as_many sized_at n.0.0 n.0.1 m.0 m.1))

  holds : (s : ℕ × List ℕ) (qs : List Piece) → pieces_of s ≡ Some qs → P s.0 qs
  holds s qs e =
      elim (chosen (eqb s.0 10) _ _ (Some qs) e) [
        | inl a ↦ subst (λ n. P n qs) (sym (eqb-true s.0 10 a.0)) (code_holds s.1 qs a.1)
        | inr a ↦ let m = map_some (λ (p : Piece). p ∷ []) (piece_of s.0 s.1) qs a.1 in subst (P s.0) m.2 (plain s.0 m.0 (eqb-false s.0 10 a.0) (plain_piece s.0 s.1 m.0 m.1))
      ]

-- the bodies of a module are as many as its pieces announce
abbrev HasAnnounced : List Piece → Type 0
HasAnnounced qs = length (flat_map bodies_of qs) ≡ total announces qs

plain_announces : (id : ℕ) (p : Piece) → id ≢ 10 → IsPlain id p → HasAnnounced (p ∷ [])
plain_announces id (Counted i n bytes) k h = refl
plain_announces id (Custom name bytes) k h = refl
plain_announces id (Start x) k h = refl
plain_announces id (DataCount n) k h = refl
plain_announces id (Unknown i bytes) k h = refl
plain_announces id (CodeStart n size) k h = absurd h
plain_announces id (CodeEntry bytes) k h = absurd h
plain_announces id (Version number kind) k h = absurd h
plain_announces id End k h = absurd h

entries : (bs : List (List ℕ)) → flat_map bodies_of (map CodeEntry bs) ≡ bs
entries [] = refl
entries (b ∷ bs) = ap (λ (xs : List (List ℕ)). b ∷ xs) (entries bs)

-- bodies alone leave each count
entries_quiet : (m : Piece → ℕ) (count : Tally → ℕ) → ((b : List ℕ) → m (CodeEntry b) ≡ 0) → (bs : List (List ℕ)) → AreQuiet m count (map CodeEntry bs)
entries_quiet m count none [] = (refl, λ t. refl)
entries_quiet m count none (b ∷ bs) = let more = entries_quiet m count none bs in (omega (arith, none b, more.0), more.1)

-- the two counts that must agree
abbrev functions_in : Tally → ℕ
functions_in t = t.functions

abbrev bodies_in : Tally → ℕ
bodies_in t = t.bodies

code_announces : (n size : ℕ) (bs : List (List ℕ)) → length bs ≡ n → HasAnnounced (CodeStart n size ∷ map CodeEntry bs)
code_announces n size bs e = ap length (entries bs) ∙ omega (arith, e, (entries_quiet announces bodies_in (λ b. refl) bs).0)

announced-append : (qs rs : List Piece) → HasAnnounced qs → HasAnnounced rs → HasAnnounced (qs ++ rs)
announced-append qs rs a b =
    ap length (flat_map-append bodies_of qs rs) ∙ omega (arith, length-append (flat_map bodies_of qs) (flat_map bodies_of rs), a, b, total-append announces qs rs)

all_announced : (ss : List (ℕ × List ℕ)) (ps : List Piece) → all_pieces ss ≡ Some ps → HasAnnounced ps
all_announced [] ps e = let none : [] ≡ ps = cc in subst HasAnnounced none refl
all_announced (s ∷ ss) ps e =
    let q = then_some (λ (rs : List Piece). option_map (λ (xs : List Piece). rs ++ xs) (all_pieces ss)) (pieces_of s) ps e in
    let r = map_some (λ (xs : List Piece). q.0 ++ xs) (all_pieces ss) ps q.2 in
    subst HasAnnounced r.2 (announced-append q.0 r.0 (holds (λ id qs. HasAnnounced qs) plain_announces code_announces s q.0 q.1) (all_announced ss r.0 r.1))

-- what a section with this id says of the functions: nothing, if the id isn't 3
abbrev SaysFunctions : ℕ → List Piece → Type 0
SaysFunctions id qs = (id ≢ 3 → AreQuiet declares functions_in qs) × (id ≡ 3 → (t : Tally) → functions_in (tally_all t qs) ≡ total declares qs)

functions_kept : (a b : Bool) (t u v : Tally) → v.functions ≡ t.functions → a ≡ false → functions_in (cond a u (cond b v t)) ≡ functions_in t
functions_kept true b t u v p e = absurd cc
functions_kept false true t u v p e = p
functions_kept false false t u v p e = refl

functions_set : (a : Bool) (n : ℕ) (u v : Tally) → u.functions ≡ n → a ≡ true → functions_in (cond a u v) ≡ cond a n 0 + 0
functions_set true n u v p e = omega (arith, p)
functions_set false n u v p e = absurd cc

plain_functions : (id : ℕ) (p : Piece) → id ≢ 10 → IsPlain id p → SaysFunctions id (p ∷ [])
plain_functions id (Counted i n bytes) k h = (
  λ other. let no : eqb i 3 ≡ false = ne_eqb i 3 (λ e. other (sym h ∙ e)) in
      (ap (λ x. x + 0) (unless (eqb i 3) n 0 no), λ t. functions_kept (eqb i 3) (eqb i 11) t (record t { functions = n }) (record t { segments = n }) refl no),
  λ three t. functions_set (eqb i 3) n (record t { functions = n }) (cond (eqb i 11) (record t { segments = n }) t) refl (eq-eqb i 3 (h ∙ three)),
)
plain_functions id (Custom name bytes) k h = (λ other. (refl, λ t. refl), λ three t. absurd (omega (arith, h, three)))
plain_functions id (Start x) k h = (λ other. (refl, λ t. refl), λ three t. absurd (omega (arith, h, three)))
plain_functions id (DataCount n) k h = (λ other. (refl, λ t. refl), λ three t. absurd (omega (arith, h, three)))
plain_functions id (Unknown i bytes) k h = (λ other. (refl, λ t. refl), λ three t. absurd (omega (arith, h, three)))
plain_functions id (CodeStart n size) k h = absurd h
plain_functions id (CodeEntry bytes) k h = absurd h
plain_functions id (Version number kind) k h = absurd h
plain_functions id End k h = absurd h

code_functions : (n size : ℕ) (bs : List (List ℕ)) → length bs ≡ n → SaysFunctions 10 (CodeStart n size ∷ map CodeEntry bs)
code_functions n size bs e =
    let none = entries_quiet declares functions_in (λ b. refl) bs in
    (λ other. (omega (arith, none.0), λ t. none.1 (record t { bodies = n })), λ three t. absurd (omega (arith, three)))

says_functions : (s : ℕ × List ℕ) (qs : List Piece) → pieces_of s ≡ Some qs → SaysFunctions s.0 qs
says_functions s qs e = holds SaysFunctions plain_functions code_functions s qs e

-- and of the bodies: nothing, if the id isn't 10
abbrev SaysBodies : ℕ → List Piece → Type 0
SaysBodies id qs = (id ≢ 10 → AreQuiet announces bodies_in qs) × (id ≡ 10 → (t : Tally) → bodies_in (tally_all t qs) ≡ total announces qs)

bodies_kept : (a b : Bool) (t u v : Tally) → u.bodies ≡ t.bodies → v.bodies ≡ t.bodies → bodies_in (cond a u (cond b v t)) ≡ bodies_in t
bodies_kept true b t u v p q = p
bodies_kept false true t u v p q = q
bodies_kept false false t u v p q = refl

plain_bodies : (id : ℕ) (p : Piece) → id ≢ 10 → IsPlain id p → SaysBodies id (p ∷ [])
plain_bodies id (Counted i n bytes) k h = (λ other. (refl, λ t. bodies_kept (eqb i 3) (eqb i 11) t (record t { functions = n }) (record t { segments = n }) refl refl), λ ten. absurd (k ten))
plain_bodies id (Custom name bytes) k h = (λ other. (refl, λ t. refl), λ ten. absurd (k ten))
plain_bodies id (Start x) k h = (λ other. (refl, λ t. refl), λ ten. absurd (k ten))
plain_bodies id (DataCount n) k h = (λ other. (refl, λ t. refl), λ ten. absurd (k ten))
plain_bodies id (Unknown i bytes) k h = (λ other. (refl, λ t. refl), λ ten. absurd (k ten))
plain_bodies id (CodeStart n size) k h = absurd h
plain_bodies id (CodeEntry bytes) k h = absurd h
plain_bodies id (Version number kind) k h = absurd h
plain_bodies id End k h = absurd h

code_bodies : (n size : ℕ) (bs : List (List ℕ)) → length bs ≡ n → SaysBodies 10 (CodeStart n size ∷ map CodeEntry bs)
code_bodies n size bs e =
    let none = entries_quiet announces bodies_in (λ b. refl) bs in
    (λ other. absurd (other refl), λ ten t. none.1 (record t { bodies = n }) ∙ omega (arith, none.0))

says_bodies : (s : ℕ × List ℕ) (qs : List Piece) → pieces_of s ≡ Some qs → SaysBodies s.0 qs
says_bodies s qs e = holds SaysBodies plain_bodies code_bodies s qs e

-- each of them stands once at most
placed : (0 < place 3) × (0 < place 10)
unfolding place
placed = (omega arith, omega arith)

module _ (ss : List (ℕ × List ℕ)) (ps : List Piece) (o : InOrder ss) (e : all_pieces ss ≡ Some ps) where
  functions_counted : functions_in (tally_all nothing_yet ps) ≡ total declares ps
  functions_counted =
      counted_once declares functions_in 3 placed.0 (λ s qs other h. (says_functions s qs h).0 other) (λ s qs own h. (says_functions s qs h).1 own) ss ps o e nothing_yet refl

  bodies_counted : bodies_in (tally_all nothing_yet ps) ≡ total announces ps
  bodies_counted =
      counted_once announces bodies_in 10 placed.1 (λ s qs other h. (says_bodies s qs h).0 other) (λ s qs own h. (says_bodies s qs h).1 own) ss ps o e nothing_yet refl

first_holds : (a b : Bool) → (a && b) ≡ true → a ≡ true
first_holds true b e = refl
first_holds false b e = absurd cc

agreed : (t : Tally) → agrees t ≡ true → functions_in t ≡ bodies_in t
agreed t e = eqb-true t.functions t.bodies (first_holds (eqb t.functions t.bodies) (is_none_or t.declared t.segments) e)

pub bodies_are_as_many_as_functions : BodiesAreAsManyAsFunctions
bodies_are_as_many_as_functions compact expression_at bytes pieces f parts h =
    sym (ap length h.bodies)
    ∙ all_announced f.sections f.others f.made
    ∙ sym (bodies_counted f.sections f.others f.in_order f.made)
    ∙ sym (agreed (tally_all nothing_yet f.others) f.agree)
    ∙ functions_counted f.sections f.others f.in_order f.made
    ∙ sym (all_declare f.others parts.functions h.functions)
