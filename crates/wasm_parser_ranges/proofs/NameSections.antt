-- The first custom section `name`, and the names in it.
use Rattle.std.proofs.Common.{◌≡◌, refl, sym, ap, ◌∙◌, ℕ, suc, Bool, true, false, eqb, ◌⊎◌, inl, inr, List, [], ◌∷◌, ◌++◌, Option, Some, None}
use Rattle.std.proofs.lemmas.Bool.{eqb-true}
use Rattle.wasm_spec.specs.Values.{u32_at, sized_at, name_at}
use Rattle.wasm_spec.specs.Framing.{Piece}
use Rattle.wasm_parser.specs.Machine.{State, start, next_of, Given}
use Rattle.wasm_parser.proofs.Law.{run_framed, framed_run}
use Rattle.wasm_parser.proofs.RunFronts.{front, grows, ends, stuck}
use Rattle.wasm_parser_ranges.specs.Names.{names_behind, first_names, part_in, named_in, IsNameSection}
use Rattle.wasm_parser_ranges.specs.Ranges.{HasNoFraming}

-- what the pieces that came so far have
pub record SoFar (bytes : List ℕ) (contents : Option (List ℕ)) (t : State) : Type 0 where
  pub pieces : List Piece
  pub given : Given (start bytes) pieces t
  pub first : contents ≡ first_names None pieces

more_names : (found : Option (List ℕ)) (ps : List Piece) (p : Piece) → first_names found (ps ++ p ∷ []) ≡ names_behind (first_names found ps) p
more_names found [] p = refl
more_names found (q ∷ ps) p = more_names (names_behind found q) ps p

pub begin : (bytes : List ℕ) (t : State) → t ≡ start bytes → SoFar bytes None t
begin bytes t e = record { pieces = []; given = sym e; first = refl }

pub one_more : (bytes : List ℕ) (contents next : Option (List ℕ)) (t u : State) (p : Piece) → SoFar bytes contents t → next_of t ≡ Some (Some (p, u)) → next ≡ names_behind contents p → SoFar bytes next u
one_more bytes contents next t u p g e n = record {
  pieces = g.pieces ++ p ∷ [];
  given = grows g.pieces (start bytes) t u p g.given e;
  first = n ∙ ap (λ (d : Option (List ℕ)). names_behind d p) g.first ∙ sym (more_names None g.pieces p);
}

pub finish : (bytes : List ℕ) (contents : Option (List ℕ)) (t : State) → SoFar bytes contents t → next_of t ≡ Some None → IsNameSection bytes contents
finish bytes contents t g e = record { pieces = g.pieces; framed = run_framed bytes g.pieces (ends g.pieces (start bytes) t g.given e); first = g.first }

pub refused : (bytes : List ℕ) (contents : Option (List ℕ)) (t : State) → SoFar bytes contents t → next_of t ≡ None → HasNoFraming bytes
refused bytes contents t g e = λ all f.
    let b = front g.pieces (start bytes) t all g.given (framed_run bytes all f) in
    stuck t b.0 e b.2

truth : (b : Bool) → (b ≡ true) ⊎ (b ≡ false)
truth true = inl refl
truth false = inr refl

differs : (m n : ℕ) → (m ≡ n → ⊥) → eqb m n ≡ false
differs m n apart = elim (truth (eqb m n)) [ inl e ↦ absurd (apart (eqb-true _ _ e)) | inr e ↦ e ]

-- a part with another id
pub part_step : (n m id : ℕ) (bytes rest body behind : List ℕ) → n ≡ suc m → bytes ≡ id ∷ rest → sized_at rest ≡ Some (body, behind) → (id ≡ 1 → ⊥) → part_in n 1 bytes ≡ part_in m 1 behind
part_step n m id bytes rest body behind e b s apart =
    let other = differs id 1 apart in
    rw (e, b, s, other) refl

-- a name of another function
pub name_step : (n m i index : ℕ) (bytes rest name behind : List ℕ) → n ≡ suc m → u32_at bytes ≡ Some (i, rest) → name_at rest ≡ Some (name, behind) → (i ≡ index → ⊥) → named_in n index bytes ≡ named_in m index behind
name_step n m i index bytes rest name behind e u s apart =
    let other = differs i index apart in
    rw (e, u, s, other) refl
