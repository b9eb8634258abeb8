-- What the machine does at each stage, and what is left to read there.
use Rattle.std.proofs.Common.{◌≡◌, ◌-◌, ℕ, suc, Bool, true, false, cond, eqb, List, [], ◌∷◌, ◌++◌, length, map, Option, Some, None, refl, sym, ap, ◌∙◌, ◌⊎◌, inl, inr, arith}
use Rattle.std.specs.Option.{option_map, option_and_then}
use Rattle.std.proofs.lemmas.Bool.{eqb-true, eqb-false}
use Rattle.std.proofs.lemmas.List.{nil_from_length}
use Rattle.std.proofs.lemmas.Option.{cond_some}
use Rattle.wasm_spec.specs.Values.{sized_at, items_at}
use Rattle.wasm_spec.specs.Framing.{Piece, CodeEntry, End, Frames, all_pieces, tally_all, agrees}
use Rattle.wasm_parser.proofs.Order.{Follow}
use Rattle.wasm_parser.specs.Machine.{State, at_header, at_sections, ended, header_of, entry_of, alone_of, settled, section_of, ending_of, part_of, next_of, Run}

pub truth : (b : Bool) → (b ≡ true) ⊎ (b ≡ false)
truth true = inl refl
truth false = inr refl

pub then_some : {A B : Type 0} (f : A → Option B) (o : Option A) (y : B) → option_and_then f o ≡ Some y → (x : A) × (o ≡ Some x) × (f x ≡ Some y)
then_some f None y e = absurd cc
then_some f (Some x) y e = (x, refl, e)

pub map_some : {A B : Type 0} (f : A → B) (o : Option A) (y : B) → option_map f o ≡ Some y → (x : A) × (o ≡ Some x) × (f x ≡ y)
map_some f None y e = absurd cc
map_some f (Some x) y e = (x, refl, cc)

pub not_end : {A : Type 0} (o : Option A) → option_map Some o ≡ Some None → ⊥
not_end None e = cc
not_end (Some x) e = cc

pub gives : {A : Type 0} (o : Option A) (x : A) → option_map Some o ≡ Some (Some x) → o ≡ Some x
gives None x e = absurd cc
gives (Some y) x e = cc

pub guarded : {A : Type 0} (b : Bool) (o : Option A) (x : A) → cond b o None ≡ Some x → (b ≡ true) × (o ≡ Some x)
guarded true o x e = (refl, e)
guarded false o x e = absurd cc

pub chosen : {A : Type 0} (b : Bool) (x y z : A) → cond b x y ≡ z → ((b ≡ true) × (x ≡ z)) ⊎ ((b ≡ false) × (y ≡ z))
chosen true x y z e = inl (refl, e)
chosen false x y z e = inr (refl, e)

pub unless : {A : Type 0} (b : Bool) (x y : A) → cond b None (Some x) ≡ Some y → (b ≡ false) × (x ≡ y)
unless true x y e = absurd cc
unless false x y e = (refl, cc)

pub some_is : {A : Type 0} (x y : A) → ◌≡◌ {A = Option A} (Some x) (Some y) → x ≡ y
some_is x y e = cc

pub left_more : (n : ℕ) → eqb n 0 ≡ false → n ≡ suc (n - 1)
left_more n busy = let h : n ≡ 0 → ⊥ = eqb-false _ _ busy in omega arith

pub is_empty_at : (xs : List ℕ) → xs ≡ [] → eqb (length xs) 0 ≡ true
is_empty_at xs e = ap (λ (ys : List ℕ). eqb (length ys) 0) e

-- ---- where the machine stands

pub at_start : (s : State) → s.stage ≡ at_header → next_of s ≡ option_map Some (header_of s)
at_start s e = rw e refl

pub at_part : (s : State) → s.stage ≡ at_sections → next_of s ≡ option_map Some (part_of s)
at_part s e = rw e refl

pub at_over : (s : State) → s.stage ≡ ended → next_of s ≡ Some None
at_over s e = rw e refl

pub in_code : (s : State) → eqb s.left 0 ≡ false → part_of s ≡ entry_of s
unfolding part_of
in_code s busy = rw busy refl

pub at_stray : (s : State) → eqb s.left 0 ≡ true → eqb (length s.code) 0 ≡ false → part_of s ≡ None
unfolding part_of
at_stray s idle stray = rw (idle, stray) refl

pub at_section : (s : State) → eqb s.left 0 ≡ true → eqb (length s.code) 0 ≡ true → eqb (length s.bytes) 0 ≡ false → part_of s ≡ section_of s
unfolding part_of
at_section s idle none more = rw (idle, none, more) refl

pub at_end : (s : State) → eqb s.left 0 ≡ true → eqb (length s.code) 0 ≡ true → eqb (length s.bytes) 0 ≡ true → part_of s ≡ ending_of s
unfolding part_of
at_end s idle none over = rw (idle, none, over) refl

-- a section whose counts agree is one alone
pub alone_is : (s : State) (x : Piece × State) → section_of s ≡ Some x → alone_of s ≡ Some x
alone_is s x e =
    let y = then_some (λ (y : Piece × State). cond (settled y.1.counts y.0) (Some y) None) (alone_of s) x e in
    y.1 ∙ ap Some (cond_some (settled y.0.1.counts y.0.0) y.0 x y.2).1

pub record InCode (s : State) (x : Piece × State) : Type 0 where
  pub busy : eqb s.left 0 ≡ false
  pub entry : entry_of s ≡ Some x

pub record AtSection (s : State) (x : Piece × State) : Type 0 where
  pub left : s.left ≡ 0
  pub code : s.code ≡ []
  pub section : section_of s ≡ Some x

pub record AtEnd (s : State) (x : Piece × State) : Type 0 where
  pub left : s.left ≡ 0
  pub code : s.code ≡ []
  pub bytes : s.bytes ≡ []
  pub ending : ending_of s ≡ Some x

-- which step gave a piece
pub which : (s : State) (x : Piece × State) → part_of s ≡ Some x → InCode s x ⊎ (AtSection s x ⊎ AtEnd s x)
which s x e =
    elim (truth (eqb s.left 0)) [
      | inl idle ↦ elim (truth (eqb (length s.code) 0)) [
        | inl none ↦
            let l : s.left ≡ 0 = eqb-true _ _ idle in
            let c : s.code ≡ [] = nil_from_length s.code (eqb-true _ _ none) in
            elim (truth (eqb (length s.bytes) 0)) [
              | inl over ↦ inr (inr (record { left = l; code = c; bytes = nil_from_length s.bytes (eqb-true _ _ over); ending = sym (at_end s idle none over) ∙ e }))
              | inr more ↦ inr (inl (record { left = l; code = c; section = sym (at_section s idle none more) ∙ e }))
            ]
        | inr stray ↦ let g = sym (at_stray s idle stray) ∙ e in absurd cc
      ]
      | inr busy ↦ inl (record { busy = busy; entry = sym (in_code s busy) ∙ e })
    ]

-- ---- what is left to read, and what it gives

abbrev pub bodies_of : ℕ → List ℕ → Option (List (List ℕ))
bodies_of n bytes = items_at sized_at n bytes

pub record Completes (s : State) (ps : List Piece) : Type 0 where
  pub bodies : List (List ℕ)
  pub sections : List (ℕ × List ℕ)
  pub others : List Piece
  pub code : bodies_of s.left s.code ≡ Some bodies
  pub frames : Frames sections s.bytes
  pub in_order : Follow s.place sections
  pub made : all_pieces sections ≡ Some others
  pub all : ps ≡ map CodeEntry bodies ++ (others ++ End ∷ [])
  pub agree : agrees (tally_all s.counts ps) ≡ true

pub no_bodies : (s : State) → s.left ≡ 0 → s.code ≡ [] → bodies_of s.left s.code ≡ Some []
no_bodies s l c = ap (λ (n : ℕ). bodies_of n s.code) l ∙ ap (bodies_of 0) c

-- a run from the end has no pieces
pub over_run : (ps : List Piece) (t : State) → t.stage ≡ ended → Run t ps → ps ≡ []
over_run [] t o r = refl
over_run (p ∷ ps) t o r = let h = sym (at_over t o) ∙ r.1 in absurd cc
