-- Pieces in the order of their sections: what is done with one after another is done rank by rank.
use Rattle.std.proofs.Common.{◌≡◌, ◌≢◌, refl, sym, ap, subst, ◌∙◌, ◌⊎◌, inl, inr, ℕ, Bool, true, false, cond, eqb, List, [], ◌∷◌, Option, Some, None}
use Rattle.std.specs.Option.{option_and_then}
use Rattle.std.proofs.lemmas.Bool.{eq-eqb, ne_eqb, eqb-true, eqb-false}
use Rattle.wasm_readers_errors.specs.WasmSpec.Framing.{Piece}
use Rattle.wasm_spec_rules.specs.Sections.{each, rank, at_rank, by_rank}

-- these pieces follow one another in the order of these ranks; several bodies may come, and one of any other kind
pub data Follows : List ℕ → List Piece → Type 0 where
  done : {ks : List ℕ} → Follows ks []
  free : {ks : List ℕ} {p : Piece} {ps : List Piece} → rank p ≡ 0 → Follows ks ps → Follows ks (p ∷ ps)
  here : {k : ℕ} {ks : List ℕ} {p : Piece} {ps : List Piece} → rank p ≡ k → Follows ks ps → Follows (k ∷ ks) (p ∷ ps)
  body : {k : ℕ} {ks : List ℕ} {p : Piece} {ps : List Piece} → rank p ≡ k → k ≡ 13 → Follows (k ∷ ks) ps → Follows (k ∷ ks) (p ∷ ps)
  later : {k : ℕ} {ks : List ℕ} {ps : List Piece} → Follows ks ps → Follows (k ∷ ks) ps

-- k is none of these ranks
abbrev pub IsNone : ℕ → List ℕ → Type 0
IsNone k [] = Unit {0}
IsNone k (j ∷ js) = (k ≢ j) × IsNone k js

-- ranks are different, and none is 0
abbrev pub AreRanks : List ℕ → Type 0
AreRanks [] = Unit {0}
AreRanks (k ∷ ks) = (0 ≢ k) × (IsNone k ks × AreRanks ks)

zero_is_none : (ks : List ℕ) → AreRanks ks → IsNone 0 ks
zero_is_none [] r = tt
zero_is_none (k ∷ ks) r = (r.0, zero_is_none ks r.1.1)

-- a piece of another rank
other : (k : ℕ) (p : Piece) (ps : List Piece) → rank p ≢ k → at_rank k (p ∷ ps) ≡ at_rank k ps
other k p ps h = ap (λ b. cond b (p ∷ at_rank k ps) (at_rank k ps)) (ne_eqb (rank p) k h)

same : (k : ℕ) (p : Piece) (ps : List Piece) → rank p ≡ k → at_rank k (p ∷ ps) ≡ p ∷ at_rank k ps
same k p ps h = ap (λ b. cond b (p ∷ at_rank k ps) (at_rank k ps)) (eq-eqb (rank p) k h)

-- where a rank isn't among those that follow, no piece has it
pub absent : (ks : List ℕ) (ps : List Piece) (k : ℕ) → Follows ks ps → 0 ≢ k → IsNone k ks → at_rank k ps ≡ []
absent ks [] k done z n = refl
absent ks (p ∷ ps) k (free r f) z n = other k p ps (λ e. z (sym r ∙ e)) ∙ absent ks ps k f z n
absent (j ∷ js) (p ∷ ps) k (here r f) z n = other k p ps (λ e. n.0 (sym e ∙ r)) ∙ absent js ps k f z n.1
absent (j ∷ js) (p ∷ ps) k (body r b f) z n = other k p ps (λ e. n.0 (sym e ∙ r)) ∙ absent (j ∷ js) ps k f z n
absent (j ∷ js) ps k (later f) z n = absent js ps k f z n.1

-- a rank other than the bodies' has one piece at most
pub record IsOne (ps : List Piece) : Type 0 where
  pub piece : Piece
  pub is : ps ≡ piece ∷ []

-- the first piece of these ranks is of rank j, the others of ks
one_here : (j k : ℕ) (ks : List ℕ) (p : Piece) (ps : List Piece) (b : Bool) → eqb j k ≡ b → rank p ≡ j → Follows ks ps → IsNone j ks → AreRanks ks
    → 0 ≢ k → ((at_rank k ps ≡ []) ⊎ IsOne (at_rank k ps)) → (at_rank k (p ∷ ps) ≡ []) ⊎ IsOne (at_rank k (p ∷ ps))
one_here j k ks p ps true e r f n d z below =
    let same_rank : j ≡ k = eqb-true j k e in
    let alone : at_rank k ps ≡ [] = absent ks ps k f z (subst (λ i. IsNone i ks) same_rank n) in
    inr (record { piece = p; is = same k p ps (r ∙ same_rank) ∙ ap (λ (xs : List Piece). p ∷ xs) alone })
one_here j k ks p ps false e r f n d z below = subst (λ (xs : List Piece). (xs ≡ []) ⊎ IsOne xs) (sym (other k p ps (λ g. eqb-false j k e (sym r ∙ g)))) below

pub one_at_most : (ks : List ℕ) (ps : List Piece) (k : ℕ) → Follows ks ps → AreRanks ks → 0 ≢ k → k ≢ 13 → (at_rank k ps ≡ []) ⊎ IsOne (at_rank k ps)
one_at_most ks [] k done d z b = inl refl
one_at_most ks (p ∷ ps) k (free r f) d z b = subst (λ (xs : List Piece). (xs ≡ []) ⊎ IsOne xs) (sym (other k p ps (λ e. z (sym r ∙ e)))) (one_at_most ks ps k f d z b)
one_at_most (j ∷ js) (p ∷ ps) k (here r f) d z b = one_here j k js p ps (eqb j k) refl r f d.1.0 d.1.1 z (one_at_most js ps k f d.1.1 z b)
one_at_most (j ∷ js) (p ∷ ps) k (body r x f) d z b = subst (λ (xs : List Piece). (xs ≡ []) ⊎ IsOne xs) (sym (other k p ps (λ e. b (sym e ∙ r ∙ x)))) (one_at_most (j ∷ js) ps k f d z b)
one_at_most (j ∷ js) ps k (later f) d z b = one_at_most js ps k f d.1.1 z b

-- what may stand anywhere changes nothing
abbrev pub LeavesFree : {S : Type 0} → (S → Piece → Option S) → List Piece → Type 0
LeavesFree step [] = Unit {0}
LeavesFree {S} step (p ∷ ps) = (rank p ≡ 0 → (s : S) → step s p ≡ Some s) × LeavesFree step ps

module _ {S : Type 0} (step : S → Piece → Option S) where
  -- under an option
  under : {A : Type 0} (o : Option A) (f g : A → Option S) → ((x : A) → f x ≡ g x) → option_and_then f o ≡ option_and_then g o
  under None f g h = refl
  under (Some x) f g h = h x

  nested : {A B : Type 0} (o : Option A) (f : A → Option B) (g : B → Option S) → option_and_then g (option_and_then f o) ≡ option_and_then (λ x. option_and_then g (f x)) o
  nested None f g = refl
  nested (Some x) f g = refl

  -- no pieces
  nothing : (ks : List ℕ) (s : S) → by_rank step ks s [] ≡ Some s
  nothing [] s = refl
  nothing (k ∷ ks) s = nothing ks s

  -- a piece of none of these ranks
  passed : (ks : List ℕ) (p : Piece) (ps : List Piece) (s : S) → IsNone (rank p) ks → by_rank step ks s (p ∷ ps) ≡ by_rank step ks s ps
  passed [] p ps s n = refl
  passed (k ∷ ks) p ps s n =
      ap (λ xs. option_and_then (λ t. by_rank step ks t (p ∷ ps)) (each step s xs)) (other k p ps n.0)
      ∙ under (each step s (at_rank k ps)) (λ t. by_rank step ks t (p ∷ ps)) (λ t. by_rank step ks t ps) (λ t. passed ks p ps t n.1)

  -- a piece of the first of these ranks
  first : (k : ℕ) (ks : List ℕ) (p : Piece) (ps : List Piece) (s : S) → rank p ≡ k → IsNone k ks
      → by_rank step (k ∷ ks) s (p ∷ ps) ≡ option_and_then (λ t. by_rank step (k ∷ ks) t ps) (step s p)
  first k ks p ps s r n =
      ap (λ xs. option_and_then (λ t. by_rank step ks t (p ∷ ps)) (each step s xs)) (same k p ps r)
      ∙ nested (step s p) (λ t. each step t (at_rank k ps)) (λ t. by_rank step ks t (p ∷ ps))
      ∙ under
      (step s p)
      (λ u. option_and_then (λ t. by_rank step ks t (p ∷ ps)) (each step u (at_rank k ps)))
      (λ t. by_rank step (k ∷ ks) t ps)
      (λ u. under (each step u (at_rank k ps)) (λ t. by_rank step ks t (p ∷ ps)) (λ t. by_rank step ks t ps) (λ t. passed ks p ps t (subst (λ i. IsNone i ks) (sym r) n)))

  -- a rank that no piece has
  skipped : (k : ℕ) (ks : List ℕ) (ps : List Piece) (s : S) → at_rank k ps ≡ [] → by_rank step (k ∷ ks) s ps ≡ by_rank step ks s ps
  skipped k ks ps s h = ap (λ xs. option_and_then (λ t. by_rank step ks t ps) (each step s xs)) h

  -- one after another is rank by rank
  pub by_ranks : (ks : List ℕ) (ps : List Piece) (s : S) → Follows ks ps → AreRanks ks → LeavesFree step ps → each step s ps ≡ by_rank step ks s ps
  by_ranks ks [] s done d l = sym (nothing ks s)
  by_ranks ks (p ∷ ps) s (free r f) d l =
      ap (option_and_then (λ t. each step t ps)) (l.0 r s)
      ∙ by_ranks ks ps s f d l.1
      ∙ sym (passed ks p ps s (subst (λ i. IsNone i ks) (sym r) (zero_is_none ks d)))
  by_ranks (k ∷ ks) (p ∷ ps) s (here r f) d l =
      under
      (step s p)
      (λ t. each step t ps)
      (λ t. by_rank step (k ∷ ks) t ps)
      (λ t. by_ranks ks ps t f d.1.1 l.1 ∙ sym (skipped k ks ps t (absent ks ps k f d.0 d.1.0)))
      ∙ sym (first k ks p ps s r d.1.0)
  by_ranks (k ∷ ks) (p ∷ ps) s (body r b f) d l =
      under (step s p) (λ t. each step t ps) (λ t. by_rank step (k ∷ ks) t ps) (λ t. by_ranks (k ∷ ks) ps t f d l.1) ∙ sym (first k ks p ps s r d.1.0)
  by_ranks (k ∷ ks) ps s (later f) d l = by_ranks ks ps s f d.1.1 l ∙ sym (skipped k ks ps s (absent ks ps k f d.0 d.1.0))
