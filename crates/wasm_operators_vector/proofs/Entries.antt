-- A table with gaps, whose numbers count up, says what the own numbers of its entries say.
use Rattle.std.proofs.Common.{◌≡◌, refl, sym, subst, ap, ℕ, zero, suc, ◌+◌, eqb, Bool, true, false, cond, List, [], ◌∷◌, Option, Some, None, arith}
use Rattle.std.proofs.lemmas.Bool.{eqb-true}
use Rattle.std.specs.Prelude.{IfSome, IfNone, ◌≢◌}
use Rattle.wasm_operators_vector.specs.Tables.{entry, IsTableOf}

-- the numbers of these entries count up from this one, and gaps count too
abbrev pub counts : {X : Type 0} → (X → ℕ) → ℕ → List (Option X) → Bool
counts number first [] = true
counts number first (None ∷ xs) = counts number (first + 1) xs
counts number first (Some x ∷ xs) = cond (eqb (number x) first) (counts number (first + 1) xs) false

both : (a b : Bool) → cond a b false ≡ true → (a ≡ true) × (b ≡ true)
both true b e = (refl, e)
both false b e = cc

at_place : {X : Type 0} (number : X → ℕ) (first : ℕ) (xs : List (Option X)) → counts number first xs ≡ true → (i : ℕ) (x : X) → entry xs i ≡ Some x → number x ≡ first + i
at_place number first [] c i x e = cc
at_place number first (None ∷ xs) c zero x e = cc
at_place number first (None ∷ xs) c (suc i) x e = omega (arith, at_place number (first + 1) xs c i x e)
at_place number first (Some y ∷ xs) c zero x e =
    let h = both (eqb (number y) first) (counts number (first + 1) xs) c in
    let n = eqb-true _ _ h.0 in
    let same : y ≡ x = cc in
    omega (arith, n, ap number same)
at_place number first (Some y ∷ xs) c (suc i) x e =
    let h = both (eqb (number y) first) (counts number (first + 1) xs) c in
    omega (arith, at_place number (first + 1) xs h.1 i x e)

pub table_of : {X : Type 0} (number : X → ℕ) (xs : List (Option X)) → counts number 0 xs ≡ true → ((x : X) → entry xs (number x) ≡ Some x) → IsTableOf number (entry xs)
table_of number xs c there n x = (λ e. omega (arith, at_place number 0 xs c n x e), λ e. subst (λ (k : ℕ). entry xs k ≡ Some x) e (there x))

nothing : {X : Type 0} (o : Option X) → ((x : X) → o ≡ Some x → ⊥) → None ≡ o
nothing None h = refl
nothing (Some x) h = absurd (h x refl)

-- what was found by the operators' own numbers is the table's entry
pub entry_of : {X : Type 0} (number : X → ℕ) (operator : ℕ → Option X) → IsTableOf number operator → (n : ℕ) (r : Option X) → IfSome r (λ x. number x ≡ n) → IfNone r ((x : X) → number x ≢ n) → r ≡ operator n
entry_of number operator t n None h none = nothing (operator n) (λ x e. none x ((t n x).0 e))
entry_of number operator t n (Some x) h none = sym ((t n x).1 h)
