-- How many numbers of a list are below another.
use Rattle.std.proofs.Common.{◌≡◌, refl, ap, ℕ, zero, suc, ◌+◌, ◌<◌, ◌≤◌, nat_lt, Bool, true, false, List, [], ◌∷◌, length, slice_get, Some, arith}
use Rattle.std.proofs.lemmas.Bool.{ltb-true, ltb-false}
use Rattle.std.proofs.lemmas.Option.{none-some, same_Some}

abbrev one_if : Bool → ℕ
one_if true = 1
one_if false = 0

abbrev pub count_below : ℕ → List ℕ → ℕ
count_below h [] = 0
count_below h (i ∷ is) = one_if (nat_lt i h) + count_below h is

at_most_one : (b : Bool) → one_if b ≤ 1
at_most_one true = omega arith
at_most_one false = omega arith

pub count-most : (h : ℕ) (is : List ℕ) → count_below h is ≤ length is
count-most h [] = omega arith
count-most h (i ∷ is) = omega (arith, at_most_one (nat_lt i h), count-most h is)

-- a test that holds below h holds below what is higher
one-grows : (i h g : ℕ) (b c : Bool) → nat_lt i h ≡ b → nat_lt i g ≡ c → h ≤ g → one_if b ≤ one_if c
one-grows i h g true true d e l = omega arith
one-grows i h g true false d e l = let m : i < h = ltb-true i h d in let n : g ≤ i = ltb-false i g e in absurd (omega (arith, m, n, l))
one-grows i h g false c d e l = omega arith

count-grows : (h g : ℕ) (is : List ℕ) → h ≤ g → count_below h is ≤ count_below g is
count-grows h g [] l = omega arith
count-grows h g (i ∷ is) l = omega (arith, one-grows i h g (nat_lt i h) (nat_lt i g) refl refl l, count-grows h g is l)

-- a number of the list is not below itself, but below what is higher
one-more : (i g : ℕ) (b c : Bool) → nat_lt i i ≡ b → nat_lt i g ≡ c → i < g → one_if b < one_if c
one-more i g true c d e l = let m : i < i = ltb-true i i d in absurd (omega (arith, m))
one-more i g false true d e l = omega arith
one-more i g false false d e l = let n : g ≤ i = ltb-false i g e in absurd (omega (arith, n, l))

pub count-more : (k h g : ℕ) (is : List ℕ) → slice_get is k ≡ Some h → h < g → count_below h is < count_below g is
count-more k h g [] e l = absurd (none-some h e)
count-more zero h g (i ∷ is) e l =
    let same : i ≡ h = same_Some i h e in
    let m : one_if (nat_lt h h) < one_if (nat_lt h g) = one-more h g (nat_lt h h) (nat_lt h g) refl refl l in
    let u : one_if (nat_lt i h) ≡ one_if (nat_lt h h) = ap (λ j. one_if (nat_lt j h)) same in
    let v : one_if (nat_lt i g) ≡ one_if (nat_lt h g) = ap (λ j. one_if (nat_lt j g)) same in
    omega (arith, m, u, v, count-grows h g is (omega (arith, l)))
count-more (suc k) h g (i ∷ is) e l = omega (arith, one-grows i h g (nat_lt i h) (nat_lt i g) refl refl (omega (arith, l)), count-more k h g is e l)
