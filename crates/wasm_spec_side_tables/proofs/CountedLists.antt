-- The first items of a list, as a list that counts them.
use Rattle.std.proofs.Common.{◌≡◌, refl, sym, ap, ◌∙◌, ℕ, zero, suc, ◌+◌, ◌<◌, ◌≤◌, List, [], ◌∷◌, ◌++◌, length, take, set, slice_set, arith, append_assoc, length-append, length-set}
use Rattle.std.proofs.lemmas.List.{length-take-le, take-take, take_all, take-append-le, take_more_set, set_past}

pub count_is : {X : Type 0} (n : ℕ) (xs : List X) → n ≤ length xs → n ≡ length (take n xs)
count_is n xs l = sym (length-take-le n xs l)

pub ruleset reads = (count_is)

-- an item more, in a place that is there, and behind all
pub put_behind : {X : Type 0} (xs : List X) (n : ℕ) (x : X) → n < length xs → take (n + 1) (set xs n x) ≡ take n xs ++ x ∷ []
put_behind xs n x h = take_more_set xs n x h

pub grown : {X : Type 0} (xs ys zs : List X) (n : ℕ) (x : X) → n ≤ length xs → ys ≡ take n xs → zs ≡ ys ++ x ∷ [] → take (n + 1) zs ≡ take n xs ++ x ∷ []
grown xs ys zs n x l e f =
    let c : length zs ≡ n + 1 = ap length f ∙ length-append ys (x ∷ []) ∙ ap (λ us. length us + 1) e ∙ ap (λ k. k + 1) (length-take-le n xs l) in
    take_all (n + 1) zs (rw c (omega arith)) ∙ f ∙ ap (λ us. us ++ x ∷ []) e

pub not_grown : {X : Type 0} (xs ys : List X) (n : ℕ) → ys ≡ take n xs → take n ys ≡ take n xs
not_grown xs ys n e = ap (take n) e ∙ take-take n n xs (omega arith)

pub ruleset pushes = (put_behind, grown, not_grown, length-take-le)

-- the same, of two
pub put_twice : {X : Type 0} (xs : List X) (n : ℕ) (x : X) → n + 1 < length xs → take (n + 2) (set (set xs n x) (n + 1) x) ≡ take n xs ++ x ∷ x ∷ []
put_twice xs n x h =
    let l : n + 1 < length (set xs n x) = rw (length-set xs n x) h in
    let two : n + 2 ≡ n + 1 + 1 = omega arith in
    ap (λ k. take k (set (set xs n x) (n + 1) x)) two ∙ take_more_set (set xs n x) (n + 1) x l ∙ ap (λ us. us ++ x ∷ []) (take_more_set xs n x (omega arith)) ∙ append_assoc (take n xs) (x ∷ []) (x ∷ [])

pub grown_twice : {X : Type 0} (xs ys zs us : List X) (n : ℕ) (x : X) → n ≤ length xs → ys ≡ take n xs → zs ≡ ys ++ x ∷ [] → us ≡ zs ++ x ∷ [] → take (n + 2) us ≡ take n xs ++ x ∷ x ∷ []
grown_twice xs ys zs us n x l e f g =
    let both : us ≡ take n xs ++ x ∷ x ∷ [] = g ∙ ap (λ vs. vs ++ x ∷ []) (f ∙ ap (λ vs. vs ++ x ∷ []) e) ∙ append_assoc (take n xs) (x ∷ []) (x ∷ []) in
    let c : length us ≡ n + 2 = ap length both ∙ length-append (take n xs) (x ∷ x ∷ []) ∙ ap (λ k. k + 2) (length-take-le n xs l) in
    take_all (n + 2) us (rw c (omega arith)) ∙ both

pub half_grown : {X : Type 0} (xs ys zs : List X) (n : ℕ) (x : X) → n ≤ length xs → ys ≡ take n xs → zs ≡ ys ++ x ∷ [] → take n zs ≡ take n xs
half_grown xs ys zs n x l e f =
    let c : n ≤ length (take n xs) = rw (length-take-le n xs l) (omega arith) in
    ap (take n) (f ∙ ap (λ us. us ++ x ∷ []) e) ∙ take-append-le n (take n xs) (x ∷ []) c ∙ take-take n n xs (omega arith)

pub ruleset pairs = (put_twice, grown_twice, half_grown, not_grown, length-take-le)

-- an item in the place of another
pub put_in : {X : Type 0} (xs : List X) (n k : ℕ) (x : X) → k < n → take n (set xs k x) ≡ slice_set (take n xs) k x
put_in xs zero k x h = absurd (omega arith)
put_in [] (suc n) k x h = refl
put_in (y ∷ xs) (suc n) zero x h = refl
put_in (y ∷ xs) (suc n) (suc k) x h = ap (λ us. y ∷ us) (put_in xs n k x (omega arith))

pub put_nowhere : {X : Type 0} (xs : List X) (n k : ℕ) (x : X) → n ≤ length xs → n ≤ k → take n xs ≡ slice_set (take n xs) k x
put_nowhere xs n k x l h = sym (set_past (take n xs) k x (rw (length-take-le n xs l) h))

pub put_in_both : {X : Type 0} (xs : List X) (n i j : ℕ) (x : X) → i < n → j < n → take n (set (set xs i x) j x) ≡ slice_set (slice_set (take n xs) i x) j x
put_in_both xs n i j x h k = put_in (set xs i x) n j x k ∙ ap (λ us. slice_set us j x) (put_in xs n i x h)

pub ruleset writes = (put_in, put_nowhere, put_in_both)
