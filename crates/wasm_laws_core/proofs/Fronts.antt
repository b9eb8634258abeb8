-- What lists of two parts say of their parts.
use Rattle.std.proofs.Common.{ap, subst, sym, ℕ, ◌≤◌, List, [], ◌∷◌, ◌++◌, length, arith, append-nil, length-append}
use Rattle.std.specs.List.{All}
use Rattle.std.proofs.lemmas.List.Elements.{All-nil, All-cons, All-head, All-tail}

pub All-front : {X : Type 0} (P : X → Type 0) (xs ys : List X) → All P (xs ++ ys) → All P xs
All-front P [] ys a = All-nil P
All-front P (x ∷ xs) ys a = All-cons P x xs (All-head P x (xs ++ ys) a) (All-front P xs ys (All-tail P x (xs ++ ys) a))

pub All-last : {X : Type 0} (P : X → Type 0) (xs : List X) (y : X) → All P (xs ++ y ∷ []) → P y
All-last P [] y a = All-head P y [] a
All-last P (x ∷ xs) y a = All-last P xs y (All-tail P x (xs ++ y ∷ []) a)

-- what comes before the others is no more than all
pub front : {X : Type 0} (xs ys : List X) (n : ℕ) → length (xs ++ ys) ≤ n → length xs ≤ n
front xs ys n few = let both = length-append xs ys in omega (arith, few, both)

pub alone : {X : Type 0} (xs : List X) (n : ℕ) → length xs ≤ n → length (xs ++ []) ≤ n
alone xs n few = subst (λ k. k ≤ n) (ap length (sym (append-nil xs))) few
