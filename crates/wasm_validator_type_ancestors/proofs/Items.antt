-- What holds of the items of lists.
use Rattle.std.proofs.Common.{◌≡◌, refl, subst, ℕ, ◌+◌, ◌<◌, ◌≤◌, Bool, true, List, [], ◌∷◌, ◌++◌, map, length, get_or, arith, All, ⊎_elim}
use Rattle.std.specs.Bool.{Decides}
use Rattle.std.specs.List.{flat_map, slice_index_or}
use Rattle.std.proofs.lemmas.Bool.{cases_lt}
use Rattle.std.proofs.lemmas.List.Elements.{All-head, All-tail, All-cons, All-nil, at_read}

-- the first items of a list, each at its place
module _ {X : Type 0} (P : ℕ → X → Type 0) (xs : List X) where
  abbrev pub FirstHold : ℕ → Type 0
  FirstHold n = (k : ℕ) (d : X) → k < n → P k (get_or xs k d)

  pub none_first : FirstHold 0
  none_first k d l = absurd (omega (arith, l))

  pub one_more : (i : ℕ) (x : X) → i < length xs → x ≡ slice_index_or xs i x → P i x → FirstHold i → FirstHold (i + 1)
  one_more i x l f r h k d lt = ⊎_elim
      (λ (less : k < i). h k d less)
      (λ (more : i ≤ k). let s : i ≡ k = omega (arith, lt, more) in subst (λ j. P j (get_or xs j d)) s (at_read xs (P i) i x l f r d))
      (cases_lt k i)

-- all items, and one of which it doesn't hold
module _ {X : Type 0} (P : X → Type 0) (xs : List X) where
  pub all_first : (n : ℕ) → length xs ≤ n → FirstHold (λ k x. P x) xs n → Decides true (All P xs)
  all_first n l h = ((λ _. λ k d m. h k d (omega (arith, m, l))), (λ _. refl))

-- all of two lists, one behind the other
pub both : {X : Type 0} (P : X → Type 0) (xs ys : List X) → All P xs → All P ys → All P (xs ++ ys)
both P [] ys h k = k
both P (x ∷ xs) ys h k = All-cons P x (xs ++ ys) (All-head P x xs h) (both P xs ys (All-tail P x xs h) k)

pub left : {X : Type 0} (P : X → Type 0) (xs ys : List X) → All P (xs ++ ys) → All P xs
left P [] ys h = All-nil P
left P (x ∷ xs) ys h = All-cons P x xs (All-head P x (xs ++ ys) h) (left P xs ys (All-tail P x (xs ++ ys) h))

pub right : {X : Type 0} (P : X → Type 0) (xs ys : List X) → All P (xs ++ ys) → All P ys
right P [] ys h = h
right P (x ∷ xs) ys h = right P xs ys (All-tail P x (xs ++ ys) h)

-- all of the lists that items give
module _ {X Y Z : Type 0} (P : Z → Type 0) (f : Y → List Z) (g : X → Y) where
  to_flat : (xs : List X) → All (λ x. All P (f (g x))) xs → All P (flat_map f (map g xs))
  to_flat [] h = All-nil P
  to_flat (x ∷ xs) h = both P (f (g x)) (flat_map f (map g xs)) (All-head (λ y. All P (f (g y))) x xs h) (to_flat xs (All-tail (λ y. All P (f (g y))) x xs h))

  from_flat : (xs : List X) → All P (flat_map f (map g xs)) → All (λ x. All P (f (g x))) xs
  from_flat [] h = All-nil (λ x. All P (f (g x)))
  from_flat (x ∷ xs) h = All-cons (λ y. All P (f (g y))) x xs (left P (f (g x)) (flat_map f (map g xs)) h) (from_flat xs (right P (f (g x)) (flat_map f (map g xs)) h))

  pub flat_decides : (xs : List X) (r : Bool) → Decides r (All (λ x. All P (f (g x))) xs) → Decides r (All P (flat_map f (map g xs)))
  flat_decides xs r d = ((λ t. to_flat xs (d.0 t)), (λ h. d.1 (from_flat xs h)))
