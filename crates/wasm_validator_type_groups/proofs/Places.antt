-- Elements by their places, in lists and in groups.
use Rattle.std.proofs.Common.{◌≡◌, refl, sym, ap, ◌∙◌, ℕ, zero, suc, ◌+◌, ◌<◌, List, [], ◌∷◌, ◌++◌, map, length, slice_get, take, drop, Some, option_map, arith, length-append}
use Rattle.std.proofs.lemmas.Option.{none-some, same_Some}
use Rattle.wasm_validator_type_groups.specs.Groups.{all_in, first_of}

pub get-left : {X : Type 0} (xs ys : List X) (k : ℕ) → k < length xs → slice_get (xs ++ ys) k ≡ slice_get xs k
get-left [] ys k h = absurd (omega (arith, h))
get-left (x ∷ xs) ys zero h = refl
get-left (x ∷ xs) ys (suc k) h = get-left xs ys k (omega (arith, h))

pub get-right : {X : Type 0} (xs ys : List X) (k : ℕ) → slice_get (xs ++ ys) (length xs + k) ≡ slice_get ys k
get-right [] ys k = let e : 0 + k ≡ k = omega arith in ap (slice_get ys) e
get-right (x ∷ xs) ys k = let e : suc (length xs) + k ≡ suc (length xs + k) = omega arith in ap (slice_get (x ∷ xs ++ ys)) e ∙ get-right xs ys k

pub get-end : {X : Type 0} (xs : List X) (x : X) → slice_get (xs ++ x ∷ []) (length xs) ≡ Some x
get-end xs x = let e : length xs ≡ length xs + 0 = omega arith in ap (slice_get (xs ++ x ∷ [])) e ∙ get-right xs (x ∷ []) 0

pub get-map : {X Y : Type 0} (f : X → Y) (xs : List X) (k : ℕ) (x : X) → slice_get xs k ≡ Some x → slice_get (map f xs) k ≡ Some (f x)
get-map f [] k x e = absurd (none-some x e)
get-map f (y ∷ ys) zero x e = ap (option_map f) e
get-map f (y ∷ ys) (suc k) x e = get-map f ys k x e

-- an element of a list with one more is an old one or the new one
pub get-push : {X : Type 0} {P : Type 0} (xs : List X) (y : X) (k : ℕ) (x : X) → slice_get (xs ++ y ∷ []) k ≡ Some x → (slice_get xs k ≡ Some x → P) → (k ≡ length xs → y ≡ x → P) → P
get-push [] y zero x e f g = g refl (same_Some y x e)
get-push [] y (suc k) x e f g = absurd (none-some x e)
get-push (z ∷ zs) y zero x e f g = f e
get-push (z ∷ zs) y (suc k) x e f g = get-push zs y k x e f (λ a b. g (ap suc a) b)

-- the same where a whole list comes behind
pub get-append : {X : Type 0} {P : Type 0} (xs ys : List X) (k : ℕ) (x : X) → slice_get (xs ++ ys) k ≡ Some x → (slice_get xs k ≡ Some x → P) → ((j : ℕ) → k ≡ length xs + j → slice_get ys j ≡ Some x → P) → P
get-append [] ys k x e f g = g k (omega arith) e
get-append (z ∷ zs) ys zero x e f g = f e
get-append (z ∷ zs) ys (suc k) x e f g = get-append zs ys k x e f (λ j a b. g j (omega (arith, a)) b)

-- a list around one of its elements
pub split-at : {X : Type 0} (xs : List X) (k : ℕ) (x : X) → slice_get xs k ≡ Some x → take k xs ++ x ∷ drop (k + 1) xs ≡ xs
split-at [] k x e = absurd (none-some x e)
split-at (y ∷ ys) zero x e = ap (λ z. z ∷ ys) (sym (same_Some y x e))
split-at (y ∷ ys) (suc k) x e = let n : suc k + 1 ≡ suc (k + 1) = omega arith in ap (λ m. y ∷ (take k ys ++ x ∷ drop m (y ∷ ys))) n ∙ ap (λ l. y ∷ l) (split-at ys k x e)

-- where the k-th group begins, seen from a group before all
pub first_of-suc : {X : Type 0} (g : List X) (gs : List (List X)) (k : ℕ) → first_of (g ∷ gs) (suc k) ≡ length g + first_of gs k
first_of-suc g gs k = length-append g (all_in (take k gs))
