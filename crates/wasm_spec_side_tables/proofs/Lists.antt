-- Items of lists that are written and made longer, and attempts that succeed.
use Rattle.std.proofs.Common.{◌≡◌, ◌≢◌, refl, ap, ℕ, zero, suc, ◌<◌, Bool, true, false, List, [], ◌∷◌, ◌++◌, length, Option, Some, None, slice_get, slice_set, arith}
use Rattle.wasm_spec_steps.specs.WasmSpecRules.Attempts.{◌>>=◌, guard}

pub the_same : {X : Type 0} (x y : X) → Some x ≡ Some y → x ≡ y
the_same x y e = cc

pub absent : {X Y : Type 0} (x : X) → None ≡ Some x → Y
absent x e = cc

pub no : {X : Type 0} → false ≡ true → X
no e = cc

pub bind-gives : {A B : Type 0} (o : Option A) (g : A → Option B) (b : B) → (o >>= g) ≡ Some b → (a : A) × (o ≡ Some a) × (g a ≡ Some b)
bind-gives None g b e = absent b e
bind-gives (Some a) g b e = (a, refl, e)

pub bind-at : {A B : Type 0} (o : Option A) (g : A → Option B) (a : A) → o ≡ Some a → (o >>= g) ≡ g a
bind-at o g a e = ap (λ x. x >>= g) e

pub guard-gives : {A : Type 0} (c : Bool) (x y : A) → guard c x ≡ Some y → (c ≡ true) × (x ≡ y)
guard-gives true x y e = (refl, the_same x y e)
guard-gives false x y e = absent y e

module _ {X : Type 0} where
  pub get-front : (xs ys : List X) (k : ℕ) → k < length xs → slice_get (xs ++ ys) k ≡ slice_get xs k
  get-front [] ys k h = absurd (omega arith)
  get-front (x ∷ xs) ys zero h = refl
  get-front (x ∷ xs) ys (suc k) h = get-front xs ys k (omega arith)

  pub get-first : (xs ys : List X) (y : X) → slice_get (xs ++ y ∷ ys) (length xs) ≡ Some y
  get-first [] ys y = refl
  get-first (x ∷ xs) ys y = get-first xs ys y

  pub get-within : (xs : List X) (k : ℕ) (x : X) → slice_get xs k ≡ Some x → k < length xs
  get-within [] k x e = absent x e
  get-within (y ∷ ys) zero x e = omega arith
  get-within (y ∷ ys) (suc k) x e = let h = get-within ys k x e in omega arith

  pub get-set_same : (xs : List X) (k : ℕ) (x : X) → k < length xs → slice_get (slice_set xs k x) k ≡ Some x
  get-set_same [] k x h = absurd (omega arith)
  get-set_same (y ∷ ys) zero x h = refl
  get-set_same (y ∷ ys) (suc k) x h = get-set_same ys k x (omega arith)

  pub get-set_other : (xs : List X) (j k : ℕ) (x : X) → k ≢ j → slice_get (slice_set xs j x) k ≡ slice_get xs k
  get-set_other [] j k x h = refl
  get-set_other (y ∷ ys) zero zero x h = absurd (h refl)
  get-set_other (y ∷ ys) zero (suc k) x h = refl
  get-set_other (y ∷ ys) (suc j) zero x h = refl
  get-set_other (y ∷ ys) (suc j) (suc k) x h = get-set_other ys j k x (λ e. h (ap suc e))

  -- what is written once more stays
  pub get-set_again : (xs : List X) (j k : ℕ) (x : X) → slice_get xs k ≡ Some x → slice_get (slice_set xs j x) k ≡ Some x
  get-set_again [] j k x e = e
  get-set_again (y ∷ ys) zero zero x e = refl
  get-set_again (y ∷ ys) zero (suc k) x e = e
  get-set_again (y ∷ ys) (suc j) zero x e = e
  get-set_again (y ∷ ys) (suc j) (suc k) x e = get-set_again ys j k x e
