-- Words on attempts: values that may not be there.
use Rattle.std.specs.Prelude.{ℕ, Bool, true, false, ◌||◌, ◌==◌, List, [], ◌∷◌, Option, Some, None}

infixl 20 ◌>>=◌
-- the second attempt with what the first one gives
abbrev pub ◌>>=◌ : {A B : Type 0} → Option A → (A → Option B) → Option B
None >>= g = None
Some x >>= g = g x

-- x, where the test passed
abbrev pub guard : {A : Type 0} → Bool → A → Option A
guard true x = Some x
guard false x = None

-- whether there is a value, and it passes the test
abbrev pub passes : {A : Type 0} → (A → Bool) → Option A → Bool
passes test None = false
passes test (Some x) = test x

-- whether a number is in a list
abbrev pub among : ℕ → List ℕ → Bool
among n [] = false
among n (m ∷ ms) = n == m || among n ms

-- the last item of a list, and those before it
abbrev pub last_of : {A : Type 0} → List A → Option A
last_of [] = None
last_of (x ∷ []) = Some x
last_of (x ∷ y ∷ ys) = last_of (y ∷ ys)

abbrev pub front_of : {A : Type 0} → List A → List A
front_of [] = []
front_of (x ∷ []) = []
front_of (x ∷ y ∷ ys) = x ∷ front_of (y ∷ ys)

abbrev pub list_of : {A : Type 0} → A → List A
list_of x = x ∷ []
