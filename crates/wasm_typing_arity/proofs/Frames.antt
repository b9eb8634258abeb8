-- The last item of a list, by its place.
use Rattle.std.proofs.Common.{◌≡◌, refl, ◌-◌, List, [], ◌∷◌, length, slice_get, arith}
use Rattle.wasm_spec_steps.specs.WasmSpecRules.Attempts.{last_of}

last_of-cons : {A : Type 0} (x : A) (xs : List A) → last_of (x ∷ xs) ≡ slice_get (x ∷ xs) (length xs)
last_of-cons x [] = refl
last_of-cons x (y ∷ ys) = last_of-cons y ys

pub last_of-at : {A : Type 0} (xs : List A) → last_of xs ≡ slice_get xs (length xs - 1)
last_of-at [] = refl
last_of-at (x ∷ xs) = let e : length (x ∷ xs) - 1 ≡ length xs = omega arith in rw e (last_of-cons x xs)

pub ruleset frames = (last_of-at)
