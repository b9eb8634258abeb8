-- Functions that are noted one after another. `note` says what is kept behind one more.
use Rattle.std.specs.Prelude.{ℕ, zero, suc, List, [], ◌∷◌, ◌++◌, Option, Some, None}

abbrev pub noting : {S : Type 0} → (ℕ → S → S) → List ℕ → S → S
noting note [] kept = kept
noting note (x ∷ xs) kept = noting note xs (note x kept)

-- the functions that so many items name, one after another, up to the first that can't be read
abbrev pub names_along : {V : Type 0} → (List ℕ → Option (V × List ℕ)) → (V → List ℕ) → ℕ → List ℕ → List ℕ
names_along reads names zero bytes = []
names_along reads names (suc n) bytes = elim (reads bytes) [ None ↦ [] | Some x ↦ names x.0 ++ names_along reads names n x.1 ]
