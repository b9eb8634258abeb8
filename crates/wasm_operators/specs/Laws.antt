-- Laws of the definitions, as facts that a contract can name.
use Rattle.std.specs.Prelude.{◌≡◌, ℕ, List, ◌++◌, Option, Some}

-- The bytes that are taken and those that are left are the bytes.
abbrev pub ExpressionIsFront : (List ℕ → Option (List ℕ × List ℕ)) → Type 0
ExpressionIsFront reads = (bytes taken rest : List ℕ) → reads bytes ≡ Some (taken, rest) → bytes ≡ taken ++ rest

-- What is read doesn't depend on what type indices stand for.
abbrev pub ReadingIsOfBytes : (R S : Type 0) {V : Type 0} → ((ℕ → R) → List ℕ → Option (V × List ℕ)) → ((ℕ → S) → List ℕ → Option (V × List ℕ)) → Type 0
ReadingIsOfBytes R S reads reads_renamed = (f : R → S) (to : ℕ → R) (bytes : List ℕ) → reads_renamed (λ n. f (to n)) bytes ≡ reads to bytes
