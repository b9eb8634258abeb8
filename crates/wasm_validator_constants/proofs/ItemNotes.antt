-- What is noted where a reference is passed.
use Rattle.std.proofs.Common.{◌≡◌, ◌∙◌, sym, ap, ℕ, List, [], ◌∷◌}
use Rattle.wasm_validator_references.specs.Notes.{noting}
use Rattle.wasm_validator_references.specs.References.{names_of_expression}

pub one_noted : {S : Type 0} (note : ℕ → S → S) (x : ℕ) (bytes : List ℕ) (kept next : S) → names_of_expression bytes ≡ x ∷ [] → next ≡ note x kept → next ≡ noting note (names_of_expression bytes) kept
one_noted note x bytes kept next n e = e ∙ ap (λ (xs : List ℕ). noting note xs kept) (sym n)

pub none_noted : {S : Type 0} (note : ℕ → S → S) (bytes : List ℕ) (kept : S) → names_of_expression bytes ≡ [] → kept ≡ noting note (names_of_expression bytes) kept
none_noted note bytes kept n = ap (λ (xs : List ℕ). noting note xs kept) (sym n)
