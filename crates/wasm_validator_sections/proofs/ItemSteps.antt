-- What holds after the items of a section held before them.
use Rattle.std.proofs.Common.{◌≡◌, sym, subst, ℕ, zero, suc, List, [], ◌∷◌, length, eqb, Option, Some}
use Rattle.std.specs.Option.{option_and_then}
use Rattle.std.proofs.lemmas.Option.{same_Some}
use Rattle.wasm_spec_rules.specs.Sections.{each}
use Rattle.wasm_spec_rules.proofs.Tests.{guarded, then_some}
use Rattle.wasm_validator_sections.specs.Sections.{read_each}

-- items one after another, where it is so of each
pub read_back : {S V : Type 0} (encoded : List ℕ → Option (V × List ℕ)) (add : S → V → Option S) (P : S → Type 0) → ((s t : S) (v : V) → add s v ≡ Some t → P t → P s)
    → (n : ℕ) (bytes : List ℕ) (s t : S) → read_each encoded add n bytes s ≡ Some t → P t → P s
read_back encoded add P back zero bytes s t e h = let g = guarded (eqb (length bytes) 0) (Some s) t e in subst P (sym (same_Some s t g.1)) h
read_back encoded add P back (suc n) bytes s t e h =
    let a = then_some (λ x. option_and_then (λ u. read_each encoded add n x.1 u) (add s x.0)) (encoded bytes) t e in
    let b = then_some (λ u. read_each encoded add n a.0.1 u) (add s a.0.0) t a.2 in
    back s b.0 a.0.0 b.1 (read_back encoded add P back n a.0.1 b.0 t b.2 h)

pub each_back : {S V : Type 0} (add : S → V → Option S) (P : S → Type 0) → ((s t : S) (v : V) → add s v ≡ Some t → P t → P s)
    → (vs : List V) (s t : S) → each add s vs ≡ Some t → P t → P s
each_back add P back [] s t e h = subst P (sym (same_Some s t e)) h
each_back add P back (v ∷ vs) s t e h =
    let a = then_some (λ u. each add u vs) (add s v) t e in
    back s a.0 v a.1 (each_back add P back vs a.0 t a.2 h)
