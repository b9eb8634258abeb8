-- Items that are read one after another and added, where each of them is read and then added.
use Rattle.std.proofs.Common.{◌≡◌, refl, ap, ◌∙◌, ℕ, zero, suc, ◌+◌, nat_le, if◌then◌else◌, List, Option, Some, None, option_map}
use Rattle.std.specs.Option.{option_and_then}
use Rattle.wasm_validator_items.specs.Machine.{items_from}
use Rattle.wasm_validator_items.specs.Sections.{read_each, read_section}
use Rattle.wasm_validator_items.proofs.Attempts.{added}

module _ {S V : Type 0} (step : S → List ℕ → Option (S × List ℕ)) (encoded : List ℕ → Option (V × List ℕ)) (add : S → V → Option S)
    (one : (s : S) (bytes : List ℕ) → step s bytes ≡ added (add s) (encoded bytes)) where
  -- so many are
  abbrev Each : ℕ → Type 0
  Each n = (bytes : List ℕ) (s : S) → items_from step n bytes s ≡ read_each encoded add n bytes s

  behind_one : (n : ℕ) → Each n → (more : List ℕ) (o : Option S)
      → option_and_then (λ (x : S × List ℕ). items_from step n x.1 x.0) (option_map (λ t. (t, more)) o) ≡ option_and_then (λ t. read_each encoded add n more t) o
  behind_one n each more None = refl
  behind_one n each more (Some t) = each more t

  next_one : (n : ℕ) → Each n → (s : S) (o : Option (V × List ℕ))
      → option_and_then (λ (x : S × List ℕ). items_from step n x.1 x.0) (added (add s) o) ≡ option_and_then (λ x. option_and_then (λ t. read_each encoded add n x.1 t) (add s x.0)) o
  next_one n each s None = refl
  next_one n each s (Some x) = behind_one n each x.1 (add s x.0)

  pub each_is_added : (n : ℕ) (bytes : List ℕ) (s : S) → items_from step n bytes s ≡ read_each encoded add n bytes s
  each_is_added zero bytes s = refl
  each_is_added (suc n) bytes s = ap (option_and_then (λ (x : S × List ℕ). items_from step n x.1 x.0)) (one s bytes) ∙ next_one n (λ b t. each_is_added n b t) s (encoded bytes)

  -- and a section
  pub section_is_added : (there most count : ℕ) (bytes : List ℕ) (s : S)
      → (if nat_le (there + count) most then items_from step count bytes s else None) ≡ read_section encoded add there most count bytes s
  section_is_added there most count bytes s = ap (λ (o : Option S). if nat_le (there + count) most then o else None) (each_is_added count bytes s)
