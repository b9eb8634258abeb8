-- A section as the list of its items.
use Rattle.std.proofs.Common.{◌≡◌, refl, sym, ap, ◌∙◌, ℕ, ◌+◌, Bool, true, false, cond, leb, List, [], ◌∷◌, map, length, Option, Some, None}
use Rattle.std.specs.Option.{option_map, option_and_then}
use Rattle.wasm_spec.specs.Values.{items_at}
use Rattle.wasm_spec_rules.specs.Sections.{each}
use Rattle.wasm_validator_sections.specs.Sections.{read_section}
use Rattle.wasm_validator_sections.proofs.ItemReads.{read_then_added, items_renamed, as_many_as_counted}

-- items behind so many, renamed and added, where all keep to the limit
abbrev pub limited : {S V W : Type 0} → (S → W → Option S) → (V → W) → ℕ → ℕ → S → List V → Option S
limited add f there most s vs = cond (leb (there + length vs) most) (each add s (map f vs)) None

-- items that are read one way where they are renamed, and another way where they aren't
abbrev pub Renames : {V W : Type 0} → (V → W) → (List ℕ → Option (V × List ℕ)) → (List ℕ → Option (W × List ℕ)) → Type 0
Renames f reads renamed = (bytes : List ℕ) → renamed bytes ≡ option_map (λ x. (f x.0, x.1)) (reads bytes)

-- items that are read as they are
abbrev pub same_item : {V : Type 0} → V → V
same_item v = v

same_reading : {V : Type 0} (o : Option (V × List ℕ)) → o ≡ option_map (λ x. (same_item x.0, x.1)) o
same_reading None = refl
same_reading (Some x) = refl

pub renames_nothing : {V : Type 0} (reads : List ℕ → Option (V × List ℕ)) → Renames same_item reads reads
renames_nothing reads = λ bytes. same_reading (reads bytes)

pub map_same : {V : Type 0} (vs : List V) → map same_item vs ≡ vs
map_same [] = refl
map_same (v ∷ vs) = ap (λ xs. v ∷ xs) (map_same vs)

module _ {S V W : Type 0} (add : S → W → Option S) (f : V → W) (there most : ℕ) (s : S) where
  nothing_either : (b : Bool) → cond {A = Option S} b None None ≡ None
  nothing_either true = refl
  nothing_either false = refl

  as_limited : (n : ℕ) (o : Option (List V)) → ((vs : List V) → o ≡ Some vs → length vs ≡ n) → cond (leb (there + n) most) (option_and_then (λ ws. each add s ws) (option_map (map f) o)) None ≡ option_and_then (limited add f there most s) o
  as_limited n None many = nothing_either (leb (there + n) most)
  as_limited n (Some vs) many = ap (λ k. cond (leb (there + k) most) (each add s (map f vs)) None) (sym (many vs refl))

  -- a section as the list of its items
  pub section_entries : (reads : List ℕ → Option (V × List ℕ)) (renamed : List ℕ → Option (W × List ℕ)) → Renames f reads renamed
      → (n : ℕ) (bytes : List ℕ) → read_section renamed add there most n bytes s ≡ option_and_then (limited add f there most s) (items_at reads n bytes)
  section_entries reads renamed renames n bytes =
      ap (λ o. cond (leb (there + n) most) o None) (read_then_added renamed add n bytes s)
      ∙ ap (λ o. cond (leb (there + n) most) (option_and_then (λ ws. each add s ws) o) None) (items_renamed f reads renamed renames n bytes)
      ∙ as_limited n (items_at reads n bytes) (λ vs e. as_many_as_counted reads n bytes vs e)
