-- Items that are added one after another, each at the end of one list, as a list of items of which each keeps its rule.
use Rattle.std.proofs.Common.{◌≡◌, sym, ◌∙◌, List, [], ◌∷◌}
use Rattle.std.specs.Prelude.{◌↔◌}
use Rattle.std.specs.List.{All}
use Rattle.std.proofs.lemmas.List.Elements.{All-nil, All-cons, All-head, All-tail}
use Rattle.wasm_validator_types.specs.Spaces.{Spaces}
use Rattle.wasm_validator_states.specs.SectionLaws.{AddsEach}

module _ {V : Type 0} (P : Spaces → V → Type 0) (Q : V → Type 0) (next : Spaces → V → Spaces) (K : Spaces → Type 0) (right : (s : Spaces) (v : V) → K s → P s v ↔ Q v) (keeps : (s : Spaces) (v : V) → K s → K (next s v))
    (lists : Spaces → List V → Spaces) (none : (s : Spaces) → lists s [] ≡ s) (more : (s : Spaces) (v : V) (vs : List V) → lists (next s v) vs ≡ lists s (v ∷ vs)) where
  pub all_of : (vs : List V) (s t : Spaces) → K s → AddsEach P next s vs t → All Q vs × (lists s vs ≡ t)
  all_of [] s t k a = (All-nil Q, none s ∙ a)
  all_of (v ∷ vs) s t k a =
      let r = all_of vs (next s v) t (keeps s v k) a.1 in
      (All-cons Q v vs ((right s v k).0 a.0) r.0, sym (more s v vs) ∙ r.1)

  pub each_of : (vs : List V) (s t : Spaces) → K s → All Q vs → lists s vs ≡ t → AddsEach P next s vs t
  each_of [] s t k a e = sym (none s) ∙ e
  each_of (v ∷ vs) s t k a e = ((right s v k).1 (All-head Q v vs a), each_of vs (next s v) t (keeps s v k) (All-tail Q v vs a) (more s v vs ∙ e))
