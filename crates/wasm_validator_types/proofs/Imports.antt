-- An import added to the pairs of names.
use Rattle.std.proofs.Common.{◌≡◌, ℕ, ◌+◌, arith, zero, suc, Bool, true, false, not, cond, ◌&&◌, if◌then◌else◌, List, [], ◌∷◌, ◌++◌, map, slice_get, position, Option, Some, is_some, unwrap_or, refl, ap, sym, true≢false, ◌∙◌}
use Rattle.std.specs.List.{position_or_len}
use Rattle.std.proofs.lemmas.List.{map-append}
use Rattle.std.specs.Map.{keys_of, values_of, lookup}
use Rattle.std.specs.String.{string_bytes, string_eq}
use Rattle.std.specs.declared.string.String.{String}
use Rattle.indexmap.proofs.MapLemmas.{Found-position}
use Rattle.indexmap.specs.IndexMap.{insert_entry}
use Rattle.indexmap.specs.Layout.{set_value_at}
use Rattle.wasm_readers.specs.WasmReadersTypes.declared.externs.EntityType.{EntityType}
use Rattle.wasm_validator_types.specs.Entities.{Entity, entity_of}
use Rattle.wasm_validator_types.specs.Spaces.{with_import}
use Rattle.wasm_validator_types.specs.SpacesSeen.{shown_import, PutsAt}

module _ {K X : Type 0} where
  -- a write of the value that is there
  pub set_value_at-same : (es : List (K × X)) (i : ℕ) (v : X) → slice_get (values_of es) i ≡ Some v → set_value_at es i v ≡ es
  set_value_at-same [] i v h = refl
  set_value_at-same (e ∷ es) zero v h = ap (λ r. (e.0, unwrap_or r v) ∷ es) (sym h)
  set_value_at-same (e ∷ es) (suc i) v h = ap (λ l. e ∷ l) (set_value_at-same es i v h)

module _ {A : Type 0} (key : String A × String A) (entity : EntityType) where
  -- whether a pair is the one that is looked for
  abbrev same : String A × String A → Bool
  same k = string_eq key.0 k.0 && string_eq key.1 k.1

  abbrev after : List ((String A × String A) × List EntityType) → List ((List ℕ × List ℕ) × List Entity)
  after es = with_import (map shown_import es) (string_bytes key.0) (string_bytes key.1) (entity_of entity)

  found_step :
      (b : Bool) (e : (String A × String A) × List EntityType) (es : List ((String A × String A) × List EntityType)) (n : ℕ) (v : List EntityType)
      → slice_get (values_of (e ∷ es)) (cond (not b) (1 + n) 0) ≡ Some v
      → (slice_get (values_of es) n ≡ Some v → map shown_import (set_value_at es n (v ++ entity ∷ [])) ≡ after es)
      → map shown_import (set_value_at (e ∷ es) (cond (not b) (1 + n) 0) (v ++ entity ∷ []))
      ≡ (if b then ((shown_import e).0, map entity_of e.1 ++ entity_of entity ∷ []) ∷ map shown_import es else shown_import e ∷ after es)
  found_step true e es n v h rest = ap (λ r. ((shown_import e).0, map entity_of (unwrap_or r v ++ entity ∷ [])) ∷ map shown_import es) (sym h) ∙ ap (λ l. ((shown_import e).0, l) ∷ map shown_import es) (map-append entity_of e.1 (entity ∷ []))
  found_step false e es n v h rest =
      let more : 1 + n ≡ suc n = omega arith in
      ap (λ k. map shown_import (set_value_at (e ∷ es) k (v ++ entity ∷ []))) more
      ∙ ap (λ l. shown_import e ∷ l) (rest (ap (slice_get (values_of (e ∷ es))) (sym more) ∙ h))

  -- the pair is there
  pub found :
      (es : List ((String A × String A) × List EntityType)) (v : List EntityType)
      → slice_get (values_of es) (position_or_len same (keys_of es)) ≡ Some v
      → map shown_import (set_value_at es (position_or_len same (keys_of es)) (v ++ entity ∷ [])) ≡ after es
  found [] v h = absurd (true≢false (ap is_some (sym h)))
  found (e ∷ es) v h = found_step (same e.0) e es (position_or_len same (keys_of es)) v h (found es v)

  pub found_at :
      (es new : List ((String A × String A) × List EntityType)) (i : ℕ)
      → position same (keys_of es) ≡ Some i → PutsAt es i entity new → map shown_import new ≡ after es
  found_at es new i p h =
      let at = sym (Found-position same es i p).or_len in
      ap (map shown_import) h.2 ∙ ap (λ n. map shown_import (set_value_at es n (h.0 ++ entity ∷ []))) at ∙ found es h.0 (ap (slice_get (values_of es)) (sym at) ∙ h.1)

  missing_step :
      (b : Bool) (e : (String A × String A) × List EntityType) (es : List ((String A × String A) × List EntityType)) (r : Option (List EntityType))
      → is_some (cond b (Some e.1) r) ≡ false
      → (is_some r ≡ false → map shown_import (insert_entry (λ x y. string_eq x.0 y.0 && string_eq x.1 y.1) es key (entity ∷ [])) ≡ after es)
      → map shown_import (if b then (e.0, entity ∷ []) ∷ es else e ∷ insert_entry (λ x y. string_eq x.0 y.0 && string_eq x.1 y.1) es key (entity ∷ []))
      ≡ (if b then ((shown_import e).0, map entity_of e.1 ++ entity_of entity ∷ []) ∷ map shown_import es else shown_import e ∷ after es)
  missing_step true e es r h rest = absurd (true≢false h)
  missing_step false e es r h rest = ap (λ l. shown_import e ∷ l) (rest h)

  -- the pair is new
  pub missing :
      (es : List ((String A × String A) × List EntityType)) → is_some (lookup same es) ≡ false
      → map shown_import (insert_entry (λ x y. string_eq x.0 y.0 && string_eq x.1 y.1) es key (entity ∷ [])) ≡ after es
  missing [] h = refl
  missing (e ∷ es) h = missing_step (same e.0) e es (lookup same es) h (missing es)

  pub missing_at :
      (es new : List ((String A × String A) × List EntityType)) (entities : List EntityType) → is_some (lookup same es) ≡ false
      → entities ≡ entity ∷ [] → new ≡ insert_entry (λ x y. string_eq x.0 y.0 && string_eq x.1 y.1) es key entities → map shown_import new ≡ after es
  missing_at es new entities h one i =
      ap (map shown_import) (i ∙ ap (insert_entry (λ x y. string_eq x.0 y.0 && string_eq x.1 y.1) es key) one) ∙ missing es h
