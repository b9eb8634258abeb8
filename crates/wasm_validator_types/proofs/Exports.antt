-- The names that are exported.
use Rattle.std.proofs.Common.{◌≡◌, ℕ, Bool, true, false, cond, ◌||◌, if◌then◌else◌, List, [], ◌∷◌, ◌++◌, map, Option, Some, is_some, refl, ap, true≢false, ◌∙◌}
use Rattle.std.specs.Map.{lookup}
use Rattle.std.specs.Str.{bytes_eq}
use Rattle.std.specs.String.{string_bytes, string_eq}
use Rattle.std.specs.declared.string.String.{String}
use Rattle.indexmap.specs.IndexMap.{insert_entry}
use Rattle.wasm_readers.specs.WasmReadersTypes.declared.externs.EntityType.{EntityType}
use Rattle.wasm_validator_types.specs.Entities.{Entity, entity_of}
use Rattle.wasm_validator_types.specs.Spaces.{is_exported}
use Rattle.wasm_validator_types.specs.SpacesSeen.{shown_export}

looked_step : (b c : Bool) (v : EntityType) (r : Option EntityType) → is_some r ≡ c → is_some (cond b (Some v) r) ≡ (b || c)
looked_step true c v r h = refl
looked_step false c v r h = h

module _ {A : Type 0} where
  -- a look-up finds a name just where it is exported
  pub looked : (es : List (String A × EntityType)) (name : List ℕ) → is_some (lookup (λ k. bytes_eq name (string_bytes k)) es) ≡ is_exported (map shown_export es) name
  looked [] name = refl
  looked (e ∷ es) name = looked_step (bytes_eq name (string_bytes e.0)) _ e.1 _ (looked es name)

  new_step :
      (b c : Bool) (e : String A × EntityType) (es ins : List (String A × EntityType)) (rest : List (List ℕ × Entity)) (entity : EntityType)
      → (b || c) ≡ false
      → (c ≡ false → map shown_export ins ≡ rest)
      → map shown_export (if b then (e.0, entity) ∷ es else e ∷ ins) ≡ shown_export e ∷ rest
  new_step true c e es ins rest entity h k = absurd (true≢false h)
  new_step false c e es ins rest entity h k = ap (λ l. shown_export e ∷ l) (k h)

  -- a name that is not exported goes last
  pub new_export :
      (es : List (String A × EntityType)) (key : String A) (entity : EntityType) → is_exported (map shown_export es) (string_bytes key) ≡ false
      → map shown_export (insert_entry string_eq es key entity) ≡ map shown_export es ++ (string_bytes key, entity_of entity) ∷ []
  new_export [] key entity h = refl
  new_export (e ∷ es) key entity h = new_step (string_eq key e.0) _ e es _ _ entity h (new_export es key entity)

  pub new_export_at :
      (es new : List (String A × EntityType)) (exports : List (List ℕ × Entity)) (key : String A) (name : List ℕ) (entity : EntityType)
      → map shown_export es ≡ exports → string_bytes key ≡ name → is_exported exports name ≡ false → new ≡ insert_entry string_eq es key entity
      → map shown_export new ≡ exports ++ (name, entity_of entity) ∷ []
  new_export_at es new exports key name entity s n h i =
      ap (map shown_export) i ∙ new_export es key entity ((λ j. is_exported (s j) (n j)) ∙ h) ∙ (λ j. s j ++ (n j, entity_of entity) ∷ [])
