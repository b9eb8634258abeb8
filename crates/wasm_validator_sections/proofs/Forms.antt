-- Groups as they are written have their form.
use Rattle.std.proofs.Common.{◌≡◌, sym, ap, ℕ, Bool, true, false, cond, eqb, List, [], ◌∷◌, Option, Some}
use Rattle.std.specs.Option.{option_map}
use Rattle.wasm_spec.specs.Syntax.{Sub, Rec}
use Rattle.wasm_spec.specs.BinaryTypes.{sub_at, rec_from, rec_at}
use Rattle.wasm_spec.specs.Values.{byte_at, list_at}
use Rattle.wasm_spec_rules.proofs.Tests.{map_some, then_some}
use Rattle.wasm_validator_items.specs.WasmValidatorCore.WasmValidatorCanonical.Groups.{has_form}

module _ {R : Type 0} where
  -- a group of many types, or of one
  abbrev many_types : List (Sub R) × List ℕ → Rec R × List ℕ
  many_types ts = (record { is_explicit = true; types = ts.0 }, ts.1)

  abbrev one_type : Sub R × List ℕ → Rec R × List ℕ
  one_type t = (record { is_explicit = false; types = t.0 ∷ [] }, t.1)

  formed_in : (b : Bool) (many : Option (List (Sub R) × List ℕ)) (one : Option (Sub R × List ℕ)) (x : Rec R × List ℕ) → cond b (option_map many_types many) (option_map one_type one) ≡ Some x → has_form x.0 ≡ true
  formed_in true many one x e = let a = map_some many_types many x e in ap (λ (y : Rec R × List ℕ). has_form y.0) (sym a.2)
  formed_in false many one x e = let a = map_some one_type one x e in ap (λ (y : Rec R × List ℕ). has_form y.0) (sym a.2)

  module _ (index : ℕ → R) where
    formed : (bytes : List ℕ) (x : Rec R × List ℕ) → rec_at index bytes ≡ Some x → has_form x.0 ≡ true
    unfolding rec_at
    formed bytes x e =
        let a = then_some (λ (b : ℕ × List ℕ). rec_from index b.0 b.1 bytes) (byte_at bytes) x e in
        formed_in (eqb a.0.0 0x4e) (list_at (sub_at index) a.0.1) (sub_at index bytes) x a.2

    pub is_formed : (bytes after : List ℕ) (g : Rec R) → rec_at index bytes ≡ Some (g, after) → has_form g ≡ true
    is_formed bytes after g e = formed bytes (g, after) e
