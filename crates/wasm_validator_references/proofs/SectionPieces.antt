-- The functions that all sections with one id name, and which of them a function is among.
use Rattle.std.proofs.Common.{◌≡◌, refl, sym, ap, ◌∙◌, ℕ, Bool, true, false, ◌==◌, ◌||◌, if◌then◌else◌, List, [], ◌∷◌, ◌++◌, map, Option, Some, None, option_map}
use Rattle.std.specs.List.{flat_map}
use Rattle.std.specs.Option.{option_and_then}
use Rattle.std.proofs.lemmas.List.Concat.{flat_map-append}
use Rattle.wasm_spec.specs.Framing.{Piece}
use Rattle.wasm_spec_validity.specs.WasmSpecSteps.WasmSpecRules.Attempts.{among}
use Rattle.wasm_spec_validity.specs.WasmSpecSteps.WasmSpecRules.Parts.{items_of, all_items}
use Rattle.wasm_validator_references.specs.References.{names_or_none}

none : {P X : Type 0} (x : X) → None ≡ Some x → P
none x e = absurd cc

the_same : {X : Type 0} (x y : X) → Some x ≡ Some y → x ≡ y
the_same x y e = cc

-- lists behind one another
or_assoc : (a b c : Bool) → ((a || b) || c) ≡ (a || (b || c))
or_assoc true b c = refl
or_assoc false b c = refl

pub exchange : (a b c d : Bool) → ((a || b) || (c || d)) ≡ ((a || c) || (b || d))
exchange true b c d = refl
exchange false true true d = refl
exchange false true false d = refl
exchange false false c d = refl

pub among-append : (i : ℕ) (xs ys : List ℕ) → among i (xs ++ ys) ≡ (among i xs || among i ys)
among-append i [] ys = refl
among-append i (x ∷ xs) ys = ap (λ b. (i == x) || b) (among-append i xs ys) ∙ sym (or_assoc (i == x) (among i xs) (among i ys))

pub among-flat : {X : Type 0} (i : ℕ) (f : X → List ℕ) (xs ys : List X) → among i (flat_map f (xs ++ ys)) ≡ (among i (flat_map f xs) || among i (flat_map f ys))
among-flat i f xs ys = ap (among i) (flat_map-append f xs ys) ∙ among-append i (flat_map f xs) (flat_map f ys)

-- items that are renamed, where that keeps the names
module _ {V W : Type 0} (u : V → W) (names : V → List ℕ) (renamed : W → List ℕ) (same : (v : V) → renamed (u v) ≡ names v) where
  items_same : (vs : List V) → flat_map renamed (map u vs) ≡ flat_map names vs
  items_same [] = refl
  items_same (v ∷ vs) = λ i. same v i ++ items_same vs i

  from_items : (o : Option (List V)) → names_or_none renamed (option_map (map u) o) ≡ names_or_none names o
  from_items None = refl
  from_items (Some vs) = items_same vs

  pub names_same : (o : Option (List V)) (p : Option (List W)) → p ≡ option_map (map u) o → names_or_none renamed p ≡ names_or_none names o
  names_same o p e = ap (names_or_none renamed) e ∙ from_items o

-- those that the items of a piece name, if it is the section with this id
module _ {V : Type 0} (id : ℕ) (reads : List ℕ → Option (V × List ℕ)) (names : V → List ℕ) where
  abbrev pub of_piece : Piece → List ℕ
  of_piece p = names_or_none names (items_of id reads p)

  -- all items, taken apart
  parted : (o q : Option (List V)) (items : List V) → option_and_then (λ xs. option_map (λ ys. xs ++ ys) q) o ≡ Some items
      → (xs : List V) × (ys : List V) × (o ≡ Some xs) × (q ≡ Some ys) × (xs ++ ys ≡ items)
  parted None q items e = none items e
  parted (Some xs) None items e = none items e
  parted (Some xs) (Some ys) items e = (xs, ys, refl, refl, the_same (xs ++ ys) items e)

  pub all_named : (pieces : List Piece) (items : List V) → all_items id reads pieces ≡ Some items → flat_map of_piece pieces ≡ flat_map names items
  all_named [] items e = ap (flat_map names) (the_same [] items e)
  all_named (p ∷ ps) items e =
      let h = parted (items_of id reads p) (all_items id reads ps) items e in
      (λ i. names_or_none names (h.2 i) ++ all_named ps h.1 h.3 i) ∙ sym (flat_map-append names h.0 h.1) ∙ ap (flat_map names) h.4

pub in_section : {V : Type 0} (names : V → List ℕ) (b : Bool) (o : Option (List V)) → (if b then names_or_none names o else []) ≡ names_or_none names (if b then o else Some [])
in_section names true o = refl
in_section names false o = refl
