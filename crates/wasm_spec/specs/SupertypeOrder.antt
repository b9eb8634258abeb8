-- Supertypes, over any kind of identity R, where `D` is what each R declares: the declared order of defined types.
-- Core Specification 3.0, Validation, Matching (Defined Types).
use Rattle.std.specs.Prelude.{◌≡◌, ℕ, zero, suc, Option, Some, None, slice_get, ◌⊎◌}
use Rattle.std.specs.Option.{option_and_then}
use Rattle.wasm_spec.specs.Syntax.{Sub}

-- the supertype that a sub type declares; a closed one has one at most
abbrev pub supertype : {R : Type 0} → Sub R → Option R
supertype s = slice_get s.supers 0

module _ {R : Type 0} (D : R → Option (Sub R)) where
  abbrev pub supertype_of : R → Option R
  supertype_of a = option_and_then supertype (D a)

  abbrev pub descriptor_of : R → Option R
  descriptor_of a = option_and_then (λ s. s.descriptor) (D a)

  abbrev pub described_by : R → Option R
  described_by a = option_and_then (λ s. s.describes) (D a)

  -- the ancestor at so many steps above a, where there is one: a itself at none
  abbrev pub ancestor_at : ℕ → R → Option R
  ancestor_at zero a = Some a
  ancestor_at (suc n) a = option_and_then (ancestor_at n) (supertype_of a)

-- b is a or an ancestor of it
pub record IsAncestor {R : Type 0} (D : R → Option (Sub R)) (a b : R) : Type 0 where
  pub steps : ℕ
  pub leads : ancestor_at D steps a ≡ Some b

-- a has exactly n proper ancestors
pub record IsDepth {R : Type 0} (D : R → Option (Sub R)) (a : R) (n : ℕ) : Type 0 where
  pub top : R
  pub leads : ancestor_at D n a ≡ Some top
  pub is_top : supertype_of D top ≡ None

-- the links that are followed from a to find b: the steps to b, or where it is no ancestor all there are
abbrev pub Links : {R : Type 0} → (R → Option (Sub R)) → R → R → ℕ → Type 0
Links D a b n = (ancestor_at D n a ≡ Some b) ⊎ ((¬ IsAncestor D a b) × IsDepth D a n)
