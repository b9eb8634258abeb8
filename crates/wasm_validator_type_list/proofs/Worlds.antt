-- The tests of the world of a list of types are right.
use Rattle.std.proofs.Common.{◌≡◌, refl, sym, ap, ◌⊎◌, inl, inr, ℕ, zero, suc, ◌<◌, ◌≤◌, eqb, false, true≢false, ◌||◌, Option, Some, None, arith}
use Rattle.std.specs.Bool.{Decides}
use Rattle.std.specs.Option.{option_and_then}
use Rattle.std.proofs.lemmas.Bool.Decides.{Decides-eqb, Decides-or, Decides-like}
use Rattle.std.proofs.lemmas.Option.{none-some, same_Some, option_and_then_some}
use Rattle.wasm_readers_errors.specs.WasmSpec.Syntax.{Sub}
use Rattle.wasm_readers_errors.specs.WasmSpec.SupertypeOrder.{supertype_of, ancestor_at, IsAncestor}
use Rattle.wasm_validator_type_list.specs.Worlds.{is_within, IdsAreAWorld}
use Rattle.wasm_validator_type_list.specs.DeclarationsById.{declares}
use Rattle.wasm_validator_type_list.proofs.IdDeclarations.{descends}
use Rattle.wasm_validator_type_list.proofs.Chains.{Descends}

module _ (D : ℕ → Option (Sub ℕ)) (down : Descends D) where
  -- b is so many steps above the first, if there is a first
  abbrev IsFrom : Option ℕ → ℕ → Type 0
  IsFrom o b = (s : ℕ) × (option_and_then (ancestor_at D s) o ≡ Some b)

  from_none : (b : ℕ) → Decides false (IsFrom None b)
  from_none b = ((λ e. absurd (true≢false (sym e))), (λ p. absurd (none-some b p.1)))

  -- one step less
  first_or_further : (a b s : ℕ) → ancestor_at D s a ≡ Some b → (a ≡ b) ⊎ IsFrom (supertype_of D a) b
  first_or_further a b zero e = inl (same_Some a b e)
  first_or_further a b (suc s) e = inr (s, e)

  from_either : (a b : ℕ) → (a ≡ b) ⊎ IsFrom (supertype_of D a) b → IsFrom (Some a) b
  from_either a b (inl e) = (0, ap Some e)
  from_either a b (inr p) = (suc p.0, p.1)

  first_of_none : (a b : ℕ) → a ≤ 0 → (a ≡ b) ⊎ IsFrom (supertype_of D a) b → a ≡ b
  first_of_none a b l (inl e) = e
  first_of_none a b l (inr p) = option_and_then_some (ancestor_at D p.0) (supertype_of D a) b p.1 (λ y f g. let m : y < a = down a y f in absurd (omega (arith, l, m)))

  within-decides : (n : ℕ) (o : Option ℕ) (b : ℕ) → ((a : ℕ) → o ≡ Some a → a ≤ n) → Decides (is_within D n o b) (IsFrom o b)
  within-decides zero None b h = from_none b
  within-decides zero (Some a) b h =
      let d = Decides-eqb a b in
      ((λ e. (0, ap Some (d.0 e))), (λ p. d.1 (first_of_none a b (h a refl) (first_or_further a b p.0 p.1))))
  within-decides (suc n) None b h = from_none b
  within-decides (suc n) (Some a) b h =
      let next : (y : ℕ) → supertype_of D a ≡ Some y → y ≤ n = λ y e. let m : y < a = down a y e in let k : a ≤ suc n = h a refl in omega (arith, m, k) in
      Decides-like (eqb a b || is_within D n (supertype_of D a) b) (from_either a b) (λ p. first_or_further a b p.0 p.1)
      (Decides-or (eqb a b) (is_within D n (supertype_of D a) b) (Decides-eqb a b) (within-decides n (supertype_of D a) b next))

  pub below-decides : (a b : ℕ) → Decides (is_within D a (Some a) b) (IsAncestor D a b)
  below-decides a b =
      let d = within-decides a (Some a) b (λ x e. let same : a ≡ x = same_Some a x e in omega (arith, same)) in
      ((λ e. let p = d.0 e in record { steps = p.0; leads = p.1 }), (λ p. d.1 (p.steps, p.leads)))

pub ids_are_a_world : {A : Type 0} → IdsAreAWorld A
ids_are_a_world gs h = record { below = below-decides (declares gs) (descends gs h); same = Decides-eqb }
