-- Chains of supertypes in which each one comes before what extends it.
use Rattle.std.proofs.Common.{◌≡◌, ℕ, zero, suc, ◌<◌, ◌≤◌, Option, Some, arith}
use Rattle.std.proofs.lemmas.Option.{same_Some, option_and_then_some}
use Rattle.wasm_readers_errors.specs.WasmSpec.Syntax.{Sub}
use Rattle.wasm_readers_errors.specs.WasmSpec.SupertypeOrder.{supertype_of, ancestor_at}

module _ (D : ℕ → Option (Sub ℕ)) where
  -- each supertype comes before
  abbrev pub Descends : Type 0
  Descends = (x y : ℕ) → supertype_of D x ≡ Some y → y < x

  pub not_behind : Descends → (m x b : ℕ) → ancestor_at D m x ≡ Some b → b ≤ x
  not_behind h zero x b e = let same : x ≡ b = same_Some x b e in omega (arith, same)
  not_behind h (suc m) x b e = option_and_then_some (ancestor_at D m) (supertype_of D x) b e (λ y f g.
      let k : y < x = h x y f in
      let l : b ≤ y = not_behind h m y b g in
      omega (arith, k, l))
