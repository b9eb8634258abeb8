-- A list that is given item by item.
use Rattle.std.proofs.Common.{◌≡◌, ◌<◌, List, [], ◌∷◌, length, refl, arith}
use Rattle.std.specs.Prelude.{Some, None}
use Rattle.wasm_operators.specs.SeenLists.{GivesFront}

module _ {V : Type 0} where
  pub front_given : (xs after : List V) (x : V) → GivesFront xs (Some x) after → xs ≡ x ∷ after
  front_given [] after x h = cc
  front_given (y ∷ xs) after x h = let e : y ≡ x = cc in let f : xs ≡ after = cc in rw (e, f) refl

  pub none_left : (xs after : List V) → GivesFront xs None after → xs ≡ []
  none_left [] after h = refl
  none_left (x ∷ xs) after h = cc

  pub fewer : (xs after : List V) (x : V) → GivesFront xs (Some x) after → length after < length xs
  fewer xs after x h = let e = front_given xs after x h in rw e (omega arith)
