-- Equality, order and hash of a type, each by what its calls answer and feed.
use Rattle.std.specs.Prelude.{ℕ, ◌≡◌, true, ◌==◌, ◌↔◌, Bool, Option, Some}
use Rattle.std.specs.Bool.{Decides}
use Rattle.std.specs.Hash.{HashWrites}
use Rattle.std.specs.declared.cmp.Ordering.{Ordering}
use Rattle.std.specs.declared.cmp.Ordering.TheVariants.{Equal}
use Rattle.std.proofs.Common.{sym, ap, ◌∙◌}
use Rattle.std.proofs.lemmas.Bool.Decides.{Decides-eqb}

-- Two values are equal exactly where they are the same, and exactly there the order finds them equal. The partial order is the order. Equal values feed
-- a hasher alike.
pub record Agree {X : Type 0} (eq : X → X → Bool) (partial_cmp : X → X → Option Ordering) (cmp : X → X → Ordering) (hash_input : X → HashWrites) : Type 0 where
  pub equality : (x y : X) → (eq x y ≡ true) ↔ (x ≡ y)
  pub order : (x y : X) → (cmp x y ≡ Equal) ↔ (x ≡ y)
  pub partial_order : (x y : X) → partial_cmp x y ≡ Some (cmp x y)
  pub hash : (x y : X) → eq x y ≡ true → hash_input x ≡ hash_input y

-- where a value is made of its number alone, a test of the numbers tells whether two values are the same
pub same_by : {X : Type 0} (number : X → ℕ) (make : ℕ → X) → ((x : X) → make (number x) ≡ x) → (x y : X) → Decides (number x == number y) (x ≡ y)
same_by number make again x y =
    let d = Decides-eqb (number x) (number y) in
    (λ e. sym (again x) ∙ ap make (d.0 e) ∙ again y, λ e. d.1 (ap number e))
