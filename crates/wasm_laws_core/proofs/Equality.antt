-- The laws of the traits, with an equality that tells whether two values are the same.
use Rattle.std.proofs.Common.{◌≡◌, sym, ap, ◌∙◌, true, Bool, Option, Some}
use Rattle.std.specs.Bool.{Decides}
use Rattle.std.specs.Cmp.{Equal-is}
use Rattle.std.specs.Hash.{HashWrites}
use Rattle.std.specs.Ordering.{is_eq}
use Rattle.std.specs.declared.cmp.Ordering.{Ordering}
use Rattle.wasm_laws_core.specs.Equality.{Agree}

pub agree :
    {X : Type 0} {eq : X → X → Bool} {partial_cmp : X → X → Option Ordering} {cmp : X → X → Ordering} {hash_input : X → HashWrites}
    → ((x y : X) → Decides (eq x y) (x ≡ y))
    → ((x y : X) → partial_cmp x y ≡ Some (cmp x y))
    → ((x y : X) → eq x y ≡ is_eq (cmp x y))
    → ((x y : X) → eq x y ≡ true → hash_input x ≡ hash_input y)
    → Agree eq partial_cmp cmp hash_input
agree {X} {eq} {partial_cmp} {cmp} same partial ties feeds = record {
  equality = same;
  order = λ x y. (λ e. (same x y).0 (ties x y ∙ ap is_eq e), λ e. (Equal-is (cmp x y)).0 (sym (ties x y) ∙ (same x y).1 e));
  partial_order = partial;
  hash = feeds;
}
