-- Where a group stands among others.
use Rattle.std.specs.Prelude.{ℕ, ◌≡◌, List, slice_get}
use Rattle.std.specs.Option.{MatchOption}
use Rattle.std.specs.declared.option.Option.{Option}
use Rattle.std.specs.declared.option.Option.TheVariants.{Some}

module _ {X : Type 0} where
  -- none of the groups has these items
  abbrev pub IsNew : List (List X) → List X → Type 0
  IsNew gs g = (k : ℕ) → slice_get gs k ≡ Some g → ⊥

  -- the number of the group with these items, if there is one
  abbrev pub IsPlaceOf : Option ℕ → List (List X) → List X → Type 0
  IsPlaceOf o gs g = MatchOption o (IsNew gs g) (λ n. slice_get gs n ≡ Some g)
