-- Lists that begin like others.
use Rattle.std.specs.Prelude.{◌≡◌, List, ◌++◌}

-- the first list is the front of the second
pub record IsFront {X : Type 0} (front whole : List X) : Type 0 where
  pub rest : List X
  pub split : whole ≡ front ++ rest
