-- What is written into a caller's array.
use Rattle.std.specs.Prelude.{ℕ, ◌≡◌, ◌<◌, ◌≤◌, List, length, slice_get, slice_index, Some}

-- These stand in the array from its beginning, as far as there is room, and all behind them is as it was.
pub record AreWritten (given old new : List ℕ) : Type 0 where
  pub room : length new ≡ length old
  pub written : (k : ℕ) → k < length given → k < length old → slice_index new k ≡ slice_index given k
  pub others : (k : ℕ) → length given ≤ k → slice_index new k ≡ slice_index old k

-- A text of this length stands in the array, as far as there is room.
pub record HasText (size : ℕ) (old new : List ℕ) : Type 0 where
  pub text : List ℕ
  pub whole : length text ≡ size
  pub copied : AreWritten text old new

-- Each of the first so many is told by its place, as far as there is room, and all behind them is as it was.
pub record AreTold {X : Type 0} (P : ℕ → X → Type 0) (count : ℕ) (old new : List X) : Type 0 where
  pub room : length new ≡ length old
  pub told : (k : ℕ) (x : X) → k < count → slice_get new k ≡ Some x → P k x
  pub others : (k : ℕ) → count ≤ k → slice_get new k ≡ slice_get old k
