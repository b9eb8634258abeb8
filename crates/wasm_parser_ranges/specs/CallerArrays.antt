-- What a caller is told in its arrays, as far as there is room.
use Rattle.std.specs.Prelude.{ℕ, ◌≡◌, ◌<◌, ◌≤◌, List, length, slice_get, Some, None}
use Rattle.std.specs.declared.result.Result.{Result}
use Rattle.std.specs.declared.result.Result.TheVariants.{Ok, Err}
use Rattle.wasm_parser_ranges.specs.declared.not_found.NotFound.{NotFound}
use Rattle.wasm_parser_ranges.specs.declared.not_found.NotFound.TheVariants.{NoModule, NoName, OutOfMemory}
use Rattle.wasm_parser_ranges.specs.Names.{IsName}
use Rattle.wasm_parser_ranges.specs.Ranges.{HasNoFraming, Refuses}

module _ {X : Type 0} where
  -- These stand in the array from its beginning, as far as there is room, and all behind them is as it was.
  pub record StandIn (given old new : List X) : Type 0 where
    pub room : length new ≡ length old
    pub written : (k : ℕ) → k < length given → k < length old → slice_get new k ≡ slice_get given k
    pub others : (k : ℕ) → length given ≤ k → slice_get new k ≡ slice_get old k

  -- nothing was told
  pub record NothingTold (c0 c1 : ℕ) (old new : List X) : Type 0 where
    pub count : c1 ≡ c0
    pub items : new ≡ old

  -- what the bytes have of this kind stands in the array, and it is told how many there are
  pub record FoundTold (Are : List ℕ → List X → Type 0) (bytes : List ℕ) (c1 : ℕ) (old new : List X) : Type 0 where
    pub found : List X
    pub are : Are bytes found
    pub count : c1 ≡ length found
    pub written : StandIn found old new

  -- the same, or why nothing was told
  abbrev pub TellsFound : (List ℕ → List X → Type 0) → List ℕ → Result Unit NotFound → ℕ → ℕ → List X → List X → Type 0
  TellsFound Are bytes (Ok x) c0 c1 old new = FoundTold Are bytes c1 old new
  TellsFound Are bytes (Err why) c0 c1 old new = Refuses why bytes × NothingTold c0 c1 old new

-- the module gives the function with this index a name, which stands in the array, and it is told how long it is
pub record NameTold (bytes : List ℕ) (index l1 : ℕ) (old new : List ℕ) : Type 0 where
  pub name : List ℕ
  pub is : IsName bytes index (Some name)
  pub told : l1 ≡ length name
  pub written : StandIn name old new

-- why there is no name
abbrev pub HasNoName : NotFound → List ℕ → ℕ → Type 0
HasNoName NoModule bytes index = HasNoFraming bytes
HasNoName NoName bytes index = IsName bytes index None
HasNoName OutOfMemory bytes index = ⊥

abbrev pub TellsName : List ℕ → ℕ → Result Unit NotFound → ℕ → ℕ → List ℕ → List ℕ → Type 0
TellsName bytes index (Ok x) l0 l1 old new = NameTold bytes index l1 old new
TellsName bytes index (Err why) l0 l1 old new = HasNoName why bytes index × NothingTold l0 l1 old new
