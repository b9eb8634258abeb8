-- Laws of the definitions, as facts that a contract can name.
use Rattle.std.specs.Prelude.{◌≡◌, ℕ, ◌<◌, List, ◌++◌, length, Option, Some}
use Rattle.std.specs.Option.{option_map}

-- What a type index is read as can be renamed: reading with renamed indices gives what reading gives, with each reference renamed.
abbrev pub ReadingRenames : (R S : Type 0) {V W : Type 0} → ((R → S) → V → W) → ((ℕ → R) → List ℕ → Option (V × List ℕ)) → ((ℕ → S) → List ℕ → Option (W × List ℕ)) → Type 0
ReadingRenames R S renamed reads reads_renamed = (f : R → S) (to : ℕ → R) (bytes : List ℕ) → reads_renamed (λ n. f (to n)) bytes ≡ option_map (λ x. (renamed f x.0, x.1)) (reads to bytes)

-- rest is what is left of the bytes behind some that were read
pub record IsShorterRest (rest bytes : List ℕ) : Type 0 where
  pub front : List ℕ
  pub is : bytes ≡ front ++ rest
  pub shorter : length rest < length bytes

-- Reading goes on: at least one byte is read, and the bytes behind are left as they are.
abbrev pub ReadingGoesOn : {V : Type 0} → (List ℕ → Option (V × List ℕ)) → Type 0
ReadingGoesOn {V} reads = (bytes : List ℕ) (v : V) (rest : List ℕ) → reads bytes ≡ Some (v, rest) → IsShorterRest rest bytes

-- Reading ignores what follows: what is encoded at the front of the bytes is so with more bytes behind them.
abbrev pub ReadingIgnoresWhatFollows : {V : Type 0} → (List ℕ → Option (V × List ℕ)) → Type 0
ReadingIgnoresWhatFollows {V} reads = (bytes more : List ℕ) (v : V) (rest : List ℕ) → reads bytes ≡ Some (v, rest) → reads (bytes ++ more) ≡ Some (v, rest ++ more)

-- A map after a map is one map.
abbrev pub MapAfterMap : (Q R S : Type 0) {V W X : Type 0} → ((Q → R) → V → W) → ((R → S) → W → X) → ((Q → S) → V → X) → Type 0
MapAfterMap Q R S {V} first second both = (f : Q → R) (g : R → S) (v : V) → second g (first f v) ≡ both (λ q. g (f q)) v

-- The map by the identity changes nothing.
abbrev pub MapBySame : (R : Type 0) {V : Type 0} → ((R → R) → V → V) → Type 0
MapBySame R {V} renamed = (v : V) → renamed (λ r. r) v ≡ v
