-- Which files names on the command line stand for.
use Rattle.std.specs.Prelude.{ℕ, ◌≡◌, ◌⊎◌, Bool, List, [], ◌∷◌, ◌++◌, codes, true, String, string_bytes}
use Rattle.std.specs.List.{All, ends_with}
use lib.Dec.{eqb}
use Rattle.std.specs.declared.alloc.Global.{Global}

-- the end of the names of files that are looked for in folders
abbrev pub has_ending : List ℕ → Bool
has_ending name = ends_with eqb name (codes ".wasm")

abbrev pub IsLookedFor : String Global → Type 0
IsLookedFor file = has_ending (string_bytes file) ≡ true

-- There is one at least, and each has such a name.
pub record AreLookedFor (files : List (String Global)) : Type 0 where
  pub some : files ≡ [] → ⊥
  pub each : All IsLookedFor files

-- The files that one name stands for: the one of this name alone, or those that were looked for in a folder.
abbrev pub StandsFor : List ℕ → List (String Global) → Type 0
StandsFor name files = ((file : String Global) × (files ≡ file ∷ []) × (string_bytes file ≡ name)) ⊎ AreLookedFor files

-- The files that these names stand for, one name after another. No name is left out.
abbrev pub StandFor : List (List ℕ) → List (String Global) → Type 0
StandFor [] files = files ≡ []
StandFor (name ∷ names) files = (own : List (String Global)) × (others : List (String Global)) × (files ≡ own ++ others) × StandsFor name own × StandFor names others

-- The second list is the first with such files of a folder behind it.
abbrev pub HasMore : List (String Global) → List (String Global) → Type 0
HasMore old new = (own : List (String Global)) × (new ≡ old ++ own) × AreLookedFor own
