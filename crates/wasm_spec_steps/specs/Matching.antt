-- Matching of lists of value types and of storage types, as tests over any kind of identity.
-- Core Specification 3.0, Validation, Matching (Result Types, Field Types).
use Rattle.std.specs.Prelude.{Bool, true, false, ◌&&◌, ◌||◌, List, [], ◌∷◌}
use Rattle.wasm_spec_rules.specs.WasmSpec.Syntax.{Val, Storage, i8, i16, unpacked}
use Rattle.wasm_spec_rules.specs.WasmSpec.MatchingTests.{World, matches_val}

module _ {R : Type 0} (W : World R) where
  -- place by place, equally many
  abbrev pub matches_vals : List (Val R) → List (Val R) → Bool
  matches_vals [] [] = true
  matches_vals (v ∷ vs) (w ∷ ws) = matches_val W v w && matches_vals vs ws
  matches_vals _ _ = false

  -- one of these types, and each of a list such a one
  abbrev pub matches_some : List (Val R) → Val R → Bool
  matches_some [] v = false
  matches_some (w ∷ ws) v = matches_val W v w || matches_some ws v

  abbrev pub match_some : List (Val R) → List (Val R) → Bool
  match_some ws [] = true
  match_some ws (v ∷ vs) = matches_some ws v && match_some ws vs

  abbrev pub matches_storage : Storage R → Storage R → Bool
  matches_storage i8 i8 = true
  matches_storage i16 i16 = true
  matches_storage (unpacked v) (unpacked w) = matches_val W v w
  matches_storage _ _ = false
