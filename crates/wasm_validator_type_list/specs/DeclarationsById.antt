-- What the ids of a list declare, over ids.
use Rattle.std.specs.Prelude.{ℕ, ◌+◌, List, [], ◌∷◌, ◌++◌, map, length, slice_get, Option}
use Rattle.wasm_readers_errors.specs.WasmSpec.Syntax.{Sub, map_sub}
use Rattle.wasm_readers_types.specs.declared.types.SubType.{SubType}
use Rattle.wasm_readers_types.specs.SeenTypes.{sub_of}
use Rattle.wasm_validator_type_list.specs.Lookups.{leads_to}

module _ {A : Type 0} where
  -- what a sub type says with each reference as the number of the id that it leads to, where its group's first id has this number
  abbrev pub sub_by_ids : ℕ → SubType A → Sub ℕ
  sub_by_ids start s = map_sub (leads_to start) (sub_of s)

  -- the same of all types of groups behind so many types, in the order of their ids
  abbrev pub subs_by_ids : ℕ → List (List (SubType A)) → List (Sub ℕ)
  subs_by_ids start [] = []
  subs_by_ids start (g ∷ gs) = map (sub_by_ids start) g ++ subs_by_ids (start + length g) gs

  -- what the type with this id declares
  unfoldable pub declares : List (List (SubType A)) → ℕ → Option (Sub ℕ)
  declares gs id = slice_get (subs_by_ids 0 gs) id
