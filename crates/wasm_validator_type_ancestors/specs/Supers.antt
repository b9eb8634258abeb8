-- Which id each type of a list extends.
use Rattle.std.specs.Prelude.{ℕ, ◌≡◌, ◌+◌, ◌<◌, List, map, slice_get, Option}
use Rattle.std.specs.Option.{option_map, option_and_then, IfSome}
use Rattle.wasm_validator_type_groups.specs.WasmSpec.Syntax.{Sub}
use Rattle.wasm_validator_type_groups.specs.WasmSpec.SupertypeOrder.{supertype_of}
use Rattle.wasm_validator_type_groups.specs.WasmReadersTypes.WasmReadersValues.SeenValues.{index_of}
use Rattle.wasm_validator_type_groups.specs.WasmReadersTypes.WasmReadersValues.declared.indices.UnpackedIndex.{UnpackedIndex}
use Rattle.wasm_validator_type_groups.specs.WasmReadersTypes.WasmReadersValues.declared.indices.UnpackedIndex.TheVariants.{Module, RecGroup, Id}
use Rattle.wasm_validator_type_groups.specs.WasmReadersTypes.declared.types.SubType.{SubType}
use Rattle.std.specs.declared.option.Option.TheVariants.{Some}

-- the number of the id that a reference in a group leads to, where the group's first id has this number; a module's index isn't in lists
abbrev pub leads_to : ℕ → UnpackedIndex → ℕ
leads_to start (Module i) = i
leads_to start (RecGroup i) = start + i
leads_to start (Id id) = id.index

module _ {A : Type 0} where
  -- the number of the id that a sub type of the group extends, if it extends one
  abbrev pub extended : ℕ → SubType A → Option ℕ
  extended start s = option_map (λ p. leads_to start (index_of p)) (slice_get s.supertype_idxs 0)

  -- the same for each sub type of a group
  abbrev pub extended_in : ℕ → List (SubType A) → List (Option ℕ)
  extended_in start g = map (extended start) g

  -- each sub type of a group with this first id extends one whose id comes before its own, if it extends one
  abbrev pub ExtendEarlier : ℕ → List (SubType A) → Type 0
  ExtendEarlier start g = (i : ℕ) (s : SubType A) → slice_get g i ≡ Some s → IfSome (extended start s) (λ n. n < start + i)

-- what D says of ids they extend is what the list says
abbrev pub Tells : List (Option ℕ) → (ℕ → Option (Sub ℕ)) → Type 0
Tells supers D = (id : ℕ) → supertype_of D id ≡ option_and_then (λ o. o) (slice_get supers id)
