-- The same where identities are the references of types as they are read: an id of a list is itself one.
use Rattle.std.specs.Prelude.{◌≡◌, List}
use Rattle.std.specs.List.{All}
use Rattle.wasm_spec.specs.Syntax.{Val, map_val}
use Rattle.wasm_spec.specs.References.{refs_val}
use Rattle.wasm_spec.specs.MatchingTests.{IsWorld, matches_val}
pub use Rattle.wasm_validator_resources.specs.Answers.{id_of, same_index}
use Rattle.wasm_validator_resources.specs.WasmSpecRules.Contexts.{Context}
use Rattle.wasm_readers_types.specs.WasmReadersValues.Indices.{IsId}
use Rattle.wasm_readers_types.specs.WasmReadersValues.declared.indices.UnpackedIndex.{UnpackedIndex}
use Rattle.wasm_readers_types.specs.declared.types.SubType.{SubType}
use Rattle.wasm_validator_type_list.specs.Lookups.{leads_to}
use Rattle.wasm_validator_type_list.specs.GroupOrder.{AreListable}
use Rattle.wasm_validator_type_list.specs.Worlds.{ids_world}
use Rattle.wasm_validator_resources.specs.WasmSpecRules.Worlds.{world_of}
use Rattle.wasm_validator_core_resources.specs.ListContexts.{list_declares, IsSeen}

-- A context that declares what a list does has the list's tests, and they are right. Value types in which each reference is an id, known
-- or not, match in it exactly where the numbers of these ids do in the list.
pub record IsListed {A : Type 0} (gs : List (List (SubType A))) (C : Context UnpackedIndex) : Type 0 where
  pub seen : IsSeen same_index id_of gs C
  pub right : IsWorld (world_of same_index C)
  pub matches :
      (v w : Val UnpackedIndex) → All IsId (refs_val v) → All IsId (refs_val w)
      → matches_val (world_of same_index C) v w ≡ matches_val (ids_world gs) (map_val (leads_to 0) v) (map_val (leads_to 0) w)

abbrev pub ListsAreListed : Type 0 → Type 0
ListsAreListed A = (gs : List (List (SubType A))) → AreListable gs → (C : Context UnpackedIndex) → C.declares ≡ list_declares id_of gs → IsListed gs C
