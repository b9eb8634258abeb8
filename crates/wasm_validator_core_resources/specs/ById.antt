-- Types of a list with ids in the place of positions in their groups.
use Rattle.std.specs.Prelude.{ℕ, ◌≡◌, ◌<◌, List, [], ◌++◌, map, length, take}
use Rattle.wasm_spec.specs.Syntax.{map_sub}
use Rattle.wasm_readers_types.specs.SeenTypes.{sub_of}
use Rattle.wasm_readers_types.specs.WasmReadersValues.declared.indices.TheConstants.{MAX_IDS}
use Rattle.wasm_readers_types.specs.WasmReadersValues.declared.indices.UnpackedIndex.{UnpackedIndex}
use Rattle.wasm_readers_types.specs.declared.types.SubType.{SubType}
use Rattle.wasm_validator_type_list.specs.Lookups.{leads_to}
use Rattle.wasm_validator_type_list.specs.DeclarationsById.{subs_by_ids}
use Rattle.wasm_validator_core_resources.specs.IndexContexts.{id_of}
use Rattle.wasm_validator_core_resources.specs.ModuleContexts.{AreByIds}

-- the id that a reference leads to, where its group's first id has this number
abbrev pub as_id : ℕ → UnpackedIndex → UnpackedIndex
as_id start r = id_of (leads_to start r)

-- it can be packed
abbrev pub Reaches : ℕ → UnpackedIndex → Type 0
Reaches start r = leads_to start r < MAX_IDS

-- These are the first so many types of the groups, in the order of their ids, with the id in the place of each position in a group.
abbrev pub AreFirstByIds : {A : Type 0} → List (List (SubType A)) → List (SubType A) → Type 0
AreFirstByIds gs types = map sub_of types ≡ map (map_sub id_of) (take (length types) (subs_by_ids 0 gs))

-- No types are the first of any groups, all types of some groups are their first ones, and groups that are added behind leave them so.
abbrev pub NoneAreFirst : Type 0 → Type 0
NoneAreFirst A = (gs : List (List (SubType A))) → AreFirstByIds gs []

abbrev pub AllAreFirst : Type 0 → Type 0
AllAreFirst A = (gs : List (List (SubType A))) (types : List (SubType A)) → AreByIds gs types → AreFirstByIds gs types

abbrev pub FirstStayFirst : Type 0 → Type 0
FirstStayFirst A = (gs hs : List (List (SubType A))) (types : List (SubType A)) → AreFirstByIds gs types → AreFirstByIds (gs ++ hs) types
