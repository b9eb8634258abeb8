use Rattle.std.proofs.Common.{◌≡◌, map, take}
use Rattle.wasm_readers_types.specs.WasmReadersValues.SeenValues.{index_of}
use Rattle.wasm_validator_core_resources.specs.ById.{as_id}
use Rattle.wasm_validator_core_resources.proofs.by_ids.supertypes.Given as goal

abbrev pub invariant-loop-index : goal.invariant-loop-index
invariant-loop-index g l = map index_of l.copies.items ≡ map (as_id l.start) (map index_of (take l.index-index l.indices))
