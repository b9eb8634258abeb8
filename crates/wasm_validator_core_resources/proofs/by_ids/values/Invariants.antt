use Rattle.std.proofs.Common.{◌≡◌, map, take}
use Rattle.wasm_spec.specs.Syntax.{map_val}
use Rattle.wasm_readers_types.specs.WasmReadersValues.SeenValues.{val_of}
use Rattle.wasm_validator_core_resources.specs.ById.{as_id}
use Rattle.wasm_validator_core_resources.proofs.by_ids.values.Given as goal

abbrev pub invariant-loop-ty : goal.invariant-loop-ty
invariant-loop-ty g l = map val_of l.copies.items ≡ map (map_val (as_id l.start)) (map val_of (take l.ty-index l.types))
