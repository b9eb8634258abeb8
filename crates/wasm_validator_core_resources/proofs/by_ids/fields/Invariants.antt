use Rattle.std.proofs.Common.{◌≡◌, map, take}
use Rattle.wasm_spec.specs.Syntax.{map_field}
use Rattle.wasm_readers_types.specs.WasmReadersValues.SeenValues.{field_of}
use Rattle.wasm_validator_core_resources.specs.ById.{as_id}
use Rattle.wasm_validator_core_resources.proofs.by_ids.fields.Given as goal

abbrev pub invariant-loop-ty : goal.invariant-loop-ty
invariant-loop-ty g l = map field_of l.copies.items ≡ map (map_field (as_id l.start)) (map field_of (take l.ty-index l.types))
