use Rattle.std.proofs.Common.{◌≡◌, take, drop, map}
use Rattle.std.specs.List.{list_all}
use Rattle.wasm_spec.specs.Syntax.{map_field}
use Rattle.wasm_readers_types.specs.WasmReadersValues.SeenValues.{field_of}
use Rattle.wasm_validator_canonical.specs.Indices.{canonical_by, knows_field}
use Rattle.wasm_validator_canonical.proofs.type_canonicalizer.TypeCanonicalizer.fields.Given as goal

abbrev pub invariant-loop-ty : goal.invariant-loop-ty
invariant-loop-ty g l = record {
  mapped : map field_of l.canonical.items ≡ map (map_field (canonical_by l.self)) (map field_of (take l.ty-index l.types));
  so_far : list_all (knows_field l.self) (map field_of l.types) ≡ list_all (knows_field l.self) (map field_of (drop l.ty-index l.types));
}
