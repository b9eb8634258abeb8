use Rattle.std.proofs.Common.{◌≡◌, take, drop, map}
use Rattle.std.specs.List.{list_all}
use Rattle.wasm_spec.specs.Syntax.{map_val}
use Rattle.wasm_readers_types.specs.WasmReadersValues.SeenValues.{val_of}
use Rattle.wasm_validator_canonical.specs.Indices.{canonical_by, knows_val}
use Rattle.wasm_validator_canonical.proofs.type_canonicalizer.TypeCanonicalizer.values.Given as goal

abbrev pub invariant-loop-ty : goal.invariant-loop-ty
invariant-loop-ty g l = record {
  mapped : map val_of l.canonical.items ≡ map (map_val (canonical_by l.self)) (map val_of (take l.ty-index l.ty-items));
  so_far : list_all (knows_val l.self) (map val_of l.ty-items) ≡ list_all (knows_val l.self) (map val_of (drop l.ty-index l.ty-items));
}
