use Rattle.std.proofs.Common.{◌≡◌, take, drop, map}
use Rattle.std.specs.List.{list_all}
use Rattle.wasm_readers_types.specs.WasmReadersValues.SeenValues.{index_of}
use Rattle.wasm_validator_canonical.specs.Indices.{canonical_by, is_earlier}
use Rattle.wasm_validator_canonical.proofs.type_canonicalizer.TypeCanonicalizer.supertypes.Given as goal

abbrev pub invariant-loop-index : goal.invariant-loop-index
invariant-loop-index g l = record {
  mapped : map index_of l.canonical.items ≡ map (canonical_by l.self) (map index_of (take l.index-index l.indices));
  so_far : list_all (is_earlier l.before) (map index_of l.indices) ≡ list_all (is_earlier l.before) (map index_of (drop l.index-index l.indices));
}
