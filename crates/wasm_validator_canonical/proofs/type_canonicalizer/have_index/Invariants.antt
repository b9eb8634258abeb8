use Rattle.std.proofs.Common.{◌≡◌, drop, map}
use Rattle.std.specs.List.{list_all}
use Rattle.wasm_readers_types.specs.WasmReadersValues.SeenValues.{val_of}
use Rattle.wasm_validator_canonical.specs.Indices.{has_no_index}
use Rattle.wasm_validator_canonical.proofs.type_canonicalizer.have_index.Given as goal

abbrev pub invariant-loop-ty : goal.invariant-loop-ty
invariant-loop-ty l = list_all has_no_index (map val_of l.types) ≡ list_all has_no_index (map val_of (drop l.ty-index l.types))
