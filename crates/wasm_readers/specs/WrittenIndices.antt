-- A type index as it is written in a module.
use Rattle.std.specs.Prelude.{ℕ}
use Rattle.wasm_readers_types.specs.WasmReadersValues.declared.indices.UnpackedIndex.{UnpackedIndex}
use Rattle.wasm_readers_types.specs.WasmReadersValues.declared.indices.UnpackedIndex.TheVariants.{Module}

abbrev pub written : ℕ → UnpackedIndex
written n = Module n
