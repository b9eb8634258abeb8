-- What attributes here name of the crates below.
unfoldable pub use Rattle.wasm_operators.specs.WasmOperatorsPlain.Arrays.{array_from}
unfoldable pub use Rattle.wasm_operators.specs.WasmOperatorsPlain.Calls.{call_from}
unfoldable pub use Rattle.wasm_operators.specs.WasmOperatorsPlain.Constants.{bits_32_at, bits_64_at, bits_128_at, vector_from}
unfoldable pub use Rattle.wasm_operators.specs.WasmOperatorsPlain.Memories.{memory_from, memory_size_from}
unfoldable pub use Rattle.wasm_operators.specs.WasmOperatorsPlain.Structs.{struct_from}
unfoldable pub use Rattle.wasm_operators.specs.WasmOperatorsPlain.Tables.{table_access_from, table_from}
unfoldable pub use Rattle.wasm_operators.specs.WasmOperatorsPlain.Variables.{variable_from}
unfoldable pub use Rattle.wasm_operators.specs.Control.{control_from, parametric_from}
unfoldable pub use Rattle.wasm_operators.specs.Instructions.{aggregate_from, atomics_from, bulk_from, plain_from, vectors_from}
unfoldable pub use Rattle.wasm_operators.specs.References.{branch_at, cast_from, reference_from}
