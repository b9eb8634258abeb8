-- Where the refusals of opcodes stand.
use Rattle.std.specs.Prelude.{◌≡◌, ◌⊎◌}
use Rattle.wasm_operators.specs.WasmOperatorsPlain.WasmReaders.WasmReadersBytes.Reader.{RefusedFrom}
use Rattle.wasm_operators.specs.WasmOperatorsPlain.WasmReaders.WasmReadersBytes.declared.binary_reader.BinaryReader.{BinaryReader}
use Rattle.wasm_operators.specs.WasmOperatorsPlain.WasmReaders.WasmReadersErrors.declared.error.Refusal.{Refusal}

-- this refusal, or one at the next byte
abbrev pub RefusedAround : BinaryReader → Refusal → Refusal → Type 0
RefusedAround r given found = (found ≡ given) ⊎ RefusedFrom r found
