-- Where refusals of operators point.
use Rattle.std.specs.Prelude.{◌≡◌, ◌≤◌, ◌+◌, ℕ, length, None}
use Rattle.wasm_readers.specs.WasmReadersErrors.declared.error.Refusal.{Refusal}
use Rattle.wasm_readers.specs.WasmReadersBytes.declared.binary_reader.BinaryReader.{BinaryReader}
use Rattle.wasm_readers.specs.WasmReadersBytes.Reader.{IsMalformed, original, input}

-- a refusal for the format, which no proposal lifts, at an offset from this one to the end of the reader's part
abbrev pub RefusedBetween : ℕ → BinaryReader → Refusal → Type 0
RefusedBetween offset r refusal =
    IsMalformed refusal.fault × (refusal.missing ≡ None) × (offset ≤ refusal.offset) × (refusal.offset ≤ original r + length (input r))
