-- What contracts see of flags and limits.
use Rattle.wasm_readers_bytes.specs.WasmSpec.BinaryTypes as binary
use Rattle.wasm_readers.specs.declared.externs.Limits.{Limits}

abbrev pub limits_of : Limits → binary.Limits
limits_of l = record { flags = l.flags; minimum = l.minimum; maximum = l.maximum }
