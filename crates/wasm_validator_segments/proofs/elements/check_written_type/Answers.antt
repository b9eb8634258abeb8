use Rattle.wasm_readers.specs.WasmReadersBytes.Reader.{rest}
use Rattle.wasm_readers_types.specs.WasmReadersValues.SeenValues.{ref_of}
use Rattle.wasm_validator_segments.proofs.WrittenTypes.{type_written}
use Rattle.wasm_validator_segments.proofs.elements.check_written_type.Goals as goal

pub check_value_type-requires : goal.check_value_type-requires
check_value_type-requires g c =
    type_written c.args.flag (rest c.args.reader.now) (rest c.read_written_type.new.reader) (ref_of c.in_ok-read_written_type.field-0) c.in_ok-read_written_type.ensures.ok
