use Rattle.wasm_readers.specs.WasmReadersBytes.Reader.{rest}
use Rattle.wasm_readers_types.specs.SeenExterns.{global_of}
use Rattle.wasm_validator_segments.proofs.WrittenTypes.{global_written}
use Rattle.wasm_validator_segments.proofs.globals.check_global_type.Goals as goal

pub check_value_type-requires : goal.check_value_type-requires
check_value_type-requires g c =
    global_written (rest c.args.reader.now) (rest c.read_global_type.new.reader) (global_of c.in_ok-written.written) c.in_ok-written.ensures.ok
