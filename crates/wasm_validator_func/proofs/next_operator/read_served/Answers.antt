use Rattle.wasm_readers_bytes.specs.Reader.{rest}
use Rattle.wasm_operators.specs.SeenOperators.{operator_of}
use Rattle.wasm_typing_validator.proofs.WrittenInstructions.{is_written}
use Rattle.wasm_validator_func.proofs.next_operator.read_served.Goals as goal

pub returns-in-Ok-clause-written : goal.returns-in-Ok-clause-written
returns-in-Ok-clause-written g = is_written (rest g.args.reader.now) (operator_of g.in-Ok.op) (rest g.read_served.new.reader) g.in-Ok.ensures.ok
