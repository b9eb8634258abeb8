use Rattle.wasm_readers_bytes.proofs.Texts.{past_is_empty}
use Rattle.wasm_readers_bytes.proofs.binary_reader.BinaryReader.is_empty.Goals as goal

pub returns : goal.returns
returns c = past_is_empty c.args.self.now.position c.args.self.now.buffer.now
