use Rattle.std.proofs.Common.{rules}
use Rattle.wasm_validator_handles.proofs.arrays.write_text.Goals as goal

pub returns : goal.returns
returns c = record { text = c.args.text.now; whole = search rules; copied = c.write_bytes.ensures }
