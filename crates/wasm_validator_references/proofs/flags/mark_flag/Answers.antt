use Rattle.std.proofs.Common.{arith}
use Rattle.wasm_validator_references.proofs.Marks.{mark_is_set}
use Rattle.wasm_validator_references.proofs.flags.mark_flag.Goals as goal

pub returns-then-place-len : goal.returns-then-place-len
returns-then-place-len g c = mark_is_set c.args.place c.args.flags.now.items (omega arith)
