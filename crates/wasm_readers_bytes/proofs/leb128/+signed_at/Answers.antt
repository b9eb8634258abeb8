use Rattle.std.proofs.Common.{arith}
use Rattle.std.proofs.lemmas.Int.{ints}
use Rattle.wasm_readers_bytes.proofs.Powers.{two_pow-seven_signed}
use Rattle.wasm_readers_bytes.proofs.leb128.+signed_at.Goals as goal

pub returns-in_ok-high-in-len1-up-clause-at_least : goal.returns-in_ok-high-in-len1-up-clause-at_least
returns-in_ok-high-in-len1-up-clause-at_least t c = omega (arith, ints, two_pow-seven_signed c.args.bits c.if-bits-gt7.true, c.in_ok-high-in-len1-up.ensures.at_least, c.join_bits.ensures)
