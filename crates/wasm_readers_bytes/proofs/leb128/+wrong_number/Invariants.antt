use Rattle.wasm_readers_bytes.proofs.leb128.+wrong_number.Given as goal

abbrev pub decreases-wrong_number : goal.decreases-wrong_number
decreases-wrong_number l = l.bits
