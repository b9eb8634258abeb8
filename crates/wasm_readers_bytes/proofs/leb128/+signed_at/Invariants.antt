use Rattle.wasm_readers_bytes.proofs.leb128.+signed_at.Given as goal

abbrev pub decreases-signed_at : goal.decreases-signed_at
decreases-signed_at l = l.bits
