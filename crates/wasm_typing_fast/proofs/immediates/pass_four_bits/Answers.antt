use Rattle.wasm_typing_fast.proofs.NumberBytes.{four_high, four_middle, four_more}
use Rattle.wasm_typing_fast.proofs.immediates.pass_four_bits.Goals as goal

pub returns-then-byte-lt120-clause-none : goal.returns-then-byte-lt120-clause-none
returns-then-byte-lt120-clause-none c = four_middle _ _ _ c.in_ok-byte.ensures.ok c.if-byte-lt8.false c.if-byte-lt120.true

pub returns-then-byte-lt128-clause-ok : goal.returns-then-byte-lt128-clause-ok
returns-then-byte-lt128-clause-ok c =
    four_high _ _ _ c.in_ok-byte.ensures.ok c.if-byte-lt120.false c.if-byte-lt128.true

pub returns-clause-none : goal.returns-clause-none
returns-clause-none c = four_more _ _ _ c.in_ok-byte.ensures.ok c.if-byte-lt128.false
