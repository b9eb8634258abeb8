use Rattle.wasm_readers_bytes.specs.Reader.{rest}
use Rattle.wasm_typing_fast.proofs.BlockTypes.{of_nothing, of_i32, of_i64, of_f32, of_f64}
use Rattle.wasm_typing_fast.proofs.immediates.next_block.Goals as goal

pub returns-in-64-clause-ok : goal.returns-in-64-clause-ok
returns-in-64-clause-ok c = of_nothing c.in_ok-next_byte.field-0 (rest c.args.reader.now) (rest c.next_byte.new.reader) c.in_ok-next_byte.ensures.ok c.in-64.is

pub returns-in-127-clause-ok : goal.returns-in-127-clause-ok
returns-in-127-clause-ok c = of_i32 c.in_ok-next_byte.field-0 (rest c.args.reader.now) (rest c.next_byte.new.reader) c.in_ok-next_byte.ensures.ok c.in-127.is

pub returns-in-126-clause-ok : goal.returns-in-126-clause-ok
returns-in-126-clause-ok c = of_i64 c.in_ok-next_byte.field-0 (rest c.args.reader.now) (rest c.next_byte.new.reader) c.in_ok-next_byte.ensures.ok c.in-126.is

pub returns-in-125-clause-ok : goal.returns-in-125-clause-ok
returns-in-125-clause-ok c = of_f32 c.in_ok-next_byte.field-0 (rest c.args.reader.now) (rest c.next_byte.new.reader) c.in_ok-next_byte.ensures.ok c.in-125.is

pub returns-in-124-clause-ok : goal.returns-in-124-clause-ok
returns-in-124-clause-ok c = of_f64 c.in_ok-next_byte.field-0 (rest c.args.reader.now) (rest c.next_byte.new.reader) c.in_ok-next_byte.ensures.ok c.in-124.is
