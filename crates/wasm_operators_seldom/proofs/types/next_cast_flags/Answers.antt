use Rattle.wasm_operators.specs.WasmOperatorsPlain.WasmReaders.WasmReadersBytes.Reader.{rest}
use Rattle.wasm_operators_seldom.proofs.ShortTypes.{of_0, of_1, of_2, of_3}
use Rattle.wasm_operators_seldom.proofs.types.next_cast_flags.Goals as goal

pub returns-in-0-clause-some : goal.returns-in-0-clause-some
returns-in-0-clause-some c = of_0 c.in_ok-next_u8.field-0 (rest c.args.reader.now) (rest c.next_u8.new.self) c.in_ok-next_u8.ensures.some c.in-0.is

pub returns-in-1-clause-some : goal.returns-in-1-clause-some
returns-in-1-clause-some c = of_1 c.in_ok-next_u8.field-0 (rest c.args.reader.now) (rest c.next_u8.new.self) c.in_ok-next_u8.ensures.some c.in-1.is

pub returns-in-2-clause-some : goal.returns-in-2-clause-some
returns-in-2-clause-some c = of_2 c.in_ok-next_u8.field-0 (rest c.args.reader.now) (rest c.next_u8.new.self) c.in_ok-next_u8.ensures.some c.in-2.is

pub returns-in-3-clause-some : goal.returns-in-3-clause-some
returns-in-3-clause-some c = of_3 c.in_ok-next_u8.field-0 (rest c.args.reader.now) (rest c.next_u8.new.self) c.in_ok-next_u8.ensures.some c.in-3.is
