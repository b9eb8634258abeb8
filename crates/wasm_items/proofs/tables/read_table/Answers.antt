use Rattle.wasm_readers.specs.WasmReadersBytes.Reader.{rest}
use Rattle.wasm_readers.specs.WasmReadersTypes.SeenExterns.{table_of}
use Rattle.wasm_readers.specs.WrittenIndices.{written}
use Rattle.wasm_operators.specs.Expressions.{expression_at}
use Rattle.wasm_items.specs.SeenReaders.{expression_of}
use Rattle.wasm_items.proofs.TableHeads.{table_with_init}
use Rattle.wasm_items.proofs.tables.read_table.Goals as goal

pub returns-then-head-clause-ok : goal.returns-then-head-clause-ok
returns-then-head-clause-ok c =
    let head = c.in_ok-head.head in
    table_with_init (expression_at written) (rest c.args.reader.now) (table_of head.ty) head.has_init (rest c.read_table_head.new.reader) (expression_of c.in_ok-init_expr.init_expr) (rest c.read_const_expr.new.reader) c.in_ok-head.ensures.ok c.if-head.true c.in_ok-init_expr.ensures.ok
