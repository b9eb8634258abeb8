use Rattle.wasm_readers.proofs.Tables.{heads_begin_tables}
use Rattle.wasm_readers.proofs.table_heads_begin_tables.Goals as goal

pub returns : goal.returns
returns c = heads_begin_tables
