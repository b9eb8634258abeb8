use Rattle.wasm_validator_tables.specs.FunctionTables.{found_seen, found_at}
use Rattle.wasm_validator_tables.proofs.BodySearch.{table_in, tells_in}
use Rattle.wasm_validator_tables.proofs.function.make_table.Goals as goal

pub returns-in-Ok-make_for-clause-made : goal.returns-in-Ok-make_for-clause-made
returns-in-Ok-make_for-clause-made g c =
    table_in g.row.A.Denot c.args.bytes.now c.args.features c.args.function (found_seen c.in-Ok.found) (found_at c.in-Ok.found) c.make_for.new.table c.in-Ok.ensures.found c.in-Ok-make_for.ensures.made

pub returns-in-Err-make_for-clause-decides : goal.returns-in-Err-make_for-clause-decides
returns-in-Err-make_for-clause-decides g c =
    tells_in g.row.A.Denot c.args.bytes.now c.args.features c.args.function (found_seen c.in-Ok.found) (found_at c.in-Ok.found) c.in-Err-make_for.why c.in-Ok.ensures.found c.in-Err-make_for.ensures.decides
