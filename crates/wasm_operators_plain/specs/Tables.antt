-- Core Specification 3.0, Binary Format, Instructions, Table Instructions.
use Rattle.std.specs.Prelude.{ℕ, ◌==◌, if◌then◌else◌, List, Option, None}
use Rattle.wasm_operators_plain.specs.Immediates.{one_index, two_indices}
use Rattle.wasm_operators_plain.specs.declared.tables.TableOperator.{TableOperator}
use Rattle.wasm_operators_plain.specs.declared.tables.TableOperator.TheVariants.{TableGet, TableSet, TableInit, ElemDrop, TableCopy, TableGrow, TableSize, TableFill}

-- table instructions of one byte
unfoldable pub table_access_from : ℕ → List ℕ → Option (TableOperator × List ℕ)
table_access_from b bytes =
    if b == 0x25 then one_index TableGet bytes
    else (if b == 0x26 then one_index TableSet bytes
    else None)

-- table instructions by their number behind the prefix fc
unfoldable pub table_from : ℕ → List ℕ → Option (TableOperator × List ℕ)
table_from n bytes =
    if n == 12 then two_indices TableInit bytes
    else (if n == 13 then one_index ElemDrop bytes
    else (if n == 14 then two_indices TableCopy bytes
    else (if n == 15 then one_index TableGrow bytes
    else (if n == 16 then one_index TableSize bytes
    else (if n == 17 then one_index TableFill bytes
    else None)))))
