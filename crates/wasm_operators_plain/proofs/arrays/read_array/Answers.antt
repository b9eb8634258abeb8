use Rattle.wasm_readers.specs.WasmReadersBytes.Reader.{rest}
use Rattle.wasm_operators_plain.specs.Arrays.{array_from}
use Rattle.wasm_operators_plain.specs.Indices.{array_indices, array_with}
use Rattle.wasm_operators_plain.proofs.ByIndices.{read_there, read_short, read_nothing, array-by_indices}
use Rattle.wasm_operators_plain.proofs.arrays.read_array.Goals as goal

pub returns-in_err-first-in-Some-clause-err : goal.returns-in_err-first-in-Some-clause-err
returns-in_err-first-in-Some-clause-err c =
    read_short c.from_residual.result (array_from c.args.code (rest c.args.reader.now)) (array_indices c.args.code) (array_with c.args.code) (rest c.args.reader.now) c.in-Some.count
    (array-by_indices c.args.code (rest c.args.reader.now)) c.in-Some.ensures c.in_err-first-in-Some.ensures.err

pub returns-in_ok-first-in-Some-clause-ok : goal.returns-in_ok-first-in-Some-clause-ok
returns-in_ok-first-in-Some-clause-ok c =
    read_there (array_from c.args.code (rest c.args.reader.now)) (array_indices c.args.code) (array_with c.args.code) (rest c.args.reader.now) c.in-Some.count
    c.in_ok-first-in-Some.first c.in_ok-first-in-Some.second (rest c.read_indices.new.reader) c.array_with.result
    (array-by_indices c.args.code (rest c.args.reader.now)) c.in-Some.ensures c.in_ok-first-in-Some.ensures.ok c.array_with.ensures

pub returns-in-None-clause-err : goal.returns-in-None-clause-err
returns-in-None-clause-err c =
    read_nothing (array_from c.args.code (rest c.args.reader.now)) (array_indices c.args.code) (array_with c.args.code) (rest c.args.reader.now)
    (array-by_indices c.args.code (rest c.args.reader.now)) c.in-None.ensures
