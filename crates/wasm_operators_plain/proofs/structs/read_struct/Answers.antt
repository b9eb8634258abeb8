use Rattle.wasm_readers.specs.WasmReadersBytes.Reader.{rest}
use Rattle.wasm_operators_plain.specs.Structs.{struct_from}
use Rattle.wasm_operators_plain.specs.Indices.{struct_indices, struct_with}
use Rattle.wasm_operators_plain.proofs.ByIndices.{read_there, read_short, read_nothing, struct-by_indices}
use Rattle.wasm_operators_plain.proofs.structs.read_struct.Goals as goal

pub returns-in_err-first-in-Some-clause-err : goal.returns-in_err-first-in-Some-clause-err
returns-in_err-first-in-Some-clause-err c =
    read_short c.from_residual.result (struct_from c.args.code (rest c.args.reader.now)) (struct_indices c.args.code) (struct_with c.args.code) (rest c.args.reader.now) c.in-Some.count
    (struct-by_indices c.args.code (rest c.args.reader.now)) c.in-Some.ensures c.in_err-first-in-Some.ensures.err

pub returns-in_ok-first-in-Some-clause-ok : goal.returns-in_ok-first-in-Some-clause-ok
returns-in_ok-first-in-Some-clause-ok c =
    read_there (struct_from c.args.code (rest c.args.reader.now)) (struct_indices c.args.code) (struct_with c.args.code) (rest c.args.reader.now) c.in-Some.count
    c.in_ok-first-in-Some.first c.in_ok-first-in-Some.second (rest c.read_indices.new.reader) c.struct_with.result
    (struct-by_indices c.args.code (rest c.args.reader.now)) c.in-Some.ensures c.in_ok-first-in-Some.ensures.ok c.struct_with.ensures

pub returns-in-None-clause-err : goal.returns-in-None-clause-err
returns-in-None-clause-err c =
    read_nothing (struct_from c.args.code (rest c.args.reader.now)) (struct_indices c.args.code) (struct_with c.args.code) (rest c.args.reader.now)
    (struct-by_indices c.args.code (rest c.args.reader.now)) c.in-None.ensures
