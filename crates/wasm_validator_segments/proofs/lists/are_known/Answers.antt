use Rattle.std.proofs.Common.{◌∙◌, sym, ap, is_some, slice_get, arith}
use Rattle.wasm_validator_segments.proofs.FunctionBytes.{known, name_themselves}
use Rattle.wasm_validator_segments.proofs.lists.are_known.Goals as goal

pub returns-clause-there : goal.returns-clause-there
returns-clause-there g c = λ is.
    known (g.T.WasmModuleResources.context c.args.resources.now) c.greatest-most.result c.args.bytes.now (omega arith)
    (ap (λ n. is_some (slice_get (g.T.WasmModuleResources.context c.args.resources.now).functions n)) (sym c.from.ensures)
    ∙ ap is_some (sym c.type_index_of_function.ensures) ∙ sym c.is_some.ensures ∙ is)
    c.greatest-most.ensures

pub returns-clause-named : goal.returns-clause-named
returns-clause-named g c = λ is. name_themselves (g.T.WasmModuleResources.context c.args.resources.now) c.greatest-most.result c.args.bytes.now (omega arith) c.greatest-most.ensures
