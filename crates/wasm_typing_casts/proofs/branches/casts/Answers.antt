use Rattle.std.proofs.Common.{rules}
use Rattle.wasm_typing_references.specs.WasmReadersTypes.WasmReadersValues.SeenValues.{ref_of}
use Rattle.wasm_typing_casts.proofs.CastTargets.{by_descriptors, by_no_top}
use Rattle.wasm_typing_casts.proofs.branches.casts.Goals as goal

pub returns-in-Some : goal.returns-in-Some
returns-in-Some g c =
    by_descriptors c.args.stacks.now (g.T.WasmModuleResources.context c.args.resources.now) (ref_of c.args.written) (ref_of c.args.from) (ref_of c.args.to) _ _ _ c.has.result c.matches_abstract.result c.requires.named (search rules) c.if-has.true c.heap_type.ensures.value
    c.in-Some.ensures c.matches_abstract.ensures

pub returns-in-None : goal.returns-in-None
returns-in-None g c =
    by_no_top c.args.stacks.now (g.T.WasmModuleResources.context c.args.resources.now) (ref_of c.args.written) (ref_of c.args.from) (ref_of c.args.to) _ c.has.result c.requires.named (search rules) c.if-has.true c.heap_type.ensures.value c.in-None.ensures
