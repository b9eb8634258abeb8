use Rattle.wasm_typing_checks.proofs.OperandMatches.{one_type}
use Rattle.wasm_typing_checks.proofs.lists.match_next.Goals as goal

pub returns-then-is_same_type-3 : goal.returns-then-is_same_type-3
returns-then-is_same_type-3 g c = one_type (g.T.WasmModuleResources.context c.args.resources.now) _ _ (c.is_same_type-2.ensures c.if-is_same_type-3.true)
