use Rattle.wasm_typing_control.proofs.LocalOperators.{dropped}
use Rattle.wasm_typing_fast.proofs.FastActions.{fast_ok}
use Rattle.wasm_typing_fast.proofs.choices.drop_one.Goals as goal

pub returns-in-Some-clause-took : goal.returns-in-Some-clause-took
returns-in-Some-clause-took g c =
    fast_ok _ _ _ _ (dropped c.args.stacks.now (g.T.WasmModuleResources.context c.args._resources.now) _ _ _ c.in-Some.ensures.0 c.take.ensures.state)
