use Rattle.wasm_typing_fast.proofs.FastActions.{fast_ok}
use Rattle.wasm_typing_fast.proofs.NumberSelects.{selected}
use Rattle.wasm_typing_fast.proofs.choices.select_number.Goals as goal

pub returns-clause-took : goal.returns-clause-took
returns-clause-took g c =
    fast_ok _ _ _ _ (selected c.args.stacks.now (g.T.WasmModuleResources.context c.args.resources.now) c.args.ty _ _ _ _ c.number-3.ensures c.number-2.ensures c.number.ensures
    c.in_ok-peek-3.ensures.popped c.in_ok-peek-2.ensures.found c.in_ok-peek.ensures.found c.in_ok-peek.ensures.there c.take.ensures.state)
