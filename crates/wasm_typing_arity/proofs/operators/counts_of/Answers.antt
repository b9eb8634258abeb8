use Rattle.std.proofs.Common.{sym, ap, ◌∙◌}
use Rattle.wasm_operators.specs.declared.operators.Operator.{Operator}
use Rattle.wasm_typing_arity.specs.Arities.{arity, operator_shape}
use Rattle.wasm_typing_arity.proofs.operators.counts_of.Goals as goal

pub returns-in-Wide : goal.returns-in-Wide
returns-in-Wide g c =
    let M = g.M.ModuleArity.asked c.args.resources.now in
    c.wide_arity.ensures M ∙ ap (λ (op : Operator). arity M (operator_shape op)) (sym c.in-Wide.is)
