use Rattle.std.proofs.Common.{[], ◌∷◌, ◌∙◌, ap}
use Rattle.wasm_typing_checks.specs.WasmTypingStacks.SeenTypeWords.{val_in}
use Rattle.wasm_typing_checks.specs.WasmSpecSteps.Machine.{push_operand}
use Rattle.wasm_typing_checks.specs.WasmSpecSteps.Meanings.{copies}
use Rattle.wasm_typing_checks.specs.WasmValidatorResources.Answers.{world}
use Rattle.wasm_typing_checks.specs.WasmTypingStacks.BodyStacks.{state_of, below}
use Rattle.wasm_typing_checks.specs.Steps.{Took}
use Rattle.wasm_typing_checks.proofs.OperandExchanges.{are_exchanged}
use Rattle.wasm_typing_arrays.proofs.taken.exchange_repeated.Goals as goal

pub returns-in-Ok-exchange-clause-took : goal.returns-in-Ok-exchange-clause-took
unfolding Took
returns-in-Ok-exchange-clause-took g c =
    are_exchanged (world (g.T.WasmModuleResources.context c.args.resources.now)) (copies c.args.count (val_in c.args.ty ∷ []))
    (val_in c.args.given ∷ []) (state_of c.args.stacks.now) (below c.in-Ok.taken (state_of c.args.stacks.now)) (state_of c.exchange.new.self)
    c.in-Ok.ensures.0 (c.in-Ok-exchange.ensures.ok ∙ ap (λ o. push_operand o (below c.in-Ok.taken (state_of c.args.stacks.now))) c.known.ensures)
