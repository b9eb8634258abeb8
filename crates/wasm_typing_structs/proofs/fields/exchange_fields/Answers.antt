use Rattle.std.proofs.Common.{[], ◌∷◌, ◌∙◌, ap}
use Rattle.wasm_typing_checks.specs.WasmTypingStacks.SeenTypeWords.{val_in}
use Rattle.wasm_typing_checks.specs.WasmSpecSteps.Machine.{push_operand}
use Rattle.wasm_typing_checks.specs.WasmValidatorResources.Answers.{world}
use Rattle.wasm_typing_checks.specs.WasmTypingStacks.BodyStacks.{state_of, below}
use Rattle.wasm_typing_checks.specs.Steps.{Took}
use Rattle.wasm_typing_checks.proofs.OperandExchanges.{are_exchanged}
use Rattle.wasm_typing_structs.specs.Fields.{unpacked_types}
use Rattle.wasm_typing_structs.proofs.fields.exchange_fields.Goals as goal

pub returns-in-Ok-clause-took : goal.returns-in-Ok-clause-took
unfolding Took
returns-in-Ok-clause-took g c =
    are_exchanged (world (g.T.WasmModuleResources.context c.args.resources.now)) (unpacked_types c.args.fields.now) (val_in c.args.given ∷ []) (below c.args.taken (state_of c.args.stacks.now)) (below c.in_ok-taken.taken (state_of c.args.stacks.now)) (state_of c.exchange.new.self)
    c.in_ok-taken.ensures.0 (c.in-Ok.ensures.ok ∙ ap (λ o. push_operand o (below c.in_ok-taken.taken (state_of c.args.stacks.now))) c.known.ensures)
