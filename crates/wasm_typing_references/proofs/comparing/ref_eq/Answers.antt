use Rattle.std.proofs.Common.{rules, ◌∙◌, ap}
use Rattle.wasm_typing_control.specs.WasmTypingChecks.WasmSpecSteps.Machine.{push_operand}
use Rattle.wasm_typing_control.specs.WasmTypingChecks.WasmTypingStacks.BodyStacks.{state_of, below}
use Rattle.wasm_typing_control.proofs.WasmTypingChecks.ActionSteps.{needed, has_held, took_ok}
use Rattle.wasm_typing_references.proofs.ReferenceComparisons.{compared}
use Rattle.wasm_typing_references.proofs.comparing.ref_eq.Goals as goal

pub returns-in-Ok-exchange-clause-took : goal.returns-in-Ok-exchange-clause-took
returns-in-Ok-exchange-clause-took g c =
    needed _ _ _ _ _ _ _ (has_held _ _ _ _ (search rules))
    (took_ok _ _ _ _
    (compared _ _ _ _ _ _ _ _ c.in-Ok.ensures.0 c.in-Ok-look_below.ensures.0 c.agree.ensures c.if-not-agree.false
    (c.in-Ok-exchange.ensures.ok ∙ ap (λ o. push_operand o (below c.in-Ok-look_below.looked.1 (state_of c.args.stacks.now))) c.number.ensures)))
