use Rattle.std.proofs.Common.{◌-◌, sym, ◌∙◌, ap}
use Rattle.wasm_typing_control.specs.WasmTypingChecks.WasmTypingStacks.BodyStacks.{state_of}
use Rattle.wasm_typing_control.specs.WasmTypingChecks.SeenTypes.{types_seen}
use Rattle.wasm_typing_control.proofs.WasmTypingChecks.ActionSteps.{took_ok}
use Rattle.wasm_typing_blocks.proofs.ElseAndCatch.{turn_is}
use Rattle.wasm_typing_blocks.proofs.alternatives.turn_to_else.Goals as goal

pub returns-in-Ok-exchange_types-clause-took : goal.returns-in-Ok-exchange_types-clause-took
returns-in-Ok-exchange_types-clause-took g c =
    took_ok _ _ _ _
    (turn_is c.args.stacks.now (g.T.WasmModuleResources.context c.args.resources.now) (types_seen c.in-Some.gives) (types_seen c.in-Some-block_takes.takes) c.in-Ok.taken (state_of c.exchange_types.new.stacks) (state_of c.begin_again.new.stacks)
    c.if-not-stacks.false c.in-Some.ensures c.in-Some-block_takes.ensures c.in-Ok.ensures.0 (ap (λ n. n - c.in-Ok.taken) (sym c.len.ensures) ∙ c.if-len-taken.false) (sym c.is_if.ensures ∙ c.if-not-is_if.false)
    c.in-Ok-exchange_types.ensures.ok c.begin_again.ensures.state)
