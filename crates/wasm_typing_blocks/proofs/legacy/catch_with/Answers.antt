use Rattle.std.proofs.Common.{◌-◌, sym, ◌∙◌, ap}
use Rattle.wasm_typing_control.specs.WasmTypingChecks.WasmTypingStacks.BodyStacks.{state_of}
use Rattle.wasm_typing_control.specs.WasmTypingChecks.WasmTypingStacks.SeenBlocks.{kind_of}
use Rattle.wasm_typing_control.specs.WasmTypingChecks.SeenTypes.{types_seen}
use Rattle.wasm_typing_control.proofs.WasmTypingChecks.ActionSteps.{took_ok}
use Rattle.wasm_typing_blocks.proofs.ElseAndCatch.{catch_is}
use Rattle.wasm_typing_blocks.proofs.legacy.catch_with.Goals as goal

pub returns-in-Ok-exchange_types-clause-took : goal.returns-in-Ok-exchange_types-clause-took
returns-in-Ok-exchange_types-clause-took g c =
    took_ok _ _ _ _
    (catch_is c.args.stacks.now (g.T.WasmModuleResources.context c.args.resources.now) (kind_of c.args.kind) (types_seen c.args.types) (types_seen c.in-Some.gives) c.in-Ok.taken (state_of c.exchange_types.new.stacks) (state_of c.begin_again.new.stacks)
    c.if-not-stacks.false c.in-Some.ensures c.in-Ok.ensures.0 (ap (λ n. n - c.in-Ok.taken) (sym c.len.ensures) ∙ c.if-len-taken.false) (sym c.may_catch.ensures ∙ c.if-not-may_catch.false)
    c.in-Ok-exchange_types.ensures.ok c.begin_again.ensures.state)
