use Rattle.std.proofs.Common.{◌-◌, sym, ◌∙◌, ap}
use Rattle.wasm_typing_numbers.specs.WasmTypingStacks.BodyStacks.{state_of}
use Rattle.wasm_typing_numbers.specs.WasmTypingStacks.declared.stacks.Frame.{Frame}
use Rattle.wasm_typing_numbers.specs.WasmTypingChecks.SeenTypes.{types_seen}
use Rattle.wasm_typing_numbers.proofs.WasmTypingChecks.ActionSteps.{took_ok}
use Rattle.wasm_typing_control.proofs.FrameEnds.{end_is}
use Rattle.wasm_typing_control.proofs.ends.end.Goals as goal

pub returns-in-Ok-exchange_types-clause-took : goal.returns-in-Ok-exchange_types-clause-took
returns-in-Ok-exchange_types-clause-took g c =
    took_ok _ _ _ _
    (end_is c.args.stacks.now (g.T.WasmModuleResources.context c.args.resources.now) (types_seen c.in-Some.types) c.in-Ok.taken c.exchange_types.new.stacks.frame.init_height c.may_end.result (state_of c.exchange_types.new.stacks) (state_of c.close.new.self)
    c.if-not-stacks.false c.in-Some.ensures c.in-Ok.ensures.0 (ap (λ n. n - c.in-Ok.taken) (sym c.len.ensures) ∙ c.if-len-taken.false) c.may_end.ensures c.if-not-may_end.false
    c.in-Ok-exchange_types.ensures.ok (ap (λ (x : Frame). x.init_height) c.in-Ok-exchange_types.ensures.frame) c.close.ensures.state)
