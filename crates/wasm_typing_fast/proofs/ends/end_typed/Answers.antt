use Rattle.std.proofs.Common.{◌-◌, refl, sym, ◌∙◌, ap}
use Rattle.wasm_typing_control.specs.WasmTypingChecks.WasmTypingStacks.BodyStacks.{state_of}
use Rattle.wasm_typing_control.specs.WasmTypingChecks.WasmTypingStacks.declared.stacks.Frame.{Frame}
use Rattle.wasm_typing_control.specs.WasmTypingChecks.SeenTypes.{types_seen}
use Rattle.wasm_typing_fast.proofs.FastActions.{fast_ok}
use Rattle.wasm_typing_fast.proofs.FrameEnds.{end_types}
use Rattle.wasm_typing_fast.proofs.ends.end_typed.Goals as goal

pub returns-in-Ok-exchange_types-clause-took : goal.returns-in-Ok-exchange_types-clause-took
returns-in-Ok-exchange_types-clause-took g c =
    fast_ok _ _ _ _
    (end_types c.args.stacks.now (g.T.WasmModuleResources.context c.args.resources.now) (state_of c.close-in-Ok-exchange_types.new.self) (types_seen c.in-Some.types) c.in-Ok.taken c.exchange_types.new.stacks.frame.init_height (state_of c.exchange_types.new.stacks)
    c.if-not-stacks.false c.in-Some.ensures (sym c.is_if.ensures ∙ c.if-is_if.false) c.in-Ok.ensures.popped.0 (ap (λ n. n - c.in-Ok.taken) (sym c.len.ensures) ∙ c.if-len-taken.false)
    c.in-Ok-exchange_types.ensures.ok (ap (λ (x : Frame). x.init_height) c.in-Ok-exchange_types.ensures.frame) c.close-in-Ok-exchange_types.ensures.state)

pub returns-then-taken-gt0-clause-took : goal.returns-then-taken-gt0-clause-took
returns-then-taken-gt0-clause-took g c =
    fast_ok _ _ _ _
    (end_types c.args.stacks.now (g.T.WasmModuleResources.context c.args.resources.now) (state_of c.close.new.self) (types_seen c.in-Some.types) c.in-Ok.taken c.args.stacks.now.frame.init_height (state_of c.args.stacks.now) c.if-not-stacks.false
    c.in-Some.ensures (sym c.is_if.ensures ∙ c.if-is_if.false) c.in-Ok.ensures.popped.0 (ap (λ n. n - c.in-Ok.taken) (sym c.len.ensures) ∙ c.if-len-taken.false) (sym (c.in-Ok.ensures.there c.if-taken-gt0.true)) refl c.close.ensures.state)
