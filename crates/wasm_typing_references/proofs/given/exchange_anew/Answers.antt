use Rattle.std.proofs.Common.{◌-◌, arith, refl, ◌∙◌, ap}
use Rattle.wasm_typing_control.specs.WasmTypingChecks.WasmTypingStacks.BodyStacks.{state_of}
use Rattle.wasm_typing_control.specs.WasmTypingChecks.WasmTypingStacks.SeenOperands.{operand_of}
use Rattle.wasm_typing_control.specs.WasmTypingChecks.SeenTypes.{types_seen}
use Rattle.wasm_typing_references.proofs.OperandsOnTop.{given_above, given_with, given_within, taken_back}
use Rattle.wasm_typing_references.proofs.given.exchange_anew.Goals as goal

pub overflow_sub-given : goal.overflow_sub-given
overflow_sub-given g c =
    let h =
    given_above (types_seen c.args.types) (operand_of c.args.top) (state_of c.args.stacks.now) (state_of c.exchange_types.new.stacks) (state_of c.push.new.self) c.args.stacks.now.operands c.push.new.self.operands c.push.new.self.operands
    c.len-before.result refl c.in_ok-exchange_types.ensures.ok c.in-Ok.ensures.ok refl c.len-before.ensures in
    omega arith

pub sink-requires : goal.sink-requires
sink-requires g c =
    given_within (types_seen c.args.types) (operand_of c.args.top) (state_of c.args.stacks.now) (state_of c.exchange_types.new.stacks) (state_of c.push.new.self) c.args.stacks.now.operands c.push.new.self.operands c.push.new.self.operands
    c.len-before.result (c.len.result - c.len-before.result) c.args.taken refl c.in_ok-exchange_types.ensures.ok c.in-Ok.ensures.ok refl c.len-before.ensures (ap (λ n. n - c.len-before.result) c.len.ensures) c.requires

pub returns-in-Ok-clause-ok : goal.returns-in-Ok-clause-ok
returns-in-Ok-clause-ok g c =
    given_with (types_seen c.args.types) (operand_of c.args.top) (state_of c.args.stacks.now) (state_of c.exchange_types.new.stacks) (state_of c.push.new.self) c.args.stacks.now.operands c.push.new.self.operands c.sink.new.self
    c.len-before.result (c.len.result - c.len-before.result) c.args.taken refl c.in_ok-exchange_types.ensures.ok c.in-Ok.ensures.ok refl c.len-before.ensures (ap (λ n. n - c.len-before.result) c.len.ensures) c.sink.ensures

pub returns-in-Err-clause-err : goal.returns-in-Err-clause-err
returns-in-Err-clause-err g c =
    taken_back (types_seen c.args.types) (operand_of c.args.top) (state_of c.args.stacks.now) (state_of c.push.new.self) (state_of c.push.new.self) c.args.stacks.now.operands c.push.new.self.operands c.truncate.new.self
    c.len-before.result refl (c.in-Err.ensures.err ∙ c.in_ok-exchange_types.ensures.ok) refl c.len-before.ensures c.truncate.ensures
