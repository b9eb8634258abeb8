use Rattle.std.proofs.Common.{ap}
use Rattle.wasm_typing_stacks.specs.BodyStacks.{state_of}
use Rattle.wasm_typing_stacks.proofs.LocalFronts.{on_ok}
use Rattle.wasm_typing_stacks.proofs.OperandPushes.{exchanged}
use Rattle.wasm_typing_stacks.proofs.stacks.Stacks.exchange.Goals as goal

pub returns-clause-ok : goal.returns-clause-ok
returns-clause-ok g c =
    on_ok c.exchange.result
    (λ e. ap (λ xs. record (state_of c.args.self.now) { operands = xs }) (exchanged c.args.self.now.operands c.args.taken c.args.operand c.exchange.new.self e))
    c.exchange.ensures.ok
