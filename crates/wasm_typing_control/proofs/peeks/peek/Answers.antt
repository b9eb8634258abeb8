use Rattle.std.proofs.Common.{arith, refl, sym}
use Rattle.wasm_typing_numbers.specs.WasmTypingChecks.WasmTypingStacks.SeenTypeWords.{val_in}
use Rattle.wasm_typing_control.proofs.OperandPeeks.{peeked, found_there}
use Rattle.wasm_typing_control.proofs.peeks.peek.Goals as goal

pub returns-clause-popped : goal.returns-clause-popped
returns-clause-popped g c =
    peeked c.args.stacks.now (g.T.WasmModuleResources.context c.args._resources.now) c.args.depth c.in-Some.operand (val_in c.args.ty) c.if-not-stacks.false (sym c.in-Some.ensures) (c.if-not-is.ensures.known refl) (omega (arith, c.len-count.ensures, c.if-count-height.false, c.if-count-height-2.false))

pub returns-clause-found : goal.returns-clause-found
returns-clause-found g c =
    found_there c.args.stacks.now (g.T.WasmModuleResources.context c.args._resources.now) c.args.depth c.in-Some.operand (val_in c.args.ty) c.if-not-stacks.false (sym c.in-Some.ensures) (c.if-not-is.ensures.known refl) (omega (arith, c.len-count.ensures, c.if-count-height.false, c.if-count-height-2.false))
