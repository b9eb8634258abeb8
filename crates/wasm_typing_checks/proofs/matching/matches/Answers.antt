use Rattle.std.proofs.Common.{◌∙◌}
use Rattle.wasm_typing_stacks.specs.SeenTypeWords.{val_in}
use Rattle.wasm_typing_stacks.specs.SeenOperands.{operand_of}
use Rattle.wasm_typing_checks.proofs.OperandMatches.{known_matches}
use Rattle.wasm_typing_checks.proofs.matching.matches.Goals as goal

pub returns-then-is : goal.returns-then-is
returns-then-is g c =
    c.if-is.true
    ∙ known_matches (g.T.WasmModuleResources.context c.args.resources.now) (operand_of c.args.operand) (val_in c.args.ty) (c.is.ensures.known c.if-is.true)
