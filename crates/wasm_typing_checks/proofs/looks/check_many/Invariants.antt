use Rattle.std.proofs.Common.{◌≡◌, ◌-◌, ◌≤◌, Some, true, length, drop, map}
use Rattle.wasm_validator_resources.specs.WasmReadersTypes.WasmReadersValues.SeenValues.{val_of}
use Rattle.wasm_typing_stacks.specs.WasmSpecSteps.Machine.{matches_operand, pop_vals}
use Rattle.wasm_typing_stacks.specs.SeenOperands.{operand_of}
use Rattle.wasm_typing_stacks.specs.SeenTypeWords.{val_in}
use Rattle.wasm_validator_resources.specs.Answers.{world}
use Rattle.wasm_typing_stacks.specs.BodyStacks.{state_of, below}
use Rattle.wasm_typing_checks.proofs.looks.check_many.Given as goal

abbrev pub invariant-checking : goal.invariant-checking
invariant-checking g l = record {
  so_far : pop_vals (world (g.T.WasmModuleResources.context l.resources)) (map val_of (drop (length l.types - l.i) l.types)) (below l.initial.taken (state_of l.stacks)) ≡ Some (below l.taken (state_of l.stacks));
  there : l.taken ≤ length (state_of l.stacks).operands;
  matched : matches_operand (world (g.T.WasmModuleResources.context l.resources)) (operand_of l.last.operand) (val_in l.last.ty) ≡ true;
}
