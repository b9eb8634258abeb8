use Rattle.std.proofs.Common.{◌≡◌, ◌≤◌, Some, [], ◌∷◌, length}
use Rattle.wasm_typing_checks.specs.WasmTypingStacks.SeenTypeWords.{val_in}
use Rattle.wasm_typing_checks.specs.WasmSpecSteps.Machine.{pop_vals}
use Rattle.wasm_typing_checks.specs.WasmSpecSteps.Meanings.{copies}
use Rattle.wasm_typing_checks.specs.WasmValidatorResources.Answers.{world}
use Rattle.wasm_typing_checks.specs.WasmTypingStacks.BodyStacks.{state_of, below}
use Rattle.wasm_typing_arrays.proofs.taken.check_repeated.Given as goal

abbrev pub invariant-repeating : goal.invariant-repeating
invariant-repeating g l = record {
  so_far : pop_vals (world (g.T.WasmModuleResources.context l.resources)) (copies l.i (val_in l.ty ∷ [])) (state_of l.stacks) ≡ Some (below l.taken (state_of l.stacks));
  there : l.taken ≤ length (state_of l.stacks).operands;
}
