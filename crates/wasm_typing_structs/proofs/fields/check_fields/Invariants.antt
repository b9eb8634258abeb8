use Rattle.std.proofs.Common.{◌≡◌, ◌-◌, ◌≤◌, Some, length, drop}
use Rattle.wasm_typing_checks.specs.WasmSpecSteps.Machine.{pop_vals}
use Rattle.wasm_typing_checks.specs.WasmValidatorResources.Answers.{world}
use Rattle.wasm_typing_checks.specs.WasmTypingStacks.BodyStacks.{state_of, below}
use Rattle.wasm_typing_structs.specs.Fields.{unpacked_types}
use Rattle.wasm_typing_structs.proofs.fields.check_fields.Given as goal

abbrev pub invariant-filling : goal.invariant-filling
invariant-filling g l = record {
  so_far : pop_vals (world (g.T.WasmModuleResources.context l.resources)) (unpacked_types (drop (length l.fields - l.i) l.fields)) (below l.initial.taken (state_of l.stacks)) ≡ Some (below l.taken (state_of l.stacks));
  there : l.taken ≤ length (state_of l.stacks).operands;
}
