use Rattle.std.proofs.Common.{◌≡◌, ◌≤◌, ℕ, false, length}
use Rattle.wasm_readers_bytes.specs.Reader.{SameInput, position_in, rest}
use Rattle.wasm_validator_resources.specs.Answers.{world}
use Rattle.wasm_typing_validator.specs.WasmTypingStacks.BodyStacks.{Kept}
use Rattle.wasm_typing_validator.specs.BodyTyping.{typed_state}
use Rattle.wasm_typing_validator.specs.TypedInstructions.{within}
use Rattle.wasm_validator_func.specs.Bodies.{typed_from, instructions_from}
use Rattle.wasm_validator_func.proofs.bodies.read_instructions.Given as goal

abbrev pub invariant-instructions : goal.invariant-instructions
invariant-instructions g l = record {
  same : SameInput l.initial.reader l.reader;
  onward : position_in l.initial.reader ≤ position_in l.reader;
  kept : Kept l.initial.validator.stacks l.validator.stacks;
  going : l.validator.failed ≡ false;
  so_far : (most : ℕ) × (length (rest l.reader) ≤ most)
      × (typed_from (world (g.T.WasmModuleResources.context l.resources)) (within l.initial.validator (g.T.WasmModuleResources.context l.resources)) most (typed_state l.validator) (rest l.reader)
      ≡ instructions_from (world (g.T.WasmModuleResources.context l.resources)) (within l.initial.validator (g.T.WasmModuleResources.context l.resources)) (typed_state l.initial.validator) (rest l.initial.reader));
}

abbrev pub decreases-instructions : goal.decreases-instructions
decreases-instructions g l = length (rest l.reader)
