use Rattle.std.proofs.Common.{◌≡◌, ◌≤◌, false, length}
use Rattle.wasm_readers_bytes.specs.Reader.{SameInput, position_in, rest}
use Rattle.wasm_validator_resources.specs.Answers.{world}
use Rattle.wasm_typing_validator.specs.WasmTypingStacks.BodyStacks.{Kept}
use Rattle.wasm_typing_validator.specs.BodyTyping.{typed_state}
use Rattle.wasm_typing_validator.specs.TypedInstructions.{within}
use Rattle.wasm_validator_func.specs.Bodies.{FindsTheSame}
use Rattle.wasm_validator_func.proofs.bodies.read_fast.Given as goal

abbrev pub invariant-operators : goal.invariant-operators
invariant-operators g l = record {
  stays : l.reader ≡ l.initial.reader;
  same : SameInput l.initial.reader l.ahead;
  onward : position_in l.initial.reader ≤ position_in l.ahead;
  kept : Kept l.initial.validator.stacks l.validator.stacks;
  going : l.validator.failed ≡ false;
  leads : FindsTheSame (world (g.T.WasmModuleResources.context l.resources)) (within l.initial.validator (g.T.WasmModuleResources.context l.resources)) (typed_state l.initial.validator) (rest l.initial.reader)
      (typed_state l.validator) (rest l.ahead);
}

abbrev pub decreases-operators : goal.decreases-operators
decreases-operators g l = length (rest l.ahead)
