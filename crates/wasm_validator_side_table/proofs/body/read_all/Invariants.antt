use Rattle.std.proofs.Common.{◌≡◌, ◌≤◌, ◌<◌, ℕ, max, false, length}
use Rattle.wasm_readers.specs.WasmReadersBytes.Reader.{SameInput, position_in, place_of_next, rest}
use Rattle.wasm_validator_resources.specs.Answers.{world}
use Rattle.wasm_validator_side_notes.specs.WasmTypingValidator.WasmTypingStacks.BodyStacks.{Kept}
use Rattle.wasm_validator_side_notes.specs.WasmTypingValidator.BodyTyping.{typed_state}
use Rattle.wasm_validator_side_notes.specs.WasmTypingValidator.TypedInstructions.{within}
use Rattle.wasm_validator_side_notes.specs.WasmValidatorFunc.Bodies.{typed_from, instructions_from}
use Rattle.wasm_validator_side_notes.specs.TableViews.{shown}
use Rattle.wasm_validator_side_notes.specs.Tables.{Reaches}
use Rattle.wasm_validator_side_table.proofs.body.read_all.Given as goal

abbrev pub invariant-operators : goal.invariant-operators
invariant-operators g l = record {
  reaches : Reaches (world (g.T.WasmModuleResources.context l.initial.validator.resources)) (within l.initial.validator.validator (g.T.WasmModuleResources.context l.initial.validator.resources))
      (typed_state l.initial.validator.validator) (shown l.initial.table) (place_of_next l.initial.ahead) (rest l.initial.ahead)
      (typed_state l.validator.validator) (shown l.table) (max l.height (length (typed_state l.validator.validator).operands)) (place_of_next l.ahead) (rest l.ahead);
  few : l.height < 4294967295;
  kept : Kept l.initial.validator.validator.stacks l.validator.validator.stacks;
  going : l.validator.validator.failed ≡ false;
  resources : l.validator.resources ≡ l.initial.validator.resources;
  index : l.validator.index ≡ l.initial.validator.index;
  same : SameInput l.initial.ahead l.ahead;
  onward : position_in l.initial.ahead ≤ position_in l.ahead;
  so_far : (most : ℕ) × (length (rest l.ahead) ≤ most)
      × (typed_from (world (g.T.WasmModuleResources.context l.initial.validator.resources)) (within l.initial.validator.validator (g.T.WasmModuleResources.context l.initial.validator.resources)) most (typed_state l.validator.validator) (rest l.ahead)
      ≡ instructions_from (world (g.T.WasmModuleResources.context l.initial.validator.resources)) (within l.initial.validator.validator (g.T.WasmModuleResources.context l.initial.validator.resources)) (typed_state l.initial.validator.validator) (rest l.initial.ahead));
}

abbrev pub decreases-operators : goal.decreases-operators
decreases-operators g l = length (rest l.ahead)
