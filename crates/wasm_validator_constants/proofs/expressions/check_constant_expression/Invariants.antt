use Rattle.std.proofs.Common.{◌≡◌, ◌≤◌, ℕ, false, length}
use Rattle.wasm_readers.specs.WasmReadersBytes.Reader.{SameInput, position_in, rest}
use Rattle.wasm_validator_resources.specs.Answers.{world}
use Rattle.wasm_typing_validator.specs.WasmTypingStacks.BodyStacks.{Kept}
use Rattle.wasm_typing_validator.specs.BodyTyping.{typed_state}
use Rattle.wasm_validator_references.specs.Notes.{noting}
use Rattle.wasm_validator_constants.specs.Constants.{typed_from, constant_from, named_from, constant_names}
use Rattle.wasm_typing_validator.specs.TypedInstructions.{within}
use Rattle.wasm_validator_constants.proofs.expressions.check_constant_expression.Given as goal

abbrev pub invariant-operators : goal.invariant-operators
invariant-operators g l = record {
  same : SameInput l.initial.reader l.reader;
  onward : position_in l.initial.reader ≤ position_in l.reader;
  kept : Kept l.initial.validator.stacks l.validator.stacks;
  going : l.validator.failed ≡ false;
  so_far : (most : ℕ) × (length (rest l.reader) ≤ most)
      × (typed_from (world (g.T.WasmModuleResources.context l.resources)) (within l.initial.validator (g.T.WasmModuleResources.context l.resources)) l.imported_globals most (typed_state l.validator) (rest l.reader)
      ≡ constant_from (world (g.T.WasmModuleResources.context l.resources)) (within l.initial.validator (g.T.WasmModuleResources.context l.resources)) l.imported_globals (typed_state l.initial.validator) (rest l.initial.reader))
      × (noting g.N.NotesFunctions.note (named_from (world (g.T.WasmModuleResources.context l.resources)) (within l.initial.validator (g.T.WasmModuleResources.context l.resources)) l.imported_globals most (typed_state l.validator) (rest l.reader)) l.notes
      ≡ noting g.N.NotesFunctions.note (constant_names (world (g.T.WasmModuleResources.context l.resources)) (within l.initial.validator (g.T.WasmModuleResources.context l.resources)) l.imported_globals (typed_state l.initial.validator) (rest l.initial.reader)) l.initial.notes);
}

abbrev pub decreases-operators : goal.decreases-operators
decreases-operators g l = length (rest l.reader)
