use Rattle.std.proofs.Common.{◌≡◌, ◌≤◌}
use Rattle.wasm_readers.specs.WasmReadersBytes.Reader.{SameInput, position_in, rest}
use Rattle.wasm_validator_segments.specs.Elements.{behind_function}
use Rattle.wasm_validator_segments.specs.Lists.{behind_many}
use Rattle.wasm_validator_constants.specs.WasmValidatorReferences.Notes.{noting}
use Rattle.wasm_validator_segments.specs.NamedFunctions.{names_of_functions}
use Rattle.wasm_validator_segments.proofs.lists.pass_functions.Given as goal

abbrev pub invariant-items : goal.invariant-items
invariant-items g l = record {
  held : SameInput l.fn.reader l.reader;
  same : SameInput l.reader l.ahead;
  onward : position_in l.fn.reader ≤ position_in l.ahead;
  still : position_in l.fn.reader ≤ position_in l.reader;
  so_far : behind_many (behind_function (g.T.WasmModuleResources.context l.fn.resources)) l.left (rest l.ahead)
      ≡ behind_many (behind_function (g.T.WasmModuleResources.context l.fn.resources)) l.fn.count (rest l.fn.reader);
  noted : noting g.N.NotesFunctions.note (names_of_functions l.left (rest l.ahead)) l.notes ≡ noting g.N.NotesFunctions.note (names_of_functions l.fn.count (rest l.fn.reader)) l.fn.notes;
}

abbrev pub decreases-items : goal.decreases-items
decreases-items g l = l.left
