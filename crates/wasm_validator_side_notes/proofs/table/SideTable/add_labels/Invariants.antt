use Rattle.std.proofs.Common.{ℕ, List}
use Rattle.wasm_readers.specs.WasmReadersBytes.Reader.{SameInput, rest}
use Rattle.wasm_validator_func.specs.WasmTypingValidator.BodyTyping.{typed_state}
use Rattle.wasm_spec_side_tables.specs.OnePassTables.{Built}
use Rattle.wasm_validator_side_notes.specs.TableViews.{shown}
use Rattle.wasm_validator_side_notes.specs.LabelEntries.{AreBranchedTo}
use Rattle.wasm_validator_side_notes.proofs.table.SideTable.add_labels.Given as goal

abbrev pub invariant-labels : goal.invariant-labels
invariant-labels g l = record {
  same : SameInput l.initial.ahead l.ahead;
  so_far : (more : List ℕ) (U : Built) → AreBranchedTo (g.T.WasmModuleResources.context l.validator.resources) (typed_state l.validator.validator) l.at l.count l.left (rest l.ahead) more (shown l.self) U
      → AreBranchedTo (g.T.WasmModuleResources.context l.validator.resources) (typed_state l.validator.validator) l.at l.count l.initial.left (rest l.initial.ahead) more (shown l.initial.self) U;
}

abbrev pub decreases-labels : goal.decreases-labels
decreases-labels g l = l.left
