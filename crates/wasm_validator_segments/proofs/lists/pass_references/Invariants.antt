use Rattle.std.proofs.Common.{◌≡◌, ◌≤◌}
use Rattle.wasm_spec_rules.specs.FeatureFlags.{features_of}
use Rattle.wasm_readers_types.specs.WasmReadersValues.SeenValues.{val_of}
use Rattle.wasm_readers.specs.WasmReadersBytes.Reader.{SameInput, position_in, rest}
use Rattle.wasm_validator_constants.specs.Items.{KnowsType, KnowsNull}
use Rattle.wasm_validator_segments.specs.Expressions.{behind_expression}
use Rattle.wasm_validator_segments.specs.Lists.{behind_many}
use Rattle.wasm_validator_constants.specs.WasmValidatorReferences.Notes.{noting}
use Rattle.wasm_validator_segments.specs.NamedFunctions.{names_of_expressions}
use Rattle.wasm_validator_segments.proofs.lists.pass_references.Given as goal

abbrev pub invariant-items : goal.invariant-items
invariant-items g l = record {
  held : SameInput l.fn.reader l.reader;
  same : SameInput l.reader l.ahead;
  onward : position_in l.fn.reader ≤ position_in l.ahead;
  still : position_in l.fn.reader ≤ position_in l.reader;
  fewer : l.more ≤ l.fn.count;
  functions : KnowsType (g.T.WasmModuleResources.context l.fn.resources) (val_of l.fn.ty) l.known.functions;
  null : KnowsNull (g.T.WasmModuleResources.context l.fn.resources) (features_of l.fn.features) (val_of l.fn.ty) l.known.null;
  so_far : behind_many (behind_expression (g.T.WasmModuleResources.context l.fn.resources) (features_of l.fn.features) l.fn.imported_globals (val_of l.fn.ty)) l.more (rest l.ahead)
      ≡ behind_many (behind_expression (g.T.WasmModuleResources.context l.fn.resources) (features_of l.fn.features) l.fn.imported_globals (val_of l.fn.ty)) l.fn.count (rest l.fn.reader);
  noted : noting g.N.NotesFunctions.note (names_of_expressions l.more (rest l.ahead)) l.notes ≡ noting g.N.NotesFunctions.note (names_of_expressions l.fn.count (rest l.fn.reader)) l.fn.notes;
}

abbrev pub decreases-items : goal.decreases-items
decreases-items g l = l.more
