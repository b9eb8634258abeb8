use Rattle.std.proofs.Common.{◌∙◌, arith}
use Rattle.wasm_spec_rules.specs.FeatureFlags.{features_of}
use Rattle.wasm_readers.specs.WasmReadersBytes.Reader.{rest}
use Rattle.wasm_readers_types.specs.WasmReadersValues.SeenValues.{val_of}
use Rattle.wasm_validator_constants.specs.WasmValidatorReferences.WasmSpecValidity.Expressions.{expression_at, named}
use Rattle.wasm_validator_segments.specs.Expressions.{behind_expression}
use Rattle.wasm_validator_segments.proofs.Loops.{one_less}
use Rattle.wasm_validator_segments.proofs.PartReads.{expression_read, read_and_noted}
use Rattle.wasm_validator_segments.proofs.lists.check_some_expressions.Goals as goal

pub returns-clause-so_far : goal.returns-clause-so_far
returns-clause-so_far g c =
    one_less (behind_expression (g.T.WasmModuleResources.context c.args.resources.now) (features_of c.args.features) c.args.imported_globals (val_of c.args.ty)) c.in_ok-left.left
    (rest c.pass_references.new.reader) (rest c.check_expression_of_type.new.reader) (omega arith) c.in_ok-check_expression_of_type.ensures.past ∙ c.in_ok-left.ensures.so_far

pub returns-clause-noted : goal.returns-clause-noted
returns-clause-noted g c =
    read_and_noted (behind_expression (g.T.WasmModuleResources.context c.args.resources.now) (features_of c.args.features) c.args.imported_globals (val_of c.args.ty)) expression_at
    (expression_read (g.T.WasmModuleResources.context c.args.resources.now) (features_of c.args.features) c.args.imported_globals (val_of c.args.ty)) named g.N.NotesFunctions.note c.in_ok-left.left
    (rest c.pass_references.new.reader) (rest c.check_expression_of_type.new.reader) c.pass_references.new.notes c.check_expression_of_type.new.notes (omega arith)
    c.in_ok-check_expression_of_type.ensures.past c.in_ok-check_expression_of_type.ensures.noted
    ∙ c.in_ok-left.ensures.noted
