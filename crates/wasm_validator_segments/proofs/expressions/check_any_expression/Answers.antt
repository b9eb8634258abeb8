use Rattle.wasm_readers_types.specs.WasmReadersValues.SeenValues.{val_of}
use Rattle.wasm_readers.specs.WasmReadersBytes.Reader.{rest}
use Rattle.wasm_validator_constants.specs.BodyTyping.{typed_state}
use Rattle.wasm_validator_segments.proofs.Typing.{goes_past, goes_nowhere, names_noted}
use Rattle.wasm_validator_segments.proofs.expressions.check_any_expression.Goals as goal

pub returns-in-Ok-clause-past : goal.returns-in-Ok-clause-past
returns-in-Ok-clause-past g c =
    goes_past c.in_ok-validator.validator (g.T.WasmModuleResources.context c.args.resources.now) c.args.features c.args.imported_globals (val_of c.args.ty) (rest c.args.reader.now)
    c.in-Ok.field-0 c.in-Ok.field-0 (typed_state c.check_constant_expression.new.validator) (rest c.check_constant_expression.new.reader)
    c.in_ok-validator.ensures.begins c.in_ok-validator.ensures.features c.in-Ok.ensures.took

pub returns-in-Err-clause-past : goal.returns-in-Err-clause-past
returns-in-Err-clause-past g c =
    goes_nowhere c.in_ok-validator.validator (g.T.WasmModuleResources.context c.args.resources.now) c.args.features c.args.imported_globals (val_of c.args.ty) (rest c.args.reader.now)
    c.in-Err.error (typed_state c.check_constant_expression.new.validator) (rest c.check_constant_expression.new.reader)
    c.in_ok-validator.ensures.begins c.in_ok-validator.ensures.features c.in-Err.ensures.took

pub returns-in-Ok-clause-noted : goal.returns-in-Ok-clause-noted
returns-in-Ok-clause-noted g c =
    names_noted c.in_ok-validator.validator (g.T.WasmModuleResources.context c.args.resources.now) c.args.features c.args.imported_globals (val_of c.args.ty) (rest c.args.reader.now)
    g.N.NotesFunctions.note c.args.notes.now c.check_constant_expression.new.notes c.in-Ok.field-0 (typed_state c.check_constant_expression.new.validator) (rest c.check_constant_expression.new.reader)
    c.in_ok-validator.ensures.begins c.in_ok-validator.ensures.features c.in-Ok.ensures.took c.in-Ok.ensures.noted
