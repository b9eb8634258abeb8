use Rattle.std.proofs.Common.{◌∙◌, rules}
use Rattle.wasm_readers.specs.WasmReadersBytes.Reader.{SameInput, rest}
use Rattle.wasm_operators.specs.SeenOperators.{operator_of}
use Rattle.wasm_validator_side_notes.specs.WasmTypingValidator.BodyTyping.{typed_state}
use Rattle.wasm_validator_side_notes.proofs.WasmTypingValidator.ByteSteps.{not_served}
use Rattle.wasm_validator_side_notes.specs.TableViews.{shown}
use Rattle.wasm_validator_side_notes.proofs.NextInstructions.{advances_is}
use Rattle.wasm_validator_side_table.proofs.ByteSteps.{step_did, step_not}
use Rattle.wasm_validator_side_table.proofs.body.read_one.Goals as goal

pub returns-in-Ok-op-clause-advances : goal.returns-in-Ok-op-clause-advances
returns-in-Ok-op-clause-advances g c =
    let same : SameInput c.args.reader.now c.read_served.new.reader = search rules in
    advances_is (g.T.WasmModuleResources.context c.args.validator.now.resources) c.args.validator.now.validator c.op.new.validator.validator c.in-Ok.op (shown c.args.table.now) (shown c.op.new.self)
    c.args.reader.now c.read_served.new.reader c.in-Some.at c.in-Some-narrow_offset.behind same c.in-Ok.ensures.ok (c.in-Some.ensures ∙ c.original_position-start.ensures)
    (c.in-Some-narrow_offset.ensures ∙ c.original_position-end.ensures) c.in-Ok-op.ensures.noted (c.in-Ok-op.ensures.took c.requires)

pub returns-in-Ok-op-clause-took : goal.returns-in-Ok-op-clause-took
returns-in-Ok-op-clause-took g c =
    step_did (g.T.WasmModuleResources.context c.args.validator.now.resources) c.args.validator.now.validator c.args.reader.now (operator_of c.in-Ok.op) (rest c.read_served.new.reader) c.in-Ok.ensures.ok
    (typed_state c.op.new.validator.validator) (c.in-Ok-op.ensures.took c.requires)

pub returns-in-Err-clause-took : goal.returns-in-Err-clause-took
returns-in-Err-clause-took g c =
    not_served (g.T.WasmModuleResources.context c.args.validator.now.resources) c.args.validator.now.validator.stacks c.args.reader.now c.features.result.now c.features.ensures c.in-Err.ensures.err

pub returns-in-Err-op-clause-took : goal.returns-in-Err-op-clause-took
returns-in-Err-op-clause-took g c =
    step_not (g.T.WasmModuleResources.context c.args.validator.now.resources) c.args.validator.now.validator c.args.reader.now (operator_of c.in-Ok.op) (rest c.read_served.new.reader) c.in-Ok.ensures.ok
    c.in-Some.at c.in-Err-op.error (typed_state c.op.new.validator.validator) (typed_state c.op.new.validator.validator) (rest c.read_served.new.reader) (c.in-Err-op.ensures.took c.requires)
