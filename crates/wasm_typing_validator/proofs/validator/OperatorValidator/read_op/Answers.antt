use Rattle.wasm_readers.specs.WasmReadersBytes.Reader.{rest}
use Rattle.wasm_operators.specs.SeenOperators.{operator_of}
use Rattle.wasm_typing_validator.specs.BodyTyping.{typed_state}
use Rattle.wasm_typing_families.proofs.WrittenInstructions.{is_written}
use Rattle.wasm_typing_validator.proofs.ByteSteps.{not_served, step_taken, step_refused}
use Rattle.wasm_typing_validator.proofs.validator.OperatorValidator.read_op.Goals as goal

pub returns-in-Err-clause-took : goal.returns-in-Err-clause-took
returns-in-Err-clause-took g c = λ h. not_served (g.T.WasmModuleResources.context c.args.resources.now) c.args.self.now.stacks c.args.reader.now c.features.result.now c.features.ensures c.in-Err.ensures.err

pub op-requires : goal.op-requires
op-requires g c = is_written (rest c.args.reader.now) (operator_of c.in-Ok.op) (rest c.read_served.new.reader) c.in-Ok.ensures.ok

pub returns-in-Ok-op-clause-took : goal.returns-in-Ok-op-clause-took
returns-in-Ok-op-clause-took g c =
    λ h. step_taken (g.T.WasmModuleResources.context c.args.resources.now) c.args.self.now.stacks c.args.reader.now (operator_of c.in-Ok.op) (rest c.read_served.new.reader) c.in-Ok-op.field-0 c.op.new.self.stacks c.in-Ok.ensures.ok (c.in-Ok-op.ensures.took h)

pub returns-in-Err-op-clause-took : goal.returns-in-Err-op-clause-took
returns-in-Err-op-clause-took g c =
    λ h. step_refused (g.T.WasmModuleResources.context c.args.resources.now) c.args.self.now.stacks c.args.reader.now (operator_of c.in-Ok.op) (rest c.read_served.new.reader) c.in-Err-op.error c.original_position-offset.result c.at.result c.op.new.self.stacks
    (typed_state c.op.new.self) (rest c.read_served.new.reader) c.in-Ok.ensures.ok c.at.ensures (c.in-Err-op.ensures.took h)
