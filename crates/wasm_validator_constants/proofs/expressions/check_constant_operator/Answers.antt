use Rattle.std.proofs.Common.{◌≡◌, false, true}
use Rattle.wasm_operators.specs.Maps.{map_instruction}
use Rattle.wasm_operators.specs.SeenOperators.{operator_of}
use Rattle.wasm_typing_validator.specs.WasmSpecSteps.ConstantExpressions.{is_constant}
use Rattle.wasm_typing_validator.specs.WasmSpecSteps.Steps.{step_in}
use Rattle.wasm_validator_resources.specs.Answers.{world, written_index}
use Rattle.wasm_typing_validator.specs.BodyTyping.{typed_state}
use Rattle.wasm_validator_constants.specs.Constants.{constant_step}
use Rattle.wasm_typing_validator.specs.WasmSpecSteps.ConstantRules.{is_readable}
use Rattle.wasm_typing_validator.specs.TypedInstructions.{within}
use Rattle.wasm_validator_constants.proofs.InstructionSteps.{no_constant, no_global, goes, refused_at, taken, not_taken}
use Rattle.wasm_validator_constants.proofs.expressions.check_constant_operator.Goals as goal

pub returns-then-not-is_constant-clause-took : goal.returns-then-not-is_constant-clause-took
returns-then-not-is_constant-clause-took g c =
    let C = g.T.WasmModuleResources.context c.args.resources.now in
    let v = c.args.validator.now in
    let i = map_instruction written_index (operator_of c.args.op.now) in
    let not : is_constant (within v C).features i ≡ false = cc in
    refused_at c.args.offset c.not_constant.result (constant_step (world C) (within v C) c.args.imported_globals i (typed_state v)) (typed_state v) c.not_constant.ensures
    (no_constant (world C) (within v C) c.args.imported_globals i (typed_state v) not)

pub returns-then-not-reads_constants-clause-took : goal.returns-then-not-reads_constants-clause-took
returns-then-not-reads_constants-clause-took g c =
    let C = g.T.WasmModuleResources.context c.args.resources.now in
    let v = c.args.validator.now in
    let i = map_instruction written_index (operator_of c.args.op.now) in
    let not : is_readable (within v C).features c.args.imported_globals (within v C).context.globals i ≡ false = cc in
    refused_at c.args.offset c.not_readable.result (constant_step (world C) (within v C) c.args.imported_globals i (typed_state v)) (typed_state v) c.not_readable.ensures
    (no_global (world C) (within v C) c.args.imported_globals i (typed_state v) not)

pub returns-in-Ok-clause-took : goal.returns-in-Ok-clause-took
returns-in-Ok-clause-took g c =
    let C = g.T.WasmModuleResources.context c.args.resources.now in
    let v = c.args.validator.now in
    let i = map_instruction written_index (operator_of c.args.op.now) in
    let is : is_constant (within v C).features i ≡ true = cc in
    let reads : is_readable (within v C).features c.args.imported_globals (within v C).context.globals i ≡ true = cc in
    taken c.in-Ok.field-0 (step_in (world C) (within v C) i (typed_state v)) (constant_step (world C) (within v C) c.args.imported_globals i (typed_state v)) (typed_state v) (typed_state c.op.new.self)
    (goes (world C) (within v C) c.args.imported_globals i (typed_state v) is reads) (c.in-Ok.ensures.took c.requires.going)

pub returns-in-Err-clause-took : goal.returns-in-Err-clause-took
returns-in-Err-clause-took g c =
    let C = g.T.WasmModuleResources.context c.args.resources.now in
    let v = c.args.validator.now in
    let i = map_instruction written_index (operator_of c.args.op.now) in
    let is : is_constant (within v C).features i ≡ true = cc in
    let reads : is_readable (within v C).features c.args.imported_globals (within v C).context.globals i ≡ true = cc in
    not_taken c.in-Err.error c.args.offset c.at.result (step_in (world C) (within v C) i (typed_state v)) (constant_step (world C) (within v C) c.args.imported_globals i (typed_state v)) (typed_state v) (typed_state c.op.new.self)
    (goes (world C) (within v C) c.args.imported_globals i (typed_state v) is reads) (c.in-Err.ensures.took c.requires.going) c.at.ensures
