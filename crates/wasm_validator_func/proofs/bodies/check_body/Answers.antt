use Rattle.std.proofs.Common.{◌≡◌, ◌==◌, ap, subst, Some, Err, true, false, length}
use Rattle.wasm_readers_bytes.specs.Reader.{rest}
use Rattle.wasm_parser.specs.PayloadViews.{body_of}
use Rattle.wasm_validator_resources.specs.Answers.{world}
use Rattle.wasm_typing_validator.specs.BodyTyping.{typed_state, locals_in}
use Rattle.wasm_typing_validator.specs.TypedInstructions.{within}
use Rattle.wasm_validator_func.specs.Bodies.{instructions_from}
use Rattle.wasm_validator_func.specs.BodyValidation.{body_in, Validates}
use Rattle.wasm_validator_func.proofs.WholeBodies.{no_locals, some_locals, stopped, ended, goes_past}
use Rattle.wasm_validator_func.proofs.bodies.check_body.Goals as goal

pub returns-in-Err-clause-took : goal.returns-in-Err-clause-took
returns-in-Err-clause-took g c =
    let C = g.T.WasmModuleResources.context c.args.resources.now in
    let v = c.args.validator.now in
    let w = c.read_declarations.new.validator in
    let bytes = rest c.get_binary_reader-reader.result in
    let same : bytes ≡ body_of c.args.body.now = ap rest c.get_binary_reader-reader.ensures in
    subst (λ b. Validates (Err c.in-Err.error) (body_in v C b) (locals_in w) (typed_state w)) same
    (no_locals C v bytes c.in-Err.error (locals_in w) (locals_in w) (typed_state w) (rest c.read_declarations.new.reader) c.in-Err.ensures.declared)

pub returns-in-Err-read_instructions-clause-took :
    goal.returns-in-Err-read_instructions-clause-took
returns-in-Err-read_instructions-clause-took g c =
    let C = g.T.WasmModuleResources.context c.args.resources.now in
    let v = c.args.validator.now in
    let w = c.read_declarations.new.validator in
    let u = c.read_instructions.new.validator in
    let bytes = rest c.get_binary_reader-reader.result in
    let middle = rest c.read_declarations.new.reader in
    let same : bytes ≡ body_of c.args.body.now = ap rest c.get_binary_reader-reader.ensures in
    let e = c.in-Err-read_instructions.error in
    subst (λ b. Validates (Err e) (body_in v C b) (locals_in u) (typed_state u)) same
    (stopped (locals_in w) (body_in v C bytes) (instructions_from (world C) (within w C) (typed_state w) middle) e (locals_in u) (typed_state u) (typed_state u) (rest c.read_instructions.new.reader)
    (some_locals C v bytes w middle c.in-Ok.ensures.declared c.in-Ok.ensures.goes c.in-Ok.ensures.state) c.in-Err-read_instructions.ensures.took)

pub returns-then-is_empty-clause-took : goal.returns-then-is_empty-clause-took
returns-then-is_empty-clause-took g c =
    let C = g.T.WasmModuleResources.context c.args.resources.now in
    let v = c.args.validator.now in
    let w = c.read_declarations.new.validator in
    let u = c.read_instructions.new.validator in
    let bytes = rest c.get_binary_reader-reader.result in
    let middle = rest c.read_declarations.new.reader in
    let more = rest c.read_instructions.new.reader in
    let same : bytes ≡ body_of c.args.body.now = ap rest c.get_binary_reader-reader.ensures in
    let all : (length more == 0) ≡ true = cc in
    subst (λ b. body_in v C b ≡ Some (locals_in u, typed_state u)) same
    (ended (locals_in w) (body_in v C bytes) (instructions_from (world C) (within w C) (typed_state w) middle) (locals_in u) (typed_state u) more
    (some_locals C v bytes w middle c.in-Ok.ensures.declared c.in-Ok.ensures.goes c.in-Ok.ensures.state) c.in-Ok-read_instructions.ensures.took all c.in-Ok-read_instructions.ensures.same.content)

pub returns-clause-took : goal.returns-clause-took
returns-clause-took g c =
    let C = g.T.WasmModuleResources.context c.args.resources.now in
    let v = c.args.validator.now in
    let w = c.read_declarations.new.validator in
    let u = c.read_instructions.new.validator in
    let t = c.fail.new.self in
    let bytes = rest c.get_binary_reader-reader.result in
    let middle = rest c.read_declarations.new.reader in
    let more = rest c.read_instructions.new.reader in
    let same : bytes ≡ body_of c.args.body.now = ap rest c.get_binary_reader-reader.ensures in
    let some : (length more == 0) ≡ false = cc in
    subst (λ b. Validates (Err c.refused.result) (body_in v C b) (locals_in t) (typed_state t)) same
    (goes_past (locals_in w) (body_in v C bytes) (instructions_from (world C) (within w C) (typed_state w) middle) c.original_position.result c.refused.result (locals_in t) (typed_state u) (typed_state t) more
    c.refused.ensures.place (some_locals C v bytes w middle c.in-Ok.ensures.declared c.in-Ok.ensures.goes c.in-Ok.ensures.state) c.in-Ok-read_instructions.ensures.took some)
