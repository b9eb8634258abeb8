use Rattle.std.proofs.Common.{◌≡◌, ◌==◌, ◌∙◌, sym, ap, subst, Some, Err, true, false, length, rules, tests}
use Rattle.wasm_spec_rules.specs.Contexts.{Context}
use Rattle.wasm_readers.specs.WasmReadersBytes.Reader.{place_of_next, rest}
use Rattle.wasm_readers_types.specs.WasmReadersValues.declared.indices.UnpackedIndex.{UnpackedIndex}
use Rattle.wasm_parser.specs.PayloadViews.{body_of, body_reader}
use Rattle.wasm_validator_resources.specs.Answers.{world}
use Rattle.wasm_validator_side_notes.specs.WasmTypingValidator.BodyTyping.{typed_state, locals_in}
use Rattle.wasm_validator_side_notes.specs.WasmTypingValidator.TypedInstructions.{within, ReadsTo}
use Rattle.wasm_validator_side_notes.specs.WasmValidatorFunc.Bodies.{instructions_from}
use Rattle.wasm_validator_side_notes.specs.WasmValidatorFunc.BodyValidation.{body_in, Validates}
use Rattle.wasm_validator_side_notes.proofs.WasmValidatorFunc.WholeBodies.{no_locals, some_locals, stopped, ended, goes_past}
use Rattle.wasm_validator_side_notes.specs.TableViews.{shown}
use Rattle.wasm_validator_side_notes.specs.Tables.{Reaches, HasRead}
use Rattle.wasm_validator_side_table.proofs.ByteSteps.{has_read}
use Rattle.wasm_validator_side_table.proofs.WholeTables.{nothing_left}
use Rattle.wasm_validator_side_table.proofs.body.read_body.Goals as goal

pub returns-in-Err-clause-took : goal.returns-in-Err-clause-took
returns-in-Err-clause-took g c =
    let C = g.T.WasmModuleResources.context c.args.validator.now.resources in
    let v = c.args.validator.now.validator in
    let w = c.read_locals.new.self.validator in
    let bytes = rest c.get_binary_reader-reader.result in
    let same : bytes ≡ body_of c.args.body.now = ap rest c.get_binary_reader-reader.ensures in
    subst (λ b. Validates (Err c.in-Err.error) (body_in v C b) (locals_in w) (typed_state w)) same
    (no_locals C v bytes c.in-Err.error (locals_in w) (locals_in w) (typed_state w) (rest c.read_locals.new.reader) (c.in-Err.ensures.declared c.requires.going))

pub returns-in-Err-read_all-clause-took : goal.returns-in-Err-read_all-clause-took
returns-in-Err-read_all-clause-took g c =
    let C = g.T.WasmModuleResources.context c.args.validator.now.resources in
    let D = g.T.WasmModuleResources.context c.read_locals.new.self.resources in
    let v = c.args.validator.now.validator in
    let w = c.read_locals.new.self.validator in
    let u = c.read_all.new.validator.validator in
    let e = c.in-Err-read_all.error in
    let bytes = rest c.get_binary_reader-reader.result in
    let middle = rest c.read_locals.new.reader in
    let same : bytes ≡ body_of c.args.body.now = ap rest c.get_binary_reader-reader.ensures in
    let there : D ≡ C = ap (λ r. g.T.WasmModuleResources.context r) c.in-Ok.ensures.same.0 in
    let took : ReadsTo (Err e) (instructions_from (world C) (within w C) (typed_state w) middle) (typed_state u) (rest c.read_all.new.reader) =
    subst (λ (X : Context UnpackedIndex). ReadsTo (Err e) (instructions_from (world X) (within w X) (typed_state w) middle) (typed_state u) (rest c.read_all.new.reader)) there c.in-Err-read_all.ensures.took in
    subst (λ b. Validates (Err e) (body_in v C b) (locals_in u) (typed_state u)) same
    (stopped (locals_in w) (body_in v C bytes) (instructions_from (world C) (within w C) (typed_state w) middle) e (locals_in u) (typed_state u) (typed_state u) (rest c.read_all.new.reader)
    (some_locals C v bytes w middle (c.in-Ok.ensures.declared c.requires.going) c.in-Ok.ensures.goes c.in-Ok.ensures.state) took)

pub returns-then-not-is_empty-clause-took : goal.returns-then-not-is_empty-clause-took
returns-then-not-is_empty-clause-took g c =
    let C = g.T.WasmModuleResources.context c.args.validator.now.resources in
    let D = g.T.WasmModuleResources.context c.read_locals.new.self.resources in
    let v = c.args.validator.now.validator in
    let w = c.read_locals.new.self.validator in
    let u = c.read_all.new.validator.validator in
    let bytes = rest c.get_binary_reader-reader.result in
    let middle = rest c.read_locals.new.reader in
    let more = rest c.read_all.new.reader in
    let same : bytes ≡ body_of c.args.body.now = ap rest c.get_binary_reader-reader.ensures in
    let there : D ≡ C = ap (λ r. g.T.WasmModuleResources.context r) c.in-Ok.ensures.same.0 in
    let took : instructions_from (world C) (within w C) (typed_state w) middle ≡ Some (typed_state u, more) =
    subst (λ (X : Context UnpackedIndex). instructions_from (world X) (within w X) (typed_state w) middle ≡ Some (typed_state u, more)) there c.in-Ok-read_all.ensures.took in
    let some : (length more == 0) ≡ false = search (rules, tests) in
    subst (λ b. Validates (Err c.behind_end.result) (body_in v C b) (locals_in u) (typed_state u)) same
    (goes_past (locals_in w) (body_in v C bytes) (instructions_from (world C) (within w C) (typed_state w) middle) c.original_position-stop.result c.behind_end.result (locals_in u) (typed_state u) (typed_state u) more
    c.behind_end.ensures (some_locals C v bytes w middle (c.in-Ok.ensures.declared c.requires.going) c.in-Ok.ensures.goes c.in-Ok.ensures.state) took some)

pub returns-clause-took : goal.returns-clause-took
returns-clause-took g c =
    let C = g.T.WasmModuleResources.context c.args.validator.now.resources in
    let D = g.T.WasmModuleResources.context c.read_locals.new.self.resources in
    let v = c.args.validator.now.validator in
    let w = c.read_locals.new.self.validator in
    let u = c.read_all.new.validator.validator in
    let bytes = rest c.get_binary_reader-reader.result in
    let middle = rest c.read_locals.new.reader in
    let more = rest c.read_all.new.reader in
    let same : bytes ≡ body_of c.args.body.now = ap rest c.get_binary_reader-reader.ensures in
    let there : D ≡ C = ap (λ r. g.T.WasmModuleResources.context r) c.in-Ok.ensures.same.0 in
    let took : instructions_from (world C) (within w C) (typed_state w) middle ≡ Some (typed_state u, more) =
    subst (λ (X : Context UnpackedIndex). instructions_from (world X) (within w X) (typed_state w) middle ≡ Some (typed_state u, more)) there c.in-Ok-read_all.ensures.took in
    let all : (length more == 0) ≡ true = search (rules, tests) in
    subst (λ b. body_in v C b ≡ Some (locals_in u, typed_state u)) same
    (ended (locals_in w) (body_in v C bytes) (instructions_from (world C) (within w C) (typed_state w) middle) (locals_in u) (typed_state u) more
    (some_locals C v bytes w middle (c.in-Ok.ensures.declared c.requires.going) c.in-Ok.ensures.goes c.in-Ok.ensures.state) took all c.in-Ok-read_all.ensures.kept.content)

pub returns-clause-read : goal.returns-clause-read
returns-clause-read g c =
    let C = g.T.WasmModuleResources.context c.args.validator.now.resources in
    let D = g.T.WasmModuleResources.context c.read_locals.new.self.resources in
    let v = c.args.validator.now.validator in
    let w = c.read_locals.new.self.validator in
    let u = c.read_all.new.validator.validator in
    let t = c.read_all.new.table in
    let r = c.get_binary_reader-reader.result in
    let q = c.read_locals.new.reader in
    let z = c.read_all.new.reader in
    let T = shown c.args.table.now in
    let there : D ≡ C = ap (λ x. g.T.WasmModuleResources.context x) c.in-Ok.ensures.same.0 in
    let reaches : Reaches (world C) (within w C) (typed_state w) T (place_of_next q) (rest q) (typed_state u) (shown t) t.operands (place_of_next z) (rest z) =
    subst (λ (X : Context UnpackedIndex). Reaches (world X) (within w X) (typed_state w) T (place_of_next q) (rest q) (typed_state u) (shown t) t.operands (place_of_next z) (rest z)) there c.in-Ok-read_all.ensures.reaches in
    let none : length (rest z) ≡ 0 = search (rules, tests) in
    let first : c.in-Some.first ≡ place_of_next q = c.in-Some.ensures ∙ c.original_position-start.ensures in
    let end : c.in-Some-narrow_offset.end ≡ place_of_next z = c.in-Some-narrow_offset.ensures ∙ c.original_position-stop.ensures in
    let last = record t { first = c.in-Some.first; end = c.in-Some-narrow_offset.end } in
    let read : HasRead C v u T last (body_reader c.args.body.now) =
    subst (λ x. HasRead C v u T last x) c.get_binary_reader-reader.ensures
    (has_read C v w u T last r q z c.in-Ok.ensures.goes c.in-Ok.ensures.state (c.in-Ok.ensures.declared c.requires.going) c.in-Ok.ensures.input reaches (nothing_left (rest z) none) c.in-Ok-read_all.ensures.kept first end) in
    subst (λ x. HasRead C v u T x (body_reader c.args.body.now)) (sym c.set_places.ensures) read
