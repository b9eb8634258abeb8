use Rattle.std.proofs.Common.{◌≡◌, ap, subst, ℕ, Some, Err, rules, tests}
use Rattle.wasm_spec_rules.specs.Contexts.{Context}
use Rattle.wasm_spec_rules.specs.FeatureFlags.{features_of}
use Rattle.wasm_readers.specs.WasmReadersBytes.Reader.{place_of_next, rest}
use Rattle.wasm_readers_types.specs.WasmReadersValues.declared.indices.UnpackedIndex.{UnpackedIndex}
use Rattle.wasm_parser.specs.PayloadViews.{body_of, body_reader}
use Rattle.wasm_validator_side_notes.specs.WasmTypingValidator.BodyTyping.{typed_state, locals_in}
use Rattle.wasm_validator_side_notes.specs.WasmValidatorFunc.Functions.{IsFunctionBody}
use Rattle.wasm_validator_side_notes.specs.WasmValidatorFunc.BodyValidation.{body_in, Validates}
use Rattle.wasm_validator_side_notes.proofs.WasmValidatorFunc.Functions.{accepted, begins_not, body_refused}
use Rattle.wasm_validator_side_notes.specs.TableViews.{shown}
use Rattle.wasm_validator_side_notes.specs.Tables.{HasRead, IsTableOf}
use Rattle.wasm_validator_side_table.proofs.WholeTables.{table_with_locals, makes, makes_told}
use Rattle.wasm_validator_side_table.proofs.body.make_next.Goals as goal

pub returns-in-Err-begin_next-clause-decides : goal.returns-in-Err-begin_next-clause-decides
returns-in-Err-begin_next-clause-decides g c =
    let C = g.T.WasmModuleResources.context c.args.function.resources in
    let F = features_of c.args.function.features in
    let bytes = body_of c.args.body.now in
    let P = IsFunctionBody F C c.args.function.ty bytes in
    let e = c.in-Err-begin_next.error in
    makes_told (Unit {0}) P (body_reader c.args.body.now) e c.of_validator.result c.of_validator.ensures
    (begins_not F C c.args.function.ty bytes ℕ e c.in-Err-begin_next.ensures.many)

pub returns-in-Err-read_body-clause-decides : goal.returns-in-Err-read_body-clause-decides
returns-in-Err-read_body-clause-decides g c =
    let C = g.T.WasmModuleResources.context c.args.function.resources in
    let D = g.T.WasmModuleResources.context c.begin_next.new.self.resources in
    let F = features_of c.args.function.features in
    let bytes = body_of c.args.body.now in
    let P = IsFunctionBody F C c.args.function.ty bytes in
    let v = c.begin_next.new.self.validator in
    let u = c.read_body.new.validator.validator in
    let e = c.in-Err-read_body.error in
    let there : D ≡ C = ap (λ r. g.T.WasmModuleResources.context r) c.in-Ok-begin_next.ensures.resources in
    let took : Validates (Err e) (body_in v C bytes) (locals_in u) (typed_state u) =
    subst (λ (X : Context UnpackedIndex). Validates (Err e) (body_in v X bytes) (locals_in u) (typed_state u)) there c.in-Err-read_body.ensures.took in
    makes_told (Unit {0}) P (body_reader c.args.body.now) e c.of_validator-in-Err-read_body.result c.of_validator-in-Err-read_body.ensures
    (body_refused v F C c.args.function.ty bytes e (locals_in u) (typed_state u) (ap features_of c.in-Ok-begin_next.ensures.features) c.in-Ok-begin_next.ensures.begins took)

pub returns-then-finish-clause-table : goal.returns-then-finish-clause-table
returns-then-finish-clause-table g c =
    let C = g.T.WasmModuleResources.context c.args.function.resources in
    let D = g.T.WasmModuleResources.context c.begin_next.new.self.resources in
    let n = c.args.function.ty in
    let v = c.begin_next.new.self.validator in
    let u = c.read_body.new.validator.validator in
    let r = body_reader c.args.body.now in
    let T = shown c.begin.new.self in
    let t = c.read_body.new.table in
    let last = c.finish.new.self in
    let there : D ≡ C = ap (λ x. g.T.WasmModuleResources.context x) c.in-Ok-begin_next.ensures.resources in
    let read : HasRead C v u T t r = subst (λ (X : Context UnpackedIndex). HasRead X v u T t r) there c.in-Ok-read_body.ensures.read in
    let counts = c.finish.ensures.counts in
    let places = c.finish.ensures.places in
    let middle = c.set_locals.new.self in
    let all : IsTableOf (features_of v.stacks.features) C n (place_of_next r) (rest r) last =
    table_with_locals C n c.len_locals-locals.result v u T t middle last r c.set_locals.ensures c.in-Ok-begin_next.ensures.begins c.in-Ok.ensures.begun read c.len_locals-locals.ensures (search (rules, tests)) (search (rules, tests))
    counts.0 counts.1 places.0 places.1 in
    subst (λ x. IsTableOf (features_of x) C n (place_of_next r) (rest r) last) c.in-Ok-begin_next.ensures.features all

pub returns-then-finish-clause-decides : goal.returns-then-finish-clause-decides
returns-then-finish-clause-decides g c =
    let C = g.T.WasmModuleResources.context c.args.function.resources in
    let D = g.T.WasmModuleResources.context c.begin_next.new.self.resources in
    let F = features_of c.args.function.features in
    let bytes = body_of c.args.body.now in
    let P = IsFunctionBody F C c.args.function.ty bytes in
    let v = c.begin_next.new.self.validator in
    let u = c.read_body.new.validator.validator in
    let r = body_reader c.args.body.now in
    let there : D ≡ C = ap (λ x. g.T.WasmModuleResources.context x) c.in-Ok-begin_next.ensures.resources in
    let took : body_in v C bytes ≡ Some (locals_in u, typed_state u) =
    subst (λ (X : Context UnpackedIndex). body_in v X bytes ≡ Some (locals_in u, typed_state u)) there c.in-Ok-read_body.ensures.took in
    let is : P = accepted v F C c.args.function.ty bytes (locals_in u) (typed_state u) (ap features_of c.in-Ok-begin_next.ensures.features) c.in-Ok-begin_next.ensures.few c.in-Ok-begin_next.ensures.begins took in
    makes P r (tt {0}) c.requires.few is
