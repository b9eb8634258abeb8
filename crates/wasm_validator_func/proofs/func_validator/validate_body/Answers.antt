use Rattle.std.proofs.Common.{◌≡◌, ap, Some, Err}
use Rattle.wasm_spec_rules.specs.FeatureFlags.{features_of}
use Rattle.wasm_parser.specs.PayloadViews.{body_of}
use Rattle.wasm_typing_validator.specs.BodyTyping.{typed_state, locals_in}
use Rattle.wasm_validator_func.specs.BodyValidation.{body_in, Validates}
use Rattle.wasm_validator_func.proofs.Functions.{accepted, body_refused}
use Rattle.wasm_validator_func.proofs.func_validator.validate_body.Goals as goal

pub returns-in-Ok-check_body-clause-decides : goal.returns-in-Ok-check_body-clause-decides
returns-in-Ok-check_body-clause-decides g c =
    let C = g.T.WasmModuleResources.context c.args.resources.now in
    let v = c.begin.new.validator in
    let w = c.check_body.new.validator in
    let bytes = body_of c.args.body.now in
    let took : body_in v C bytes ≡ Some (locals_in w, typed_state w) = c.in-Ok-check_body.ensures.took in
    accepted v (features_of c.args.features) C c.args.ty bytes (locals_in w) (typed_state w) (ap features_of c.in-Ok.ensures.features) c.in-Ok.ensures.few c.in-Ok.ensures.begins took

pub returns-in-Err-check_body-clause-decides : goal.returns-in-Err-check_body-clause-decides
returns-in-Err-check_body-clause-decides g c =
    let C = g.T.WasmModuleResources.context c.args.resources.now in
    let v = c.begin.new.validator in
    let w = c.check_body.new.validator in
    let e = c.in-Err-check_body.error in
    let bytes = body_of c.args.body.now in
    let took : Validates (Err e) (body_in v C bytes) (locals_in w) (typed_state w) = c.in-Err-check_body.ensures.took in
    body_refused v (features_of c.args.features) C c.args.ty bytes e (locals_in w) (typed_state w) (ap features_of c.in-Ok.ensures.features) c.in-Ok.ensures.begins took
