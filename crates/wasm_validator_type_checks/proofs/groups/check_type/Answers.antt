use Rattle.std.proofs.Common.{◌≡◌, ap, is_ok}
use Rattle.wasm_validator_resources.specs.WasmReadersErrors.Refusals.{refused}
use Rattle.wasm_validator_type_checks.proofs.RefusalSteps.{handed_on, stopped, went}
use Rattle.wasm_validator_type_checks.proofs.groups.check_type.Goals as goal

pub returns-in_err-check_subtype-clause-told : goal.returns-in_err-check_subtype-clause-told
returns-in_err-check_subtype-clause-told g c =
    let t = refused c.from_residual.result in
    let e : refused c.from_residual.result ≡ refused c.check_subtype.result = handed_on _ _ _ c.in_err-check_subtype.was c.from_residual.ensures.1 in
    stopped c.check_subtype.result t (ap is_ok c.in_err-check_subtype.was) e c.check_subtype.ensures.told

pub returns-clause-told : goal.returns-clause-told
returns-clause-told g c =
    let t = refused c.check_descriptors.result in
    went c.check_subtype.result t (ap is_ok c.in_ok-check_subtype.was) c.check_subtype.ensures.told c.check_descriptors.ensures.told
