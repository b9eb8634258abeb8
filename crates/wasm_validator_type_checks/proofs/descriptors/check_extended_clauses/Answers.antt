use Rattle.std.proofs.Common.{◌≡◌, ap, is_ok, arith}
use Rattle.std.proofs.lemmas.Grind.{common_steps}
use Rattle.wasm_validator_resources.specs.WasmReadersErrors.Refusals.{refused}
use Rattle.wasm_validator_type_checks.proofs.RefusalSteps.{tells, stopped, went}
use Rattle.wasm_validator_type_checks.proofs.descriptors.check_extended_clauses.Goals as goal

pub returns-in_err-check_descriptor_alike-clause-told : goal.returns-in_err-check_descriptor_alike-clause-told
returns-in_err-check_descriptor_alike-clause-told g c =
    let t = refused c.from_residual.result in
    let e : refused c.from_residual.result ≡ refused c.check_descriptor_alike.result = grind (arith, common_steps) in
    stopped c.check_descriptor_alike.result t (ap is_ok c.in_err-check_descriptor_alike.was) e (tells c.check_descriptor_alike.result _ c.check_descriptor_alike.ensures.decided c.check_descriptor_alike.ensures.told)

pub returns-in_err-check_descriptor_extends-clause-told : goal.returns-in_err-check_descriptor_extends-clause-told
returns-in_err-check_descriptor_extends-clause-told g c =
    let t = refused c.from_residual-in_err-check_descriptor_extends.result in
    let e : refused c.from_residual-in_err-check_descriptor_extends.result ≡ refused c.check_descriptor_extends.result = grind (arith, common_steps) in
    went c.check_descriptor_alike.result t (ap is_ok c.in_ok-check_descriptor_alike.was) (tells c.check_descriptor_alike.result _ c.check_descriptor_alike.ensures.decided c.check_descriptor_alike.ensures.told)
    (stopped c.check_descriptor_extends.result t (ap is_ok c.in_err-check_descriptor_extends.was) e (tells c.check_descriptor_extends.result _ c.check_descriptor_extends.ensures.decided c.check_descriptor_extends.ensures.told))

pub returns-in_err-check_describes_alike-clause-told : goal.returns-in_err-check_describes_alike-clause-told
returns-in_err-check_describes_alike-clause-told g c =
    let t = refused c.from_residual-in_err-check_describes_alike.result in
    let e : refused c.from_residual-in_err-check_describes_alike.result ≡ refused c.check_describes_alike.result = grind (arith, common_steps) in
    went c.check_descriptor_alike.result t (ap is_ok c.in_ok-check_descriptor_alike.was) (tells c.check_descriptor_alike.result _ c.check_descriptor_alike.ensures.decided c.check_descriptor_alike.ensures.told)
    (went c.check_descriptor_extends.result t (ap is_ok c.in_ok-check_descriptor_extends.was) (tells c.check_descriptor_extends.result _ c.check_descriptor_extends.ensures.decided c.check_descriptor_extends.ensures.told)
    (stopped c.check_describes_alike.result t (ap is_ok c.in_err-check_describes_alike.was) e (tells c.check_describes_alike.result _ c.check_describes_alike.ensures.decided c.check_describes_alike.ensures.told)))

pub returns-clause-told : goal.returns-clause-told
returns-clause-told g c =
    let t = refused c.check_described_extends.result in
    went c.check_descriptor_alike.result t (ap is_ok c.in_ok-check_descriptor_alike.was) (tells c.check_descriptor_alike.result _ c.check_descriptor_alike.ensures.decided c.check_descriptor_alike.ensures.told)
    (went c.check_descriptor_extends.result t (ap is_ok c.in_ok-check_descriptor_extends.was) (tells c.check_descriptor_extends.result _ c.check_descriptor_extends.ensures.decided c.check_descriptor_extends.ensures.told)
    (went c.check_describes_alike.result t (ap is_ok c.in_ok-check_describes_alike.was) (tells c.check_describes_alike.result _ c.check_describes_alike.ensures.decided c.check_describes_alike.ensures.told) (tells c.check_described_extends.result _ c.check_described_extends.ensures.decided c.check_described_extends.ensures.told)))
