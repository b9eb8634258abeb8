use Rattle.std.proofs.Common.{refl, is_ok, false}
use Rattle.wasm_validator_type_checks.proofs.RuleTests.{misses, then_decides, is_decided}
use Rattle.wasm_validator_resources.specs.WasmReadersErrors.Refusals.{refused}
use Rattle.wasm_validator_type_checks.specs.TypeRefusals.{holds, first, second}
use Rattle.wasm_validator_type_checks.proofs.RefusalSteps.{tells, refuses}
use Rattle.wasm_validator_type_checks.proofs.subtypes.check_extended.Goals as goal

pub returns-then-not-open-clause-decided : goal.returns-then-not-open-clause-decided
returns-then-not-open-clause-decided g c = misses c.is_open-open.result false c.is_open-open.ensures c.if-not-open.true refl (λ m. m.open_supertype)

pub returns-clause-decided : goal.returns-clause-decided
returns-clause-decided g c =
    then_decides c.is_open-open.result c.matches.result (is_ok c.hold.result) c.is_open-open.ensures c.if-not-open.false c.hold.ensures.allowed c.matches.ensures
    (λ o m. record { open_supertype = o; matching = m }) (λ x. x.matching)

pub returns-then-not-open-clause-told : goal.returns-then-not-open-clause-told
returns-then-not-open-clause-told g c = first c.new.result (refuses c.is_open-open.result _ c.new.result c.is_open-open.ensures c.if-not-open.true c.new.ensures)

pub returns-clause-told : goal.returns-clause-told
returns-clause-told g c =
    second (refused c.hold.result) (holds (c.is_open-open.ensures.0 c.if-not-open.false))
    (tells c.hold.result _ (is_decided (is_ok c.hold.result) c.matches.result c.hold.ensures.allowed c.matches.ensures) c.hold.ensures.refusal)
