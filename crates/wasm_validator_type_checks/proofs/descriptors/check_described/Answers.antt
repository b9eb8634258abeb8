use Rattle.std.proofs.Common.{◌≡◌, refl, is_ok, true, Some}
use Rattle.wasm_spec.specs.SupertypeOrder.{descriptor_of, described_by}
use Rattle.wasm_validator_type_list.specs.DeclarationsById.{declares}
use Rattle.wasm_validator_type_checks.specs.TypesById.{number}
use Rattle.wasm_validator_type_checks.proofs.RuleTests.{on_none, on_some, is_decided, same_ids}
use Rattle.wasm_validator_type_checks.proofs.descriptors.check_described.Goals as goal

pub returns-in-Some-clause-decided : goal.returns-in-Some-clause-decided
returns-in-Some-clause-decided g c =
    let D = declares c.args.types.now.groups in
    let a = c.args.id.index in
    on_some number (λ d. descriptor_of D d ≡ Some a) c.described_type.result (described_by D a) c.in-Some.by_type (is_ok c.hold.result) c.described_type.ensures.leads c.in-Some.is
    (is_decided (is_ok c.hold.result) c.are_same.result c.hold.ensures.allowed (same_ids c.descriptor.result (Some c.args.id) (descriptor_of D c.in-Some.by_type.index) (Some a) c.are_same.result c.descriptor.ensures.leads refl c.are_same.ensures))

pub returns-in-None-clause-decided : goal.returns-in-None-clause-decided
returns-in-None-clause-decided g c =
    let D = declares c.args.types.now.groups in
    let a = c.args.id.index in
    on_none number (λ d. descriptor_of D d ≡ Some a) c.described_type.result (described_by D a) true c.described_type.ensures.leads c.in-None.is refl
