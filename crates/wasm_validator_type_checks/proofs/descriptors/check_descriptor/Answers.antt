use Rattle.std.proofs.Common.{◌≡◌, refl, is_ok, true, Some}
use Rattle.wasm_spec.specs.SupertypeOrder.{descriptor_of, described_by}
use Rattle.wasm_validator_type_list.specs.DeclarationsById.{declares}
use Rattle.wasm_validator_type_checks.specs.TypesById.{number}
use Rattle.wasm_validator_type_checks.proofs.RuleTests.{on_none, on_some, is_decided, same_ids}
use Rattle.wasm_validator_type_checks.proofs.descriptors.check_descriptor.Goals as goal

pub returns-in-Some-clause-decided : goal.returns-in-Some-clause-decided
returns-in-Some-clause-decided g c =
    let D = declares c.args.types.now.groups in
    let a = c.args.id.index in
    on_some number (λ d. described_by D d ≡ Some a) c.descriptor.result (descriptor_of D a) c.in-Some.of_type (is_ok c.hold.result) c.descriptor.ensures.leads c.in-Some.is
    (is_decided (is_ok c.hold.result) c.are_same.result c.hold.ensures.allowed (same_ids c.described_type.result (Some c.args.id) (described_by D c.in-Some.of_type.index) (Some a) c.are_same.result c.described_type.ensures.leads refl c.are_same.ensures))

pub returns-in-None-clause-decided : goal.returns-in-None-clause-decided
returns-in-None-clause-decided g c =
    let D = declares c.args.types.now.groups in
    let a = c.args.id.index in
    on_none number (λ d. described_by D d ≡ Some a) c.descriptor.result (descriptor_of D a) true c.descriptor.ensures.leads c.in-None.is refl
