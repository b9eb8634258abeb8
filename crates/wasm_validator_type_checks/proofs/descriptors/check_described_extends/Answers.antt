use Rattle.std.proofs.Common.{◌≡◌, refl, is_ok, true}
use Rattle.wasm_spec.specs.SupertypeOrder.{supertype_of, described_by}
use Rattle.wasm_validator_type_list.specs.DeclarationsById.{declares}
use Rattle.wasm_validator_type_checks.specs.TypesById.{number}
use Rattle.wasm_validator_type_checks.proofs.RuleTests.{on_none, on_some, is_decided, same_ids}
use Rattle.wasm_validator_type_checks.proofs.descriptors.check_described_extends.Goals as goal

pub returns-in-Some-clause-decided : goal.returns-in-Some-clause-decided
returns-in-Some-clause-decided g c =
    let D = declares c.args.types.now.groups in
    let a = c.args.id.index in
    on_some number (λ d. supertype_of D d ≡ described_by D c.args.extended.index) c.described_type.result (described_by D a) c.in-Some.by_type (is_ok c.hold.result) c.described_type.ensures.leads c.in-Some.is
    (is_decided (is_ok c.hold.result) c.are_same-extends.result c.hold.ensures.allowed (same_ids c.supertype.result c.described_type-in-Some.result (supertype_of D c.in-Some.by_type.index) (described_by D c.args.extended.index) c.are_same-extends.result c.supertype.ensures.leads c.described_type-in-Some.ensures.leads c.are_same-extends.ensures))

pub returns-in-None-clause-decided : goal.returns-in-None-clause-decided
returns-in-None-clause-decided g c =
    let D = declares c.args.types.now.groups in
    let a = c.args.id.index in
    on_none number (λ d. supertype_of D d ≡ described_by D c.args.extended.index) c.described_type.result (described_by D a) true c.described_type.ensures.leads c.in-None.is refl
