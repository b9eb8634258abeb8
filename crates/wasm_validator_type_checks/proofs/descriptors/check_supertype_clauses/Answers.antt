use Rattle.std.proofs.Common.{refl, is_ok, true}
use Rattle.wasm_spec.specs.SupertypeOrder.{supertype_of}
use Rattle.wasm_validator_type_list.specs.DeclarationsById.{declares}
use Rattle.wasm_validator_type_checks.specs.TypesById.{number}
use Rattle.wasm_validator_type_checks.specs.Rules.{ExtendsClauses}
use Rattle.wasm_validator_type_checks.proofs.RuleTests.{on_none, on_some}
use Rattle.wasm_validator_type_checks.specs.TypeRefusals.{ToldOfExtendedClauses}
use Rattle.wasm_validator_type_checks.proofs.RefusalSteps.{of_some, of_none}
use Rattle.wasm_validator_resources.specs.WasmReadersErrors.Refusals.{refused}
use Rattle.wasm_validator_type_checks.proofs.descriptors.check_supertype_clauses.Goals as goal

pub returns-in-Some-clause-decided : goal.returns-in-Some-clause-decided
returns-in-Some-clause-decided g c =
    let D = declares c.args.types.now.groups in
    let a = c.args.id.index in
    on_some number (ExtendsClauses D a) c.supertype.result (supertype_of D a) c.in-Some.extended (is_ok c.check_extended_clauses.result) c.supertype.ensures.leads c.in-Some.is
    (c.check_extended_clauses.ensures.decided)

pub returns-in-None-clause-decided : goal.returns-in-None-clause-decided
returns-in-None-clause-decided g c =
    let D = declares c.args.types.now.groups in
    let a = c.args.id.index in
    on_none number (ExtendsClauses D a) c.supertype.result (supertype_of D a) true c.supertype.ensures.leads c.in-None.is refl

pub returns-in-Some-clause-told : goal.returns-in-Some-clause-told
returns-in-Some-clause-told g c =
    let D = declares c.args.types.now.groups in
    let a = c.args.id.index in
    of_some number (ToldOfExtendedClauses c.args.offset D a) c.supertype.result (supertype_of D a) c.in-Some.extended (refused c.check_extended_clauses.result) c.supertype.ensures.leads c.in-Some.is c.check_extended_clauses.ensures.told

pub returns-in-None-clause-told : goal.returns-in-None-clause-told
returns-in-None-clause-told g c =
    let D = declares c.args.types.now.groups in
    let a = c.args.id.index in
    of_none number (ToldOfExtendedClauses c.args.offset D a) c.supertype.result (supertype_of D a) c.supertype.ensures.leads c.in-None.is
