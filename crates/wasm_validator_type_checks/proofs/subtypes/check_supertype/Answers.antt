use Rattle.std.proofs.Common.{refl, is_ok, true}
use Rattle.wasm_spec.specs.SupertypeOrder.{supertype_of}
use Rattle.wasm_validator_type_list.specs.DeclarationsById.{declares}
use Rattle.wasm_validator_type_checks.specs.TypesById.{number}
use Rattle.wasm_validator_type_checks.specs.Rules.{MayExtend}
use Rattle.wasm_validator_type_checks.proofs.RuleTests.{on_none, on_some}
use Rattle.wasm_validator_type_checks.specs.TypeRefusals.{ToldOfExtended}
use Rattle.wasm_validator_type_checks.proofs.RefusalSteps.{of_some, of_none}
use Rattle.wasm_validator_resources.specs.WasmReadersErrors.Refusals.{refused}
use Rattle.wasm_validator_type_checks.proofs.subtypes.check_supertype.Goals as goal

pub returns-in-Some-clause-decided : goal.returns-in-Some-clause-decided
returns-in-Some-clause-decided g c =
    on_some number (MayExtend (declares c.args.types.now.groups) c.args.id.index) c.supertype.result (supertype_of (declares c.args.types.now.groups) c.args.id.index) c.in-Some.extended
    (is_ok c.check_extended.result) c.supertype.ensures.leads c.in-Some.is c.check_extended.ensures.decided

pub returns-in-None-clause-decided : goal.returns-in-None-clause-decided
returns-in-None-clause-decided g c =
    on_none number (MayExtend (declares c.args.types.now.groups) c.args.id.index) c.supertype.result (supertype_of (declares c.args.types.now.groups) c.args.id.index)
    true c.supertype.ensures.leads c.in-None.is refl

pub returns-in-Some-clause-told : goal.returns-in-Some-clause-told
returns-in-Some-clause-told g c =
    let D = declares c.args.types.now.groups in
    let a = c.args.id.index in
    of_some number (ToldOfExtended c.args.offset D a) c.supertype.result (supertype_of D a) c.in-Some.extended (refused c.check_extended.result) c.supertype.ensures.leads c.in-Some.is c.check_extended.ensures.told

pub returns-in-None-clause-told : goal.returns-in-None-clause-told
returns-in-None-clause-told g c =
    let D = declares c.args.types.now.groups in
    let a = c.args.id.index in
    of_none number (ToldOfExtended c.args.offset D a) c.supertype.result (supertype_of D a) c.supertype.ensures.leads c.in-None.is
