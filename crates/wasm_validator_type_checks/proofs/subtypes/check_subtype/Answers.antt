use Rattle.std.proofs.Common.{◌≡◌, sym, ap, ◌∙◌, is_ok, false, arith}
use Rattle.std.proofs.lemmas.Bool.Decides.{Decides-like}
use Rattle.std.proofs.lemmas.Grind.{common_steps}
use Rattle.wasm_spec.specs.GroupRules.{TypeRules}
use Rattle.wasm_validator_resources.specs.WasmSpecRules.FeatureFlags.{features_of}
use Rattle.wasm_readers_types.specs.SeenTypes.{sub_of}
use Rattle.wasm_validator_type_list.specs.DeclarationsById.{declares}
use Rattle.wasm_validator_type_list.specs.GroupTypes.{leads_in}
use Rattle.wasm_validator_type_checks.specs.TypesById.{says}
use Rattle.wasm_validator_type_checks.specs.Rules.{CompositeRules}
use Rattle.wasm_validator_type_checks.proofs.ListedTypes.{supertypes_declare}
use Rattle.wasm_validator_type_checks.proofs.Rules.{declares_rule, rule_declared, extending_kept, type_rules, extends_from, shallow_from}
use Rattle.wasm_validator_type_checks.proofs.RuleTests.{misses}
use Rattle.wasm_validator_resources.specs.WasmReadersErrors.Refusals.{refused}
use Rattle.wasm_validator_type_checks.proofs.RefusalSteps.{tells, handed_on, stopped, went, declared_tells, extending_told}
use Rattle.wasm_validator_type_checks.proofs.subtypes.check_subtype.Goals as goal

pub returns-in_err-check_supertype-clause-decided : goal.returns-in_err-check_supertype-clause-decided
returns-in_err-check_supertype-clause-decided g c =
    let D = declares c.args.types.now.groups in
    let F = features_of c.args.features in
    let a = c.args.id.index in
    let ty = c.index.result.now in
    let s = says c.args.types.now.groups c.group_of-group.result.index ty in
    let e = (c.group_of-group.ensures.listed ty c.index.ensures).declared in
    let failed : is_ok c.from_residual-in_err-check_supertype.result ≡ false = grind (arith, common_steps) in
    misses (is_ok c.check_supertype.result) (is_ok c.from_residual-in_err-check_supertype.result) c.check_supertype.ensures.decided (ap is_ok c.in_err-check_supertype.was) failed
    (λ r. extends_from F D a s e (supertypes_declare c.args.types.now a c.group_of-group.ensures.listable c.requires) (rule_declared D a s e {P = TypeRules F D a} r))

pub returns-clause-decided : goal.returns-clause-decided
returns-clause-decided g c =
    let D = declares c.args.types.now.groups in
    let F = features_of c.args.features in
    let a = c.args.id.index in
    let ty = c.index.result.now in
    let k = c.group_of-group.result.index in
    let s = says c.args.types.now.groups k ty in
    let e = (c.group_of-group.ensures.listed ty c.index.ensures).declared in
    Decides-like (is_ok c.check_depth.result)
    (λ d. declares_rule D a s e {P = TypeRules F D a} (type_rules F D a s e
    (extending_kept (leads_in c.args.types.now.groups k) F (sub_of ty) ∙ sym c.check_extending.ensures.allowed ∙ ap is_ok c.in_ok-check_extending.was)
    (rule_declared D a s e {P = CompositeRules F D} (c.check_composite_type.ensures.decided.0 (ap is_ok c.in_ok-check_composite_type.was)))
    (c.check_supertype.ensures.decided.0 (ap is_ok c.in_ok-check_supertype.was)) d))
    (λ r. shallow_from F D a s (rule_declared D a s e {P = TypeRules F D a} r))
    c.check_depth.ensures.decided

pub returns-in_err-check_extending-clause-told : goal.returns-in_err-check_extending-clause-told
returns-in_err-check_extending-clause-told g c =
    let D = declares c.args.types.now.groups in
    let a = c.args.id.index in
    let ty = c.index.result.now in
    let k = c.group_of-group.result.index in
    let s = says c.args.types.now.groups k ty in
    let d = (c.group_of-group.ensures.listed ty c.index.ensures).declared in
    let t = refused c.from_residual.result in
    let e : refused c.from_residual.result ≡ refused c.check_extending.result = grind (arith, common_steps) in
    stopped c.check_extending.result t (ap is_ok c.in_err-check_extending.was) e (declared_tells _ (D a) s (refused c.check_extending.result) d (c.check_extending.ensures.told ∙ sym (extending_told c.args.features c.args.offset (leads_in c.args.types.now.groups k) (sub_of ty))))

pub returns-in_err-check_composite_type-clause-told : goal.returns-in_err-check_composite_type-clause-told
returns-in_err-check_composite_type-clause-told g c =
    let D = declares c.args.types.now.groups in
    let a = c.args.id.index in
    let ty = c.index.result.now in
    let k = c.group_of-group.result.index in
    let s = says c.args.types.now.groups k ty in
    let d = (c.group_of-group.ensures.listed ty c.index.ensures).declared in
    let t = refused c.from_residual-in_err-check_composite_type.result in
    let e : refused c.from_residual-in_err-check_composite_type.result ≡ refused c.check_composite_type.result = handed_on _ _ _ c.in_err-check_composite_type.was c.from_residual-in_err-check_composite_type.ensures.1 in
    went c.check_extending.result t (ap is_ok c.in_ok-check_extending.was) (declared_tells _ (D a) s (refused c.check_extending.result) d (c.check_extending.ensures.told ∙ sym (extending_told c.args.features c.args.offset (leads_in c.args.types.now.groups k) (sub_of ty))))
    (stopped c.check_composite_type.result t (ap is_ok c.in_err-check_composite_type.was) e c.check_composite_type.ensures.told)

pub returns-in_err-check_supertype-clause-told : goal.returns-in_err-check_supertype-clause-told
returns-in_err-check_supertype-clause-told g c =
    let D = declares c.args.types.now.groups in
    let a = c.args.id.index in
    let ty = c.index.result.now in
    let k = c.group_of-group.result.index in
    let s = says c.args.types.now.groups k ty in
    let d = (c.group_of-group.ensures.listed ty c.index.ensures).declared in
    let t = refused c.from_residual-in_err-check_supertype.result in
    let e : refused c.from_residual-in_err-check_supertype.result ≡ refused c.check_supertype.result = grind (arith, common_steps) in
    went c.check_extending.result t (ap is_ok c.in_ok-check_extending.was) (declared_tells _ (D a) s (refused c.check_extending.result) d (c.check_extending.ensures.told ∙ sym (extending_told c.args.features c.args.offset (leads_in c.args.types.now.groups k) (sub_of ty))))
    (went c.check_composite_type.result t (ap is_ok c.in_ok-check_composite_type.was) c.check_composite_type.ensures.told
    (stopped c.check_supertype.result t (ap is_ok c.in_err-check_supertype.was) e c.check_supertype.ensures.told))

pub returns-clause-told : goal.returns-clause-told
returns-clause-told g c =
    let D = declares c.args.types.now.groups in
    let a = c.args.id.index in
    let ty = c.index.result.now in
    let k = c.group_of-group.result.index in
    let s = says c.args.types.now.groups k ty in
    let d = (c.group_of-group.ensures.listed ty c.index.ensures).declared in
    let t = refused c.check_depth.result in
    went c.check_extending.result t (ap is_ok c.in_ok-check_extending.was) (declared_tells _ (D a) s (refused c.check_extending.result) d (c.check_extending.ensures.told ∙ sym (extending_told c.args.features c.args.offset (leads_in c.args.types.now.groups k) (sub_of ty))))
    (went c.check_composite_type.result t (ap is_ok c.in_ok-check_composite_type.was) c.check_composite_type.ensures.told
    (went c.check_supertype.result t (ap is_ok c.in_ok-check_supertype.was) c.check_supertype.ensures.told (tells c.check_depth.result _ c.check_depth.ensures.decided c.check_depth.ensures.told)))
