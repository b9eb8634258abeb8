use Rattle.std.proofs.Common.{◌≡◌, sym, ap, ◌∙◌, is_ok, false, arith}
use Rattle.std.proofs.lemmas.Bool.Decides.{Decides-like}
use Rattle.std.proofs.lemmas.Grind.{common_steps}
use Rattle.wasm_spec.specs.GroupRules.{DescriptorRules}
use Rattle.wasm_validator_resources.specs.WasmSpecRules.FeatureFlags.{features_of}
use Rattle.wasm_readers_types.specs.SeenTypes.{sub_of}
use Rattle.wasm_validator_type_list.specs.DeclarationsById.{declares}
use Rattle.wasm_validator_type_list.specs.GroupTypes.{leads_in}
use Rattle.wasm_validator_type_checks.specs.TypesById.{says}
use Rattle.wasm_validator_type_checks.proofs.ListedTypes.{supertypes_declare}
use Rattle.wasm_validator_type_checks.proofs.Rules.{declares_rule, rule_declared, clauses_kept, descriptor_rules, extends_clauses_from, descriptor_from, described_from, finality_from}
use Rattle.wasm_validator_type_checks.proofs.RuleTests.{misses}
use Rattle.wasm_validator_resources.specs.WasmReadersErrors.Refusals.{refused}
use Rattle.wasm_validator_type_checks.proofs.RefusalSteps.{tells, stopped, went, declared_tells, clauses_told}
use Rattle.wasm_validator_type_checks.proofs.descriptors.check_descriptors.Goals as goal

pub returns-in_err-check_supertype_clauses-clause-decided : goal.returns-in_err-check_supertype_clauses-clause-decided
returns-in_err-check_supertype_clauses-clause-decided g c =
    let D = declares c.args.types.now.groups in
    let F = features_of c.args.features in
    let a = c.args.id.index in
    let ty = c.index.result.now in
    let s = says c.args.types.now.groups c.group_of-group.result.index ty in
    let e = (c.group_of-group.ensures.listed ty c.index.ensures).declared in
    let failed : is_ok c.from_residual-in_err-check_supertype_clauses.result ≡ false = grind (arith, common_steps) in
    misses (is_ok c.check_supertype_clauses.result) (is_ok c.from_residual-in_err-check_supertype_clauses.result) c.check_supertype_clauses.ensures.decided (ap is_ok c.in_err-check_supertype_clauses.was) failed
    (λ r. extends_clauses_from F D a s e (supertypes_declare c.args.types.now a c.group_of-group.ensures.listable c.requires) (rule_declared D a s e {P = DescriptorRules F D a} r))

pub returns-in_err-check_descriptor-clause-decided : goal.returns-in_err-check_descriptor-clause-decided
returns-in_err-check_descriptor-clause-decided g c =
    let D = declares c.args.types.now.groups in
    let F = features_of c.args.features in
    let a = c.args.id.index in
    let ty = c.index.result.now in
    let s = says c.args.types.now.groups c.group_of-group.result.index ty in
    let e = (c.group_of-group.ensures.listed ty c.index.ensures).declared in
    let failed : is_ok c.from_residual-in_err-check_descriptor.result ≡ false = grind (arith, common_steps) in
    misses (is_ok c.check_descriptor.result) (is_ok c.from_residual-in_err-check_descriptor.result) c.check_descriptor.ensures.decided (ap is_ok c.in_err-check_descriptor.was) failed
    (λ r. descriptor_from F D a s e (rule_declared D a s e {P = DescriptorRules F D a} r))

pub returns-in_err-check_described-clause-decided : goal.returns-in_err-check_described-clause-decided
returns-in_err-check_described-clause-decided g c =
    let D = declares c.args.types.now.groups in
    let F = features_of c.args.features in
    let a = c.args.id.index in
    let ty = c.index.result.now in
    let s = says c.args.types.now.groups c.group_of-group.result.index ty in
    let e = (c.group_of-group.ensures.listed ty c.index.ensures).declared in
    let failed : is_ok c.from_residual-in_err-check_described.result ≡ false = grind (arith, common_steps) in
    misses (is_ok c.check_described.result) (is_ok c.from_residual-in_err-check_described.result) c.check_described.ensures.decided (ap is_ok c.in_err-check_described.was) failed
    (λ r. described_from F D a s e (rule_declared D a s e {P = DescriptorRules F D a} r))

pub returns-clause-decided : goal.returns-clause-decided
returns-clause-decided g c =
    let D = declares c.args.types.now.groups in
    let F = features_of c.args.features in
    let a = c.args.id.index in
    let ty = c.index.result.now in
    let k = c.group_of-group.result.index in
    let s = says c.args.types.now.groups k ty in
    let e = (c.group_of-group.ensures.listed ty c.index.ensures).declared in
    Decides-like (is_ok c.check_finality.result)
    (λ d. declares_rule D a s e {P = DescriptorRules F D a} (descriptor_rules F D a s e
    (clauses_kept (leads_in c.args.types.now.groups k) F (sub_of ty) ∙ sym c.check_clauses.ensures.allowed ∙ ap is_ok c.in_ok-check_clauses.was)
    (c.check_supertype_clauses.ensures.decided.0 (ap is_ok c.in_ok-check_supertype_clauses.was))
    (c.check_descriptor.ensures.decided.0 (ap is_ok c.in_ok-check_descriptor.was))
    (c.check_described.ensures.decided.0 (ap is_ok c.in_ok-check_described.was)) d))
    (λ r. finality_from F D a s e (rule_declared D a s e {P = DescriptorRules F D a} r))
    c.check_finality.ensures.decided

pub returns-in_err-check_clauses-clause-told : goal.returns-in_err-check_clauses-clause-told
returns-in_err-check_clauses-clause-told g c =
    let D = declares c.args.types.now.groups in
    let a = c.args.id.index in
    let ty = c.index.result.now in
    let k = c.group_of-group.result.index in
    let s = says c.args.types.now.groups k ty in
    let d = (c.group_of-group.ensures.listed ty c.index.ensures).declared in
    let t = refused c.from_residual.result in
    let e : refused c.from_residual.result ≡ refused c.check_clauses.result = grind (arith, common_steps) in
    stopped c.check_clauses.result t (ap is_ok c.in_err-check_clauses.was) e (declared_tells _ (D a) s (refused c.check_clauses.result) d (c.check_clauses.ensures.told ∙ sym (clauses_told c.args.features c.args.offset (leads_in c.args.types.now.groups k) (sub_of ty))))

pub returns-in_err-check_supertype_clauses-clause-told : goal.returns-in_err-check_supertype_clauses-clause-told
returns-in_err-check_supertype_clauses-clause-told g c =
    let D = declares c.args.types.now.groups in
    let a = c.args.id.index in
    let ty = c.index.result.now in
    let k = c.group_of-group.result.index in
    let s = says c.args.types.now.groups k ty in
    let d = (c.group_of-group.ensures.listed ty c.index.ensures).declared in
    let t = refused c.from_residual-in_err-check_supertype_clauses.result in
    let e : refused c.from_residual-in_err-check_supertype_clauses.result ≡ refused c.check_supertype_clauses.result = grind (arith, common_steps) in
    went c.check_clauses.result t (ap is_ok c.in_ok-check_clauses.was) (declared_tells _ (D a) s (refused c.check_clauses.result) d (c.check_clauses.ensures.told ∙ sym (clauses_told c.args.features c.args.offset (leads_in c.args.types.now.groups k) (sub_of ty))))
    (stopped c.check_supertype_clauses.result t (ap is_ok c.in_err-check_supertype_clauses.was) e c.check_supertype_clauses.ensures.told)

pub returns-in_err-check_descriptor-clause-told : goal.returns-in_err-check_descriptor-clause-told
returns-in_err-check_descriptor-clause-told g c =
    let D = declares c.args.types.now.groups in
    let a = c.args.id.index in
    let ty = c.index.result.now in
    let k = c.group_of-group.result.index in
    let s = says c.args.types.now.groups k ty in
    let d = (c.group_of-group.ensures.listed ty c.index.ensures).declared in
    let t = refused c.from_residual-in_err-check_descriptor.result in
    let e : refused c.from_residual-in_err-check_descriptor.result ≡ refused c.check_descriptor.result = grind (arith, common_steps) in
    went c.check_clauses.result t (ap is_ok c.in_ok-check_clauses.was) (declared_tells _ (D a) s (refused c.check_clauses.result) d (c.check_clauses.ensures.told ∙ sym (clauses_told c.args.features c.args.offset (leads_in c.args.types.now.groups k) (sub_of ty))))
    (went c.check_supertype_clauses.result t (ap is_ok c.in_ok-check_supertype_clauses.was) c.check_supertype_clauses.ensures.told
    (stopped c.check_descriptor.result t (ap is_ok c.in_err-check_descriptor.was) e (tells c.check_descriptor.result _ c.check_descriptor.ensures.decided c.check_descriptor.ensures.told)))

pub returns-in_err-check_described-clause-told : goal.returns-in_err-check_described-clause-told
returns-in_err-check_described-clause-told g c =
    let D = declares c.args.types.now.groups in
    let a = c.args.id.index in
    let ty = c.index.result.now in
    let k = c.group_of-group.result.index in
    let s = says c.args.types.now.groups k ty in
    let d = (c.group_of-group.ensures.listed ty c.index.ensures).declared in
    let t = refused c.from_residual-in_err-check_described.result in
    let e : refused c.from_residual-in_err-check_described.result ≡ refused c.check_described.result = grind (arith, common_steps) in
    went c.check_clauses.result t (ap is_ok c.in_ok-check_clauses.was) (declared_tells _ (D a) s (refused c.check_clauses.result) d (c.check_clauses.ensures.told ∙ sym (clauses_told c.args.features c.args.offset (leads_in c.args.types.now.groups k) (sub_of ty))))
    (went c.check_supertype_clauses.result t (ap is_ok c.in_ok-check_supertype_clauses.was) c.check_supertype_clauses.ensures.told
    (went c.check_descriptor.result t (ap is_ok c.in_ok-check_descriptor.was) (tells c.check_descriptor.result _ c.check_descriptor.ensures.decided c.check_descriptor.ensures.told)
    (stopped c.check_described.result t (ap is_ok c.in_err-check_described.was) e (tells c.check_described.result _ c.check_described.ensures.decided c.check_described.ensures.told))))

pub returns-clause-told : goal.returns-clause-told
returns-clause-told g c =
    let D = declares c.args.types.now.groups in
    let a = c.args.id.index in
    let ty = c.index.result.now in
    let k = c.group_of-group.result.index in
    let s = says c.args.types.now.groups k ty in
    let d = (c.group_of-group.ensures.listed ty c.index.ensures).declared in
    let t = refused c.check_finality.result in
    went c.check_clauses.result t (ap is_ok c.in_ok-check_clauses.was) (declared_tells _ (D a) s (refused c.check_clauses.result) d (c.check_clauses.ensures.told ∙ sym (clauses_told c.args.features c.args.offset (leads_in c.args.types.now.groups k) (sub_of ty))))
    (went c.check_supertype_clauses.result t (ap is_ok c.in_ok-check_supertype_clauses.was) c.check_supertype_clauses.ensures.told
    (went c.check_descriptor.result t (ap is_ok c.in_ok-check_descriptor.was) (tells c.check_descriptor.result _ c.check_descriptor.ensures.decided c.check_descriptor.ensures.told)
    (went c.check_described.result t (ap is_ok c.in_ok-check_described.was) (tells c.check_described.result _ c.check_described.ensures.decided c.check_described.ensures.told) (tells c.check_finality.result _ c.check_finality.ensures.decided c.check_finality.ensures.told))))
