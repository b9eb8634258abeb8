use Rattle.std.proofs.Common.{◌≡◌, sym, ap, ◌∙◌, is_ok, false, arith}
use Rattle.std.proofs.lemmas.Bool.Decides.{Decides-like}
use Rattle.std.proofs.lemmas.Grind.{common_steps}
use Rattle.wasm_validator_resources.specs.WasmSpecRules.FeatureFlags.{features_of}
use Rattle.wasm_readers_types.specs.SeenTypes.{comp_of}
use Rattle.wasm_validator_type_list.specs.DeclarationsById.{declares}
use Rattle.wasm_validator_type_list.specs.GroupTypes.{leads_in}
use Rattle.wasm_validator_resources.specs.AllowedComposites.{allows_comp}
use Rattle.wasm_validator_type_checks.specs.TypesById.{says}
use Rattle.wasm_validator_type_checks.specs.Rules.{CompositeRules}
use Rattle.wasm_validator_type_checks.proofs.AllowedComposites.{comp_allowed}
use Rattle.wasm_validator_type_checks.proofs.ListedTypes.{listed_comp}
use Rattle.wasm_validator_type_checks.proofs.Rules.{declares_rule, rule_declared, composite_rules, composite_allowed, members_shared}
use Rattle.wasm_validator_type_checks.proofs.RuleTests.{misses, decided_itself}
use Rattle.wasm_validator_resources.specs.WasmReadersErrors.Refusals.{refused}
use Rattle.wasm_validator_type_checks.proofs.RefusalSteps.{stopped, went, or_stopped, or_went, declared_tells, comp_told}
use Rattle.wasm_validator_type_checks.proofs.composite_types.check_composite_type.Goals as goal

pub returns-in_err-check_composite_type-clause-decided : goal.returns-in_err-check_composite_type-clause-decided
returns-in_err-check_composite_type-clause-decided g c =
    let D = declares c.args.types.now.groups in
    let F = features_of c.args.features in
    let ty = c.index.result.now in
    let k = c.group_of-group.result.index in
    let s = says c.args.types.now.groups k ty in
    let e = (c.group_of-group.ensures.listed ty c.index.ensures).declared in
    let failed : is_ok c.from_residual-in_err-check_composite_type.result ≡ false = grind (arith, common_steps) in
    misses (is_ok c.check_composite_type.result) (is_ok c.from_residual-in_err-check_composite_type.result)
    (decided_itself (is_ok c.check_composite_type.result) (allows_comp F (comp_of ty.composite_type.inner)) c.check_composite_type.ensures.allowed) (ap is_ok c.in_err-check_composite_type.was) failed
    (λ r. sym (comp_allowed (leads_in c.args.types.now.groups k) F (comp_of ty.composite_type.inner)) ∙ composite_allowed F D s (rule_declared D c.args.id.index s e {P = CompositeRules F D} r))

pub check_members-requires : goal.check_members-requires
check_members-requires g c = listed_comp c.args.types.now.groups c.args.id.index c.group_of-group.result.index c.index.result.now (c.group_of-group.ensures.listed c.index.result.now c.index.ensures)

pub check_continuation-requires : goal.check_continuation-requires
check_continuation-requires g c = listed_comp c.args.types.now.groups c.args.id.index c.group_of-group.result.index c.index.result.now (c.group_of-group.ensures.listed c.index.result.now c.index.ensures)

pub returns-in_err-check_members-clause-decided : goal.returns-in_err-check_members-clause-decided
returns-in_err-check_members-clause-decided g c =
    let D = declares c.args.types.now.groups in
    let F = features_of c.args.features in
    let ty = c.index.result.now in
    let s = says c.args.types.now.groups c.group_of-group.result.index ty in
    let e = (c.group_of-group.ensures.listed ty c.index.ensures).declared in
    let failed : is_ok c.from_residual-in_err-check_members.result ≡ false = grind (arith, common_steps) in
    misses (is_ok c.check_members.result) (is_ok c.from_residual-in_err-check_members.result) (decided_itself _ _ c.check_members.ensures.allowed) (ap is_ok c.in_err-check_members.was) failed
    (λ r. members_shared F D s (rule_declared D c.args.id.index s e {P = CompositeRules F D} r))

pub returns-clause-decided : goal.returns-clause-decided
returns-clause-decided g c =
    let D = declares c.args.types.now.groups in
    let F = features_of c.args.features in
    let ty = c.index.result.now in
    let k = c.group_of-group.result.index in
    let s = says c.args.types.now.groups k ty in
    let e = (c.group_of-group.ensures.listed ty c.index.ensures).declared in
    Decides-like (is_ok c.check_continuation.result)
    (λ m. declares_rule D c.args.id.index s e {P = CompositeRules F D} (composite_rules F D s
    (sym c.check_shared_flag.ensures.allowed ∙ ap is_ok c.in_ok-check_shared_flag.was)
    (comp_allowed (leads_in c.args.types.now.groups k) F (comp_of ty.composite_type.inner) ∙ sym c.check_composite_type.ensures.allowed ∙ ap is_ok c.in_ok-check_composite_type.was)
    (sym c.check_members.ensures.allowed ∙ ap is_ok c.in_ok-check_members.was) m))
    (λ r. (rule_declared D c.args.id.index s e {P = CompositeRules F D} r).continuation_is_of_function)
    c.check_continuation.ensures.decided

pub returns-in_err-check_shared_flag-clause-told : goal.returns-in_err-check_shared_flag-clause-told
returns-in_err-check_shared_flag-clause-told g c =
    let D = declares c.args.types.now.groups in
    let a = c.args.id.index in
    let ty = c.index.result.now in
    let k = c.group_of-group.result.index in
    let f = leads_in c.args.types.now.groups k in
    let s = says c.args.types.now.groups k ty in
    let d = (c.group_of-group.ensures.listed ty c.index.ensures).declared in
    let t = refused c.from_residual.result in
    let e : refused c.from_residual.result ≡ refused c.check_shared_flag.result = grind (arith, common_steps) in
    declared_tells _ (D a) s t d (stopped c.check_shared_flag.result t (ap is_ok c.in_err-check_shared_flag.was) e (or_stopped c.check_shared_flag.result _ _ (ap is_ok c.in_err-check_shared_flag.was) c.check_shared_flag.ensures.told))

pub returns-in_err-check_composite_type-clause-told : goal.returns-in_err-check_composite_type-clause-told
returns-in_err-check_composite_type-clause-told g c =
    let D = declares c.args.types.now.groups in
    let a = c.args.id.index in
    let ty = c.index.result.now in
    let k = c.group_of-group.result.index in
    let f = leads_in c.args.types.now.groups k in
    let s = says c.args.types.now.groups k ty in
    let d = (c.group_of-group.ensures.listed ty c.index.ensures).declared in
    let t = refused c.from_residual-in_err-check_composite_type.result in
    let e : refused c.from_residual-in_err-check_composite_type.result ≡ refused c.check_composite_type.result = grind (arith, common_steps) in
    declared_tells _ (D a) s t d (stopped c.check_composite_type.result t (ap is_ok c.in_err-check_composite_type.was) e (or_went c.check_shared_flag.result _ _ (refused c.check_composite_type.result) (ap is_ok c.in_ok-check_shared_flag.was) c.check_shared_flag.ensures.told (or_stopped c.check_composite_type.result _ _ (ap is_ok c.in_err-check_composite_type.was) (c.check_composite_type.ensures.told ∙ sym (comp_told c.args.features c.args.offset f (comp_of ty.composite_type.inner))))))

pub returns-in_err-check_members-clause-told : goal.returns-in_err-check_members-clause-told
returns-in_err-check_members-clause-told g c =
    let D = declares c.args.types.now.groups in
    let a = c.args.id.index in
    let ty = c.index.result.now in
    let k = c.group_of-group.result.index in
    let f = leads_in c.args.types.now.groups k in
    let s = says c.args.types.now.groups k ty in
    let d = (c.group_of-group.ensures.listed ty c.index.ensures).declared in
    let t = refused c.from_residual-in_err-check_members.result in
    let e : refused c.from_residual-in_err-check_members.result ≡ refused c.check_members.result = grind (arith, common_steps) in
    declared_tells _ (D a) s t d (stopped c.check_members.result t (ap is_ok c.in_err-check_members.was) e (or_went c.check_shared_flag.result _ _ (refused c.check_members.result) (ap is_ok c.in_ok-check_shared_flag.was) c.check_shared_flag.ensures.told (or_went c.check_composite_type.result _ _ (refused c.check_members.result) (ap is_ok c.in_ok-check_composite_type.was) (c.check_composite_type.ensures.told ∙ sym (comp_told c.args.features c.args.offset f (comp_of ty.composite_type.inner))) c.check_members.ensures.told)))

pub returns-clause-told : goal.returns-clause-told
returns-clause-told g c =
    let D = declares c.args.types.now.groups in
    let a = c.args.id.index in
    let ty = c.index.result.now in
    let k = c.group_of-group.result.index in
    let f = leads_in c.args.types.now.groups k in
    let s = says c.args.types.now.groups k ty in
    let d = (c.group_of-group.ensures.listed ty c.index.ensures).declared in
    let t = refused c.check_continuation.result in
    declared_tells _ (D a) s t d (went c.check_members.result t (ap is_ok c.in_ok-check_members.was) (or_went c.check_shared_flag.result _ _ (refused c.check_members.result) (ap is_ok c.in_ok-check_shared_flag.was) c.check_shared_flag.ensures.told (or_went c.check_composite_type.result _ _ (refused c.check_members.result) (ap is_ok c.in_ok-check_composite_type.was) (c.check_composite_type.ensures.told ∙ sym (comp_told c.args.features c.args.offset f (comp_of ty.composite_type.inner))) c.check_members.ensures.told)) c.check_continuation.ensures.told)
