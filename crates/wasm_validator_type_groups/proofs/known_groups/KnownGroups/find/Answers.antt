use Rattle.std.proofs.Common.{◌∙◌, sym, subst, ◌<◌, true≢false}
use Rattle.wasm_validator_type_groups.proofs.HashChains.{IsLeft, steps_left, left-next, steps_fall}
use Rattle.wasm_validator_type_groups.proofs.known_groups.KnownGroups.find.Goals as goal

pub numbers-smaller : goal.numbers-smaller
numbers-smaller g c =
    let F = g.T.Hash.hash_input in
    let u = subst (IsLeft F c.args.groups.now c.args.group.now) c.in-Some.is c.numbers.invariant in
    subst (λ o. steps_left c.copied-next.result < steps_left o) (sym c.in-Some.is)
    (steps_fall F c.args.self.now c.args.groups.now c.args.group.now c.in-Some.number c.copied-next.result c.requires.known u (c.copied-next.ensures ∙ c.get.ensures.value))

pub numbers-preserved : goal.numbers-preserved
numbers-preserved g c =
    let F = g.T.Hash.hash_input in
    let u = subst (IsLeft F c.args.groups.now c.args.group.now) c.in-Some.is c.numbers.invariant in
    subst (IsLeft F c.args.groups.now c.args.group.now) (sym (c.copied-next.ensures ∙ c.get.ensures.value))
    (left-next F c.args.self.now c.args.groups.now c.args.group.now c.in-Some.number c.requires.known u (λ e. true≢false (sym (c.is_group.ensures.1 e) ∙ c.if-is_group.false)))
