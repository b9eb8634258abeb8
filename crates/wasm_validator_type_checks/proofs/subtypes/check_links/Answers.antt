use Rattle.std.proofs.Common.{◌≡◌, ◌<◌, refl, sym, ap, ◌∙◌, Some, true, false, arith}
use Rattle.wasm_validator_type_list.specs.DeclarationsById.{declares}
use Rattle.wasm_validator_type_checks.specs.TypesById.{numbered}
use Rattle.wasm_validator_type_checks.proofs.LinkDepths.{next_link, ends_before, goes_on}
use Rattle.wasm_validator_type_checks.proofs.subtypes.check_links.Goals as goal

pub links-preserved : goal.links-preserved
links-preserved g c = record {
  leads = next_link (declares c.args.types.now.groups) c.links.depth c.args.id.index c.links.ancestor.index (Some c.in-Some.extended.index) c.links.invariant.leads (sym c.supertype.ensures.leads ∙ ap numbered c.in-Some.is);
  inside = c.in-Some.ensures.there;
}

pub returns-in-None-clause-decided : goal.returns-in-None-clause-decided
returns-in-None-clause-decided g c =
    let below : c.links.depth < 64 = omega arith in
    ends_before (declares c.args.types.now.groups) c.links.depth 64 c.args.id.index c.links.ancestor.index true below c.links.invariant.leads (sym c.supertype.ensures.leads ∙ ap numbered c.in-None.is) refl

pub returns-clause-decided : goal.returns-clause-decided
returns-clause-decided g c =
    let end : c.links.depth ≡ 64 = omega arith in
    goes_on (declares c.args.types.now.groups) c.links.depth 64 c.args.id.index c.links.ancestor.index false end c.links.invariant.leads refl
