use Rattle.std.proofs.Common.{◌∙◌, List, length, ap, sym, subst}
use Rattle.std.proofs.lemmas.Result.{on_ok_weaker, on_err_weaker}
use Rattle.wasm_validator_type_groups.specs.Groups.{all_in}
use Rattle.wasm_validator_type_ancestors.specs.declared.entries.Entry.{Entry}
use Rattle.wasm_validator_type_ancestors.specs.Entries.{supers_of, AreEntries}
use Rattle.wasm_validator_type_ancestors.proofs.Results.{on_err, either}
use Rattle.wasm_validator_type_ancestors.proofs.Growth.{entries-kept, supers-kept}
use Rattle.wasm_validator_type_ancestors.proofs.AncestorExtensions.{as-many, says-all}
use Rattle.wasm_validator_type_ancestors.proofs.ancestor_lists.AncestorLists.push_group.Goals as goal

pub invariant_of-self : goal.invariant_of-self
invariant_of-self g c = entries-kept c.self.inside.entries c.self.inside.ids c.entries_of.new.ids c.in_err-more.ensures.kept c.self.invariant

pub returns-in_err-more-clause-err : goal.returns-in_err-more-clause-err
returns-in_err-more-clause-err g c =
    on_err c.from_residual.result (supers-kept c.self.inside.entries c.self.inside.ids c.entries_of.new.ids c.in_err-more.ensures.kept c.self.invariant ∙ c.self.view_is)

pub invariant_of-self-2 : goal.invariant_of-self-2
invariant_of-self-2 g c =
    let a = c.self.inside in
    let new = c.entries_of.new.ids in
    either c.push_noted.result c.push_noted.ensures.noted c.push_noted.ensures.not_noted
    (λ e. subst (λ (es : List Entry). AreEntries es new) (sym e) c.in_ok-more.ensures.stand)
    (λ e. subst (λ (es : List Entry). AreEntries es new) (sym e) (entries-kept a.entries a.ids new c.in_ok-more.ensures.kept c.self.invariant))

pub returns-clause-lists : goal.returns-clause-lists
returns-clause-lists g c =
    let a = c.self.inside in
    let n = length (all_in c.args.groups.now) in
    let l = as-many a.entries a.ids c.args.self.now n c.self.view_is c.requires.as_many in
    on_ok_weaker c.push_noted.result
    (λ e. says-all a.entries c.in_ok-more.more.items c.push_noted.new.notes a.ids c.entries_of.new.ids c.args.self.now c.deref.result.now c.args.group.items n e c.in_ok-more.ensures.says c.self.view_is l c.deref.ensures.value)
    c.push_noted.ensures.noted

pub returns-clause-err : goal.returns-clause-err
returns-clause-err g c =
    let a = c.self.inside in
    let new = c.entries_of.new.ids in
    on_err_weaker c.push_noted.result
    (λ e. ap (supers_of new) e ∙ supers-kept a.entries a.ids new c.in_ok-more.ensures.kept c.self.invariant ∙ c.self.view_is)
    c.push_noted.ensures.not_noted
