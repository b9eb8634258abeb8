use Rattle.std.proofs.Common.{sym, subst}
use Rattle.wasm_validator_type_ancestors.specs.Supers.{Tells}
use Rattle.wasm_validator_type_ancestors.proofs.ancestor_lists.AncestorLists.is_ancestor.Goals as goal

pub returns-clause-counts : goal.returns-clause-counts
returns-clause-counts g c = λ D t.
    rw (c.index-from.ensures, c.index-to.ensures) at (c.is_below.ensures.counts D (subst (λ s. Tells s D) (sym c.self.view_is) t))
