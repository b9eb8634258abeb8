use Rattle.std.proofs.Common.{ap, arith, length}
use Rattle.wasm_validator_type_list.specs.DeclarationsById.{declares}
use Rattle.wasm_validator_type_list.specs.ListViews.{Listing, types_in}
use Rattle.wasm_validator_type_list.proofs.Ancestors.{as_many, ids_tell}
use Rattle.wasm_validator_type_list.proofs.type_list.TypeList.id_is_subtype_counted.Goals as goal

pub is_ancestor-requires-clause-sub : goal.is_ancestor-requires-clause-sub
is_ancestor-requires-clause-sub g c = omega (arith, c.requires.sub, as_many c.self.inside c.self.invariant, ap (λ (l : Listing _). length (types_in l)) c.self.view_is)

pub is_ancestor-requires-clause-sup : goal.is_ancestor-requires-clause-sup
is_ancestor-requires-clause-sup g c = omega (arith, c.requires.sup, as_many c.self.inside c.self.invariant, ap (λ (l : Listing _). length (types_in l)) c.self.view_is)

pub returns-clause-decides : goal.returns-clause-decides
returns-clause-decides g c = c.is_ancestor.ensures.decides (declares c.args.self.now.groups) (ids_tell c.self.inside c.args.self.now c.self.view_is c.self.invariant)

pub returns-clause-counts : goal.returns-clause-counts
returns-clause-counts g c = c.is_ancestor.ensures.counts (declares c.args.self.now.groups) (ids_tell c.self.inside c.args.self.now c.self.view_is c.self.invariant)

pub returns-clause-one : goal.returns-clause-one
returns-clause-one g c = c.is_ancestor.ensures.one (declares c.args.self.now.groups) (ids_tell c.self.inside c.args.self.now c.self.view_is c.self.invariant)
