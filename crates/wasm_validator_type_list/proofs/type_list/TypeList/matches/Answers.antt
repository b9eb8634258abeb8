use Rattle.wasm_validator_type_list.proofs.Relations.{listable_of}
use Rattle.wasm_validator_type_list.proofs.CompositeMatching.{comp_in, declared_match}
use Rattle.wasm_validator_type_list.proofs.type_list.TypeList.matches.Goals as goal

pub subs_match-requires-clause-sub : goal.subs_match-requires-clause-sub
subs_match-requires-clause-sub g c =
    comp_in c.args.self.now c.rec_group_id_of-a_group.result.index c.args.a.index c.index.result.now (listable_of c.self.inside c.args.self.now c.self.view_is c.self.invariant) c.rec_group_id_of-a_group.ensures c.requires.sub c.index.ensures

pub subs_match-requires-clause-sup : goal.subs_match-requires-clause-sup
subs_match-requires-clause-sup g c =
    comp_in c.args.self.now c.rec_group_id_of-b_group.result.index c.args.b.index c.index-2.result.now (listable_of c.self.inside c.args.self.now c.self.view_is c.self.invariant) c.rec_group_id_of-b_group.ensures c.requires.sup c.index-2.ensures

pub returns : goal.returns
returns g c =
    declared_match c.args.self.now c.args.a.index c.args.b.index c.rec_group_id_of-a_group.result.index c.rec_group_id_of-b_group.result.index c.index.result.now c.index-2.result.now c.subs_match.result
    c.rec_group_id_of-a_group.ensures c.rec_group_id_of-b_group.ensures c.requires.sub c.requires.sup c.index.ensures c.index-2.ensures c.subs_match.ensures
