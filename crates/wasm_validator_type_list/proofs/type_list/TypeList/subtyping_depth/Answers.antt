use Rattle.wasm_validator_type_list.proofs.ListInvariants.{kept_seen, kept_right_if}
use Rattle.wasm_validator_type_list.proofs.type_list.TypeList.subtyping_depth.Goals as goal

pub returns-clause-kept : goal.returns-clause-kept
returns-clause-kept g c = kept_seen c.self.inside c.args.self.now c.index.result c.args.id.index c.get.result c.self.view_is c.index.ensures c.get.ensures

pub returns-clause-right : goal.returns-clause-right
returns-clause-right g c =
    kept_right_if c.self.inside c.args.self.now c.args.id.index c.get.result c.self.view_is c.self.invariant
    (kept_seen c.self.inside c.args.self.now c.index.result c.args.id.index c.get.result c.self.view_is c.index.ensures c.get.ensures)
