use Rattle.std.proofs.Common.{sym}
use Rattle.wasm_validator_canonical.proofs.DepthsOfIds.{top_depth, next_depth_fits}
use Rattle.wasm_validator_canonical.proofs.KeptDepths.{known_above, none_above}
use Rattle.wasm_validator_canonical.proofs.depths.known_depth.Goals as goal

pub returns-in-Some-subtyping_depth-clause-right : goal.returns-in-Some-subtyping_depth-clause-right
returns-in-Some-subtyping_depth-clause-right g c =
    next_depth_fits c.args.types.now.groups c.args.id.index c.in-Some.extended c.in-Some-subtyping_depth.depth c.checked_add.result _ c.in-Some.ensures c.in-Some-subtyping_depth.ensures.right.depth c.checked_add.ensures

pub returns-in-Some-subtyping_depth-clause-known : goal.returns-in-Some-subtyping_depth-clause-known
returns-in-Some-subtyping_depth-clause-known g c = λ fits above.
    known_above c.args.types.now c.args.id.index c.in-Some.extended c.in-Some-subtyping_depth.depth c.checked_add.result c.in-Some.ensures c.in-Some-subtyping_depth.ensures.right.depth c.checked_add.ensures fits

pub returns-in-None-subtyping_depth-clause-known : goal.returns-in-None-subtyping_depth-clause-known
returns-in-None-subtyping_depth-clause-known g c = λ fits above. none_above c.args.types.now c.args.id.index c.in-Some.extended _ c.in-Some.ensures (sym c.in-None-subtyping_depth.ensures.kept) above

pub returns-in-None-clause-right : goal.returns-in-None-clause-right
returns-in-None-clause-right g c = top_depth c.args.types.now.groups c.args.id.index c.in-None.ensures
