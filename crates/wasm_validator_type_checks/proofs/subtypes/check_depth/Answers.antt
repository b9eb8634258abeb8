use Rattle.std.proofs.Common.{◌<◌, ◌≤◌, arith}
use Rattle.wasm_validator_type_list.specs.DeclarationsById.{declares}
use Rattle.wasm_validator_type_checks.proofs.LinkDepths.{depth_below, depth_from}
use Rattle.wasm_validator_type_checks.proofs.subtypes.check_depth.Goals as goal

pub returns-then-depth-lt-TOO_DEEP-clause-decided : goal.returns-then-depth-lt-TOO_DEEP-clause-decided
returns-then-depth-lt-TOO_DEEP-clause-decided g c =
    let below : c.in-Some.depth < 64 = omega (arith, c.if-depth-lt-TOO_DEEP.true) in
    depth_below (declares c.args.types.now.groups) c.in-Some.depth 64 c.args.id.index below c.in-Some.ensures

pub returns-else-depth-lt-TOO_DEEP-clause-decided : goal.returns-else-depth-lt-TOO_DEEP-clause-decided
returns-else-depth-lt-TOO_DEEP-clause-decided g c =
    let from : 64 ≤ c.in-Some.depth = omega (arith, c.if-depth-lt-TOO_DEEP.false) in
    depth_from (declares c.args.types.now.groups) c.in-Some.depth 64 c.args.id.index from c.in-Some.ensures
