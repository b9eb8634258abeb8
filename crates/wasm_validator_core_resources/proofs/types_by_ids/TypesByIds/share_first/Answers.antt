use Rattle.std.proofs.Common.{◌≤◌, ap, length, arith}
use Rattle.wasm_validator_core_resources.proofs.SharedTypes.{front_is_first, kept_by_front}
use Rattle.wasm_validator_core_resources.proofs.types_by_ids.TypesByIds.share_first.Goals as goal

pub returns-then-len-clause-first : goal.returns-then-len-clause-first
returns-then-len-clause-first g c = front_is_first c.args.list.now.groups c.in_ok-front.front c.types.result.now c.types.ensures c.in_ok-front.ensures c.requires.ids

pub returns-then-len-clause-kept : goal.returns-then-len-clause-kept
returns-then-len-clause-kept g c =
    let first = front_is_first c.args.list.now.groups c.in_ok-front.front c.types.result.now c.types.ensures c.in_ok-front.ensures c.requires.ids in
    let fewer : length c.args.self.now ≤ length c.in_ok-front.front = omega (arith, c.if-len.true, c.len.ensures, c.len-2.ensures, ap length c.self.view_is) in
    kept_by_front c.args.list.now.groups c.args.self.now c.in_ok-front.front c.requires.first first fewer
