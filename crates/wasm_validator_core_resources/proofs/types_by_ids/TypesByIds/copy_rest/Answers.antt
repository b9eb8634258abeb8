use Rattle.std.proofs.Common.{◌≤◌, sym, length, arith}
use Rattle.wasm_validator_type_list.specs.ListViews.{types_in}
use Rattle.wasm_validator_core_resources.proofs.ById.{one_more_is_first, one_longer, kept_with_one_more, all_are_by_ids}
use Rattle.wasm_validator_core_resources.proofs.types_by_ids.TypesByIds.copy_rest.Goals as goal

pub loop-place-preserved : goal.loop-place-preserved
loop-place-preserved g c =
    let at = c.loop-place in
    let ts = at.self-inside.types in
    let pushed = c.in_ok-push.ensures.ok in
    let more = c.push.new.self in
    record {
      first = one_more_is_first c.args.list.now.groups ts more c.in_ok-ty.ty at.place pushed (sym at.invariant.count) c.in_ok-ty.ensures at.invariant.first;
      kept = kept_with_one_more c.args.self.now ts more c.in_ok-ty.ty pushed at.invariant.kept;
      count = let n = one_longer ts more c.in_ok-ty.ty pushed in omega (arith, n, at.invariant.count);
    }

pub returns-clause-all : goal.returns-clause-all
returns-clause-all g c =
    let at = c.loop-place in
    let ts = at.self-inside.types in
    let all : length (types_in c.args.list.now) ≤ length ts = omega (arith, at.invariant.count, c.len-place-end.ensures.count, c.loop-place-test.false) in
    all_are_by_ids c.args.list.now.groups ts all at.invariant.first
