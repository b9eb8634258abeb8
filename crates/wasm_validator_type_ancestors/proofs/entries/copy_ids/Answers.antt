use Rattle.std.proofs.Common.{◌+◌, ◌<◌, length, arith}
use Rattle.wasm_validator_type_ancestors.proofs.Store.{one-longer, kept-then, kept-push, copied-push}
use Rattle.wasm_validator_type_ancestors.proofs.entries.copy_ids.Goals as goal

pub copies-preserved : goal.copies-preserved
copies-preserved g c =
    let old = c.copies.ids in
    let new = c.push.new.self in
    let id = c.index-id.result.now in
    let within = c.requires (omega arith) in
    let last : c.args.from + c.copies.i < length old = omega (arith, within, c.copies.invariant.longer, c.copies-test.true) in
    record {
      kept = kept-then c.args.ids.now old new c.copies.invariant.kept (kept-push new old id c.in_ok-push.ensures.ok);
      longer = omega (arith, one-longer new old id c.in_ok-push.ensures.ok, c.copies.invariant.longer);
      copied = copied-push new old c.args.from (length c.args.ids.now) c.copies.i id c.in_ok-push.ensures.ok c.copies.invariant.longer last c.index-id.ensures c.copies.invariant.copied;
    }
