use Rattle.std.proofs.Common.{◌+◌, refl, sym, subst, arith}
use Rattle.wasm_validator_type_ancestors.specs.Entries.{AreCopied}
use Rattle.wasm_validator_type_ancestors.proofs.Store.{kept-push, copied-kept, last-there}
use Rattle.wasm_validator_type_ancestors.proofs.Growth.{more-listed}
use Rattle.wasm_validator_type_ancestors.proofs.entries.one_more.Goals as goal

pub returns-clause-more : goal.returns-clause-more
returns-clause-more g c =
    let old = c.copy_ids.new.ids in
    let new = c.push.new.self in
    let start = c.len-start.result in
    let count = c.args.entry.count in
    let copied = subst (λ n. AreCopied old c.args.entry.start n count) (sym c.len-start.ensures) c.in_ok-copy_ids.ensures.copied in
    more-listed new c.args.parent c.args.entry (record { start = start; count = count + 1 }) (omega (arith, c.if-count-gt-MAX_LISTED.false)) refl
    (last-there new old c.args.parent (start + count) c.in_ok-push.ensures.ok (omega (arith, c.len-start.ensures, c.in_ok-copy_ids.ensures.longer)))
    (copied-kept old new c.args.entry.start start count (kept-push new old c.args.parent c.in_ok-push.ensures.ok) copied)
