use Rattle.std.proofs.Common.{◌≡◌, ◌∙◌, ap, length, take, slice_set, length-set}
use Rattle.std.proofs.lemmas.List.{with_items_is}
use Rattle.wasm_spec_side_tables.proofs.CountedLists.{put_in_both}
use Rattle.wasm_spec_side_tables.proofs.counted.Counted.set_both.Goals as goal

pub returns-then-other-count : goal.returns-then-other-count
returns-then-other-count g c =
    let n = c.self.inside.count in
    let i = c.args.index in
    let j = c.args.other in
    let x = c.args.item in
    let items = c.as_mut_slice-items.result.now in
    let long : length (slice_set (slice_set items i x) j x) ≡ c.self.inside.vec.len = length-set (slice_set items i x) j x ∙ length-set items i x ∙ c.as_mut_slice-items.ensures.len in
    ap (take n) (with_items_is c.self.inside.vec (slice_set (slice_set items i x) j x) long)
    ∙ ap (λ xs. take n (slice_set (slice_set xs i x) j x)) c.as_mut_slice-items.ensures.value
    ∙ put_in_both c.self.inside.vec.items n i j x c.if-index-count.true c.if-other-count.true
    ∙ ap (λ us. slice_set (slice_set us i x) j x) c.self.view_is
