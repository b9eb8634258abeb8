use Rattle.std.proofs.Common.{arith, ◌≡◌, ◌<◌, ◌+◌, ◌-◌, ◌∙◌, ap, map, length}
use Rattle.std.specs.Vec.{vec_len}
use Rattle.wasm_validator_type_groups.specs.Parts.{seen, all_items}
use Rattle.wasm_validator_type_groups.proofs.PieceEnds.{before, piece_first, piece_end, piece_item}
use Rattle.wasm_validator_type_groups.proofs.parts.item_at.Goals as goal

pub overflow_sub-place : goal.overflow_sub-place
overflow_sub-place g c =
    let ps = c.args.parts.now.items in
    let first = piece_first seen c.args.from ps (c.args.from + length (all_items (map seen ps))) c.find.result c.index-part.result.now c.requires.stand c.find.ensures.index c.index-part.ensures in
    omega (arith, first, c.find.ensures.begins)

pub index-requires : goal.index-requires
index-requires g c =
    let ps = c.args.parts.now.items in
    let part = c.index-part.result.now in
    let first = piece_first seen c.args.from ps (c.args.from + length (all_items (map seen ps))) c.find.result part c.requires.stand c.find.ensures.index c.index-part.ensures in
    let end = piece_end seen ps c.find.result part c.find.ensures.index c.index-part.ensures in
    let v : vec_len c.deref.result.now ≡ length part.items.value.items = ap vec_len c.deref.ensures ∙ part.items.value.ok.0 in
    omega (arith, first, end, c.find.ensures.begins, c.find.ensures.ends, v)

pub returns : goal.returns
returns g c =
    let ps = c.args.parts.now.items in
    let part = c.index-part.result.now in
    let first = piece_first seen c.args.from ps (c.args.from + length (all_items (map seen ps))) c.find.result part c.requires.stand c.find.ensures.index c.index-part.ensures in
    let end = piece_end seen ps c.find.result part c.find.ensures.index c.index-part.ensures in
    let m : c.args.place - part.first < length part.items.value.items = omega (arith, first, end, c.find.ensures.begins, c.find.ensures.ends) in
    let at : c.args.place - c.args.from ≡ before seen ps c.find.result + (c.args.place - part.first) = omega (arith, first, c.find.ensures.begins) in
    let i = piece_item seen ps c.find.result (c.args.place - part.first) (c.args.place - c.args.from) part c.index.result.now c.find.ensures.index c.index-part.ensures m at in
    rw i (rw c.deref.ensures at c.index.ensures)
