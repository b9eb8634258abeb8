use Rattle.std.proofs.Common.{arith, ◌≡◌, ◌<◌, ◌+◌, ◌-◌, ◌∙◌, sym, subst, map, length, get_or}
use Rattle.wasm_validator_type_groups.specs.Parts.{seen, run_seen, all_items, PartsStand}
use Rattle.wasm_validator_type_groups.proofs.PieceEnds.{before, piece_first, piece_end, piece_item}
use Rattle.wasm_validator_type_groups.proofs.PartRuns.{is_run}
use Rattle.wasm_validator_type_groups.proofs.parts.item_of.Goals as goal

pub item_at-requires-clause-stand : goal.item_at-requires-clause-stand
item_at-requires-clause-stand g c =
    let run = c.index-run.result.now in
    subst (λ v. PartsStand run.first v.items (run.first + length (all_items (map seen v.items)))) (sym c.as_ref.ensures)
    (is_run c.args.runs.now.items c.find.result run c.requires.stand.each c.find.ensures.index c.index-run.ensures)

pub item_at-requires-clause-from : goal.item_at-requires-clause-from
item_at-requires-clause-from g c =
    let rs = c.args.runs.now.items in
    let first = piece_first run_seen 0 rs (length (all_items (map run_seen rs))) c.find.result c.index-run.result.now c.requires.stand.order c.find.ensures.index c.index-run.ensures in
    omega (arith, first, c.find.ensures.begins)

pub item_at-requires-clause-inside : goal.item_at-requires-clause-inside
item_at-requires-clause-inside g c =
    let rs = c.args.runs.now.items in
    let run = c.index-run.result.now in
    let first = piece_first run_seen 0 rs (length (all_items (map run_seen rs))) c.find.result run c.requires.stand.order c.find.ensures.index c.index-run.ensures in
    let end = piece_end run_seen rs c.find.result run c.find.ensures.index c.index-run.ensures in
    subst (λ v. c.args.place < run.first + length (all_items (map seen v.items))) (sym c.as_ref.ensures) (omega (arith, first, end, c.find.ensures.ends))

pub returns : goal.returns
returns g c =
    let rs = c.args.runs.now.items in
    let run = c.index-run.result.now in
    let item = c.item_at.result.now in
    let first = piece_first run_seen 0 rs (length (all_items (map run_seen rs))) c.find.result run c.requires.stand.order c.find.ensures.index c.index-run.ensures in
    let end = piece_end run_seen rs c.find.result run c.find.ensures.index c.index-run.ensures in
    let m : c.args.place - run.first < length (run_seen run).1 = omega (arith, first, end, c.find.ensures.begins, c.find.ensures.ends) in
    let at : c.args.place ≡ before run_seen rs c.find.result + (c.args.place - run.first) = omega (arith, first, c.find.ensures.begins) in
    let here : item ≡ get_or (run_seen run).1 (c.args.place - run.first) item = subst (λ v. item ≡ get_or (all_items (map seen v.items)) (c.args.place - run.first) item) c.as_ref.ensures c.item_at.ensures in
    here ∙ sym (piece_item run_seen rs c.find.result (c.args.place - run.first) c.args.place run item c.find.ensures.index c.index-run.ensures m at)
