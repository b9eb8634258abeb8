use Rattle.std.proofs.Common.{arith, ◌∙◌, sym, subst, map}
use Rattle.wasm_validator_type_groups.specs.Parts.{seen, run_seen, all_items, RunsStand}
use Rattle.wasm_validator_type_groups.proofs.PieceEnds.{end-is, ends, in_closed, in_open}
use Rattle.wasm_validator_type_groups.proofs.PartRuns.{runs_end}
use Rattle.wasm_validator_type_groups.proofs.parts.closed_item.Goals as goal

pub item_at-requires-clause-stand : goal.item_at-requires-clause-stand
item_at-requires-clause-stand g c = ends c.args.middle (map seen c.args.parts.now.items) c.args.before c.requires.parts

pub item_at-requires-clause-inside : goal.item_at-requires-clause-inside
item_at-requires-clause-inside g c = omega (arith, c.requires.inside, end-is c.args.middle (map seen c.args.parts.now.items) c.args.before c.requires.parts)

pub item_of-requires-clause-stand : goal.item_of-requires-clause-stand
item_of-requires-clause-stand g c = subst (RunsStand c.args.runs.now.items) (runs_end c.args.runs.now.items c.args.middle c.requires.runs) c.requires.runs

pub item_of-requires-clause-inside : goal.item_of-requires-clause-inside
item_of-requires-clause-inside g c = omega (arith, c.if-place-middle.false, runs_end c.args.runs.now.items c.args.middle c.requires.runs)

pub returns-then-place-middle : goal.returns-then-place-middle
returns-then-place-middle g c =
    let runs = all_items (map run_seen c.args.runs.now.items) in
    let parts = all_items (map seen c.args.parts.now.items) in
    let end = runs_end c.args.runs.now.items c.args.middle c.requires.runs in
    c.item_at.ensures ∙ sym (in_open runs parts c.args.middle c.args.place c.item_at.result.now end c.if-place-middle.true)

pub returns-else-place-middle : goal.returns-else-place-middle
returns-else-place-middle g c =
    let runs = all_items (map run_seen c.args.runs.now.items) in
    let parts = all_items (map seen c.args.parts.now.items) in
    let end = runs_end c.args.runs.now.items c.args.middle c.requires.runs in
    c.item_of.ensures ∙ sym (in_closed runs parts c.args.middle c.args.place c.item_of.result.now end (omega (arith, c.if-place-middle.false)))
