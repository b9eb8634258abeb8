use Rattle.std.proofs.Common.{arith, ◌≡◌, ◌+◌, ◌++◌, length, map}
use Rattle.wasm_validator_type_groups.specs.Parts.{seen, run_seen, all_items}
use Rattle.wasm_validator_type_groups.proofs.PieceEnds.{in_closed, in_open, whole_length}
use Rattle.wasm_validator_type_groups.proofs.PartRuns.{closed_end}
use Rattle.wasm_validator_type_groups.proofs.snapshot_list.SnapshotListIndexUsize.index.Goals as goal

pub index-requires : goal.index-requires
index-requires g c =
    let a = c.self.inside in
    let closed = all_items (map run_seen a.runs.items) ++ all_items (map seen a.parts.items) in
    let end = closed_end a.runs.items a.middle c.self.invariant.runs a.parts.items a.before c.self.invariant.parts in
    let n : length c.args.self.now ≡ a.before + length a.tail.items = rw (← c.self.view_is) (whole_length closed a.tail.items a.before end) in
    omega (arith, n, c.requires, a.tail.ok.0, c.if-index-self.false)

pub returns-then-index-self : goal.returns-then-index-self
returns-then-index-self g c =
    let a = c.self.inside in
    let closed = all_items (map run_seen a.runs.items) ++ all_items (map seen a.parts.items) in
    let end = closed_end a.runs.items a.middle c.self.invariant.runs a.parts.items a.before c.self.invariant.parts in
    rw (← c.self.view_is, in_closed closed a.tail.items a.before c.args.index c.closed_item.result.now end c.if-index-self.true) c.closed_item.ensures

pub returns-else-index-self : goal.returns-else-index-self
returns-else-index-self g c =
    let a = c.self.inside in
    let closed = all_items (map run_seen a.runs.items) ++ all_items (map seen a.parts.items) in
    let end = closed_end a.runs.items a.middle c.self.invariant.runs a.parts.items a.before c.self.invariant.parts in
    rw (← c.self.view_is, in_open closed a.tail.items a.before c.args.index c.index.result.now end c.if-index-self.false) c.index.ensures
