use Rattle.std.proofs.Common.{◌+◌, ◌++◌, ◌∙◌, ap, sym, ℕ, map}
use Rattle.wasm_validator_type_groups.specs.Parts.{seen, run_seen, all_items}
use Rattle.wasm_validator_type_groups.proofs.PieceEnds.{whole_length}
use Rattle.wasm_validator_type_groups.proofs.PartRuns.{closed_end}
use Rattle.wasm_validator_type_groups.proofs.snapshot_list.SnapshotList.len.Goals as goal

pub returns : goal.returns
returns g c =
    let a = c.self.inside in
    let closed = all_items (map run_seen a.runs.items) ++ all_items (map seen a.parts.items) in
    let end = closed_end a.runs.items a.middle c.self.invariant.runs a.parts.items a.before c.self.invariant.parts in
    rw (← c.self.view_is) (ap (λ (n : ℕ). a.before + n) (c.len.ensures ∙ a.tail.ok.0) ∙ sym (whole_length closed a.tail.items a.before end))
