use Rattle.std.proofs.Common.{◌≡◌, sym, ap, subst, ◌∙◌, ◌++◌, map, append-nil, append_assoc}
use Rattle.wasm_validator_type_groups.specs.Parts.{seen, run_seen, all_items, StandFrom}
use Rattle.wasm_validator_type_groups.proofs.PartRuns.{same_seen, same_runs}
use Rattle.wasm_validator_type_groups.proofs.snapshot_list.SnapshotList.commit.Goals as goal

pub invariant_of-result : goal.invariant_of-result
invariant_of-result g c = record {
  runs = same_runs c.in_ok-runs.runs.items c.join_last.new.runs.items c.in_ok-self-inside-2.field-0 c.in_ok-runs.ensures c.in_ok-join_last.ensures.runs;
  parts = subst (λ ps. StandFrom c.in_ok-self-inside-2.field-0 ps c.in_ok-self-inside.field-0) (sym c.in_ok-parts.ensures) c.in_ok-self-inside-2.ensures.parts;
  room = c.in_ok-self-inside.ensures.room;
}

pub returns-clause-copy : goal.returns-clause-copy
returns-clause-copy g c =
    let a = c.self.inside in
    let runs = all_items (map run_seen c.in_ok-runs.runs.items) in
    let parts = all_items (map seen c.in_ok-parts.parts.items) in
    let shared : runs ≡ all_items (map run_seen c.gather.new.runs.items) = ap all_items (same_seen c.in_ok-runs.runs.items c.join_last.new.runs.items c.in_ok-runs.ensures) ∙ c.in_ok-join_last.ensures.items in
    ap (λ xs. runs ++ parts ++ xs) c.new.ensures.items ∙ append-nil (runs ++ parts)
    ∙ ap (λ xs. xs ++ parts) shared ∙ ap (λ ps. all_items (map run_seen c.gather.new.runs.items) ++ all_items ps) c.in_ok-parts.ensures
    ∙ c.in_ok-self-inside-2.ensures.items
    ∙ ap (λ xs. all_items (map run_seen a.runs.items) ++ xs) c.in_ok-self-inside.ensures.items
    ∙ sym (append_assoc (all_items (map run_seen a.runs.items)) (all_items (map seen a.parts.items)) a.tail.items)
    ∙ c.self.view_is
