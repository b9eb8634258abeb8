use Rattle.std.proofs.Common.{◌≡◌, sym, ap, subst, ◌∙◌, ◌++◌, map, append-nil}
use Rattle.wasm_validator_type_groups.specs.Parts.{seen, run_seen, all_items, StandFrom}
use Rattle.wasm_validator_type_groups.proofs.PartRuns.{same_seen, same_runs}
use Rattle.wasm_validator_type_groups.proofs.snapshot_list.SnapshotList.share_committed.Goals as goal

pub invariant_of-result : goal.invariant_of-result
invariant_of-result g c = record {
  runs = same_runs c.in_ok-first_runs.first_runs.items c.self.inside.runs.items c.self.inside.middle c.in_ok-first_runs.ensures c.self.invariant.runs;
  parts = subst (λ ps. StandFrom c.self.inside.middle ps c.self.inside.before) (sym c.in_ok-first_parts.ensures) c.self.invariant.parts;
  room = c.self.invariant.room;
}

pub returns-then-not-are_gathered : goal.returns-then-not-are_gathered
returns-then-not-are_gathered g c = record { rest = c.args.self.now; split = ap (λ xs. xs ++ c.args.self.now) (sym c.new.ensures) }

pub returns : goal.returns
returns g c =
    let a = c.self.inside in
    let runs = all_items (map run_seen c.in_ok-first_runs.first_runs.items) in
    let parts = all_items (map seen c.in_ok-first_parts.first_parts.items) in
    let same_runs : runs ≡ all_items (map run_seen a.runs.items) = ap all_items (same_seen c.in_ok-first_runs.first_runs.items a.runs.items c.in_ok-first_runs.ensures) in
    let same_parts : parts ≡ all_items (map seen a.parts.items) = ap all_items c.in_ok-first_parts.ensures in
    record {
      rest = a.tail.items;
      split = sym c.self.view_is ∙ ap (λ xs. xs ++ a.tail.items) (sym (ap (λ xs. runs ++ parts ++ xs) c.new-2.ensures.items ∙ append-nil (runs ++ parts) ∙ (λ i. same_runs i ++ same_parts i)));
    }
