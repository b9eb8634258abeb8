-- A list of which snapshots are taken: runs of closed parts, closed parts, and an open end.
use Rattle.std.specs.Prelude.{◌<◌, ◌^◌, List, ◌++◌, map}
use Rattle.wasm_validator_type_groups.specs.declared.snapshot_list.SnapshotList.TheInside.{Inside}
use Rattle.wasm_validator_type_groups.specs.Parts.{seen, run_seen, all_items, PartsStand, RunsStand}

module _ {T A : Type 0} where
  abbrev pub listed : Inside T A → List T
  listed a = all_items (map run_seen a.runs.items) ++ all_items (map seen a.parts.items) ++ a.tail.items

  -- the parts begin where the runs end, and end where the open end begins, and so far that what a vector holds may follow
  pub record IsSnapshotList (a : Inside T A) : Type 0 where
    pub runs : RunsStand a.runs.items a.middle
    pub parts : PartsStand a.middle a.parts.items a.before
    pub room : a.before < 2 ^ 63
