use Rattle.std.specs.List.{All}
use Rattle.wasm_check.specs.FoundFiles.{IsLookedFor}
use Rattle.wasm_check.proofs.folders.read_folder.Given as goal

abbrev pub invariant-entries : goal.invariant-entries
invariant-entries g l =
    (goal.iterator-entries g).can_next l.entry-iterator
    × (goal.iterator-entries g).is_finite l.entry-iterator
    × (All IsLookedFor l.initial.files.items → All IsLookedFor l.files.items)
