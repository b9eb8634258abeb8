use Rattle.std.proofs.Common.{◌≡◌, true}
use Rattle.std.specs.List.{All}
use Rattle.wasm_check.specs.FoundFiles.{IsLookedFor}
use Rattle.wasm_check.proofs.folders.find_below.Given as goal

abbrev pub invariant-folders : goal.invariant-folders
invariant-folders g l = record {
  each : All IsLookedFor l.files.items;
  kept : l.found.is_whole ≡ true → l.initial.found.is_whole ≡ true;
  same : l.found.files ≡ l.initial.found.files;
}
