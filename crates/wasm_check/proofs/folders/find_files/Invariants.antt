use Rattle.std.proofs.Common.{◌≡◌, true, map, take}
use Rattle.wasm_check.specs.FoundFiles.{StandFor}
use Rattle.wasm_check.proofs.folders.find_files.Given as goal

abbrev pub invariant-names : goal.invariant-names
invariant-names g l = l.found.is_whole ≡ true → StandFor (map (λ name. name.now) (take l.name-index l.names)) l.found.files.items
