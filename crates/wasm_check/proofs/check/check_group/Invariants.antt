use Rattle.std.proofs.Common.{◌≡◌, ◌≤◌, vec_len, map, take}
use Rattle.std.specs.List.{All}
use Rattle.wasm_check_reports.specs.WasmValidateFiles.Files.{IsRead}
use Rattle.wasm_check_reports.specs.declared.settings.Form.TheVariants.{Quiet}
use Rattle.wasm_check.specs.ExitStatuses.{AreFilesOf}
use Rattle.wasm_check.proofs.check.check_group.Given as goal

abbrev pub invariant-names : goal.invariant-names
invariant-names g l = record {
  read : All IsRead l.files.items;
  named : vec_len l.files ≡ l.name-index → AreFilesOf (g.R.Source.gives l.rt) (map (λ name. name.now) (take l.name-index l.names)) l.files.items;
  few : vec_len l.files ≤ l.name-index;
  silent : vec_len l.files ≡ l.name-index → l.err ≡ l.initial.err;
  quiet : l.settings.form ≡ Quiet → l.out ≡ l.initial.out;
}
