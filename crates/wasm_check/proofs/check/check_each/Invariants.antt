use Rattle.std.proofs.Common.{◌≡◌, map, take}
use Rattle.std.specs.Prelude.{⊤}
use Rattle.wasm_check.specs.ExitStatuses.{WereChecked}
use Rattle.wasm_check_reports.specs.declared.settings.Form.TheVariants.{Quiet}
use Rattle.wasm_check.proofs.check.check_each.Given as goal

abbrev pub invariant-names : goal.invariant-names
invariant-names g l = record {
  told : WereChecked l.settings.features (λ _. ⊤) (g.R.Source.gives l.rt) (map (λ name. name.now) (take l.name-index l.names)) l.status;
  silent : (l.status ≡ 2 → ⊥) → l.err ≡ l.initial.err;
  quiet : l.settings.form ≡ Quiet → l.out ≡ l.initial.out;
}
