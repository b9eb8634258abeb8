use Rattle.std.proofs.Common.{ℕ, ◌<◌, IsTrue}
use Rattle.std.specs.Prelude.{◌↔◌}
use Rattle.wasm_validate_files.specs.Answers.{IsOkAt}
use Rattle.wasm_validate_files.proofs.lines.print_lines.Given as goal

abbrev pub invariant-files : goal.invariant-files
invariant-files g l = IsTrue l.all ↔ ((k : ℕ) → k < l.place → IsOkAt l.answers k)
