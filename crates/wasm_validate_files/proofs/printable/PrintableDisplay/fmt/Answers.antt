use Rattle.std.proofs.Common.{rules}
use Rattle.wasm_validate_files.proofs.Writers.{displayed}
use Rattle.wasm_validate_files.proofs.printable.PrintableDisplay.fmt.Goals as goal

pub returns-clause-writes : goal.returns-clause-writes
returns-clause-writes g c = displayed g.W.Write.write_str_gives _ (λ escaping. escaping.inner.now) (λ escaping. escaping.inner.ghost_name) (λ s t bs h. h) _ _ _
    c.write-result.result (g.D.Display.output c.args.self.now.0) (λ same. search rules) c.write-result.ensures.writes
