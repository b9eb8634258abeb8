use Rattle.std.proofs.Common.{◌∙◌, ap, subst, List, length}
use Rattle.wasm_spec_side_tables.specs.declared.entry.Entry.{Entry}
use Rattle.wasm_validator_tables.specs.declared.module.BodyTable.{BodyTable}
use Rattle.wasm_validator_tables.specs.TableReports.{AreWritten}
use Rattle.wasm_validator_tables.proofs.TablesMade.{count_told}
use Rattle.wasm_validator_tables.proofs.totals.tell_tables.Goals as goal

pub returns-in-Ok-clause-told : goal.returns-in-Ok-clause-told
returns-in-Ok-clause-told c = λ e.
    let m = c.in-Ok.ensures.decides.0 in
    record {
      all = m.all;
      are = m.are;
      count = c.totals_of.ensures.tables ∙ ap length m.tables ∙ count_told 0 m.all;
      sum = c.totals_of.ensures.entries ∙ ap length m.entries;
      tables = subst (λ (ts : List BodyTable). AreWritten ts c.args.tables.now c.write_tables.new.to) m.tables c.write_tables.ensures;
      entries = subst (λ (es : List Entry). AreWritten es c.args.entries.now c.write_entries.new.to) m.entries c.write_entries.ensures;
    }
