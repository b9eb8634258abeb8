use Rattle.std.proofs.Common.{subst, List}
use Rattle.wasm_spec_side_tables.specs.declared.entry.Entry.{Entry}
use Rattle.wasm_validator_tables.specs.TableReports.{AreWritten}
use Rattle.wasm_validator_tables.proofs.report.tell_table.Goals as goal

pub returns-in-Ok-clause-told : goal.returns-in-Ok-clause-told
returns-in-Ok-clause-told c = record {
  table = c.make_table.new.table;
  is = c.in-Ok.ensures.made;
  counts = c.counts_of.ensures;
  entries = subst (λ (es : List Entry). AreWritten es c.args.entries.now c.write_all.new.to) c.entries.ensures c.write_all.ensures;
}
