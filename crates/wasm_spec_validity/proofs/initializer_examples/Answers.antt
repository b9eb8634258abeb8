use Rattle.wasm_spec_validity.proofs.Examples as examples
use Rattle.wasm_spec_validity.proofs.initializer_examples.Goals as goal

pub returns : goal.returns
returns c = record {
  number = examples.number_is_constant;
  another_type = examples.number_of_another_type;
  no_two_ends = examples.no_two_ends;
  no_missing_end = examples.no_missing_end;
  first_global = examples.first_global_is_read;
  no_mutable_global = examples.no_mutable_global_is_read;
  no_global_without_gc = examples.no_global_is_read_without_gc;
  imported_global = examples.imported_global_is_read;
  no_global_by_itself = examples.no_global_reads_itself;
  behind_imports = examples.globals_come_behind_imports;
  imported = examples.one_global_is_imported;
  sum = examples.sum_is_constant;
  no_sum = examples.no_sum_without_extended_const;
  table = examples.table_reads_imported_global;
  no_table = examples.no_table_reads_own_global;
}
