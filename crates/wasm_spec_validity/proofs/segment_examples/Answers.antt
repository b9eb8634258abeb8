use Rattle.wasm_spec_validity.proofs.Examples as examples
use Rattle.wasm_spec_validity.proofs.segment_examples.Goals as goal

pub returns : goal.returns
returns c = record {
  offsets = examples.offsets_are_addresses;
  no_data_offsets = examples.no_other_data_offsets;
  no_element_offsets = examples.no_other_element_offsets;
  global = examples.offset_reads_global;
  element_global = examples.element_offset_reads_global;
  items = examples.function_and_null_are_items;
  no_null_item = examples.no_null_item;
}
