-- Single items, and the sections that they make.
use Rattle.std.proofs.Common.{refl}
use Rattle.wasm_validator_items.specs.Sections.{read_one}
use Rattle.wasm_validator_items.specs.OnePassSections.{ItemsAreReadAndAdded, SectionsAddSingleItems}
use Rattle.wasm_validator_items.proofs.ElementReads.{element_is_added}
use Rattle.wasm_validator_items.proofs.GlobalReads.{global_is_added}
use Rattle.wasm_validator_items.proofs.Segments.{data_is_added}
use Rattle.wasm_validator_items.proofs.StepsInTurn.{each_is_added}
use Rattle.wasm_validator_items.proofs.TableReads.{table_is_added}

pub items_are_added : ItemsAreReadAndAdded
items_are_added = record {
  tables = table_is_added;
  globals = global_is_added;
  elements = element_is_added;
  segments = data_is_added;
}

pub sections_add_single_items : {S V : Type 0} → SectionsAddSingleItems S V
sections_add_single_items encoded add count bytes s = each_is_added (read_one encoded add) encoded add (λ t more. refl) count bytes s
