use Rattle.std.proofs.Common.{◌≡◌}
use Rattle.wasm_validator_type_list.specs.DefTypes.{types_of_list}
use Rattle.wasm_validator_sections.proofs.EntryTurns.{Turn}
use Rattle.wasm_validator_sections.proofs.entry_items.EntryItems.add_several.Given as goal

abbrev pub invariant-imports : goal.invariant-imports
invariant-imports g l = record {
  list : l.self.list ≡ l.fn.self.list;
  features : l.self.features ≡ l.fn.self.features;
  opened : l.self.opened.ghost_name ≡ l.fn.self.opened.ghost_name;
  types : l.self.opened.now.types ≡ l.fn.self.opened.now.types;
  turn : Turn g.row.A.Denot l.fn.self.features (types_of_list l.fn.self.list.now) l.fn.imports l.fn.self.opened.now l.import-iterator l.self.opened.now;
}
