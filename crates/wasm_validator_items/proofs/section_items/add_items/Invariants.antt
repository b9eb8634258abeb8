use Rattle.std.proofs.Common.{◌≡◌, ◌+◌, ◌≤◌, length}
use Rattle.wasm_readers.specs.SectionsSeen.{count_of, bytes_of, section_start, section_end}
use Rattle.wasm_readers.specs.WasmReadersBytes.Reader.{input, original, position_in, rest}
use Rattle.wasm_validator_items.specs.Machine.{items_from}
use Rattle.wasm_validator_items.proofs.SectionLoop.{ToldOfAll}
use Rattle.wasm_validator_items.proofs.section_items.add_items.Given as goal

abbrev pub invariant-items : goal.invariant-items
invariant-items g l = record {
  is_ready : g.I.SectionItem.ready l.kind;
  standing : g.I.SectionItem.stands l.kind;
  kept : g.I.SectionItem.kept l.kind ≡ g.I.SectionItem.kept l.fn.kind;
  has_room : g.I.SectionItem.room l.kind l.left;
  stop : original l.reader + length (input l.reader) ≡ section_end l.section;
  onward : section_start l.section ≤ original l.reader + position_in l.reader;
  so_far : items_from (g.I.SectionItem.step (g.I.SectionItem.kept l.fn.kind)) l.left (rest l.reader) (g.I.SectionItem.state l.kind)
      ≡ items_from (g.I.SectionItem.step (g.I.SectionItem.kept l.fn.kind)) (count_of l.section) (bytes_of l.section) (g.I.SectionItem.state l.fn.kind);
  told : ToldOfAll (g.I.SectionItem.step (g.I.SectionItem.kept l.fn.kind)) (g.I.SectionItem.tells (g.I.SectionItem.kept l.fn.kind)) (section_end l.section)
      l.left (rest l.reader) (g.I.SectionItem.state l.kind) (count_of l.section) (bytes_of l.section) (g.I.SectionItem.state l.fn.kind);
}

abbrev pub decreases-items : goal.decreases-items
decreases-items g l = l.left
