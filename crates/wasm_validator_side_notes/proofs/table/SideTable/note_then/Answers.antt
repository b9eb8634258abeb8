use Rattle.std.proofs.Common.{◌≡◌, ◌≤◌, ◌<◌, ◌∙◌, sym, ap, ℕ, Some, rules, tests}
use Rattle.wasm_readers.specs.WasmReadersBytes.Reader.{place_of_next, rest}
use Rattle.wasm_spec_side_tables.specs.SideTables.{opens}
use Rattle.wasm_validator_side_notes.specs.TableViews.{shown, nested_in}
use Rattle.wasm_validator_side_notes.specs.OperatorNotes.{entry_past, with_entry}
use Rattle.wasm_validator_side_notes.proofs.ToldNotes.{leads_then}
use Rattle.wasm_validator_side_notes.proofs.table.SideTable.note_then.Goals as goal

pub returns : goal.returns
returns g c = λ h.
    let C = g.T.WasmModuleResources.context c.args.validator.now.resources in
    let w = c.args.validator.now.validator in
    let T = shown c.args.self.now in
    let U = shown c.open_then.new.self in
    let x = c.in-Some-next_u8.first in
    let low : 0x40 ≤ x = search (rules, tests) in
    let high : x < 0x80 = search (rules, tests) in
    let at : c.original_position.result ≡ place_of_next c.args.start = c.original_position.ensures in
    let behind : c.original_position-2.result ≡ place_of_next c.args.ahead = c.original_position-2.ensures in
    let nested : nested_in opens (place_of_next c.args.ahead) (with_entry T (entry_past (place_of_next c.args.start) T)) ≡ Some U =
    sym (ap (λ (n : ℕ). nested_in opens n (with_entry T (entry_past c.original_position.result T))) behind ∙ ap (λ (n : ℕ). nested_in opens (place_of_next c.args.ahead) (with_entry T (entry_past n T))) at) ∙ c.open_then.ensures h in
    leads_then C w c.args.start c.args.ahead c.args.count T U c.in-Some._opcode x (rest c.next_u8.new.self) (rest c.next_u8-2.new.self) c.requires c.in-Some.ensures.some c.in-Some-next_u8.ensures.some low high nested
