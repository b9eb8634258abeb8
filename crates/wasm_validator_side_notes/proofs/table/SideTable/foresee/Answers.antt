use Rattle.std.proofs.Common.{◌≡◌, rules, tests}
use Rattle.wasm_readers.specs.WasmReadersBytes.Reader.{rest}
use Rattle.wasm_validator_side_notes.specs.TableViews.{shown}
use Rattle.wasm_validator_side_notes.specs.OperatorNotes.{IsQuiet}
use Rattle.wasm_validator_side_notes.proofs.FirstBytes.{foresees_quiet, foresees_else, foresees_end}
use Rattle.wasm_validator_side_notes.proofs.table.SideTable.foresee.Goals as goal

pub returns-then-is_quiet : goal.returns-then-is_quiet
returns-then-is_quiet g c =
    let quiet : IsQuiet c.in_ok-opcode.opcode = search (rules, tests) in
    foresees_quiet (g.T.WasmModuleResources.context c.args.validator.now.resources) c.args.validator.now.validator c.args.at (shown c.args.self.now) (rest c.args.reader.now) (rest c.next_u8.new.self) c.in_ok-opcode.opcode
    c.in_ok-opcode.ensures.some quiet

pub returns-in-Some : goal.returns-in-Some
returns-in-Some g c =
    let code : c.in_ok-opcode.opcode ≡ 0x05 = search (rules, tests) in
    foresees_else (g.T.WasmModuleResources.context c.args.validator.now.resources) c.args.validator.now.validator c.args.at (shown c.args.self.now) (rest c.args.reader.now) (rest c.next_u8.new.self) c.in_ok-opcode.opcode
    c.in-Some.entry c.in_ok-opcode.ensures.some code c.in-Some.ensures

pub returns-in-11 : goal.returns-in-11
returns-in-11 g c =
    let code : c.in_ok-opcode.opcode ≡ 0x0b = search (rules, tests) in
    foresees_end (g.T.WasmModuleResources.context c.args.validator.now.resources) c.args.validator.now.validator c.args.at (shown c.args.self.now) (rest c.args.reader.now) (rest c.next_u8.new.self) c.in_ok-opcode.opcode
    c.in_ok-opcode.ensures.some code
