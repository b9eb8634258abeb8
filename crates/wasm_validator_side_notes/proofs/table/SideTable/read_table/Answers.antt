use Rattle.std.proofs.Common.{◌≡◌, ◌-◌, refl, ap, sym, subst, rules, tests}
use Rattle.wasm_spec_rules.specs.Contexts.{Context}
use Rattle.wasm_readers.specs.WasmReadersBytes.Reader.{rest}
use Rattle.wasm_readers_types.specs.WasmReadersValues.declared.indices.UnpackedIndex.{UnpackedIndex}
use Rattle.wasm_validator_func.specs.WasmTypingValidator.BodyTyping.{typed_state}
use Rattle.wasm_validator_side_notes.specs.TableViews.{shown}
use Rattle.wasm_validator_side_notes.specs.LabelEntries.{IsBranchedByTable}
use Rattle.wasm_validator_side_notes.proofs.LabelNotes.{leads_table}
use Rattle.wasm_validator_side_notes.proofs.table.SideTable.read_table.Goals as goal

pub returns-then-note_labels-clause-advances : goal.returns-then-note_labels-clause-advances
returns-then-note_labels-clause-advances g c = λ h.
    let C = g.T.WasmModuleResources.context c.args.validator.now.resources in
    let D = g.T.WasmModuleResources.context c.other_op.new.self.resources in
    let v = c.args.validator.now.validator in
    let w = c.other_op.new.self.validator in
    let T = shown c.args.self.now in
    let V = shown c.note_labels.new.self in
    let n = c.in-Some-count_operands.count in
    let xs = rest c.next_u8.new.self in
    let there : D ≡ C = ap (λ x. g.T.WasmModuleResources.context x) c.in-Ok.ensures.same.0 in
    let code : c.in-Some.opcode ≡ 0x0e = search (rules, tests) in
    let noted : IsBranchedByTable D (typed_state w) c.args.at (n - 1) xs T V = c.if-note_labels.ensures refl in
    leads_table C v w c.args.reader.now c.other_op.new.reader n T V c.in-Some.opcode c.args.at xs c.in-Ok.ensures.input c.in-Some.ensures.some code c.requires.at (sym c.in-Some-count_operands.ensures)
    (subst (λ (X : Context UnpackedIndex). IsBranchedByTable X (typed_state w) c.args.at (n - 1) xs T V) there noted) c.in-Ok.ensures.took
