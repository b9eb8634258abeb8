use Rattle.std.proofs.Common.{◌-◌, ℕ, subst}
use Rattle.wasm_readers.specs.WasmReadersBytes.Reader.{place_of_next, rest}
use Rattle.wasm_validator_func.specs.WasmTypingValidator.BodyTyping.{typed_state}
use Rattle.wasm_validator_side_notes.specs.TableViews.{shown}
use Rattle.wasm_validator_side_notes.specs.OperatorNotes.{IsBranchedTo}
use Rattle.wasm_validator_side_notes.proofs.ToldNotes.{leads_branch}
use Rattle.wasm_validator_side_notes.proofs.table.SideTable.note_branch.Goals as goal

pub returns : goal.returns
returns g c = λ h.
    let C = g.T.WasmModuleResources.context c.args.validator.now.resources in
    let w = c.args.validator.now.validator in
    let T = shown c.args.self.now in
    let U = shown c.add_behind.new.self in
    let label = c.in-Some-next_var_u32.label in
    let added : IsBranchedTo C (typed_state w) (place_of_next c.args.start) label (c.args.count - c.args.taken) T U =
    subst (λ (n : ℕ). IsBranchedTo C (typed_state w) n label (c.args.count - c.args.taken) T U) c.original_position.ensures (c.add_behind.ensures h) in
    leads_branch C w c.args.start c.args.ahead c.args.count T U c.args.taken c.in-Some._opcode label (rest c.next_u8.new.self) (rest c.next_var_u32.new.self) c.requires.few c.requires.told c.in-Some.ensures.some
    c.in-Some-next_var_u32.ensures.some added
