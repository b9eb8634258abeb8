use Rattle.std.proofs.Common.{◌≡◌, ◌∙◌, subst, ℕ, Some, rules, tests}
use Rattle.wasm_readers.specs.WasmReadersBytes.Reader.{SameInput, place_of_next, rest}
use Rattle.wasm_validator_side_notes.specs.TableViews.{shown, nested_in}
use Rattle.wasm_validator_side_notes.specs.OperatorNotes.{Foresees, with_noted, nesting_of}
use Rattle.wasm_validator_side_notes.proofs.InstructionBytes.{noted_so}
use Rattle.wasm_validator_side_notes.proofs.table.SideTable.read_other.Goals as goal

pub returns-then-put-clause-advances : goal.returns-then-put-clause-advances
returns-then-put-clause-advances g c = λ h.
    let C = g.T.WasmModuleResources.context c.args.validator.now.resources in
    let v = c.args.validator.now.validator in
    let r = c.args.reader.now in
    let q = c.other_op.new.reader in
    let T = shown c.args.self.now in
    let V = shown c.put.new.self in
    let n = c.in-Some-foresee.noted in
    let same : SameInput r q = search rules in
    let here : c.in-Some.at ≡ place_of_next r = c.in-Some.ensures ∙ c.original_position.ensures in
    let there : c.in-Some-narrow_offset.behind ≡ place_of_next q = c.in-Some-narrow_offset.ensures ∙ c.original_position-2.ensures in
    let foreseen : Foresees C v (place_of_next r) T (rest r) n = subst (λ (a : ℕ). Foresees C v a T (rest r) n) here c.in-Some-foresee.ensures in
    let put : nested_in (nesting_of n) c.in-Some-narrow_offset.behind (with_noted n T) ≡ Some V = search (rules, tests) in
    noted_so C v c.other_op.new.self.validator r q T V n same foreseen (subst (λ (b : ℕ). nested_in (nesting_of n) b (with_noted n T) ≡ Some V) there put) c.in-Ok.ensures.took
