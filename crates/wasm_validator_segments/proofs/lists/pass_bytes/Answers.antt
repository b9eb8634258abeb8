use Rattle.std.proofs.Common.{◌∙◌, sym, ap, subst, ℕ, List, Some}
use Rattle.wasm_readers.specs.WasmReadersBytes.Reader.{rest}
use Rattle.wasm_validator_segments.specs.FunctionIndices.{AreFunctions, NameThemselves}
use Rattle.wasm_validator_constants.specs.WasmValidatorReferences.Notes.{noting}
use Rattle.wasm_validator_segments.proofs.FunctionBytes.{all_passed, all_named}
use Rattle.wasm_validator_segments.proofs.lists.pass_bytes.Goals as goal

pub returns-in_ok-note_bytes-in-Ok-clause-past : goal.returns-in_ok-note_bytes-in-Ok-clause-past
returns-in_ok-note_bytes-in-Ok-clause-past g c = λ is.
    let C = g.T.WasmModuleResources.context c.args.resources.now in
    all_passed C c.args.count (rest c.args.reader.now) (rest c.in-Ok.indices) (rest c.read_reader.new.self) c.in-Ok.ensures.ok
    (subst (AreFunctions C) c.remaining-listed.ensures (c.are_known.ensures.there c.if-not-are_known.false))
    ∙ ap (λ (more : List ℕ). Some more) (sym c.go_on_from.ensures.rest)

pub returns-in_ok-note_bytes-in-Ok-clause-noted : goal.returns-in_ok-note_bytes-in-Ok-clause-noted
returns-in_ok-note_bytes-in-Ok-clause-noted g c = λ is.
    let C = g.T.WasmModuleResources.context c.args.resources.now in
    all_named C g.N.NotesFunctions.note c.args.notes.now c.note_bytes.new.self c.args.count (rest c.args.reader.now) (rest c.in-Ok.indices) (rest c.read_reader.new.self) c.in-Ok.ensures.ok
    (subst NameThemselves c.remaining-listed.ensures (c.are_known.ensures.named c.if-not-are_known.false))
    (c.in_ok-note_bytes-in-Ok.ensures ∙ ap (λ (bs : List ℕ). noting g.N.NotesFunctions.note bs c.args.notes.now) c.remaining-listed.ensures)
