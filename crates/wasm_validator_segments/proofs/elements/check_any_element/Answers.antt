use Rattle.wasm_readers.specs.WasmReadersBytes.Reader.{rest}
use Rattle.wasm_validator_segments.proofs.NamedSegments.{flag_noted}
use Rattle.wasm_validator_segments.proofs.elements.check_any_element.Goals as goal

pub returns-clause-noted : goal.returns-clause-noted
returns-clause-noted g c =
    flag_noted g.N.NotesFunctions.note c.args.notes.now c.check_element_from.new.notes c.check_element_from.result (rest c.args.reader.now) (rest c.read_var_u32.new.self) c.in_ok-flag.flag
    c.in_ok-flag.ensures.ok c.check_element_from.ensures.noted
