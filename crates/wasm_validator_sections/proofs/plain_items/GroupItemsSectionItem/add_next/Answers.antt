use Rattle.std.proofs.Common.{◌≤◌, length, arith}
use Rattle.wasm_spec.specs.BinaryTypes.{rec_at}
use Rattle.wasm_readers_bytes.specs.Reader.{input, position_in, rest}
use Rattle.wasm_readers.specs.WrittenIndices.{written}
use Rattle.wasm_readers_types.specs.SeenTypes.{rec_of}
use Rattle.wasm_validator_type_list.specs.DefTypes.{types_of_list}
use Rattle.wasm_validator_items.specs.WasmValidatorCore.Answers.{HasValidTypes}
use Rattle.wasm_validator_items.specs.WasmValidatorCore.Machine.{add_group}
use Rattle.wasm_validator_sections.specs.SectionFaults.{TellsOfGroup}
use Rattle.wasm_validator_sections.proofs.GroupGrowth.{group_tells}
use Rattle.wasm_validator_sections.proofs.PlainSections.{adds_read, told_where}
use Rattle.wasm_validator_sections.proofs.plain_items.GroupItemsSectionItem.add_next.Goals as goal

pub returns-clause-added : goal.returns-clause-added
returns-clause-added g c =
    let items = c.args.self.now in
    let reader = c.args.reader.now in
    let within : position_in reader ≤ length (input reader) = omega arith in
    adds_read (rec_at written) (add_group items.features) reader c.original_position-offset.result (rec_of c.in_ok-group.group) (rest c.from_reader.new.reader) (types_of_list items.list.now, items.opened.now) c.add_types.result (types_of_list c.add_types.new.list, c.add_types.new.self)
    c.in_ok-group.ensures.reads c.original_position-offset.ensures within (HasValidTypes items.features) c.add_types.ensures.added

pub returns-clause-told : goal.returns-clause-told
returns-clause-told g c =
    let items = c.args.self.now in
    let reader = c.args.reader.now in
    let within : position_in reader ≤ length (input reader) = omega arith in
    told_where (rec_at written) (add_group items.features) reader c.original_position-offset.result (rec_of c.in_ok-group.group) (rest c.from_reader.new.reader) (types_of_list items.list.now, items.opened.now) c.add_types.result (types_of_list c.add_types.new.list, c.add_types.new.self)
    c.in_ok-group.ensures.reads c.original_position-offset.ensures within (HasValidTypes items.features) c.add_types.ensures.added (TellsOfGroup items.features) c.add_types.ensures.place
    (group_tells items.features c.original_position-offset.result items.list.now items.opened.now (rec_of c.in_ok-group.group) c.add_types.result c.add_types.ensures.told)
