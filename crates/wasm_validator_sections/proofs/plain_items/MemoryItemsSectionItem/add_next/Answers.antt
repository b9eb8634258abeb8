use Rattle.std.proofs.Common.{◌≤◌, length, arith}
use Rattle.wasm_spec.specs.BinaryTypes.{memory_at}
use Rattle.wasm_spec_rules.specs.FeatureFlags.{features_of}
use Rattle.wasm_readers_bytes.specs.Reader.{input, position_in, rest}
use Rattle.wasm_readers_types.specs.SeenExterns.{memory_of}
use Rattle.wasm_validator_items.specs.WasmValidatorCore.Items.{add_memory}
use Rattle.wasm_validator_items.specs.WasmValidatorCore.AddedItemRefusals.{told_of_added_memory}
use Rattle.wasm_validator_sections.proofs.PlainSections.{told_of_added}
use Rattle.wasm_validator_sections.proofs.plain_items.MemoryItemsSectionItem.add_next.Goals as goal

pub returns-clause-told : goal.returns-clause-told
returns-clause-told g c =
    let items = c.args.self.now in
    let reader = c.args.reader.now in
    let within : position_in reader ≤ length (input reader) = omega arith in
    told_of_added memory_at (add_memory (features_of items.features)) reader c.original_position-offset.result (memory_of c.in_ok-ty.ty) (rest c.read_memory_type.new.reader) items.opened.now c.add_memory.result c.add_memory.new.self
    c.in_ok-ty.ensures.ok c.original_position-offset.ensures within (told_of_added_memory items.features) c.add_memory.ensures.added c.add_memory.ensures.told c.add_memory.ensures.place
