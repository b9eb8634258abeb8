use Rattle.std.proofs.Common.{◌≤◌, ℕ, length, arith}
use Rattle.wasm_spec.specs.BinaryModules.{Import, import_at}
use Rattle.wasm_spec_rules.specs.FeatureFlags.{features_of}
use Rattle.wasm_readers_bytes.specs.Reader.{input, position_in, rest}
use Rattle.wasm_readers.specs.Items.{import_of}
use Rattle.wasm_readers.specs.WrittenIndices.{written}
use Rattle.wasm_readers_types.specs.WasmReadersValues.declared.indices.UnpackedIndex.{UnpackedIndex}
use Rattle.wasm_validator_type_list.specs.DefTypes.{types_of_list}
use Rattle.wasm_validator_types.specs.Spaces.{Spaces}
use Rattle.wasm_validator_items.specs.WasmValidatorCore.Items.{add_import}
use Rattle.wasm_validator_items.specs.WasmValidatorCore.AddedItemRefusals.{told_of_import}
use Rattle.wasm_validator_sections.proofs.PlainSections.{told_of_added}
use Rattle.wasm_validator_sections.proofs.plain_items.ImportItemsSectionItem.add_next.Goals as goal

pub returns-clause-told : goal.returns-clause-told
returns-clause-told g c =
    let items = c.args.self.now in
    let reader = c.args.reader.now in
    let within : position_in reader ≤ length (input reader) = omega arith in
    told_of_added (import_at written) (add_import (features_of items.features) (types_of_list items.list.now)) reader c.original_position-offset.result (import_of c.in_ok-import.import) (rest c.read_import.new.reader) items.opened.now c.add_import.result c.add_import.new.self
    c.in_ok-import.ensures.ok c.original_position-offset.ensures within (λ (at : ℕ) (s : Spaces) (i : Import UnpackedIndex). told_of_import items.features at (types_of_list items.list.now) s i) c.add_import.ensures.added c.add_import.ensures.told c.add_import.ensures.place
