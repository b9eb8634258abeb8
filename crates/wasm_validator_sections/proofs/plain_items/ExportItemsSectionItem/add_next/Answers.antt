use Rattle.std.proofs.Common.{◌≡◌, ◌≤◌, length, arith, refl}
use Rattle.std.proofs.lemmas.Grind.{common_steps}
use Rattle.wasm_spec.specs.BinaryModules.{export_at}
use Rattle.wasm_spec_rules.specs.FeatureFlags.{features_of}
use Rattle.wasm_readers_bytes.specs.Reader.{input, position_in, rest}
use Rattle.wasm_readers.specs.Items.{export_of}
use Rattle.wasm_validator_type_list.specs.DefTypes.{types_of_list}
use Rattle.wasm_validator_items.specs.WasmValidatorCore.Items.{add_export}
use Rattle.wasm_validator_sections.specs.SectionFaults.{TellsOfExport}
use Rattle.wasm_validator_sections.proofs.ExportAnswers.{told_named}
use Rattle.wasm_validator_sections.proofs.PlainSections.{told_of_read}
use Rattle.wasm_validator_sections.proofs.plain_items.ExportItemsSectionItem.add_next.Goals as goal

pub returns-in_err-add_export-clause-told : goal.returns-in_err-add_export-clause-told
returns-in_err-add_export-clause-told g c =
    let items = c.args.self.now in
    let reader = c.args.reader.now in
    let export = c.in_ok-export.export in
    let place = c.original_position-offset.result in
    let us = types_of_list items.list.now in
    let within : position_in reader ≤ length (input reader) = omega arith in
    let same : c.from_residual-in_err-add_export.result ≡ c.add_export.result = grind (arith, common_steps) in
    rw same
    (told_of_read export_at (add_export (features_of items.features) us) reader place (export_of export) (rest c.from_reader.new.reader) items.opened.now c.add_export.result c.add_export.new.self
    c.in_ok-export.ensures.reads c.original_position-offset.ensures within (TellsOfExport items.features us)
    (told_named items.features us items.opened.now c.add_export.new.self (export_of export) export.kind place refl c.add_export.result c.add_export.ensures.added c.add_export.ensures.told c.add_export.ensures.place))
