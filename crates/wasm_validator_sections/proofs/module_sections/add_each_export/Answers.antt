use Rattle.std.proofs.Common.{ap, length}
use Rattle.wasm_spec.specs.BinaryModules.{export_at}
use Rattle.wasm_spec_rules.specs.FeatureFlags.{features_of}
use Rattle.wasm_spec_rules.specs.LinkRules.{exported_functions}
use Rattle.wasm_readers.specs.SectionsSeen.{count_of, bytes_of, section_start, section_end}
use Rattle.wasm_readers_errors.specs.declared.error.Counted.TheVariants as counted
use Rattle.wasm_validator_type_list.specs.DefTypes.{types_of_list}
use Rattle.wasm_validator_items.specs.WasmValidatorCore.Items.{add_export}
use Rattle.wasm_validator_items.specs.WasmValidatorCore.declared.limits.TheConstants.{MAX_EXPORTS}
use Rattle.wasm_validator_items.specs.WasmValidatorReferences.References.{names_at, names_of_exports}
use Rattle.wasm_validator_items.specs.ItemSteps.{tells_read}
use Rattle.wasm_validator_items.proofs.SectionLoop.{adds_and_notes, named_section_told, section_told}
use Rattle.wasm_validator_sections.specs.ModuleNotes.{noted_of}
use Rattle.wasm_validator_sections.specs.Sections.{read_one}
use Rattle.wasm_validator_sections.specs.SectionFaults.{IsNone, TellsOfExport}
use Rattle.wasm_validator_sections.proofs.ConstantSections.{section_noted}
use Rattle.wasm_validator_sections.proofs.module_sections.add_each_export.Goals as goal

pub returns-clause-added : goal.returns-clause-added
returns-clause-added g c =
    let add = add_export (features_of c.args.features) (types_of_list c.args.list.now) in
    let section = c.args.section.now in
    let s = c.args.state.now.«module» in
    let kind = c.add_items.new.kind in
    (adds_and_notes export_at add (length s.exports) MAX_EXPORTS (count_of section) (bytes_of section) exported_functions
    c.add_items.result s c.args.state.now.referenced (kind.opened.now, kind.referenced.now) c.add_items.ensures.added).0

pub returns-clause-noted : goal.returns-clause-noted
returns-clause-noted g c =
    let add = add_export (features_of c.args.features) (types_of_list c.args.list.now) in
    let section = c.args.section.now in
    let s = c.args.state.now.«module» in
    let kind = c.add_items.new.kind in
    section_noted c.add_items.result (noted_of c.args.state.now) kind.referenced.now (names_of_exports (count_of section) (bytes_of section))
    (adds_and_notes export_at add (length s.exports) MAX_EXPORTS (count_of section) (bytes_of section) exported_functions
    c.add_items.result s c.args.state.now.referenced (kind.opened.now, kind.referenced.now) c.add_items.ensures.added).1

pub returns-clause-types : goal.returns-clause-types
returns-clause-types g c = ap (λ k. k.4) c.add_items.ensures.kept

pub returns-clause-told : goal.returns-clause-told
returns-clause-told g c =
    let us = types_of_list c.args.list.now in
    let add = add_export (features_of c.args.features) us in
    let section = c.args.section.now in
    let s = c.args.state.now.«module» in
    let start = section_start section in
    let stop = section_end section in
    let count = count_of section in
    let bytes = bytes_of section in
    section_told c.add_items.result counted.Exports (length s.exports) MAX_EXPORTS start stop count bytes export_at add IsNone (TellsOfExport c.args.features us) s
    (named_section_told c.add_items.result counted.Exports (length s.exports) MAX_EXPORTS start stop count bytes (read_one export_at add) (names_at export_at exported_functions)
    (tells_read export_at add IsNone (TellsOfExport c.args.features us)) (s, c.args.state.now.referenced) c.add_items.ensures.told)
