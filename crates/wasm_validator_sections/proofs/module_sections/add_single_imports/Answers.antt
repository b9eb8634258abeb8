use Rattle.std.proofs.Common.{length}
use Rattle.wasm_spec.specs.BinaryModules.{import_at}
use Rattle.wasm_spec_rules.specs.FeatureFlags.{features_of}
use Rattle.wasm_readers.specs.WrittenIndices.{written}
use Rattle.wasm_readers.specs.SectionsSeen.{count_of, bytes_of, section_start, section_end}
use Rattle.wasm_readers_errors.specs.declared.error.Counted.TheVariants as counted
use Rattle.wasm_validator_type_list.specs.DefTypes.{types_of_list}
use Rattle.wasm_validator_items.specs.WasmValidatorCore.Items.{add_import}
use Rattle.wasm_validator_items.specs.WasmValidatorCore.declared.limits.TheConstants.{MAX_IMPORTS}
use Rattle.wasm_validator_items.proofs.SectionLoop.{section_told}
use Rattle.wasm_validator_sections.specs.SectionFaults.{IsNone, tells_import}
use Rattle.wasm_validator_sections.proofs.module_sections.add_single_imports.Goals as goal

pub returns-clause-told : goal.returns-clause-told
returns-clause-told g c =
    let section = c.args.section.now in
    let s = c.args.opened.now in
    section_told c.add_items.result counted.Imports (length s.imports) MAX_IMPORTS (section_start section) (section_end section) (count_of section) (bytes_of section)
    (import_at written) (add_import (features_of c.args.features) (types_of_list c.args.list.now)) IsNone (tells_import c.args.features (types_of_list c.args.list.now)) s c.add_items.ensures.told
