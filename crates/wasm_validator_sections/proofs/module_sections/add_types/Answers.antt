use Rattle.std.proofs.Common.{length}
use Rattle.wasm_spec.specs.BinaryTypes.{rec_at}
use Rattle.wasm_readers.specs.WrittenIndices.{written}
use Rattle.wasm_readers.specs.SectionsSeen.{count_of, bytes_of, section_start, section_end}
use Rattle.wasm_readers_errors.specs.declared.error.Counted.TheVariants as counted
use Rattle.wasm_validator_type_list.specs.DefTypes.{types_of_list}
use Rattle.wasm_validator_types.specs.Spaces.{Spaces}
use Rattle.wasm_validator_items.specs.WasmValidatorCore.Answers.{TypesSoFar, IsNowhere, HasValidTypes}
use Rattle.wasm_validator_items.specs.WasmValidatorCore.Machine.{add_group}
use Rattle.wasm_validator_items.specs.WasmValidatorCore.declared.limits.TheConstants.{MAX_TYPES}
use Rattle.wasm_validator_items.proofs.SectionLoop.{section_told}
use Rattle.wasm_validator_sections.specs.SectionFaults.{tells_group}
use Rattle.wasm_validator_sections.proofs.GroupGrowth.{read_group_back}
use Rattle.wasm_validator_sections.proofs.module_sections.add_types.Goals as goal

pub add_items-requires-clause-back : goal.add_items-requires-clause-back
add_items-requires-clause-back g c = λ p q bytes more e v. read_group_back c.args.features p q bytes more e v

pub returns-clause-told : goal.returns-clause-told
returns-clause-told g c =
    let features = c.args.features in
    let section = c.args.section.now in
    let p : TypesSoFar × Spaces = (types_of_list c.args.list.now, c.args.opened.now) in
    section_told c.add_items.result counted.Types (length c.args.opened.now.types) MAX_TYPES (section_start section) (section_end section) (count_of section) (bytes_of section)
    (rec_at written) (add_group features) (IsNowhere (HasValidTypes features)) (tells_group features) p c.add_items.ensures.told
