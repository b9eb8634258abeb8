use Rattle.std.proofs.Common.{length}
use Rattle.wasm_spec.specs.BinaryTypes.{memory_at}
use Rattle.wasm_spec_rules.specs.FeatureFlags.{features_of}
use Rattle.wasm_spec_rules.specs.Limits.{most_memories}
use Rattle.wasm_readers.specs.SectionsSeen.{count_of, bytes_of, section_start, section_end}
use Rattle.wasm_readers_errors.specs.declared.error.Counted.TheVariants as counted
use Rattle.wasm_validator_items.specs.WasmValidatorCore.Items.{add_memory}
use Rattle.wasm_validator_items.proofs.SectionLoop.{section_told}
use Rattle.wasm_validator_sections.specs.SectionFaults.{IsNone, tells_memory}
use Rattle.wasm_validator_sections.proofs.module_sections.add_memories.Goals as goal

pub returns-clause-told : goal.returns-clause-told
returns-clause-told g c =
    let section = c.args.section.now in
    let s = c.args.opened.now in
    section_told c.add_items.result counted.Memories (length s.memories) (most_memories (features_of c.args.features)) (section_start section) (section_end section) (count_of section) (bytes_of section)
    memory_at (add_memory (features_of c.args.features)) IsNone (tells_memory c.args.features) s c.add_items.ensures.told
