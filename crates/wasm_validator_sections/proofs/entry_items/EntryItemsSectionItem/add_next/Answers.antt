use Rattle.std.proofs.Common.{◌≡◌, ◌≤◌, refl, subst, length, Some, arith}
use Rattle.wasm_spec.specs.BinaryModules.{entry_at}
use Rattle.wasm_readers_bytes.specs.Reader.{input, position_in, place_of_next, rest}
use Rattle.wasm_readers.specs.Entries.{compact_of, entry_of, IsOnward, LieFrom}
use Rattle.wasm_readers.specs.WrittenIndices.{written}
use Rattle.wasm_readers.specs.declared.imports.Imports.{Imports}
use Rattle.wasm_spec_rules.specs.FeatureFlags.{features_of}
use Rattle.wasm_validator_type_list.specs.DefTypes.{types_of_list}
use Rattle.wasm_validator_sections.specs.Machine.{add_entry}
use Rattle.wasm_validator_sections.specs.SectionFaults.{tells_entry}
use Rattle.wasm_validator_sections.proofs.EntryTurns.{several_told}
use Rattle.wasm_validator_sections.proofs.PlainSections.{told_of_read}
use Rattle.wasm_validator_sections.proofs.entry_items.EntryItemsSectionItem.add_next.Goals as goal

pub returns-in-Compact-clause-told : goal.returns-in-Compact-clause-told
returns-in-Compact-clause-told g c =
    let items = c.args.self.now in
    let us = types_of_list items.list.now in
    let s = items.opened.now in
    let new = c.add_several.new.self.opened.now in
    let reader = c.args.reader.now in
    let more = rest c.read_imports.new.reader in
    let is = compact_of c.in-Compact.imports in
    let read = subst (λ (x : Imports). entry_at written (rest reader) ≡ Some (entry_of x, more)) c.in-Compact.is c.in_ok-import.ensures.ok in
    let lie : IsOnward reader c.in-Compact.imports.reader = subst (LieFrom reader) c.in-Compact.is c.in_ok-import.ensures.lie in
    let within : position_in reader ≤ length (input reader) = reader.within in
    told_of_read (entry_at written) (add_entry (features_of items.features) us) reader (place_of_next reader) is more s c.add_several.result new read refl within (tells_entry items.features us)
    (several_told items.features us (place_of_next reader) s new (place_of_next c.in-Compact.imports.reader) (omega (arith, lie.0.1, lie.1)) is c.add_several.result c.add_several.ensures.added c.add_several.ensures.told)
