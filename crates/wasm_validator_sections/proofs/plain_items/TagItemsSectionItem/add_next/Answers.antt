use Rattle.std.proofs.Common.{◌≤◌, ℕ, length, arith}
use Rattle.wasm_spec.specs.BinaryTypes.{tag_at}
use Rattle.wasm_spec_rules.specs.FeatureFlags.{features_of}
use Rattle.wasm_readers_bytes.specs.Reader.{input, position_in, rest}
use Rattle.wasm_validator_type_list.specs.DefTypes.{types_of_list}
use Rattle.wasm_validator_types.specs.Spaces.{Spaces}
use Rattle.wasm_validator_items.specs.WasmValidatorCore.Items.{add_tag}
use Rattle.wasm_validator_items.specs.WasmValidatorCore.AddedItemRefusals.{told_of_added_tag}
use Rattle.wasm_validator_sections.proofs.PlainSections.{told_of_added}
use Rattle.wasm_validator_sections.proofs.plain_items.TagItemsSectionItem.add_next.Goals as goal

pub returns-clause-told : goal.returns-clause-told
returns-clause-told g c =
    let items = c.args.self.now in
    let reader = c.args.reader.now in
    let within : position_in reader ≤ length (input reader) = omega arith in
    told_of_added tag_at (add_tag (features_of items.features) (types_of_list items.list.now)) reader c.original_position-offset.result c.in_ok-ty.ty.func_type_idx (rest c.read_tag_type.new.reader) items.opened.now c.add_tag.result c.add_tag.new.self
    c.in_ok-ty.ensures.ok c.original_position-offset.ensures within (λ (at : ℕ) (s : Spaces) (x : ℕ). told_of_added_tag items.features at (types_of_list items.list.now) s x) c.add_tag.ensures.added c.add_tag.ensures.told c.add_tag.ensures.place
