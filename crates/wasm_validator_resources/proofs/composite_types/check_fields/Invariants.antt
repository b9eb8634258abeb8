use Rattle.std.proofs.Common.{◌≡◌, ◌≤◌, length, drop, map}
use Rattle.std.specs.List.{list_all}
use Rattle.wasm_readers_errors.specs.WasmSpec.GroupRules.{field_storage}
use Rattle.wasm_readers_errors.specs.WasmSpec.ValueTypes.{allows_storage}
use Rattle.wasm_spec_rules.specs.FeatureFlags.{features_of}
use Rattle.wasm_readers_types.specs.WasmReadersValues.SeenValues.{field_of}
use Rattle.wasm_validator_resources.specs.ProposalRefusals.{first_told, told_of_field}
use Rattle.wasm_validator_resources.proofs.composite_types.check_fields.Given as goal

abbrev pub invariant-loop-field : goal.invariant-loop-field
invariant-loop-field l = record {
  inside : l.field-index ≤ length l.fields;
  so_far : list_all (allows_storage (features_of l.features)) (map field_storage (map field_of l.fields)) ≡ list_all (allows_storage (features_of l.features)) (map field_storage (map field_of (drop l.field-index l.fields)));
  told_so_far : first_told (told_of_field l.features l.offset) (map field_of l.fields) ≡ first_told (told_of_field l.features l.offset) (map field_of (drop l.field-index l.fields));
}
