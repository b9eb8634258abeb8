use Rattle.std.proofs.Common.{◌≡◌, ◌≤◌, length, drop, map}
use Rattle.std.specs.List.{list_all}
use Rattle.wasm_readers_errors.specs.WasmSpec.ValueTypes.{allows_val}
use Rattle.wasm_spec_rules.specs.FeatureFlags.{features_of}
use Rattle.wasm_readers_types.specs.WasmReadersValues.SeenValues.{val_of}
use Rattle.wasm_validator_resources.specs.ProposalRefusals.{first_told, told_of_val}
use Rattle.wasm_validator_resources.proofs.composite_types.check_value_types.Given as goal

abbrev pub invariant-loop-ty : goal.invariant-loop-ty
invariant-loop-ty l = record {
  inside : l.ty-index ≤ length l.types;
  so_far : list_all (allows_val (features_of l.features)) (map val_of l.types) ≡ list_all (allows_val (features_of l.features)) (map val_of (drop l.ty-index l.types));
  told_so_far : first_told (told_of_val l.features l.offset) (map val_of l.types) ≡ first_told (told_of_val l.features l.offset) (map val_of (drop l.ty-index l.types));
}
