use Rattle.std.proofs.Common.{ℕ, ◌≤◌, ◌<◌}
use Rattle.wasm_spec.specs.GroupRules.{IsValidType}
use Rattle.wasm_validator_resources.specs.WasmSpecRules.FeatureFlags.{features_of}
use Rattle.wasm_validator_type_list.specs.WasmValidatorTypeGroups.Groups.{first_of}
use Rattle.wasm_validator_type_list.specs.DeclarationsById.{declares}
use Rattle.wasm_validator_type_checks.proofs.groups.check_rec_group.Given as goal

abbrev pub invariant-members : goal.invariant-members
invariant-members g l = (id : ℕ) → first_of l.types.groups l.fn.group.index ≤ id → id < l.index → IsValidType (features_of l.features) (declares l.types.groups) id
