use Rattle.std.proofs.Common.{ℕ, ◌<◌}
use Rattle.wasm_spec.specs.GroupRules.{IsValidType}
use Rattle.wasm_spec_rules.specs.FeatureFlags.{features_of}
use Rattle.wasm_validator_type_list.specs.DeclarationsById.{declares}
use Rattle.wasm_validator_canonical.proofs.valid_lists.types_are_valid.Given as goal

abbrev pub invariant-ids : goal.invariant-ids
invariant-ids g l = (id : ℕ) → id < l.index → IsValidType (features_of l.features) (declares l.types.groups) id
