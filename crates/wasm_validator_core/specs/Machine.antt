-- What one item of a section changes: the machine that a module's state is.
use Rattle.std.specs.Prelude.{ℕ, ◌+◌, nat_le, if◌then◌else◌, List, length, Option, None}
use Rattle.std.specs.Option.{option_map}
use Rattle.wasm_spec.specs.Syntax.{Rec}
use Rattle.wasm_spec_rules.specs.FeatureFlags.{features_of}
use Rattle.wasm_readers_types.specs.WasmReadersValues.declared.indices.UnpackedIndex.{UnpackedIndex}
use Rattle.wasm_readers_errors.specs.WasmReadersFeatures.declared.features.WasmFeatures.{WasmFeatures}
use Rattle.wasm_validator_checks.specs.WasmValidatorCanonical.Groups.{with_written}
use Rattle.wasm_validator_checks.specs.WasmValidatorTypes.Spaces.{Spaces}
use Rattle.wasm_validator_core.specs.declared.limits.TheConstants.{MAX_TYPES}
use Rattle.wasm_validator_core.specs.Answers.{TypesSoFar}

-- a list of types with those of a group that a module writes, and the ids of the module's types
abbrev pub with_ids : Spaces → TypesSoFar × List ℕ → TypesSoFar × Spaces
with_ids s r = (r.0, record s { types = r.1 })

-- a recursion group behind the types of the module, which keep to the limit
abbrev pub add_group : WasmFeatures → TypesSoFar × Spaces → Rec UnpackedIndex → Option (TypesSoFar × Spaces)
add_group features p g =
    if nat_le (length p.1.types + length g.types) MAX_TYPES
    then option_map (with_ids p.1) (with_written (features_of features) p.0 p.1.types g)
    else None
