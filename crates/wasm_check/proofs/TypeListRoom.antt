-- One module has always room in a list of types.
use Rattle.std.proofs.Common.{[], ◌∷◌, arith}
use Rattle.std.specs.declared.alloc.Global.{Global}
use Rattle.wasm_readers_errors.specs.WasmSpec.Features.{canonical}
use Rattle.wasm_readers_errors.specs.WasmReadersFeatures.declared.features.WasmFeatures.{WasmFeatures}
use Rattle.wasm_spec_rules.specs.FeatureFlags.{features_of}
use Rattle.wasm_check_reports.proofs.WasmValidateFiles.WasmValidatorCanonical.TypeCounts.{with_at_most}
use Rattle.wasm_check_reports.specs.WasmValidateFiles.declared.files.Input.{Input}
use Rattle.wasm_check_reports.specs.WasmValidateFiles.Files.{HasRoomForAll}

-- No module has more types than a list has ids for.
pub room_for_one : (features : WasmFeatures) (f : Input Global) → HasRoomForAll features (f ∷ [])
room_for_one features f = λ m.
    let few = m.rules.limits.types in
    let all = with_at_most (canonical (features_of features)) [] m.types.types in
    (omega (arith, few, all), tt)
