use Rattle.std.proofs.Common.{◌≡◌, Some, map, take}
use Rattle.wasm_readers_errors.specs.WasmReadersFeatures.contracts.features.WasmFeaturesFlags.TheImpl.{ghosts}
use Rattle.wasm_check.specs.FeatureWords.{selected}
use Rattle.wasm_check.proofs.features.select_features.Given as goal

abbrev pub invariant-words : goal.invariant-words
invariant-words l = selected ghosts.table (map (λ word. word.now) (take l.word-index l.words)) ≡ Some l.features
