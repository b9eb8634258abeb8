-- Names of imports and exports, where limits are asked for. Core Specification 3.0, Appendix, Implementation Limitations.
use Rattle.std.specs.Prelude.{ℕ, Bool, List, length, Option}
use Rattle.std.specs.Option.{option_or}
use Rattle.wasm_spec.specs.BinaryModules.{Import}
use Rattle.wasm_spec.specs.Features.{Features}
use Rattle.wasm_spec.specs.CrateLimits.{most_name_bytes, is_within}
use Rattle.wasm_validator_resources.specs.WasmSpecRules.FeatureFlags.{features_of}
use Rattle.wasm_readers.specs.WasmReadersErrors.Refusals.{plain, unless}
use Rattle.wasm_readers.specs.WasmReadersErrors.declared.error.Fault.TheVariants as fault
use Rattle.wasm_readers.specs.WasmReadersErrors.declared.error.Refusal.{Refusal}
use Rattle.wasm_readers.specs.WasmReadersErrors.declared.item_rules.ItemRule.TheVariants.{NameSize}
use Rattle.wasm_readers.specs.WasmReadersErrors.WasmReadersFeatures.declared.features.WasmFeatures.{WasmFeatures}

abbrev pub is_short : Features → List ℕ → Bool
is_short F name = is_within F most_name_bytes (length name)

-- no proposal lifts the refusal of a longer one
module _ (features : WasmFeatures) (offset : ℕ) where
  abbrev pub told_of_name : List ℕ → Option Refusal
  told_of_name name = unless (is_short (features_of features) name) (plain (fault.Item NameSize) offset)

  abbrev pub told_of_names : {R : Type 0} → Import R → Option Refusal
  told_of_names i = option_or (told_of_name i.module_name) (told_of_name i.item_name)
