-- What a call tells that adds an export.
use Rattle.std.proofs.Common.{◌≡◌, ℕ}
use Rattle.std.specs.Prelude.{IfErr}
use Rattle.std.specs.declared.result.Result.{Result}
use Rattle.std.specs.declared.result.Result.TheVariants.{Ok, Err}
use Rattle.wasm_spec.specs.BinaryModules.{Export}
use Rattle.wasm_spec_rules.specs.FeatureFlags.{features_of}
use Rattle.wasm_readers_errors.specs.WasmReadersFeatures.declared.features.WasmFeatures.{WasmFeatures}
use Rattle.wasm_readers_types.specs.SeenExterns.{kind_of}
use Rattle.wasm_readers_types.specs.declared.externs.ExternalKind.{ExternalKind}
use Rattle.wasm_validator_types.specs.Spaces.{Spaces}
use Rattle.wasm_validator_items.specs.WasmValidatorCore.Answers.{TypesSoFar, Adds}
use Rattle.wasm_validator_items.specs.WasmValidatorCore.Errors.{IsAt}
use Rattle.wasm_validator_items.specs.WasmValidatorCore.Items.{add_export, exported_entity}
use Rattle.wasm_validator_items.specs.WasmValidatorCore.AddedItemRefusals.{TellsExport, told_of_export}
use Rattle.wasm_validator_items.specs.WasmValidatorCore.declared.error.Error.{Error}
use Rattle.wasm_validator_items.specs.WasmValidatorCore.declared.error.Error.TheVariants.{Refused, DuplicateExport, InFunction, OutOfMemory}
use Rattle.wasm_validator_sections.specs.SectionFaults.{IsNone, OfContent, TellsOfExport}

module _ {T A : Type 0} (features : WasmFeatures) (us : TypesSoFar) (s new : Spaces) (x : Export) (kind : ExternalKind) (place : ℕ) (is : kind_of kind ≡ x.kind) where
  pub told_named :
      (r : Result T (Error A)) → Adds r (add_export (features_of features) us s x) new
      → TellsExport s x.name place r (told_of_export features place us s x.name kind x.index (exported_entity (features_of features) s x)) → IfErr r (IsAt place)
      → IfErr r (OfContent (λ e. IsNone (add_export (features_of features) us s x) × TellsOfExport features us place s x e))
  told_named (Ok y) added tells at = tt
  told_named (Err (Refused q)) added tells at = (added, record { kind = kind; is_kind = is; tells = (tells, at) })
  told_named (Err (DuplicateExport n offset)) added tells at = (added, record { kind = kind; is_kind = is; tells = tells })
  told_named (Err (InFunction index q)) added tells at = absurd tells
  told_named (Err OutOfMemory) added tells at = tt
