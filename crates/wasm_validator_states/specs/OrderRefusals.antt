-- What is told where a section or the end may not come, and of a header. Core Specification 3.0, Binary Format, Modules.
use Rattle.std.specs.Prelude.{ℕ, ◌≡◌, if◌then◌else◌, Bool}
use Rattle.wasm_spec_rules.specs.FeatureFlags.{features_of}
use Rattle.wasm_readers_errors.specs.Refusals.{plain, lacking}
use Rattle.wasm_readers_errors.specs.declared.error.Fault.TheVariants as fault
use Rattle.wasm_readers_errors.specs.declared.error.OutOfOrder.{OutOfOrder}
use Rattle.wasm_readers_errors.specs.declared.error.OutOfOrder.TheVariants.{SectionBeforeHeader, SectionAfterEnd, Header, EndBeforeHeader, EndAfterEnd, SectionAfterFailure, SectionAfterCodeStart}
use Rattle.wasm_readers_errors.specs.declared.error.Refusal.{Refusal}
use Rattle.wasm_readers_errors.specs.declared.error.Rule.TheVariants.{ComponentModelLeftOut, Exceptions}
use Rattle.wasm_readers_errors.specs.WasmReadersFeatures.declared.features.WasmFeatures.{WasmFeatures}
use Rattle.wasm_readers_errors.specs.WasmReadersFeatures.declared.features.TheConstants.WasmFeatures.{EXCEPTIONS}
use Rattle.wasm_readers.specs.SectionsSeen.{section_start}
use Rattle.wasm_readers.specs.declared.section_limited.SectionLimited.{SectionLimited}
use Rattle.wasm_validator_types.specs.Spaces.{Spaces}
use Rattle.wasm_validator_sections.specs.WasmValidatorCore.declared.error.Error.{Error}
use Rattle.wasm_validator_sections.specs.WasmValidatorCore.declared.error.Error.TheVariants.{Refused}
use Rattle.wasm_validator_sections.specs.WasmValidatorCore.Answers.{TypesSoFar}
use Rattle.wasm_validator_sections.specs.WasmValidatorCore.AddedItemRefusals.{told_of_start, told_of_data_count}
use Rattle.wasm_validator_states.specs.ValidatorStages.{Stage, unparsed, in_module, in_code, ended, failed}
use Rattle.wasm_validator_sections.specs.SectionFaults.{Either, TellsAt, TellsTags}

-- what is told of the order where a section may not come
abbrev pub order_told : Stage → OutOfOrder
order_told (unparsed types) = SectionBeforeHeader
order_told (in_module types spaces more) = SectionAfterFailure
order_told (in_code types spaces more) = SectionAfterCodeStart
order_told (ended types) = SectionAfterEnd
order_told failed = SectionAfterFailure

-- and where the end may not come
abbrev pub end_order_told : Stage → OutOfOrder
end_order_told (unparsed types) = EndBeforeHeader
end_order_told (in_module types spaces more) = SectionAfterFailure
end_order_told (in_code types spaces more) = SectionAfterFailure
end_order_told (ended types) = EndAfterEnd
end_order_told failed = SectionAfterFailure

-- what is told of a header: where it may come, the version or the encoding
abbrev pub header_told : WasmFeatures → ℕ → Bool → ℕ → Stage → Refusal
header_told features number is_module place (unparsed types) =
    if is_module then plain (fault.UnknownBinaryVersion number) place
    else plain (if (features_of features).component_model then fault.Rule ComponentModelLeftOut else fault.ComponentHeader number) place
header_told features number is_module place (in_module types spaces more) = plain (fault.OutOfOrder Header) place
header_told features number is_module place (in_code types spaces more) = plain (fault.OutOfOrder Header) place
header_told features number is_module place (ended types) = plain (fault.OutOfOrder Header) place
header_told features number is_module place failed = plain (fault.OutOfOrder Header) place

module _ {A : Type 0} where
  -- where a section may not come its order is told, at this offset
  abbrev pub TellsOrder : ℕ → Stage → Error A → Type 0
  TellsOrder place g e = e ≡ Refused (plain (fault.OutOfOrder (order_told g)) place)

  -- what is told of a section by the lists of the module that is being read, before the start of its code
  abbrev pub TellsWithin : (TypesSoFar → Spaces → Error A → Type 0) → ℕ → Stage → Error A → Type 0
  TellsWithin tells place (unparsed us) e = TellsOrder place (unparsed us) e
  TellsWithin tells place (in_module us m k) e = tells us m e
  TellsWithin tells place (in_code us m k) e = TellsOrder place (in_code us m k) e
  TellsWithin tells place (ended us) e = TellsOrder place (ended us) e
  TellsWithin tells place failed e = TellsOrder place failed e

  -- and of one that may come behind it as well
  abbrev pub TellsReading : (TypesSoFar → Spaces → Error A → Type 0) → ℕ → Stage → Error A → Type 0
  TellsReading tells place (unparsed us) e = TellsOrder place (unparsed us) e
  TellsReading tells place (in_module us m k) e = tells us m e
  TellsReading tells place (in_code us m k) e = tells us m e
  TellsReading tells place (ended us) e = TellsOrder place (ended us) e
  TellsReading tells place failed e = TellsOrder place failed e

  -- tags without the exceptions proposal are refused for that
  abbrev pub TellsTagSection : {T B : Type 0} → WasmFeatures → SectionLimited T B → Stage → Error A → Type 0
  TellsTagSection features section g e =
      Either (features_of features).exceptions
      (TellsWithin (TellsTags features section) (section_start section) g e)
      (e ≡ Refused (lacking EXCEPTIONS (fault.Rule Exceptions) (section_start section)))

  -- a start function, and the number of data segments
  abbrev pub TellsStart : ℕ → ℕ → TypesSoFar → Spaces → Error A → Type 0
  TellsStart place x us m e = TellsAt place (told_of_start place us m x) e

  abbrev pub TellsDataCount : WasmFeatures → ℕ → ℕ → TypesSoFar → Spaces → Error A → Type 0
  TellsDataCount features place count us m e = TellsAt place (told_of_data_count features place count) e
