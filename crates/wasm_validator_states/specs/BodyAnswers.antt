-- What comes of a body that is handed in. Core Specification 3.0, Binary Format, Modules, Code Section.
use Rattle.std.specs.Prelude.{◌≡◌, ◌==◌, ◌+◌, if◌then◌else◌, [], ◌∷◌, Some, None, IsSome}
use Rattle.std.specs.declared.result.Result.{Result}
use Rattle.std.specs.declared.result.Result.TheVariants as results
use Rattle.wasm_spec_rules.specs.Contexts.{Context}
use Rattle.wasm_readers.specs.WasmReadersBytes.Reader.{original, position_in}
use Rattle.wasm_readers_types.specs.WasmReadersValues.declared.indices.UnpackedIndex.{UnpackedIndex}
use Rattle.wasm_readers_errors.specs.Refusals.{plain}
use Rattle.wasm_readers_errors.specs.WasmReadersFeatures.declared.features.WasmFeatures.{WasmFeatures}
use Rattle.wasm_readers_errors.specs.declared.error.Counted.TheVariants as counted
use Rattle.wasm_readers_errors.specs.declared.error.Fault.{Fault}
use Rattle.wasm_readers_errors.specs.declared.error.Fault.TheVariants as fault
use Rattle.wasm_readers_errors.specs.declared.error.OutOfOrder.TheVariants.{SectionBeforeHeader, SectionAfterEnd, SectionAfterFailure, CodeEntryBeforeCodeStart, CodeEntryWithoutFunction}
use Rattle.wasm_parser.specs.PayloadViews.{body_of, body_reader}
use Rattle.wasm_parser.specs.declared.function_body.FunctionBody.{FunctionBody}
use Rattle.wasm_validator_sections.specs.CodeProgress.{bodies_left}
use Rattle.wasm_validator_sections.specs.WasmValidatorCore.declared.error.Error.{Error}
use Rattle.wasm_validator_sections.specs.WasmValidatorCore.declared.error.Error.TheVariants.{Refused, DuplicateExport, InFunction, OutOfMemory}
use Rattle.wasm_validator_sections.specs.WasmValidatorFunc.declared.func_validator.FuncToValidate.{FuncToValidate}
use Rattle.wasm_validator_sections.specs.declared.code_state.TheConstants.{MAX_FUNCTION_SIZE}
use Rattle.wasm_validator_states.specs.ValidatorStages.{Stage, unparsed, in_module, in_code, ended, failed, shown_at, body_refused_at}
use Rattle.wasm_validator_states.specs.States.{BodyToValidate, body_taken, body_at}

-- a function and its body, as they are handed out
abbrev pub body_seen : FuncToValidate (Context UnpackedIndex) → FunctionBody → BodyToValidate
body_seen f b = record { index = f.index; ty = f.ty; features = f.features; context = f.resources; bytes = body_of b }

-- what is told of a body: where it may come, that it is too long
abbrev pub body_told : Stage → Fault
body_told (unparsed types) = fault.OutOfOrder SectionBeforeHeader
body_told (in_module types spaces more) = fault.OutOfOrder CodeEntryBeforeCodeStart
body_told (in_code types spaces more) = if bodies_left spaces more == 0 then fault.OutOfOrder CodeEntryWithoutFunction else fault.Limit counted.FunctionBodySize MAX_FUNCTION_SIZE
body_told (ended types) = fault.OutOfOrder SectionAfterEnd
body_told failed = fault.OutOfOrder SectionAfterFailure

-- A body is taken, and handed out with its function; or it is refused, and that is told of it, at its first byte. Memory is refused only while a
-- module is being read, and where it was a body's turn.
abbrev pub TakesBody : {A : Type 0} → Result (FuncToValidate (Context UnpackedIndex)) (Error A) → WasmFeatures → FunctionBody → Stage → Stage → Type 0
TakesBody (results.Ok f) features b g h = (body_taken (body_of b) g ≡ Some h) × (body_at features (body_of b) g ≡ body_seen f b ∷ [])
TakesBody (results.Err (Refused r)) features b g h =
    (body_taken (body_of b) g ≡ None) × (h ≡ body_refused_at g) × (r ≡ plain (body_told g) (original (body_reader b) + position_in (body_reader b)))
TakesBody (results.Err (DuplicateExport name offset)) features b g h = ⊥
TakesBody (results.Err (InFunction index r)) features b g h = ⊥
TakesBody (results.Err OutOfMemory) features b g h = IsSome (shown_at g) × (body_refused_at g ≡ failed) × (h ≡ failed)
