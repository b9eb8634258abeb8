-- What a validator answers once something was refused: that it has failed, and never want of memory.
use Rattle.std.specs.Prelude.{◌≡◌, ℕ, List, Option, Some, None, Result, Err, ⊤}
use Rattle.wasm_operators.specs.Instructions.{Instruction}
use Rattle.wasm_readers.specs.WasmReadersErrors.Refusals.{plain}
use Rattle.wasm_readers.specs.WasmReadersErrors.declared.error.Error.{Error}
use Rattle.wasm_readers.specs.WasmReadersErrors.declared.error.Error.TheVariants as error
use Rattle.wasm_readers.specs.WasmReadersErrors.declared.error.Fault.TheVariants as fault
use Rattle.wasm_readers.specs.WasmReadersErrors.WasmReadersFeatures.declared.operator_rules.OperatorRule.TheVariants as rule
use Rattle.wasm_readers_types.specs.WasmReadersValues.declared.indices.UnpackedIndex.{UnpackedIndex}
use Rattle.wasm_typing_families.specs.WasmTypingBlocks.WasmTypingChecks.declared.faults.OperatorError.{OperatorError}
use Rattle.wasm_typing_families.specs.WasmTypingBlocks.WasmTypingChecks.declared.faults.OperatorError.TheVariants.{Refused}

-- the refusal that the validator failed, before it is told where
abbrev pub IsFailure : Result (Unit {0}) OperatorError → Type 0
IsFailure (Err (Refused f)) = (f.rule ≡ rule.Failed) × (f.number ≡ 0)
IsFailure _ = ⊥

-- the same at this offset, which no proposal lifts
abbrev pub failure_at : ℕ → Result (Unit {0}) Error
failure_at offset = Err (error.Refused (plain (fault.Operator rule.Failed 0) offset))

-- a refusal, and not want of memory
abbrev pub IsRefusal : Result (Unit {0}) Error → Type 0
IsRefusal (Err (error.Refused r)) = ⊤
IsRefusal _ = ⊥

-- the refusal of the bytes where they begin with no instruction that is served, and else that the validator failed
abbrev pub EndsReading : Result (Unit {0}) Error → ℕ → Option (Instruction UnpackedIndex × List ℕ) → Type 0
EndsReading r offset None = IsRefusal r
EndsReading r offset (Some i) = r ≡ failure_at offset
