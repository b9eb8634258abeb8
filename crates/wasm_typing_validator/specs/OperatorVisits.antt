-- One operator at an offset of the input, with what is told of its refusal.
-- Core Specification 3.0, Validation, Instructions.
use Rattle.std.specs.Prelude.{ℕ, Result, Ok, Err, ⊤}
use Rattle.wasm_typing_families.specs.WasmTypingBlocks.WasmTypingChecks.WasmSpecRules.Contexts.{Context}
use Rattle.wasm_readers_types.specs.WasmReadersValues.declared.indices.UnpackedIndex.{UnpackedIndex}
use Rattle.wasm_readers.specs.WasmReadersErrors.declared.error.Error.{Error}
use Rattle.wasm_operators.specs.Instructions.{Instruction}
use Rattle.wasm_typing_families.specs.WasmTypingBlocks.WasmTypingChecks.WasmTypingStacks.declared.stacks.Stacks.{Stacks}
use Rattle.wasm_typing_families.specs.WasmTypingBlocks.WasmTypingChecks.OperatorRefusals.{TellsError}
use Rattle.wasm_typing_families.specs.WasmTypingBlocks.WasmTypingChecks.declared.faults.OperatorError.{OperatorError}
use Rattle.wasm_typing_validator.specs.StackSteps.{Steps}

-- what a call says that tells its errors at an offset, by what it says without
abbrev pub SaysAt : Result (Unit {0}) OperatorError → ℕ → Result (Unit {0}) Error → Type 0
SaysAt (Ok x) offset (Ok y) = ⊤
SaysAt (Err e) offset (Err r) = TellsError e offset r
SaysAt _ offset _ = ⊥

-- an error that is told at an offset
abbrev pub IsToldAt : ℕ → Error → Type 0
IsToldAt offset r = (e : OperatorError) × TellsError e offset r

-- one step by an operator at an offset
abbrev pub StepsAt : {A : Type 0} → Result (Unit {0}) Error → ℕ → Context UnpackedIndex → Instruction UnpackedIndex → Stacks A → Stacks A → Type 0
StepsAt r offset C op v w = (s : Result (Unit {0}) OperatorError) × (SaysAt s offset r × Steps s C op v w)
