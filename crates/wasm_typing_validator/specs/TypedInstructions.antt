-- What contracts see of instructions that are read and typed.
-- Core Specification 3.0, Appendix, Validation Algorithm.
use Rattle.std.specs.Prelude.{◌≡◌, ◌≤◌, ◌+◌, ℕ, List, length, Option, Some, None, Result, Ok, Err, ⊤}
use Rattle.wasm_typing_families.specs.WasmTypingBlocks.WasmTypingChecks.WasmSpecRules.Contexts.{Context}
use Rattle.wasm_readers.specs.WasmReadersBytes.Reader.{input, original, position_in}
use Rattle.wasm_readers.specs.WasmReadersBytes.declared.binary_reader.BinaryReader.{BinaryReader}
use Rattle.wasm_readers.specs.WasmReadersErrors.declared.error.Error.{Error}
use Rattle.wasm_readers.specs.WasmReadersErrors.declared.error.Error.TheVariants.{Refused, OutOfMemory}
use Rattle.wasm_readers_types.specs.WasmReadersValues.declared.indices.UnpackedIndex.{UnpackedIndex}
use Rattle.wasm_typing_families.specs.WasmTypingBlocks.WasmTypingChecks.WasmSpecSteps.Bodies.{Surroundings}
use Rattle.wasm_typing_families.specs.WasmTypingBlocks.WasmTypingChecks.WasmSpecSteps.Machine.{State}
use Rattle.wasm_typing_families.specs.WasmTypingBlocks.WasmTypingChecks.WasmTypingStacks.BodyStacks.{around}
use Rattle.wasm_typing_validator.specs.declared.validator.OperatorValidator.{OperatorValidator}

-- what the code is checked in
abbrev pub within : {A : Type 0} → OperatorValidator A → Context UnpackedIndex → Surroundings UnpackedIndex
within v C = around v.stacks C

-- a refusal at this offset, and not want of memory
abbrev pub IsRefusedAt : ℕ → Error → Type 0
IsRefusedAt offset (Refused r) = r.offset ≡ offset
IsRefusedAt offset OutOfMemory = ⊥

-- a refusal that stands in what is left to read, unless memory was refused
abbrev pub StandsIn : BinaryReader → Error → Type 0
StandsIn r (Refused e) = (original r + position_in r ≤ e.offset) × (e.offset ≤ original r + length (input r))
StandsIn r OutOfMemory = ⊤

-- one instruction at this offset: its state, or none where it is refused
abbrev pub TookAt : ℕ → Result (Unit {0}) Error → Option (State UnpackedIndex) → State UnpackedIndex → Type 0
TookAt offset (Ok x) o new = o ≡ Some new
TookAt offset (Err (Refused r)) o new = (o ≡ None) × (r.offset ≡ offset)
TookAt offset (Err OutOfMemory) o new = ⊤

-- all of them: the state and the bytes behind them, or none where they are refused
abbrev pub ReadsTo : Result (Unit {0}) Error → Option (State UnpackedIndex × List ℕ) → State UnpackedIndex → List ℕ → Type 0
ReadsTo (Ok x) o new more = o ≡ Some (new, more)
ReadsTo (Err (Refused r)) o new more = o ≡ None
ReadsTo (Err OutOfMemory) o new more = ⊤
