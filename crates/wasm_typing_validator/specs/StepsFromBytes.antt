-- One step from bytes, with what is refused.
-- Core Specification 3.0, Appendix, Validation Algorithm.
use Rattle.std.specs.Prelude.{◌≡◌, ℕ, List, Option, Some, None, Result, Ok, Err, ⊤}
use Rattle.wasm_readers.specs.WasmReadersErrors.declared.error.Error.{Error}
use Rattle.wasm_readers.specs.WasmReadersErrors.declared.error.Error.TheVariants.{Refused, OutOfMemory}
use Rattle.wasm_readers_types.specs.WasmReadersValues.declared.indices.UnpackedIndex.{UnpackedIndex}
use Rattle.wasm_typing_families.specs.WasmTypingBlocks.WasmTypingChecks.WasmSpecSteps.Machine.{State}
-- the step of the instruction that a reader's bytes begin with, from the state of some stacks
pub use Rattle.wasm_typing_families.specs.StepsFromBytes.{stepped}

-- the step of an instruction that was read: the state and the bytes behind it, or none where it is refused
abbrev pub ReadsStep : Result (Unit {0}) Error → Option (State UnpackedIndex × List ℕ) → State UnpackedIndex → List ℕ → Type 0
ReadsStep (Ok x) o new more = o ≡ Some (new, more)
ReadsStep (Err (Refused r)) o new more = o ≡ None
ReadsStep (Err OutOfMemory) o new more = ⊤
