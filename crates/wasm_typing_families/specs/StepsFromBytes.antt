-- One step from bytes.
-- Core Specification 3.0, Appendix, Validation Algorithm.
use Rattle.std.specs.Prelude.{ℕ, List, Option}
use Rattle.wasm_readers.specs.WasmReadersBytes.Reader.{rest}
use Rattle.wasm_readers.specs.WasmReadersBytes.declared.binary_reader.BinaryReader.{BinaryReader}
use Rattle.wasm_readers_types.specs.WasmReadersValues.declared.indices.UnpackedIndex.{UnpackedIndex}
use Rattle.wasm_typing_blocks.specs.WasmTypingChecks.WasmSpecRules.Contexts.{Context}
use Rattle.wasm_typing_blocks.specs.WasmTypingChecks.WasmSpecSteps.Machine.{State}
use Rattle.wasm_typing_blocks.specs.WasmTypingChecks.WasmValidatorResources.Answers.{world}
use Rattle.wasm_typing_blocks.specs.WasmTypingChecks.WasmTypingStacks.BodyStacks.{state_of, around}
use Rattle.wasm_typing_blocks.specs.WasmTypingChecks.WasmTypingStacks.declared.stacks.Stacks.{Stacks}
use Rattle.wasm_typing_steps.specs.InstructionSteps.{step_at}

-- the step of the instruction that a reader's bytes begin with, from the state of some stacks
abbrev pub stepped : {A : Type 0} → Context UnpackedIndex → Stacks A → BinaryReader → Option (State UnpackedIndex × List ℕ)
stepped C v r = step_at (world C) (around v C) (state_of v) (rest r)
