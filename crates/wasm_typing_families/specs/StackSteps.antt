-- One operator on the stacks of a body, by the table of steps.
-- Core Specification 3.0, Validation, Instructions.
use Rattle.std.specs.Prelude.{Result, ⊤}
use Rattle.wasm_typing_blocks.specs.WasmTypingChecks.WasmSpecRules.Contexts.{Context}
use Rattle.wasm_readers_types.specs.WasmReadersValues.declared.indices.UnpackedIndex.{UnpackedIndex}
use Rattle.wasm_operators.specs.Instructions.{Instruction, control, legacy, reference, cast}
use Rattle.wasm_operators.specs.Maps.{map_instruction}
use Rattle.wasm_typing_blocks.specs.WasmTypingChecks.WasmSpecSteps.Steps.{step_in}
use Rattle.wasm_typing_blocks.specs.WasmTypingChecks.WasmValidatorResources.Answers.{world, written_index}
use Rattle.wasm_typing_blocks.specs.WasmTypingChecks.WasmTypingStacks.BodyStacks.{state_of, around}
use Rattle.wasm_typing_blocks.specs.WasmTypingChecks.WasmTypingStacks.declared.stacks.Stacks.{Stacks}
use Rattle.wasm_typing_casts.specs.WrittenReferences.{IsWrittenReference}
use Rattle.wasm_typing_casts.specs.WrittenCasts.{IsWrittenCast}
use Rattle.wasm_typing_blocks.specs.WasmTypingChecks.Steps.{Took}
use Rattle.wasm_typing_blocks.specs.WasmTypingChecks.declared.faults.OperatorError.{OperatorError}
use Rattle.wasm_typing_blocks.specs.WrittenOperators.{IsWrittenControl, IsWrittenLegacy}

-- one step by an operator whose types name type indices of a module
abbrev pub Steps : {A : Type 0} → Result (Unit {0}) OperatorError → Context UnpackedIndex → Instruction UnpackedIndex → Stacks A → Stacks A → Type 0
Steps r C op v w = Took r (step_in (world C) (around v C) (map_instruction written_index op) (state_of v)) (state_of v) (state_of w)

-- the types of an operator name type indices of a module
abbrev pub IsWrittenInstruction : Instruction UnpackedIndex → Type 0
IsWrittenInstruction (control op) = IsWrittenControl op
IsWrittenInstruction (legacy op) = IsWrittenLegacy op
IsWrittenInstruction (reference op) = IsWrittenReference op
IsWrittenInstruction (cast op) = IsWrittenCast op
IsWrittenInstruction _ = ⊤
