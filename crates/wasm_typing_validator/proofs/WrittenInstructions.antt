-- The instruction that is read of the bytes is the one that the definitions read.
use Rattle.std.proofs.Common.{◌≡◌, ap, ◌∙◌, ℕ, List, Some, None}
use Rattle.std.specs.Option.{option_map}
use Rattle.wasm_readers.specs.WrittenIndices.{written}
use Rattle.wasm_readers_types.specs.WasmReadersValues.declared.indices.UnpackedIndex.{UnpackedIndex}
use Rattle.wasm_operators.specs.Instructions.{Instruction, instruction_at}
use Rattle.wasm_operators.specs.Maps.{map_instruction}
use Rattle.wasm_operators.proofs.Renamings.{instruction-renames}
use Rattle.wasm_typing_arity.proofs.UnservedOperators.{served_renamed}
use Rattle.wasm_typing_families.specs.WasmTypingBlocks.WasmTypingChecks.WasmSpecRules.WasmSpec.Features.{Features}
use Rattle.wasm_typing_families.specs.WasmTypingBlocks.WasmTypingChecks.WasmSpecSteps.ServedInstructions.{served}
use Rattle.wasm_typing_families.specs.WasmTypingBlocks.WasmTypingChecks.WasmValidatorResources.Answers.{written_index}
-- what is read names type indices of a module
pub use Rattle.wasm_typing_families.proofs.WrittenInstructions.{is_written}

-- the same instruction by numbers
pub by_numbers : (bytes : List ℕ) (i : Instruction UnpackedIndex) (more : List ℕ) → instruction_at written bytes ≡ Some (i, more) → instruction_at (λ n. n) bytes ≡ Some (map_instruction written_index i, more)
by_numbers bytes i more e = (instruction-renames written_index written bytes).is ∙ ap (option_map (λ x. (map_instruction written_index x.0, x.1))) e

-- and none where none is served
pub none_served : (F : Features) (bytes : List ℕ) → served F (instruction_at written bytes) ≡ None → served F (instruction_at (λ n. n) bytes) ≡ None
none_served F bytes e = ap (served F) (instruction-renames written_index written bytes).is ∙ served_renamed F written_index (instruction_at written bytes) e
