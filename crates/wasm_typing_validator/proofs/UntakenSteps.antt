-- Steps that are tried where another wasn't taken.
use Rattle.std.proofs.Common.{◌≡◌, ◌∙◌, sym, ap, ℕ, List, Option}
use Rattle.wasm_typing_families.specs.WasmTypingBlocks.WasmTypingChecks.WasmSpecRules.Contexts.{Context}
use Rattle.wasm_readers.specs.WasmReadersBytes.Reader.{rest}
use Rattle.wasm_readers.specs.WasmReadersBytes.declared.binary_reader.BinaryReader.{BinaryReader}
use Rattle.wasm_readers_types.specs.WasmReadersValues.declared.indices.UnpackedIndex.{UnpackedIndex}
use Rattle.wasm_typing_families.specs.WasmTypingBlocks.WasmTypingChecks.WasmSpecSteps.Machine.{State}
use Rattle.wasm_typing_families.specs.WasmTypingBlocks.WasmTypingChecks.WasmValidatorResources.Answers.{world}
use Rattle.wasm_typing_families.specs.WasmTypingBlocks.WasmTypingChecks.WasmTypingStacks.BodyStacks.{state_of, around, Kept}
use Rattle.wasm_typing_families.specs.WasmTypingBlocks.WasmTypingChecks.WasmTypingStacks.declared.stacks.Stacks.{Stacks}
use Rattle.wasm_typing_families.specs.WasmTypingSteps.InstructionSteps.{step_at}
use Rattle.wasm_typing_validator.specs.StepsFromBytes.{stepped}
use Rattle.wasm_typing_validator.proofs.CodeSurroundings.{kept_around, kept_on}

-- from where nothing changed
pub still_stepped : {A : Type 0} (C : Context UnpackedIndex) (v w : Stacks A) (r s : BinaryReader) (o : Option (State UnpackedIndex × List ℕ)) → Kept v w → state_of w ≡ state_of v → s ≡ r → stepped C w s ≡ o → stepped C v r ≡ o
still_stepped C v w r s o k e f p =
    sym (ap (λ (x : BinaryReader). step_at (world C) (around w C) (state_of w) (rest x)) f ∙ ap (λ t. step_at (world C) (around w C) t (rest r)) e ∙ ap (λ B. step_at (world C) B (state_of v) (rest r)) (kept_around v w C k)) ∙ p

pub ruleset tries = (still_stepped, kept_on)
