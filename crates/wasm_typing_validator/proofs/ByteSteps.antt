-- One step from bytes is reading, and the step of what was read.
use Rattle.std.proofs.Common.{◌≡◌, ◌∙◌, refl, sym, ap, ℕ, List, Option, Some, None, Ok, Err}
use Rattle.wasm_typing_families.specs.WasmTypingBlocks.WasmTypingChecks.WasmSpecRules.Attempts.{◌>>=◌}
use Rattle.wasm_typing_families.specs.WasmTypingBlocks.WasmTypingChecks.WasmSpecRules.Contexts.{Context}
use Rattle.wasm_readers.specs.WasmReadersBytes.Reader.{rest}
use Rattle.wasm_readers.specs.WasmReadersBytes.declared.binary_reader.BinaryReader.{BinaryReader}
use Rattle.wasm_readers.specs.WrittenIndices.{written}
use Rattle.wasm_readers.specs.WasmReadersErrors.WasmReadersFeatures.declared.features.WasmFeatures.{WasmFeatures}
use Rattle.wasm_readers.specs.WasmReadersErrors.declared.error.Error.{Error}
use Rattle.wasm_readers.specs.WasmReadersErrors.declared.error.Error.TheVariants.{Refused, OutOfMemory}
use Rattle.wasm_readers_types.specs.WasmReadersValues.declared.indices.UnpackedIndex.{UnpackedIndex}
use Rattle.wasm_operators.specs.Instructions.{Instruction, instruction_at}
use Rattle.wasm_operators.specs.Maps.{map_instruction}
use Rattle.wasm_typing_families.specs.WasmTypingBlocks.WasmTypingChecks.WasmSpecSteps.ServedInstructions.{served}
use Rattle.wasm_typing_families.specs.WasmTypingBlocks.WasmTypingChecks.WasmSpecSteps.Machine.{State}
use Rattle.wasm_typing_families.specs.WasmTypingBlocks.WasmTypingChecks.WasmSpecSteps.Steps.{step_in}
use Rattle.wasm_typing_families.specs.WasmTypingBlocks.WasmTypingChecks.WasmValidatorResources.Answers.{world, written_index}
use Rattle.wasm_typing_families.specs.WasmTypingBlocks.WasmTypingChecks.WasmTypingStacks.BodyStacks.{state_of, around}
use Rattle.wasm_typing_families.specs.WasmTypingBlocks.WasmTypingChecks.WasmTypingStacks.declared.stacks.Stacks.{Stacks}
use Rattle.wasm_typing_families.specs.WasmTypingBlocks.WasmTypingChecks.Steps.{Took}
use Rattle.wasm_typing_families.specs.WasmTypingBlocks.WasmTypingChecks.OperatorRefusals.{TellsError}
use Rattle.wasm_typing_families.specs.WasmTypingBlocks.WasmTypingChecks.declared.faults.OperatorError.{OperatorError}
use Rattle.wasm_typing_families.specs.WasmTypingBlocks.WasmTypingChecks.declared.faults.OperatorError.TheVariants as operator
use Rattle.wasm_typing_families.specs.WasmTypingBlocks.WasmTypingChecks.WasmSpecRules.FeatureFlags.{features_of}
use Rattle.wasm_typing_families.specs.WasmTypingSteps.InstructionSteps.{step_read, step_at}
use Rattle.wasm_typing_arity.proofs.UnservedOperators.{takes_none}
use Rattle.wasm_typing_validator.specs.StackSteps.{Steps}
use Rattle.wasm_typing_validator.specs.StepsFromBytes.{ReadsStep, stepped}

module _ {A : Type 0} (C : Context UnpackedIndex) (v : Stacks A) (r : BinaryReader) where
  abbrev step_of : Instruction UnpackedIndex → Option (State UnpackedIndex)
  step_of i = step_in (world C) (around v C) (map_instruction written_index i) (state_of v)

  unserved : (o : Option (Instruction UnpackedIndex × List ℕ)) → served (features_of v.features) o ≡ None → step_read (world C) (around v C) (state_of v) o ≡ None
  unserved None e = refl
  unserved (Some i) e = ap (λ (t : Option (State UnpackedIndex)). t >>= λ u. Some (u, i.1)) (takes_none (world C) (around v C) written_index i e (state_of v))

  pub not_served : (features : WasmFeatures) → features ≡ v.features → served (features_of features) (instruction_at written (rest r)) ≡ None → stepped C v r ≡ None
  unfolding step_at
  not_served features same e = unserved (instruction_at written (rest r)) (ap (λ (x : WasmFeatures). served (features_of x) (instruction_at written (rest r))) (sym same) ∙ e)

  refused : (i : Instruction UnpackedIndex) (more : List ℕ) → instruction_at written (rest r) ≡ Some (i, more) → step_of i ≡ None → stepped C v r ≡ None
  unfolding step_at
  refused i more e f = rw (e, f) refl

  taken : (i : Instruction UnpackedIndex) (more : List ℕ) (t : State UnpackedIndex) → instruction_at written (rest r) ≡ Some (i, more) → step_of i ≡ Some t → stepped C v r ≡ Some (t, more)
  unfolding step_at
  taken i more t e f = rw (e, f) refl

  pub step_taken : (i : Instruction UnpackedIndex) (more : List ℕ) (x : Unit {0}) (w : Stacks A) → instruction_at written (rest r) ≡ Some (i, more) → Steps (Ok x) C i v w → stepped C v r ≡ Some (state_of w, more)
  unfolding Took
  step_taken i more x w e p = taken i more (state_of w) e p

  pub step_refused : (i : Instruction UnpackedIndex) (more : List ℕ) (e : OperatorError) (offset : ℕ) (q : Error) (w : Stacks A) (new : State UnpackedIndex) (behind : List ℕ) → instruction_at written (rest r) ≡ Some (i, more) → TellsError e offset q → Steps (Err e) C i v w → ReadsStep (Err q) (stepped C v r) new behind
  unfolding Took
  step_refused i more (operator.Refused f) offset (Refused q) w new behind e t p = refused i more e p.0
  step_refused i more (operator.Refused f) offset OutOfMemory w new behind e t p = absurd t
  step_refused i more operator.OutOfMemory offset OutOfMemory w new behind e t p = tt
  step_refused i more operator.OutOfMemory offset (Refused q) w new behind e t p = absurd t
