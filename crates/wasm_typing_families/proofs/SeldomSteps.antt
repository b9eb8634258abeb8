-- The step of an operator that was read with its family.
use Rattle.std.proofs.Common.{◌≡◌, ◌<◌, ◌∙◌, ℕ, List, ◌∷◌, Option, Some, Result, Ok, Err, true, refl, arith}
use Rattle.std.specs.Prelude.{OnOk, OnErr, nat_lt}
use Rattle.std.proofs.lemmas.Bool.Decides.{nat_tests}
use Rattle.wasm_typing_blocks.specs.WasmTypingChecks.WasmSpecRules.WasmSpec.Values.{u32_at}
use Rattle.wasm_typing_blocks.specs.WasmTypingChecks.WasmSpecRules.Contexts.{Context}
use Rattle.wasm_readers.specs.WasmReadersBytes.Reader.{rest}
use Rattle.wasm_readers.specs.WasmReadersBytes.declared.binary_reader.BinaryReader.{BinaryReader}
use Rattle.wasm_readers.specs.WrittenIndices.{written}
use Rattle.wasm_readers_types.specs.WasmReadersValues.declared.indices.UnpackedIndex.{UnpackedIndex}
use Rattle.wasm_operators.specs.Control.{Control}
use Rattle.wasm_operators.specs.Instructions as instruction
use Rattle.wasm_operators.specs.Instructions.{Instruction, instruction_at, aggregate_from, atomics_from, bulk_from, plain_from, prefixed_from, vectors_from}
use Rattle.wasm_operators.specs.Maps.{map_instruction}
use Rattle.wasm_operators.specs.References.{Cast, Reference}
use Rattle.wasm_typing_blocks.specs.WasmTypingChecks.WasmSpecSteps.Machine.{State}
use Rattle.wasm_typing_blocks.specs.WasmTypingChecks.WasmSpecSteps.Shapes.{shape_of}
use Rattle.wasm_typing_blocks.specs.WasmTypingChecks.WasmSpecSteps.Steps.{step_in}
use Rattle.wasm_typing_blocks.specs.WasmTypingChecks.WasmValidatorResources.Answers.{world, written_index}
use Rattle.wasm_typing_blocks.specs.WasmTypingChecks.WasmTypingStacks.BodyStacks.{state_of, around}
use Rattle.wasm_typing_blocks.specs.WasmTypingChecks.WasmTypingStacks.declared.stacks.Stacks.{Stacks}
use Rattle.wasm_typing_blocks.specs.WasmTypingChecks.Steps.{Took, Performs}
use Rattle.wasm_typing_blocks.specs.WasmTypingChecks.declared.faults.OperatorError.{OperatorError}
use Rattle.wasm_typing_blocks.specs.WrittenOperators.{IsWrittenControl}
use Rattle.wasm_typing_casts.specs.WrittenReferences.{IsWrittenReference}
use Rattle.wasm_typing_casts.specs.WrittenCasts.{IsWrittenCast}
use Rattle.wasm_typing_steps.specs.WasmTypingControl.FastSteps.{Fast}
use Rattle.wasm_typing_steps.specs.WasmTypingControl.declared.not_taken.NotTaken.{NotTaken}
use Rattle.wasm_typing_steps.specs.InstructionSteps.{step_at}
use Rattle.wasm_typing_families.specs.StepsFromBytes.{stepped}
use Rattle.wasm_typing_families.proofs.FamilySteps.{of_family}
use Rattle.wasm_typing_families.proofs.WrittenInstructions.{is_written}

-- a step that is read as a fast one
abbrev IsFast : Result (Unit {0}) OperatorError → Result (Unit {0}) NotTaken → Type 0
IsFast r q = (o : Option (State UnpackedIndex)) (old new : State UnpackedIndex) → Took r o old new → Fast q o old new

module _ {A : Type 0} (C : Context UnpackedIndex) (v w : Stacks A) (i : Instruction UnpackedIndex) where
  abbrev step_of : Option (State UnpackedIndex)
  step_of = step_in (world C) (around v C) (map_instruction written_index i) (state_of v)

  taken : (front : BinaryReader) (more : List ℕ) (t : State UnpackedIndex) → instruction_at written (rest front) ≡ Some (i, more) → step_of ≡ Some t → stepped C v front ≡ Some (t, more)
  unfolding step_at
  taken front more t e f = rw (e, f) refl

  pub goes : (front : BinaryReader) (o : Option (Instruction UnpackedIndex × List ℕ)) (more : List ℕ) (r : Result (Unit {0}) OperatorError) (q : Result (Unit {0}) NotTaken)
      → v.is_open ≡ true → instruction_at written (rest front) ≡ o → o ≡ Some (i, more) → Performs r C (shape_of (map_instruction written_index i)) v w → IsFast r q
      → OnOk q (stepped C v front ≡ Some (state_of w, more))
  unfolding Fast
  goes front o more r (Ok x) k at e p f = taken front more (state_of w) (at ∙ e) (f step_of (state_of v) (state_of w) (of_family r C i v w k p))
  goes front o more r (Err y) k at e p f = tt

  pub stays : (r : Result (Unit {0}) OperatorError) (q : Result (Unit {0}) NotTaken) → v.is_open ≡ true → Performs r C (shape_of (map_instruction written_index i)) v w → IsFast r q → OnErr q (state_of w ≡ state_of v)
  unfolding Fast
  stays r (Ok x) k p f = tt
  stays r (Err y) k p f = f step_of (state_of v) (state_of w) (of_family r C i v w k p)

-- the types of what was read name type indices of a module
module _ (front : BinaryReader) (o : Option (Instruction UnpackedIndex × List ℕ)) (more : List ℕ) where
  pub written_control : (op : Control UnpackedIndex) → instruction_at written (rest front) ≡ o → o ≡ Some (instruction.control op, more) → IsWrittenControl op
  written_control op at e = is_written (rest front) (instruction.control op) more (at ∙ e)

  pub written_reference : (op : Reference UnpackedIndex) → instruction_at written (rest front) ≡ o → o ≡ Some (instruction.reference op, more) → IsWrittenReference op
  written_reference op at e = is_written (rest front) (instruction.reference op) more (at ∙ e)

  pub written_cast : (op : Cast UnpackedIndex) → instruction_at written (rest front) ≡ o → o ≡ Some (instruction.cast op, more) → IsWrittenCast op
  written_cast op at e = is_written (rest front) (instruction.cast op) more (at ∙ e)

-- the instruction that bytes begin with, behind its first byte, and behind a prefix and its number
module _ (b n : ℕ) (bytes behind more : List ℕ) where
  pub behind_byte : bytes ≡ b ∷ behind → b < 0xfb → instruction_at written bytes ≡ plain_from written b behind
  unfolding instruction_at
  behind_byte e h = let t : nat_lt b 0xfb ≡ true = grind (arith, nat_tests) in rw (e, t) refl

  pub behind_fb : bytes ≡ b ∷ behind → u32_at behind ≡ Some (n, more) → b ≡ 0xfb → instruction_at written bytes ≡ aggregate_from written n more
  unfolding instruction_at prefixed_from
  behind_fb e f g = rw (e, g, f) refl

  pub behind_fc : bytes ≡ b ∷ behind → u32_at behind ≡ Some (n, more) → b ≡ 0xfc → instruction_at written bytes ≡ bulk_from written n more
  unfolding instruction_at prefixed_from
  behind_fc e f g = rw (e, g, f) refl

  pub behind_fd : bytes ≡ b ∷ behind → u32_at behind ≡ Some (n, more) → b ≡ 0xfd → instruction_at written bytes ≡ vectors_from written n more
  unfolding instruction_at prefixed_from
  behind_fd e f g = rw (e, g, f) refl

  pub behind_fe : bytes ≡ b ∷ behind → u32_at behind ≡ Some (n, more) → b ≡ 0xfe → instruction_at written bytes ≡ atomics_from written n more
  unfolding instruction_at prefixed_from
  behind_fe e f g = rw (e, g, f) refl

pub ruleset families = (goes, stays, written_control, written_reference, written_cast)

pub ruleset fronts = (behind_byte, behind_fb, behind_fc, behind_fd, behind_fe)
