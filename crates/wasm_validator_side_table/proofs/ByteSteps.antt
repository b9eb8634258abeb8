-- Steps from bytes, and the greatest height.
use Rattle.std.proofs.Common.{◌≡◌, ◌≤◌, ap, subst, ◌∙◌, ℕ, ◌+◌, arith, List, [], length, Option, Some, None, Err}
use Rattle.wasm_spec_rules.specs.Contexts.{Context}
use Rattle.wasm_spec_rules.specs.Attempts.{◌>>=◌}
use Rattle.wasm_readers.specs.WrittenIndices.{written}
use Rattle.wasm_readers.specs.WasmReadersBytes.Reader.{SameInput, RefusedFrom, input, original, position_in, place_of_next, rest}
use Rattle.wasm_readers.specs.WasmReadersBytes.declared.binary_reader.BinaryReader.{BinaryReader}
use Rattle.wasm_readers_errors.specs.declared.error.Error.{Error}
use Rattle.wasm_readers_errors.specs.declared.error.Error.TheVariants.{Refused, OutOfMemory}
use Rattle.wasm_readers_errors.specs.declared.error.Refusal.{Refusal}
use Rattle.wasm_readers_types.specs.WasmReadersValues.declared.indices.UnpackedIndex.{UnpackedIndex}
use Rattle.wasm_operators.specs.Instructions.{Instruction, instruction_at}
use Rattle.wasm_operators.specs.Maps.{map_instruction}
use Rattle.wasm_validator_side_notes.specs.WasmTypingValidator.WasmSpecSteps.Machine.{State}
use Rattle.wasm_validator_resources.specs.Answers.{world, written_index}
use Rattle.wasm_validator_side_notes.specs.WasmTypingValidator.WasmTypingStacks.BodyStacks.{Kept}
use Rattle.wasm_validator_side_notes.specs.WasmTypingValidator.WasmTypingSteps.InstructionSteps.{step_read, step_at}
use Rattle.wasm_validator_side_notes.specs.WasmTypingValidator.BodyTyping.{typed_state, locals_in}
use Rattle.wasm_validator_side_notes.specs.WasmTypingValidator.TypedInstructions.{within, TookAt, StandsIn}
use Rattle.wasm_validator_side_notes.specs.WasmTypingValidator.StepsFromBytes.{ReadsStep, stepped}
use Rattle.wasm_validator_side_notes.specs.WasmTypingValidator.declared.validator.OperatorValidator.{OperatorValidator}
use Rattle.wasm_validator_side_notes.specs.WasmValidatorFunc.BodyValidation.{listed_in, Goes}
use Rattle.wasm_validator_side_notes.specs.WasmSpecSideTables.OnePassTables.{Built}
use Rattle.wasm_validator_side_notes.specs.TableViews.{shown, steps_to}
use Rattle.wasm_validator_side_notes.specs.Tables.{Reaches, HasRead}
use Rattle.wasm_validator_side_notes.specs.declared.table.SideTable.{SideTable}
use Rattle.wasm_validator_side_notes.proofs.NextInstructions.{places_add}

-- an operator that was read, and took its step or was refused
module _ {A : Type 0} (C : Context UnpackedIndex) (v : OperatorValidator A) (r : BinaryReader) (i : Instruction UnpackedIndex) (more : List ℕ) (read : instruction_at written (rest r) ≡ Some (i, more)) where
  pub step_did : (t : State UnpackedIndex) → steps_to C v (map_instruction written_index i) ≡ Some t → stepped C v.stacks r ≡ Some (t, more)
  unfolding step_at
  step_did t e = ap (step_read (world C) (within v C) (typed_state v)) read ∙ ap (λ (o : Option (State UnpackedIndex)). o >>= λ (x : State UnpackedIndex). Some (x, more)) e

  step_none : steps_to C v (map_instruction written_index i) ≡ None → stepped C v.stacks r ≡ None
  unfolding step_at
  step_none e = ap (step_read (world C) (within v C) (typed_state v)) read ∙ ap (λ (o : Option (State UnpackedIndex)). o >>= λ (x : State UnpackedIndex). Some (x, more)) e

  pub step_not : (at : ℕ) (e : Error) (t new : State UnpackedIndex) (behind : List ℕ) → TookAt at (Err e) (steps_to C v (map_instruction written_index i)) t → ReadsStep (Err e) (stepped C v.stacks r) new behind
  step_not at (Refused f) t new behind p = step_none p.0
  step_not at OutOfMemory t new behind p = tt

-- where a refusal stands
pub stands_read : (r : BinaryReader) (f : Refusal) → RefusedFrom r f → StandsIn r (Refused f)
stands_read r f h = (h.2, h.3)

pub stands_at : (r : BinaryReader) (at : ℕ) (e : Error) (o : Option (State UnpackedIndex)) (t : State UnpackedIndex) → at ≡ original r + position_in r → TookAt at (Err e) o t → StandsIn r e
stands_at r at (Refused f) o t e p =
    let here : f.offset ≡ at = p.1 in
    let within : position_in r ≤ length (input r) = r.within in
    (omega (arith, here, e), omega (arith, here, e, within))
stands_at r at OutOfMemory o t e p = tt

-- what was read of a body
pub has_read :
    {A X : Type 0} (C : Context UnpackedIndex) (v d w : OperatorValidator X) (T : Built) (t : SideTable A) (r q z : BinaryReader)
    → Goes v d → typed_state d ≡ typed_state v → listed_in v C (rest r) ≡ Some (locals_in d, rest q) → SameInput r q
    → Reaches (world C) (within d C) (typed_state d) T (place_of_next q) (rest q) (typed_state w) (shown t) t.operands (place_of_next z) (rest z)
    → rest z ≡ [] → Kept d.stacks w.stacks → t.first ≡ place_of_next q → t.end ≡ place_of_next z → HasRead C v w T t r
has_read C v d w T t r q z goes state listed same reaches empty kept first last = record {
  declared = d;
  goes = goes;
  state = state;
  behind = rest q;
  first = place_of_next q;
  listed = listed;
  begin = places_add r q same;
  end = place_of_next z;
  reaches = subst (λ (xs : List ℕ). Reaches (world C) (within d C) (typed_state d) T (place_of_next q) (rest q) (typed_state w) (shown t) t.operands (place_of_next z) xs) empty reaches;
  kept = kept;
  begins = first;
  ends = last;
}

pub ruleset reads = (stands_read)
