-- One operator at an offset, as the step that it takes.
use Rattle.std.proofs.Common.{◌≡◌, ◌≤◌, ap, ℕ, length, Option, Result, Ok, Err, arith}
use Rattle.wasm_spec_rules.specs.Contexts.{Context}
use Rattle.wasm_readers_bytes.specs.Reader.{SameInput, input, original, position_in}
use Rattle.wasm_readers_bytes.specs.declared.binary_reader.BinaryReader.{BinaryReader}
use Rattle.wasm_readers_errors.specs.declared.error.Error.{Error}
use Rattle.wasm_readers_errors.specs.declared.error.Error.TheVariants as error
use Rattle.wasm_readers_types.specs.WasmReadersValues.declared.indices.UnpackedIndex.{UnpackedIndex}
use Rattle.wasm_operators.specs.Instructions.{Instruction}
use Rattle.wasm_operators.specs.Maps.{map_instruction}
use Rattle.wasm_spec_steps.specs.Machine.{State}
use Rattle.wasm_spec_steps.specs.Steps.{step_in}
use Rattle.wasm_validator_resources.specs.Answers.{world, written_index}
use Rattle.wasm_typing_validator.specs.WasmTypingStacks.BodyStacks.{state_of, around}
use Rattle.wasm_typing_validator.specs.WasmTypingStacks.declared.stacks.Stacks.{Stacks}
use Rattle.wasm_typing_validator.specs.WasmTypingChecks.Steps.{Took}
use Rattle.wasm_typing_validator.specs.WasmTypingChecks.OperatorRefusals.{TellsError}
use Rattle.wasm_typing_validator.specs.WasmTypingChecks.declared.faults.OperatorError.{OperatorError}
use Rattle.wasm_typing_validator.specs.WasmTypingChecks.declared.faults.OperatorError.TheVariants.{Refused, OutOfMemory}
use Rattle.wasm_typing_validator.specs.StackSteps.{Steps}
use Rattle.wasm_typing_validator.specs.OperatorVisits.{SaysAt, StepsAt}
use Rattle.wasm_typing_validator.specs.TypedInstructions.{StandsIn, TookAt}
use Rattle.wasm_typing_validator.proofs.ReadingFailures.{failure_told, no_failure}

module _ {A : Type 0} (offset : ℕ) (C : Context UnpackedIndex) (op : Instruction UnpackedIndex) (v w : Stacks A) where
  abbrev step : Option (State UnpackedIndex)
  step = step_in (world C) (around v C) (map_instruction written_index op) (state_of v)

  took_by : (s : Result (Unit {0}) OperatorError) (r : Result (Unit {0}) Error) → SaysAt s offset r → Took s step (state_of v) (state_of w) → TookAt offset r step (state_of w)
  unfolding Took
  took_by (Ok x) (Ok y) p t = t
  took_by (Ok x) (Err e) p t = absurd p
  took_by (Err f) (Ok y) p t = absurd p
  took_by (Err (Refused f)) (Err (error.Refused r)) p t = (t.0, p.0)
  took_by (Err (Refused f)) (Err error.OutOfMemory) p t = absurd p
  took_by (Err OutOfMemory) (Err (error.Refused r)) p t = absurd p
  took_by (Err OutOfMemory) (Err error.OutOfMemory) p t = tt

  pub took : (r : Result (Unit {0}) Error) → StepsAt r offset C op v w → TookAt offset r step (state_of w)
  took r s = took_by s.0 r s.1.0 s.1.1

  pub tried : (x y : Unit {0}) → Steps (Ok x) C op v w → StepsAt (Ok y) offset C op v w
  tried x y p = (Ok x, (tt, p))

  pub not_tried : (e : OperatorError) (r : Error) → TellsError e offset r → Steps (Err e) C op v w → StepsAt (Err r) offset C op v w
  not_tried e r t p = (Err e, (t, p))

pub ruleset tries = (tried, not_tried, failure_told, no_failure)

-- what stands in the rest of some bytes stands in them
pub stands_behind : (r s : BinaryReader) (e : Error) → SameInput r s → position_in r ≤ position_in s → StandsIn s e → StandsIn r e
stands_behind r s (error.Refused q) same on p =
    let a : original s ≡ original r = same.1 in
    let b : length (input s) ≡ length (input r) = ap length same.0 in
    (omega (arith, a, p.0, on), omega (arith, a, b, p.1))
stands_behind r s error.OutOfMemory same on p = tt
