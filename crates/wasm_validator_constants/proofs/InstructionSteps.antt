-- One instruction of a constant expression, as the operator validator takes it.
use Rattle.std.proofs.Common.{◌≡◌, ◌∙◌, refl, ℕ, Bool, true, false, ◌&&◌, Option, Some, None, Ok, Err}
use Rattle.wasm_spec.specs.MatchingTests.{World}
use Rattle.wasm_readers.specs.WasmReadersErrors.declared.error.Error.{Error}
use Rattle.wasm_readers.specs.WasmReadersErrors.declared.error.Error.TheVariants.{Refused, OutOfMemory}
use Rattle.wasm_readers.specs.WasmReadersTypes.WasmReadersValues.declared.indices.UnpackedIndex.{UnpackedIndex}
use Rattle.wasm_operators.specs.Instructions.{Instruction}
use Rattle.wasm_typing_validator.specs.WasmSpecSteps.Bodies.{Surroundings}
use Rattle.wasm_typing_validator.specs.WasmSpecSteps.ConstantExpressions.{is_constant}
use Rattle.wasm_typing_validator.specs.WasmSpecSteps.Machine.{State}
use Rattle.wasm_typing_validator.specs.WasmSpecSteps.Steps.{step_in}
use Rattle.wasm_typing_validator.specs.WasmTypingChecks.Steps.{Took}
use Rattle.wasm_typing_validator.specs.WasmTypingChecks.OperatorRefusals.{TellsError}
use Rattle.wasm_typing_validator.specs.WasmTypingChecks.declared.faults.OperatorError.{OperatorError}
use Rattle.wasm_typing_validator.specs.WasmTypingChecks.declared.faults.OperatorError.TheVariants as operator
use Rattle.wasm_validator_constants.specs.Constants.{constant_step}
use Rattle.wasm_typing_validator.specs.WasmSpecSteps.ConstantRules.{is_readable}
use Rattle.wasm_typing_validator.specs.TypedInstructions.{IsRefusedAt, TookAt}

and_false : (b : Bool) → (b && false) ≡ false
and_false true = refl
and_false false = refl

module _ {R : Type 0} (W : World R) (B : Surroundings R) (imported : ℕ) (i : Instruction ℕ) (s : State R) where
  pub no_constant : is_constant B.features i ≡ false → constant_step W B imported i s ≡ None
  unfolding constant_step
  no_constant e = rw e refl

  pub no_global : is_readable B.features imported B.context.globals i ≡ false → constant_step W B imported i s ≡ None
  unfolding constant_step
  no_global e = rw (e, and_false (is_constant B.features i)) refl

  pub goes : is_constant B.features i ≡ true → is_readable B.features imported B.context.globals i ≡ true → constant_step W B imported i s ≡ step_in W B i s
  unfolding constant_step
  goes e f = rw (e, f) refl

pub refused_at : (offset : ℕ) (e : Error) (o : Option (State UnpackedIndex)) (new : State UnpackedIndex) → IsRefusedAt offset e → o ≡ None → TookAt offset (Err e) o new
refused_at offset (Refused r) o new p q = (q, p)
refused_at offset OutOfMemory o new p q = absurd p

pub taken : (x : Unit {0}) (o p : Option (State UnpackedIndex)) (old new : State UnpackedIndex) → p ≡ o → Took (Ok x) o old new → p ≡ Some new
unfolding Took
taken x o p old new e t = e ∙ t

pub not_taken : (f : OperatorError) (offset : ℕ) (e : Error) (o p : Option (State UnpackedIndex)) (old new : State UnpackedIndex) → p ≡ o → Took (Err f) o old new → TellsError f offset e → TookAt offset (Err e) p new
unfolding Took
not_taken (operator.Refused f) offset (Refused r) o p old new same t told = (same ∙ t.0, told.0)
not_taken (operator.Refused f) offset OutOfMemory o p old new same t told = absurd told
not_taken operator.OutOfMemory offset OutOfMemory o p old new same t told = tt
not_taken operator.OutOfMemory offset (Refused r) o p old new same t told = absurd told
