-- What is told of a validator that has failed.
use Rattle.std.proofs.Common.{◌≡◌, ◌∙◌, ap, sym, subst, ℕ, Bool, true, List, Option, Some, None, Ok, Err, Result}
use Rattle.wasm_operators.specs.Instructions.{Instruction}
use Rattle.wasm_readers.specs.WasmReadersErrors.LiftingProposals.{lifting}
use Rattle.wasm_readers.specs.WasmReadersErrors.Refusals.{plain}
use Rattle.wasm_readers.specs.WasmReadersErrors.declared.error.Error.{Error}
use Rattle.wasm_readers.specs.WasmReadersErrors.declared.error.Error.TheVariants as error
use Rattle.wasm_readers.specs.WasmReadersErrors.declared.error.Fault.{Fault}
use Rattle.wasm_readers.specs.WasmReadersErrors.declared.error.Fault.TheVariants as fault
use Rattle.wasm_readers.specs.WasmReadersErrors.declared.error.Refusal.{Refusal}
use Rattle.wasm_readers.specs.WasmReadersErrors.WasmReadersFeatures.declared.operator_rules.OperatorRule.TheVariants as rule
use Rattle.wasm_readers_types.specs.WasmReadersValues.declared.indices.UnpackedIndex.{UnpackedIndex}
use Rattle.wasm_typing_families.specs.WasmTypingBlocks.WasmTypingChecks.WasmSpecRules.WasmSpec.Features.{Features}
use Rattle.wasm_typing_families.specs.WasmTypingBlocks.WasmTypingChecks.WasmSpecRules.Attempts.{guard}
use Rattle.wasm_typing_families.specs.WasmTypingBlocks.WasmTypingChecks.WasmSpecSteps.ServedInstructions.{serves, served}
use Rattle.wasm_typing_families.specs.WasmTypingBlocks.WasmTypingChecks.OperatorRefusals.{is_operand, TellsRule, TellsError}
use Rattle.wasm_typing_families.specs.WasmTypingBlocks.WasmTypingChecks.declared.faults.OperatorError.{OperatorError}
use Rattle.wasm_typing_families.specs.WasmTypingBlocks.WasmTypingChecks.declared.faults.OperatorError.TheVariants.{Refused, OutOfMemory}
use Rattle.wasm_typing_validator.specs.ValidatorFailures.{IsFailure, failure_at, EndsReading}

refusal_is : (r : Refusal) (x : Fault) (offset : ℕ) → r.fault ≡ x → r.offset ≡ offset → r.missing ≡ None → r ≡ plain x offset
refusal_is r x offset e f g = λ i. record { fault = e i; offset = f i; missing = g i }

-- a failure, told at an offset
pub failure_told : (e : OperatorError) (offset : ℕ) (r : Error) → IsFailure (Err e) → TellsError e offset r → Err r ≡ failure_at offset
failure_told (Refused f) offset (error.Refused r) p t =
    let told : TellsRule (is_operand rule.Failed) f r.fault = subst (λ x. TellsRule (is_operand x) f r.fault) p.0 t.2 in
    let named : r.fault ≡ fault.Operator rule.Failed 0 = told ∙ ap (λ x. fault.Operator x f.number) p.0 ∙ ap (fault.Operator rule.Failed) p.1 in
    ap (λ x. Err (error.Refused x)) (refusal_is r (fault.Operator rule.Failed 0) offset named t.0 (t.1 ∙ ap lifting p.0))
failure_told (Refused f) offset error.OutOfMemory p t = absurd t
failure_told OutOfMemory offset r p t = absurd p

-- no step is taken where there is a failure
pub no_failure : (x : Unit {0}) → IsFailure (Ok x) → ⊥
no_failure x p = p

pub reading_ended : (F : Features) (r : Result (Unit {0}) Error) (offset : ℕ) (o : Option (Instruction UnpackedIndex × List ℕ)) (i : Instruction UnpackedIndex × List ℕ)
    → o ≡ Some i → serves F i.0 ≡ true → r ≡ failure_at offset → EndsReading r offset (served F o)
reading_ended F r offset o i e s h = subst (λ x. EndsReading r offset x) (sym (ap (served F) e ∙ ap (λ (b : Bool). guard b i) s)) h

pub not_read : (r : Refusal) (offset : ℕ) (o : Option (Instruction UnpackedIndex × List ℕ)) → o ≡ None → EndsReading (Err (error.Refused r)) offset o
not_read r offset o e = subst (λ x. EndsReading (Err (error.Refused r)) offset x) (sym e) tt

pub ruleset ends = (failure_told, no_failure, reading_ended, not_read)
