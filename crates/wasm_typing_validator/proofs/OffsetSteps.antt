-- One operator at an offset is the operator, with its refusal told there.
use Rattle.std.proofs.Common.{ℕ}
use Rattle.std.specs.Prelude.{Ok, Err}
use Rattle.wasm_typing_families.specs.WasmTypingBlocks.WasmTypingChecks.WasmSpecRules.Contexts.{Context}
use Rattle.wasm_readers_types.specs.WasmReadersValues.declared.indices.UnpackedIndex.{UnpackedIndex}
use Rattle.wasm_readers.specs.WasmReadersErrors.declared.error.Error.{Error}
use Rattle.wasm_operators.specs.Instructions.{Instruction}
use Rattle.wasm_typing_families.specs.WasmTypingBlocks.WasmTypingChecks.WasmTypingStacks.declared.stacks.Stacks.{Stacks}
use Rattle.wasm_typing_families.specs.WasmTypingBlocks.WasmTypingChecks.OperatorRefusals.{TellsError}
use Rattle.wasm_typing_families.specs.WasmTypingBlocks.WasmTypingChecks.declared.faults.OperatorError.{OperatorError}
use Rattle.wasm_typing_validator.specs.StackSteps.{Steps}
use Rattle.wasm_typing_validator.specs.OperatorVisits.{IsToldAt, StepsAt}

module _ {A : Type 0} (offset : ℕ) (C : Context UnpackedIndex) (op : Instruction UnpackedIndex) (v w : Stacks A) where
  pub taken_at : (x y : Unit {0}) → Steps (Ok x) C op v w → StepsAt (Ok y) offset C op v w
  taken_at x y p = (Ok x, (tt, p))

  pub refused_at : (e : OperatorError) (r : Error) → TellsError e offset r → Steps (Err e) C op v w → StepsAt (Err r) offset C op v w
  refused_at e r t p = (Err e, (t, p))

pub told_at : (offset : ℕ) (e : OperatorError) (r : Error) → TellsError e offset r → IsToldAt offset r
told_at offset e r t = (e, t)

pub ruleset visits = (taken_at, refused_at, told_at)
