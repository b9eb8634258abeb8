-- One step by any operator is the step of its family, where the code still stands in a frame.
use Rattle.std.proofs.Common.{◌≡◌, true, false, refl, sym, subst}
use Rattle.std.specs.Prelude.{None, Result}
use Rattle.wasm_typing_blocks.specs.WasmTypingChecks.WasmSpecRules.Contexts.{Context}
use Rattle.wasm_readers_types.specs.WasmReadersValues.declared.indices.UnpackedIndex.{UnpackedIndex}
use Rattle.wasm_operators.specs.Instructions.{Instruction}
use Rattle.wasm_operators.specs.Maps.{map_instruction}
use Rattle.wasm_typing_blocks.specs.WasmTypingChecks.WasmSpecSteps.Shapes.{shape_of}
use Rattle.wasm_typing_blocks.specs.WasmTypingChecks.WasmSpecSteps.Steps.{step_in, is_open}
use Rattle.wasm_typing_blocks.specs.WasmTypingChecks.WasmValidatorResources.Answers.{world, written_index}
use Rattle.wasm_typing_blocks.specs.WasmTypingChecks.WasmTypingStacks.BodyStacks.{state_of, around}
use Rattle.wasm_typing_blocks.specs.WasmTypingChecks.WasmTypingStacks.declared.stacks.Stacks.{Stacks}
use Rattle.wasm_typing_blocks.specs.WasmTypingChecks.Steps.{Took, acted, Performs}
use Rattle.wasm_typing_blocks.specs.WasmTypingChecks.declared.faults.OperatorError.{OperatorError}
use Rattle.wasm_typing_families.specs.StackSteps.{Steps}
use Rattle.wasm_typing_blocks.proofs.WasmTypingChecks.ActionSteps.{took_refused}

open_state : {A : Type 0} (v : Stacks A) → v.is_open ≡ true → is_open (state_of v) ≡ true
open_state v e = rw e refl

closed_state : {A : Type 0} (v : Stacks A) → v.is_open ≡ false → is_open (state_of v) ≡ false
closed_state v e = rw e refl

-- a step of the family
pub of_family : {A : Type 0} (r : Result (Unit {0}) OperatorError) (C : Context UnpackedIndex) (op : Instruction UnpackedIndex) (v w : Stacks A)
    → v.is_open ≡ true → Performs r C (shape_of (map_instruction written_index op)) v w → Steps r C op v w
unfolding acted
of_family r C op v w e p = subst (λ o. Took r o (state_of v) (state_of w)) (sym (rw (open_state v e) refl)) p

-- behind the last end
pub at_end : {A : Type 0} (r : Result (Unit {0}) OperatorError) (C : Context UnpackedIndex) (op : Instruction UnpackedIndex) (v : Stacks A)
    → v.is_open ≡ false → step_in (world C) (around v C) (map_instruction written_index op) (state_of v) ≡ None
at_end r C op v e = rw (closed_state v e) refl

pub ruleset steps = (of_family, at_end, took_refused)
