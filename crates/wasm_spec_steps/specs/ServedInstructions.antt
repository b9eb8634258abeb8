-- Which instructions the features serve: those of proposals beyond the standard that have a feature of their own are none without it, and
-- their opcodes are none.
use Rattle.std.specs.Prelude.{◌≡◌, ℕ, Bool, true, false, List, Option, None}
use Rattle.wasm_spec_rules.specs.WasmSpec.Features.{Features}
use Rattle.wasm_spec_rules.specs.WasmSpec.MatchingTests.{World}
use Rattle.wasm_spec_rules.specs.Attempts.{◌>>=◌, guard}
use Rattle.wasm_operators.specs.WasmOperatorsPlain.declared.memories.BulkMemoryOperator.{BulkMemoryOperator}
use Rattle.wasm_operators.specs.WasmOperatorsPlain.declared.memories.BulkMemoryOperator.TheVariants.{MemoryDiscard}
use Rattle.wasm_operators.specs.References.{Cast, ref_get_desc, ref_cast_desc_eq, br_on_cast_desc_eq, br_on_cast_desc_eq_fail}
use Rattle.wasm_operators.specs.Instructions.{Instruction, memory, cast, wide, shared, continuation}
use Rattle.wasm_spec_steps.specs.Bodies.{Surroundings}
use Rattle.wasm_spec_steps.specs.Machine.{State}
use Rattle.wasm_spec_steps.specs.ConstantExpressions.{is_constant}
use Rattle.wasm_spec_steps.specs.Steps.{step_in}

abbrev pub serves_memory : Features → BulkMemoryOperator → Bool
serves_memory F (MemoryDiscard x) = F.memory_control
serves_memory F _ = true

abbrev pub serves_cast : {R : Type 0} → Features → Cast R → Bool
serves_cast F (ref_get_desc x) = F.descriptor_operators
serves_cast F (ref_cast_desc_eq q) = F.descriptor_operators
serves_cast F (br_on_cast_desc_eq l r q) = F.descriptor_operators
serves_cast F (br_on_cast_desc_eq_fail l r q) = F.descriptor_operators
serves_cast F _ = true

abbrev pub serves : {R : Type 0} → Features → Instruction R → Bool
serves F (memory op) = serves_memory F op
serves F (cast op) = serves_cast F op
serves F (wide op) = F.wide_arithmetic
serves F (shared op values) = F.shared_atomic_operators
serves F (continuation op) = F.stack_switching_operators
serves F _ = true

-- what was read, where the features serve it
abbrev pub served : {R : Type 0} → Features → Option (Instruction R × List ℕ) → Option (Instruction R × List ℕ)
served F read = read >>= λ i. guard (serves F i.0) i

-- No step is taken by an instruction that isn't served, and no constant expression has one.
pub record TakeNone {R : Type 0} (W : World R) (B : Surroundings R) : Type 0 where
  pub step : (op : Instruction ℕ) (s : State R) → serves B.features op ≡ false → step_in W B op s ≡ None
  pub constant : (op : Instruction ℕ) → serves B.features op ≡ false → is_constant B.features op ≡ false

abbrev pub UnservedTakeNone : (R : Type 0) → Type 0
UnservedTakeNone R = (W : World R) (B : Surroundings R) → TakeNone W B
