-- What is read of the bytes names type indices of a module.
use Rattle.std.proofs.Common.{◌≡◌, sym, ap, subst, ◌∙◌, ℕ, List, Option, Some, None}
use Rattle.std.specs.Option.{option_map}
use Rattle.wasm_typing_blocks.specs.WasmTypingChecks.WasmSpecRules.WasmSpec.Syntax.{Heap, Val, abstract_heap, concrete, exact, reference, i32, i64, f32, f64, v128, map_heap, map_val}
use Rattle.wasm_readers.specs.WrittenIndices.{written}
use Rattle.wasm_typing_blocks.specs.WasmTypingChecks.WasmValidatorResources.Answers.{IsWrittenHeap, IsWrittenVal}
use Rattle.wasm_operators.specs.Control as control
use Rattle.wasm_operators.specs.Control.{Block, empty_block, value_block, func_block, Control}
use Rattle.wasm_operators.specs.Legacy.{Legacy, try_, catch_, rethrow, delegate, catch_all}
use Rattle.wasm_operators.specs.References.{Reference, ref_null, ref_is_null, ref_eq, ref_as_non_null, ref_func, br_on_null, br_on_non_null, Cast, ref_test, ref_cast, br_on_cast, br_on_cast_fail, ref_get_desc, ref_cast_desc_eq, br_on_cast_desc_eq, br_on_cast_desc_eq_fail}
use Rattle.wasm_operators.specs.Instructions as instruction
use Rattle.wasm_operators.specs.Instructions.{Instruction, instruction_at}
use Rattle.wasm_operators.specs.Maps.{map_instruction}
use Rattle.wasm_readers_types.specs.WasmReadersValues.declared.indices.UnpackedIndex.{UnpackedIndex}
use Rattle.wasm_typing_families.specs.StackSteps.{IsWrittenInstruction}
use Rattle.wasm_operators.proofs.Renamings.{instruction-renames}

heap_written : (h : Heap ℕ) → IsWrittenHeap (map_heap written h)
heap_written (abstract_heap s a) = tt
heap_written (concrete n) = tt
heap_written (exact n) = tt

val_written : (v : Val ℕ) → IsWrittenVal (map_val written v)
val_written i32 = tt
val_written i64 = tt
val_written f32 = tt
val_written f64 = tt
val_written v128 = tt
val_written (reference r) = heap_written r.heap

abbrev Is : Instruction ℕ → Type 0
Is op = IsWrittenInstruction (map_instruction written op)

block_written : (b : Block ℕ) → Is (instruction.control (control.block b))
block_written empty_block = tt
block_written (value_block v) = val_written v
block_written (func_block n) = tt

control_written : (op : Control ℕ) → Is (instruction.control op)
control_written (control.block b) = block_written b
control_written (control.loop b) = block_written b
control_written (control.if_ b) = block_written b
control_written (control.try_table b cs) = block_written b
control_written control.unreachable = tt
control_written control.nop = tt
control_written control.else_ = tt
control_written control.end_ = tt
control_written control.throw_ref = tt
control_written control.return_ = tt
control_written (control.throw x) = tt
control_written (control.br l) = tt
control_written (control.br_if l) = tt
control_written (control.br_table ls l) = tt

legacy_written : (op : Legacy ℕ) → Is (instruction.legacy op)
legacy_written (try_ b) = block_written b
legacy_written (catch_ x) = tt
legacy_written (rethrow l) = tt
legacy_written (delegate l) = tt
legacy_written catch_all = tt

reference_written : (op : Reference ℕ) → Is (instruction.reference op)
reference_written (ref_null h) = heap_written h
reference_written ref_is_null = tt
reference_written ref_eq = tt
reference_written ref_as_non_null = tt
reference_written (ref_func x) = tt
reference_written (br_on_null l) = tt
reference_written (br_on_non_null l) = tt

cast_written : (op : Cast ℕ) → Is (instruction.cast op)
cast_written (ref_test q) = heap_written q.heap
cast_written (ref_cast q) = heap_written q.heap
cast_written (ref_get_desc x) = tt
cast_written (ref_cast_desc_eq q) = heap_written q.heap
cast_written (br_on_cast_desc_eq l r q) = (heap_written r.heap, heap_written q.heap)
cast_written (br_on_cast_desc_eq_fail l r q) = (heap_written r.heap, heap_written q.heap)
cast_written (br_on_cast l r q) = (heap_written r.heap, heap_written q.heap)
cast_written (br_on_cast_fail l r q) = (heap_written r.heap, heap_written q.heap)

all_written : (op : Instruction ℕ) → Is op
all_written (instruction.control op) = control_written op
all_written (instruction.legacy op) = legacy_written op
all_written (instruction.call op) = tt
all_written (instruction.parametric op) = tt
all_written (instruction.variable op) = tt
all_written (instruction.table op) = tt
all_written (instruction.access op arg) = tt
all_written (instruction.memory op) = tt
all_written (instruction.constant op) = tt
all_written (instruction.numeric op) = tt
all_written (instruction.saturating op) = tt
all_written (instruction.reference op) = reference_written op
all_written (instruction.cast op) = cast_written op
all_written (instruction.conversion op) = tt
all_written (instruction.structure op) = tt
all_written (instruction.array op) = tt
all_written (instruction.vector op values) = tt
all_written (instruction.atomic op values) = tt
all_written (instruction.wide op) = tt
all_written (instruction.shared op values) = tt
all_written (instruction.continuation op) = tt

abbrev as_written : Instruction ℕ × List ℕ → Instruction UnpackedIndex × List ℕ
as_written x = (map_instruction written x.0, x.1)

abbrev item_or : Instruction UnpackedIndex → Option (Instruction UnpackedIndex × List ℕ) → Instruction UnpackedIndex
item_or i None = i
item_or i (Some x) = x.0

read_written : (o : Option (Instruction ℕ × List ℕ)) (i : Instruction UnpackedIndex) (more : List ℕ) → option_map as_written o ≡ Some (i, more) → IsWrittenInstruction i
read_written None i more e = absurd cc
read_written (Some x) i more e = let same : map_instruction written x.0 ≡ i = ap (item_or (map_instruction written x.0)) e in subst IsWrittenInstruction same (all_written x.0)

-- the types of an instruction that was read
pub is_written : (bytes : List ℕ) (i : Instruction UnpackedIndex) (more : List ℕ) → instruction_at written bytes ≡ Some (i, more) → IsWrittenInstruction i
is_written bytes i more e = read_written (instruction_at (λ n. n) bytes) i more (sym (instruction-renames written (λ n. n) bytes).is ∙ e)
