-- The small language that instructions are told in: types by what names them, checks, and actions on the two stacks. It is over
-- type indices alone, and gets its meaning over identities elsewhere.
use Rattle.std.specs.Prelude.{ℕ, Bool, List}
use Rattle.wasm_spec_rules.specs.WasmSpec.Syntax.{AbstractHeap, Heap, Ref, Val}
use Rattle.wasm_operators.specs.Control.{Block}
use Rattle.wasm_operators.specs.WasmOperatorsPlain.declared.memories.MemoryOperator.{MemoryOperator}
use Rattle.wasm_operators.specs.WasmOperatorsPlain.declared.memories.MemArg.{MemArg}
use Rattle.wasm_operators.specs.WasmOperatorsAtomic.WasmOperatorsVector.declared.forms.Form.{Form}
use Rattle.wasm_operators.specs.declared.immediates.ImmediateValues.{ImmediateValues}
use Rattle.wasm_spec_steps.specs.Machine.{Kind}

-- what has a signature, by its index
pub data Signed : Type 0 where
  of_type of_function of_tag : ℕ → Signed

-- Lists of value types, by what the module or the frames call so:
-- written types; the parameters or results of a signature; what a label takes, and what the body returns; the type of a local or a
-- global; a reference to a function, and to a new value of a type; the unpacked types of all fields of a structure, of one of them, and
-- of an array's elements; what addresses a table or a memory, and the lesser of two; a table's elements, and a segment's; the greatest
-- type, with null, of a reference type's hierarchy; the descriptor, or null, of exactly a type; that, or null, of what a heap type names,
-- exactly where it does so; the function, or null, that a continuation of a type runs; and lists made of others: so many times, without the
-- last, the last alone, one after another, the first ones down to as many as another list has, and the last ones, as many as that has; and
-- what the continuation takes, and what it gives, that the last of them refers to.
pub data OperandTypes : Type 0 where
  these : List (Val ℕ) → OperandTypes
  params results : Signed → OperandTypes
  label : ℕ → OperandTypes
  returned : OperandTypes
  local global function_reference new_reference descriptor_of fields element : ℕ → OperandTypes
  field : ℕ → ℕ → OperandTypes
  table_address memory_address table_element segment : ℕ → OperandTypes
  lesser_table_address lesser_memory_address : ℕ → ℕ → OperandTypes
  top : Ref ℕ → OperandTypes
  descriptor_for : Heap ℕ → OperandTypes
  repeated : ℕ → OperandTypes → OperandTypes
  continued : ℕ → OperandTypes
  front last taken_by given_by : OperandTypes → OperandTypes
  joined before behind : OperandTypes → OperandTypes → OperandTypes

-- the proposals that an instruction may need, and no more than so many catch clauses where limits are asked for
pub data Needed : Type 0 where
  multi_value reference_types bulk_memory exceptions function_references gc shared_everything_threads custom_descriptors simd threads vector_operators atomic_operators legacy_exceptions wide_arithmetic memory_control descriptor_operators shared_atomic_operators stack_switching stack_switching_operators : Needed
  few_clauses : ℕ → Needed

-- Checks:
-- what is needed is on; a written type is one that the features allow; a global is mutable; a local is set; a function counts as referenced;
-- a tag has no results, so that it is one of exceptions; each type of one list matches that of another, or some of another; a reference type may be cast
-- to another; references of its hierarchy can be tested, which those to continuations can't; a load or a store may have its memory
-- argument; an operator of a form may have its immediates; all fields of a structure have a default, and it has no descriptor; a field is mutable, and is packed or isn't; the same of
-- an array's elements, and they are numbers or vectors; the elements of one array may be stored in another; a data segment or an element
-- segment is there; a global, a table, a type, or the type of a function is shared, where the body is that of a shared function.
pub data Check : Type 0 where
  has : Needed → Check
  allows : Val ℕ → Check
  global_is_mutable local_is_set function_is_referenced is_exception : ℕ → Check
  each_matches each_matches_some : OperandTypes → OperandTypes → Check
  may_be_cast : Ref ℕ → Ref ℕ → Check
  can_be_tested : Ref ℕ → Check
  is_aligned : MemoryOperator → MemArg → Check
  suits : Form → ImmediateValues → Check
  fields_have_defaults has_no_descriptor : ℕ → Check
  field_is_mutable : ℕ → ℕ → Check
  field_is_packed : Bool → ℕ → ℕ → Check
  element_is_mutable element_has_default element_is_number : ℕ → Check
  element_is_packed : Bool → ℕ → Check
  element_is_storable : ℕ → ℕ → Check
  data_is_there segment_is_there : ℕ → Check
  reaches_global reaches_table reaches_type reaches_function : ℕ → Check

-- Actions:
-- go on only where a check holds, or not at all; take operands of these types, or give them; take any operand; take a reference; take a
-- reference below an abstract heap type, shared or not; take two references that may be compared; know that a reference isn't null; turn a
-- reference of one hierarchy into one of another, or into its descriptor, where it is to a type of an index; choose one of two operands;
-- know that what follows isn't reached; turn to `else`; leave a frame, or enter one; turn to a `catch` or to `catch_all`, over operands of
-- these types; go on only where the innermost frame is a `try` and this label is outside of it, or where the frame of this label has caught
-- an exception; know that a local is set; branch where a reference is null; branch to one of several labels.
pub data Action : Type 0 where
  need : Check → Action
  refuse : Action
  take give : OperandTypes → Action
  take_any take_reference take_comparable make_non_null choose stop turn_to_else leave : Action
  take_below : AbstractHeap → Action
  convert : AbstractHeap → AbstractHeap → Action
  describe : ℕ → Action
  enter : Kind → Block ℕ → Action
  turn_to_catch : OperandTypes → Kind → Action
  find_outside find_caught : ℕ → Action
  set : ℕ → Action
  branch_on_null : ℕ → Action
  branch_to_one_of : List ℕ → ℕ → Action
