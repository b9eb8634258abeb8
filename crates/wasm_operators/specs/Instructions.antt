-- Core Specification 3.0, Binary Format, Instructions: one instruction at the front of the bytes. Blocks are not taken together
-- with their bodies. A type index x in a type is read as what it stands for, `to x`.
use Rattle.std.specs.Prelude.{ℕ, ◌==◌, ◌||◌, nat_le, nat_lt, if◌then◌else◌, Bool, List, Option, Some, None}
use Rattle.std.specs.Option.{option_map, option_and_then}
use Rattle.wasm_operators_proposals.specs.WasmOperatorsPlain.WasmSpec.Values.{byte_at, u32_at}
use Rattle.wasm_operators.specs.Control.{Control, Parametric, control_from, parametric_from}
use Rattle.wasm_operators.specs.Legacy.{Legacy, legacy_from}
use Rattle.wasm_operators_proposals.specs.WasmOperatorsPlain.Calls.{call_from}
use Rattle.wasm_operators_proposals.specs.WasmOperatorsPlain.Variables.{variable_from}
use Rattle.wasm_operators_proposals.specs.WasmOperatorsPlain.Tables.{table_access_from, table_from}
use Rattle.wasm_operators_proposals.specs.WasmOperatorsPlain.Memories.{access_from, memarg_at, memory_size_from, memory_from}
use Rattle.wasm_operators_proposals.specs.WasmOperatorsPlain.Constants.{constant_from, vector_from}
use Rattle.wasm_operators_proposals.specs.WasmOperatorsPlain.Numeric.{numeric_from, saturating_from}
use Rattle.wasm_operators_proposals.specs.WasmOperatorsAtomic.WideArithmetic.{wide_from}
use Rattle.wasm_operators.specs.Continuations.{Continuation, continuation_from}
use Rattle.wasm_operators.specs.References.{Reference, Cast, reference_from, cast_from}
use Rattle.wasm_operators_proposals.specs.WasmOperatorsPlain.Conversions.{conversion_from, shared_from}
use Rattle.wasm_operators_proposals.specs.WasmOperatorsPlain.Structs.{struct_from}
use Rattle.wasm_operators_proposals.specs.WasmOperatorsPlain.Arrays.{array_from}
use Rattle.wasm_operators_proposals.specs.WasmOperatorsPlain.declared.calls.CallOperator.{CallOperator}
use Rattle.wasm_operators_proposals.specs.WasmOperatorsPlain.declared.variables.VariableOperator.{VariableOperator}
use Rattle.wasm_operators_proposals.specs.WasmOperatorsPlain.declared.tables.TableOperator.{TableOperator}
use Rattle.wasm_operators_proposals.specs.WasmOperatorsPlain.declared.memories.MemoryOperator.{MemoryOperator}
use Rattle.wasm_operators_proposals.specs.WasmOperatorsPlain.declared.memories.MemArg.{MemArg}
use Rattle.wasm_operators_proposals.specs.WasmOperatorsPlain.declared.memories.BulkMemoryOperator.{BulkMemoryOperator}
use Rattle.wasm_operators_proposals.specs.WasmOperatorsPlain.declared.constants.ConstantOperator.{ConstantOperator}
use Rattle.wasm_operators_proposals.specs.WasmOperatorsPlain.declared.numeric.NumericOperator.{NumericOperator}
use Rattle.wasm_operators_proposals.specs.WasmOperatorsPlain.declared.numeric.SaturatingOperator.{SaturatingOperator}
use Rattle.wasm_operators_proposals.specs.WasmOperatorsPlain.declared.conversions.ConversionOperator.{ConversionOperator}
use Rattle.wasm_operators_proposals.specs.WasmOperatorsPlain.declared.structs.StructOperator.{StructOperator}
use Rattle.wasm_operators_proposals.specs.WasmOperatorsPlain.declared.arrays.ArrayOperator.{ArrayOperator}
use Rattle.wasm_operators_proposals.specs.WasmOperatorsAtomic.declared.wide.WideOperator.{WideOperator}
use Rattle.wasm_operators_proposals.specs.WasmOperatorsAtomic.WasmOperatorsVector.Codes as vectors
use Rattle.wasm_operators_proposals.specs.WasmOperatorsAtomic.WasmOperatorsVector.Forms as vector_forms
use Rattle.wasm_operators_proposals.specs.WasmOperatorsAtomic.WasmOperatorsVector.declared.forms.Form.{Form}
use Rattle.wasm_operators_proposals.specs.WasmOperatorsAtomic.WasmOperatorsVector.declared.operators.VectorOperator.{VectorOperator}
use Rattle.wasm_operators_proposals.specs.WasmOperatorsAtomic.Codes as atomics
use Rattle.wasm_operators_proposals.specs.WasmOperatorsAtomic.Forms as atomic_forms
use Rattle.wasm_operators_proposals.specs.WasmOperatorsAtomic.declared.operators.AtomicOperator.{AtomicOperator}
use Rattle.wasm_operators_proposals.specs.WasmOperatorsAtomic.SharedCodes as shareds
use Rattle.wasm_operators_proposals.specs.WasmOperatorsAtomic.SharedForms as shared_forms
use Rattle.wasm_operators_proposals.specs.WasmOperatorsAtomic.declared.shared.SharedAtomicOperator.{SharedAtomicOperator}
use Rattle.wasm_operators.specs.FormImmediates.{immediates_at}
use Rattle.wasm_operators_proposals.specs.Accesses.{access_values_at}
use Rattle.wasm_operators.specs.WasmOperatorsProposals.declared.accesses.AccessValues.{AccessValues}
use Rattle.wasm_operators.specs.declared.immediates.ImmediateValues.{ImmediateValues}

-- the instructions by family
pub data Instruction (R : Type 0) : Type 0 where
  control : Control R → Instruction R
  legacy : Legacy R → Instruction R
  call : CallOperator → Instruction R
  parametric : Parametric R → Instruction R
  variable : VariableOperator → Instruction R
  table : TableOperator → Instruction R
  access : MemoryOperator → MemArg → Instruction R
  memory : BulkMemoryOperator → Instruction R
  constant : ConstantOperator → Instruction R
  numeric : NumericOperator → Instruction R
  saturating : SaturatingOperator → Instruction R
  reference : Reference R → Instruction R
  cast : Cast R → Instruction R
  conversion : ConversionOperator → Instruction R
  structure : StructOperator → Instruction R
  array : ArrayOperator → Instruction R
  vector : VectorOperator → ImmediateValues → Instruction R
  atomic : AtomicOperator → ImmediateValues → Instruction R
  wide : WideOperator → Instruction R
  shared : SharedAtomicOperator → AccessValues → Instruction R
  continuation : Continuation → Instruction R

-- what was read of a family, as an instruction
abbrev pub of_family : {X Y : Type 0} → (X → Y) → Option (X × List ℕ) → Option (Y × List ℕ)
of_family op read = option_map (λ x. (op x.0, x.1)) read

-- an instruction without immediates
abbrev pub with_nothing : {X Y : Type 0} → (X → Y) → List ℕ → Option X → Option (Y × List ℕ)
with_nothing op bytes found = option_map (λ x. (op x, bytes)) found

-- a load or a store, and its memory argument
abbrev pub with_memarg : {R : Type 0} → List ℕ → Option MemoryOperator → Option (Instruction R × List ℕ)
with_memarg bytes None = None
with_memarg bytes (Some op) = option_map (λ m. (access op m.0, m.1)) (memarg_at bytes)

-- an operator with the immediates of its form
abbrev pub with_form : {X Y : Type 0} → (X → ImmediateValues → Y) → (X → Form) → List ℕ → Option X → Option (Y × List ℕ)
with_form op form bytes None = None
with_form op form bytes (Some x) = option_map (λ i. (op x i.0, i.1)) (immediates_at (form x) bytes)

-- an atomic access to a global, a table, a structure or an array, or `pause`, and its immediates
abbrev pub with_access : {R : Type 0} → List ℕ → Option SharedAtomicOperator → Option (Instruction R × List ℕ)
with_access bytes None = None
with_access bytes (Some x) = option_map (λ v. (shared x v.0, v.1)) (access_values_at (shared_forms.shared_form_of x) bytes)

-- the numbers behind the prefix fe of `pause` and from the first of these accesses on
abbrev pub is_shared : ℕ → Bool
is_shared n = (n == 4) || nat_le 0x4f n

module _ {R : Type 0} (to : ℕ → R) where
  -- behind the prefix fb
  unfoldable pub aggregate_from : ℕ → List ℕ → Option (Instruction R × List ℕ)
  aggregate_from n bytes =
      if nat_lt n 6 then of_family structure (struct_from n bytes)
      else (if nat_lt n 20 then of_family array (array_from n bytes)
      else (if nat_lt n 26 then of_family cast (cast_from to n bytes)
      else (if nat_lt n 32 then with_nothing conversion bytes (conversion_from n)
      else (if nat_lt n 34 then of_family structure (struct_from n bytes)
      else of_family cast (cast_from to n bytes)))))

  -- behind the prefix fc
  unfoldable pub bulk_from : ℕ → List ℕ → Option (Instruction R × List ℕ)
  bulk_from n bytes =
      if nat_lt n 8 then with_nothing saturating bytes (saturating_from n)
      else (if nat_lt n 12 then of_family memory (memory_from n bytes)
      else (if nat_lt n 18 then of_family table (table_from n bytes)
      else (if nat_lt n 19 then of_family memory (memory_from n bytes)
      else with_nothing wide bytes (wide_from n))))

  -- behind the prefix fd
  unfoldable pub vectors_from : ℕ → List ℕ → Option (Instruction R × List ℕ)
  vectors_from n bytes =
      if n == 12 then of_family constant (vector_from n bytes)
      else with_form vector vector_forms.form_of bytes (vectors.operator_from n)

  -- behind the prefix fe
  unfoldable pub atomics_from : ℕ → List ℕ → Option (Instruction R × List ℕ)
  atomics_from n bytes =
      if n == 0x72 then with_nothing conversion bytes (shared_from n)
      else (if is_shared n then with_access bytes (shareds.shared_operator_from n)
      else with_form atomic atomic_forms.form_of bytes (atomics.operator_from n))

  -- behind a prefix from fb on
  unfoldable pub prefixed_from : ℕ → ℕ → List ℕ → Option (Instruction R × List ℕ)
  prefixed_from b n bytes =
      if b == 0xfb then aggregate_from n bytes
      else (if b == 0xfc then bulk_from n bytes
      else (if b == 0xfd then vectors_from n bytes
      else (if b == 0xfe then atomics_from n bytes
      else None)))

  -- by a first byte below fb
  unfoldable pub plain_from : ℕ → List ℕ → Option (Instruction R × List ℕ)
  plain_from b bytes =
      if nat_lt b 0x06 then of_family control (control_from to b bytes)
      else (if nat_lt b 0x08 then of_family legacy (legacy_from to b bytes)
      else (if nat_lt b 0x09 then of_family control (control_from to b bytes)
      else (if nat_lt b 0x0a then of_family legacy (legacy_from to b bytes)
      else (if nat_lt b 0x10 then of_family control (control_from to b bytes)
      else (if nat_lt b 0x18 then of_family call (call_from b bytes)
      else (if nat_lt b 0x1a then of_family legacy (legacy_from to b bytes)
      else (if nat_lt b 0x1f then of_family parametric (parametric_from to b bytes)
      else (if nat_lt b 0x20 then of_family control (control_from to b bytes)
      else (if nat_lt b 0x25 then of_family variable (variable_from b bytes)
      else (if nat_lt b 0x28 then of_family table (table_access_from b bytes)
      else (if nat_lt b 0x3f then with_memarg bytes (access_from b)
      else (if nat_lt b 0x41 then of_family memory (memory_size_from b bytes)
      else (if nat_lt b 0x45 then of_family constant (constant_from b bytes)
      else (if nat_lt b 0xd0 then with_nothing numeric bytes (numeric_from b)
      else (if nat_lt b 0xe0 then of_family reference (reference_from to b bytes)
      else of_family continuation (continuation_from b bytes))))))))))))))))

  -- by the first byte, which may be a prefix of a number
  abbrev pub instruction_from : ℕ → List ℕ → Option (Instruction R × List ℕ)
  instruction_from b bytes =
      if nat_lt b 0xfb then plain_from b bytes
      else option_and_then (λ n. prefixed_from b n.0 n.1) (u32_at bytes)

  unfoldable pub instruction_at : List ℕ → Option (Instruction R × List ℕ)
  instruction_at bytes = option_and_then (λ b. instruction_from b.0 b.1) (byte_at bytes)
