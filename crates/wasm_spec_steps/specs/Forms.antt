-- Operators on vectors and atomic ones by their forms: which immediates they may have, and the types that they take and give.
-- Core Specification 3.0, Validation, Instructions, Vector Instructions and Memory Instructions; Threads, Validation, Instructions,
-- Atomic Memory Instructions.
use Rattle.std.specs.Prelude.{ℕ, zero, suc, ◌/◌, ◌%◌, ◌^◌, ◌==◌, ◌+◌, ◌&&◌, ◌||◌, nat_le, nat_lt, Bool, true, false, List, [], ◌∷◌, length, slice_get, Option, Some, None}
use Rattle.wasm_spec_rules.specs.WasmSpec.Syntax.{Memory, Val, i32, i64, f32, f64, v128}
use Rattle.wasm_spec_rules.specs.WasmSpec.Features.{Features}
use Rattle.wasm_spec_rules.specs.WasmSpec.ValueTypes.{allows_val}
use Rattle.wasm_spec_rules.specs.Attempts.{passes}
use Rattle.wasm_operators.specs.WasmOperatorsPlain.declared.memories.MemArg.{MemArg}
use Rattle.wasm_operators.specs.WasmOperatorsPlain.declared.constants.V128.{V128}
use Rattle.wasm_operators.specs.WasmOperatorsAtomic.WasmOperatorsVector.declared.forms.ValueType.{ValueType}
use Rattle.wasm_operators.specs.WasmOperatorsAtomic.WasmOperatorsVector.declared.forms.ValueType.TheVariants as number
use Rattle.wasm_operators.specs.WasmOperatorsAtomic.WasmOperatorsVector.declared.forms.Immediates.{Immediates}
use Rattle.wasm_operators.specs.WasmOperatorsAtomic.WasmOperatorsVector.declared.forms.Immediates.TheVariants as form
use Rattle.wasm_operators.specs.WasmOperatorsAtomic.WasmOperatorsVector.declared.forms.Alignment.{Alignment}
use Rattle.wasm_operators.specs.WasmOperatorsAtomic.WasmOperatorsVector.declared.forms.Alignment.TheVariants.{AtMost, Exactly}
use Rattle.wasm_operators.specs.WasmOperatorsAtomic.WasmOperatorsVector.declared.forms.Operands.{Operands}
use Rattle.wasm_operators.specs.WasmOperatorsAtomic.WasmOperatorsVector.declared.forms.Operands.TheVariants as operands
use Rattle.wasm_operators.specs.WasmOperatorsAtomic.WasmOperatorsVector.declared.forms.Form.{Form}
use Rattle.wasm_operators.specs.WasmOperatorsAtomic.WasmOperatorsVector.declared.forms.Form.TheVariants.{Compute, Access}
use Rattle.wasm_operators.specs.declared.immediates.ImmediateValues.{ImmediateValues}
use Rattle.wasm_operators.specs.declared.immediates.ImmediateValues.TheVariants as given

-- types
abbrev pub value_type : {R : Type 0} → ValueType → Val R
value_type number.I32 = i32
value_type number.I64 = i64
value_type number.F32 = f32
value_type number.F64 = f64
value_type number.V128 = v128

abbrev pub operand_types : {R : Type 0} → Operands → List (Val R)
operand_types operands.Nothing = []
operand_types (operands.One x) = value_type x ∷ []
operand_types (operands.Two x y) = value_type x ∷ value_type y ∷ []
operand_types (operands.Three x y z) = value_type x ∷ value_type y ∷ value_type z ∷ []

abbrev pub result_types : {R : Type 0} → Option ValueType → List (Val R)
result_types None = []
result_types (Some x) = value_type x ∷ []

-- what is taken, but for the address, and what is given
abbrev pub types_taken : {R : Type 0} → Form → List (Val R)
types_taken (Compute i t g) = operand_types t
types_taken (Access a lanes t g) = operand_types t

abbrev pub types_given : {R : Type 0} → Form → List (Val R)
types_given (Compute i t g) = result_types g
types_given (Access a lanes t g) = result_types g

-- the types in a list that the features allow
abbrev pub allows_each : Features → List (Val ℕ) → Bool
allows_each F [] = true
allows_each F (v ∷ vs) = allows_val F v && allows_each F vs

-- The alignment is no greater than the bytes that are accessed, and with atomic operators it is just that.
abbrev pub allows_alignment : Alignment → ℕ → Bool
allows_alignment (AtMost n) align = nat_le align n
allows_alignment (Exactly n) align = align == n

-- Sixteen lanes of two vectors: each byte is below 32.
abbrev pub is_lane_of_two : ℕ → Bool
is_lane_of_two bits = nat_lt (bits % 256) 32

abbrev pub are_lanes_of_two : ℕ → ℕ → Bool
are_lanes_of_two zero bits = true
are_lanes_of_two (suc n) bits = is_lane_of_two bits && are_lanes_of_two n (bits / 256)

abbrev pub all_lanes_of_two : V128 → Bool
all_lanes_of_two v = are_lanes_of_two 8 v.low && are_lanes_of_two 8 v.high

-- immediates of an operator that accesses no memory
abbrev pub suits_immediates : Immediates → ImmediateValues → Bool
suits_immediates form.Nothing given.Nothing = true
suits_immediates form.Zero given.Nothing = true
suits_immediates (form.Lane n) (given.Lane l) = nat_lt l n
suits_immediates form.Lanes (given.Lanes v) = all_lanes_of_two v
suits_immediates _ _ = false

-- and of one that does
abbrev pub suits_access : Alignment → Option ℕ → ImmediateValues → Bool
suits_access a None (given.MemArg m) = allows_alignment a m.align
suits_access a (Some n) (given.MemArgLane m l) = allows_alignment a m.align && nat_lt l n
suits_access _ _ _ = false

-- by the form; beside an address an operator takes no more than two operands
abbrev pub suits_form : Form → ImmediateValues → Bool
suits_form (Compute i t g) values = suits_immediates i values
suits_form (Access a lanes (operands.Three x y z) g) values = false
suits_form (Access a lanes t g) values = suits_access a lanes values

-- the memory argument
abbrev pub memarg_of : ImmediateValues → Option MemArg
memarg_of (given.MemArg m) = Some m
memarg_of (given.MemArgLane m l) = Some m
memarg_of _ = None

-- its memory is there, and an address has room for its offset
abbrev pub reaches_memory : List Memory → Option MemArg → Bool
reaches_memory memories None = true
reaches_memory memories (Some m) = passes (λ x. x.is_64 || nat_lt m.offset (2 ^ 32)) (slice_get memories m.memory)

-- how many operands are taken, with an address where a memory is accessed, and how many are given
abbrev pub addresses_in : Option MemArg → ℕ
addresses_in None = 0
addresses_in (Some m) = 1

abbrev pub counts_in : Form → ImmediateValues → ℕ × ℕ
counts_in f values = (addresses_in (memarg_of values) + length (types_taken {R = ℕ} f), length (types_given {R = ℕ} f))
