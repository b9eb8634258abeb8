-- A module to try steps in: its identities of types are numbers, and not those of its type indices.
use Rattle.std.specs.Prelude.{ℕ, Bool, true, false, not, ◌&&◌, nat_eq, pos, List, [], ◌∷◌, ◌++◌, Some, None}
use Rattle.wasm_spec_rules.specs.WasmSpec.Syntax.{AbstractHeap, func_heap, Heap, abstract_heap, concrete, Ref, Val, i32, i64, reference, Storage, i8, unpacked, Field, Comp, func, array, struct, cont, Sub, Table, Memory, Global}
use Rattle.wasm_spec_rules.specs.WasmSpec.Features.{Features}
use Rattle.wasm_spec_rules.specs.WasmSpec.TypeExamples.{features}
use Rattle.wasm_spec_rules.specs.Contexts.{Context}
use Rattle.wasm_operators.specs.Control as control
use Rattle.wasm_operators.specs.Instructions as instruction
use Rattle.wasm_operators.specs.Instructions.{Instruction}
use Rattle.wasm_operators.specs.WasmOperatorsPlain.declared.constants.ConstantOperator.TheVariants.{I32Const, I64Const, F32Const}
use Rattle.wasm_spec_steps.specs.Bodies.{Local, Surroundings}
use Rattle.wasm_spec_steps.specs.Steps.{locals_of, is_typed_body, is_typed_constant}

-- types
abbrev pub ref_of : {R : Type 0} → Bool → Heap R → Ref R
ref_of nullable h = record { nullable = nullable; heap = h }

abbrev pub ref : {R : Type 0} → Heap R → Val R
ref h = reference (ref_of false h)

abbrev pub ref_null : {R : Type 0} → Heap R → Val R
ref_null h = reference (ref_of true h)

abbrev pub plain_heap : {R : Type 0} → AbstractHeap → Heap R
plain_heap k = abstract_heap false k

abbrev pub field_of : Bool → Storage ℕ → Field ℕ
field_of mutable s = record { storage = s; mutable = mutable }

abbrev pub final : Comp ℕ → Sub ℕ
final c = record { is_final = true; supers = []; shared = false; comp = c; descriptor = None; describes = None }

abbrev pub extending : List ℕ → Comp ℕ → Sub ℕ
extending supers c = record { is_final = false; supers = supers; shared = false; comp = c; descriptor = None; describes = None }

-- Under the identity 10 + x the type of index x: functions 0 to 4; a structure and one below it, 5 and 6; arrays of mutable numbers, of
-- mutable references and of immutable bytes, 7 to 9; a structure without default, 10; one with its descriptor, 11 and 12; and a
-- continuation, 13.
abbrev pub declares : List (ℕ × Sub ℕ)
declares =
    (10, final (func [] [])) ∷
    (11, final (func [] (i32 ∷ []))) ∷
    (12, final (func (i32 ∷ i64 ∷ []) (i32 ∷ []))) ∷
    (13, final (func (i32 ∷ []) [])) ∷
    (14, final (func [] (i32 ∷ i64 ∷ []))) ∷
    (15, extending [] (struct (field_of true (unpacked i32) ∷ field_of false i8 ∷ []))) ∷
    (16, extending (15 ∷ []) (struct (field_of true (unpacked i32) ∷ field_of false i8 ∷ field_of false (unpacked i64) ∷ []))) ∷
    (17, final (array (field_of true (unpacked i32)))) ∷
    (18, final (array (field_of true (unpacked (ref_null (concrete 15)))))) ∷
    (19, final (array (field_of false i8))) ∷
    (20, final (struct (field_of true (unpacked (ref (concrete 15))) ∷ []))) ∷
    (21, record { is_final = true; supers = []; shared = false; comp = struct []; descriptor = Some 22; describes = None }) ∷
    (22, record { is_final = true; supers = []; shared = false; comp = struct []; descriptor = None; describes = Some 21 }) ∷
    (23, final (cont 10)) ∷ []

abbrev pub table_of : Bool → Ref ℕ → Table ℕ
table_of is_64 r = record { element = r; is_64 = is_64; minimum = 0; maximum = None; shared = false }

abbrev pub memory_of : Bool → Memory
memory_of is_64 = record { is_64 = is_64; shared = false; minimum = 0; maximum = None; page_size_log2 = None }

abbrev pub global_of : Bool → Val ℕ → Global ℕ
global_of mutable v = record { content = v; mutable = mutable; shared = false }

-- Functions of the types 0 to 3, of which the third is imported and not exactly of its type; tables of functions and of structures,
-- with addresses of 32 and of 64 bits; memories of 32 and of 64 bits; a mutable global and one that isn't; tags without parameters, with
-- one, and with a result; segments of functions and of structures; one data segment; and the first function is referenced.
abbrev pub context : Context ℕ
context = record {
  types = 10 ∷ 11 ∷ 12 ∷ 13 ∷ 14 ∷ 15 ∷ 16 ∷ 17 ∷ 18 ∷ 19 ∷ 20 ∷ 21 ∷ 22 ∷ 23 ∷ [];
  declares = declares;
  functions = 0 ∷ 1 ∷ 2 ∷ 3 ∷ [];
  exact = true ∷ true ∷ false ∷ true ∷ [];
  tables = table_of false (ref_of true (plain_heap func_heap)) ∷ table_of true (ref_of true (concrete 15)) ∷ [];
  memories = memory_of false ∷ memory_of true ∷ [];
  globals = global_of true i32 ∷ global_of false i64 ∷ [];
  tags = 0 ∷ 3 ∷ 1 ∷ [];
  elements = ref_of true (plain_heap func_heap) ∷ ref_of true (concrete 16) ∷ [];
  data_count = Some 1;
  references = 0 ∷ [];
}

-- a parameter, a local with a default, and one without that isn't set from the start
abbrev pub locals : List (Local ℕ)
locals = locals_of (ref (concrete 15) ∷ []) (i32 ∷ ref (concrete 15) ∷ [])

-- with these features; with all but descriptors; with all; and with none
abbrev pub sample : Features → Surroundings ℕ
sample F = record { features = F; context = context; locals = locals; shared = false }

abbrev pub without_descriptors : Features
without_descriptors = record (features true) { custom_descriptors = false }

-- a body of type 0, which gives nothing, and one of type 1, which gives an i32; their `end` is added here
abbrev pub body : Features → ℕ → List (Instruction ℕ) → Bool
body F x ops = is_typed_body nat_eq (sample F) x (ops ++ (instruction.control control.end_ ∷ []))

abbrev pub runs : List (Instruction ℕ) → Bool
runs ops = body without_descriptors 0 ops

abbrev pub gives_i32 : List (Instruction ℕ) → Bool
gives_i32 ops = body without_descriptors 1 ops

abbrev pub constant_of : Val ℕ → List (Instruction ℕ) → Bool
constant_of v ops = is_typed_constant nat_eq (sample without_descriptors) v (ops ++ (instruction.control control.end_ ∷ []))

-- instructions
abbrev pub an_i32 : Instruction ℕ
an_i32 = instruction.constant (I32Const (pos 0))

abbrev pub an_i64 : Instruction ℕ
an_i64 = instruction.constant (I64Const (pos 0))

abbrev pub an_f32 : Instruction ℕ
an_f32 = instruction.constant (F32Const (record { 0 = 0 }))

abbrev pub dropped : Instruction ℕ
dropped = instruction.parametric control.drop_

abbrev pub trap : Instruction ℕ
trap = instruction.control control.unreachable

abbrev pub an_end : Instruction ℕ
an_end = instruction.control control.end_

abbrev pub in_block : control.Block ℕ → Instruction ℕ
in_block b = instruction.control (control.block b)

-- all of these tests pass, or none of them does
abbrev pub all_pass : List Bool → Bool
all_pass [] = true
all_pass (b ∷ bs) = b && all_pass bs

abbrev pub none_pass : List Bool → Bool
none_pass [] = true
none_pass (b ∷ bs) = not b && none_pass bs
