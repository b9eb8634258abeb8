-- Bodies of shared functions, which reach only what is shared, and atomic accesses to it. Proposal for shared-everything threads.
use Rattle.std.specs.Prelude.{ℕ, ◌≡◌, true, false, not, ◌&&◌, Bool, nat_eq, List, [], ◌∷◌, ◌++◌, if◌then◌else◌, Some, None}
use Rattle.wasm_spec_rules.specs.WasmSpec.Syntax.{func_heap, abstract_heap, concrete, Ref, i32, i8, unpacked, Comp, func, struct, Sub}
use Rattle.wasm_spec_rules.specs.WasmSpec.Syntax as syntax
use Rattle.wasm_spec_rules.specs.WasmSpec.TypeExamples.{features}
use Rattle.wasm_spec_rules.specs.Contexts.{Context}
use Rattle.wasm_operators.specs.Control.{value_block, func_block, loop, if_, try_table, throw}
use Rattle.wasm_operators.specs.References.{ref_func, ref_test, ref_cast}
use Rattle.wasm_operators.specs.References as references
use Rattle.wasm_operators.specs.Instructions.{Instruction, control, call, variable, table, access, memory, reference, cast, conversion, structure, array, shared}
use Rattle.wasm_operators.specs.WasmOperatorsPlain.declared.calls.CallOperator.TheVariants.{Call, CallIndirect, ReturnCall, ReturnCallIndirect, CallRef, ReturnCallRef}
use Rattle.wasm_operators.specs.WasmOperatorsPlain.declared.variables.VariableOperator.TheVariants.{LocalGet, GlobalGet, GlobalSet}
use Rattle.wasm_operators.specs.WasmOperatorsPlain.declared.tables.TableOperator.TheVariants.{TableGet, TableSet, TableInit, ElemDrop, TableCopy, TableGrow, TableSize, TableFill}
use Rattle.wasm_operators.specs.WasmOperatorsPlain.declared.memories.MemoryOperator.TheVariants.{I32Load}
use Rattle.wasm_operators.specs.WasmOperatorsPlain.declared.memories.BulkMemoryOperator.TheVariants.{MemorySize, DataDrop}
use Rattle.wasm_operators.specs.WasmOperatorsPlain.declared.conversions.ConversionOperator.TheVariants.{RefI31}
use Rattle.wasm_operators.specs.WasmOperatorsPlain.declared.structs.StructOperator.TheVariants.{StructNew, StructNewDefault, StructGet, StructGetS, StructGetU, StructSet, StructNewDesc, StructNewDefaultDesc}
use Rattle.wasm_operators.specs.WasmOperatorsPlain.declared.arrays.ArrayOperator.TheVariants.{ArrayNew, ArrayNewDefault, ArrayNewFixed, ArrayNewData, ArrayNewElem, ArrayGet, ArrayGetS, ArrayGetU, ArraySet, ArrayLen, ArrayFill, ArrayCopy, ArrayInitData, ArrayInitElem}
use Rattle.wasm_operators.specs.WasmOperatorsAtomic.declared.shared.SharedAtomicOperator.{SharedAtomicOperator}
use Rattle.wasm_operators.specs.WasmOperatorsAtomic.declared.shared.SharedAtomicOperator.TheVariants.{GlobalAtomicGet, GlobalAtomicSet, StructAtomicGet, StructAtomicGetU, StructAtomicSet, ArrayAtomicGet, ArrayAtomicGetS, ArrayAtomicSet}
use Rattle.wasm_operators.specs.WasmOperatorsProposals.declared.accesses.Ordering.TheVariants.{SeqCst}
use Rattle.wasm_spec_steps.specs.Steps.{is_typed_body}
use Rattle.wasm_spec_steps.specs.Samples.{ref_null, ref_of, field_of, declares, table_of, global_of, context, locals, an_i32, dropped, trap, an_end, in_block, all_pass, none_pass}

abbrev pub shared_type : Comp ℕ → Sub ℕ
shared_type c = record { is_final = true; supers = []; shared = true; comp = c; descriptor = None; describes = None }

-- Under the identity 10 + x the shared type of index x: a function, 14; a structure, 15; arrays of mutable numbers, of mutable references
-- and of immutable bytes, 16 to 18; and a structure with its descriptor, 19 and 20.
abbrev pub shared_declares : List (ℕ × Sub ℕ)
shared_declares =
    (24, shared_type (func [] [])) ∷
    (25, shared_type (struct (field_of true (unpacked i32) ∷ field_of false i8 ∷ []))) ∷
    (26, shared_type (syntax.array (field_of true (unpacked i32)))) ∷
    (27, shared_type (syntax.array (field_of true (unpacked (ref_null (concrete 25)))))) ∷
    (28, shared_type (syntax.array (field_of false i8))) ∷
    (29, record { is_final = true; supers = []; shared = true; comp = struct []; descriptor = Some 30; describes = None }) ∷
    (30, record { is_final = true; supers = []; shared = true; comp = struct []; descriptor = None; describes = Some 29 }) ∷ []

abbrev pub shared_functions : Ref ℕ
shared_functions = ref_of true (abstract_heap true func_heap)

-- what isn't shared, and behind it: a shared function, table and global, and segments for the shared array and table
abbrev pub some_shared : Context ℕ
some_shared = record context {
  types = context.types ++ (24 ∷ 25 ∷ 26 ∷ 27 ∷ 28 ∷ 29 ∷ 30 ∷ []);
  declares = declares ++ shared_declares;
  functions = context.functions ++ (14 ∷ []);
  exact = context.exact ++ (true ∷ []);
  tables = context.tables ++ (record (table_of false shared_functions) { shared = true } ∷ []);
  globals = context.globals ++ (record (global_of true i32) { shared = true } ∷ []);
  elements = context.elements ++ (ref_of true (concrete 25) ∷ shared_functions ∷ []);
}

-- a body that takes and gives nothing, of a shared function or of another
abbrev pub inside : Bool → List (Instruction ℕ) → Bool
inside b ops = is_typed_body nat_eq (record { features = features true; context = some_shared; locals = locals; shared = b }) (if b then 14 else 0) (ops ++ (an_end ∷ []))

-- a shared function doesn't reach it, and another does
abbrev pub stays_out : List (Instruction ℕ) → Bool
stays_out ops = not (inside true ops) && inside false ops

-- it reaches the first, and not the second
abbrev pub reaches : List (Instruction ℕ) → List (Instruction ℕ) → Bool
reaches ops others = inside true ops && stays_out others

-- the same instructions on two indices, behind a trap
abbrev pub reaches_on : (ℕ → Instruction ℕ) → ℕ → ℕ → List (Instruction ℕ) → Bool
reaches_on op m n rest = reaches (trap ∷ op m ∷ rest) (trap ∷ op n ∷ rest)

abbrev pub ReachesGlobalsAndTables : Type 0
ReachesGlobalsAndTables =
    all_pass (
    reaches_on (λ x. variable (GlobalGet x)) 2 0 (dropped ∷ []) ∷
    reaches_on (λ x. variable (GlobalSet x)) 2 0 [] ∷
    reaches_on (λ x. table (TableGet x)) 2 0 (dropped ∷ []) ∷
    reaches_on (λ x. table (TableSet x)) 2 0 [] ∷
    reaches_on (λ x. table (TableSize x)) 2 0 (dropped ∷ []) ∷
    reaches_on (λ x. table (TableGrow x)) 2 0 (dropped ∷ []) ∷
    reaches_on (λ x. table (TableFill x)) 2 0 [] ∷
    reaches_on (λ x. table (TableCopy x x)) 2 0 [] ∷
    reaches (trap ∷ table (TableInit 3 2) ∷ []) (trap ∷ table (TableInit 0 0) ∷ []) ∷
    []) ≡ true

abbrev pub ReachesFunctions : Type 0
ReachesFunctions =
    all_pass (
    reaches_on (λ x. call (Call x)) 4 0 [] ∷
    reaches_on (λ x. call (ReturnCall x)) 4 0 [] ∷
    reaches_on (λ y. call (CallRef y)) 14 0 [] ∷
    reaches_on (λ y. call (ReturnCallRef y)) 14 0 [] ∷
    stays_out (trap ∷ call (CallIndirect 0 0) ∷ []) ∷
    stays_out (trap ∷ call (ReturnCallIndirect 0 0) ∷ []) ∷
    reaches_on (λ y. in_block (func_block y)) 14 0 (an_end ∷ []) ∷
    reaches_on (λ y. control (loop (func_block y))) 14 0 (an_end ∷ []) ∷
    reaches_on (λ y. control (if_ (func_block y))) 14 0 (an_end ∷ []) ∷
    reaches_on (λ y. control (try_table (func_block y) [])) 14 0 (an_end ∷ []) ∷
    []) ≡ true

abbrev pub ReachesStructures : Type 0
ReachesStructures =
    all_pass (
    reaches_on (λ x. structure (StructNew x)) 15 5 (dropped ∷ []) ∷
    reaches_on (λ x. structure (StructNewDefault x)) 15 5 (dropped ∷ []) ∷
    reaches_on (λ x. structure (StructGet x 0)) 15 5 (dropped ∷ []) ∷
    reaches_on (λ x. structure (StructGetS x 1)) 15 5 (dropped ∷ []) ∷
    reaches_on (λ x. structure (StructGetU x 1)) 15 5 (dropped ∷ []) ∷
    reaches_on (λ x. structure (StructSet x 0)) 15 5 [] ∷
    reaches_on (λ x. structure (StructNewDesc x)) 19 11 (dropped ∷ []) ∷
    reaches_on (λ x. structure (StructNewDefaultDesc x)) 19 11 (dropped ∷ []) ∷
    []) ≡ true

abbrev pub ReachesArrays : Type 0
ReachesArrays =
    all_pass (
    reaches_on (λ x. array (ArrayNew x)) 16 7 (dropped ∷ []) ∷
    reaches_on (λ x. array (ArrayNewDefault x)) 16 7 (dropped ∷ []) ∷
    reaches_on (λ x. array (ArrayNewFixed x 2)) 16 7 (dropped ∷ []) ∷
    reaches_on (λ x. array (ArrayNewData x 0)) 16 7 (dropped ∷ []) ∷
    reaches (trap ∷ array (ArrayNewElem 17 2) ∷ dropped ∷ []) (trap ∷ array (ArrayNewElem 8 1) ∷ dropped ∷ []) ∷
    reaches_on (λ x. array (ArrayGet x)) 16 7 (dropped ∷ []) ∷
    reaches_on (λ x. array (ArrayGetS x)) 18 9 (dropped ∷ []) ∷
    reaches_on (λ x. array (ArrayGetU x)) 18 9 (dropped ∷ []) ∷
    reaches_on (λ x. array (ArraySet x)) 16 7 [] ∷
    reaches_on (λ x. array (ArrayFill x)) 16 7 [] ∷
    reaches_on (λ x. array (ArrayCopy x 16)) 16 7 [] ∷
    reaches_on (λ y. array (ArrayCopy 16 y)) 16 7 [] ∷
    reaches_on (λ x. array (ArrayInitData x 0)) 16 7 [] ∷
    reaches (trap ∷ array (ArrayInitElem 17 2) ∷ []) (trap ∷ array (ArrayInitElem 8 1) ∷ []) ∷
    []) ≡ true

-- what a shared function reaches, shared or not
abbrev pub ReachesTheRest : Type 0
ReachesTheRest =
    all_pass (
    inside true (reference (ref_func 0) ∷ dropped ∷ []) ∷
    inside true (reference (references.ref_null (concrete 5)) ∷ dropped ∷ []) ∷
    inside true (variable (LocalGet 0) ∷ dropped ∷ []) ∷
    inside true (in_block (value_block (ref_null (concrete 5))) ∷ trap ∷ an_end ∷ dropped ∷ []) ∷
    inside true (control (throw 0) ∷ []) ∷
    inside true (memory (MemorySize 0) ∷ dropped ∷ memory (DataDrop 0) ∷ []) ∷
    inside true (trap ∷ access I32Load (record { align = 2; offset = 0; memory = 0 }) ∷ dropped ∷ []) ∷
    inside true (table (ElemDrop 0) ∷ []) ∷
    inside true (trap ∷ cast (ref_test (ref_of true (concrete 5))) ∷ dropped ∷ []) ∷
    inside true (trap ∷ cast (ref_cast (ref_of true (concrete 5))) ∷ dropped ∷ []) ∷
    inside true (an_i32 ∷ conversion RefI31 ∷ dropped ∷ []) ∷
    inside true (trap ∷ array ArrayLen ∷ dropped ∷ []) ∷
    []) ≡ true

-- an atomic access to what has this index, and to this field of it
abbrev pub accessing : SharedAtomicOperator → ℕ → ℕ → Instruction ℕ
accessing op x k = shared op (record { ordering = SeqCst; index = x; field_index = k })

abbrev pub null_of : ℕ → Instruction ℕ
null_of x = reference (references.ref_null (concrete x))

-- what is stored is a number or a reference to what is shared, and what is packed is read with its sign or without
abbrev pub AtomicAccesses : Type 0
AtomicAccesses =
    all_pass (
    inside true (accessing GlobalAtomicGet 2 0 ∷ accessing GlobalAtomicSet 2 0 ∷ []) ∷
    inside true (null_of 15 ∷ null_of 15 ∷ accessing StructAtomicGet 15 0 ∷ accessing StructAtomicSet 15 0 ∷ []) ∷
    inside true (null_of 15 ∷ accessing StructAtomicGetU 15 1 ∷ dropped ∷ []) ∷
    inside true (null_of 17 ∷ an_i32 ∷ null_of 15 ∷ accessing ArrayAtomicSet 17 0 ∷ []) ∷
    inside true (null_of 18 ∷ an_i32 ∷ accessing ArrayAtomicGetS 18 0 ∷ dropped ∷ []) ∷
    []) ≡ true

abbrev pub NoAtomicAccesses : Type 0
NoAtomicAccesses =
    none_pass (
    inside false (accessing GlobalAtomicGet 1 0 ∷ accessing GlobalAtomicSet 1 0 ∷ []) ∷
    inside true (null_of 15 ∷ accessing StructAtomicGetU 15 0 ∷ dropped ∷ []) ∷
    inside true (null_of 15 ∷ accessing StructAtomicGet 15 1 ∷ dropped ∷ []) ∷
    inside false (null_of 8 ∷ an_i32 ∷ null_of 5 ∷ accessing ArrayAtomicSet 8 0 ∷ []) ∷
    inside true (null_of 18 ∷ an_i32 ∷ an_i32 ∷ accessing ArrayAtomicSet 18 0 ∷ []) ∷
    inside true (null_of 18 ∷ an_i32 ∷ accessing ArrayAtomicGet 18 0 ∷ dropped ∷ []) ∷
    []) ≡ true
