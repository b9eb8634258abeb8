-- Worked examples of typed constant expressions and bodies, as facts that a contract can name.
use Rattle.std.specs.Prelude.{ℕ, ◌≡◌, Bool, true, false, nat_eq, List, [], ◌∷◌, Some, None}
use Rattle.wasm_spec.specs.Syntax.{Ref, Val, i32, i64, reference, func, Sub, Table, Memory, Global, func_extern, global_extern}
use Rattle.wasm_spec.specs.BinarySections.{GlobalEntry, functions, expressions, passive, active, funcref, ref_func}
use Rattle.wasm_spec.specs.Features.{Features}
use Rattle.wasm_spec.specs.TypeExamples.{features}
use Rattle.wasm_spec_steps.specs.WasmSpecRules.Contexts.{Context}
use Rattle.wasm_spec_steps.specs.WasmSpecRules.ModuleExamples.{first_version}
use Rattle.wasm_spec_steps.specs.WasmSpecRules.Parts.{Parts, Expression}
use Rattle.wasm_spec_validity.specs.Expressions.{expression_at, named}
use Rattle.wasm_spec_validity.specs.Typing.{IsTypedGlobal, IsTypedTable, IsTypedElement, IsTypedData, HasTypedConstants, HasTypedBodies}
use Rattle.wasm_spec_validity.specs.Modules.{imported_globals, IsValidModule}

-- all features but those of one proposal
abbrev pub without_gc : Features
without_gc = record (features true) { gc = false }

abbrev pub without_extended_const : Features
without_extended_const = record (features true) { extended_const = false }

-- two types of functions, the first giving an i32 and the second nothing, under the identities 0 and 1
abbrev pub giving : List (Val ℕ) → Sub ℕ
giving vs = record { is_final = true; supers = []; shared = false; comp = func [] vs; descriptor = None; describes = None }

-- a module of these globals, with a function of each type, a table with 32-bit addresses and one with 64-bit ones, and such memories
abbrev pub table_of : Bool → Table ℕ
table_of is_64 = record { element = funcref; is_64 = is_64; minimum = 0; maximum = None; shared = false }

abbrev pub memory_of : Bool → Memory
memory_of is_64 = record { is_64 = is_64; shared = false; minimum = 0; maximum = None; page_size_log2 = None }

abbrev pub global_of : Bool → Val ℕ → Global ℕ
global_of mutable v = record { content = v; mutable = mutable; shared = false }

abbrev pub context : List (Global ℕ) → Context ℕ
context globals = record {
  types = 0 ∷ 1 ∷ [];
  declares = (0, giving (i32 ∷ [])) ∷ (1, giving []) ∷ [];
  functions = 0 ∷ 1 ∷ [];
  exact = true ∷ true ∷ [];
  tables = table_of false ∷ table_of true ∷ [];
  memories = memory_of false ∷ memory_of true ∷ [];
  globals = globals;
  tags = [];
  elements = [];
  data_count = None;
  references = [];
}

-- a type index stands for its own identity
abbrev pub itself : ℕ → ℕ
itself x = x

-- i32.const 1, and global.get 0, each with its `end`
abbrev pub one_i32 : Expression
one_i32 = 0x41 ∷ 1 ∷ 0x0b ∷ []

abbrev pub one_i64 : Expression
one_i64 = 0x42 ∷ 1 ∷ 0x0b ∷ []

abbrev pub global_0 : Expression
global_0 = 0x23 ∷ 0 ∷ 0x0b ∷ []

-- The global with this index, of this type and with this initializer, in a module of these globals, of which so many are imported
abbrev pub IsInitialized : Features → List (Global ℕ) → ℕ → ℕ → Val ℕ → Expression → Type 0
IsInitialized F globals imported x v e = IsTypedGlobal nat_eq F (context globals) imported itself x (record { ty = global_of false v; init = e })

abbrev pub NumberIsConstant : Type 0
NumberIsConstant = IsInitialized (features false) [] 0 0 i32 one_i32

abbrev pub NumberOfAnotherType : Type 0
NumberOfAnotherType = IsInitialized (features true) [] 0 0 i64 one_i32 → ⊥

-- an expression ends at its `end`, and has one
abbrev pub NoTwoEnds : Type 0
NoTwoEnds = IsInitialized (features true) [] 0 0 i32 (0x41 ∷ 1 ∷ 0x0b ∷ 0x0b ∷ []) → ⊥

abbrev pub NoMissingEnd : Type 0
NoMissingEnd = IsInitialized (features true) [] 0 0 i32 (0x41 ∷ 1 ∷ []) → ⊥

-- the second of two globals that are defined here is initialized by the first
abbrev pub FirstGlobalIsRead : Type 0
FirstGlobalIsRead = IsInitialized (features true) (global_of false i32 ∷ global_of false i32 ∷ []) 0 1 i32 global_0

abbrev pub NoMutableGlobalIsRead : Type 0
NoMutableGlobalIsRead = IsInitialized (features true) (global_of true i32 ∷ global_of false i32 ∷ []) 0 1 i32 global_0 → ⊥

-- without `gc` only an imported one is read
abbrev pub NoGlobalIsReadWithoutGc : Type 0
NoGlobalIsReadWithoutGc = IsInitialized without_gc (global_of false i32 ∷ global_of false i32 ∷ []) 0 1 i32 global_0 → ⊥

abbrev pub ImportedGlobalIsRead : Type 0
ImportedGlobalIsRead = IsInitialized without_gc (global_of false i32 ∷ global_of false i32 ∷ []) 1 1 i32 global_0

-- a global doesn't initialize itself
abbrev pub NoGlobalReadsItself : Type 0
NoGlobalReadsItself = IsInitialized (features true) (global_of false i32 ∷ []) 0 0 i32 global_0 → ⊥

-- i32.const 1, i32.const 2, i32.add
abbrev pub one_and_two : Expression
one_and_two = 0x41 ∷ 1 ∷ 0x41 ∷ 2 ∷ 0x6a ∷ 0x0b ∷ []

abbrev pub SumIsConstant : Type 0
SumIsConstant = IsInitialized (features true) [] 0 0 i32 one_and_two

abbrev pub NoSumWithoutExtendedConst : Type 0
NoSumWithoutExtendedConst = IsInitialized without_extended_const [] 0 0 i32 one_and_two → ⊥

-- a table whose entries begin with the first global, which is imported, or isn't
abbrev pub IsTable : ℕ → Type 0
IsTable imported = IsTypedTable nat_eq (features true) (context (global_of false (reference funcref) ∷ [])) imported itself (record { ty = table_of false; init = Some global_0 })

abbrev pub TableReadsImportedGlobal : Type 0
TableReadsImportedGlobal = IsTable 1

abbrev pub NoTableReadsOwnGlobal : Type 0
NoTableReadsOwnGlobal = IsTable 0 → ⊥

-- data that go to a memory, and elements that go to a table, from this offset on
abbrev pub IsDataAt : ℕ → Expression → Type 0
IsDataAt x e = IsTypedData nat_eq (features true) (context []) 0 itself (record { mode = active (Some x) e; bytes = [] })

abbrev pub AreElementsAt : ℕ → Expression → Type 0
AreElementsAt x e = IsTypedElement nat_eq (features true) (context []) 0 itself (record { mode = active (Some x) e; items = functions (0 ∷ []) })

-- the offset is as wide as the address
abbrev pub OffsetsAreAddresses : Type 0
OffsetsAreAddresses = IsDataAt 0 one_i32 × IsDataAt 1 one_i64 × AreElementsAt 0 one_i32 × AreElementsAt 1 one_i64

abbrev pub NoOtherDataOffsets : Type 0
NoOtherDataOffsets = (IsDataAt 0 one_i64 → ⊥) × (IsDataAt 1 one_i32 → ⊥)

abbrev pub NoOtherElementOffsets : Type 0
NoOtherElementOffsets = (AreElementsAt 0 one_i64 → ⊥) × (AreElementsAt 1 one_i32 → ⊥)

-- an offset sees each global, also one that is defined here
abbrev pub OffsetReadsGlobal : Type 0
OffsetReadsGlobal = IsTypedData nat_eq (features true) (context (global_of false i32 ∷ [])) 0 itself (record { mode = active None global_0; bytes = [] })

-- so does that of elements
abbrev pub ElementOffsetReadsGlobal : Type 0
ElementOffsetReadsGlobal = IsTypedElement nat_eq (features true) (context (global_of false i32 ∷ [])) 0 itself (record { mode = active None global_0; items = functions [] })

-- expressions as items of this type
abbrev pub AreItems : Ref ℕ → List Expression → Type 0
AreItems r es = IsTypedElement nat_eq (features true) (context []) 0 itself (record { mode = passive; items = expressions r es })

-- ref.func 1, and ref.null func
abbrev pub function_1 : Expression
function_1 = 0xd2 ∷ 1 ∷ 0x0b ∷ []

abbrev pub null : Expression
null = 0xd0 ∷ 0x70 ∷ 0x0b ∷ []

abbrev pub FunctionAndNullAreItems : Type 0
FunctionAndNullAreItems = AreItems funcref (function_1 ∷ null ∷ [])

-- null isn't one of a type without null
abbrev pub NoNullItem : Type 0
NoNullItem = AreItems ref_func (function_1 ∷ null ∷ []) → ⊥

-- functions of the types 0 and 1 with these bodies, and these globals that are defined here
abbrev pub parts_of : List (List ℕ) → List (GlobalEntry Expression ℕ) → Parts
parts_of bodies globals = record {
  groups = [];
  imports = [];
  functions = 0 ∷ 1 ∷ [];
  tables = [];
  memories = [];
  tags = [];
  globals = globals;
  exports = [];
  starts = [];
  elements = [];
  data_counts = [];
  bodies = bodies;
  segments = [];
}

-- immutable globals of type i32, of which the first is imported, the second is initialized by a number and the third by the second
abbrev pub initialized : Expression → GlobalEntry Expression ℕ
initialized e = record { ty = global_of false i32; init = e }

abbrev pub three_globals : List (Global ℕ)
three_globals = global_of false i32 ∷ global_of false i32 ∷ global_of false i32 ∷ []

abbrev pub GlobalsComeBehindImports : Type 0
GlobalsComeBehindImports = HasTypedConstants nat_eq (features true) (context three_globals) 1 itself (parts_of [] (initialized one_i32 ∷ initialized (0x23 ∷ 1 ∷ 0x0b ∷ []) ∷ []))

abbrev pub AreBodies : List (List ℕ) → Type 0
AreBodies bodies = HasTypedBodies nat_eq (features false) (context []) (parts_of bodies [])

-- no locals, and i32.const 1 or nothing
abbrev pub BodiesGiveResults : Type 0
BodiesGiveResults = AreBodies ((0 ∷ 0x41 ∷ 1 ∷ 0x0b ∷ []) ∷ (0 ∷ 0x0b ∷ []) ∷ [])

abbrev pub NoExchangedBodies : Type 0
NoExchangedBodies = AreBodies ((0 ∷ 0x0b ∷ []) ∷ (0 ∷ 0x41 ∷ 1 ∷ 0x0b ∷ []) ∷ []) → ⊥

-- each body counts, the last one too
abbrev pub NoLastBodyWithoutEnd : Type 0
NoLastBodyWithoutEnd = AreBodies ((0 ∷ 0x41 ∷ 1 ∷ 0x0b ∷ []) ∷ (0 ∷ []) ∷ []) → ⊥

-- of an imported function and an imported global one counts
abbrev pub OneGlobalIsImported : Type 0
OneGlobalIsImported =
    imported_globals (record (parts_of [] []) {
      imports =
          record { module_name = []; item_name = []; ty = func_extern 0 } ∷
          record { module_name = []; item_name = []; ty = global_extern (global_of false i32) } ∷ [];
    }) ≡ 1

-- an expression is read with its `end`, and not past it
abbrev pub ReadToItsEnd : Type 0
ReadToItsEnd = expression_at (0x41 ∷ 1 ∷ 0x0b ∷ 7 ∷ []) ≡ Some (one_i32, 7 ∷ [])

abbrev pub NothingReadWithoutEnd : Type 0
NothingReadWithoutEnd = expression_at (0x41 ∷ 1 ∷ []) ≡ None

-- a function that is referred to is named
abbrev pub FunctionIsNamed : Type 0
FunctionIsNamed = named (0xd2 ∷ 5 ∷ 0x0b ∷ []) ≡ 5 ∷ []

-- the header, and the section of globals with one of type i32 that is initialized by i32.const 1
abbrev pub GlobalIsModule : Type 0
GlobalIsModule = IsValidModule first_version (0x00 ∷ 0x61 ∷ 0x73 ∷ 0x6d ∷ 1 ∷ 0 ∷ 0 ∷ 0 ∷ 6 ∷ 6 ∷ 1 ∷ 0x7f ∷ 0 ∷ 0x41 ∷ 1 ∷ 0x0b ∷ [])

-- the same with one of type i64
abbrev pub NoGlobalOfAnotherType : Type 0
NoGlobalOfAnotherType =
    (F : Features) → IsValidModule F (0x00 ∷ 0x61 ∷ 0x73 ∷ 0x6d ∷ 1 ∷ 0 ∷ 0 ∷ 0 ∷ 6 ∷ 6 ∷ 1 ∷ 0x7e ∷ 0 ∷ 0x41 ∷ 1 ∷ 0x0b ∷ []) → ⊥
