-- Worked examples of the rules of modules, as facts that a contract can name: for each kind of item one that keeps its
-- rules, or one that doesn't and the rule that it breaks.
use Rattle.std.specs.Prelude.{ℕ, ◌≡◌, true, false, List, [], ◌∷◌, map, Option, Some, None}
use Rattle.wasm_readers_errors.specs.WasmSpec.Syntax.{i32, i64, Table, Memory, Global, func_extern, func_exact_extern, table_extern, memory_extern, global_extern, tag_extern, func, Rec}
use Rattle.wasm_readers_errors.specs.WasmSpec.BinaryModules.{Import, Export}
use Rattle.wasm_readers_errors.specs.WasmSpec.BinarySections.{funcref, ref_func, passive, active, declarative, functions, expressions}
use Rattle.wasm_readers_errors.specs.WasmSpec.Features.{Features}
use Rattle.wasm_readers_errors.specs.WasmSpec.Trees.{DefType}
use Rattle.wasm_readers_errors.specs.WasmSpec.Closing.{type_space}
use Rattle.wasm_readers_errors.specs.WasmSpec.Framing.{Piece, Counted, DataCount, Unknown}
use Rattle.wasm_spec_rules.specs.Parts.{Parts, Expression, imports_of}
use Rattle.wasm_spec_rules.specs.IndexSpaces.{IndexSpaces, index_spaces}
use Rattle.wasm_spec_rules.specs.ItemRules.{IsValidTable, IsValidTableEntry, IsValidMemory, IsValidTag, IsValidGlobal}
use Rattle.wasm_spec_rules.specs.LinkRules.{IsValidImport, exported, IsValidExport, HasDistinctNames, signature_size, effective_size, IsValidStart, referenced}
use Rattle.wasm_spec_rules.specs.SegmentRules.{GoesToTable, IsValidElement, IsValidData}
use Rattle.wasm_spec_rules.specs.Contexts.{context_over}
use Rattle.wasm_spec_rules.specs.Limits.{KeepsLimits}
use Rattle.wasm_spec_rules.specs.Modules.{IsAllowedPiece, IsWellFormed}

-- the first version of the standard: floating-point numbers, and nothing that came later
abbrev pub first_version : Features
first_version = record {
  mutable_global = false;
  reference_types = false;
  multi_value = false;
  bulk_memory = false;
  simd = false;
  threads = false;
  shared_everything_threads = false;
  floats = true;
  multi_memory = false;
  exceptions = false;
  memory64 = false;
  extended_const = false;
  function_references = false;
  gc = false;
  gc_types = true;
  custom_page_sizes = false;
  custom_descriptors = false;
  stack_switching = false;
  component_model = false;
  vector_operators = false;
  atomic_operators = false;
  legacy_exceptions = false;
  crate_limits = false;
  wide_arithmetic = false;
  memory_control = false;
  descriptor_operators = false;
  shared_atomic_operators = false;
  stack_switching_operators = false;
  compact_imports = false;
}

-- a table of so many entries
abbrev pub table_of : ℕ → Option ℕ → Table ℕ
table_of minimum maximum = record { element = funcref; is_64 = false; minimum = minimum; maximum = maximum; shared = false }

abbrev pub TableOfOneOrTwo : Type 0
TableOfOneOrTwo = IsValidTable first_version [] (table_of 1 (Some 2))

-- breaks `minimum_at_most_maximum`
abbrev pub NoTableOfTwoToOne : Type 0
NoTableOfTwoToOne = IsValidTable first_version [] (table_of 2 (Some 1)) → ⊥

-- breaks `without_init_may_be_null`
abbrev pub NoTableWithoutEntries : Type 0
NoTableWithoutEntries =
    (F : Features) → IsValidTableEntry F [] (record { ty = record { element = ref_func; is_64 = false; minimum = 1; maximum = None; shared = false }; init = None }) → ⊥

-- a memory of so many pages of the usual size
abbrev pub memory_of : ℕ → Memory
memory_of pages = record { is_64 = false; shared = false; minimum = pages; maximum = None; page_size_log2 = None }

abbrev pub MemoryOfAllAddresses : Type 0
MemoryOfAllAddresses = IsValidMemory first_version (memory_of 65536)

-- breaks `minimum_is_small`
abbrev pub NoMemoryPastAllAddresses : Type 0
NoMemoryPastAllAddresses = (F : Features) → IsValidMemory F (memory_of 65537) → ⊥

-- the first version with page sizes that are written
abbrev pub with_page_sizes : Features
with_page_sizes = record first_version { custom_page_sizes = true }

-- a memory of so many pages of 2 to the power of so many bytes
abbrev pub paged : ℕ → ℕ → Memory
paged pages log = record { is_64 = false; shared = false; minimum = pages; maximum = None; page_size_log2 = Some log }

-- 2 to the power of 20 pages of 4,096 bytes
abbrev pub MemoryOfSmallPages : Type 0
MemoryOfSmallPages = IsValidMemory with_page_sizes (paged 1048576 12)

-- breaks `minimum_is_small`
abbrev pub NoMemoryPastSmallPages : Type 0
NoMemoryPastSmallPages = (F : Features) → IsValidMemory F (paged 1048577 12) → ⊥

-- breaks `page_is_of_at_most_65536_bytes`
abbrev pub NoMemoryOfLargerPages : Type 0
NoMemoryOfLargerPages = (F : Features) → IsValidMemory F (paged 0 17) → ⊥

-- breaks `shared_has_maximum`
abbrev pub NoSharedMemoryWithoutMaximum : Type 0
NoSharedMemoryWithoutMaximum = (F : Features) → IsValidMemory F (record (memory_of 1) { shared = true }) → ⊥

-- breaks `minimum_at_most_maximum`
abbrev pub NoMemoryOfTwoToOne : Type 0
NoMemoryOfTwoToOne = (F : Features) → IsValidMemory F (record (memory_of 2) { maximum = Some 1 }) → ⊥

-- breaks `maximum_is_small`
abbrev pub NoMemoryToPastAllAddresses : Type 0
NoMemoryToPastAllAddresses = (F : Features) → IsValidMemory F (record (memory_of 1) { maximum = Some 65537 }) → ⊥

-- breaks `of_64_bits_needs_memory64`
abbrev pub NoMemoryOf64BitsWithoutMemory64 : Type 0
NoMemoryOf64BitsWithoutMemory64 = IsValidMemory first_version (record (memory_of 1) { is_64 = true }) → ⊥

-- breaks `init_needs_function_references`
abbrev pub NoInitWithoutFunctionReferences : Type 0
NoInitWithoutFunctionReferences = IsValidTableEntry first_version [] (record { ty = table_of 1 None; init = Some [] }) → ⊥

-- breaks `minimum_is_small`
abbrev pub NoTablePast32Bits : Type 0
NoTablePast32Bits = (F : Features) → IsValidTable F [] (table_of 4294967296 None) → ⊥

-- breaks `shared_needs_shared_everything_threads`
abbrev pub NoSharedGlobal : Type 0
NoSharedGlobal = IsValidGlobal first_version [] (record { content = i32; mutable = false; shared = true }) → ⊥

-- breaks `needs_exceptions`
abbrev pub NoTagWithoutExceptions : Type 0
NoTagWithoutExceptions = (types : List DefType) (x : ℕ) → IsValidTag first_version types x → ⊥

-- an import of a mutable global, which breaks the last rule of `IsValidExtern`
abbrev pub counter : Import ℕ
counter = record { module_name = []; item_name = []; ty = global_extern (record { content = i64; mutable = true; shared = false }) }

abbrev pub NoMutableImport : Type 0
NoMutableImport = IsValidImport first_version [] counter → ⊥

-- index spaces of one memory alone
abbrev pub one_memory : IndexSpaces
one_memory = record { types = []; functions = []; tables = []; memories = memory_of 1 ∷ []; globals = []; tags = [] }

abbrev pub export_of : ℕ → ℕ → Export
export_of kind index = record { name = 97 ∷ []; kind = kind; index = index }

abbrev pub MemoryIsExported : Type 0
MemoryIsExported = IsValidExport first_version one_memory (export_of 2 0)

-- breaks `exports`: there is no second memory
abbrev pub NoSecondMemory : Type 0
NoSecondMemory = (F : Features) → IsValidExport F one_memory (export_of 2 1) → ⊥

-- index spaces of one item of each kind
abbrev pub counting_global : Global ℕ
counting_global = record { content = i64; mutable = true; shared = false }

abbrev pub one_of_each : IndexSpaces
one_of_each = record { types = []; functions = 3 ∷ []; tables = table_of 1 None ∷ []; memories = memory_of 1 ∷ []; globals = counting_global ∷ []; tags = 5 ∷ [] }

-- the kinds of exports: functions, tables, memories, globals and tags; there is no other
abbrev pub EachKindIsExported : Type 0
EachKindIsExported =
    map (λ (kind : ℕ). exported one_of_each (export_of kind 0)) (0 ∷ 1 ∷ 2 ∷ 3 ∷ 4 ∷ 5 ∷ [])
    ≡ Some (func_extern 3) ∷ Some (table_extern (table_of 1 None)) ∷ Some (memory_extern (memory_of 1)) ∷ Some (global_extern counting_global) ∷ Some (tag_extern 5) ∷ None ∷ []

abbrev pub NoNameTwice : Type 0
NoNameTwice = HasDistinctNames (export_of 2 0 ∷ export_of 2 0 ∷ []) → ⊥

-- one, one for the import and one for the export
abbrev pub SizeIsThree : Type 0
SizeIsThree = effective_size one_memory (counter ∷ []) (export_of 2 0 ∷ []) ≡ 3

-- imported items stand before those that are defined
abbrev pub two_of_each : Parts
two_of_each = record {
  groups = [];
  imports =
      record { module_name = []; item_name = []; ty = func_extern 1 } ∷ record { module_name = []; item_name = []; ty = func_exact_extern 2 }
      ∷ record { module_name = []; item_name = []; ty = table_extern (table_of 1 None) } ∷ record { module_name = []; item_name = []; ty = memory_extern (memory_of 1) }
      ∷ record { module_name = []; item_name = []; ty = global_extern counting_global } ∷ record { module_name = []; item_name = []; ty = tag_extern 3 } ∷ [];
  functions = 4 ∷ [];
  tables = record { ty = table_of 2 None; init = None } ∷ [];
  memories = memory_of 2 ∷ [];
  tags = 5 ∷ [];
  globals = record { ty = record counting_global { mutable = false }; init = [] } ∷ [];
  exports = [];
  starts = [];
  elements = [];
  data_counts = [];
  bodies = [];
  segments = [];
}

abbrev pub ImportsStandFirst : Type 0
ImportsStandFirst = index_spaces [] two_of_each ≡ record {
  types = [];
  functions = 1 ∷ 2 ∷ 4 ∷ [];
  tables = table_of 1 None ∷ table_of 2 None ∷ [];
  memories = memory_of 1 ∷ memory_of 2 ∷ [];
  globals = counting_global ∷ record counting_global { mutable = false } ∷ [];
  tags = 3 ∷ 5 ∷ [];
}

-- a signature counts as two, and each of its types as one
abbrev pub SignatureCountsAsFive : Type 0
SignatureCountsAsFive = signature_size (Some (i32 ∷ i64 ∷ [], i32 ∷ [])) ≡ 5

-- a function is referenced by an export and by a segment that lists it
abbrev pub FunctionsAreReferenced : Type 0
FunctionsAreReferenced =
    referenced (λ e. []) (record two_of_each { exports = export_of 0 4 ∷ export_of 1 6 ∷ []; elements = record { mode = declarative; items = functions (2 ∷ 3 ∷ []) } ∷ [] })
    ≡ 4 ∷ 2 ∷ 3 ∷ []

-- a module with one function type from i32 to nothing, and one import of that type
abbrev pub taking_type : Rec ℕ
taking_type = record { is_explicit = false; types = record { is_final = true; supers = []; shared = false; comp = func (i32 ∷ []) []; descriptor = None; describes = None } ∷ [] }

-- breaks `takes_and_gives_nothing`
abbrev pub NoStartWithParameter : Type 0
NoStartWithParameter =
    (types : List DefType) → type_space first_version (taking_type ∷ []) ≡ Some types
    → IsValidStart (record { types = types; functions = 0 ∷ []; tables = []; memories = []; globals = []; tags = [] }) 0 → ⊥

-- breaks `mode`: passive segments need bulk memory
abbrev pub NoPassiveElements : Type 0
NoPassiveElements = (C : IndexSpaces) → IsValidElement first_version C (record { mode = passive; items = functions [] }) → ⊥

-- breaks `mode`: so do segments that only declare functions
abbrev pub NoDeclaredElements : Type 0
NoDeclaredElements = (C : IndexSpaces) → IsValidElement first_version C (record { mode = declarative; items = functions [] }) → ⊥

-- index spaces of one table alone
abbrev pub one_table : Table ℕ → IndexSpaces
one_table t = record { types = []; functions = []; tables = t ∷ []; memories = []; globals = []; tags = [] }

-- functions go to a table whose entries may be null
abbrev pub FunctionsGoToTable : Type 0
FunctionsGoToTable = GoesToTable (one_table (table_of 1 None)) 0 ref_func

-- breaks `matches`: what may be null doesn't go to a table whose entries are never null
abbrev pub NoNullGoesToTable : Type 0
NoNullGoesToTable = GoesToTable (one_table (record { element = ref_func; is_64 = false; minimum = 1; maximum = None; shared = false })) 0 funcref → ⊥

-- breaks `items`: a type that is written needs reference types, also `funcref`, which only a table may always have
abbrev pub NoWrittenElements : Type 0
NoWrittenElements = (C : IndexSpaces) → IsValidElement first_version C (record { mode = active None []; items = expressions funcref [] }) → ⊥

-- a module of one data segment, whose offset is the expression of the one byte 7
abbrev pub data_behind_seven : Parts
data_behind_seven = record {
  groups = [];
  imports = [];
  functions = [];
  tables = [];
  memories = [];
  tags = [];
  globals = [];
  exports = [];
  starts = [];
  elements = [];
  data_counts = [];
  bodies = [];
  segments = record { mode = active None (7 ∷ []); bytes = [] } ∷ [];
}

-- where an expression names the functions that its bytes are
abbrev pub OffsetsReference : Type 0
OffsetsReference = referenced (λ e. e) data_behind_seven ≡ 7 ∷ []

-- with a table whose entries begin with the expression 6, a global with 5, and a segment with the offset 4 and the items 3 and 2
abbrev pub expressions_everywhere : Parts
expressions_everywhere = record data_behind_seven {
  tables = record { ty = table_of 1 None; init = Some (6 ∷ []) } ∷ [];
  globals = record { ty = counting_global; init = 5 ∷ [] } ∷ [];
  elements = record { mode = active None (4 ∷ []); items = expressions funcref ((3 ∷ []) ∷ (2 ∷ []) ∷ []) } ∷ [];
}

abbrev pub AllExpressionsReference : Type 0
AllExpressionsReference = referenced (λ e. e) expressions_everywhere ≡ 6 ∷ 5 ∷ 4 ∷ 3 ∷ 2 ∷ 7 ∷ []

-- an import of a function of a type or of one below it, one of a function of exactly a type, and a function that is defined
abbrev pub functions_of_each_kind : Parts
functions_of_each_kind = record data_behind_seven {
  imports = record { module_name = []; item_name = []; ty = func_extern 0 } ∷ record { module_name = []; item_name = []; ty = func_exact_extern 0 } ∷ [];
  functions = 0 ∷ [];
}

abbrev pub OwnFunctionsAreExact : Type 0
OwnFunctionsAreExact = (C : IndexSpaces) → (context_over (λ (d : DefType). d) [] (λ e. e) C functions_of_each_kind).exact ≡ false ∷ true ∷ true ∷ []

abbrev pub NoPassiveData : Type 0
NoPassiveData = (C : IndexSpaces) → IsValidData first_version C (record { mode = passive; bytes = [] }) → ⊥

-- breaks `memories`: two need multi-memory
abbrev pub NoTwoMemories : Type 0
NoTwoMemories = (parts : Parts) → KeepsLimits first_version (record { types = []; functions = []; tables = []; memories = memory_of 1 ∷ memory_of 1 ∷ []; globals = []; tags = [] }) parts → ⊥

-- a header alone
abbrev pub HeaderIsModule : Type 0
HeaderIsModule = (expression_at : List ℕ → Option (Expression × List ℕ)) → IsWellFormed expression_at first_version (0x00 ∷ 0x61 ∷ 0x73 ∷ 0x6d ∷ 1 ∷ 0 ∷ 0 ∷ 0 ∷ [])

-- breaks `first`: the version is 2
abbrev pub NoVersionTwo : Type 0
NoVersionTwo = (expression_at : List ℕ → Option (Expression × List ℕ)) (F : Features) → IsWellFormed expression_at F (0x00 ∷ 0x61 ∷ 0x73 ∷ 0x6d ∷ 2 ∷ 0 ∷ 0 ∷ 0 ∷ []) → ⊥

-- an import section of one entry, which is two imports from `m`: `a` and `b`, of the function type 0
abbrev pub two_of_one_type : List Piece
two_of_one_type = Counted 2 1 (1 ∷ 0x6d ∷ 0 ∷ 0x7e ∷ 0 ∷ 0 ∷ 2 ∷ 1 ∷ 0x61 ∷ 1 ∷ 0x62 ∷ []) ∷ []

-- the same with a type for each
abbrev pub two_with_types : List Piece
two_with_types = Counted 2 1 (1 ∷ 0x6d ∷ 0 ∷ 0x7f ∷ 2 ∷ 1 ∷ 0x61 ∷ 0 ∷ 0 ∷ 1 ∷ 0x62 ∷ 0 ∷ 0 ∷ []) ∷ []

abbrev pub import_of : ℕ → Import ℕ
import_of name = record { module_name = 0x6d ∷ []; item_name = name ∷ []; ty = func_extern 0 }

abbrev pub EntryOfOneTypeIsTwo : Type 0
EntryOfOneTypeIsTwo = imports_of true two_of_one_type ≡ Some (import_of 0x61 ∷ import_of 0x62 ∷ [])

abbrev pub EntryWithTypesIsTwo : Type 0
EntryWithTypesIsTwo = imports_of true two_with_types ≡ Some (import_of 0x61 ∷ import_of 0x62 ∷ [])

-- without compact imports neither is an entry
abbrev pub NoEntryIsTwo : Type 0
NoEntryIsTwo = (imports_of false two_of_one_type ≡ None) × (imports_of false two_with_types ≡ None)

-- sections of tags need exceptions, data counts bulk memory, and a section of an unknown id is none
abbrev pub SectionsNeedFeatures : Type 0
SectionsNeedFeatures = (IsAllowedPiece first_version (Counted 13 0 []) → ⊥) × (IsAllowedPiece first_version (DataCount 0) → ⊥) × ((F : Features) → IsAllowedPiece F (Unknown 14 []) → ⊥)

-- no more entries than a module may have imports
abbrev pub NoMillionAndOneEntries : Type 0
NoMillionAndOneEntries = (F : Features) → IsAllowedPiece F (Counted 2 1000001 []) → ⊥
