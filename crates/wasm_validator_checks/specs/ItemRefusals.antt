-- What a refusal of an item says: the first of its rules that is broken, in the order in which they are asked, with its
-- fault, where the item stands, and the proposal that would lift it. Core Specification 3.0, Validation, Types (Limits,
-- Table Types, Memory Types, Global Types, Tag Types, External Types).
use Rattle.std.specs.Prelude.{ℕ, ◌^◌, nat_lt, nat_le, Bool, true, ◌||◌, if◌then◌else◌, List, length, Option, Some, None, is_some}
use Rattle.std.specs.Option.{option_or}
use Rattle.wasm_spec.specs.Syntax.{Heap, abstract_heap, concrete, exact, Ref, Val, i32, i64, f32, f64, v128, reference, Table, Memory, Global, Extern, func_extern, func_exact_extern, table_extern, memory_extern, global_extern, tag_extern, map_table}
use Rattle.wasm_spec.specs.ValueTypes.{implies}
use Rattle.wasm_spec.specs.Trees.{DefType}
use Rattle.wasm_validator_resources.specs.WasmSpecRules.ItemRules.{most_entries}
use Rattle.wasm_readers.specs.WasmReadersErrors.Refusals.{plain, unless, lack_if}
use Rattle.wasm_readers.specs.WasmReadersErrors.declared.error.Fault.{Fault}
use Rattle.wasm_readers.specs.WasmReadersErrors.declared.error.Fault.TheVariants as fault
use Rattle.wasm_readers.specs.WasmReadersErrors.declared.error.Rule.TheVariants.{Exceptions}
use Rattle.wasm_readers.specs.WasmReadersErrors.declared.error.Refusal.{Refusal}
use Rattle.wasm_readers.specs.WasmReadersErrors.declared.item_rules.ItemRule.{ItemRule}
use Rattle.wasm_readers.specs.WasmReadersErrors.declared.item_rules.ItemRule.TheVariants.{ExactFunctionImports, MinimumAboveMaximum, Tables64, SharedTables, SharedElements, TableSize, TableInitializers, NonDefaultableElements, Memories64, SharedMemories, SharedMemoryMaximum, CustomPageSizes, PageSize, TagResults, SharedGlobals, SharedContents, MutableGlobals}
use Rattle.wasm_readers.specs.WasmReadersErrors.WasmReadersFeatures.declared.features.WasmFeatures.{WasmFeatures}
use Rattle.wasm_readers.specs.WasmReadersErrors.WasmReadersFeatures.declared.features.TheConstants.WasmFeatures.{MEMORY64, SHARED_EVERYTHING_THREADS, THREADS, FUNCTION_REFERENCES, CUSTOM_PAGE_SIZES, CUSTOM_DESCRIPTORS, EXCEPTIONS, STACK_SWITCHING, MUTABLE_GLOBAL}
use Rattle.wasm_readers_types.specs.WasmReadersValues.declared.indices.UnpackedIndex.{UnpackedIndex}
use Rattle.wasm_readers_types.specs.WasmReadersValues.declared.indices.UnpackedIndex.TheVariants.{Module, RecGroup, Id}
use Rattle.wasm_validator_canonical.specs.Indices.{number_in}
use Rattle.wasm_validator_resources.specs.ProposalRefusals.{told_of_ref, told_of_val}
use Rattle.wasm_validator_checks.specs.ModuleTypes.{arity_at}
use Rattle.wasm_validator_checks.specs.Items.{is_funcref, is_shared_ref_over, is_shared_val_over, are_ordered, are_at_most, log_of, most_of}

module _ (offset : ℕ) where
  -- a rule that no proposal lifts
  abbrev pub told_of_item : ItemRule → Bool → Option Refusal
  told_of_item rule holds = unless holds (plain (fault.Item rule) offset)

  -- the index of a type, among so many
  abbrev pub told_of_index : ℕ → UnpackedIndex → Option Refusal
  told_of_index count (Module x) = unless (nat_lt x count) (plain (fault.UnknownType x) offset)
  told_of_index count (RecGroup i) = Some (plain (fault.UnknownType 0) offset)
  told_of_index count (Id id) = Some (plain (fault.UnknownType 0) offset)

  abbrev pub told_of_heap_index : ℕ → Heap UnpackedIndex → Option Refusal
  told_of_heap_index count (abstract_heap shared a) = None
  told_of_heap_index count (concrete i) = told_of_index count i
  told_of_heap_index count (exact i) = told_of_index count i

  abbrev pub told_of_val_index : ℕ → Val UnpackedIndex → Option Refusal
  told_of_val_index count i32 = None
  told_of_val_index count i64 = None
  told_of_val_index count f32 = None
  told_of_val_index count f64 = None
  told_of_val_index count v128 = None
  told_of_val_index count (reference r) = told_of_heap_index count r.heap

  -- the index of a function type: it is there, and of a function type
  abbrev pub told_of_function : List DefType → ℕ → Option Refusal
  told_of_function types x =
      option_or (unless (nat_lt x (length types)) (plain (fault.UnknownType x) offset)) (unless (is_some (arity_at types x)) (plain (fault.NotAFunctionType x) offset))

  abbrev pub told_of_limits : ℕ → Option ℕ → Option Refusal
  told_of_limits minimum maximum = told_of_item MinimumAboveMaximum (are_ordered minimum maximum)

  abbrev pub told_of_sizes : ℕ → ℕ → Option ℕ → Fault → Option Refusal
  told_of_sizes most minimum maximum f = unless (are_at_most most minimum maximum) (plain f offset)

-- how many bytes a page has, by their logarithm
abbrev pub page_bytes : ℕ → ℕ
page_bytes log = 2 ^ log

-- the pages of a memory, whose addresses have 64 bits or not and whose pages have so many bytes by their logarithm
abbrev pub told_of_pages : ℕ → Bool → ℕ → ℕ → Option ℕ → Option Refusal
told_of_pages offset is_64 log minimum maximum =
    let most = most_of is_64 log in
    told_of_sizes offset most minimum maximum (fault.MemorySize most (page_bytes log))

module _ (features : WasmFeatures) (offset : ℕ) where
  -- for want of a proposal that an item needs
  abbrev pub lack_for_item : Bool → WasmFeatures → ItemRule → Option Refusal
  lack_for_item needed proposal rule = lack_if needed features proposal (fault.Item rule) offset

  abbrev pub told_of_element : ℕ → Ref UnpackedIndex → Option Refusal
  told_of_element count r = option_or (if is_funcref r then None else told_of_ref features offset r) (told_of_heap_index offset count r.heap)

  abbrev pub told_of_content : ℕ → Val UnpackedIndex → Option Refusal
  told_of_content count v = option_or (told_of_val features offset v) (told_of_val_index offset count v)

  abbrev pub told_of_table : List DefType → Table UnpackedIndex → Option Refusal
  told_of_table types t =
      option_or (told_of_element (length types) t.element)
      (option_or (told_of_limits offset t.minimum t.maximum)
      (option_or (lack_for_item t.is_64 MEMORY64 Tables64)
      (option_or (lack_for_item t.shared SHARED_EVERYTHING_THREADS SharedTables)
      (option_or (told_of_sizes offset (most_entries (map_table number_in t)) t.minimum t.maximum (fault.Item TableSize))
      (told_of_item offset SharedElements (implies t.shared (is_shared_ref_over types t.element)))))))

  -- a table that is defined, with an initializer or without
  abbrev pub told_of_defined_table : List DefType → Table UnpackedIndex → Bool → Option Refusal
  told_of_defined_table types t has_init =
      option_or (told_of_table types t)
      (option_or (told_of_item offset NonDefaultableElements (has_init || t.element.nullable)) (lack_for_item has_init FUNCTION_REFERENCES TableInitializers))

  -- a page size that is written, by its logarithm
  abbrev pub told_of_page : Option ℕ → Option Refusal
  told_of_page None = None
  told_of_page (Some log) = option_or (lack_for_item true CUSTOM_PAGE_SIZES CustomPageSizes) (told_of_item offset PageSize (nat_le log 16))

  abbrev pub told_of_memory : Memory → Option Refusal
  told_of_memory m =
      let log = log_of m.page_size_log2 in
      option_or (told_of_limits offset m.minimum m.maximum)
      (option_or (lack_for_item m.is_64 MEMORY64 Memories64)
      (option_or (lack_for_item m.shared THREADS SharedMemories)
      (option_or (told_of_page m.page_size_log2)
      (option_or (told_of_pages offset m.is_64 log m.minimum m.maximum)
      (told_of_item offset SharedMemoryMaximum (implies m.shared (is_some m.maximum)))))))

  -- the results of a tag's type
  abbrev pub told_of_results : Option (ℕ × ℕ) → Option Refusal
  told_of_results None = None
  told_of_results (Some arity) = lack_for_item (nat_lt 0 arity.1) STACK_SWITCHING TagResults

  abbrev pub told_of_tag : List DefType → ℕ → Option Refusal
  told_of_tag types x = option_or (lack_if true features EXCEPTIONS (fault.Rule Exceptions) offset) (option_or (told_of_function offset types x) (told_of_results (arity_at types x)))

  abbrev pub told_of_global : List DefType → Global UnpackedIndex → Option Refusal
  told_of_global types g =
      option_or (told_of_content (length types) g.content)
      (option_or (lack_for_item g.shared SHARED_EVERYTHING_THREADS SharedGlobals)
      (told_of_item offset SharedContents (implies g.shared (is_shared_val_over types g.content))))

  -- a global that is imported or exported
  abbrev pub told_of_movable : Global UnpackedIndex → Option Refusal
  told_of_movable g = lack_for_item g.mutable MUTABLE_GLOBAL MutableGlobals

  abbrev pub told_of_extern : List DefType → Extern UnpackedIndex → Option Refusal
  told_of_extern types (func_extern x) = told_of_function offset types x
  told_of_extern types (func_exact_extern x) = option_or (lack_for_item true CUSTOM_DESCRIPTORS ExactFunctionImports) (told_of_function offset types x)
  told_of_extern types (table_extern t) = told_of_table types t
  told_of_extern types (memory_extern m) = told_of_memory m
  told_of_extern types (global_extern g) = told_of_global types g
  told_of_extern types (tag_extern x) = told_of_tag types x
