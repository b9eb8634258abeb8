-- The rules of tables, memories, tags and globals, imported or defined here, all but the typing of their first
-- values. Core Specification 3.0, Validation, Types (Limits, Table Types, Memory Types, Global Types, Tag Types),
-- with the features that each form needs and the rules of shared ones.
use Rattle.std.specs.Prelude.{ℕ, ◌≡◌, ◌≢◌, ◌≤◌, ◌^◌, ◌-◌, ◌==◌, if◌then◌else◌, List, length, None, nat_lt, is_some, IsTrue, IfSome}
use Rattle.wasm_readers_errors.specs.WasmSpec.Syntax.{Ref, Val, Table, Memory, Global}
use Rattle.wasm_readers_errors.specs.WasmSpec.BinarySections.{TableEntry, funcref}
use Rattle.wasm_readers_errors.specs.WasmSpec.Features.{Features}
use Rattle.wasm_readers_errors.specs.WasmSpec.Trees.{DefType, declared}
use Rattle.wasm_readers_errors.specs.WasmSpec.ValueTypes.{allows_ref, allows_val}
use Rattle.wasm_readers_errors.specs.WasmSpec.Matching.{is_shared_heap, is_shared_val}
use Rattle.wasm_readers_errors.specs.WasmSpec.LinkMatching.{page_log}
use Rattle.wasm_spec_rules.specs.IndexSpaces.{IsFunctionType, signature_at, ref_over, val_over, IsRefInRange, IsValInRange}
use Rattle.wasm_spec_rules.specs.Parts.{Expression}

-- a reference type that is written: the features allow it, and its index is one of a type
pub record IsAllowedRef (F : Features) (types : List DefType) (r : Ref ℕ) : Type 0 where
  pub allowed : IsTrue (allows_ref F r)
  pub in_range : IsRefInRange types r

-- the same of a table's element type, which may always be `funcref`
pub record IsAllowedElement (F : Features) (types : List DefType) (r : Ref ℕ) : Type 0 where
  pub allowed : r ≢ funcref → IsTrue (allows_ref F r)
  pub in_range : IsRefInRange types r

pub record IsAllowedVal (F : Features) (types : List DefType) (v : Val ℕ) : Type 0 where
  pub allowed : IsTrue (allows_val F v)
  pub in_range : IsValInRange types v

-- the most entries of a table
abbrev pub most_entries : Table ℕ → ℕ
most_entries t = if t.is_64 then 2 ^ 64 - 1 else 2 ^ 32 - 1

pub record IsValidTable (F : Features) (types : List DefType) (t : Table ℕ) : Type 0 where
  pub element : IsAllowedElement F types t.element
  pub minimum_at_most_maximum : IfSome t.maximum (λ m. t.minimum ≤ m)
  pub of_64_bits_needs_memory64 : IsTrue t.is_64 → IsTrue F.memory64
  pub shared_needs_shared_everything_threads : IsTrue t.shared → IsTrue F.shared_everything_threads
  pub shared_has_shared_elements : IsTrue t.shared → IsTrue (is_shared_heap declared (ref_over types t.element).heap)
  pub minimum_is_small : t.minimum ≤ most_entries t
  pub maximum_is_small : IfSome t.maximum (λ m. m ≤ most_entries t)

-- a table that is defined here, without the typing of what its entries begin with
pub record IsValidTableEntry (F : Features) (types : List DefType) (t : TableEntry Expression ℕ) : Type 0 where
  pub ty : IsValidTable F types t.ty
  pub without_init_may_be_null : t.init ≡ None → IsTrue t.ty.element.nullable
  pub init_needs_function_references : IsTrue (is_some t.init) → IsTrue F.function_references

-- the most pages of a memory: what its addresses reach, of 64 bits at most so many as a number of 64 bits counts
abbrev pub most_pages : Memory → ℕ
most_pages m = if m.is_64 then (if page_log m == 0 then 2 ^ 64 - 1 else 2 ^ (64 - page_log m)) else 2 ^ (32 - page_log m)

-- a page size is written by its base-2 logarithm: every power of two up to 65,536 is one
pub record IsValidMemory (F : Features) (m : Memory) : Type 0 where
  pub minimum_at_most_maximum : IfSome m.maximum (λ n. m.minimum ≤ n)
  pub of_64_bits_needs_memory64 : IsTrue m.is_64 → IsTrue F.memory64
  pub shared_needs_threads : IsTrue m.shared → IsTrue F.threads
  pub shared_has_maximum : IsTrue m.shared → IsTrue (is_some m.maximum)
  pub page_size_needs_custom_page_sizes : IsTrue (is_some m.page_size_log2) → IsTrue F.custom_page_sizes
  pub page_is_of_at_most_65536_bytes : IfSome m.page_size_log2 (λ n. n ≤ 16)
  pub minimum_is_small : m.minimum ≤ most_pages m
  pub maximum_is_small : IfSome m.maximum (λ n. n ≤ most_pages m)

-- a tag, by its type's index
pub record IsValidTag (F : Features) (types : List DefType) (x : ℕ) : Type 0 where
  pub needs_exceptions : IsTrue F.exceptions
  pub is_of_function_type : IsFunctionType types x
  pub results_need_stack_switching : IfSome (signature_at types x) (λ s. IsTrue (nat_lt 0 (length s.1)) → IsTrue F.stack_switching)

pub record IsValidGlobal (F : Features) (types : List DefType) (g : Global ℕ) : Type 0 where
  pub content : IsAllowedVal F types g.content
  pub shared_needs_shared_everything_threads : IsTrue g.shared → IsTrue F.shared_everything_threads
  pub shared_has_shared_content : IsTrue g.shared → IsTrue (is_shared_val declared (val_over types g.content))
