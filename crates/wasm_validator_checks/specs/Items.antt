-- The rules of tables, memories, tags, globals and imports as tests of what is read, where `types` are the module's
-- types. Core Specification 3.0, Validation, Types (Limits, Table Types, Memory Types, Global Types, Tag Types,
-- External Types).
use Rattle.std.specs.Prelude.{ℕ, ◌^◌, ◌-◌, ◌==◌, nat_lt, nat_le, Bool, true, false, not, ◌&&◌, ◌||◌, if◌then◌else◌, List, length, Option, Some, None, is_some}
use Rattle.std.specs.List.{list_all}
use Rattle.wasm_spec.specs.Syntax.{AbstractHeap, func_heap, Heap, abstract_heap, concrete, exact, Ref, Val, Table, Memory, Global, Extern, func_extern, func_exact_extern, table_extern, memory_extern, global_extern, tag_extern, map_ref, map_val, map_table}
use Rattle.wasm_spec.specs.References.{refs_heap, refs_val}
use Rattle.wasm_spec.specs.Features.{Features}
use Rattle.wasm_spec.specs.ValueTypes.{implies, allows_ref, allows_val}
use Rattle.wasm_spec.specs.Matching.{is_shared_heap, is_shared_val}
use Rattle.wasm_spec.specs.Trees.{DefType, declared}
use Rattle.wasm_validator_resources.specs.WasmSpecRules.IndexSpaces.{ref_over, val_over}
use Rattle.wasm_validator_resources.specs.WasmSpecRules.ItemRules.{most_entries}
use Rattle.wasm_readers_types.specs.WasmReadersValues.declared.indices.UnpackedIndex.{UnpackedIndex}
use Rattle.wasm_readers_types.specs.WasmReadersValues.declared.indices.UnpackedIndex.TheVariants.{Module, RecGroup, Id}
use Rattle.wasm_validator_canonical.specs.Indices.{number_in}
use Rattle.wasm_validator_checks.specs.ModuleTypes.{arity_at}

-- the reference is a type index of a module of so many types
abbrev pub is_in_range : ℕ → UnpackedIndex → Bool
is_in_range count (Module x) = nat_lt x count
is_in_range count (RecGroup i) = false
is_in_range count (Id id) = false

abbrev pub is_ref_in_range : ℕ → Ref UnpackedIndex → Bool
is_ref_in_range count r = list_all (is_in_range count) (refs_heap r.heap)

abbrev pub is_val_in_range : ℕ → Val UnpackedIndex → Bool
is_val_in_range count v = list_all (is_in_range count) (refs_val v)

-- the reference type is `funcref`
abbrev pub is_func_heap : AbstractHeap → Bool
is_func_heap func_heap = true
is_func_heap _ = false

abbrev pub is_unshared_func : {R : Type 0} → Heap R → Bool
is_unshared_func (abstract_heap shared a) = not shared && is_func_heap a
is_unshared_func (concrete r) = false
is_unshared_func (exact r) = false

abbrev pub is_funcref : {R : Type 0} → Ref R → Bool
is_funcref r = r.nullable && is_unshared_func r.heap

-- the features allow the elements, and their type is one of the module's
abbrev pub is_allowed_element : Features → ℕ → Ref UnpackedIndex → Bool
is_allowed_element F count r = (is_funcref r || allows_ref F r) && is_ref_in_range count r

abbrev pub is_allowed_content : Features → ℕ → Val UnpackedIndex → Bool
is_allowed_content F count v = allows_val F v && is_val_in_range count v

-- what a reference type or a value type refers to may be shared between threads
abbrev pub is_shared_ref_over : List DefType → Ref UnpackedIndex → Bool
is_shared_ref_over types r = is_shared_heap declared (ref_over types (map_ref number_in r)).heap

abbrev pub is_shared_val_over : List DefType → Val UnpackedIndex → Bool
is_shared_val_over types v = is_shared_val declared (val_over types (map_val number_in v))

-- the minimum is at most the maximum, where there is one
abbrev pub are_ordered : ℕ → Option ℕ → Bool
are_ordered minimum None = true
are_ordered minimum (Some maximum) = nat_le minimum maximum

-- both are at most this
abbrev pub are_at_most : ℕ → ℕ → Option ℕ → Bool
are_at_most most minimum None = nat_le minimum most
are_at_most most minimum (Some maximum) = nat_le minimum most && nat_le maximum most

abbrev pub is_valid_table : Features → List DefType → Table UnpackedIndex → Bool
is_valid_table F types t =
    is_allowed_element F (length types) t.element
    && are_ordered t.minimum t.maximum
    && implies t.is_64 F.memory64
    && implies t.shared F.shared_everything_threads
    && are_at_most (most_entries (map_table number_in t)) t.minimum t.maximum
    && implies t.shared (is_shared_ref_over types t.element)

-- a table that is defined: without what its entries begin with they may be null
abbrev pub is_valid_defined_table : Features → List DefType → Table UnpackedIndex → Bool → Bool
is_valid_defined_table F types t has_init = is_valid_table F types t && (has_init || t.element.nullable) && implies has_init F.function_references

-- a written page size, by its logarithm: every power of two up to 65,536
abbrev pub is_allowed_page : Features → Option ℕ → Bool
is_allowed_page F None = true
is_allowed_page F (Some n) = F.custom_page_sizes && nat_le n 16

-- the logarithm of a page's size, where it is written and where it isn't
abbrev pub log_of : Option ℕ → ℕ
log_of None = 16
log_of (Some n) = n

-- the most pages where each has so many bytes, by their logarithm
abbrev pub most_of : Bool → ℕ → ℕ
most_of is_64 log = if is_64 then (if log == 0 then 2 ^ 64 - 1 else 2 ^ (64 - log)) else 2 ^ (32 - log)

abbrev pub is_valid_memory : Features → Memory → Bool
is_valid_memory F m =
    are_ordered m.minimum m.maximum
    && implies m.is_64 F.memory64
    && implies m.shared F.threads
    && is_allowed_page F m.page_size_log2
    && are_at_most (most_of m.is_64 (log_of m.page_size_log2)) m.minimum m.maximum
    && implies m.shared (is_some m.maximum)

-- a type index that is that of a function type
abbrev pub is_function : List DefType → ℕ → Bool
is_function types x = is_some (arity_at types x)

-- a function type of so many parameters and results is one of tags
abbrev pub allows_tag : Features → Option (ℕ × ℕ) → Bool
allows_tag F None = false
allows_tag F (Some arity) = implies (nat_lt 0 arity.1) F.stack_switching

abbrev pub is_valid_tag : Features → List DefType → ℕ → Bool
is_valid_tag F types x = F.exceptions && allows_tag F (arity_at types x)

abbrev pub is_valid_global : Features → List DefType → Global UnpackedIndex → Bool
is_valid_global F types g =
    is_allowed_content F (length types) g.content
    && implies g.shared F.shared_everything_threads
    && implies g.shared (is_shared_val_over types g.content)

-- a global that may be imported and exported
abbrev pub is_movable_global : Features → Global UnpackedIndex → Bool
is_movable_global F g = implies g.mutable F.mutable_global

-- an external type, but for whether a mutable global may be imported
abbrev pub is_valid_extern : Features → List DefType → Extern UnpackedIndex → Bool
is_valid_extern F types (func_extern x) = is_function types x
is_valid_extern F types (func_exact_extern x) = F.custom_descriptors && is_function types x
is_valid_extern F types (table_extern t) = is_valid_table F types t
is_valid_extern F types (memory_extern m) = is_valid_memory F m
is_valid_extern F types (global_extern g) = is_valid_global F types g
is_valid_extern F types (tag_extern x) = is_valid_tag F types x

abbrev pub is_movable : Features → Extern UnpackedIndex → Bool
is_movable F (global_extern g) = is_movable_global F g
is_movable F _ = true

-- what may be imported
abbrev pub is_importable : Features → List DefType → Extern UnpackedIndex → Bool
is_importable F types x = is_valid_extern F types x && is_movable F x
