-- Worked examples of the binary format, as facts that a contract can name: bytes, and what they are read as. Core Specification 3.0, Binary
-- Format, Types and Modules, and the proposals on exact types, shared types, descriptors, continuations and compact imports.
use Rattle.std.specs.Prelude.{◌≡◌, ℕ, ◌^◌, ◌-◌, Bool, true, false, List, [], ◌∷◌, map, Some, None, pos, negsuc}
use Rattle.wasm_spec.specs.Values.{byte_at, unsigned_at, signed_at}
use Rattle.wasm_spec.specs.Syntax.{any_heap, eq_heap, i31_heap, struct_heap, array_heap, none_heap, func_heap, nofunc_heap, extern_heap, noextern_heap, exn_heap, noexn_heap, cont_heap, nocont_heap, Heap, abstract_heap, concrete, exact, Ref, i32, i64, f32, f64, v128, reference, i8, i16, unpacked, Field, func, array, struct, cont, Sub, Table, Memory, Global, func_extern, func_exact_extern, table_extern, memory_extern, global_extern, tag_extern}
use Rattle.wasm_spec.specs.BinaryTypes.{abstract_heap_from, ref_at, val_at, storage_at, field_at, comp_at, sub_at, rec_at, table_at, memory_at, global_at, tag_at}
use Rattle.wasm_spec.specs.BinarySections.{passive, active, declarative, functions, expressions, ref_func, funcref, data_at, element_at, table_entry_at, global_entry_at}
use Rattle.wasm_spec.specs.BinaryModules.{Import, Export, extern_at, import_at, entry_at, export_at}
use Rattle.wasm_spec.specs.Framing.{Counted, CodeStart, DataCount, tally_all, nothing_yet, agrees, place}

-- a type index, as it is written
abbrev pub index : ℕ → ℕ
index x = x

-- the heap types of one byte each, from 0x68 to 0x75, and no others beside them
abbrev pub HeapTypesOfOneByte : Type 0
HeapTypesOfOneByte =
    map abstract_heap_from (0x67 ∷ 0x68 ∷ 0x69 ∷ 0x6a ∷ 0x6b ∷ 0x6c ∷ 0x6d ∷ 0x6e ∷ 0x6f ∷ 0x70 ∷ 0x71 ∷ 0x72 ∷ 0x73 ∷ 0x74 ∷ 0x75 ∷ 0x76 ∷ [])
    ≡ None ∷ Some cont_heap ∷ Some exn_heap ∷ Some array_heap ∷ Some struct_heap ∷ Some i31_heap ∷ Some eq_heap ∷ Some any_heap ∷ Some extern_heap
    ∷ Some func_heap ∷ Some none_heap ∷ Some noextern_heap ∷ Some nofunc_heap ∷ Some noexn_heap ∷ Some nocont_heap ∷ None ∷ []

abbrev pub may_be_null : Heap ℕ → Ref ℕ
may_be_null h = record { nullable = true; heap = h }

abbrev pub never_null : Heap ℕ → Ref ℕ
never_null h = record { nullable = false; heap = h }

-- `(ref func)`, `(ref 5)` and `(ref (exact 5))`
abbrev pub ReferencesAreNeverNull : Type 0
ReferencesAreNeverNull =
    (ref_at index (0x64 ∷ 0x70 ∷ []) ≡ Some (never_null (abstract_heap false func_heap), []))
    × (ref_at index (0x64 ∷ 5 ∷ []) ≡ Some (never_null (concrete 5), []))
    × (ref_at index (0x64 ∷ 0x62 ∷ 5 ∷ []) ≡ Some (never_null (exact 5), []))

-- `(ref null func)`, also in its short form, `(ref null (shared func))`, also in its, and `(ref null 5)`
abbrev pub ReferencesMayBeNull : Type 0
ReferencesMayBeNull =
    (ref_at index (0x63 ∷ 0x70 ∷ []) ≡ Some (may_be_null (abstract_heap false func_heap), []))
    × (ref_at index (0x70 ∷ []) ≡ Some (may_be_null (abstract_heap false func_heap), []))
    × (ref_at index (0x63 ∷ 0x65 ∷ 0x70 ∷ []) ≡ Some (may_be_null (abstract_heap true func_heap), []))
    × (ref_at index (0x65 ∷ 0x70 ∷ []) ≡ Some (may_be_null (abstract_heap true func_heap), []))
    × (ref_at index (0x63 ∷ 5 ∷ []) ≡ Some (may_be_null (concrete 5), []))

-- numbers of 32 bits: the greatest, the next one, one byte too many, and no last byte
abbrev pub UnsignedNumbersAreRead : Type 0
UnsignedNumbersAreRead =
    (unsigned_at 32 (0xe5 ∷ 0x8e ∷ 0x26 ∷ 9 ∷ []) ≡ Some (624485, 9 ∷ []))
    × (unsigned_at 32 (0xff ∷ 0xff ∷ 0xff ∷ 0xff ∷ 0x0f ∷ []) ≡ Some (2 ^ 32 - 1, []))
    × (unsigned_at 32 (0x80 ∷ 0x80 ∷ 0x80 ∷ 0x80 ∷ 0x10 ∷ []) ≡ None)
    × (unsigned_at 32 (0x80 ∷ 0x80 ∷ 0x80 ∷ 0x80 ∷ 0x80 ∷ 0 ∷ []) ≡ None)
    × (unsigned_at 32 (0x80 ∷ []) ≡ None)

-- numbers of 32 bits: -123456, the greatest, the least, and one beyond each
abbrev pub SignedNumbersAreRead : Type 0
SignedNumbersAreRead =
    (signed_at 32 (0xc0 ∷ 0xbb ∷ 0x78 ∷ 9 ∷ []) ≡ Some (negsuc 123455, 9 ∷ []))
    × (signed_at 32 (0xff ∷ 0xff ∷ 0xff ∷ 0xff ∷ 0x07 ∷ []) ≡ Some (pos (2 ^ 31 - 1), []))
    × (signed_at 32 (0x80 ∷ 0x80 ∷ 0x80 ∷ 0x80 ∷ 0x78 ∷ []) ≡ Some (negsuc (2 ^ 31 - 1), []))
    × (signed_at 32 (0x80 ∷ 0x80 ∷ 0x80 ∷ 0x80 ∷ 0x08 ∷ []) ≡ None)
    × (signed_at 32 (0xff ∷ 0xff ∷ 0xff ∷ 0xff ∷ 0x77 ∷ []) ≡ None)

abbrev pub ValueTypesAreRead : Type 0
ValueTypesAreRead =
    (val_at index (0x7f ∷ []) ≡ Some (i32, []))
    × (val_at index (0x7e ∷ []) ≡ Some (i64, []))
    × (val_at index (0x7d ∷ []) ≡ Some (f32, []))
    × (val_at index (0x7c ∷ []) ≡ Some (f64, []))
    × (val_at index (0x7b ∷ []) ≡ Some (v128, []))
    × (val_at index (0x63 ∷ 5 ∷ []) ≡ Some (reference (may_be_null (concrete 5)), []))

abbrev pub field_of : Bool → Field ℕ
field_of mutable = record { storage = i8; mutable = mutable }

-- `i8`, `i16` and `f32`; a field of each, mutable or not; and no other mutability
abbrev pub FieldsAreRead : Type 0
FieldsAreRead =
    (storage_at index (0x78 ∷ []) ≡ Some (i8, []))
    × (storage_at index (0x77 ∷ []) ≡ Some (i16, []))
    × (storage_at index (0x7d ∷ []) ≡ Some (unpacked f32, []))
    × (field_at index (0x78 ∷ 0 ∷ []) ≡ Some (field_of false, []))
    × (field_at index (0x78 ∷ 1 ∷ []) ≡ Some (field_of true, []))
    × (field_at index (0x78 ∷ 2 ∷ []) ≡ None)

-- `(func (param i32 i64) (result f32))`, `(array (mut i8))`, `(struct (field i8) (field (mut i8)))` and `(cont 5)`
abbrev pub CompositeTypesAreRead : Type 0
CompositeTypesAreRead =
    (comp_at index (0x60 ∷ 2 ∷ 0x7f ∷ 0x7e ∷ 1 ∷ 0x7d ∷ []) ≡ Some (func (i32 ∷ i64 ∷ []) (f32 ∷ []), []))
    × (comp_at index (0x5e ∷ 0x78 ∷ 1 ∷ []) ≡ Some (array (field_of true), []))
    × (comp_at index (0x5f ∷ 2 ∷ 0x78 ∷ 0 ∷ 0x78 ∷ 1 ∷ []) ≡ Some (struct (field_of false ∷ field_of true ∷ []), []))
    × (comp_at index (0x5d ∷ 5 ∷ []) ≡ Some (cont 5, []))

abbrev pub empty_struct : Sub ℕ
empty_struct = record { is_final = true; supers = []; shared = false; comp = struct []; descriptor = None; describes = None }

-- `(struct)`, with a byte behind it; `(sub 3 (struct))`; and `(shared (describes 0) (descriptor 2) (struct))`
abbrev pub StructuresAreRead : Type 0
StructuresAreRead =
    (sub_at index (0x5f ∷ 0 ∷ 9 ∷ []) ≡ Some (empty_struct, 9 ∷ []))
    × (sub_at index (0x50 ∷ 1 ∷ 3 ∷ 0x5f ∷ 0 ∷ []) ≡ Some (record empty_struct { is_final = false; supers = 3 ∷ [] }, []))
    × (sub_at index (0x65 ∷ 0x4c ∷ 0 ∷ 0x4d ∷ 2 ∷ 0x5f ∷ 0 ∷ []) ≡ Some (record empty_struct { shared = true; descriptor = Some 2; describes = Some 0 }, []))

-- `(sub final 3 (struct))`; and two types by `rec`, and one without
abbrev pub GroupsAreRead : Type 0
GroupsAreRead =
    (sub_at index (0x4f ∷ 1 ∷ 3 ∷ 0x5f ∷ 0 ∷ []) ≡ Some (record empty_struct { supers = 3 ∷ [] }, []))
    × (rec_at index (0x4e ∷ 2 ∷ 0x5f ∷ 0 ∷ 0x5f ∷ 0 ∷ []) ≡ Some (record { is_explicit = true; types = empty_struct ∷ empty_struct ∷ [] }, []))
    × (rec_at index (0x5f ∷ 0 ∷ []) ≡ Some (record { is_explicit = false; types = empty_struct ∷ [] }, []))

-- a memory of one page; of one to two, of 64 bits, shared, and with pages of one byte
abbrev pub memory_of_one : Memory
memory_of_one = record { is_64 = false; shared = false; minimum = 1; maximum = None; page_size_log2 = None }

abbrev pub MemoriesAreRead : Type 0
MemoriesAreRead =
    (memory_at (0 ∷ 1 ∷ []) ≡ Some (memory_of_one, []))
    × (memory_at (1 ∷ 1 ∷ 2 ∷ []) ≡ Some (record memory_of_one { maximum = Some 2 }, []))
    × (memory_at (2 ∷ 1 ∷ []) ≡ Some (record memory_of_one { shared = true }, []))
    × (memory_at (4 ∷ 1 ∷ []) ≡ Some (record memory_of_one { is_64 = true }, []))
    × (memory_at (8 ∷ 1 ∷ 0 ∷ []) ≡ Some (record memory_of_one { page_size_log2 = Some 0 }, []))
    × (memory_at (16 ∷ 1 ∷ []) ≡ None)

abbrev pub table_of_one : Table ℕ
table_of_one = record { element = funcref; is_64 = false; minimum = 1; maximum = None; shared = false }

abbrev pub TablesAreRead : Type 0
TablesAreRead =
    (table_at index (0x70 ∷ 0 ∷ 1 ∷ []) ≡ Some (table_of_one, []))
    × (table_at index (0x70 ∷ 1 ∷ 1 ∷ 2 ∷ []) ≡ Some (record table_of_one { maximum = Some 2 }, []))
    × (table_at index (0x70 ∷ 2 ∷ 1 ∷ []) ≡ Some (record table_of_one { shared = true }, []))
    × (table_at index (0x70 ∷ 4 ∷ 1 ∷ []) ≡ Some (record table_of_one { is_64 = true }, []))
    × (table_at index (0x70 ∷ 8 ∷ 1 ∷ []) ≡ None)

abbrev pub global_of : Bool → Bool → Global ℕ
global_of mutable shared = record { content = i32; mutable = mutable; shared = shared }

abbrev pub GlobalsAndTagsAreRead : Type 0
GlobalsAndTagsAreRead =
    (global_at index (0x7f ∷ 0 ∷ []) ≡ Some (global_of false false, []))
    × (global_at index (0x7f ∷ 1 ∷ []) ≡ Some (global_of true false, []))
    × (global_at index (0x7f ∷ 2 ∷ []) ≡ Some (global_of false true, []))
    × (global_at index (0x7f ∷ 4 ∷ []) ≡ None)
    × (tag_at (0 ∷ 5 ∷ []) ≡ Some (5, []))
    × (tag_at (1 ∷ 5 ∷ []) ≡ None)

-- the kinds of what is imported: functions, tables, memories, globals, tags, and functions of exactly a type
abbrev pub ExternTypesAreRead : Type 0
ExternTypesAreRead =
    (extern_at index (0 ∷ 5 ∷ []) ≡ Some (func_extern 5, []))
    × (extern_at index (1 ∷ 0x70 ∷ 0 ∷ 1 ∷ []) ≡ Some (table_extern table_of_one, []))
    × (extern_at index (2 ∷ 0 ∷ 1 ∷ []) ≡ Some (memory_extern memory_of_one, []))
    × (extern_at index (3 ∷ 0x7f ∷ 0 ∷ []) ≡ Some (global_extern (global_of false false), []))
    × (extern_at index (4 ∷ 0 ∷ 5 ∷ []) ≡ Some (tag_extern 5, []))
    × (extern_at index (0x20 ∷ 5 ∷ []) ≡ Some (func_exact_extern 5, []))
    × (extern_at index (5 ∷ 5 ∷ []) ≡ None)

-- the function `f` of the module `m`, of the type 7
abbrev pub imported_function : Import ℕ
imported_function = record { module_name = 0x6d ∷ []; item_name = 0x66 ∷ []; ty = func_extern 7 }

abbrev pub ImportIsRead : Type 0
ImportIsRead = import_at index (1 ∷ 0x6d ∷ 1 ∷ 0x66 ∷ 0 ∷ 7 ∷ []) ≡ Some (imported_function, [])

-- as an entry of its own, and as that of one import with its type
abbrev pub EntriesAreRead : Type 0
EntriesAreRead =
    (entry_at index (1 ∷ 0x6d ∷ 1 ∷ 0x66 ∷ 0 ∷ 7 ∷ []) ≡ Some (imported_function ∷ [], []))
    × (entry_at index (1 ∷ 0x6d ∷ 0 ∷ 0x7f ∷ 1 ∷ 1 ∷ 0x66 ∷ 0 ∷ 7 ∷ []) ≡ Some (imported_function ∷ [], []))

-- two functions and two bodies, whatever is imported; and not as many bodies as imports
abbrev pub BodiesAreOfFunctions : Type 0
BodiesAreOfFunctions =
    (agrees (tally_all nothing_yet (Counted 2 3 [] ∷ Counted 3 2 [] ∷ CodeStart 2 0 ∷ [])) ≡ true)
    × (agrees (tally_all nothing_yet (Counted 2 3 [] ∷ Counted 3 2 [] ∷ CodeStart 3 0 ∷ [])) ≡ false)

-- as many segments as the data count says, where it is there
abbrev pub SegmentsAreCounted : Type 0
SegmentsAreCounted =
    (agrees (tally_all nothing_yet (DataCount 1 ∷ Counted 11 1 [] ∷ [])) ≡ true)
    × (agrees (tally_all nothing_yet (Counted 11 1 [] ∷ [])) ≡ true)
    × (agrees (tally_all nothing_yet (DataCount 1 ∷ [])) ≡ false)

-- an export of the function 7 under the name `f`; and no kind 5
abbrev pub exported_function : Export
exported_function = record { name = 0x66 ∷ []; kind = 0; index = 7 }

abbrev pub ExportIsRead : Type 0
ExportIsRead =
    (export_at (1 ∷ 0x66 ∷ 0 ∷ 7 ∷ []) ≡ Some (exported_function, []))
    × (export_at (1 ∷ 0x66 ∷ 5 ∷ 7 ∷ []) ≡ None)

-- entries whose expressions are one byte each
abbrev pub ElementsAreRead : Type 0
ElementsAreRead =
    map (λ (bytes : List ℕ). element_at byte_at index bytes) (
    (0 ∷ 9 ∷ 1 ∷ 3 ∷ []) ∷ (1 ∷ 0 ∷ 1 ∷ 3 ∷ []) ∷ (2 ∷ 6 ∷ 9 ∷ 0 ∷ 1 ∷ 3 ∷ []) ∷ (3 ∷ 0 ∷ 1 ∷ 3 ∷ [])
    ∷ (4 ∷ 9 ∷ 1 ∷ 3 ∷ []) ∷ (5 ∷ 0x64 ∷ 0x70 ∷ 1 ∷ 3 ∷ []) ∷ (6 ∷ 6 ∷ 9 ∷ 0x64 ∷ 0x70 ∷ 1 ∷ 3 ∷ []) ∷ (7 ∷ 0x64 ∷ 0x70 ∷ 1 ∷ 3 ∷ []) ∷ (8 ∷ 0 ∷ []) ∷ [])
    ≡ Some (record { mode = active None 9; items = functions (3 ∷ []) }, [])
    ∷ Some (record { mode = passive; items = functions (3 ∷ []) }, [])
    ∷ Some (record { mode = active (Some 6) 9; items = functions (3 ∷ []) }, [])
    ∷ Some (record { mode = declarative; items = functions (3 ∷ []) }, [])
    ∷ Some (record { mode = active None 9; items = expressions funcref (3 ∷ []) }, [])
    ∷ Some (record { mode = passive; items = expressions ref_func (3 ∷ []) }, [])
    ∷ Some (record { mode = active (Some 6) 9; items = expressions ref_func (3 ∷ []) }, [])
    ∷ Some (record { mode = declarative; items = expressions ref_func (3 ∷ []) }, [])
    ∷ None ∷ []

abbrev pub DataAreRead : Type 0
DataAreRead =
    map (λ (bytes : List ℕ). data_at byte_at bytes) ((0 ∷ 9 ∷ 1 ∷ 3 ∷ []) ∷ (1 ∷ 1 ∷ 3 ∷ []) ∷ (2 ∷ 6 ∷ 9 ∷ 1 ∷ 3 ∷ []) ∷ (3 ∷ 1 ∷ 3 ∷ []) ∷ [])
    ≡ Some (record { mode = active None 9; bytes = 3 ∷ [] }, [])
    ∷ Some (record { mode = passive; bytes = 3 ∷ [] }, [])
    ∷ Some (record { mode = active (Some 6) 9; bytes = 3 ∷ [] }, [])
    ∷ None ∷ []

-- a table alone, and one whose entries begin with an expression; and a global
abbrev pub EntriesWithExpressionsAreRead : Type 0
EntriesWithExpressionsAreRead =
    (table_entry_at byte_at index (0x70 ∷ 0 ∷ 1 ∷ []) ≡ Some (record { ty = table_of_one; init = None }, []))
    × (table_entry_at byte_at index (0x40 ∷ 0 ∷ 0x70 ∷ 0 ∷ 1 ∷ 9 ∷ []) ≡ Some (record { ty = table_of_one; init = Some 9 }, []))
    × (table_entry_at byte_at index (0x40 ∷ 1 ∷ 0x70 ∷ 0 ∷ 1 ∷ 9 ∷ []) ≡ None)
    × (global_entry_at byte_at index (0x7f ∷ 1 ∷ 9 ∷ []) ≡ Some (record { ty = global_of true false; init = 9 }, []))

-- the sections in their order, by their ids: type, import, function, table, memory, tag, global, export, start, element, data count, code and data
abbrev pub SectionsHavePlaces : Type 0
SectionsHavePlaces = map place (1 ∷ 2 ∷ 3 ∷ 4 ∷ 5 ∷ 13 ∷ 6 ∷ 7 ∷ 8 ∷ 9 ∷ 12 ∷ 10 ∷ 11 ∷ []) ≡ 1 ∷ 2 ∷ 3 ∷ 4 ∷ 5 ∷ 6 ∷ 7 ∷ 8 ∷ 9 ∷ 10 ∷ 11 ∷ 12 ∷ 13 ∷ []
