-- What the types of tables, memories, globals, tags and imports say, in the abstract syntax over unpacked indices.
use Rattle.std.specs.Prelude.{ℕ}
use Rattle.wasm_readers_values.specs.WasmSpec.Syntax as syntax
use Rattle.wasm_readers_values.specs.WasmSpec.Syntax.{Table, Memory, Global, Extern}
use Rattle.wasm_readers_values.specs.SeenValues.{ref_of, val_of}
use Rattle.wasm_readers_values.specs.declared.indices.UnpackedIndex.{UnpackedIndex}
use Rattle.wasm_readers_types.specs.declared.externs.TableType.{TableType}
use Rattle.wasm_readers_types.specs.declared.externs.MemoryType.{MemoryType}
use Rattle.wasm_readers_types.specs.declared.externs.GlobalType.{GlobalType}
use Rattle.wasm_readers_types.specs.declared.externs.TypeRef.{TypeRef}
use Rattle.wasm_readers_types.specs.declared.externs.TypeRef.TheVariants as ref
use Rattle.wasm_readers_types.specs.declared.externs.ExternalKind.{ExternalKind}
use Rattle.wasm_readers_types.specs.declared.externs.ExternalKind.TheVariants as kind

abbrev pub table_of : TableType → Table UnpackedIndex
table_of t = record { element = ref_of t.element_type; is_64 = t.table64; minimum = t.initial; maximum = t.maximum; shared = t.shared }

abbrev pub memory_of : MemoryType → Memory
memory_of m = record { is_64 = m.memory64; shared = m.shared; minimum = m.initial; maximum = m.maximum; page_size_log2 = m.page_size_log2 }

abbrev pub global_of : GlobalType → Global UnpackedIndex
global_of g = record { content = val_of g.content_type; mutable = g.mutable; shared = g.shared }

abbrev pub extern_of : TypeRef → Extern UnpackedIndex
extern_of (ref.Func i) = syntax.func_extern i
extern_of (ref.FuncExact i) = syntax.func_exact_extern i
extern_of (ref.Table t) = syntax.table_extern (table_of t)
extern_of (ref.Memory m) = syntax.memory_extern (memory_of m)
extern_of (ref.Global g) = syntax.global_extern (global_of g)
extern_of (ref.Tag t) = syntax.tag_extern t.func_type_idx

-- the byte that stands for the kind in an import or an export
abbrev pub kind_of : ExternalKind → ℕ
kind_of kind.Func = 0
kind_of kind.Table = 1
kind_of kind.Memory = 2
kind_of kind.Global = 3
kind_of kind.Tag = 4
