-- What value types say, in the abstract syntax over unpacked indices.
use Rattle.std.specs.Prelude.{Bool, Option}
use Rattle.std.specs.declared.option.Option.TheVariants.{None, Some}
use Rattle.wasm_spec.specs.Syntax as syntax
use Rattle.wasm_spec.specs.Syntax.{AbstractHeap, Heap, Ref, Val, Storage, Field}
use Rattle.wasm_readers_values.specs.Indices.{Fits, indexed, number_in}
use Rattle.wasm_readers_values.specs.declared.indices.PackedIndex.{PackedIndex}
use Rattle.wasm_readers_values.specs.declared.indices.UnpackedIndex.{UnpackedIndex}
use Rattle.wasm_readers_values.specs.declared.values.AbstractHeapType.{AbstractHeapType}
use Rattle.wasm_readers_values.specs.declared.values.AbstractHeapType.TheVariants as abstract
use Rattle.wasm_readers_values.specs.declared.values.HeapType.{HeapType}
use Rattle.wasm_readers_values.specs.declared.values.HeapType.TheVariants as heap
use Rattle.wasm_readers_values.specs.declared.values.PackedHeap.{PackedHeap}
use Rattle.wasm_readers_values.specs.declared.values.PackedHeap.TheVariants as packed
use Rattle.wasm_readers_values.specs.declared.values.RefType.{RefType}
use Rattle.wasm_readers_values.specs.declared.values.ValType.{ValType}
use Rattle.wasm_readers_values.specs.declared.values.ValType.TheVariants as val
use Rattle.wasm_readers_values.specs.declared.values.StorageType.{StorageType}
use Rattle.wasm_readers_values.specs.declared.values.StorageType.TheVariants as storage
use Rattle.wasm_readers_values.specs.declared.values.FieldType.{FieldType}

abbrev pub abstract_heap_of : AbstractHeapType → AbstractHeap
abstract_heap_of abstract.Func = syntax.func_heap
abstract_heap_of abstract.Extern = syntax.extern_heap
abstract_heap_of abstract.Any = syntax.any_heap
abstract_heap_of abstract.None = syntax.none_heap
abstract_heap_of abstract.NoExtern = syntax.noextern_heap
abstract_heap_of abstract.NoFunc = syntax.nofunc_heap
abstract_heap_of abstract.Eq = syntax.eq_heap
abstract_heap_of abstract.Struct = syntax.struct_heap
abstract_heap_of abstract.Array = syntax.array_heap
abstract_heap_of abstract.I31 = syntax.i31_heap
abstract_heap_of abstract.Exn = syntax.exn_heap
abstract_heap_of abstract.NoExn = syntax.noexn_heap
abstract_heap_of abstract.Cont = syntax.cont_heap
abstract_heap_of abstract.NoCont = syntax.nocont_heap

abbrev pub heap_of : HeapType → Heap UnpackedIndex
heap_of (heap.Abstract shared ty) = syntax.abstract_heap shared (abstract_heap_of ty)
heap_of (heap.Concrete i) = syntax.concrete i
heap_of (heap.Exact i) = syntax.exact i

-- an index in the heap type can be packed
abbrev pub HeapFits : HeapType → Type 0
HeapFits (heap.Abstract shared ty) = Unit {0}
HeapFits (heap.Concrete i) = Fits i
HeapFits (heap.Exact i) = Fits i

abbrev pub index_of : PackedIndex → UnpackedIndex
index_of p = indexed p.form (number_in p.highest p.high p.low p.lowest)

abbrev pub packed_heap_of : PackedHeap → Heap UnpackedIndex
packed_heap_of (packed.Abstract shared ty) = syntax.abstract_heap shared (abstract_heap_of ty)
packed_heap_of (packed.Concrete p) = syntax.concrete (index_of p)
packed_heap_of (packed.Exact p) = syntax.exact (index_of p)

abbrev pub ref_of : RefType → Ref UnpackedIndex
ref_of r = record { nullable = r.nullable; heap = packed_heap_of r.heap }

-- the reference type to what a defined type or a subtype of it describes
abbrev pub concrete_ref : Bool → UnpackedIndex → Ref UnpackedIndex
concrete_ref nullable i = record { nullable = nullable; heap = syntax.concrete i }

-- the index of a defined type in a heap type
abbrev pub index_in : Heap UnpackedIndex → Option UnpackedIndex
index_in (syntax.abstract_heap shared a) = None
index_in (syntax.concrete i) = Some i
index_in (syntax.exact i) = Some i

abbrev pub val_of : ValType → Val UnpackedIndex
val_of val.I32 = syntax.i32
val_of val.I64 = syntax.i64
val_of val.F32 = syntax.f32
val_of val.F64 = syntax.f64
val_of val.V128 = syntax.v128
val_of (val.Ref r) = syntax.reference (ref_of r)

abbrev pub storage_of : StorageType → Storage UnpackedIndex
storage_of storage.I8 = syntax.i8
storage_of storage.I16 = syntax.i16
storage_of (storage.Val v) = syntax.unpacked (val_of v)

abbrev pub field_of : FieldType → Field UnpackedIndex
field_of x = record { storage = storage_of x.element_type; mutable = x.mutable }
