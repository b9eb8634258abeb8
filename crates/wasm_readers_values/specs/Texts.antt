-- Value types as they are written, by the text format, with indices that say what they are: (module 3), (recgroup 3) or (id 3).
-- Core Specification 3.0, Text Format, Types (Value Types, Reference Types, Heap Types).
use Rattle.std.specs.Prelude.{ℕ, Bool, true, false, List, ◌++◌, codes}
use Rattle.std.specs.Fmt.{decimal}
use Rattle.wasm_spec.specs.Syntax as syntax
use Rattle.wasm_spec.specs.Syntax.{AbstractHeap, Heap, Ref, Val}
use Rattle.wasm_readers_values.specs.declared.indices.UnpackedIndex.{UnpackedIndex}
use Rattle.wasm_readers_values.specs.declared.indices.UnpackedIndex.TheVariants.{Module, RecGroup, Id}

-- a word and a text behind it, with a brace at the end
abbrev pub braced : List ℕ → List ℕ → List ℕ
braced word text = word ++ (text ++ codes ")")

abbrev pub index_text : UnpackedIndex → List ℕ
index_text (Module n) = braced (codes "(module ") (decimal n)
index_text (RecGroup n) = braced (codes "(recgroup ") (decimal n)
index_text (Id id) = braced (codes "(id ") (decimal id.index)

-- the heap type's name
abbrev pub heap_name : AbstractHeap → List ℕ
heap_name syntax.func_heap = codes "func"
heap_name syntax.extern_heap = codes "extern"
heap_name syntax.any_heap = codes "any"
heap_name syntax.none_heap = codes "none"
heap_name syntax.noextern_heap = codes "noextern"
heap_name syntax.nofunc_heap = codes "nofunc"
heap_name syntax.eq_heap = codes "eq"
heap_name syntax.struct_heap = codes "struct"
heap_name syntax.array_heap = codes "array"
heap_name syntax.i31_heap = codes "i31"
heap_name syntax.exn_heap = codes "exn"
heap_name syntax.noexn_heap = codes "noexn"
heap_name syntax.cont_heap = codes "cont"
heap_name syntax.nocont_heap = codes "nocont"

-- the short name of the references to it that may be null
abbrev pub reference_name : AbstractHeap → List ℕ
reference_name syntax.func_heap = codes "funcref"
reference_name syntax.extern_heap = codes "externref"
reference_name syntax.any_heap = codes "anyref"
reference_name syntax.none_heap = codes "nullref"
reference_name syntax.noextern_heap = codes "nullexternref"
reference_name syntax.nofunc_heap = codes "nullfuncref"
reference_name syntax.eq_heap = codes "eqref"
reference_name syntax.struct_heap = codes "structref"
reference_name syntax.array_heap = codes "arrayref"
reference_name syntax.i31_heap = codes "i31ref"
reference_name syntax.exn_heap = codes "exnref"
reference_name syntax.noexn_heap = codes "nullexnref"
reference_name syntax.cont_heap = codes "contref"
reference_name syntax.nocont_heap = codes "nullcontref"

abbrev pub heap_text : Heap UnpackedIndex → List ℕ
heap_text (syntax.abstract_heap false a) = heap_name a
heap_text (syntax.abstract_heap true a) = braced (codes "(shared ") (heap_name a)
heap_text (syntax.concrete i) = index_text i
heap_text (syntax.exact i) = braced (codes "(exact ") (index_text i)

-- a reference that may be null has a short name where the heap type is abstract and not shared
abbrev pub reference_text : Bool → Heap UnpackedIndex → List ℕ
reference_text true (syntax.abstract_heap false a) = reference_name a
reference_text true (syntax.abstract_heap true a) = braced (codes "(ref null ") (heap_text (syntax.abstract_heap true a))
reference_text true (syntax.concrete i) = braced (codes "(ref null ") (heap_text (syntax.concrete i))
reference_text true (syntax.exact i) = braced (codes "(ref null ") (heap_text (syntax.exact i))
reference_text false h = braced (codes "(ref ") (heap_text h)

abbrev pub val_text : Val UnpackedIndex → List ℕ
val_text syntax.i32 = codes "i32"
val_text syntax.i64 = codes "i64"
val_text syntax.f32 = codes "f32"
val_text syntax.f64 = codes "f64"
val_text syntax.v128 = codes "v128"
val_text (syntax.reference r) = reference_text r.nullable r.heap
