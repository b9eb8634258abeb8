-- Which value types the features allow. Core Specification 3.0, Validation, Types, and the proposals by which each
-- type came.
use Rattle.std.specs.Prelude.{Bool, true, false, not, ◌&&◌, ◌||◌}
use Rattle.wasm_spec.specs.Syntax.{AbstractHeap, any_heap, eq_heap, i31_heap, struct_heap, array_heap, none_heap, func_heap, nofunc_heap, extern_heap, noextern_heap, exn_heap, noexn_heap, cont_heap, nocont_heap, Heap, abstract_heap, concrete, exact, Ref, Val, i32, i64, f32, f64, v128, reference, Storage, i8, i16, unpacked}
use Rattle.wasm_spec.specs.Features.{Features}

-- whether the second holds where the first does
abbrev pub implies : Bool → Bool → Bool
implies a b = not a || b

-- what each abstract heap type needs, where it may be null and where it may not
abbrev pub abstract_needs : Features → Bool → AbstractHeap → Bool
abstract_needs F nullable func_heap = nullable || F.function_references
abstract_needs F nullable extern_heap = nullable || F.function_references
abstract_needs F nullable exn_heap = F.exceptions
abstract_needs F nullable noexn_heap = F.exceptions
abstract_needs F nullable cont_heap = F.stack_switching
abstract_needs F nullable nocont_heap = F.stack_switching
abstract_needs F nullable any_heap = F.gc
abstract_needs F nullable none_heap = F.gc
abstract_needs F nullable eq_heap = F.gc
abstract_needs F nullable struct_heap = F.gc
abstract_needs F nullable array_heap = F.gc
abstract_needs F nullable i31_heap = F.gc
abstract_needs F nullable noextern_heap = F.gc
abstract_needs F nullable nofunc_heap = F.gc

-- abstract heap types that need no garbage collected types
abbrev pub is_without_gc_types : AbstractHeap → Bool
is_without_gc_types func_heap = true
is_without_gc_types exn_heap = true
is_without_gc_types _ = false

abbrev pub allows_heap : {R : Type 0} → Features → Bool → Heap R → Bool
allows_heap F nullable (concrete r) = F.gc || F.function_references
allows_heap F nullable (exact r) = F.custom_descriptors
allows_heap F nullable (abstract_heap shared a) =
    implies shared F.shared_everything_threads && implies (not (is_without_gc_types a)) F.gc_types && abstract_needs F nullable a

abbrev pub allows_ref : {R : Type 0} → Features → Ref R → Bool
allows_ref F r = F.reference_types && allows_heap F r.nullable r.heap

abbrev pub allows_val : {R : Type 0} → Features → Val R → Bool
allows_val F i32 = true
allows_val F i64 = true
allows_val F f32 = F.floats
allows_val F f64 = F.floats
allows_val F v128 = F.simd
allows_val F (reference r) = allows_ref F r

abbrev pub allows_storage : {R : Type 0} → Features → Storage R → Bool
allows_storage F i8 = true
allows_storage F i16 = true
allows_storage F (unpacked v) = allows_val F v
