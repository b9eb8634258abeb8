-- Value types as numbers. The remainder by 8 tells what a number stands for, the quotient which one it is:
-- 0 numbers and vectors; 1 to 4 references, where the quotient's remainder by 2 says whether they may be null, and what is left of it
-- names an abstract heap type that isn't shared (1) or is (2), or an index that is concrete (3) or exact (4).
use Rattle.std.specs.Prelude.{ℕ, true, false, zero, suc, ◌==◌, ◌/◌, ◌%◌}
use Rattle.wasm_operators_plain.specs.WasmSpec.Syntax.{AbstractHeap, any_heap, eq_heap, i31_heap, struct_heap, array_heap, none_heap, func_heap, nofunc_heap, extern_heap, noextern_heap, exn_heap, noexn_heap, cont_heap, nocont_heap, Heap, abstract_heap, concrete, exact, Ref, Val, i32, i64, f32, f64, v128, reference}
use Rattle.wasm_operators_plain.specs.WasmReadersTypes.WasmReadersValues.Indices.{number_of}
use Rattle.wasm_operators_plain.specs.WasmReadersTypes.WasmReadersValues.declared.indices.UnpackedIndex.{UnpackedIndex}
use Rattle.wasm_operators_plain.specs.WasmReadersTypes.WasmReadersValues.declared.indices.UnpackedIndex.TheVariants.{Module, RecGroup, Id}

abbrev pub number_at : ℕ → Val UnpackedIndex
number_at zero = i32
number_at (suc zero) = i64
number_at (suc (suc zero)) = f32
number_at (suc (suc (suc zero))) = f64
number_at (suc (suc (suc (suc n)))) = v128

abbrev pub abstract_at : ℕ → AbstractHeap
abstract_at zero = any_heap
abstract_at (suc zero) = eq_heap
abstract_at (suc (suc zero)) = i31_heap
abstract_at (suc (suc (suc zero))) = struct_heap
abstract_at (suc (suc (suc (suc zero)))) = array_heap
abstract_at (suc (suc (suc (suc (suc zero))))) = none_heap
abstract_at (suc (suc (suc (suc (suc (suc zero)))))) = func_heap
abstract_at (suc (suc (suc (suc (suc (suc (suc zero))))))) = nofunc_heap
abstract_at (suc (suc (suc (suc (suc (suc (suc (suc zero)))))))) = extern_heap
abstract_at (suc (suc (suc (suc (suc (suc (suc (suc (suc zero))))))))) = noextern_heap
abstract_at (suc (suc (suc (suc (suc (suc (suc (suc (suc (suc zero)))))))))) = exn_heap
abstract_at (suc (suc (suc (suc (suc (suc (suc (suc (suc (suc (suc zero))))))))))) = noexn_heap
abstract_at (suc (suc (suc (suc (suc (suc (suc (suc (suc (suc (suc (suc zero)))))))))))) = cont_heap
abstract_at (suc (suc (suc (suc (suc (suc (suc (suc (suc (suc (suc (suc (suc n))))))))))))) = nocont_heap

-- an index, by the remainder by 4 and the quotient
abbrev pub index_from : ℕ → ℕ → UnpackedIndex
index_from zero n = Id (record { index = n })
index_from (suc zero) n = Module n
index_from (suc (suc k)) n = RecGroup n

unfoldable pub index_at : ℕ → UnpackedIndex
index_at code = index_from (code % 4) (code / 4)

abbrev pub heap_at : ℕ → ℕ → Heap UnpackedIndex
heap_at zero code = abstract_heap false (abstract_at code)
heap_at (suc zero) code = abstract_heap true (abstract_at code)
heap_at (suc (suc zero)) code = concrete (index_at code)
heap_at (suc (suc (suc k))) code = exact (index_at code)

unfoldable pub ref_at : ℕ → ℕ → Ref UnpackedIndex
ref_at k code = record { nullable = code % 2 == 1; heap = heap_at k (code / 2) }

abbrev pub val_from : ℕ → ℕ → Val UnpackedIndex
val_from zero n = number_at n
val_from (suc k) n = reference (ref_at k n)

unfoldable pub val_at : ℕ → Val UnpackedIndex
val_at bits = val_from (bits % 8) (bits / 8)

-- the number that has to be below MAX_IDS
abbrev pub heap_number : Heap UnpackedIndex → ℕ
heap_number (abstract_heap s a) = 0
heap_number (concrete i) = number_of i
heap_number (exact i) = number_of i

abbrev pub val_number : Val UnpackedIndex → ℕ
val_number (reference r) = heap_number r.heap
val_number _ = 0
