-- A declaration that is read names a type of the module, and is the declaration that the definitions read.
use Rattle.std.proofs.Common.{◌≡◌, sym, ap, subst, ◌∙◌, ℕ, List, Option, Some, None}
use Rattle.std.specs.Option.{option_map, option_and_then}
use Rattle.wasm_spec.specs.Syntax.{Heap, Val, abstract_heap, concrete, exact, reference, i32, i64, f32, f64, v128, map_heap, map_val}
use Rattle.wasm_spec.specs.Values.{u32_at}
use Rattle.wasm_spec.specs.BinaryTypes.{val_at}
use Rattle.wasm_spec.proofs.LawSet.{val_renames}
use Rattle.wasm_readers.specs.WrittenIndices.{written}
use Rattle.wasm_readers_types.specs.WasmReadersValues.declared.indices.UnpackedIndex.{UnpackedIndex}
use Rattle.wasm_validator_resources.specs.Answers.{written_index, IsWrittenHeap, IsWrittenVal}
use Rattle.wasm_spec_steps.specs.FunctionBodies.{Declaration, declaration_at}

heap_written : (h : Heap ℕ) → IsWrittenHeap (map_heap written h)
heap_written (abstract_heap s a) = tt
heap_written (concrete n) = tt
heap_written (exact n) = tt

val_written : (v : Val ℕ) → IsWrittenVal (map_val written v)
val_written i32 = tt
val_written i64 = tt
val_written f32 = tt
val_written f64 = tt
val_written v128 = tt
val_written (reference r) = heap_written r.heap

abbrev as_written : Val ℕ × List ℕ → Val UnpackedIndex × List ℕ
as_written x = (map_val written x.0, x.1)

abbrev by_numbers : Val UnpackedIndex × List ℕ → Val ℕ × List ℕ
by_numbers x = (map_val written_index x.0, x.1)

abbrev item_or : Val UnpackedIndex → Option (Val UnpackedIndex × List ℕ) → Val UnpackedIndex
item_or v None = v
item_or v (Some x) = x.0

read_written : (o : Option (Val ℕ × List ℕ)) (v : Val UnpackedIndex) (more : List ℕ) → option_map as_written o ≡ Some (v, more) → IsWrittenVal v
read_written None v more e = absurd cc
read_written (Some x) v more e = let same : map_val written x.0 ≡ v = ap (item_or (map_val written x.0)) e in subst IsWrittenVal same (val_written x.0)

-- the type that is read
pub is_written : (bytes : List ℕ) (v : Val UnpackedIndex) (more : List ℕ) → val_at written bytes ≡ Some (v, more) → IsWrittenVal v
is_written bytes v more e = read_written (val_at (λ n. n) bytes) v more (sym (val_renames written (λ n. n) bytes) ∙ e)

abbrev behind_count : ℕ × List ℕ → Option (Declaration × List ℕ)
behind_count n = option_map (λ v. (record { count = n.0; content = v.0 }, v.1)) (val_at (λ i. i) n.1)

abbrev with_count : ℕ → Val ℕ × List ℕ → Declaration × List ℕ
with_count n v = (record { count = n; content = v.0 }, v.1)

pub declaration_read : (bytes middle more : List ℕ) (n : ℕ) (v : Val UnpackedIndex) → u32_at bytes ≡ Some (n, middle) → val_at written middle ≡ Some (v, more)
    → declaration_at bytes ≡ Some (record { count = n; content = map_val written_index v }, more)
unfolding declaration_at
declaration_read bytes middle more n v e f =
    ap (option_and_then behind_count) e ∙ ap (option_map (with_count n)) (val_renames written_index written middle ∙ ap (option_map by_numbers) f)

pub no_count : (bytes : List ℕ) → u32_at bytes ≡ None → declaration_at bytes ≡ None
unfolding declaration_at
no_count bytes e = ap (option_and_then behind_count) e

pub no_type : (bytes middle : List ℕ) (n : ℕ) → u32_at bytes ≡ Some (n, middle) → val_at written middle ≡ None → declaration_at bytes ≡ None
unfolding declaration_at
no_type bytes middle n e f =
    ap (option_and_then behind_count) e ∙ ap (option_map (with_count n)) (val_renames written_index written middle ∙ ap (option_map by_numbers) f)

pub ruleset declarations = (is_written, declaration_read, no_count, no_type)
