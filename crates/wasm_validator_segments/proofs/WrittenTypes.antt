-- The types of globals and of items name type indices of the module, as they are read.
use Rattle.std.proofs.Common.{◌≡◌, ◌∙◌, refl, sym, subst, ℕ, Bool, true, false, ◌==◌, if◌then◌else◌, List, Option, Some, None}
use Rattle.std.specs.Bool.{⊤}
use Rattle.std.specs.Option.{option_map}
use Rattle.wasm_spec.specs.Syntax.{Heap, Ref, Val, Global, abstract_heap, concrete, exact, reference, i32, i64, f32, f64, v128, map_heap, map_ref, map_val, map_global}
use Rattle.wasm_spec.specs.Values.{byte_at}
use Rattle.wasm_spec.specs.BinaryTypes.{abstract_heap_from, abstract_heap_at, ref_at, global_at}
use Rattle.wasm_spec.specs.BinarySections.{funcref}
use Rattle.wasm_spec.proofs.Renaming.{Renames, renames_if, renames_map, renames_same_map, renames_same_then, heap-renames, global-renames}
use Rattle.wasm_readers.specs.WrittenIndices.{written}
use Rattle.wasm_readers_types.specs.WasmReadersValues.declared.indices.UnpackedIndex.{UnpackedIndex}
use Rattle.wasm_validator_resources.specs.Answers.{IsWrittenHeap, IsWrittenVal}
use Rattle.wasm_items.specs.ItemExpressions.{written_type_at}

heap_written : (h : Heap ℕ) → IsWrittenHeap (map_heap written h)
heap_written (abstract_heap s a) = tt
heap_written (concrete n) = tt
heap_written (exact n) = tt

val_written : (v : Val ℕ) → IsWrittenVal (map_val written v)
val_written i32 = tt
val_written i64 = tt
val_written f32 = tt
val_written f64 = tt
val_written v128 = tt
val_written (reference r) = heap_written r.heap

-- reference types
abbrev holds_reference : Option (Ref UnpackedIndex × List ℕ) → Type 0
holds_reference None = ⊤
holds_reference (Some x) = IsWrittenHeap x.0.heap

reference_by : (o : Option (Ref ℕ × List ℕ)) → holds_reference (option_map {U = Ref UnpackedIndex × List ℕ} (λ x. (map_ref written x.0, x.1)) o)
reference_by None = tt
reference_by (Some x) = heap_written x.0.heap

ref-renames : (bytes : List ℕ) → Renames (map_ref written) (ref_at (λ n. n) bytes) (ref_at written bytes)
unfolding ref_at
ref-renames bytes =
    renames_same_then (byte_at bytes) _ _ (λ b.
    renames_if (b.0 == 0x63) (renames_map _ _ (heap-renames written (λ n. n) b.1) (λ h. refl))
    (renames_if (b.0 == 0x64) (renames_map _ _ (heap-renames written (λ n. n) b.1) (λ h. refl))
    (renames_if (b.0 == 0x65) (renames_same_map (abstract_heap_at b.1) _ _ (λ a. refl))
    (renames_same_map (abstract_heap_from b.0) _ _ (λ a. refl)))))

reference_written : (bytes more : List ℕ) (r : Ref UnpackedIndex) → ref_at written bytes ≡ Some (r, more) → IsWrittenHeap r.heap
reference_written bytes more r e = subst holds_reference (sym (ref-renames bytes).is ∙ e) (reference_by (ref_at (λ n. n) bytes))

abbrev read_as : Bool → List ℕ → Option (Ref UnpackedIndex × List ℕ)
read_as b bytes = if b then Some (funcref, bytes) else ref_at written bytes

type_written_by : (b : Bool) (bytes more : List ℕ) (r : Ref UnpackedIndex) → read_as b bytes ≡ Some (r, more) → IsWrittenHeap r.heap
type_written_by true bytes more r e = subst holds_reference e tt
type_written_by false bytes more r e = reference_written bytes more r e

pub type_written : (flag : ℕ) (bytes more : List ℕ) (r : Ref UnpackedIndex) → written_type_at flag bytes ≡ Some (r, more) → IsWrittenHeap r.heap
type_written flag bytes more r e = type_written_by (flag == 4) bytes more r e

-- globals
abbrev holds_written : Option (Global UnpackedIndex × List ℕ) → Type 0
holds_written None = ⊤
holds_written (Some x) = IsWrittenVal x.0.content

written_by : (o : Option (Global ℕ × List ℕ)) → holds_written (option_map {U = Global UnpackedIndex × List ℕ} (λ x. (map_global written x.0, x.1)) o)
written_by None = tt
written_by (Some x) = val_written x.0.content

pub global_written : (bytes more : List ℕ) (g : Global UnpackedIndex) → global_at written bytes ≡ Some (g, more) → IsWrittenVal g.content
global_written bytes more g e = subst holds_written (sym (global-renames written (λ n. n) bytes).is ∙ e) (written_by (global_at (λ n. n) bytes))
