-- `==` of value types decides whether they are the same.
use Rattle.std.specs.Prelude.{◌≡◌, refl}
use Rattle.std.specs.Bool.{Decides}
use Rattle.std.proofs.Common.{ap, rules}
use denote.Enum.Bare.{same_true, true_same}
use Rattle.wasm_readers_values.specs.Exactness.{bool-exact, enum_exact, and-exact, exact-as}
use Rattle.wasm_readers_values.specs.IndicesExact.{packed-exact, unpacked-exact}
use Rattle.wasm_readers_values.specs.declared.values.AbstractHeapType.{AbstractHeapType}
use Rattle.wasm_readers_values.specs.declared.values.HeapType.{HeapType}
use Rattle.wasm_readers_values.specs.declared.values.PackedHeap.{PackedHeap}
use Rattle.wasm_readers_values.specs.declared.values.RefType.{RefType}
use Rattle.wasm_readers_values.specs.declared.values.ValType.{ValType}
use Rattle.wasm_readers_values.specs.declared.values.StorageType.{StorageType}
use Rattle.wasm_readers_values.specs.declared.values.FieldType.{FieldType}
use Rattle.wasm_readers_values.specs.contracts.values.AbstractHeapType as abstract
use Rattle.wasm_readers_values.specs.contracts.values.HeapType as heap
use Rattle.wasm_readers_values.specs.contracts.values.PackedHeap as packed
use Rattle.wasm_readers_values.specs.contracts.values.ValType as val
use Rattle.wasm_readers_values.specs.contracts.values.StorageType as storage
use Rattle.wasm_readers_values.specs.contracts.values.AbstractHeapTypePartialEq.TheImpl as abstract_eq
use Rattle.wasm_readers_values.specs.contracts.values.HeapTypePartialEq.TheImpl as heap_eq
use Rattle.wasm_readers_values.specs.contracts.values.PackedHeapPartialEq.TheImpl as packed_eq
use Rattle.wasm_readers_values.specs.contracts.values.RefTypePartialEq.TheImpl as ref_eq
use Rattle.wasm_readers_values.specs.contracts.values.ValTypePartialEq.TheImpl as val_eq
use Rattle.wasm_readers_values.specs.contracts.values.StorageTypePartialEq.TheImpl as storage_eq
use Rattle.wasm_readers_values.specs.contracts.values.FieldTypePartialEq.TheImpl as field_eq

pub abstract-exact : (x y : AbstractHeapType) → Decides (abstract_eq.ghosts.eq x y) (x ≡ y)
abstract-exact x y = (same_true abstract.the_type (search rules) x y, true_same abstract.the_type x y)

pub heap-exact : (x y : HeapType) → Decides (heap_eq.ghosts.eq x y) (x ≡ y)
heap-exact = enum_exact heap.the_parts heap.as_values heap.the_make heap.the_eta _ (
  (λ x y. exact-as (and-exact (bool-exact x.0 y.0) (abstract-exact x.1.0 y.1.0)) (λ e i. (e.0 i, (e.1 i, tt))) (λ e. (ap (λ v. v.0) e, ap (λ v. v.1.0) e))),
  (
    (λ x y. exact-as (unpacked-exact x.0 y.0) (λ e i. (e i, tt)) (ap (λ v. v.0))),
    (
      (λ x y. exact-as (unpacked-exact x.0 y.0) (λ e i. (e i, tt)) (ap (λ v. v.0))),
      tt,
    ),
  ),
)

pub packed_heap-exact : (x y : PackedHeap) → Decides (packed_eq.ghosts.eq x y) (x ≡ y)
packed_heap-exact = enum_exact packed.the_parts packed.as_values packed.the_make packed.the_eta _ (
  (λ x y. exact-as (and-exact (bool-exact x.0 y.0) (abstract-exact x.1.0 y.1.0)) (λ e i. (e.0 i, (e.1 i, tt))) (λ e. (ap (λ v. v.0) e, ap (λ v. v.1.0) e))),
  (
    (λ x y. exact-as (packed-exact x.0 y.0) (λ e i. (e i, tt)) (ap (λ v. v.0))),
    (
      (λ x y. exact-as (packed-exact x.0 y.0) (λ e i. (e i, tt)) (ap (λ v. v.0))),
      tt,
    ),
  ),
)

pub ref-exact : (x y : RefType) → Decides (ref_eq.ghosts.eq x y) (x ≡ y)
ref-exact x y = exact-as (and-exact (bool-exact x.nullable y.nullable) (packed_heap-exact x.heap y.heap)) (λ e i. record { nullable = e.0 i; heap = e.1 i }) (λ e. (ap (λ r. r.nullable) e, ap (λ r. r.heap) e))

pub val-exact : (x y : ValType) → Decides (val_eq.ghosts.eq x y) (x ≡ y)
val-exact = enum_exact val.the_parts val.as_values val.the_make val.the_eta _ (
  (λ x y. (λ _. refl, λ _. refl)),
  (
    (λ x y. (λ _. refl, λ _. refl)),
    (
      (λ x y. (λ _. refl, λ _. refl)),
      (
        (λ x y. (λ _. refl, λ _. refl)),
        (
          (λ x y. (λ _. refl, λ _. refl)),
          (
            (λ x y. exact-as (ref-exact x.0 y.0) (λ e i. (e i, tt)) (ap (λ v. v.0))),
            tt,
          ),
        ),
      ),
    ),
  ),
)

pub storage-exact : (x y : StorageType) → Decides (storage_eq.ghosts.eq x y) (x ≡ y)
storage-exact = enum_exact storage.the_parts storage.as_values storage.the_make storage.the_eta _ (
  (λ x y. (λ _. refl, λ _. refl)),
  (
    (λ x y. (λ _. refl, λ _. refl)),
    (
      (λ x y. exact-as (val-exact x.0 y.0) (λ e i. (e i, tt)) (ap (λ v. v.0))),
      tt,
    ),
  ),
)

pub field-exact : (x y : FieldType) → Decides (field_eq.ghosts.eq x y) (x ≡ y)
field-exact x y = exact-as (and-exact (storage-exact x.element_type y.element_type) (bool-exact x.mutable y.mutable)) (λ e i. record { element_type = e.0 i; mutable = e.1 i }) (λ e. (ap (λ r. r.element_type) e, ap (λ r. r.mutable) e))
