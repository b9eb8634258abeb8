-- Value types that say the same in the abstract syntax are the same: what each function of SeenValues forgets is nothing.
use Rattle.std.specs.Prelude.{◌≡◌, List, [], ◌∷◌, map, refl}
use Rattle.std.specs.Prelude.{ℕ, ◌/◌, ◌%◌, ◌<◌}
use Rattle.std.proofs.Common.{ap, sym, ◌∙◌, lit<, arith}
use Rattle.wasm_readers_values.specs.Indices.{number_of, number_in, AreBytes}
use Rattle.wasm_readers_values.specs.IndicesExact.{Bytes, key_of, index_by, packed_by, packed-same}
use Rattle.wasm_readers_values.specs.declared.indices.TheConstants.{MAX_IDS}
use Rattle.wasm_readers_values.specs.declared.indices.IndexForm.{IndexForm}
use Rattle.wasm_readers_values.specs.declared.indices.IndexForm.TheVariants as form
use Rattle.wasm_readers_values.specs.declared.indices.PackedIndex.{PackedIndex}
use Rattle.wasm_readers_values.specs.declared.indices.UnpackedIndex.TheVariants.{Module, RecGroup, Id}
use Rattle.wasm_spec.specs.Syntax as syntax
use Rattle.wasm_spec.specs.Syntax.{AbstractHeap, Heap, Ref, Val, Storage, Field}
use Rattle.wasm_readers_values.specs.SeenValues.{index_of, abstract_heap_of, packed_heap_of, ref_of, val_of, storage_of, field_of}
use Rattle.wasm_readers_values.specs.declared.indices.UnpackedIndex.{UnpackedIndex}
use Rattle.wasm_readers_values.specs.declared.values.AbstractHeapType.{AbstractHeapType}
use Rattle.wasm_readers_values.specs.declared.values.AbstractHeapType.TheVariants as abstract
use Rattle.wasm_readers_values.specs.declared.values.PackedHeap.{PackedHeap}
use Rattle.wasm_readers_values.specs.declared.values.PackedHeap.TheVariants as packed
use Rattle.wasm_readers_values.specs.declared.values.RefType.{RefType}
use Rattle.wasm_readers_values.specs.declared.values.ValType.{ValType}
use Rattle.wasm_readers_values.specs.declared.values.ValType.TheVariants as val
use Rattle.wasm_readers_values.specs.declared.values.StorageType.{StorageType}
use Rattle.wasm_readers_values.specs.declared.values.StorageType.TheVariants as storage
use Rattle.wasm_readers_values.specs.declared.values.FieldType.{FieldType}

-- a function that another one undoes keeps things apart
pub apart : {X Y : Type 0} (f : X → Y) (g : Y → X) → ((x : X) → g (f x) ≡ x) → (x y : X) → f x ≡ f y → x ≡ y
apart f g undone x y e = sym (undone x) ∙ ap g e ∙ undone y

pub map-undone : {X Y : Type 0} (f : X → Y) (g : Y → X) → ((x : X) → g (f x) ≡ x) → (xs : List X) → map g (map f xs) ≡ xs
map-undone f g undone [] = refl
map-undone f g undone (x ∷ xs) = λ i. undone x i ∷ map-undone f g undone xs i

abbrev abstract_back : AbstractHeap → AbstractHeapType
abstract_back syntax.func_heap = abstract.Func
abstract_back syntax.extern_heap = abstract.Extern
abstract_back syntax.any_heap = abstract.Any
abstract_back syntax.none_heap = abstract.None
abstract_back syntax.noextern_heap = abstract.NoExtern
abstract_back syntax.nofunc_heap = abstract.NoFunc
abstract_back syntax.eq_heap = abstract.Eq
abstract_back syntax.struct_heap = abstract.Struct
abstract_back syntax.array_heap = abstract.Array
abstract_back syntax.i31_heap = abstract.I31
abstract_back syntax.exn_heap = abstract.Exn
abstract_back syntax.noexn_heap = abstract.NoExn
abstract_back syntax.cont_heap = abstract.Cont
abstract_back syntax.nocont_heap = abstract.NoCont

abstract-undone : (a : AbstractHeapType) → abstract_back (abstract_heap_of a) ≡ a
abstract-undone abstract.Func = refl
abstract-undone abstract.Extern = refl
abstract-undone abstract.Any = refl
abstract-undone abstract.None = refl
abstract-undone abstract.NoExtern = refl
abstract-undone abstract.NoFunc = refl
abstract-undone abstract.Eq = refl
abstract-undone abstract.Struct = refl
abstract-undone abstract.Array = refl
abstract-undone abstract.I31 = refl
abstract-undone abstract.Exn = refl
abstract-undone abstract.NoExn = refl
abstract-undone abstract.Cont = refl
abstract-undone abstract.NoCont = refl

-- the bytes of a number, in a form
abbrev pub bytes_back : IndexForm → ℕ → Bytes
bytes_back f n = (f, (n / 16777216 % 256, (n / 65536 % 256, (n / 256 % 256, n % 256))))

pub are_bytes : (n : ℕ) → AreBytes (n / 16777216 % 256) (n / 65536 % 256) (n / 256 % 256) (n % 256)
are_bytes n = record { highest_fits = omega arith; high_fits = omega arith; low_fits = omega arith; lowest_fits = omega arith }

pub number_back : (n : ℕ) → n < 1048576 → number_in (n / 16777216 % 256) (n / 65536 % 256) (n / 256 % 256) (n % 256) < MAX_IDS
number_back n h = omega (arith, h)

-- an index that can't be packed becomes another one
abbrev pub index_back : UnpackedIndex → PackedIndex
index_back (Module n) = packed_by (bytes_back form.Module n) (are_bytes n) (lit< tt)
index_back (RecGroup n) = packed_by (bytes_back form.RecGroup (n % 1048576)) (are_bytes (n % 1048576)) (number_back (n % 1048576) (omega arith))
index_back (Id id) = packed_by (bytes_back form.Id (id.index % 1048576)) (are_bytes (id.index % 1048576)) (number_back (id.index % 1048576) (omega arith))

pub mod_small : (i : ℕ) → i < 1048576 → i % 1048576 ≡ i
mod_small i h = grind arith

pub bytes-undone : (f : IndexForm) (a b c d : ℕ) → AreBytes a b c d → bytes_back f (number_in a b c d) ≡ (f, (a, (b, (c, d))))
bytes-undone f a b c d h =
    let n = number_in a b c d in
    let w : n / 16777216 % 256 ≡ a = omega (arith, h.highest_fits, h.high_fits, h.low_fits, h.lowest_fits) in
    let x : n / 65536 % 256 ≡ b = omega (arith, h.highest_fits, h.high_fits, h.low_fits, h.lowest_fits) in
    let y : n / 256 % 256 ≡ c = omega (arith, h.highest_fits, h.high_fits, h.low_fits, h.lowest_fits) in
    let z : n % 256 ≡ d = omega (arith, h.highest_fits, h.high_fits, h.low_fits, h.lowest_fits) in
    λ i. (f, (w i, (x i, (y i, z i))))

pub small-undone : (f : IndexForm) (a b c d : ℕ) → AreBytes a b c d → number_in a b c d < 1048576 → bytes_back f (number_in a b c d % 1048576) ≡ (f, (a, (b, (c, d))))
small-undone f a b c d h l = ap (bytes_back f) (mod_small (number_in a b c d) l) ∙ bytes-undone f a b c d h

pub key-undone : (k : Bytes) (h : AreBytes k.1.0 k.1.1.0 k.1.1.1.0 k.1.1.1.1) → number_of (index_by k) < MAX_IDS → key_of (index_back (index_by k)) ≡ k
key-undone (form.Module, (a, (b, (c, d)))) h l = bytes-undone form.Module a b c d h
key-undone (form.RecGroup, (a, (b, (c, d)))) h l = small-undone form.RecGroup a b c d h l
key-undone (form.Id, (a, (b, (c, d)))) h l = small-undone form.Id a b c d h l

pub index-undone : (p : PackedIndex) → index_back (index_of p) ≡ p
index-undone p = packed-same (index_back (index_of p)) p (key-undone (key_of p) p.bytes p.fits)

abbrev heap_back : Heap UnpackedIndex → PackedHeap
heap_back (syntax.abstract_heap shared a) = packed.Abstract shared (abstract_back a)
heap_back (syntax.concrete i) = packed.Concrete (index_back i)
heap_back (syntax.exact i) = packed.Exact (index_back i)

heap-undone : (h : PackedHeap) → heap_back (packed_heap_of h) ≡ h
heap-undone (packed.Abstract shared a) = ap (packed.Abstract shared) (abstract-undone a)
heap-undone (packed.Concrete p) = ap packed.Concrete (index-undone p)
heap-undone (packed.Exact p) = ap packed.Exact (index-undone p)

abbrev ref_back : Ref UnpackedIndex → RefType
ref_back r = record { nullable = r.nullable; heap = heap_back r.heap }

ref-undone : (r : RefType) → ref_back (ref_of r) ≡ r
ref-undone r = λ i. record { nullable = r.nullable; heap = heap-undone r.heap i }

abbrev pub val_back : Val UnpackedIndex → ValType
val_back syntax.i32 = val.I32
val_back syntax.i64 = val.I64
val_back syntax.f32 = val.F32
val_back syntax.f64 = val.F64
val_back syntax.v128 = val.V128
val_back (syntax.reference r) = val.Ref (ref_back r)

pub val-undone : (v : ValType) → val_back (val_of v) ≡ v
val-undone val.I32 = refl
val-undone val.I64 = refl
val-undone val.F32 = refl
val-undone val.F64 = refl
val-undone val.V128 = refl
val-undone (val.Ref r) = ap val.Ref (ref-undone r)

abbrev storage_back : Storage UnpackedIndex → StorageType
storage_back syntax.i8 = storage.I8
storage_back syntax.i16 = storage.I16
storage_back (syntax.unpacked v) = storage.Val (val_back v)

storage-undone : (s : StorageType) → storage_back (storage_of s) ≡ s
storage-undone storage.I8 = refl
storage-undone storage.I16 = refl
storage-undone (storage.Val v) = ap storage.Val (val-undone v)

abbrev pub field_back : Field UnpackedIndex → FieldType
field_back x = record { element_type = storage_back x.storage; mutable = x.mutable }

pub field-undone : (x : FieldType) → field_back (field_of x) ≡ x
field-undone x = λ i. record { element_type = storage-undone x.element_type i; mutable = x.mutable }

pub val_of-apart : (x y : ValType) → val_of x ≡ val_of y → x ≡ y
val_of-apart = apart val_of val_back val-undone
