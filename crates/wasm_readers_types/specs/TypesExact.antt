-- `==` of defined types decides whether they are the same, whatever their allocator.
use Rattle.std.specs.Prelude.{◌≡◌, ◌&&◌, Bool, false, Option}
use Rattle.std.specs.Bool.{Decides}
use Rattle.std.specs.Cmp.Lexicographic.{pointwise}
use Rattle.std.specs.Option.{option_eq}
use mathlib.Core.Bool.{beq}
use Rattle.std.proofs.Common.{ap}
use Rattle.wasm_readers_values.specs.Exactness.{bool-exact, option-exact, list-exact, and-exact, exact-as}
use Rattle.wasm_readers_values.specs.IndicesExact.{packed-exact}
use Rattle.wasm_readers_values.specs.ValuesExact.{val-exact, field-exact}
use Rattle.wasm_readers_values.specs.declared.indices.PackedIndex.{PackedIndex}
use Rattle.wasm_readers_types.specs.declared.types.FuncType.{FuncType}
use Rattle.wasm_readers_types.specs.declared.types.ArrayType.{ArrayType}
use Rattle.wasm_readers_types.specs.declared.types.StructType.{StructType}
use Rattle.wasm_readers_types.specs.declared.types.ContType.{ContType}
use Rattle.wasm_readers_types.specs.declared.types.CompositeInnerType.{CompositeInnerType}
use Rattle.wasm_readers_types.specs.declared.types.CompositeInnerType.TheVariants.{Func, Array, Struct, Cont}
use Rattle.wasm_readers_types.specs.declared.types.CompositeType.{CompositeType}
use Rattle.wasm_readers_types.specs.declared.types.SubType.{SubType}
use Rattle.wasm_readers_types.specs.declared.types.RecGroup.{RecGroup}
use Rattle.wasm_readers_values.specs.contracts.indices.PackedIndexPartialEq.TheImpl as packed_eq
use Rattle.wasm_readers_values.specs.contracts.values.ValTypePartialEq.TheImpl as val_eq
use Rattle.wasm_readers_values.specs.contracts.values.FieldTypePartialEq.TheImpl as field_eq
use Rattle.wasm_readers_types.specs.contracts.types.ArrayTypePartialEq.TheImpl as array_eq
use Rattle.wasm_readers_types.specs.contracts.types.ContTypePartialEq.TheImpl as cont_eq

-- what `==` computes at function types and structure types
abbrev pub func_equal : {A : Type 0} → FuncType A → FuncType A → Bool
func_equal x y = pointwise val_eq.ghosts.eq x.params y.params && pointwise val_eq.ghosts.eq x.results y.results

abbrev pub struct_equal : {A : Type 0} → StructType A → StructType A → Bool
struct_equal x y = pointwise field_eq.ghosts.eq x.fields y.fields

pub func-exact : {A : Type 0} (x y : FuncType A) → Decides (func_equal x y) (x ≡ y)
func-exact x y = exact-as (and-exact (list-exact val-exact x.params y.params) (list-exact val-exact x.results y.results)) (λ e i. record { params = e.0 i; results = e.1 i }) (λ e. (ap (λ r. r.params) e, ap (λ r. r.results) e))

pub array-exact : (x y : ArrayType) → Decides (array_eq.ghosts.eq x y) (x ≡ y)
array-exact x y = exact-as (field-exact x.0 y.0) (λ e i. record { 0 = e i }) (ap (λ r. r.0))

pub struct-exact : {A : Type 0} (x y : StructType A) → Decides (struct_equal x y) (x ≡ y)
struct-exact x y = exact-as (list-exact field-exact x.fields y.fields) (λ e i. record { fields = e i }) (λ e. ap (λ r. r.fields) e)

pub cont-exact : (x y : ContType) → Decides (cont_eq.ghosts.eq x y) (x ≡ y)
cont-exact x y = exact-as (packed-exact x.0 y.0) (λ e i. record { 0 = e i }) (ap (λ r. r.0))

-- what `==` computes at composite types: it is written by hand, so that it has this name whatever the allocator
abbrev pub inner_equal : {A : Type 0} → CompositeInnerType A → CompositeInnerType A → Bool
inner_equal (Func x) (Func y) = func_equal x y
inner_equal (Array x) (Array y) = array_eq.ghosts.eq x y
inner_equal (Struct x) (Struct y) = struct_equal x y
inner_equal (Cont x) (Cont y) = cont_eq.ghosts.eq x y
inner_equal _ _ = false

pub inner-exact : {A : Type 0} (x y : CompositeInnerType A) → Decides (inner_equal x y) (x ≡ y)
inner-exact (Func x) (Func y) = (λ e. ap Func ((func-exact x y).0 e), λ e. (func-exact x y).1 cc)
inner-exact (Func x) (Array y) = (λ e. cc, λ e. cc)
inner-exact (Func x) (Struct y) = (λ e. cc, λ e. cc)
inner-exact (Func x) (Cont y) = (λ e. cc, λ e. cc)
inner-exact (Array x) (Func y) = (λ e. cc, λ e. cc)
inner-exact (Array x) (Array y) = (λ e. ap Array ((array-exact x y).0 e), λ e. (array-exact x y).1 cc)
inner-exact (Array x) (Struct y) = (λ e. cc, λ e. cc)
inner-exact (Array x) (Cont y) = (λ e. cc, λ e. cc)
inner-exact (Struct x) (Func y) = (λ e. cc, λ e. cc)
inner-exact (Struct x) (Array y) = (λ e. cc, λ e. cc)
inner-exact (Struct x) (Struct y) = (λ e. ap Struct ((struct-exact x y).0 e), λ e. (struct-exact x y).1 cc)
inner-exact (Struct x) (Cont y) = (λ e. cc, λ e. cc)
inner-exact (Cont x) (Func y) = (λ e. cc, λ e. cc)
inner-exact (Cont x) (Array y) = (λ e. cc, λ e. cc)
inner-exact (Cont x) (Struct y) = (λ e. cc, λ e. cc)
inner-exact (Cont x) (Cont y) = (λ e. ap Cont ((cont-exact x y).0 e), λ e. (cont-exact x y).1 cc)

-- what `==` computes at an optional index
abbrev pub index_equal : Option PackedIndex → Option PackedIndex → Bool
index_equal x y = option_eq packed_eq.ghosts.eq x y

abbrev pub composite_equal : {A : Type 0} → CompositeType A → CompositeType A → Bool
composite_equal x y = inner_equal x.inner y.inner && (beq x.shared y.shared && (index_equal x.descriptor_idx y.descriptor_idx && index_equal x.describes_idx y.describes_idx))

pub composite-exact : {A : Type 0} (x y : CompositeType A) → Decides (composite_equal x y) (x ≡ y)
composite-exact x y =
    exact-as
    (and-exact (inner-exact x.inner y.inner)
    (and-exact (bool-exact x.shared y.shared)
    (and-exact (option-exact packed-exact x.descriptor_idx y.descriptor_idx) (option-exact packed-exact x.describes_idx y.describes_idx))))
    (λ e i. record { inner = e.0 i; shared = e.1.0 i; descriptor_idx = e.1.1.0 i; describes_idx = e.1.1.1 i })
    (λ e. (ap (λ r. r.inner) e, (ap (λ r. r.shared) e, (ap (λ r. r.descriptor_idx) e, ap (λ r. r.describes_idx) e))))

abbrev pub sub_equal : {A : Type 0} → SubType A → SubType A → Bool
sub_equal x y = beq x.is_final y.is_final && (pointwise packed_eq.ghosts.eq x.supertype_idxs y.supertype_idxs && composite_equal x.composite_type y.composite_type)

pub sub-exact : {A : Type 0} (x y : SubType A) → Decides (sub_equal x y) (x ≡ y)
sub-exact x y =
    exact-as
    (and-exact (bool-exact x.is_final y.is_final)
    (and-exact (list-exact packed-exact x.supertype_idxs y.supertype_idxs) (composite-exact x.composite_type y.composite_type)))
    (λ e i. record { is_final = e.0 i; supertype_idxs = e.1.0 i; composite_type = e.1.1 i })
    (λ e. (ap (λ r. r.is_final) e, (ap (λ r. r.supertype_idxs) e, ap (λ r. r.composite_type) e)))

-- `==` of two groups reads their sub types
abbrev pub group_equal : {A : Type 0} → RecGroup A → RecGroup A → Bool
group_equal x y = pointwise sub_equal x.types y.types

pub group-exact : {A : Type 0} (x y : RecGroup A) → Decides (group_equal x y) (x.types ≡ y.types)
group-exact x y = list-exact sub-exact x.types y.types
