-- `==` of the types of tables, memories, globals, tags and imports decides whether they are the same.
use Rattle.std.specs.Prelude.{◌≡◌, refl}
use Rattle.std.specs.Bool.{Decides}
use Rattle.std.proofs.Common.{ap, rules}
use Rattle.std.proofs.lemmas.Bool.Decides.{Decides-eqb}
use denote.Enum.Bare.{same_true, true_same}
use Rattle.wasm_readers_values.specs.Exactness.{bool-exact, option-exact, enum_exact, and-exact, exact-as}
use Rattle.wasm_readers_values.specs.ValuesExact.{ref-exact, val-exact}
use Rattle.wasm_readers_types.specs.declared.externs.TableType.{TableType}
use Rattle.wasm_readers_types.specs.declared.externs.MemoryType.{MemoryType}
use Rattle.wasm_readers_types.specs.declared.externs.GlobalType.{GlobalType}
use Rattle.wasm_readers_types.specs.declared.externs.TagKind.{TagKind}
use Rattle.wasm_readers_types.specs.declared.externs.TagKind.TheVariants.{Exception}
use Rattle.wasm_readers_types.specs.declared.externs.TagType.{TagType}
use Rattle.wasm_readers_types.specs.declared.externs.TypeRef.{TypeRef}
use Rattle.wasm_readers_types.specs.declared.externs.ExternalKind.{ExternalKind}
use Rattle.wasm_readers_types.specs.contracts.externs.TypeRef as extern_kinds
use Rattle.wasm_readers_types.specs.contracts.externs.ExternalKind as external_kind_kinds
use Rattle.wasm_readers_types.specs.contracts.externs.TableTypePartialEq.TheImpl as table_eq
use Rattle.wasm_readers_types.specs.contracts.externs.MemoryTypePartialEq.TheImpl as memory_eq
use Rattle.wasm_readers_types.specs.contracts.externs.GlobalTypePartialEq.TheImpl as global_eq
use Rattle.wasm_readers_types.specs.contracts.externs.TagKindPartialEq.TheImpl as tag_kind_eq
use Rattle.wasm_readers_types.specs.contracts.externs.TagTypePartialEq.TheImpl as tag_eq
use Rattle.wasm_readers_types.specs.contracts.externs.TypeRefPartialEq.TheImpl as extern_eq
use Rattle.wasm_readers_types.specs.contracts.externs.ExternalKindPartialEq.TheImpl as external_kind_eq

pub table-exact : (x y : TableType) → Decides (table_eq.ghosts.eq x y) (x ≡ y)
table-exact x y =
    exact-as
    (and-exact (ref-exact x.element_type y.element_type) (and-exact (bool-exact x.table64 y.table64) (and-exact (Decides-eqb x.initial y.initial) (and-exact (option-exact Decides-eqb x.maximum y.maximum) (bool-exact x.shared y.shared)))))
    (λ e i. record { element_type = e.0 i; table64 = e.1.0 i; initial = e.1.1.0 i; maximum = e.1.1.1.0 i; shared = e.1.1.1.1 i })
    (λ e. (ap (λ r. r.element_type) e, (ap (λ r. r.table64) e, (ap (λ r. r.initial) e, (ap (λ r. r.maximum) e, ap (λ r. r.shared) e)))))

pub memory-exact : (x y : MemoryType) → Decides (memory_eq.ghosts.eq x y) (x ≡ y)
memory-exact x y =
    exact-as
    (and-exact (bool-exact x.memory64 y.memory64) (and-exact (bool-exact x.shared y.shared) (and-exact (Decides-eqb x.initial y.initial) (and-exact (option-exact Decides-eqb x.maximum y.maximum) (option-exact Decides-eqb x.page_size_log2 y.page_size_log2)))))
    (λ e i. record { memory64 = e.0 i; shared = e.1.0 i; initial = e.1.1.0 i; maximum = e.1.1.1.0 i; page_size_log2 = e.1.1.1.1 i })
    (λ e. (ap (λ r. r.memory64) e, (ap (λ r. r.shared) e, (ap (λ r. r.initial) e, (ap (λ r. r.maximum) e, ap (λ r. r.page_size_log2) e)))))

pub global-exact : (x y : GlobalType) → Decides (global_eq.ghosts.eq x y) (x ≡ y)
global-exact x y =
    exact-as
    (and-exact (val-exact x.content_type y.content_type) (and-exact (bool-exact x.mutable y.mutable) (bool-exact x.shared y.shared)))
    (λ e i. record { content_type = e.0 i; mutable = e.1.0 i; shared = e.1.1 i })
    (λ e. (ap (λ r. r.content_type) e, (ap (λ r. r.mutable) e, ap (λ r. r.shared) e)))

pub tag_kind-exact : (x y : TagKind) → Decides (tag_kind_eq.ghosts.eq x y) (x ≡ y)
tag_kind-exact Exception Exception = (λ _. refl, λ _. refl)

pub tag-exact : (x y : TagType) → Decides (tag_eq.ghosts.eq x y) (x ≡ y)
tag-exact x y =
    exact-as
    (and-exact (tag_kind-exact x.kind y.kind) (Decides-eqb x.func_type_idx y.func_type_idx))
    (λ e i. record { kind = e.0 i; func_type_idx = e.1 i })
    (λ e. (ap (λ r. r.kind) e, ap (λ r. r.func_type_idx) e))

pub extern-exact : (x y : TypeRef) → Decides (extern_eq.ghosts.eq x y) (x ≡ y)
extern-exact = enum_exact extern_kinds.the_parts extern_kinds.as_values extern_kinds.the_make extern_kinds.the_eta _ (
  (λ x y. exact-as (Decides-eqb x.0 y.0) (λ e i. (e i, tt)) (ap (λ v. v.0))),
  (
    (λ x y. exact-as (Decides-eqb x.0 y.0) (λ e i. (e i, tt)) (ap (λ v. v.0))),
    (
      (λ x y. exact-as (table-exact x.0 y.0) (λ e i. (e i, tt)) (ap (λ v. v.0))),
      (
        (λ x y. exact-as (memory-exact x.0 y.0) (λ e i. (e i, tt)) (ap (λ v. v.0))),
        (
          (λ x y. exact-as (global-exact x.0 y.0) (λ e i. (e i, tt)) (ap (λ v. v.0))),
          (
            (λ x y. exact-as (tag-exact x.0 y.0) (λ e i. (e i, tt)) (ap (λ v. v.0))),
            tt,
          ),
        ),
      ),
    ),
  ),
)

pub external_kind-exact : (x y : ExternalKind) → Decides (external_kind_eq.ghosts.eq x y) (x ≡ y)
external_kind-exact x y = (same_true external_kind_kinds.the_type (search rules) x y, true_same external_kind_kinds.the_type x y)
