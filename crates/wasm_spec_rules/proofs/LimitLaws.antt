-- The limits that `crate_limits` asks for: none without it, and with it just these.
use Rattle.std.proofs.Common.{◌≡◌, refl, sym, ap, ◌∙◌, ℕ, ◌≤◌, Bool, true, false, not, ◌||◌, ◌&&◌, leb, List, [], ◌∷◌, length}
use Rattle.std.specs.Prelude.{Option}
use Rattle.std.specs.List.{list_all}
use Rattle.std.proofs.lemmas.Bool.{leb-true, le-leb}
use Rattle.std.proofs.lemmas.Bool.Decides.{Decides-and}
use Rattle.std.specs.Bool.{Decides}
use Rattle.wasm_readers_errors.specs.WasmSpec.Syntax.{AbstractHeap, any_heap, eq_heap, i31_heap, struct_heap, array_heap, none_heap, func_heap, nofunc_heap, extern_heap, noextern_heap, exn_heap, noexn_heap, cont_heap, nocont_heap, Heap, abstract_heap, concrete, exact, Val, i32, i64, f32, f64, v128, reference, Storage, i8, i16, unpacked, Comp, func, array, struct, cont, Sub}
use Rattle.wasm_readers_errors.specs.WasmSpec.Features.{Features}
use Rattle.wasm_readers_errors.specs.WasmSpec.ValueTypes.{implies, is_without_gc_types, abstract_needs, allows_heap, allows_val, allows_storage}
use Rattle.wasm_readers_errors.specs.WasmSpec.GroupRules.{TypeRules, storages}
use Rattle.wasm_readers_errors.specs.WasmSpec.CrateLimits.{most_params, most_results, most_fields, is_within, is_limited}
use Rattle.wasm_spec_rules.specs.LimitLaws.{without_limits, LimitsAreOptIn}

-- a count against a limit that isn't asked for, and that is
free : (b : Bool) (n most : ℕ) → b ≡ false → (not b || leb n most) ≡ true
free b n most e = rw e refl

asked : (b : Bool) (n most : ℕ) → b ≡ true → Decides (not b || leb n most) (n ≤ most)
asked true n most e = (leb-true n most, le-leb n most)
asked false n most e = absurd (let z : false ≡ true = e in cc)

both_free : (b c : Bool) → b ≡ true → c ≡ true → (b && c) ≡ true
both_free b c e f = rw (e, f) refl

-- proposals without the limits allow the same
abstract_same : (F : Features) (nullable : Bool) (a : AbstractHeap) → abstract_needs (without_limits F) nullable a ≡ abstract_needs F nullable a
abstract_same F nullable func_heap = refl
abstract_same F nullable extern_heap = refl
abstract_same F nullable exn_heap = refl
abstract_same F nullable noexn_heap = refl
abstract_same F nullable cont_heap = refl
abstract_same F nullable nocont_heap = refl
abstract_same F nullable any_heap = refl
abstract_same F nullable none_heap = refl
abstract_same F nullable eq_heap = refl
abstract_same F nullable struct_heap = refl
abstract_same F nullable array_heap = refl
abstract_same F nullable i31_heap = refl
abstract_same F nullable noextern_heap = refl
abstract_same F nullable nofunc_heap = refl

module _ {R : Type 0} (F : Features) where
  heap_same : (nullable : Bool) (h : Heap R) → (F.reference_types && allows_heap (without_limits F) nullable h) ≡ (F.reference_types && allows_heap F nullable h)
  heap_same nullable (concrete r) = refl
  heap_same nullable (exact r) = refl
  heap_same nullable (abstract_heap shared a) =
      ap (λ b. F.reference_types && (implies shared F.shared_everything_threads && implies (not (is_without_gc_types a)) F.gc_types && b)) (abstract_same F nullable a)

  val_same : (v : Val R) → allows_val (without_limits F) v ≡ allows_val F v
  val_same i32 = refl
  val_same i64 = refl
  val_same f32 = refl
  val_same f64 = refl
  val_same v128 = refl
  val_same (reference r) = heap_same r.nullable r.heap

  storage_same : (s : Storage R) → allows_storage (without_limits F) s ≡ allows_storage F s
  storage_same i8 = refl
  storage_same i16 = refl
  storage_same (unpacked v) = val_same v

  storages_same : (ss : List (Storage R)) → list_all (allows_storage (without_limits F)) ss ≡ list_all (allows_storage F) ss
  storages_same [] = refl
  storages_same (s ∷ ss) = λ i. storage_same s i && storages_same ss i

  any_type : F.crate_limits ≡ false → (c : Comp R) → is_limited F c ≡ true
  any_type e (func ps rs) = both_free _ _ (free F.crate_limits (length ps) most_params e) (free F.crate_limits (length rs) most_results e)
  any_type e (array x) = refl
  any_type e (struct xs) = free F.crate_limits (length xs) most_fields e
  any_type e (cont r) = refl

types_without : {R : Type 0} (F : Features) (D : R → Option (Sub R)) (a : R) (s : Sub R) → TypeRules F D a s → TypeRules (without_limits F) D a s
types_without F D a s r = record {
  subtyping_needs_gc = r.subtyping_needs_gc;
  supertype_is_not_final = r.supertype_is_not_final;
  matches_supertype = r.matches_supertype;
  few_ancestors = r.few_ancestors;
  shared_needs_shared_everything_threads = r.shared_needs_shared_everything_threads;
  members_of_shared_are_shared = r.members_of_shared_are_shared;
  many_results_need_multi_value = r.many_results_need_multi_value;
  array_needs_gc = r.array_needs_gc;
  array_needs_gc_types = r.array_needs_gc_types;
  struct_needs_gc = r.struct_needs_gc;
  struct_needs_gc_types = r.struct_needs_gc_types;
  continuation_needs_stack_switching = r.continuation_needs_stack_switching;
  continuation_needs_gc_types = r.continuation_needs_gc_types;
  continuation_is_of_function = r.continuation_is_of_function;
  members_are_allowed = storages_same F (storages s.comp) ∙ r.members_are_allowed;
  limits_are_kept = any_type (without_limits F) refl s.comp;
}

pub limits_are_opt_in : {R : Type 0} → LimitsAreOptIn R
limits_are_opt_in F = record {
  any_type = any_type F;
  any_name = λ e name h. absurd (let z : false ≡ true = sym e ∙ h in cc);
  functions = λ e ps rs. Decides-and (is_within F most_params (length ps)) (is_within F most_results (length rs)) (asked F.crate_limits (length ps) most_params e) (asked F.crate_limits (length rs) most_results e);
  structures = λ e xs. asked F.crate_limits (length xs) most_fields e;
  names = λ e name. (λ h. h e, λ h _. h);
  types_without = types_without F;
}
