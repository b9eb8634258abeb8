-- What features allow of a composite type doesn't ask what it refers to.
use Rattle.std.proofs.Common.{◌≡◌, refl, sym, ap, ◌∙◌, Bool, ◌&&◌, List, [], ◌∷◌, map}
use Rattle.std.specs.Prelude.{nat_lt}
use Rattle.std.specs.List.{list_all}
use Rattle.std.proofs.lemmas.List.{length-map, map-append}
use Rattle.wasm_spec.specs.Syntax.{Heap, abstract_heap, concrete, exact, map_heap, Val, i32, i64, f32, f64, v128, reference, map_val, Storage, i8, i16, unpacked, map_storage, Field, map_field, Comp, func, array, struct, cont, map_comp}
use Rattle.wasm_spec.specs.Features.{Features}
use Rattle.wasm_spec.specs.ValueTypes.{implies, allows_heap, allows_val, allows_storage}
use Rattle.wasm_spec.specs.CrateLimits.{most_params, most_results, most_fields, is_within, is_limited}
use Rattle.wasm_spec.specs.GroupRules.{storages, field_storage, has_many_results, is_array, is_struct, is_cont}
use Rattle.wasm_validator_resources.specs.AllowedComposites.{allows_comp}

module _ {R S : Type 0} (f : R → S) where
  unpacked_map : (vs : List (Val R)) → map unpacked (map (map_val f) vs) ≡ map (map_storage f) (map unpacked vs)
  unpacked_map [] = refl
  unpacked_map (v ∷ vs) = ap (λ xs. unpacked (map_val f v) ∷ xs) (unpacked_map vs)

  fields_map : (xs : List (Field R)) → map field_storage (map (map_field f) xs) ≡ map (map_storage f) (map field_storage xs)
  fields_map [] = refl
  fields_map (x ∷ xs) = ap (λ ys. map_storage f x.storage ∷ ys) (fields_map xs)

  -- the storage types in a composite type
  pub storages_map : (c : Comp R) → storages (map_comp f c) ≡ map (map_storage f) (storages c)
  storages_map (func ps rs) = ap (map unpacked) (sym (map-append (map_val f) ps rs)) ∙ unpacked_map _
  storages_map (array x) = refl
  storages_map (struct xs) = fields_map xs
  storages_map (cont r) = refl

  pub many_map : (c : Comp R) → has_many_results (map_comp f c) ≡ has_many_results c
  many_map (func ps rs) = ap (λ n. nat_lt 1 n) (length-map rs (map_val f))
  many_map (array x) = refl
  many_map (struct xs) = refl
  many_map (cont r) = refl

  pub array_map : (c : Comp R) → is_array (map_comp f c) ≡ is_array c
  array_map (func ps rs) = refl
  array_map (array x) = refl
  array_map (struct xs) = refl
  array_map (cont r) = refl

  pub struct_map : (c : Comp R) → is_struct (map_comp f c) ≡ is_struct c
  struct_map (func ps rs) = refl
  struct_map (array x) = refl
  struct_map (struct xs) = refl
  struct_map (cont r) = refl

  pub cont_map : (c : Comp R) → is_cont (map_comp f c) ≡ is_cont c
  cont_map (func ps rs) = refl
  cont_map (array x) = refl
  cont_map (struct xs) = refl
  cont_map (cont r) = refl

module _ {R S : Type 0} (f : R → S) (F : Features) where
  heap_allowed : (nullable : Bool) (h : Heap R) → (F.reference_types && allows_heap F nullable (map_heap f h)) ≡ (F.reference_types && allows_heap F nullable h)
  heap_allowed nullable (abstract_heap b a) = refl
  heap_allowed nullable (concrete r) = refl
  heap_allowed nullable (exact r) = refl

  val_allowed : (v : Val R) → allows_val F (map_val f v) ≡ allows_val F v
  val_allowed i32 = refl
  val_allowed i64 = refl
  val_allowed f32 = refl
  val_allowed f64 = refl
  val_allowed v128 = refl
  val_allowed (reference r) = heap_allowed r.nullable r.heap

  storage_allowed : (s : Storage R) → allows_storage F (map_storage f s) ≡ allows_storage F s
  storage_allowed i8 = refl
  storage_allowed i16 = refl
  storage_allowed (unpacked v) = val_allowed v

  storages_allowed : (ss : List (Storage R)) → list_all (allows_storage F) (map (map_storage f) ss) ≡ list_all (allows_storage F) ss
  storages_allowed [] = refl
  storages_allowed (s ∷ ss) = λ i. storage_allowed s i && storages_allowed ss i

  limited_map : (c : Comp R) → is_limited F (map_comp f c) ≡ is_limited F c
  limited_map (func ps rs) = λ i. is_within F most_params (length-map ps (map_val f) i) && is_within F most_results (length-map rs (map_val f) i)
  limited_map (array x) = refl
  limited_map (struct xs) = ap (is_within F most_fields) (length-map xs (map_field f))
  limited_map (cont r) = refl

  pub comp_allowed : (c : Comp R) → allows_comp F (map_comp f c) ≡ allows_comp F c
  comp_allowed c = λ i.
      ((ap (list_all (allows_storage F)) (storages_map f c) ∙ storages_allowed (storages c)) i
      && (implies (many_map f c i) F.multi_value
      && implies (array_map f c i) (F.gc && F.gc_types)
      && implies (struct_map f c i) (F.gc && F.gc_types)
      && implies (cont_map f c i) (F.stack_switching && F.gc_types)))
      && limited_map c i
