-- The laws of the maps over the syntax: a map after a map is one map, and the map by the identity changes nothing.
use Rattle.std.proofs.Common.{◌≡◌, refl, List, [], ◌∷◌, map, Option, Some, None, option_map}
use Rattle.wasm_spec.specs.Syntax.{Heap, abstract_heap, concrete, exact, Ref, Val, i32, i64, f32, f64, v128, reference, Storage, i8, i16, unpacked, Field, Comp, func, array, struct, cont, Sub, Rec, Table, Global, Extern, func_extern, func_exact_extern, table_extern, memory_extern, global_extern, tag_extern, map_heap, map_ref, map_val, map_storage, map_field, map_comp, map_sub, map_rec, map_table, map_global, map_extern}
use Rattle.wasm_spec.specs.BinaryModules.{Import, map_import}

-- a map after a map
module _ {X Y Z : Type 0} (g : Y → Z) (f : X → Y) (h : X → Z) (e : (x : X) → g (f x) ≡ h x) where
  pub map-map_by : (xs : List X) → map g (map f xs) ≡ map h xs
  map-map_by [] = refl
  map-map_by (x ∷ xs) = λ i. e x i ∷ map-map_by xs i

module _ {Q R S : Type 0} (g : R → S) (f : Q → R) where
  abbrev then_map : Q → S
  then_map q = g (f q)

  pub option_map-map : (o : Option Q) → option_map g (option_map f o) ≡ option_map then_map o
  option_map-map None = refl
  option_map-map (Some q) = refl

  pub map_heap-map : (h : Heap Q) → map_heap g (map_heap f h) ≡ map_heap then_map h
  map_heap-map (abstract_heap s a) = refl
  map_heap-map (concrete r) = refl
  map_heap-map (exact r) = refl

  pub map_ref-map : (r : Ref Q) → map_ref g (map_ref f r) ≡ map_ref then_map r
  map_ref-map r = λ i. record { nullable = r.nullable; heap = map_heap-map r.heap i }

  pub map_val-map : (v : Val Q) → map_val g (map_val f v) ≡ map_val then_map v
  map_val-map i32 = refl
  map_val-map i64 = refl
  map_val-map f32 = refl
  map_val-map f64 = refl
  map_val-map v128 = refl
  map_val-map (reference r) = λ i. reference (map_ref-map r i)

  pub map_storage-map : (s : Storage Q) → map_storage g (map_storage f s) ≡ map_storage then_map s
  map_storage-map i8 = refl
  map_storage-map i16 = refl
  map_storage-map (unpacked v) = λ i. unpacked (map_val-map v i)

  pub map_field-map : (x : Field Q) → map_field g (map_field f x) ≡ map_field then_map x
  map_field-map x = λ i. record { storage = map_storage-map x.storage i; mutable = x.mutable }

  pub map_comp-map : (c : Comp Q) → map_comp g (map_comp f c) ≡ map_comp then_map c
  map_comp-map (func ps rs) = λ i. func (map-map_by (map_val g) (map_val f) (map_val then_map) map_val-map ps i) (map-map_by (map_val g) (map_val f) (map_val then_map) map_val-map rs i)
  map_comp-map (array x) = λ i. array (map_field-map x i)
  map_comp-map (struct xs) = λ i. struct (map-map_by (map_field g) (map_field f) (map_field then_map) map_field-map xs i)
  map_comp-map (cont r) = refl

  pub map_sub-map : (s : Sub Q) → map_sub g (map_sub f s) ≡ map_sub then_map s
  map_sub-map s = λ i. record {
    is_final = s.is_final;
    supers = map-map_by g f then_map (λ r. refl) s.supers i;
    shared = s.shared;
    comp = map_comp-map s.comp i;
    descriptor = option_map-map s.descriptor i;
    describes = option_map-map s.describes i;
  }

  pub map_rec-map : (r : Rec Q) → map_rec g (map_rec f r) ≡ map_rec then_map r
  map_rec-map r = λ i. record { is_explicit = r.is_explicit; types = map-map_by (map_sub g) (map_sub f) (map_sub then_map) map_sub-map r.types i }

  pub map_table-map : (t : Table Q) → map_table g (map_table f t) ≡ map_table then_map t
  map_table-map t = λ i. record { element = map_ref-map t.element i; is_64 = t.is_64; minimum = t.minimum; maximum = t.maximum; shared = t.shared }

  pub map_global-map : (x : Global Q) → map_global g (map_global f x) ≡ map_global then_map x
  map_global-map x = λ i. record { content = map_val-map x.content i; mutable = x.mutable; shared = x.shared }

  pub map_extern-map : (x : Extern Q) → map_extern g (map_extern f x) ≡ map_extern then_map x
  map_extern-map (func_extern n) = refl
  map_extern-map (func_exact_extern n) = refl
  map_extern-map (table_extern t) = λ i. table_extern (map_table-map t i)
  map_extern-map (memory_extern m) = refl
  map_extern-map (global_extern x) = λ i. global_extern (map_global-map x i)
  map_extern-map (tag_extern n) = refl

  pub map_import-map : (x : Import Q) → map_import g (map_import f x) ≡ map_import then_map x
  map_import-map x = λ i. record { module_name = x.module_name; item_name = x.item_name; ty = map_extern-map x.ty i }

-- the map by the identity
pub map_by_same : {X : Type 0} (f : X → X) → ((x : X) → f x ≡ x) → (xs : List X) → map f xs ≡ xs
map_by_same f e [] = refl
map_by_same f e (x ∷ xs) = λ i. e x i ∷ map_by_same f e xs i

module _ {R : Type 0} where
  abbrev same : R → R
  same r = r

  pub option_map-same : (o : Option R) → option_map same o ≡ o
  option_map-same None = refl
  option_map-same (Some r) = refl

  pub map_heap-same : (h : Heap R) → map_heap same h ≡ h
  map_heap-same (abstract_heap s a) = refl
  map_heap-same (concrete r) = refl
  map_heap-same (exact r) = refl

  pub map_ref-same : (r : Ref R) → map_ref same r ≡ r
  map_ref-same r = λ i. record { nullable = r.nullable; heap = map_heap-same r.heap i }

  pub map_val-same : (v : Val R) → map_val same v ≡ v
  map_val-same i32 = refl
  map_val-same i64 = refl
  map_val-same f32 = refl
  map_val-same f64 = refl
  map_val-same v128 = refl
  map_val-same (reference r) = λ i. reference (map_ref-same r i)

  pub map_storage-same : (s : Storage R) → map_storage same s ≡ s
  map_storage-same i8 = refl
  map_storage-same i16 = refl
  map_storage-same (unpacked v) = λ i. unpacked (map_val-same v i)

  pub map_field-same : (x : Field R) → map_field same x ≡ x
  map_field-same x = λ i. record { storage = map_storage-same x.storage i; mutable = x.mutable }

  pub map_comp-same : (c : Comp R) → map_comp same c ≡ c
  map_comp-same (func ps rs) = λ i. func (map_by_same (map_val same) map_val-same ps i) (map_by_same (map_val same) map_val-same rs i)
  map_comp-same (array x) = λ i. array (map_field-same x i)
  map_comp-same (struct xs) = λ i. struct (map_by_same (map_field same) map_field-same xs i)
  map_comp-same (cont r) = refl

  pub map_sub-same : (s : Sub R) → map_sub same s ≡ s
  map_sub-same s = λ i. record {
    is_final = s.is_final;
    supers = map_by_same same (λ r. refl) s.supers i;
    shared = s.shared;
    comp = map_comp-same s.comp i;
    descriptor = option_map-same s.descriptor i;
    describes = option_map-same s.describes i;
  }

  pub map_rec-same : (r : Rec R) → map_rec same r ≡ r
  map_rec-same r = λ i. record { is_explicit = r.is_explicit; types = map_by_same (map_sub same) map_sub-same r.types i }

  pub map_table-same : (t : Table R) → map_table same t ≡ t
  map_table-same t = λ i. record { element = map_ref-same t.element i; is_64 = t.is_64; minimum = t.minimum; maximum = t.maximum; shared = t.shared }

  pub map_global-same : (x : Global R) → map_global same x ≡ x
  map_global-same x = λ i. record { content = map_val-same x.content i; mutable = x.mutable; shared = x.shared }

  pub map_extern-same : (x : Extern R) → map_extern same x ≡ x
  map_extern-same (func_extern n) = refl
  map_extern-same (func_exact_extern n) = refl
  map_extern-same (table_extern t) = λ i. table_extern (map_table-same t i)
  map_extern-same (memory_extern m) = refl
  map_extern-same (global_extern x) = λ i. global_extern (map_global-same x i)
  map_extern-same (tag_extern n) = refl

  pub map_import-same : (x : Import R) → map_import same x ≡ x
  map_import-same x = λ i. record { module_name = x.module_name; item_name = x.item_name; ty = map_extern-same x.ty i }
