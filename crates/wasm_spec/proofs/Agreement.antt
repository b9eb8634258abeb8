-- Maps that agree on the references of a type agree on the type.
use Rattle.std.proofs.Common.{◌≡◌, refl, ◌∙◌, List, [], ◌∷◌, ◌++◌, map, flat_map, Option, Some, None, option_map}
use Rattle.std.specs.List.{AllByRecursion}
use Rattle.wasm_spec.specs.Syntax.{Heap, abstract_heap, concrete, exact, Val, i32, i64, f32, f64, v128, reference, Storage, i8, i16, unpacked, Field, Comp, func, array, struct, cont, Sub, map_heap, map_val, map_storage, map_field, map_comp, map_sub}
use Rattle.wasm_spec.specs.References.{refs_option, refs_heap, refs_val, refs_storage, refs_field, refs_comp, refs_sub}
use Rattle.wasm_spec.proofs.SyntaxMaps.{map_sub-map, map_sub-same}

module _ {R S : Type 0} (f g : R → S) where
  abbrev Agrees : R → Type 0
  Agrees r = f r ≡ g r

  abbrev pub AgreeOn : List R → Type 0
  AgreeOn rs = AllByRecursion Agrees rs

  left : (xs ys : List R) → AgreeOn (xs ++ ys) → AgreeOn xs
  left [] ys h = tt
  left (x ∷ xs) ys h = (h.0, left xs ys h.1)

  right : (xs ys : List R) → AgreeOn (xs ++ ys) → AgreeOn ys
  right [] ys h = h
  right (x ∷ xs) ys h = right xs ys h.1

  agree_list : {X Y : Type 0} (u v : X → Y) (refs : X → List R) → ((x : X) → AgreeOn (refs x) → u x ≡ v x) → (xs : List X) → AgreeOn (flat_map refs xs) → map u xs ≡ map v xs
  agree_list u v refs e [] h = refl
  agree_list u v refs e (x ∷ xs) h = λ i. e x (left (refs x) (flat_map refs xs) h) i ∷ agree_list u v refs e xs (right (refs x) (flat_map refs xs) h) i

  agree_each : (rs : List R) → AgreeOn rs → map f rs ≡ map g rs
  agree_each [] h = refl
  agree_each (r ∷ rs) h = λ i. h.0 i ∷ agree_each rs h.1 i

  agree_option : (o : Option R) → AgreeOn (refs_option o) → option_map f o ≡ option_map g o
  agree_option None h = refl
  agree_option (Some r) h = λ i. Some (h.0 i)

  agree_heap : (x : Heap R) → AgreeOn (refs_heap x) → map_heap f x ≡ map_heap g x
  agree_heap (abstract_heap s a) h = refl
  agree_heap (concrete r) h = λ i. concrete (h.0 i)
  agree_heap (exact r) h = λ i. exact (h.0 i)

  agree_val : (x : Val R) → AgreeOn (refs_val x) → map_val f x ≡ map_val g x
  agree_val i32 h = refl
  agree_val i64 h = refl
  agree_val f32 h = refl
  agree_val f64 h = refl
  agree_val v128 h = refl
  agree_val (reference r) h = λ i. reference (record { nullable = r.nullable; heap = agree_heap r.heap h i })

  agree_storage : (x : Storage R) → AgreeOn (refs_storage x) → map_storage f x ≡ map_storage g x
  agree_storage i8 h = refl
  agree_storage i16 h = refl
  agree_storage (unpacked x) h = λ i. unpacked (agree_val x h i)

  agree_field : (x : Field R) → AgreeOn (refs_field x) → map_field f x ≡ map_field g x
  agree_field x h = λ i. record { storage = agree_storage x.storage h i; mutable = x.mutable }

  agree_comp : (x : Comp R) → AgreeOn (refs_comp x) → map_comp f x ≡ map_comp g x
  agree_comp (func ps rs) h = λ i. func
      (agree_list (map_val f) (map_val g) refs_val agree_val ps (left (flat_map refs_val ps) (flat_map refs_val rs) h) i)
      (agree_list (map_val f) (map_val g) refs_val agree_val rs (right (flat_map refs_val ps) (flat_map refs_val rs) h) i)
  agree_comp (array x) h = λ i. array (agree_field x h i)
  agree_comp (struct xs) h = λ i. struct (agree_list (map_field f) (map_field g) refs_field agree_field xs h i)
  agree_comp (cont r) h = λ i. cont (h.0 i)

  pub agree_sub : (s : Sub R) → AgreeOn (refs_sub s) → map_sub f s ≡ map_sub g s
  agree_sub s h =
      let a = s.supers in
      let b = refs_option s.describes in
      let c = refs_option s.descriptor in
      let d = refs_comp s.comp in
      let h₁ = right a (b ++ (c ++ d)) h in
      let h₂ = right b (c ++ d) h₁ in
      λ i. record {
        is_final = s.is_final;
        supers = agree_each a (left a (b ++ (c ++ d)) h) i;
        shared = s.shared;
        comp = agree_comp s.comp (right c d h₂) i;
        descriptor = agree_option s.descriptor (left c d h₂) i;
        describes = agree_option s.describes (left b (c ++ d) h₁) i;
      }

-- where back undoes f on a sub type's references, it undoes the map of f
pub map_sub-undone : {R S : Type 0} (f : R → S) (back : S → R) (s : Sub R) → AllByRecursion (λ r. back (f r) ≡ r) (refs_sub s) → map_sub back (map_sub f s) ≡ s
map_sub-undone f back s h = map_sub-map back f s ∙ agree_sub (λ r. back (f r)) (λ r. r) s h ∙ map_sub-same s
