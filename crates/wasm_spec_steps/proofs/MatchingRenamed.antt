-- Matching, renamed.
use Rattle.std.proofs.Common.{◌≡◌, refl, ap, ◌∙◌, Bool, ◌&&◌, ◌||◌, List, [], ◌∷◌, map, Option, Some, None, option_map}
use Rattle.wasm_spec_rules.specs.WasmSpec.Syntax.{AbstractHeap, Heap, abstract_heap, concrete, exact, Ref, Val, i32, i64, f32, f64, v128, reference, Storage, i8, i16, unpacked, Comp, func, array, struct, cont, Sub, map_heap, map_ref, map_val, map_storage, map_comp, map_sub}
use Rattle.wasm_spec_rules.specs.WasmSpec.Matching.{kind_of, bottom_of, top_of, top_of_heap, shared_flag, is_shared_heap}
use Rattle.wasm_spec_rules.specs.WasmSpec.ValueTypes.{implies}
use Rattle.wasm_spec_rules.specs.WasmSpec.MatchingTests.{World, same_flag, same_abstract, matches_abstract, matches_kind, is_above_bottom, matches_heap, matches_ref, matches_val}
use Rattle.wasm_spec_steps.specs.Matching.{matches_vals, matches_some, match_some, matches_storage}
use Rattle.wasm_spec_steps.specs.Renaming.{Renames}
use Rattle.wasm_spec_steps.proofs.Attempts.{then-map}

module _ {R S : Type 0} (f : R → S) where
  kind_of-map : (c : Comp R) → kind_of (map_comp f c) ≡ kind_of c
  kind_of-map (func ps rs) = refl
  kind_of-map (array x) = refl
  kind_of-map (struct xs) = refl
  kind_of-map (cont r) = refl

  bottom_of-map : (c : Comp R) → bottom_of (map_comp f c) ≡ bottom_of c
  bottom_of-map (func ps rs) = refl
  bottom_of-map (array x) = refl
  bottom_of-map (struct xs) = refl
  bottom_of-map (cont r) = refl

  matches_kind-map : (s : Bool) (k : AbstractHeap) (o : Option (Sub R)) → matches_kind s k (option_map (map_sub f) o) ≡ matches_kind s k o
  matches_kind-map s k None = refl
  matches_kind-map s k (Some d) = λ i. same_flag d.shared s && matches_abstract (kind_of-map d.comp i) k

  is_above_bottom-map : (s : Bool) (k : AbstractHeap) (o : Option (Sub R)) → is_above_bottom s k (option_map (map_sub f) o) ≡ is_above_bottom s k o
  is_above_bottom-map s k None = refl
  is_above_bottom-map s k (Some d) = λ i. same_flag d.shared s && same_abstract (bottom_of-map d.comp i) k

  shared_flag-map : (o : Option (Sub R)) → shared_flag (option_map (map_sub f) o) ≡ shared_flag o
  shared_flag-map None = refl
  shared_flag-map (Some d) = refl

module _ {R S : Type 0} (f : R → S) (W : World R) (V : World S) (h : Renames f W V) where
  pub matches_heap-map : (x y : Heap R) → matches_heap V (map_heap f x) (map_heap f y) ≡ matches_heap W x y
  matches_heap-map (abstract_heap s j) (abstract_heap t k) = refl
  matches_heap-map (abstract_heap s k) (concrete a) = ap (is_above_bottom s k) (h.declared a) ∙ is_above_bottom-map f s k (W.declared a)
  matches_heap-map (abstract_heap s k) (exact a) = ap (is_above_bottom s k) (h.declared a) ∙ is_above_bottom-map f s k (W.declared a)
  matches_heap-map (concrete a) (abstract_heap s k) = ap (matches_kind s k) (h.declared a) ∙ matches_kind-map f s k (W.declared a)
  matches_heap-map (concrete a) (concrete b) = h.below a b
  matches_heap-map (concrete a) (exact b) = refl
  matches_heap-map (exact a) (abstract_heap s k) = ap (matches_kind s k) (h.declared a) ∙ matches_kind-map f s k (W.declared a)
  matches_heap-map (exact a) (concrete b) = h.below a b
  matches_heap-map (exact a) (exact b) = h.same a b

  pub matches_ref-map : (r q : Ref R) → matches_ref V (map_ref f r) (map_ref f q) ≡ matches_ref W r q
  matches_ref-map r q = λ i. implies r.nullable q.nullable && matches_heap-map r.heap q.heap i

  pub matches_val-map : (v w : Val R) → matches_val V (map_val f v) (map_val f w) ≡ matches_val W v w
  matches_val-map (reference r) (reference q) = matches_ref-map r q
  matches_val-map i32 i32 = refl
  matches_val-map i64 i64 = refl
  matches_val-map f32 f32 = refl
  matches_val-map f64 f64 = refl
  matches_val-map v128 v128 = refl
  matches_val-map _ _ = refl

  pub matches_vals-map : (vs ws : List (Val R)) → matches_vals V (map (map_val f) vs) (map (map_val f) ws) ≡ matches_vals W vs ws
  matches_vals-map [] [] = refl
  matches_vals-map (v ∷ vs) (w ∷ ws) = λ i. matches_val-map v w i && matches_vals-map vs ws i
  matches_vals-map [] (w ∷ ws) = refl
  matches_vals-map (v ∷ vs) [] = refl

  pub matches_some-map : (ws : List (Val R)) (v : Val R) → matches_some V (map (map_val f) ws) (map_val f v) ≡ matches_some W ws v
  matches_some-map [] v = refl
  matches_some-map (w ∷ ws) v = λ i. matches_val-map v w i || matches_some-map ws v i

  pub match_some-map : (ws vs : List (Val R)) → match_some V (map (map_val f) ws) (map (map_val f) vs) ≡ match_some W ws vs
  match_some-map ws [] = refl
  match_some-map ws (v ∷ vs) = λ i. matches_some-map ws v i && match_some-map ws vs i

  pub matches_storage-map : (x y : Storage R) → matches_storage V (map_storage f x) (map_storage f y) ≡ matches_storage W x y
  matches_storage-map i8 i8 = refl
  matches_storage-map i16 i16 = refl
  matches_storage-map (unpacked v) (unpacked w) = matches_val-map v w
  matches_storage-map _ _ = refl

  is_shared_type-map : (a : R) → shared_flag (V.declared (f a)) ≡ shared_flag (W.declared a)
  is_shared_type-map a = ap shared_flag (h.declared a) ∙ shared_flag-map f (W.declared a)

  pub is_shared_heap-map : (x : Heap R) → is_shared_heap V.declared (map_heap f x) ≡ is_shared_heap W.declared x
  is_shared_heap-map (abstract_heap s k) = refl
  is_shared_heap-map (concrete a) = is_shared_type-map a
  is_shared_heap-map (exact a) = is_shared_type-map a

  top_of_type-map : (a : R) → option_map (λ s. abstract_heap s.shared (top_of (kind_of s.comp))) (V.declared (f a)) ≡ option_map (map_heap f) (option_map (λ s. abstract_heap s.shared (top_of (kind_of s.comp))) (W.declared a))
  top_of_type-map a = then-map (map_sub f) (map_heap f) _ _ (λ s i. abstract_heap s.shared (top_of (kind_of-map f s.comp i))) (W.declared a) (h.declared a)

  pub top_of_heap-map : (x : Heap R) → top_of_heap V.declared (map_heap f x) ≡ option_map (map_heap f) (top_of_heap W.declared x)
  top_of_heap-map (abstract_heap s k) = refl
  top_of_heap-map (concrete a) = top_of_type-map a
  top_of_heap-map (exact a) = top_of_type-map a
