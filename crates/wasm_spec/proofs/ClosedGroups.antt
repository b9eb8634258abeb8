-- A group that mentions only itself is closed to the same recursive type wherever it is written.
use Rattle.std.proofs.Common.{◌≡◌, refl, sym, ap, ◌∙◌, ℕ, ◌+◌, ◌-◌, ◌<◌, nat_lt, nat_le, Bool, not, ◌&&◌, ◌||◌, if◌then◌else◌, List, [], ◌∷◌, ◌++◌, map, flat_map, length, slice_get, Option, Some, None, option_map, arith}
use Rattle.std.specs.List.{list_all}
use Rattle.std.proofs.lemmas.Bool.{ltb_from_iff, ltb-true, lt-ltb}
use Rattle.std.proofs.lemmas.List.{map-append, length-map}
use Rattle.std.proofs.lemmas.List.Folds.{list_all-map}
use Rattle.std.proofs.lemmas.Option.{slice_get_past}
use Rattle.wasm_spec.specs.Syntax.{Heap, abstract_heap, concrete, exact, Val, i32, i64, f32, f64, v128, reference, Storage, i8, i16, unpacked, Comp, func, array, struct, cont, Sub, Rec, map_heap, map_val, map_storage, map_field, map_comp, map_sub, map_rec}
use Rattle.wasm_spec.specs.References.{refs_option, refs_heap, refs_val, refs_storage, refs_field, refs_comp, refs_sub}
use Rattle.wasm_spec.specs.Features.{Features, canonical}
use Rattle.wasm_spec.specs.Trees.{DefType, close}
use Rattle.wasm_spec.specs.Closing.{is_in_bounds, are_closable, is_closable, use_of, resolve, start_unless}
use Rattle.wasm_spec.specs.TypeLaws.{SelfMentionsAreOneTree}
use Rattle.wasm_spec.proofs.SyntaxMaps.{map-map_by, map_sub-map}

-- the references of what is renamed
module _ {R S : Type 0} (f : R → S) where
  list_refs : {X Y : Type 0} (u : X → Y) (refs : X → List R) (refs' : Y → List S) → ((x : X) → refs' (u x) ≡ map f (refs x)) → (xs : List X) → flat_map refs' (map u xs) ≡ map f (flat_map refs xs)
  list_refs u refs refs' e [] = refl
  list_refs u refs refs' e (x ∷ xs) = (λ i. e x i ++ list_refs u refs refs' e xs i) ∙ sym (map-append f (refs x) (flat_map refs xs))

  pub refs_option-map : (o : Option R) → refs_option (option_map f o) ≡ map f (refs_option o)
  refs_option-map None = refl
  refs_option-map (Some r) = refl

  refs_heap-map : (h : Heap R) → refs_heap (map_heap f h) ≡ map f (refs_heap h)
  refs_heap-map (abstract_heap s a) = refl
  refs_heap-map (concrete r) = refl
  refs_heap-map (exact r) = refl

  refs_val-map : (v : Val R) → refs_val (map_val f v) ≡ map f (refs_val v)
  refs_val-map i32 = refl
  refs_val-map i64 = refl
  refs_val-map f32 = refl
  refs_val-map f64 = refl
  refs_val-map v128 = refl
  refs_val-map (reference r) = refs_heap-map r.heap

  refs_storage-map : (s : Storage R) → refs_storage (map_storage f s) ≡ map f (refs_storage s)
  refs_storage-map i8 = refl
  refs_storage-map i16 = refl
  refs_storage-map (unpacked v) = refs_val-map v

  pub refs_comp-map : (c : Comp R) → refs_comp (map_comp f c) ≡ map f (refs_comp c)
  refs_comp-map (func ps rs) =
      (λ i. list_refs (map_val f) refs_val refs_val refs_val-map ps i ++ list_refs (map_val f) refs_val refs_val refs_val-map rs i)
      ∙ sym (map-append f (flat_map refs_val ps) (flat_map refs_val rs))
  refs_comp-map (array x) = refs_storage-map x.storage
  refs_comp-map (struct xs) = list_refs (map_field f) refs_field refs_field (λ x. refs_storage-map x.storage) xs
  refs_comp-map (cont r) = refl

  pub refs_sub-map : (s : Sub R) → refs_sub (map_sub f s) ≡ map f (refs_sub s)
  refs_sub-map s =
      let b = refs_option s.describes in
      let c = refs_option s.descriptor in
      let d = refs_comp s.comp in
      (λ i. map f s.supers ++ (refs_option-map s.describes i ++ (refs_option-map s.descriptor i ++ refs_comp-map s.comp i)))
      ∙ sym (map-append f s.supers (b ++ (c ++ d)) ∙ ap (λ l. map f s.supers ++ l) (map-append f b (c ++ d) ∙ ap (λ l. map f b ++ l) (map-append f c d)))

lt-shifted : (m k n : ℕ) → nat_lt (m + k) (m + n) ≡ nat_lt k n
lt-shifted m k n = ltb_from_iff ((λ e. let h : m + k < m + n = ltb-true (m + k) (m + n) e in omega (arith, h)), (λ h. lt-ltb (m + k) (m + n) (omega (arith, h))))

lt-start : (m k : ℕ) → nat_lt (m + k) m ≡ nat_lt k 0
lt-start m k = ltb_from_iff ((λ e. let h : m + k < m = ltb-true (m + k) m e in absurd (omega (arith, h))), (λ h. absurd (omega (arith, h))))

all-renamed : (f : ℕ → ℕ) (p q : ℕ → Bool) → ((k : ℕ) → p (f k) ≡ q k) → (xs : List ℕ) → list_all p (map f xs) ≡ list_all q xs
all-renamed f p q e xs = list_all-map p f xs ∙ (λ i. list_all (λ k. e k i) xs)

module _ (F : Features) (m : ℕ) where
  abbrev shift : ℕ → ℕ
  shift k = m + k

  bounds-shifted : (end n : ℕ) (s : Sub ℕ) → is_in_bounds F m (m + end) (m + n) (map_sub shift s) ≡ is_in_bounds F 0 end n s
  bounds-shifted end n s =
      let test : ℕ → Bool = λ k. nat_lt k (m + n) in
      let inside : ℕ → Bool = λ k. nat_lt k m || (F.gc && nat_lt k (m + end)) in
      let supers = all-renamed shift test (λ k. nat_lt k n) (λ k. lt-shifted m k n) s.supers in
      let describes = ap (list_all test) (refs_option-map shift s.describes) ∙ all-renamed shift test (λ k. nat_lt k n) (λ k. lt-shifted m k n) (refs_option s.describes) in
      let refs : refs_option (option_map shift s.descriptor) ++ refs_comp (map_comp shift s.comp) ≡ map shift (refs_option s.descriptor ++ refs_comp s.comp) =
      (λ i. refs_option-map shift s.descriptor i ++ refs_comp-map shift s.comp i) ∙ sym (map-append shift (refs_option s.descriptor) (refs_comp s.comp)) in
      let rest = ap (list_all inside) refs ∙ all-renamed shift inside (λ k. nat_lt k 0 || (F.gc && nat_lt k end)) (λ k i. lt-start m k i || (F.gc && lt-shifted m k end i)) (refs_option s.descriptor ++ refs_comp s.comp) in
      λ i. supers i && describes i && rest i

  closable-shifted : (end n : ℕ) (ss : List (Sub ℕ)) → are_closable F m (m + end) (m + n) (map (map_sub shift) ss) ≡ are_closable F 0 end n ss
  closable-shifted end n [] = refl
  closable-shifted end n (s ∷ ss) =
      let next : m + n + 1 ≡ m + (n + 1) = omega arith in
      let rest = ap (λ k. are_closable F m (m + end) k (map (map_sub shift) ss)) next ∙ closable-shifted end (n + 1) ss in
      λ i. bounds-shifted end n s i && nat_le (length-map s.supers shift i) 1 && rest i

  group-shifted : (g : Rec ℕ) → is_closable F m (map_rec shift g) ≡ is_closable F 0 g
  group-shifted g =
      let first : m ≡ m + 0 = omega arith in
      let long : length (map (map_sub shift) g.types) ≡ length g.types = length-map g.types (map_sub shift) in
      let long₀ : 0 + length g.types ≡ length g.types = omega arith in
      let all : are_closable F m (m + length (map (map_sub shift) g.types)) m (map (map_sub shift) g.types) ≡ are_closable F 0 (0 + length g.types) 0 g.types =
      (λ i. are_closable F m (m + long i) (first i) (map (map_sub shift) g.types)) ∙ closable-shifted (length g.types) 0 g.types ∙ ap (λ k. are_closable F 0 k 0 g.types) (sym long₀) in
      ap (λ c. (not g.is_explicit || F.gc) && c) all

  uses-shifted : (ts : List DefType) → m ≡ length ts → (k : ℕ) → resolve ts (shift k) ≡ resolve [] k
  uses-shifted ts e k =
      let past : slice_get ts (m + k) ≡ None = slice_get_past ts (m + k) (omega (arith, e)) in
      let past₀ : slice_get {X = DefType} [] k ≡ None = slice_get_past [] k (omega arith) in
      let same : m + k - length ts ≡ k - 0 = omega (arith, e) in
      (λ i. use_of (past i) (same i)) ∙ sym (ap (λ o. use_of o (k - 0)) past₀)

pub self_mentions_are_one_tree : SelfMentionsAreOneTree
self_mentions_are_one_tree F ts g on =
    let m = length ts in
    let test = group-shifted F m g in
    let start : start_unless (canonical F) m ≡ start_unless (canonical F) 0 = ap (λ c. if c then None else Some m) on ∙ sym (ap (λ c. if c then None else Some 0) on) in
    let members : map (map_sub (resolve ts)) (map (map_sub (shift F m)) g.types) ≡ map (map_sub (resolve [])) g.types =
    map-map_by (map_sub (resolve ts)) (map_sub (shift F m)) (map_sub (λ k. resolve ts (shift F m k))) (map_sub-map (resolve ts) (shift F m)) g.types
    ∙ (λ i. map (map_sub (λ k. uses-shifted F m ts refl k i)) g.types) in
    λ i. if test i then Some (close (start i) (members i)) else None
