-- The rules of a type, with each reference renamed.
use Rattle.std.proofs.Common.{◌≡◌, refl, sym, ap, ◌∙◌, ◌↔◌, ℕ, true, ◌&&◌, List, [], ◌∷◌, ◌++◌, map, Option, Some, None, All}
use Rattle.std.specs.List.{list_all, AllZip, flat_map}
use Rattle.std.specs.Option.{option_map}
use Rattle.std.proofs.lemmas.List.Elements.{All-head}
use Rattle.std.proofs.lemmas.List.Folds.{list_all-map, list_all-append}
use Rattle.std.proofs.lemmas.Option.{none-some, same_Some}
use Rattle.wasm_spec.specs.Syntax.{Heap, abstract_heap, concrete, exact, map_heap, Val, i32, i64, f32, f64, v128, reference, map_val, Storage, i8, i16, unpacked, map_storage, Field, map_field, Comp, func, array, struct, cont, map_comp, Sub, map_sub}
use Rattle.wasm_spec.specs.References.{refs_heap, refs_val, refs_storage, refs_field, refs_comp}
use Rattle.wasm_spec.specs.SupertypeOrder.{IsAncestor}
use Rattle.wasm_spec.specs.Matching.{MatchesVal, MatchesStorage, MatchesField, MatchesFields, MatchesComp, MatchesSub, shared_flag, is_shared_type, is_shared_heap, is_shared_val, is_shared_storage}
use Rattle.wasm_spec.specs.GroupRules.{storages, field_storage, is_func, IsFunction, IsContinuationOfFunction}
use Rattle.wasm_validator_type_list.proofs.GroupMatching.{all-left, all-right}

module _ {S : Type 0} (D : ℕ → Option (Sub ℕ)) (E : S → Option (Sub S)) (at : ℕ → S) (IsHere : ℕ → Type 0)
    (same : (i : ℕ) → IsHere i → E (at i) ≡ option_map (map_sub at) (D i))
    (vals : (v w : Val ℕ) → All IsHere (refs_val v) → All IsHere (refs_val w) → MatchesVal D v w ↔ MatchesVal E (map_val at v) (map_val at w))
    (ordered : (a b : ℕ) → IsHere a → IsHere b → IsAncestor D a b ↔ IsAncestor E (at a) (at b)) where
  abbrev AreHere : List ℕ → Type 0
  AreHere is = All IsHere is

  -- matching of storage types, fields and composite types
  storage_match : (x y : Storage ℕ) → AreHere (refs_storage x) → AreHere (refs_storage y) → MatchesStorage D x y ↔ MatchesStorage E (map_storage at x) (map_storage at y)
  storage_match (unpacked v) (unpacked w) h k = vals v w h k
  storage_match i8 i8 h k = ((λ m. m), (λ m. m))
  storage_match i16 i16 h k = ((λ m. m), (λ m. m))
  storage_match x y h k = ((λ m. absurd m), (λ m. absurd m))

  field_match : (x y : Field ℕ) → AreHere (refs_field x) → AreHere (refs_field y) → MatchesField D x y ↔ MatchesField E (map_field at x) (map_field at y)
  field_match x y h k =
      let there = storage_match x.storage y.storage h k in
      let back = storage_match y.storage x.storage k h in (
        (λ m. record { same_mutable = m.same_mutable; storage = there.0 m.storage; back = λ t. back.0 (m.back t) }),
        (λ m. record { same_mutable = m.same_mutable; storage = there.1 m.storage; back = λ t. back.1 (m.back t) }),
      )

  vals_match : (vs ws : List (Val ℕ)) → AreHere (flat_map refs_val vs) → AreHere (flat_map refs_val ws) → AllZip (MatchesVal D) vs ws ↔ AllZip (MatchesVal E) (map (map_val at) vs) (map (map_val at) ws)
  vals_match [] [] h k = ((λ m. m), (λ m. m))
  vals_match [] (w ∷ ws) h k = ((λ m. absurd m), (λ m. absurd m))
  vals_match (v ∷ vs) [] h k = ((λ m. absurd m), (λ m. absurd m))
  vals_match (v ∷ vs) (w ∷ ws) h k =
      let first = vals v w (all-left IsHere (refs_val v) (flat_map refs_val vs) h) (all-left IsHere (refs_val w) (flat_map refs_val ws) k) in
      let rest = vals_match vs ws (all-right IsHere (refs_val v) (flat_map refs_val vs) h) (all-right IsHere (refs_val w) (flat_map refs_val ws) k) in
      ((λ m. (first.0 m.0, rest.0 m.1)), (λ m. (first.1 m.0, rest.1 m.1)))

  fields_match : (xs ys : List (Field ℕ)) → AreHere (flat_map refs_field xs) → AreHere (flat_map refs_field ys) → MatchesFields D xs ys ↔ MatchesFields E (map (map_field at) xs) (map (map_field at) ys)
  fields_match [] [] h k = ((λ m. m), (λ m. m))
  fields_match (x ∷ xs) [] h k = ((λ m. m), (λ m. m))
  fields_match [] (y ∷ ys) h k = ((λ m. absurd m), (λ m. absurd m))
  fields_match (x ∷ xs) (y ∷ ys) h k =
      let first = field_match x y (all-left IsHere (refs_field x) (flat_map refs_field xs) h) (all-left IsHere (refs_field y) (flat_map refs_field ys) k) in
      let rest = fields_match xs ys (all-right IsHere (refs_field x) (flat_map refs_field xs) h) (all-right IsHere (refs_field y) (flat_map refs_field ys) k) in
      ((λ m. (first.0 m.0, rest.0 m.1)), (λ m. (first.1 m.0, rest.1 m.1)))

  comp_match : (c d : Comp ℕ) → AreHere (refs_comp c) → AreHere (refs_comp d) → MatchesComp D c d ↔ MatchesComp E (map_comp at c) (map_comp at d)
  comp_match (func ps rs) (func qs ss) h k =
      let params = vals_match qs ps (all-left IsHere (flat_map refs_val qs) (flat_map refs_val ss) k) (all-left IsHere (flat_map refs_val ps) (flat_map refs_val rs) h) in
      let results = vals_match rs ss (all-right IsHere (flat_map refs_val ps) (flat_map refs_val rs) h) (all-right IsHere (flat_map refs_val qs) (flat_map refs_val ss) k) in
      ((λ m. (params.0 m.0, results.0 m.1)), (λ m. (params.1 m.0, results.1 m.1)))
  comp_match (array x) (array y) h k = field_match x y h k
  comp_match (struct xs) (struct ys) h k = fields_match xs ys h k
  comp_match (cont a) (cont b) h k = ordered a b (All-head IsHere a [] h) (All-head IsHere b [] k)
  comp_match c d h k = ((λ m. absurd m), (λ m. absurd m))

  pub sub_match : (s t : Sub ℕ) → AreHere (refs_comp s.comp) → AreHere (refs_comp t.comp) → MatchesSub D s t ↔ MatchesSub E (map_sub at s) (map_sub at t)
  sub_match s t h k =
      let m = comp_match s.comp t.comp h k in (
        (λ x. record { same_shared = x.same_shared; comp = m.0 x.comp }),
        (λ x. record { same_shared = x.same_shared; comp = m.1 x.comp }),
      )

  -- what may be shared
  flag_kept : (o : Option (Sub ℕ)) → shared_flag (option_map (map_sub at) o) ≡ shared_flag o
  flag_kept None = refl
  flag_kept (Some s) = refl

  type_shared : (i : ℕ) → IsHere i → is_shared_type E (at i) ≡ is_shared_type D i
  type_shared i h = ap shared_flag (same i h) ∙ flag_kept (D i)

  heap_shared : (h : Heap ℕ) → AreHere (refs_heap h) → is_shared_heap E (map_heap at h) ≡ is_shared_heap D h
  heap_shared (abstract_heap s a) k = refl
  heap_shared (concrete i) k = type_shared i (All-head IsHere i [] k)
  heap_shared (exact i) k = type_shared i (All-head IsHere i [] k)

  val_shared : (v : Val ℕ) → AreHere (refs_val v) → is_shared_val E (map_val at v) ≡ is_shared_val D v
  val_shared (reference r) h = heap_shared r.heap h
  val_shared i32 h = refl
  val_shared i64 h = refl
  val_shared f32 h = refl
  val_shared f64 h = refl
  val_shared v128 h = refl

  storage_shared : (x : Storage ℕ) → AreHere (refs_storage x) → is_shared_storage E (map_storage at x) ≡ is_shared_storage D x
  storage_shared (unpacked v) h = val_shared v h
  storage_shared i8 h = refl
  storage_shared i16 h = refl

  vals_shared : (vs : List (Val ℕ)) → AreHere (flat_map refs_val vs) → list_all (is_shared_val E) (map (map_val at) vs) ≡ list_all (is_shared_val D) vs
  vals_shared [] h = refl
  vals_shared (v ∷ vs) h = λ i. val_shared v (all-left IsHere (refs_val v) (flat_map refs_val vs) h) i && vals_shared vs (all-right IsHere (refs_val v) (flat_map refs_val vs) h) i

  fields_shared : (xs : List (Field ℕ)) → AreHere (flat_map refs_field xs) → list_all (is_shared_storage E) (map field_storage (map (map_field at) xs)) ≡ list_all (is_shared_storage D) (map field_storage xs)
  fields_shared [] h = refl
  fields_shared (x ∷ xs) h = λ i. storage_shared x.storage (all-left IsHere (refs_field x) (flat_map refs_field xs) h) i && fields_shared xs (all-right IsHere (refs_field x) (flat_map refs_field xs) h) i

  stored_vals : {T : Type 0} (G : T → Option (Sub T)) (vs ws : List (Val T)) → list_all (is_shared_storage G) (map unpacked (vs ++ ws)) ≡ (list_all (is_shared_val G) vs && list_all (is_shared_val G) ws)
  stored_vals G vs ws = list_all-map (is_shared_storage G) unpacked (vs ++ ws) ∙ list_all-append (is_shared_val G) vs ws

  pub comp_shared : (c : Comp ℕ) → AreHere (refs_comp c) → list_all (is_shared_storage E) (storages (map_comp at c)) ≡ list_all (is_shared_storage D) (storages c)
  comp_shared (func ps rs) h =
      stored_vals E (map (map_val at) ps) (map (map_val at) rs)
      ∙ (λ i. vals_shared ps (all-left IsHere (flat_map refs_val ps) (flat_map refs_val rs) h) i && vals_shared rs (all-right IsHere (flat_map refs_val ps) (flat_map refs_val rs) h) i)
      ∙ sym (stored_vals D ps rs)
  comp_shared (array x) h = λ i. storage_shared x.storage h i && true
  comp_shared (struct xs) h = fields_shared xs h
  comp_shared (cont r) h = refl

  -- continuations
  func_kept : (c : Comp ℕ) → is_func (map_comp at c) ≡ is_func c
  func_kept (func ps rs) = refl
  func_kept (array x) = refl
  func_kept (struct xs) = refl
  func_kept (cont r) = refl

  found_here : {P : Type 0} (o : Option (Sub ℕ)) (t : Sub S) → option_map (map_sub at) o ≡ Some t → ((s : Sub ℕ) → o ≡ Some s → map_sub at s ≡ t → P) → P
  found_here None t e f = absurd (none-some t e)
  found_here (Some s) t e f = f s refl (same_Some (map_sub at s) t e)

  function_match : (i : ℕ) → IsHere i → IsFunction D i ↔ IsFunction E (at i)
  function_match i h = (
    (λ m. record { sub = map_sub at m.sub; declares = same i h ∙ ap (option_map (map_sub at)) m.declares; function = func_kept m.sub.comp ∙ m.function }),
    (λ m. found_here (D i) m.sub (sym (same i h) ∙ m.declares) (λ s e f. record { sub = s; declares = e; function = sym (func_kept s.comp) ∙ ap (λ (t : Sub S). is_func t.comp) f ∙ m.function })),
  )

  pub continuation_match : (c : Comp ℕ) → AreHere (refs_comp c) → IsContinuationOfFunction D c ↔ IsContinuationOfFunction E (map_comp at c)
  continuation_match (cont r) h = function_match r (All-head IsHere r [] h)
  continuation_match (func ps rs) h = ((λ m. m), (λ m. m))
  continuation_match (array x) h = ((λ m. m), (λ m. m))
  continuation_match (struct xs) h = ((λ m. m), (λ m. m))
