-- The declared order of types, and matching as an order.
use Rattle.std.proofs.Common.{◌≡◌, refl, sym, ap, ◌∙◌, subst, ℕ, zero, suc, ◌+◌, ◌-◌, ◌<◌, ◌≤◌, Bool, true, false, true≢false, List, [], ◌∷◌, ◌++◌, flat_map, slice_get, Option, Some, None, unwrap_or, arith}
use Rattle.std.specs.Prelude.{⊤, IsTrue, IfSome}
use Rattle.std.specs.Option.{option_and_then}
use Rattle.std.specs.List.{AllZip, AllByRecursion, Contains}
use Rattle.std.proofs.lemmas.Option.{option_and_then_some, none-some}
use Rattle.std.proofs.lemmas.List.Elements.{recursion_from_All, All-contains}
use Rattle.wasm_spec.specs.Syntax.{AbstractHeap, any_heap, eq_heap, i31_heap, struct_heap, array_heap, none_heap, func_heap, nofunc_heap, extern_heap, noextern_heap, exn_heap, noexn_heap, cont_heap, nocont_heap, Heap, abstract_heap, concrete, exact, Ref, Val, i32, i64, f32, f64, v128, reference, Storage, i8, i16, unpacked, Field, Comp, func, array, struct, cont, Sub}
use Rattle.wasm_spec.specs.References.{refs_option, refs_heap, refs_val, refs_storage, refs_field, refs_comp, refs_sub}
use Rattle.wasm_spec.specs.Features.{Features}
use Rattle.wasm_spec.specs.SupertypeOrder.{supertype, supertype_of, ancestor_at, IsAncestor}
use Rattle.wasm_spec.specs.Matching.{AbstractRule, none-i31, none-struct, none-array, i31-eq, struct-eq, array-eq, eq-any, nofunc-func, noextern-extern, noexn-exn, nocont-cont, MatchesAbstract, itself, further, kind_of, bottom_of, MatchesKind, IsAboveBottom, MatchesHeap, MatchesRef, MatchesVal, MatchesStorage, MatchesField, MatchesFields, MatchesComp, MatchesSub}
use Rattle.wasm_spec.specs.GroupRules.{OfSupertype, IsValidType}
use Rattle.wasm_spec.specs.TypeLaws.{AreAccepted, AcceptedTypesMatchAncestors, IsLike, KeepsKind, EndsAbove, MatchingIsReflexive, MatchingIsTransitive, MatchingIsAntisymmetric}

pub some-injective : {X : Type 0} (x y : X) → Some x ≡ Some y → x ≡ y
some-injective x y e = ap (λ o. unwrap_or o x) e

abbrev Each : {X : Type 0} → (X → Type 0) → List X → Type 0
Each P xs = AllByRecursion P xs

-- abstract heap types
MatchesAbstract-trans : {a b c : AbstractHeap} → MatchesAbstract a b → MatchesAbstract b c → MatchesAbstract a c
MatchesAbstract-trans itself q = q
MatchesAbstract-trans (further s p) q = further s (MatchesAbstract-trans p q)

-- each rule goes up
abbrev pub height : AbstractHeap → ℕ
height any_heap = 3
height eq_heap = 2
height i31_heap = 1
height struct_heap = 1
height array_heap = 1
height func_heap = 1
height extern_heap = 1
height exn_heap = 1
height cont_heap = 1
height _ = 0

rule_goes_up : {a b : AbstractHeap} → AbstractRule a b → height a < height b
rule_goes_up none-i31 = omega arith
rule_goes_up none-struct = omega arith
rule_goes_up none-array = omega arith
rule_goes_up i31-eq = omega arith
rule_goes_up struct-eq = omega arith
rule_goes_up array-eq = omega arith
rule_goes_up eq-any = omega arith
rule_goes_up nofunc-func = omega arith
rule_goes_up noextern-extern = omega arith
rule_goes_up noexn-exn = omega arith
rule_goes_up nocont-cont = omega arith

pub goes_up : {a b : AbstractHeap} → MatchesAbstract a b → height a ≤ height b
goes_up itself = omega arith
goes_up (further s p) = omega (arith, rule_goes_up s, goes_up p)

pub MatchesAbstract-antisym : {a b : AbstractHeap} → MatchesAbstract a b → MatchesAbstract b a → a ≡ b
MatchesAbstract-antisym itself q = refl
MatchesAbstract-antisym (further s p) q = absurd (omega (arith, rule_goes_up s, goes_up p, goes_up q))

-- the kinds of composite types, and what is below them
abbrev IsBottom : AbstractHeap → Type 0
IsBottom none_heap = ⊤
IsBottom nofunc_heap = ⊤
IsBottom noextern_heap = ⊤
IsBottom noexn_heap = ⊤
IsBottom nocont_heap = ⊤
IsBottom _ = ⊥

rule_from_bottom : {j k : AbstractHeap} → AbstractRule j k → ¬ IsBottom k
rule_from_bottom none-i31 h = h
rule_from_bottom none-struct h = h
rule_from_bottom none-array h = h
rule_from_bottom i31-eq h = h
rule_from_bottom struct-eq h = h
rule_from_bottom array-eq h = h
rule_from_bottom eq-any h = h
rule_from_bottom nofunc-func h = h
rule_from_bottom noextern-extern h = h
rule_from_bottom noexn-exn h = h
rule_from_bottom nocont-cont h = h

below_bottom : {j k : AbstractHeap} → MatchesAbstract j k → IsBottom k → j ≡ k
below_bottom itself h = refl
below_bottom (further s p) h = absurd (rule_from_bottom s (subst IsBottom (sym (below_bottom p h)) h))

abbrev bottom_of_kind : AbstractHeap → AbstractHeap
bottom_of_kind func_heap = nofunc_heap
bottom_of_kind cont_heap = nocont_heap
bottom_of_kind _ = none_heap

module _ {R : Type 0} where
  bottom_is_bottom : (c : Comp R) → IsBottom (bottom_of c)
  bottom_is_bottom (func ps rs) = tt
  bottom_is_bottom (array x) = tt
  bottom_is_bottom (struct xs) = tt
  bottom_is_bottom (cont a) = tt

  kind_is_no_bottom : (c : Comp R) → ¬ IsBottom (kind_of c)
  kind_is_no_bottom (func ps rs) h = h
  kind_is_no_bottom (array x) h = h
  kind_is_no_bottom (struct xs) h = h
  kind_is_no_bottom (cont a) h = h

  bottom_by_kind : (c : Comp R) → bottom_of c ≡ bottom_of_kind (kind_of c)
  bottom_by_kind (func ps rs) = refl
  bottom_by_kind (array x) = refl
  bottom_by_kind (struct xs) = refl
  bottom_by_kind (cont a) = refl

  bottom_matches : (c : Comp R) → MatchesAbstract (bottom_of c) (kind_of c)
  bottom_matches (func ps rs) = further nofunc-func itself
  bottom_matches (array x) = further none-array itself
  bottom_matches (struct xs) = further none-struct itself
  bottom_matches (cont a) = further nocont-cont itself

module _ {R : Type 0} (D : R → Option (Sub R)) where
  -- the declared order
  IsAncestor-refl : (a : R) → IsAncestor D a a
  IsAncestor-refl a = record { steps = 0; leads = refl }

  ancestor_from : (m : ℕ) (a b c : R) → ancestor_at D m a ≡ Some b → IsAncestor D b c → IsAncestor D a c
  ancestor_from zero a b c e q = subst (λ x. IsAncestor D x c) (sym (some-injective a b e)) q
  ancestor_from (suc m) a b c e q = option_and_then_some (ancestor_at D m) (supertype_of D a) b e
      (λ x f g. let h = ancestor_from m x b c g q in record { steps = suc h.steps; leads = ap (option_and_then (ancestor_at D h.steps)) f ∙ h.leads })

  pub IsAncestor-trans : {a b c : R} → IsAncestor D a b → IsAncestor D b c → IsAncestor D a c
  IsAncestor-trans {a} {b} {c} p q = ancestor_from p.steps a b c p.leads q

  then_ancestor : (m n : ℕ) → ((a : R) → ancestor_at D (m + n) a ≡ option_and_then (ancestor_at D n) (ancestor_at D m a)) → (o : Option R) → option_and_then (ancestor_at D (m + n)) o ≡ option_and_then (ancestor_at D n) (option_and_then (ancestor_at D m) o)
  then_ancestor m n h None = refl
  then_ancestor m n h (Some x) = h x

  pub ancestor_at-add : (m n : ℕ) (a : R) → ancestor_at D (m + n) a ≡ option_and_then (ancestor_at D n) (ancestor_at D m a)
  ancestor_at-add zero n a = let e : zero + n ≡ n = omega arith in ap (λ k. ancestor_at D k a) e
  ancestor_at-add (suc m) n a =
      let e : suc m + n ≡ suc (m + n) = omega arith in
      ap (λ k. ancestor_at D k a) e ∙ then_ancestor m n (ancestor_at-add m n) (supertype_of D a)

  -- a chain that comes back goes on for ever
  loops : (p : ℕ) (a : R) → 0 < p → ancestor_at D p a ≡ Some a → (k : ℕ) → (j : ℕ) × (k ≤ j) × (ancestor_at D j a ≡ Some a)
  loops p a h e zero = (0, omega arith, refl)
  loops p a h e (suc k) =
      let l = loops p a h e k in
      let le : k ≤ l.0 = l.1 in
      (p + l.0, omega (arith, le, h), ancestor_at-add p l.0 a ∙ ap (option_and_then (ancestor_at D l.0)) e ∙ l.2)

  no_loop : (p : ℕ) (a : R) → EndsAbove D a → 0 < p → ancestor_at D p a ≡ Some a → ⊥
  no_loop p a h l e =
      let j = loops p a l e h.steps in
      let le : h.steps ≤ j.0 = j.1 in
      let split : j.0 ≡ h.steps + (j.0 - h.steps) = omega (arith, le) in
      none-some a (sym (ap (option_and_then (ancestor_at D (j.0 - h.steps))) h.ends) ∙ sym (ancestor_at-add h.steps (j.0 - h.steps) a) ∙ ap (λ k. ancestor_at D k a) (sym split) ∙ j.2)

  come_back : (m n : ℕ) (a b : R) → EndsAbove D a → ancestor_at D m a ≡ Some b → ancestor_at D n b ≡ Some a → a ≡ b
  come_back zero n a b h e f = some-injective a b e
  come_back (suc m) n a b h e f = absurd (no_loop (suc m + n) a h (omega arith) (ancestor_at-add (suc m) n a ∙ ap (option_and_then (ancestor_at D n)) e ∙ f))

  IsAncestor-antisym : (a b : R) → EndsAbove D a → IsAncestor D a b → IsAncestor D b a → a ≡ b
  IsAncestor-antisym a b h p q = come_back p.steps q.steps a b h p.leads q.leads

  -- what has a declared ancestor is declared
  declared_from : (m : ℕ) (a b : R) (d : Sub R) → ancestor_at D m a ≡ Some b → D b ≡ Some d → (s : Sub R) × (D a ≡ Some s)
  declared_from zero a b d e f = (d, ap D (some-injective a b e) ∙ f)
  declared_from (suc m) a b d e f = option_and_then_some (ancestor_at D m) (supertype_of D a) b e
      (λ x g h. option_and_then_some supertype (D a) x g (λ s k l. (s, k)))

  one_declared : {o : Option (Sub R)} {s t : Sub R} → o ≡ Some s → o ≡ Some t → s ≡ t
  one_declared {s = s} {t = t} e f = some-injective s t (sym e ∙ f)

  -- kinds up and down the declared order
  kind_down : {a b : R} {s : Bool} {k : AbstractHeap} → KeepsKind D a → IsAncestor D a b → MatchesKind D b s k → MatchesKind D a s k
  kind_down {a} {b} {s} {k} h p q =
      let below = declared_from p.steps a b q.sub p.leads q.declares in
      let l = h b below.0 p below.1 in
      let same : q.sub ≡ l.sub = one_declared q.declares l.declares in
      record {
        sub = below.0;
        declares = below.1;
        same_shared = sym l.same_shared ∙ sym (ap (λ (x : Sub R). x.shared) same) ∙ q.same_shared;
        matches = subst (λ j. MatchesAbstract j k) (ap (λ (x : Sub R). kind_of x.comp) same ∙ l.same_kind) q.matches;
      }

  bottom_up : {a b : R} {s : Bool} {k : AbstractHeap} → KeepsKind D a → IsAncestor D a b → IsAboveBottom D a s k → IsAboveBottom D b s k
  bottom_up {a} {b} h p q =
      let l = h b q.sub p q.declares in
      record {
        sub = l.sub;
        declares = l.declares;
        same_shared = l.same_shared ∙ q.same_shared;
        is_bottom = bottom_by_kind l.sub.comp ∙ ap bottom_of_kind l.same_kind ∙ sym (bottom_by_kind q.sub.comp) ∙ q.is_bottom;
      }

  bottom_down : {a : R} {s : Bool} {j k : AbstractHeap} → MatchesAbstract j k → IsAboveBottom D a s k → IsAboveBottom D a s j
  bottom_down p q = record { sub = q.sub; declares = q.declares; same_shared = q.same_shared; is_bottom = q.is_bottom ∙ sym (below_bottom p (subst IsBottom q.is_bottom (bottom_is_bottom q.sub.comp))) }

  never : {a b : R} {s t : Bool} {k : AbstractHeap} → MatchesKind D a s k → IsAboveBottom D b t k → ⊥
  never p q =
      let h = subst IsBottom q.is_bottom (bottom_is_bottom q.sub.comp) in
      kind_is_no_bottom p.sub.comp (subst IsBottom (sym (below_bottom p.matches h)) h)

  kind_up : {a : R} {s t : Bool} {j k : AbstractHeap} → MatchesKind D a s j → s ≡ t → MatchesAbstract j k → MatchesKind D a t k
  kind_up p e q = record { sub = p.sub; declares = p.declares; same_shared = p.same_shared ∙ e; matches = MatchesAbstract-trans p.matches q }

  through : {a : R} {s t : Bool} {j k : AbstractHeap} → IsAboveBottom D a s j → MatchesKind D a t k → (s ≡ t) × MatchesAbstract j k
  through {s = s} {t = t} {j = j} {k = k} p q =
      let same : p.sub ≡ q.sub = one_declared p.declares q.declares in (
        sym p.same_shared ∙ ap (λ (x : Sub R). x.shared) same ∙ q.same_shared,
        subst (λ i. MatchesAbstract i k) (ap (λ (x : Sub R). bottom_of x.comp) (sym same) ∙ p.is_bottom) (MatchesAbstract-trans (bottom_matches q.sub.comp) q.matches),
      )

  -- heap types
  pub MatchesHeap-refl : (h : Heap R) → MatchesHeap D h h
  MatchesHeap-refl (abstract_heap s k) = (refl, itself)
  MatchesHeap-refl (concrete a) = IsAncestor-refl a
  MatchesHeap-refl (exact a) = refl

  pub MatchesHeap-trans : (h k l : Heap R) → Each (KeepsKind D) (refs_heap h) → Each (KeepsKind D) (refs_heap k) → MatchesHeap D h k → MatchesHeap D k l → MatchesHeap D h l
  MatchesHeap-trans (abstract_heap s i) (abstract_heap t j) (abstract_heap u k) v w p q = (p.0 ∙ q.0, MatchesAbstract-trans p.1 q.1)
  MatchesHeap-trans (abstract_heap s i) (abstract_heap t j) (concrete c) v w p q = subst (λ b. IsAboveBottom D c b i) (sym p.0) (bottom_down p.1 q)
  MatchesHeap-trans (abstract_heap s i) (abstract_heap t j) (exact c) v w p q = subst (λ b. IsAboveBottom D c b i) (sym p.0) (bottom_down p.1 q)
  MatchesHeap-trans (abstract_heap s i) (concrete b) (abstract_heap u k) v w p q = through p q
  MatchesHeap-trans (abstract_heap s i) (concrete b) (concrete c) v w p q = bottom_up w.0 q p
  MatchesHeap-trans (abstract_heap s i) (concrete b) (exact c) v w p q = absurd q
  MatchesHeap-trans (abstract_heap s i) (exact b) (abstract_heap u k) v w p q = through p q
  MatchesHeap-trans (abstract_heap s i) (exact b) (concrete c) v w p q = bottom_up w.0 q p
  MatchesHeap-trans (abstract_heap s i) (exact b) (exact c) v w p q = subst (λ x. IsAboveBottom D x s i) q p
  MatchesHeap-trans (concrete a) (abstract_heap t j) (abstract_heap u k) v w p q = kind_up p q.0 q.1
  MatchesHeap-trans (concrete a) (abstract_heap t j) (concrete c) v w p q = absurd (never p q)
  MatchesHeap-trans (concrete a) (abstract_heap t j) (exact c) v w p q = absurd (never p q)
  MatchesHeap-trans (concrete a) (concrete b) (abstract_heap u k) v w p q = kind_down v.0 p q
  MatchesHeap-trans (concrete a) (concrete b) (concrete c) v w p q = IsAncestor-trans p q
  MatchesHeap-trans (concrete a) (concrete b) (exact c) v w p q = absurd q
  MatchesHeap-trans (concrete a) (exact b) l v w p q = absurd p
  MatchesHeap-trans (exact a) (abstract_heap t j) (abstract_heap u k) v w p q = kind_up p q.0 q.1
  MatchesHeap-trans (exact a) (abstract_heap t j) (concrete c) v w p q = absurd (never p q)
  MatchesHeap-trans (exact a) (abstract_heap t j) (exact c) v w p q = absurd (never p q)
  MatchesHeap-trans (exact a) (concrete b) (abstract_heap u k) v w p q = kind_down v.0 p q
  MatchesHeap-trans (exact a) (concrete b) (concrete c) v w p q = IsAncestor-trans p q
  MatchesHeap-trans (exact a) (concrete b) (exact c) v w p q = absurd q
  MatchesHeap-trans (exact a) (exact b) l v w p q = subst (λ x. MatchesHeap D (exact x) l) (sym p) q

  pub MatchesHeap-antisym : (h k : Heap R) → Each (EndsAbove D) (refs_heap h) → MatchesHeap D h k → MatchesHeap D k h → h ≡ k
  MatchesHeap-antisym (abstract_heap s i) (abstract_heap t j) v p q = λ n. abstract_heap (p.0 n) (MatchesAbstract-antisym p.1 q.1 n)
  MatchesHeap-antisym (abstract_heap s i) (concrete b) v p q = absurd (never q p)
  MatchesHeap-antisym (abstract_heap s i) (exact b) v p q = absurd (never q p)
  MatchesHeap-antisym (concrete a) (abstract_heap t j) v p q = absurd (never p q)
  MatchesHeap-antisym (concrete a) (concrete b) v p q = ap concrete (IsAncestor-antisym a b v.0 p q)
  MatchesHeap-antisym (concrete a) (exact b) v p q = absurd p
  MatchesHeap-antisym (exact a) (abstract_heap t j) v p q = absurd (never p q)
  MatchesHeap-antisym (exact a) (concrete b) v p q = absurd q
  MatchesHeap-antisym (exact a) (exact b) v p q = ap exact p

  -- reference types and value types
  pub MatchesRef-refl : (r : Ref R) → MatchesRef D r r
  MatchesRef-refl r = (λ n. n, MatchesHeap-refl r.heap)

  pub MatchesRef-trans : (r s t : Ref R) → Each (KeepsKind D) (refs_heap r.heap) → Each (KeepsKind D) (refs_heap s.heap) → MatchesRef D r s → MatchesRef D s t → MatchesRef D r t
  MatchesRef-trans r s t v w p q = (λ n. q.0 (p.0 n), MatchesHeap-trans r.heap s.heap t.heap v w p.1 q.1)

  same_flag : (a b : Bool) → (IsTrue a → IsTrue b) → (IsTrue b → IsTrue a) → a ≡ b
  same_flag true b p q = sym (p refl)
  same_flag false true p q = absurd (true≢false (sym (q refl)))
  same_flag false false p q = refl

  MatchesRef-antisym : (r s : Ref R) → Each (EndsAbove D) (refs_heap r.heap) → MatchesRef D r s → MatchesRef D s r → r ≡ s
  MatchesRef-antisym r s v p q = λ i. record { nullable = same_flag r.nullable s.nullable p.0 q.0 i; heap = MatchesHeap-antisym r.heap s.heap v p.1 q.1 i }

  pub MatchesVal-refl : (v : Val R) → MatchesVal D v v
  MatchesVal-refl i32 = tt
  MatchesVal-refl i64 = tt
  MatchesVal-refl f32 = tt
  MatchesVal-refl f64 = tt
  MatchesVal-refl v128 = tt
  MatchesVal-refl (reference r) = MatchesRef-refl r

  pub MatchesVal-trans : (v w x : Val R) → Each (KeepsKind D) (refs_val v) → Each (KeepsKind D) (refs_val w) → MatchesVal D v w → MatchesVal D w x → MatchesVal D v x
  MatchesVal-trans i32 i32 x h k p q = q
  MatchesVal-trans i64 i64 x h k p q = q
  MatchesVal-trans f32 f32 x h k p q = q
  MatchesVal-trans f64 f64 x h k p q = q
  MatchesVal-trans v128 v128 x h k p q = q
  MatchesVal-trans (reference r) (reference s) (reference t) h k p q = MatchesRef-trans r s t h k p q
  MatchesVal-trans (reference r) (reference s) x h k p q = absurd q
  MatchesVal-trans v w x h k p q = absurd p

  pub MatchesVal-antisym : (v w : Val R) → Each (EndsAbove D) (refs_val v) → MatchesVal D v w → MatchesVal D w v → v ≡ w
  MatchesVal-antisym i32 i32 h p q = refl
  MatchesVal-antisym i64 i64 h p q = refl
  MatchesVal-antisym f32 f32 h p q = refl
  MatchesVal-antisym f64 f64 h p q = refl
  MatchesVal-antisym v128 v128 h p q = refl
  MatchesVal-antisym (reference r) (reference s) h p q = ap reference (MatchesRef-antisym r s h p q)
  MatchesVal-antisym v w h p q = absurd p

  -- composite types
  MatchesVals-refl : (vs : List (Val R)) → AllZip (MatchesVal D) vs vs
  MatchesVals-refl [] = tt
  MatchesVals-refl (v ∷ vs) = (MatchesVal-refl v, MatchesVals-refl vs)

  MatchesStorage-refl : (s : Storage R) → MatchesStorage D s s
  MatchesStorage-refl i8 = tt
  MatchesStorage-refl i16 = tt
  MatchesStorage-refl (unpacked v) = MatchesVal-refl v

  MatchesField-refl : (x : Field R) → MatchesField D x x
  MatchesField-refl x = record { same_mutable = refl; storage = MatchesStorage-refl x.storage; back = λ _. MatchesStorage-refl x.storage }

  MatchesFields-refl : (xs : List (Field R)) → MatchesFields D xs xs
  MatchesFields-refl [] = tt
  MatchesFields-refl (x ∷ xs) = (MatchesField-refl x, MatchesFields-refl xs)

  pub MatchesComp-refl : (c : Comp R) → MatchesComp D c c
  MatchesComp-refl (func ps rs) = (MatchesVals-refl ps, MatchesVals-refl rs)
  MatchesComp-refl (array x) = MatchesField-refl x
  MatchesComp-refl (struct xs) = MatchesFields-refl xs
  MatchesComp-refl (cont a) = IsAncestor-refl a

  pub MatchesSub-refl : (s : Sub R) → MatchesSub D s s
  MatchesSub-refl s = record { same_shared = refl; comp = MatchesComp-refl s.comp }

  -- what holds of each item of two lists holds of each of both
  each_left : (P : R → Type 0) (xs ys : List R) → Each P (xs ++ ys) → Each P xs
  each_left P [] ys h = tt
  each_left P (x ∷ xs) ys h = (h.0, each_left P xs ys h.1)

  each_right : (P : R → Type 0) (xs ys : List R) → Each P (xs ++ ys) → Each P ys
  each_right P [] ys h = h
  each_right P (x ∷ xs) ys h = each_right P xs ys h.1

  MatchesVals-trans : (vs ws xs : List (Val R)) → Each (KeepsKind D) (flat_map refs_val vs) → Each (KeepsKind D) (flat_map refs_val ws) → AllZip (MatchesVal D) vs ws → AllZip (MatchesVal D) ws xs → AllZip (MatchesVal D) vs xs
  MatchesVals-trans [] [] xs h k p q = q
  MatchesVals-trans (v ∷ vs) (w ∷ ws) (x ∷ xs) h k p q = (
    MatchesVal-trans v w x (each_left (KeepsKind D) (refs_val v) (flat_map refs_val vs) h) (each_left (KeepsKind D) (refs_val w) (flat_map refs_val ws) k) p.0 q.0,
    MatchesVals-trans vs ws xs (each_right (KeepsKind D) (refs_val v) (flat_map refs_val vs) h) (each_right (KeepsKind D) (refs_val w) (flat_map refs_val ws) k) p.1 q.1,
  )
  MatchesVals-trans (v ∷ vs) (w ∷ ws) [] h k p q = absurd q
  MatchesVals-trans vs ws xs h k p q = absurd p

  MatchesStorage-trans : (s t u : Storage R) → Each (KeepsKind D) (refs_storage s) → Each (KeepsKind D) (refs_storage t) → MatchesStorage D s t → MatchesStorage D t u → MatchesStorage D s u
  MatchesStorage-trans i8 i8 u h k p q = q
  MatchesStorage-trans i16 i16 u h k p q = q
  MatchesStorage-trans (unpacked v) (unpacked w) (unpacked x) h k p q = MatchesVal-trans v w x h k p q
  MatchesStorage-trans (unpacked v) (unpacked w) u h k p q = absurd q
  MatchesStorage-trans s t u h k p q = absurd p

  MatchesField-trans : (x y z : Field R) → Each (KeepsKind D) (refs_field x) → Each (KeepsKind D) (refs_field y) → Each (KeepsKind D) (refs_field z) → MatchesField D x y → MatchesField D y z → MatchesField D x z
  MatchesField-trans x y z h k l p q = record {
    same_mutable = p.same_mutable ∙ q.same_mutable;
    storage = MatchesStorage-trans x.storage y.storage z.storage h k p.storage q.storage;
    back = λ m. MatchesStorage-trans z.storage y.storage x.storage l k (q.back (sym p.same_mutable ∙ m)) (p.back m);
  }

  MatchesFields-trans : (xs ys zs : List (Field R)) → Each (KeepsKind D) (flat_map refs_field xs) → Each (KeepsKind D) (flat_map refs_field ys) → Each (KeepsKind D) (flat_map refs_field zs) → MatchesFields D xs ys → MatchesFields D ys zs → MatchesFields D xs zs
  MatchesFields-trans xs ys [] h k l p q = tt
  MatchesFields-trans (x ∷ xs) (y ∷ ys) (z ∷ zs) h k l p q = (
    MatchesField-trans x y z (each_left (KeepsKind D) (refs_field x) (flat_map refs_field xs) h) (each_left (KeepsKind D) (refs_field y) (flat_map refs_field ys) k) (each_left (KeepsKind D) (refs_field z) (flat_map refs_field zs) l) p.0 q.0,
    MatchesFields-trans xs ys zs (each_right (KeepsKind D) (refs_field x) (flat_map refs_field xs) h) (each_right (KeepsKind D) (refs_field y) (flat_map refs_field ys) k) (each_right (KeepsKind D) (refs_field z) (flat_map refs_field zs) l) p.1 q.1,
  )
  MatchesFields-trans xs [] (z ∷ zs) h k l p q = absurd q
  MatchesFields-trans [] (y ∷ ys) (z ∷ zs) h k l p q = absurd p

  pub MatchesComp-trans : (c d e : Comp R) → Each (KeepsKind D) (refs_comp c) → Each (KeepsKind D) (refs_comp d) → Each (KeepsKind D) (refs_comp e) → MatchesComp D c d → MatchesComp D d e → MatchesComp D c e
  MatchesComp-trans (func ps rs) (func qs ss) (func us vs) h k l p q = (
    MatchesVals-trans us qs ps (each_left (KeepsKind D) (flat_map refs_val us) (flat_map refs_val vs) l) (each_left (KeepsKind D) (flat_map refs_val qs) (flat_map refs_val ss) k) q.0 p.0,
    MatchesVals-trans rs ss vs (each_right (KeepsKind D) (flat_map refs_val ps) (flat_map refs_val rs) h) (each_right (KeepsKind D) (flat_map refs_val qs) (flat_map refs_val ss) k) p.1 q.1,
  )
  MatchesComp-trans (array x) (array y) (array z) h k l p q = MatchesField-trans x y z h k l p q
  MatchesComp-trans (struct xs) (struct ys) (struct zs) h k l p q = MatchesFields-trans xs ys zs h k l p q
  MatchesComp-trans (cont a) (cont b) (cont c) h k l p q = IsAncestor-trans p q
  MatchesComp-trans (func ps rs) (func qs ss) e h k l p q = absurd q
  MatchesComp-trans (array x) (array y) e h k l p q = absurd q
  MatchesComp-trans (struct xs) (struct ys) e h k l p q = absurd q
  MatchesComp-trans (cont a) (cont b) e h k l p q = absurd q
  MatchesComp-trans c d e h k l p q = absurd p

  pub MatchesSub-trans : (s t u : Sub R) → Each (KeepsKind D) (refs_comp s.comp) → Each (KeepsKind D) (refs_comp t.comp) → Each (KeepsKind D) (refs_comp u.comp) → MatchesSub D s t → MatchesSub D t u → MatchesSub D s u
  MatchesSub-trans s t u h k l p q = record { same_shared = p.same_shared ∙ q.same_shared; comp = MatchesComp-trans s.comp t.comp u.comp h k l p.comp q.comp }

  -- composite types that match are of one kind
  same_kind : (c d : Comp R) → MatchesComp D c d → kind_of d ≡ kind_of c
  same_kind (func ps rs) (func qs ss) p = refl
  same_kind (array x) (array y) p = refl
  same_kind (struct xs) (struct ys) p = refl
  same_kind (cont a) (cont b) p = refl
  same_kind c d p = absurd p

  -- types P of which each matches its supertype and mentions only others of them
  module _ (P : R → Type 0) (mentions : (a : R) (s : Sub R) → P a → D a ≡ Some s → Each P (refs_sub s)) (declares : (a : R) → P a → (s : Sub R) × (D a ≡ Some s)) (matches : (a : R) (s : Sub R) → P a → D a ≡ Some s → OfSupertype D s (MatchesSub D s)) where
    first_of : (supers rest : List R) (x : R) → Each P (supers ++ rest) → slice_get supers 0 ≡ Some x → P x
    first_of [] rest x h e = absurd (none-some x e)
    first_of (y ∷ ys) rest x h e = subst P (some-injective y x e) h.0

    -- the link from a to its supertype x
    abbrev Link : R → R → Type 0
    Link a x = (s t : Sub R) → D a ≡ Some s → D x ≡ Some t → MatchesSub D s t

    link : (a x : R) → P a → supertype_of D a ≡ Some x → P x × Link a x
    link a x h e =
        let s = declares a h in
        let e₁ : supertype s.0 ≡ Some x = ap (option_and_then supertype) (sym s.1) ∙ e in (
          first_of s.0.supers (refs_option s.0.describes ++ (refs_option s.0.descriptor ++ refs_comp s.0.comp)) x (mentions a s.0 h s.1) e₁,
          λ t u f g. subst (λ o. IfSome o (MatchesSub D t)) (ap (option_and_then D) (ap (option_and_then supertype) (sym f) ∙ e) ∙ g) (matches a t h f),
        )

    keeps_from : (m : ℕ) (a b : R) (s : Sub R) → P a → ancestor_at D m a ≡ Some b → D a ≡ Some s → IsLike D b s
    keeps_from zero a b s h e f = record { sub = s; declares = ap D (sym (some-injective a b e)) ∙ f; same_shared = refl; same_kind = refl }
    keeps_from (suc m) a b s h e f = option_and_then_some (ancestor_at D m) (supertype_of D a) b e
        (λ x g k.
        let l = link a x h g in
        let t = declares x l.0 in
        let m₁ = l.1 s t.0 f t.1 in
        let r = keeps_from m x b t.0 l.0 k t.1 in
        record { sub = r.sub; declares = r.declares; same_shared = r.same_shared ∙ sym m₁.same_shared; same_kind = r.same_kind ∙ same_kind s.comp t.0.comp m₁.comp })

    pub keeps_kind : (a : R) → P a → KeepsKind D a
    keeps_kind a h b s p f = keeps_from p.steps a b s h p.leads f

    each_keeps : (xs : List R) → Each P xs → Each (KeepsKind D) xs
    each_keeps [] h = tt
    each_keeps (x ∷ xs) h = (keeps_kind x h.0, each_keeps xs h.1)

    comp_keeps : (a : R) (s : Sub R) → P a → D a ≡ Some s → Each (KeepsKind D) (refs_comp s.comp)
    comp_keeps a s h e =
        let u = each_right P s.supers (refs_option s.describes ++ (refs_option s.descriptor ++ refs_comp s.comp)) (mentions a s h e) in
        let v = each_right P (refs_option s.describes) (refs_option s.descriptor ++ refs_comp s.comp) u in
        each_keeps (refs_comp s.comp) (each_right P (refs_option s.descriptor) (refs_comp s.comp) v)

    ancestor_kept : (m : ℕ) (a b : R) → P a → ancestor_at D m a ≡ Some b → P b
    ancestor_kept zero a b h e = subst P (some-injective a b e) h
    ancestor_kept (suc m) a b h e = option_and_then_some (ancestor_at D m) (supertype_of D a) b e (λ x g k. ancestor_kept m x b (link a x h g).0 k)

    matches_from : (m : ℕ) (a b : R) (s t : Sub R) → P a → ancestor_at D m a ≡ Some b → D a ≡ Some s → D b ≡ Some t → MatchesSub D s t
    matches_from zero a b s t h e f g = subst (λ x. MatchesSub D s x) (one_declared (sym (ap D (some-injective a b e)) ∙ f) g) (MatchesSub-refl s)
    matches_from (suc m) a b s t h e f g = option_and_then_some (ancestor_at D m) (supertype_of D a) b e
        (λ x k l.
        let y = link a x h k in
        let u = declares x y.0 in
        MatchesSub-trans s u.0 t (comp_keeps a s h f) (comp_keeps x u.0 y.0 u.1) (comp_keeps b t (ancestor_kept m x b y.0 l) g) (y.1 s u.0 f u.1) (matches_from m x b u.0 t y.0 l u.1 g))

-- accepted types
module _ {R : Type 0} (F : Features) (D : R → Option (Sub R)) (ts : List R) (h : AreAccepted F D ts) where
  valid : (a : R) → Contains ts a → IsValidType F D a
  valid a i = All-contains (IsValidType F D) ts a h.valid i

  accepted_mentions : (a : R) (s : Sub R) → Contains ts a → D a ≡ Some s → Each (Contains ts) (refs_sub s)
  accepted_mentions a s i e = recursion_from_All _ _ (h.mentioned a s i e)

  accepted_declares : (a : R) → Contains ts a → (s : Sub R) × (D a ≡ Some s)
  accepted_declares a i = let v = valid a i in (v.sub, v.declares)

  accepted_matches : (a : R) (s : Sub R) → Contains ts a → D a ≡ Some s → OfSupertype D s (MatchesSub D s)
  accepted_matches a s i e =
      let v = valid a i in
      subst (λ t. OfSupertype D t (MatchesSub D t)) (some-injective v.sub s (sym v.declares ∙ e)) v.rules.matches_supertype

  accepted_keeps : (a : R) → Contains ts a → KeepsKind D a
  accepted_keeps = keeps_kind D (Contains ts) accepted_mentions accepted_declares accepted_matches

  accepted_ends : (a : R) → Contains ts a → EndsAbove D a
  accepted_ends a i = record { steps = 64; ends = (valid a i).rules.few_ancestors }

  accepted_ancestors_match : (a b : R) (s t : Sub R) → Contains ts a → IsAncestor D a b → D a ≡ Some s → D b ≡ Some t → MatchesSub D s t
  accepted_ancestors_match a b s t i p = matches_from D (Contains ts) accepted_mentions accepted_declares accepted_matches p.steps a b s t i p.leads

pub accepted_types_match_ancestors : {R : Type 0} → AcceptedTypesMatchAncestors R
accepted_types_match_ancestors = record { keep_kind = accepted_keeps; end_above = accepted_ends; match_ancestors = accepted_ancestors_match }

pub matching_is_reflexive : {R : Type 0} → MatchingIsReflexive R
matching_is_reflexive = record { heap_types = MatchesHeap-refl; reference_types = MatchesRef-refl; value_types = MatchesVal-refl; composite_types = MatchesComp-refl; sub_types = MatchesSub-refl }

pub matching_is_transitive : {R : Type 0} → MatchingIsTransitive R
matching_is_transitive = record {
  heap_types = λ D h k l u v. MatchesHeap-trans D h k l (recursion_from_All _ _ u) (recursion_from_All _ _ v);
  reference_types = λ D r s t u v. MatchesRef-trans D r s t (recursion_from_All _ _ u) (recursion_from_All _ _ v);
  value_types = λ D r s t u v. MatchesVal-trans D r s t (recursion_from_All _ _ u) (recursion_from_All _ _ v);
  composite_types = λ D c d e u v w. MatchesComp-trans D c d e (recursion_from_All _ _ u) (recursion_from_All _ _ v) (recursion_from_All _ _ w);
}

pub matching_is_antisymmetric : {R : Type 0} → MatchingIsAntisymmetric R
matching_is_antisymmetric = record {
  heap_types = λ D h k u. MatchesHeap-antisym D h k (recursion_from_All _ _ u);
  value_types = λ D h k u. MatchesVal-antisym D h k (recursion_from_All _ _ u);
}
