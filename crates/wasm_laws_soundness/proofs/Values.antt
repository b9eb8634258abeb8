-- Values and types, place by place; stores that grow; and the uppermost operands.
use Rattle.std.proofs.Common.{◌≡◌, refl, sym, ap, subst, ◌∙◌, ℕ, zero, suc, ◌+◌, ◌-◌, Bool, true, false, ◌||◌, nat_le, ◌==◌, List, [], ◌∷◌, ◌++◌, map, Option, Some, length, take, drop, slice_get, arith}
use Rattle.std.proofs.Math.Seq.{take-append_seam, drop-append_seam}
use Rattle.std.proofs.lemmas.List.{length-append}
use Rattle.std.proofs.lemmas.Bool.{le-leb, eqb-true, eqb-false}
use Rattle.wasm_spec_steps.specs.WasmSpecRules.WasmSpec.Syntax.{exact, Ref, Val, i32, i64, f32, f64, v128, reference}
use Rattle.wasm_spec_steps.specs.WasmSpecRules.WasmSpec.ValueTypes.{implies}
use Rattle.wasm_spec_steps.specs.WasmSpecRules.WasmSpec.Defaults.{has_default}
use Rattle.wasm_spec_steps.specs.WasmSpecRules.WasmSpec.MatchingTests.{World, matches_heap}
use Rattle.wasm_spec_steps.specs.WasmSpecRules.Attempts.{passes, among}
use Rattle.wasm_spec_steps.specs.Bodies.{Local, Surroundings}
use Rattle.wasm_spec_steps.specs.FunctionBodies.{local_taken, local_declared}
use Rattle.wasm_spec_instructions.specs.ValueTypes.{ValueType, bot, reference_to_bot, val, vals, matches_type, Match, none, each, IsInOrder}
use Rattle.wasm_spec_instructions.specs.Scopes.{is_set, AreSet}
use Rattle.wasm_spec_instructions.proofs.Attempts.{no, the_same, absent, and-both}
use Rattle.wasm_laws_soundness.specs.Values.{Value, Store, exception_heap, HasType, is_i32, is_i64, is_f32, is_f64, is_v128, is_null, is_null_of_bot, is_function, is_exception, is_other, HaveTypes, no_values, and_value}
use Rattle.wasm_laws_soundness.specs.Outcomes.{Primitives, cut_if, cut, with_head, put, null_if, default, start_locals}
use Rattle.wasm_laws_soundness.specs.StoreValidity.{Grows, Holds, unset, held, LocalsFit}
use Rattle.wasm_laws_soundness.specs.ValueLaws.{ValuesHaveGreaterTypes, ValuesKeepTheirTypes}

pub length-vals : {R : Type 0} (vs : List (Val R)) → length (vals vs) ≡ length vs
length-vals [] = refl
length-vals (v ∷ vs) = ap suc (length-vals vs)

pub long : {R : Type 0} (gs : List (Val R)) → length gs ≡ length (vals gs)
long gs = sym (length-vals gs)

implied : (a b : Bool) → implies a b ≡ true → a ≡ true → b ≡ true
implied true b e f = e
implied false b e f = no f

module _ {R : Type 0} (W : World R) (o : IsInOrder W) (S : Store R) where
  -- greater types
  pub type-match : {v : Value R} (t u : ValueType R) → matches_type W t u ≡ true → HasType W S v t → HasType W S v u
  type-match (val i32) (val i32) e h = h
  type-match (val i64) (val i64) e h = h
  type-match (val f32) (val f32) e h = h
  type-match (val f64) (val f64) e h = h
  type-match (val v128) (val v128) e h = h
  type-match (val (reference r)) (val (reference q)) e (is_null n) =
      is_null (implied r.nullable q.nullable (and-both (implies r.nullable q.nullable) (matches_heap W r.heap q.heap) e).0 n)
  type-match (val (reference r)) (val (reference q)) e (is_function f i m) =
      is_function f i (o.through (exact f.type) r.heap q.heap m (and-both (implies r.nullable q.nullable) (matches_heap W r.heap q.heap) e).1)
  type-match (val (reference r)) (val (reference q)) e (is_exception x i m) =
      is_exception x i (o.through exception_heap r.heap q.heap m (and-both (implies r.nullable q.nullable) (matches_heap W r.heap q.heap) e).1)
  type-match (val (reference r)) (val (reference q)) e (is_other {h = h} a m) =
      is_other a (o.through h r.heap q.heap m (and-both (implies r.nullable q.nullable) (matches_heap W r.heap q.heap) e).1)
  type-match (reference_to_bot m) (reference_to_bot true) e is_null_of_bot = is_null_of_bot
  type-match (reference_to_bot m) (reference_to_bot false) e is_null_of_bot = no e
  type-match (reference_to_bot m) (val (reference q)) e is_null_of_bot = is_null e
  type-match bot u e h = elim h [ ]
  type-match t u e h = no e

  pub types-match : {vs : List (Value R)} {ts us : List (ValueType R)} → HaveTypes W S vs ts → Match W ts us → HaveTypes W S vs us
  types-match no_values none = no_values
  types-match (and_value {t = t} h hs) (each {w = u} e m) = and_value (type-match t u e h) (types-match hs m)

  pub above-match :
      (rest : List (ValueType R)) {ts us : List (ValueType R)} (vs : List (Value R)) → HaveTypes W S vs (rest ++ ts) → Match W ts us
      → HaveTypes W S vs (rest ++ us)
  above-match [] vs h m = types-match h m
  above-match (t ∷ rest) [] h m = elim h [ ]
  above-match (t ∷ rest) (v ∷ vs) (and_value h hs) m = and_value h (above-match rest vs hs m)

module _ {R : Type 0} {W : World R} {S : Store R} where
  -- values above others
  pub types-append : {vs ws : List (Value R)} {ts us : List (ValueType R)} → HaveTypes W S vs ts → HaveTypes W S ws us → HaveTypes W S (vs ++ ws) (ts ++ us)
  types-append no_values k = k
  types-append (and_value h hs) k = and_value h (types-append hs k)

  pub types-length : {vs : List (Value R)} {ts : List (ValueType R)} → HaveTypes W S vs ts → length vs ≡ length ts
  types-length no_values = refl
  types-length (and_value h hs) = ap suc (types-length hs)

pub record Split {R : Type 0} (W : World R) (S : Store R) (vs : List (Value R)) (ts us : List (ValueType R)) : Type 0 where
  pub front : List (Value R)
  pub top : List (Value R)
  pub is : vs ≡ front ++ top
  pub below : HaveTypes W S front ts
  pub above : HaveTypes W S top us

pub split : {R : Type 0} {W : World R} {S : Store R} (ts us : List (ValueType R)) (vs : List (Value R)) → HaveTypes W S vs (ts ++ us) → Split W S vs ts us
split [] us vs h = record { front = []; top = vs; is = refl; below = no_values; above = h }
split (t ∷ ts) us [] h = elim h [ ]
split {R} (t ∷ ts) us (v ∷ vs) (and_value h hs) =
    let k = split ts us vs hs in
    record { front = v ∷ k.front; top = k.top; is = ap (λ (ws : List (Value R)). v ∷ ws) k.is; below = and_value h k.below; above = k.above }

pub record Cut {R : Type 0} (W : World R) (S : Store R) (n : ℕ) (vs : List (Value R)) (ts us : List (ValueType R)) : Type 0 where
  pub front : List (Value R)
  pub top : List (Value R)
  pub is : cut n vs ≡ Some (front, top)
  pub below : HaveTypes W S front ts
  pub above : HaveTypes W S top us

cut-append : {R : Type 0} (n : ℕ) (a b : List (Value R)) → n ≡ length b → cut n (a ++ b) ≡ Some (a, b)
cut-append n a b e =
    let l : length (a ++ b) ≡ length a + length b = length-append a b in
    let m : length (a ++ b) - n ≡ length a = omega arith in
    let t : nat_le n (length (a ++ b)) ≡ true = le-leb n (length (a ++ b)) (omega arith) in
    ap (λ c. cut_if c n (a ++ b)) t ∙ ap (λ (k : ℕ). Some (take k (a ++ b), drop k (a ++ b))) m ∙ (λ i. Some (take-append_seam a b i, drop-append_seam a b i))

pub cut-fits :
    {R : Type 0} {W : World R} {S : Store R} (ts us : List (ValueType R)) (n : ℕ) (vs : List (Value R)) → n ≡ length us → HaveTypes W S vs (ts ++ us)
    → Cut W S n vs ts us
cut-fits ts us n vs e h =
    let k = split ts us vs h in
    record {
      front = k.front;
      top = k.top;
      is = ap (cut n) k.is ∙ cut-append n k.front k.top
          (e ∙ sym (types-length k.above));
      below = k.below;
      above = k.above;
    }

-- stores that grow
module _ {R : Type 0} {P : Primitives R} where
  pub grows-refl : (S : Store R) → Grows P S S
  grows-refl S = record { functions = λ a f e. e; tags = λ a ts e. e; exceptions = λ a f e. e; others = λ B I e. e }

  pub grows-trans : {S T U : Store R} → Grows P S T → Grows P T U → Grows P S U
  grows-trans p q = record {
    functions = λ a g e. q.functions a g (p.functions a g e);
    tags = λ a ts e. q.tags a ts (p.tags a ts e);
    exceptions = λ a g e. q.exceptions a g (p.exceptions a g e);
    others = λ B I e. q.others B I (p.others B I e);
  }

  pub type-grows : {W : World R} {S T : Store R} {v : Value R} {t : ValueType R} → Grows P S T → HasType W S v t → HasType W T v t
  type-grows p is_i32 = is_i32
  type-grows p is_i64 = is_i64
  type-grows p is_f32 = is_f32
  type-grows p is_f64 = is_f64
  type-grows p is_v128 = is_v128
  type-grows p (is_null n) = is_null n
  type-grows p is_null_of_bot = is_null_of_bot
  type-grows p (is_function {a = a} g e q) = is_function g (p.functions a g e) q
  type-grows p (is_exception {a = a} g e q) = is_exception g (p.exceptions a g e) q
  type-grows p (is_other a m) = is_other a m

  pub types-grow : {W : World R} {S T : Store R} {vs : List (Value R)} {ts : List (ValueType R)} → Grows P S T → HaveTypes W S vs ts → HaveTypes W T vs ts
  types-grow p no_values = no_values
  types-grow p (and_value h hs) = and_value (type-grows p h) (types-grow p hs)

  holds-grow : {W : World R} {S T : Store R} {t : Val R} {b : Bool} {o : Option (Value R)} → Grows P S T → Holds W S t b o → Holds W T t b o
  holds-grow p unset = unset
  holds-grow p (held h) = held (type-grows p h)

  pub locals-grow :
      {W : World R} {S T : Store R} {B : Surroundings R} {sets : List ℕ} {locals : List (Option (Value R))} → Grows P S T → LocalsFit W S B sets locals
      → LocalsFit W T B sets locals
  locals-grow p h = record { holds = λ n x e. let k = h.holds n x e in (k.0, k.1, holds-grow p k.2) }

pub have_greater_types : (R : Type 0) → ValuesHaveGreaterTypes R
have_greater_types R W S vs ts us o h m = types-match W o S h m

pub keep_their_types : (R : Type 0) → ValuesKeepTheirTypes R
keep_their_types R W P S T vs ts p h = types-grow p h

-- tests one after another
or-right : (a b c : Bool) → (b ≡ true → c ≡ true) → (a || b) ≡ true → (a || c) ≡ true
or-right true b c f e = refl
or-right false b c f e = f e

pub or-cases : {X : Type 0} (a b : Bool) → (a || b) ≡ true → (a ≡ true → X) → (b ≡ true → X) → X
or-cases true b e f g = f refl
or-cases false b e f g = g e

or-left : (a b : Bool) → a ≡ true → (a || b) ≡ true
or-left true b e = refl
or-left false b e = no e

pub or-second : (a b : Bool) → b ≡ true → (a || b) ≡ true
or-second true b e = refl
or-second false b e = e

among-behind : (n : ℕ) (xs ys : List ℕ) → among n ys ≡ true → among n (xs ++ ys) ≡ true
among-behind n [] ys e = e
among-behind n (x ∷ xs) ys e = or-second _ (among n (xs ++ ys)) (among-behind n xs ys e)

-- fewer locals that must be set
holds-less :
    {R : Type 0} {W : World R} {S : Store R} {t : Val R} (b c : Bool) {o : Option (Value R)} → (c ≡ true → b ≡ true) → Holds W S t b o → Holds W S t c o
holds-less b true f unset = no (f refl)
holds-less b false f unset = unset
holds-less b c f (held h) = held h

module _ {R : Type 0} (W : World R) (B : Surroundings R) where
  abbrev from_start : ℕ → Bool
  from_start n = passes (λ l. l.set) (slice_get B.locals n)

  pub locals-less : {S : Store R} {sets sets' : List ℕ} {locals : List (Option (Value R))} →
      ((n : ℕ) → is_set W B n sets' ≡ true → is_set W B n sets ≡ true) → LocalsFit W S B sets locals → LocalsFit W S B sets' locals
  locals-less {sets = sets} {sets' = sets'} f h =
      record { holds = λ n x e. let k = h.holds n x e in (k.0, k.1, holds-less (is_set W B n sets) (is_set W B n sets') (f n) k.2) }

  pub set-behind : (xs sets : List ℕ) (n : ℕ) → is_set W B n sets ≡ true → is_set W B n (xs ++ sets) ≡ true
  set-behind xs sets n e = or-right (from_start n) (among n sets) (among n (xs ++ sets)) (among-behind n xs sets) e

  -- those that are told, and those before
  pub set-told : (xs sets ys : List ℕ) (n : ℕ) → AreSet W B (xs ++ sets) ys → is_set W B n (ys ++ sets) ≡ true → is_set W B n (xs ++ sets) ≡ true
  set-told xs sets [] n a e = set-behind xs sets n e
  set-told xs sets (y ∷ ys) n a e =
      or-cases (from_start n) (n == y || among n (ys ++ sets)) e
      (λ f. or-left (from_start n) (among n (xs ++ sets)) f)
      (λ f. or-cases (n == y) (among n (ys ++ sets)) f
      (λ g. subst (λ (m : ℕ). is_set W B m (xs ++ sets) ≡ true) (sym (eqb-true n y g)) a.0)
      (λ g. set-told xs sets ys n a.1 (or-second (from_start n) (among n (ys ++ sets)) g)))

-- locals that are read and written
pub must_hold :
    {R : Type 0} {W : World R} {S : Store R} {t : Val R} {b : Bool} {o : Option (Value R)} → Holds W S t b o → b ≡ true
    → (v : Value R) × (o ≡ Some v) × HasType W S v (val t)
must_hold unset e = no e
must_hold (held {v = v} h) e = (v, refl, h)

pub record Put {R : Type 0} (n : ℕ) (v : Value R) (os : List (Option (Value R))) : Type 0 where
  pub new : List (Option (Value R))
  pub is : put n v os ≡ Some new
  pub here : slice_get new n ≡ Some (Some v)
  pub else_ : (m : ℕ) → (m ≡ n → ⊥) → slice_get new m ≡ slice_get os m

put-next : {R : Type 0} (n : ℕ) (v : Value R) (p : Option (Value R)) (os : List (Option (Value R))) → Put n v os → Put (suc n) v (p ∷ os)
put-next n v p os k = record { new = p ∷ k.new; is = ap (with_head p) k.is; here = k.here; else_ = elsewhere }
  where
    elsewhere : (m : ℕ) → (m ≡ suc n → ⊥) → slice_get (p ∷ k.new) m ≡ slice_get (p ∷ os) m
    elsewhere zero f = refl
    elsewhere (suc m) f = k.else_ m (λ g. f (ap suc g))

put-there : {R : Type 0} (n : ℕ) (v : Value R) (os : List (Option (Value R))) (o : Option (Value R)) → slice_get os n ≡ Some o → Put n v os
put-there n v [] o e = absurd (absent o e)
put-there zero v (p ∷ os) o e = record { new = Some v ∷ os; is = refl; here = refl; else_ = elsewhere }
  where
    elsewhere : (m : ℕ) → (m ≡ zero → ⊥) → slice_get (Some v ∷ os) m ≡ slice_get (p ∷ os) m
    elsewhere zero f = absurd (f refl)
    elsewhere (suc m) f = refl
put-there (suc n) v (p ∷ os) o e = put-next n v p os (put-there n v os o e)

pub record Written {R : Type 0} (W : World R) (S : Store R) (B : Surroundings R) (sets : List ℕ) (n : ℕ) (v : Value R)
    (os : List (Option (Value R))) : Type 0 where
  pub new : List (Option (Value R))
  pub is : put n v os ≡ Some new
  pub fits : LocalsFit W S B (n ∷ sets) new

pub written-fits :
    {R : Type 0} {W : World R} {S : Store R} {B : Surroundings R} {sets : List ℕ} {os : List (Option (Value R))} (n : ℕ) (x : Local R) (v : Value R)
    → LocalsFit W S B sets os → slice_get B.locals n ≡ Some x → HasType W S v (val x.content) → Written W S B sets n v os
written-fits {R} {W} {S} {B} {sets} {os} n x v h e t =
    let o = h.holds n x e in
    let k : Put n v os = put-there n v os o.0 o.1 in
    record { new = k.new; is = k.is; fits = record { holds = λ m y f. at k m y f (m == n) refl } }
  where
    same : (y : Local R) → slice_get B.locals n ≡ Some y → x ≡ y
    same y f = the_same x y (sym e ∙ f)

    at :
        (k : Put n v os) (m : ℕ) (y : Local R) → slice_get B.locals m ≡ Some y → (b : Bool) → (m == n) ≡ b
        → (o : Option (Value R)) × (slice_get k.new m ≡ Some o) × Holds W S y.content (is_set W B m (n ∷ sets)) o
    at k m y f true g =
        let i : m ≡ n = eqb-true m n g in (
          Some v,
          ap (slice_get k.new) i ∙ k.here,
          held
              (subst (λ (z : Local R). HasType W S v (val z.content)) (same y (ap (slice_get B.locals) (sym i) ∙ f)) t),
        )
    at k m y f false g =
        let o = h.holds m y f in
        (o.0, k.else_ m (eqb-false m n g) ∙ o.1, holds-less (is_set W B m sets) (is_set W B m (n ∷ sets)) (λ u. fewer u) o.2)
      where
        fewer : is_set W B m (n ∷ sets) ≡ true → is_set W B m sets ≡ true
        fewer u =
            or-right (passes (λ l. l.set) (slice_get B.locals m)) (m == n || among m sets) (among m sets)
            (λ w. or-cases (m == n) (among m sets) w (λ z. no (sym g ∙ z)) (λ z. z)) u

-- the locals at a function's start
data Ready {R : Type 0} (W : World R) (S : Store R) : List (Local R) → List (Option (Value R)) → Type 0 where
  ready_none : Ready W S [] []
  ready_one :
      {x : Local R} {o : Option (Value R)} {L : List (Local R)} {os : List (Option (Value R))} → Holds W S x.content x.set o → Ready W S L os
      → Ready W S (x ∷ L) (o ∷ os)

module _ {R : Type 0} {W : World R} {S : Store R} where
  null-ready : (r : Ref R) (b : Bool) → r.nullable ≡ b → Holds W S (reference r) b (null_if b)
  null-ready r true e = held (is_null e)
  null-ready r false e = unset

  default-ready : (v : Val R) → Holds W S v (has_default v) (default v)
  default-ready i32 = held is_i32
  default-ready i64 = held is_i64
  default-ready f32 = held is_f32
  default-ready f64 = held is_f64
  default-ready v128 = held is_v128
  default-ready (reference r) = null-ready r r.nullable refl

  others-ready : (vs : List (Val R)) → Ready W S (map local_declared vs) (start_locals [] (map local_declared vs))
  others-ready [] = ready_none
  others-ready (v ∷ vs) = ready_one (default-ready v) (others-ready vs)

  start-ready :
      (ts extra : List (Val R)) (vs : List (Value R)) → HaveTypes W S vs (vals ts)
      → Ready W S (map local_taken ts ++ map local_declared extra) (start_locals vs (map local_taken ts ++ map local_declared extra))
  start-ready [] extra [] no_values = others-ready extra
  start-ready (t ∷ ts) extra (v ∷ vs) (and_value h hs) = ready_one (held h) (start-ready ts extra vs hs)
  start-ready [] extra (v ∷ vs) h = elim h [ ]
  start-ready (t ∷ ts) extra [] h = elim h [ ]

  ready-at :
      {L : List (Local R)} {os : List (Option (Value R))} → Ready W S L os → (n : ℕ) (x : Local R) → slice_get L n ≡ Some x
      → (o : Option (Value R)) × (slice_get os n ≡ Some o) × Holds W S x.content x.set o
  ready-at ready_none n x e = absurd (absent x e)
  ready-at (ready_one {x = y} {o = o} h r) zero x e = (o, refl, subst (λ (z : Local R). Holds W S z.content z.set o) (the_same y x e) h)
  ready-at (ready_one h r) (suc n) x e = ready-at r n x e

  pub start-fits :
      (B : Surroundings R) (ts extra : List (Val R)) (vs : List (Value R)) → B.locals ≡ map local_taken ts ++ map local_declared extra
      → HaveTypes W S vs (vals ts) → LocalsFit W S B [] (start_locals vs B.locals)
  start-fits B ts extra vs w h = record { holds = at }
    where
      at :
          (n : ℕ) (x : Local R) → slice_get B.locals n ≡ Some x
          → (o : Option (Value R)) × (slice_get (start_locals vs B.locals) n ≡ Some o) × Holds W S x.content (is_set W B n []) o
      at n x e =
          let k = ready-at (start-ready ts extra vs h) n x (ap (λ (L : List (Local R)). slice_get L n) (sym w) ∙ e) in (
            k.0,
            ap (λ (L : List (Local R)). slice_get (start_locals vs L) n) w ∙ k.1,
            holds-less x.set (is_set W B n [])
                (λ f. or-cases (passes (λ l. l.set) (slice_get B.locals n)) false f (λ g. sym (ap (passes (λ (l : Local R). l.set)) e) ∙ g) no) k.2,
          )

-- a list that grows
pub get-append : {A : Type 0} (xs ys : List A) (n : ℕ) (x : A) → slice_get xs n ≡ Some x → slice_get (xs ++ ys) n ≡ Some x
get-append [] ys n x e = absurd (absent x e)
get-append (y ∷ xs) ys zero x e = e
get-append (y ∷ xs) ys (suc n) x e = get-append xs ys n x e

pub get-last : {A : Type 0} (xs : List A) (x : A) → slice_get (xs ++ x ∷ []) (length xs) ≡ Some x
get-last [] x = refl
get-last (y ∷ xs) x = get-last xs x

pub one-more :
    {A : Type 0} (P : A → Type 0) (xs : List A) (x : A) → ((n : ℕ) (y : A) → slice_get xs n ≡ Some y → P y) → P x → (n : ℕ) (y : A)
    → slice_get (xs ++ x ∷ []) n ≡ Some y → P y
one-more P [] x f p zero y e = subst P (the_same x y e) p
one-more P [] x f p (suc n) y e = absurd (absent y e)
one-more P (z ∷ xs) x f p zero y e = f zero y e
one-more P (z ∷ xs) x f p (suc n) y e = one-more P xs x (λ m w g. f (suc m) w g) p n y e
