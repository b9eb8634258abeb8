-- Outcomes that are as promised: what is done with the uppermost operands, with labels and with exceptions.
use Rattle.std.proofs.Common.{◌≡◌, refl, sym, ap, subst, ◌∙◌, ℕ, zero, suc, Bool, true, false, not, List, [], ◌∷◌, ◌++◌, append_assoc, Option, Some, None, length, slice_get, is_some}
use Rattle.wasm_spec_steps.specs.WasmSpecRules.WasmSpec.Syntax.{AbstractHeap, func_heap, nofunc_heap, exn_heap, noexn_heap, Heap, abstract_heap, concrete, exact, Ref, Val, i32, reference, Comp, func, array, struct, cont, Sub}
use Rattle.wasm_spec_steps.specs.WasmSpecRules.WasmSpec.Matching.{kind_of, bottom_of}
use Rattle.wasm_spec_steps.specs.WasmSpecRules.WasmSpec.MatchingTests.{World, same_flag, same_abstract, matches_abstract, matches_kind, is_above_bottom, matches_heap}
use Rattle.wasm_spec_steps.specs.WasmSpecRules.Attempts.{◌>>=◌, passes}
use Rattle.wasm_spec_steps.specs.WasmSpecRules.Signatures.{Signature, signature_of}
use Rattle.wasm_spec_steps.specs.Bodies.{Local, Surroundings}
use Rattle.wasm_spec_instructions.specs.ValueTypes.{ValueType, val, vals, reference_at, reference_type, Match, IsInOrder}
use Rattle.wasm_spec_instructions.specs.Scopes.{Scope, inside, in_handler, behind, is_set, AreSet}
use Rattle.wasm_spec_instructions.proofs.Attempts.{no, the_same, absent, and-both}
use Rattle.wasm_laws_soundness.specs.Values.{Value, function_at, exception_at, other, Instance, Function, Exception, Store, exception_heap, is_callable, signature_in, is_apart, is_of, HasType, is_i32, is_null, is_null_of_bot, is_function, is_exception, is_other, HaveTypes, no_values, and_value}
use Rattle.wasm_laws_soundness.specs.Outcomes.{State, Exit, traps, Outcome, falls_through, leaves, Answer, Primitives, on_cut, with_top, on_some, on_number, on_one, on_exception, on_function, on_reference, pick, either, on_choice, put, holding, writing, next, with_store, answered, on_answer, leaving_block, label, again_from, handed, in_block, in_either, with_exception, threw, catching, back}
use Rattle.wasm_laws_soundness.specs.StoreValidity.{Grows, Reaches, IsTypedException, InstanceFits, IsTypedFunction, StoreFits, IsKept, gives_them, may_raise, may_fail, Fits, MayLeave, branching, returning, throwing, calling, rethrowing, delegating, trapping, waiting, IsPromised, falling, leaving, FunctionsMatch}
use Rattle.wasm_laws_soundness.proofs.Values.{long, above-match, types-append, cut-fits, grows-refl, grows-trans, types-grow, locals-grow, locals-less, set-behind, set-told, Written, written-fits, get-append, one-more}

module _ {R : Type 0} (Q : Outcome R → Type 0) where
  -- what is done with the uppermost operands
  pub with_top-promised :
      {W : World R} {S : Store R} (n : ℕ) (vs : List (Value R)) (f : List (Value R) → List (Value R) → Outcome R) (rest ts : List (ValueType R))
      → n ≡ length ts → HaveTypes W S vs (rest ++ ts)
      → ((below top : List (Value R)) → HaveTypes W S below rest → HaveTypes W S top ts → Q (f below top)) → Q (with_top n vs f)
  with_top-promised n vs f rest ts e h k =
      let c = cut-fits rest ts n vs e h in
      subst (λ (o : Option (List (Value R) × List (Value R))). Q (on_cut f o)) (sym c.is) (k c.front c.top c.below c.above)

  pub on_some-promised : {A : Type 0} (f : A → Outcome R) (o : Option A) (x : A) → o ≡ Some x → Q (f x) → Q (on_some f o)
  on_some-promised {A} f o x e h = subst (λ (z : Option A). Q (on_some f z)) (sym e) h

  pub pick-promised : (n : ℕ) (a b : Outcome R) → Q a → Q b → Q (pick n a b)
  pick-promised zero a b h k = k
  pick-promised (suc n) a b h k = h

  pub either-promised : (b : Bool) (o p : Outcome R) → (b ≡ true → Q o) → (b ≡ false → Q p) → Q (either b o p)
  either-promised true o p f g = f refl
  either-promised false o p f g = g refl

  module _ {W : World R} {S : Store R} where
    -- what the uppermost operands are
    pub on_number-promised : (f : ℕ → Outcome R) (vs : List (Value R)) → HaveTypes W S vs (val i32 ∷ []) → ((n : ℕ) → Q (f n)) → Q (on_number f vs)
    on_number-promised f (v ∷ []) (and_value (is_i32 {n = n}) no_values) k = k n
    on_number-promised f [] h k = elim h [ ]
    on_number-promised f (v ∷ w ∷ vs) (and_value i h) k = elim h [ ]

    pub on_one-promised :
        {t : ValueType R} (f : Value R → Outcome R) (vs : List (Value R)) → HaveTypes W S vs (t ∷ []) → ((v : Value R) → HasType W S v t → Q (f v))
        → Q (on_one f vs)
    on_one-promised f (v ∷ []) (and_value h no_values) k = k v h
    on_one-promised f [] h k = elim h [ ]
    on_one-promised f (v ∷ w ∷ vs) (and_value i h) k = elim h [ ]

    pub on_reference-promised :
        (h : Option (Heap R)) (o : Outcome R) (f : Value R → Outcome R) (vs : List (Value R)) → HaveTypes W S vs (reference_type true h ∷ []) → Q o
        → ((v : Value R) → HasType W S v (reference_type false h) → Q (f v)) → Q (on_reference o f vs)
    on_reference-promised None o f (v ∷ []) (and_value is_null_of_bot no_values) p k = p
    on_reference-promised (Some h) o f (v ∷ []) (and_value (is_null n) no_values) p k = p
    on_reference-promised (Some h) o f (v ∷ []) (and_value (is_function {a = a} g i m) no_values) p k = k (function_at a) (is_function g i m)
    on_reference-promised (Some h) o f (v ∷ []) (and_value (is_exception {a = a} e i m) no_values) p k = k (exception_at a) (is_exception e i m)
    on_reference-promised (Some h) o f (v ∷ []) (and_value (is_other {h = j} {n = n} a m) no_values) p k = k (other j n) (is_other a m)
    on_reference-promised h o f [] t p k = elim t [ ]
    on_reference-promised h o f (v ∷ w ∷ vs) (and_value i t) p k = elim t [ ]

    pick-has : {t : ValueType R} (n : ℕ) (v w : Value R) → HasType W S v t → HasType W S w t → HasType W S (pick n v w) t
    pick-has zero v w h k = k
    pick-has (suc n) v w h k = h

    pub on_choice-promised :
        {t : ValueType R} (f : Value R → Outcome R) (vs : List (Value R)) → HaveTypes W S vs (t ∷ t ∷ val i32 ∷ [])
        → ((v : Value R) → HasType W S v t → Q (f v)) → Q (on_choice f vs)
    on_choice-promised f (v ∷ w ∷ u ∷ []) (and_value h (and_value k (and_value (is_i32 {n = n}) no_values))) q = q (pick n v w) (pick-has n v w h k)
    on_choice-promised f (v ∷ w ∷ u ∷ x ∷ vs) (and_value h (and_value k (and_value i j))) q = elim j [ ]
    on_choice-promised f (v ∷ w ∷ []) (and_value h (and_value k i)) q = elim i [ ]
    on_choice-promised f (v ∷ []) (and_value h k) q = elim k [ ]
    on_choice-promised f [] h q = elim h [ ]

-- Heap types that are of functions alone, or of exceptions alone.
pub record IsOfFunctions {R : Type 0} (W : World R) (h : Heap R) : Type 0 where
  pub no_exception : matches_heap W exception_heap h ≡ true → ⊥
  pub no_other : (k : Heap R) → is_apart W k ≡ true → matches_heap W k h ≡ true → ⊥

apart-func : (j : AbstractHeap) → not (is_callable j) ≡ true → matches_abstract j func_heap ≡ true → ⊥
apart-func func_heap e f = no e
apart-func nofunc_heap e f = no e
apart-func exn_heap e f = no e
apart-func noexn_heap e f = no e
apart-func _ e f = no f

apart-exn : (j : AbstractHeap) → not (is_callable j) ≡ true → matches_abstract j exn_heap ≡ true → ⊥
apart-exn func_heap e f = no e
apart-exn nofunc_heap e f = no e
apart-exn exn_heap e f = no e
apart-exn noexn_heap e f = no e
apart-exn _ e f = no f

apart-nofunc : (j : AbstractHeap) → not (is_callable j) ≡ true → same_abstract nofunc_heap j ≡ true → ⊥
apart-nofunc func_heap e f = no e
apart-nofunc nofunc_heap e f = no e
apart-nofunc exn_heap e f = no e
apart-nofunc noexn_heap e f = no e
apart-nofunc _ e f = no f

there_is : {A : Type 0} (o : Option A) (x : A) → o ≡ Some x → not (is_some o) ≡ true → ⊥
there_is None x e f = absurd (absent x e)
there_is (Some y) x e f = no f

module _ {R : Type 0} where
  comp-func : (c : Comp R) → not (is_some (signature_of c)) ≡ true → matches_abstract (kind_of c) func_heap ≡ true → ⊥
  comp-func (func ps rs) e f = no e
  comp-func (array x) e f = no f
  comp-func (struct xs) e f = no f
  comp-func (cont r) e f = no f

  comp-exn : (c : Comp R) → matches_abstract (kind_of c) exn_heap ≡ true → ⊥
  comp-exn (func ps rs) f = no f
  comp-exn (array x) f = no f
  comp-exn (struct xs) f = no f
  comp-exn (cont r) f = no f

  bottom-exn : (c : Comp R) → same_abstract (bottom_of c) exn_heap ≡ true → ⊥
  bottom-exn (func ps rs) f = no f
  bottom-exn (array x) f = no f
  bottom-exn (struct xs) f = no f
  bottom-exn (cont r) f = no f

  comp-nofunc :
      (c : Comp R) (g : Signature R) (j : AbstractHeap) → signature_of c ≡ Some g → not (is_callable j) ≡ true → same_abstract (bottom_of c) j ≡ true → ⊥
  comp-nofunc (func ps rs) g j w e f = apart-nofunc j e f
  comp-nofunc (array x) g j w e f = absurd (absent g w)
  comp-nofunc (struct xs) g j w e f = absurd (absent g w)
  comp-nofunc (cont r) g j w e f = absurd (absent g w)

  kind-func : (o : Option (Sub R)) → not (is_some (o >>= λ s. signature_of s.comp)) ≡ true → matches_kind false func_heap o ≡ true → ⊥
  kind-func None e f = no f
  kind-func (Some s) e f = comp-func s.comp e (and-both (same_flag s.shared false) (matches_abstract (kind_of s.comp) func_heap) f).1

  kind-exn : (o : Option (Sub R)) → matches_kind false exn_heap o ≡ true → ⊥
  kind-exn None f = no f
  kind-exn (Some s) f = comp-exn s.comp (and-both (same_flag s.shared false) (matches_abstract (kind_of s.comp) exn_heap) f).1

  above-exn : (o : Option (Sub R)) → is_above_bottom false exn_heap o ≡ true → ⊥
  above-exn None f = no f
  above-exn (Some s) f = bottom-exn s.comp (and-both (same_flag s.shared false) (same_abstract (bottom_of s.comp) exn_heap) f).1

  above-apart :
      (o : Option (Sub R)) (g : Signature R) (t : Bool) (j : AbstractHeap) → (o >>= λ s. signature_of s.comp) ≡ Some g → not (is_callable j) ≡ true
      → is_above_bottom t j o ≡ true → ⊥
  above-apart None g t j w e f = no f
  above-apart (Some s) g t j w e f = comp-nofunc s.comp g j w e (and-both (same_flag s.shared t) (same_abstract (bottom_of s.comp) j) f).1

module _ {R : Type 0} (W : World R) where
  pub func-of_functions : IsOfFunctions W (abstract_heap false func_heap)
  func-of_functions = record { no_exception = λ e. no e; no_other = others }
    where
      others : (k : Heap R) → is_apart W k ≡ true → matches_heap W k (abstract_heap false func_heap) ≡ true → ⊥
      others (abstract_heap s j) e f = apart-func j e (and-both (same_flag s false) (matches_abstract j func_heap) f).1
      others (concrete a) e f = kind-func (W.declared a) e f
      others (exact a) e f = kind-func (W.declared a) e f

  pub concrete-of_functions : FunctionsMatch W → (b : R) (g : Signature R) → signature_in W b ≡ Some g → IsOfFunctions W (concrete b)
  concrete-of_functions m b g w = record { no_exception = λ e. above-exn (W.declared b) e; no_other = others }
    where
      others : (k : Heap R) → is_apart W k ≡ true → matches_heap W k (concrete b) ≡ true → ⊥
      others (abstract_heap s j) e f = above-apart (W.declared b) g s j w e f
      others (concrete a) e f = let h = m a b g f w in there_is (signature_in W a) h.0 h.1 e
      others (exact a) e f = let h = m a b g f w in there_is (signature_in W a) h.0 h.1 e

  apart-exception : (k : Heap R) → is_apart W k ≡ true → matches_heap W k exception_heap ≡ true → ⊥
  apart-exception (abstract_heap s j) e f = apart-exn j e (and-both (same_flag s false) (matches_abstract j exn_heap) f).1
  apart-exception (concrete a) e f = kind-exn (W.declared a) f
  apart-exception (exact a) e f = kind-exn (W.declared a) f

module _ {R : Type 0} (Q : Outcome R → Type 0) {W : World R} {S : Store R} where
  pub on_exception-promised :
      (f : ℕ → Outcome R) (vs : List (Value R)) → HaveTypes W S vs (val (reference_at true exception_heap) ∷ []) → Q (leaves traps)
      → ((a : ℕ) (e : Exception R) → slice_get S.exceptions a ≡ Some e → Q (f a)) → Q (on_exception f vs)
  on_exception-promised f (v ∷ []) (and_value (is_null n) no_values) t k = t
  on_exception-promised f (v ∷ []) (and_value (is_exception {a = a} e i m) no_values) t k = k a e i
  on_exception-promised f (v ∷ []) (and_value (is_function g i m) no_values) t k = absurd (kind-exn (W.declared g.type) m)
  on_exception-promised f (v ∷ []) (and_value (is_other {h = h} a m) no_values) t k = absurd (apart-exception W h a m)
  on_exception-promised f [] h t k = elim h [ ]
  on_exception-promised f (v ∷ w ∷ vs) (and_value i h) t k = elim h [ ]

  pub on_function-promised :
      (r : Ref R) → IsOfFunctions W r.heap → (f : ℕ → Outcome R) (vs : List (Value R)) → HaveTypes W S vs (val (reference r) ∷ []) → Q (leaves traps)
      → ((a : ℕ) (g : Function R) → slice_get S.functions a ≡ Some g → matches_heap W (exact g.type) r.heap ≡ true → Q (f a)) → Q (on_function f vs)
  on_function-promised r c f (v ∷ []) (and_value (is_null n) no_values) t k = t
  on_function-promised r c f (v ∷ []) (and_value (is_function {a = a} g i m) no_values) t k = k a g i m
  on_function-promised r c f (v ∷ []) (and_value (is_exception e i m) no_values) t k = absurd (c.no_exception m)
  on_function-promised r c f (v ∷ []) (and_value (is_other {h = h} a m) no_values) t k = absurd (c.no_other h a m)
  on_function-promised r c f [] h t k = elim h [ ]
  on_function-promised r c f (v ∷ w ∷ vs) (and_value i h) t k = elim h [ ]

-- instances and stores that grow
module _ {R : Type 0} (W : World R) (P : Primitives R) where
  pub instance-grows : {S T : Store R} {B : Surroundings R} {I : Instance} → Grows P S T → InstanceFits W P S B I → InstanceFits W P T B I
  instance-grows {S = S} {T = T} {B = B} {I = I} p h = record {
    functions = λ x n a e f. reached x (concrete a) (h.functions x n a e f);
    references = λ x k e. reached x k (h.references x k e);
    tags = λ x g e. let c = h.tags x g e in record { address = c.address; known = c.known; there = p.tags c.address g.takes c.there };
    others = p.others B I h.others;
  }
    where
      reached : (x : ℕ) (k : Heap R) → Reaches W S I x k → Reaches W T I x k
      reached x k c =
          record { address = c.address; function = c.function; known = c.known; there = p.functions c.address c.function c.there; matches = c.matches }

  pub function-grows : {S T : Store R} {f : Function R} → Grows P S T → IsTypedFunction W P S f → IsTypedFunction W P T f
  function-grows p h = record {
    signature = h.signature;
    is = h.is;
    code =
        λ B I c e. let k = h.code B I c e in record {
          extra = k.extra;
          sets = k.sets;
          locals = k.locals;
          typed = k.typed;
          instance = instance-grows p k.instance;
        };
  }

  pub exception-grows : {S T : Store R} {e : Exception R} → Grows P S T → IsTypedException W S e → IsTypedException W T e
  exception-grows {e = e} p h = record { types = h.types; tagged = p.tags e.tag h.types h.tagged; values = types-grow p h.values }

  module _ (B : Surroundings R) (I : Instance) where
    abbrev pub Promised : Store R → Scope R → List ℕ → List (ValueType R) → Outcome R → Type 0
    Promised S C xs us o = IsPromised W P B I S C xs us o

    -- what fits, seen from an earlier store, with fewer locals that must be set, or other types
    pub fits-since : {S T : Store R} {sets : List ℕ} {ts : List (ValueType R)} {s : State R} → Grows P S T → Fits W P B I T sets ts s → Fits W P B I S sets ts s
    fits-since p h = record { operands = h.operands; locals = h.locals; store = h.store; instance = h.instance; grown = grows-trans p h.grown }

    pub fits-less :
        {S : Store R} {sets sets' : List ℕ} {ts : List (ValueType R)} {s : State R} → ((n : ℕ) → is_set W B n sets' ≡ true → is_set W B n sets ≡ true)
        → Fits W P B I S sets ts s → Fits W P B I S sets' ts s
    fits-less {sets = sets} {sets' = sets'} f h =
        record {
          operands = h.operands;
          locals = locals-less W B {sets = sets} {sets' = sets'} f h.locals;
          store = h.store;
          instance = h.instance;
          grown = h.grown;
        }

    pub fits-with :
        {S : Store R} {sets : List ℕ} {ts us : List (ValueType R)} {s : State R} (vs : List (Value R)) → Fits W P B I S sets ts s → HaveTypes W s.store vs us
        → Fits W P B I S sets us (holding vs s)
    fits-with vs h k = record { operands = k; locals = h.locals; store = h.store; instance = h.instance; grown = h.grown }

    pub fits-now : {S : Store R} {sets : List ℕ} {ts : List (ValueType R)} {s : State R} → Fits W P B I S sets ts s → Fits W P B I s.store sets ts s
    fits-now {s = s} h = record { operands = h.operands; locals = h.locals; store = h.store; instance = h.instance; grown = grows-refl s.store }

    -- with another store, which has grown
    pub fits-in :
        {S T : Store R} {sets : List ℕ} {ts us : List (ValueType R)} {s : State R} (vs : List (Value R)) → Fits W P B I S sets ts s → Grows P s.store T
        → StoreFits W P T → HaveTypes W T vs us
        → Fits W P B I S sets us (holding vs (with_store T s))
    fits-in vs h p f k =
        record { operands = k; locals = locals-grow p h.locals; store = f; instance = instance-grows p h.instance; grown = grows-trans h.grown p }

    -- and how it may leave
    pub may_leave-since :
        {S T : Store R} {C D : Scope R} {e : Exit R} → Grows P S T → C.labels ≡ D.labels → C.returns ≡ D.returns → C.caught ≡ D.caught
        → ((n : ℕ) → is_set W B n C.sets ≡ true → is_set W B n D.sets ≡ true) → MayLeave W P B I T D e → MayLeave W P B I S C e
    may_leave-since p a b c f (branching {l = l} ls left e h) =
        branching ls left (ap (λ (z : List (List (Val R))). slice_get z l) a ∙ e) (fits-less f (fits-since p h))
    may_leave-since p a b c f (returning rs left e h) = returning rs left (b ∙ e) (fits-less f (fits-since p h))
    may_leave-since p a b c f (throwing e left i h) = throwing e left i (fits-less f (fits-since p h))
    may_leave-since p a b c f (calling g k rs i j e m h) = calling g k rs i j (b ∙ e) m (fits-less f (fits-since p h))
    may_leave-since p a b c f (rethrowing {l = l} left e h) = rethrowing left (ap (λ (z : List Bool). slice_get z l) c ∙ e) (fits-less f (fits-since p h))
    may_leave-since p a b c f (delegating {l = l} ls e left j i h) =
        delegating ls e left (ap (λ (z : List (List (Val R))). slice_get z l) a ∙ j) i (fits-less f (fits-since p h))
    may_leave-since p a b c f trapping = trapping
    may_leave-since p a b c f waiting = waiting

    pub promised-since :
        {S T : Store R} {C : Scope R} {xs : List ℕ} {us : List (ValueType R)} {o : Outcome R} → Grows P S T → IsPromised W P B I T C xs us o
        → IsPromised W P B I S C xs us o
    promised-since p (falling h) = falling (fits-since p h)
    promised-since p (leaving m) = leaving (may_leave-since p refl refl refl (λ n e. e) m)

    -- what comes next keeps what came before
    pub next-promised :
        {S : Store R} {C : Scope R} {xs zs : List ℕ} {us vs : List (ValueType R)} (f : State R → Outcome R) (o : Outcome R) → IsPromised W P B I S C xs us o
        → ((t : State R) → Fits W P B I S (xs ++ C.sets) us t → IsPromised W P B I S C zs vs (f t)) → IsPromised W P B I S C zs vs (next f o)
    next-promised f o (falling {s = s} h) k = k s h
    next-promised f o (leaving m) k = leaving m

    pub alone :
        {S : Store R} {C : Scope R} {xs : List ℕ} {us : List (ValueType R)} (o : Outcome R) → IsPromised W P B I S C xs us o
        → IsPromised W P B I S C xs us (next (λ t. falls_through t) o)
    alone o h = next-promised (λ t. falls_through t) o h (λ t k. falling k)

    pub later :
        {S T : Store R} (C : Scope R) (xs ys : List ℕ) {us : List (ValueType R)} (o : Outcome R) → Grows P S T → IsPromised W P B I T (behind xs C) ys us o
        → IsPromised W P B I S C (ys ++ xs) us o
    later {S = S} C xs ys {us = us} o p (falling {s = s} h) =
        falling (subst (λ (z : List ℕ). Fits W P B I S z us s) (sym (append_assoc ys xs C.sets)) (fits-since p h))
    later C xs ys o p (leaving m) = leaving (may_leave-since {D = behind xs C} p refl refl refl (set-behind W B xs C.sets) m)

    pub lesser :
        IsInOrder W → {S : Store R} (C : Scope R) (xs ys : List ℕ) (rest us ws : List (ValueType R)) (o : Outcome R) → Match W us ws → AreSet W B
        (xs ++ C.sets) ys
        → IsPromised W P B I S C xs (rest ++ us) o → IsPromised W P B I S C ys (rest ++ ws) o
    lesser q C xs ys rest us ws o m a (falling {s = s} h) =
        falling (fits-less (λ n. set-told W B xs C.sets ys n a)
        (record {
          operands = above-match W q s.store rest s.operands h.operands m;
          locals = h.locals;
          store = h.store;
          instance = h.instance;
          grown = h.grown;
        }))
    lesser q C xs ys rest us ws o m a (leaving l) = leaving l

    -- operands that are put over others
    pub put_on :
        {S : Store R} {C : Scope R} {xs : List ℕ} {ts rest us : List (ValueType R)} {s : State R} (below top : List (Value R))
        → Fits W P B I S (xs ++ C.sets) ts s
        → HaveTypes W s.store below rest → HaveTypes W s.store top us → IsPromised W P B I S C xs (rest ++ us) (falls_through (holding (below ++ top) s))
    put_on below top h b t = falling (fits-with (below ++ top) h (types-append b t))

    -- the end of a block whose label takes these types, and what a branch to it does
    leaving_block-promised :
        (S : Store R) (C : Scope R) (ls : List (Val R)) (f : State R → Outcome R) (below : List (Value R)) (rest us : List (ValueType R)) (e : Exit R)
        → HaveTypes W S below rest
        → ((t : State R) → Fits W P B I S C.sets (rest ++ vals ls) t → IsPromised W P B I S C [] us (f t)) → MayLeave W P B I S (inside ls C) e
        → IsPromised W P B I S C [] us (leaving_block f (length ls) below e)
    leaving_block-promised S C ls f below rest us x b k (branching {l = zero} {s = s} ks left e h) =
        with_top-promised (Promised S C [] us) (length ls) s.operands (λ l t. f (holding (below ++ t) s)) left (vals ls) (long ls)
        (subst (λ (z : List (Val R)). HaveTypes W s.store s.operands (left ++ vals z)) (sym (the_same ls ks e)) h.operands)
        (λ l t _ q. k (holding (below ++ t) s) (fits-with (below ++ t) h (types-append (types-grow h.grown b) q)))
    leaving_block-promised S C ls f below rest us x b k (branching {l = suc l} ks left e h) = leaving (branching ks left e h)
    leaving_block-promised S C ls f below rest us x b k (returning rs left e h) = leaving (returning rs left e h)
    leaving_block-promised S C ls f below rest us x b k (throwing e left i h) = leaving (throwing e left i h)
    leaving_block-promised S C ls f below rest us x b k (calling g j rs i d e m h) = leaving (calling g j rs i d e m h)
    leaving_block-promised S C ls f below rest us x b k (rethrowing {l = zero} left e h) = no (the_same false true e)
    leaving_block-promised S C ls f below rest us x b k (rethrowing {l = suc l} left e h) = leaving (rethrowing left e h)
    leaving_block-promised S C ls f below rest us x b k (delegating {l = zero} ks e left j i h) = leaving (throwing e left i h)
    leaving_block-promised S C ls f below rest us x b k (delegating {l = suc l} ks e left j i h) = leaving (delegating ks e left j i h)
    leaving_block-promised S C ls f below rest us x b k trapping = leaving trapping
    leaving_block-promised S C ls f below rest us x b k waiting = leaving waiting

    pub label-promised :
        (S : Store R) (C : Scope R) (ls gs : List (Val R)) (xs : List ℕ) (f : State R → Outcome R)
        (below : List (Value R)) (rest : List (ValueType R)) (o : Outcome R)
        → HaveTypes W S below rest
        → ((t : State R) → Fits W P B I S C.sets (rest ++ vals ls) t → IsPromised W P B I S C [] (rest ++ vals gs) (f t))
        → IsPromised W P B I S (inside ls C) xs (vals gs) o
        → IsPromised W P B I S C [] (rest ++ vals gs) (label f (length ls) below o)
    label-promised S C ls gs xs f below rest o b k (falling {s = s} h) =
        falling (fits-less (set-behind W B xs C.sets) (fits-with (below ++ s.operands) h (types-append (types-grow h.grown b) h.operands)))
    label-promised S C ls gs xs f below rest o b k (leaving {e = e} m) = leaving_block-promised S C ls f below rest (rest ++ vals gs) e b k m

    pub in_block-promised :
        (C : Scope R) (g : Signature R) (rest : List (ValueType R)) (body : State R → Outcome R) (s : State R)
        → Fits W P B I s.store C.sets (rest ++ vals g.takes) s
        → ((top : List (Value R)) → HaveTypes W s.store top (vals g.takes)
        → (xs : List ℕ) × IsPromised W P B I s.store (inside g.gives C) xs (vals g.gives) (body (holding top s)))
        → IsPromised W P B I s.store C [] (rest ++ vals g.gives) (in_block g body s)
    in_block-promised C g rest body s h k =
        with_top-promised (Promised s.store C [] (rest ++ vals g.gives)) (length g.takes) s.operands
        (λ below top. label falls_through (length g.gives) below (body (holding top s))) rest (vals g.takes)
        (long g.takes) h.operands
        (λ below top b t. let q = k top t in label-promised s.store C g.gives g.gives q.0 falls_through below rest (body (holding top s)) b
        (λ t w. falling w) q.1)

    pub in_either-promised :
        (C : Scope R) (g : Signature R) (rest : List (ValueType R)) (body other_body : State R → Outcome R) (xs ys : List ℕ) (s : State R)
        → Fits W P B I s.store C.sets (rest ++ (vals g.takes ++ val i32 ∷ [])) s
        → ((t : State R) → Fits W P B I t.store C.sets (vals g.takes) t → IsPromised W P B I t.store (inside g.gives C) xs (vals g.gives) (body t))
        → ((t : State R) → Fits W P B I t.store C.sets (vals g.takes) t → IsPromised W P B I t.store (inside g.gives C) ys (vals g.gives) (other_body t))
        → IsPromised W P B I s.store C [] (rest ++ vals g.gives) (in_either g body other_body s)
    in_either-promised C g rest body other_body xs ys s h p q =
        with_top-promised (Promised s.store C [] (rest ++ vals g.gives)) 1 s.operands
        (λ below top. on_number (λ n. in_block g (pick n body other_body) (holding below s)) top) (rest ++ vals g.takes) (val i32 ∷ []) refl
        (subst (λ (z : List (ValueType R)). HaveTypes W s.store s.operands z) (sym (append_assoc rest (vals g.takes) (val i32 ∷ []))) h.operands)
        (λ below top b t. on_number-promised (Promised s.store C [] (rest ++ vals g.gives)) (λ n. in_block g (pick n body other_body) (holding below s)) top t
        (λ n. in_block-promised C g rest (pick n body other_body) (holding below s) (fits-with below h b) (λ vs w. one_of n (holding vs s) (fits-with vs h w))))
      where
        one_of :
            (n : ℕ) (t : State R) → Fits W P B I t.store C.sets (vals g.takes) t
            → (zs : List ℕ) × IsPromised W P B I t.store (inside g.gives C) zs (vals g.gives) (pick n body other_body t)
        one_of zero t w = (ys, q t w)
        one_of (suc n) t w = (xs, p t w)

    -- exceptions
    pub catching-promised :
        {S : Store R} {C : Scope R} {us : List (ValueType R)} (f : ℕ → State R → Exception R → Outcome R) (o : Outcome R)
        → ((a : ℕ) (s : State R) (e : Exception R) (left : List (ValueType R))
        → slice_get s.store.exceptions a ≡ Some e → Fits W P B I S C.sets left s → IsPromised W P B I S C [] us (f a s e))
        → IsPromised W P B I S C [] us o → IsPromised W P B I S C [] us (catching f o)
    catching-promised f o k (falling h) = falling h
    catching-promised {S = S} {C = C} {us = us} f o k (leaving (throwing {a = a} {s = s} e left i h)) =
        on_some-promised (Promised S C [] us) (λ x. f a s x) (slice_get s.store.exceptions a) e i (k a s e left i h)
    catching-promised f o k (leaving (branching ls left e h)) = leaving (branching ls left e h)
    catching-promised f o k (leaving (returning rs left e h)) = leaving (returning rs left e h)
    catching-promised f o k (leaving (calling g j rs i d e m h)) = leaving (calling g j rs i d e m h)
    catching-promised f o k (leaving (rethrowing left e h)) = leaving (rethrowing left e h)
    catching-promised f o k (leaving (delegating ls e left j i h)) = leaving (delegating ls e left j i h)
    catching-promised f o k (leaving trapping) = leaving trapping
    catching-promised f o k (leaving waiting) = leaving waiting

    -- a handler, and what is handed to a label
    pub again_from-promised :
        (S : Store R) (C : Scope R) (us : List (Val R)) (xs : List ℕ) (a : ℕ) (x : Exception R) (o : Outcome R) → slice_get S.exceptions a ≡ Some x
        → IsPromised W P B I S (in_handler us C) xs (vals us) o → IsPromised W P B I S (inside us C) xs (vals us) (again_from a o)
    again_from-promised S C us xs a x o j (falling h) = falling h
    again_from-promised S C us xs a x o j (leaving (branching ls left e h)) = leaving (branching ls left e h)
    again_from-promised S C us xs a x o j (leaving (returning rs left e h)) = leaving (returning rs left e h)
    again_from-promised S C us xs a x o j (leaving (throwing e left i h)) = leaving (throwing e left i h)
    again_from-promised S C us xs a x o j (leaving (calling g k rs i d e m h)) = leaving (calling g k rs i d e m h)
    again_from-promised S C us xs a x o j (leaving (rethrowing {l = zero} left e h)) = leaving (throwing x left (h.grown.exceptions a x j) h)
    again_from-promised S C us xs a x o j (leaving (rethrowing {l = suc l} left e h)) = leaving (rethrowing left e h)
    again_from-promised S C us xs a x o j (leaving (delegating ls e left k i h)) = leaving (delegating ls e left k i h)
    again_from-promised S C us xs a x o j (leaving trapping) = leaving trapping
    again_from-promised S C us xs a x o j (leaving waiting) = leaving waiting

    pub handed-promised :
        {S : Store R} {C : Scope R} {us : List (ValueType R)} (l : ℕ) (ls : List (Val R)) (o : Outcome R) → slice_get C.labels l ≡ Some ls
        → IsPromised W P B I S C [] us o
        → IsPromised W P B I S C [] us (handed l o)
    handed-promised l ls o j (falling h) = falling h
    handed-promised l ls o j (leaving (throwing e left i h)) = leaving (delegating ls e left j i h)
    handed-promised l ls o j (leaving (branching ks left e h)) = leaving (branching ks left e h)
    handed-promised l ls o j (leaving (returning rs left e h)) = leaving (returning rs left e h)
    handed-promised l ls o j (leaving (calling g k rs i d e m h)) = leaving (calling g k rs i d e m h)
    handed-promised l ls o j (leaving (rethrowing left e h)) = leaving (rethrowing left e h)
    handed-promised l ls o j (leaving (delegating ks e left k i h)) = leaving (delegating ks e left k i h)
    handed-promised l ls o j (leaving trapping) = leaving trapping
    handed-promised l ls o j (leaving waiting) = leaving waiting

    -- a local that is written
    pub writing-promised :
        (C : Scope R) (n : ℕ) (x : Local R) (ts us : List (ValueType R)) (vs : List (Value R)) (v : Value R) (s : State R) → slice_get B.locals n ≡ Some x
        → Fits W P B I s.store C.sets ts s
        → HasType W s.store v (val x.content) → HaveTypes W s.store vs us → IsPromised W P B I s.store C (n ∷ []) us (writing n vs v s)
    writing-promised C n x ts us vs v s e h t k =
        let w : Written W s.store B C.sets n v s.locals = written-fits n x v h.locals e t in
        on_some-promised (Promised s.store C (n ∷ []) us) (λ os. falls_through (record { operands = vs; locals = os; store = s.store }))
        (put n v s.locals) w.new w.is
        (falling (record { operands = k; locals = w.fits; store = h.store; instance = h.instance; grown = grows-refl s.store }))

    -- what plain instructions answer
    pub answered-promised :
        (C : Scope R) (s : State R) (below : List (Value R)) (rest us ts : List (ValueType R)) (a : Answer R) → Fits W P B I s.store C.sets ts s
        → HaveTypes W s.store below rest → IsKept W P s.store us a
        → IsPromised W P B I s.store C [] (rest ++ us) (answered below s a)
    answered-promised C s below rest us ts a h b (gives_them {vs = vs} k p f) = falling (fits-in (below ++ vs) h p f (types-append (types-grow p b) k))
    answered-promised C s below rest us ts a h b (may_raise e i p f) = leaving (throwing e [] i (fits-in [] h p f no_values))
    answered-promised C s below rest us ts a h b may_fail = leaving trapping

    pub on_answer-promised :
        (C : Scope R) (s : State R) (t : ValueType R) (ts us : List (ValueType R)) (f : Value R → State R → Outcome R) (a : Answer R)
        → Fits W P B I s.store C.sets ts s → IsKept W P s.store (t ∷ []) a
        → ((v : Value R) (T : Store R) → Grows P s.store T → StoreFits W P T → HasType W T v t → IsPromised W P B I s.store C [] us (f v (with_store T s)))
        → IsPromised W P B I s.store C [] us (on_answer f s a)
    on_answer-promised C s t ts us f a h (gives_them {vs = vs} {T = T} k p g) q =
        on_one-promised (Promised s.store C [] us) (λ v. f v (with_store T s)) vs k (λ v w. q v T p g w)
    on_answer-promised C s t ts us f a h (may_raise e i p g) q = leaving (throwing e [] i (fits-in [] h p g no_values))
    on_answer-promised C s t ts us f a h may_fail q = leaving trapping

  -- a new exception
  pub threw-fits :
      (B : Surroundings R) (I : Instance) {S : Store R} {sets : List ℕ} {ts : List (ValueType R)} (x : ℕ) (us : List (Val R)) (vs : List (Value R))
      (s : State R)
      → ((D : Surroundings R) (J : Instance) → P.suits D J s.store ≡ true → P.suits D J (with_exception x vs s.store) ≡ true)
      → slice_get s.store.tags x ≡ Some us
      → Fits W P B I S sets ts s → HaveTypes W s.store vs (vals us) → Fits W P B I S sets [] (threw x vs s)
  threw-fits B I x us vs s w e h k =
      let g : Grows P s.store (with_exception x vs s.store) =
      record {
        functions = λ a f i. i;
        tags = λ a f i. i;
        exceptions = λ a f i. get-append s.store.exceptions
            (record { tag = x; values = vs } ∷ []) a f i;
        others = w;
      } in
      record {
        operands = no_values;
        locals = locals-grow g h.locals;
        store = record {
          functions = λ a f i. function-grows g (h.store.functions a f i);
          exceptions =
              one-more (IsTypedException W (with_exception x vs s.store)) s.store.exceptions (record { tag = x; values = vs })
              (λ a f i. exception-grows g (h.store.exceptions a f i))
              (record { types = us; tagged = e; values = types-grow g k });
        };
        instance = instance-grows g h.instance;
        grown = grows-trans h.grown g;
      }

  -- the caller goes on: its locals are as they were, and the store has grown
  pub back-fits :
      (B D : Surroundings R) (I J : Instance) {sets sets' : List ℕ} {ts us ws : List (ValueType R)} (vs : List (Value R)) (s t : State R)
      → Fits W P B I s.store sets ts s → Fits W P D J s.store sets' us t
      → HaveTypes W t.store vs ws → Fits W P B I s.store sets ws (back vs s t)
  back-fits B D I J vs s t h k v =
      record { operands = v; locals = locals-grow k.grown h.locals; store = k.store; instance = instance-grows k.grown h.instance; grown = k.grown }

-- casts
module _ {R : Type 0} (W : World R) (S : Store R) where
  pub cast-has : {v : Value R} (r q : Ref R) → HasType W S v (val (reference r)) → is_of W S q v ≡ true → HasType W S v (val (reference q))
  cast-has r q (is_null n) e = is_null e
  cast-has r q (is_function {a = a} f i m) e = is_function f i (ap (passes (λ (g : Function R). matches_heap W (exact g.type) q.heap)) (sym i) ∙ e)
  cast-has r q (is_exception x i m) e = is_exception x i e
  cast-has r q (is_other a m) e = is_other a e

  pub cast-lacks :
      {v : Value R} (r q d : Ref R) → d.heap ≡ r.heap → (q.nullable ≡ false → d.nullable ≡ r.nullable) → HasType W S v (val (reference r))
      → is_of W S q v ≡ false → HasType W S v (val (reference d))
  cast-lacks r q d w n (is_null m) e = is_null (n e ∙ m)
  cast-lacks r q d w n (is_function f i m) e = is_function f i (ap (matches_heap W (exact f.type)) w ∙ m)
  cast-lacks r q d w n (is_exception x i m) e = is_exception x i (ap (matches_heap W exception_heap) w ∙ m)
  cast-lacks r q d w n (is_other {h = h} a m) e = is_other a (ap (matches_heap W h) w ∙ m)
