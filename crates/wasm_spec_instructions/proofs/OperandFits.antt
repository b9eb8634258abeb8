-- When operands stand for types, and what the machine takes and gives of them.
use Rattle.std.proofs.Common.{ℕ, ◌≡◌, refl, sym, ap, subst, ◌∙◌, Bool, true, false, ◌&&◌, List, [], ◌∷◌, ◌++◌, Some, append-nil}
use Rattle.wasm_spec_steps.specs.WasmSpecRules.WasmSpec.Syntax.{AbstractHeap, abstract_heap, Ref, Val, i32, i64, f32, f64, v128, reference}
use Rattle.wasm_spec_steps.specs.WasmSpecRules.WasmSpec.ValueTypes.{implies}
use Rattle.wasm_spec_steps.specs.WasmSpecRules.WasmSpec.Matching.{is_shared_heap}
use Rattle.wasm_spec_steps.specs.WasmSpecRules.WasmSpec.MatchingTests.{World, matches_heap, matches_ref, matches_val}
use Rattle.wasm_spec_steps.specs.WasmSpecRules.Signatures.{Signature}
use Rattle.wasm_spec_steps.specs.Matching.{matches_vals}
use Rattle.wasm_spec_steps.specs.Machine.{Operand, bottom, bottom_reference, open_reference, known, pushed_onto, matches_operand}
use Rattle.wasm_spec_instructions.specs.ValueTypes.{ValueType, bot, reference_to_bot, val, reference_at, vals, matches_type, Match, none, each, IsInOrder}
use Rattle.wasm_spec_instructions.proofs.Attempts.{no, the_same, absent, bind-gives, bind-at, guard-gives, guard-at, and-both}
use Rattle.wasm_spec_instructions.proofs.FrameMachine.{Stack, stack, lpop_in, lpop, matched, lpop_val, lpops, is_empty, emptied, lend, fresh}

pub implies-refl : (m : Bool) → implies m m ≡ true
implies-refl true = refl
implies-refl false = refl

pub implies-true : (m : Bool) → implies m true ≡ true
implies-true true = refl
implies-true false = refl

implies-trans : (a b c : Bool) → implies a b ≡ true → implies b c ≡ true → implies a c ≡ true
implies-trans true true c e f = f
implies-trans true false c e f = no e
implies-trans false b c e f = refl

-- lists, the last one on top, over others: the top first
module _ {R : Type 0} where
  abbrev pub onto : List (ValueType R) → List (ValueType R) → List (ValueType R)
  onto [] ws = ws
  onto (v ∷ vs) ws = onto vs (v ∷ ws)

  abbrev pub rev : List (ValueType R) → List (ValueType R)
  rev ws = onto ws []

  pub onto-append : (ts us ws : List (ValueType R)) → onto (ts ++ us) ws ≡ onto us (onto ts ws)
  onto-append [] us ws = refl
  onto-append (t ∷ ts) us ws = onto-append ts us (t ∷ ws)

  onto-onto : (ts ws qs : List (ValueType R)) → onto (onto ts ws) qs ≡ onto ws (ts ++ qs)
  onto-onto [] ws qs = refl
  onto-onto (t ∷ ts) ws qs = onto-onto ts (t ∷ ws) qs

  pub onto-behind : (ws rs qs : List (ValueType R)) → onto ws (rs ++ qs) ≡ onto ws rs ++ qs
  onto-behind [] rs qs = refl
  onto-behind (w ∷ ws) rs qs = onto-behind ws (w ∷ rs) qs

  pub rev-onto : (ts ws : List (ValueType R)) → rev (onto ts ws) ≡ rev ws ++ ts
  rev-onto ts ws = onto-onto ts ws [] ∙ ap (onto ws) (append-nil ts) ∙ onto-behind ws [] ts

  pub rev-rev : (ws : List (ValueType R)) → rev (rev ws) ≡ ws
  rev-rev ws = onto-onto ws [] [] ∙ append-nil ws

  pub vals-append : (ts us : List (Val R)) → vals (ts ++ us) ≡ vals ts ++ vals us
  vals-append [] us = refl
  vals-append (t ∷ ts) us = ap (λ (ws : List (ValueType R)). val t ∷ ws) (vals-append ts us)

module _ {R : Type 0} (W : World R) where
  -- an operand stands for a type
  abbrev pub fits_type : Operand R → ValueType R → Bool
  fits_type bottom t = true
  fits_type bottom_reference (reference_to_bot n) = true
  fits_type bottom_reference (val (reference r)) = true
  fits_type bottom_reference _ = false
  fits_type (open_reference k) (val (reference r)) = matches_heap W (abstract_heap (is_shared_heap W.declared r.heap) k) r.heap
  fits_type (open_reference k) _ = false
  fits_type (known v) t = matches_type W (val v) t

  pub operand-fits : (x : Operand R) (v : Val R) → matches_operand W x v ≡ fits_type x (val v)
  operand-fits bottom v = refl
  operand-fits bottom_reference i32 = refl
  operand-fits bottom_reference i64 = refl
  operand-fits bottom_reference f32 = refl
  operand-fits bottom_reference f64 = refl
  operand-fits bottom_reference v128 = refl
  operand-fits bottom_reference (reference r) = refl
  operand-fits (open_reference k) i32 = refl
  operand-fits (open_reference k) i64 = refl
  operand-fits (open_reference k) f32 = refl
  operand-fits (open_reference k) f64 = refl
  operand-fits (open_reference k) v128 = refl
  operand-fits (open_reference k) (reference r) = refl
  operand-fits (known u) v = refl

  -- operands, the top first, stand for these types, and in code that isn't reached any others may lie below
  abbrev pub Fits : Bool → List (Operand R) → List (ValueType R) → Type 0
  Fits u [] [] = Unit {0}
  Fits u [] (v ∷ vs) = u ≡ true
  Fits u (x ∷ xs) [] = ⊥
  Fits u (x ∷ xs) (v ∷ vs) = (fits_type x v ≡ true) × Fits u xs vs

  abbrev pub FitsStack : Stack R → List (ValueType R) → Type 0
  FitsStack p ws = Fits p.unreached p.items ws

  pub fits-any : (ws : List (ValueType R)) → Fits true [] ws
  fits-any [] = tt
  fits-any (w ∷ ws) = refl

  -- one operand
  pub pop_any-sound :
      (is : List ℕ) (u : Bool) (xs : List (Operand R)) (q : Operand R × Stack R) (ws : List (ValueType R)) (t : ValueType R)
      → lpop_in is u xs ≡ Some q → fits_type q.0 t ≡ true → FitsStack q.1 ws → Fits u xs (t ∷ ws)
  pop_any-sound is u (x ∷ xs) q ws t e m h =
      let f : (x, stack is u xs) ≡ q = the_same (x, stack is u xs) q e in
      (subst (λ (z : Operand R × Stack R). fits_type z.0 t ≡ true) (sym f) m, subst (λ (z : Operand R × Stack R). FitsStack z.1 ws) (sym f) h)
  pop_any-sound is true [] q ws t e m h = refl
  pop_any-sound is false [] q ws t e m h = absurd (absent q e)

  pub pop_any-complete :
      (is : List ℕ) (u : Bool) (xs : List (Operand R)) (t : ValueType R) (ws : List (ValueType R)) → Fits u xs (t ∷ ws)
      → (q : Operand R × Stack R) × (lpop_in is u xs ≡ Some q) × (fits_type q.0 t ≡ true) × FitsStack q.1 ws
  pop_any-complete is u (x ∷ xs) t ws h = ((x, stack is u xs), refl, h.0, h.1)
  pop_any-complete is true [] t ws h = ((bottom, stack is true []), refl, refl, fits-any ws)
  pop_any-complete is false [] t ws h = no h

  pop-sound : (v : Val R) (p q : Stack R) (ws : List (ValueType R)) → lpop_val W v p ≡ Some q → FitsStack q ws → FitsStack p (val v ∷ ws)
  pop-sound v p q ws e h =
      let f = bind-gives (lpop p) (matched W v) q e in
      let g = guard-gives (matches_operand W f.0.0 v) f.0.1 q f.2 in
      pop_any-sound p.sets p.unreached p.items f.0 ws (val v) f.1 (sym (operand-fits f.0.0 v) ∙ g.0) (subst (λ (z : Stack R). FitsStack z ws) (sym g.1) h)

  pop-complete : (v : Val R) (p : Stack R) (ws : List (ValueType R)) → FitsStack p (val v ∷ ws) → (q : Stack R) × (lpop_val W v p ≡ Some q) × FitsStack q ws
  pop-complete v p ws h =
      let f = pop_any-complete p.sets p.unreached p.items (val v) ws h in
      (f.0.1, bind-at (matched W v) f.1 (guard-at (matches_operand W f.0.0 v) f.0.1 (operand-fits f.0.0 v ∙ f.2)), f.3)

  -- lists of them
  pub pops-sound : (vs : List (Val R)) (p q : Stack R) (ws : List (ValueType R)) → lpops W vs p ≡ Some q → FitsStack q ws → FitsStack p (onto (vals vs) ws)
  pops-sound [] p q ws e h = subst (λ (z : Stack R). FitsStack z ws) (sym (the_same p q e)) h
  pops-sound (v ∷ vs) p q ws e h =
      let f = bind-gives (lpops W vs p) (lpop_val W v) q e in
      pops-sound vs p f.0 (val v ∷ ws) f.1 (pop-sound v f.0 q ws f.2 h)

  pub pops-complete : (vs : List (Val R)) (p : Stack R) (ws : List (ValueType R)) → FitsStack p (onto (vals vs) ws) → (q : Stack R) × (lpops W vs p ≡ Some q) × FitsStack q ws
  pops-complete [] p ws h = (p, refl, h)
  pops-complete (v ∷ vs) p ws h =
      let f = pops-complete vs p (val v ∷ ws) h in
      let g = pop-complete v f.0 ws f.2 in
      (g.0, bind-at (lpop_val W v) f.1 g.1, g.2)

  -- the end of a frame
  none-left : (u : Bool) (xs : List (Operand R)) → Fits u xs [] → is_empty xs ≡ true
  none-left u [] h = refl
  none-left u (x ∷ xs) h = absurd h

  left-none : (u : Bool) (xs : List (Operand R)) → is_empty xs ≡ true → Fits u xs []
  left-none u [] e = tt
  left-none u (x ∷ xs) e = no e

  pub end-complete : (vs : List (Val R)) (p : Stack R) → FitsStack p (onto (vals vs) []) → (q : Stack R) × (lend W vs p ≡ Some q)
  end-complete vs p h =
      let f = pops-complete vs p [] h in
      (f.0, bind-at (emptied W) f.1 (guard-at (is_empty f.0.items) f.0 (none-left f.0.unreached f.0.items f.2)))

  pub end-sound : (vs : List (Val R)) (p q : Stack R) → lend W vs p ≡ Some q → FitsStack p (onto (vals vs) [])
  end-sound vs p q e =
      let f = bind-gives (lpops W vs p) (emptied W) q e in
      let g = guard-gives (is_empty f.0.items) f.0 q f.2 in
      pops-sound vs p f.0 [] f.1 (left-none f.0.unreached f.0.items g.0)

  pub empty-fits : (ws : List (ValueType R)) → Fits false [] ws → ws ≡ []
  empty-fits [] h = refl
  empty-fits (w ∷ ws) h = no h

  pub match-append : {ts us vs ws : List (ValueType R)} → Match W ts us → Match W vs ws → Match W (ts ++ vs) (us ++ ws)
  match-append none n = n
  match-append (each e m) n = each e (match-append m n)

  pub match-onto : {ts us vs ws : List (ValueType R)} → Match W ts us → Match W vs ws → Match W (onto ts vs) (onto us ws)
  match-onto none n = n
  match-onto (each e m) n = match-onto m (each e n)

  pub match-true : (ts us : List (Val R)) → Match W (vals ts) (vals us) → matches_vals W ts us ≡ true
  match-true [] [] none = refl
  match-true [] (u ∷ us) m = elim m [ ]
  match-true (t ∷ ts) [] m = elim m [ ]
  match-true (t ∷ ts) (u ∷ us) (each e m) = λ i. e i && match-true ts us m i

  pub true-match : (ts us : List (Val R)) → matches_vals W ts us ≡ true → Match W (vals ts) (vals us)
  true-match [] [] e = none
  true-match (t ∷ ts) (u ∷ us) e = let h = and-both (matches_val W t u) (matches_vals W ts us) e in each h.0 (true-match ts us h.1)
  true-match _ _ e = no e

-- what stands for types that were given: these, or greater ones, over what stood for those below
pub record Split {R : Type 0} (W : World R) (vs : List (Val R)) (u : Bool) (xs : List (Operand R)) (zs : List (ValueType R)) : Type 0 where
  pub front : List (ValueType R)
  pub back : List (ValueType R)
  pub is : zs ≡ onto front back
  pub greater : Match W (vals vs) front
  pub fits : Fits W u xs back

module _ {R : Type 0} (W : World R) where
  split-one :
      (u : Bool) (v : Val R) (vs : List (Val R)) (front : List (ValueType R)) (xs : List (Operand R)) (zs back : List (ValueType R))
      → zs ≡ onto front back → Match W (vals vs) front → Fits W u (known v ∷ xs) back → Split W (v ∷ vs) u xs zs
  split-one u v vs front xs zs [] e m h = absurd h
  split-one u v vs front xs zs (w ∷ ws) e m h = record { front = w ∷ front; back = ws; is = e; greater = each h.0 m; fits = h.1 }

  pub push-sound : (u : Bool) (vs : List (Val R)) (xs : List (Operand R)) (zs : List (ValueType R)) → Fits W u (pushed_onto vs xs) zs → Split W vs u xs zs
  push-sound u [] xs zs h = record { front = []; back = zs; is = refl; greater = none; fits = h }
  push-sound u (v ∷ vs) xs zs h = let f = push-sound u vs (known v ∷ xs) zs h in split-one u v vs f.front xs zs f.back f.is f.greater f.fits

  -- what stands for the operands of a new frame
  pub fresh-sound : (g : Signature R) (ws : List (ValueType R)) → FitsStack W (fresh g) ws → Match W (vals g.takes) (rev ws)
  fresh-sound g ws h =
      let f = push-sound false g.takes [] ws h in
      let e : rev ws ≡ f.front = ap rev (f.is ∙ ap (onto f.front) (empty-fits W f.back f.fits)) ∙ rev-rev f.front in
      subst (λ (z : List (ValueType R)). Match W (vals g.takes) z) (sym e) f.greater

-- where matching is an order
module _ {R : Type 0} (W : World R) (o : IsInOrder W) where
  pub ref-itself : (r : Ref R) → matches_ref W r r ≡ true
  ref-itself r = λ i. implies-refl r.nullable i && o.itself r.heap i

  pub val-itself : (v : Val R) → matches_val W v v ≡ true
  val-itself i32 = refl
  val-itself i64 = refl
  val-itself f32 = refl
  val-itself f64 = refl
  val-itself v128 = refl
  val-itself (reference r) = ref-itself r

  pub ref-through : (a b c : Ref R) → matches_ref W a b ≡ true → matches_ref W b c ≡ true → matches_ref W a c ≡ true
  ref-through a b c e f =
      let x = and-both (implies a.nullable b.nullable) (matches_heap W a.heap b.heap) e in
      let y = and-both (implies b.nullable c.nullable) (matches_heap W b.heap c.heap) f in
      λ i. implies-trans a.nullable b.nullable c.nullable x.0 y.0 i && o.through a.heap b.heap c.heap x.1 y.1 i

  pub val-through : (a b c : Val R) → matches_val W a b ≡ true → matches_val W b c ≡ true → matches_val W a c ≡ true
  val-through i32 i32 c e f = f
  val-through i64 i64 c e f = f
  val-through f32 f32 c e f = f
  val-through f64 f64 c e f = f
  val-through v128 v128 c e f = f
  val-through (reference r) (reference s) (reference t) e f = ref-through r s t e f
  val-through (reference r) (reference s) i32 e f = no f
  val-through (reference r) (reference s) i64 e f = no f
  val-through (reference r) (reference s) f32 e f = no f
  val-through (reference r) (reference s) f64 e f = no f
  val-through (reference r) (reference s) v128 e f = no f
  val-through a b c e f = no e

  pub type-itself : (t : ValueType R) → matches_type W t t ≡ true
  type-itself bot = refl
  type-itself (reference_to_bot n) = implies-refl n
  type-itself (val v) = val-itself v

  pub match-itself : (vs : List (ValueType R)) → Match W vs vs
  match-itself [] = none
  match-itself (v ∷ vs) = each (type-itself v) (match-itself vs)

  open-through : (k : AbstractHeap) (r s : Ref R) → fits_type W (open_reference k) (val (reference r)) ≡ true → matches_ref W r s ≡ true → fits_type W (open_reference k) (val (reference s)) ≡ true
  open-through k r s e f =
      let y = and-both (implies r.nullable s.nullable) (matches_heap W r.heap s.heap) f in
      let g : matches_heap W (abstract_heap (is_shared_heap W.declared s.heap) k) r.heap ≡ true = ap (λ (b : Bool). matches_heap W (abstract_heap b k) r.heap) (sym (o.sharing r.heap s.heap y.1)) ∙ e in
      o.through (abstract_heap (is_shared_heap W.declared s.heap) k) r.heap s.heap g y.1

  -- an operand that stands for a type stands for greater ones
  pub fits-through : (x : Operand R) (t u : ValueType R) → fits_type W x t ≡ true → matches_type W t u ≡ true → fits_type W x u ≡ true
  fits-through bottom t u e f = refl
  fits-through bottom_reference (reference_to_bot m) (reference_to_bot n) e f = refl
  fits-through bottom_reference (reference_to_bot m) (val (reference r)) e f = refl
  fits-through bottom_reference (val (reference s)) (val (reference r)) e f = refl
  fits-through bottom_reference (reference_to_bot m) bot e f = no f
  fits-through bottom_reference (reference_to_bot m) (val i32) e f = no f
  fits-through bottom_reference (reference_to_bot m) (val i64) e f = no f
  fits-through bottom_reference (reference_to_bot m) (val f32) e f = no f
  fits-through bottom_reference (reference_to_bot m) (val f64) e f = no f
  fits-through bottom_reference (reference_to_bot m) (val v128) e f = no f
  fits-through bottom_reference (val (reference s)) bot e f = no f
  fits-through bottom_reference (val (reference s)) (reference_to_bot n) e f = no f
  fits-through bottom_reference (val (reference s)) (val i32) e f = no f
  fits-through bottom_reference (val (reference s)) (val i64) e f = no f
  fits-through bottom_reference (val (reference s)) (val f32) e f = no f
  fits-through bottom_reference (val (reference s)) (val f64) e f = no f
  fits-through bottom_reference (val (reference s)) (val v128) e f = no f
  fits-through bottom_reference bot u e f = no e
  fits-through bottom_reference (val i32) u e f = no e
  fits-through bottom_reference (val i64) u e f = no e
  fits-through bottom_reference (val f32) u e f = no e
  fits-through bottom_reference (val f64) u e f = no e
  fits-through bottom_reference (val v128) u e f = no e
  fits-through (open_reference k) (val (reference s)) (val (reference r)) e f = open-through k s r e f
  fits-through (open_reference k) (val (reference s)) bot e f = no f
  fits-through (open_reference k) (val (reference s)) (reference_to_bot n) e f = no f
  fits-through (open_reference k) (val (reference s)) (val i32) e f = no f
  fits-through (open_reference k) (val (reference s)) (val i64) e f = no f
  fits-through (open_reference k) (val (reference s)) (val f32) e f = no f
  fits-through (open_reference k) (val (reference s)) (val f64) e f = no f
  fits-through (open_reference k) (val (reference s)) (val v128) e f = no f
  fits-through (open_reference k) bot u e f = no e
  fits-through (open_reference k) (reference_to_bot n) u e f = no e
  fits-through (open_reference k) (val i32) u e f = no e
  fits-through (open_reference k) (val i64) u e f = no e
  fits-through (open_reference k) (val f32) u e f = no e
  fits-through (open_reference k) (val f64) u e f = no e
  fits-through (open_reference k) (val v128) u e f = no e
  fits-through (known v) (val w) (val x) e f = val-through v w x e f
  fits-through (known v) (val w) bot e f = no f
  fits-through (known v) (val w) (reference_to_bot n) e f = no f
  fits-through (known v) bot u e f = no e
  fits-through (known v) (reference_to_bot n) u e f = no e

  pub fits-sub : {vs ws : List (ValueType R)} (u : Bool) (xs : List (Operand R)) → Match W vs ws → Fits W u xs vs → Fits W u xs ws
  fits-sub u [] none h = tt
  fits-sub u [] (each e m) h = h
  fits-sub u (x ∷ xs) none h = absurd h
  fits-sub u (x ∷ xs) (each {v = v} {w = w} {vs = vs} {ws = ws} e m) h = (fits-through x v w h.0 e, fits-sub {vs = vs} {ws = ws} u xs m h.1)

  pub push-complete : (u : Bool) (vs : List (Val R)) (xs : List (Operand R)) (ws : List (ValueType R)) → Fits W u xs ws → Fits W u (pushed_onto vs xs) (onto (vals vs) ws)
  push-complete u [] xs ws h = h
  push-complete u (v ∷ vs) xs ws h = push-complete u vs (known v ∷ xs) (val v ∷ ws) (val-itself v, h)

  -- some type for each operand, and for all of them
  pub some_type : (x : Operand R) → (t : ValueType R) × (fits_type W x t ≡ true)
  some_type bottom = (bot, refl)
  some_type bottom_reference = (reference_to_bot false, refl)
  some_type (open_reference k) = (val (reference_at false (abstract_heap false k)), o.itself (abstract_heap false k))
  some_type (known v) = (val v, val-itself v)

  pub some_types : (u : Bool) (xs : List (Operand R)) → (ws : List (ValueType R)) × Fits W u xs ws
  some_types u [] = ([], tt)
  some_types u (x ∷ xs) = let t = some_type x in let r = some_types u xs in (t.0 ∷ r.0, (t.1, r.1))
