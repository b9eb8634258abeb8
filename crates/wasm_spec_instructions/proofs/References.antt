-- References that are taken, chosen, compared and converted, and the types that they stand for.
use Rattle.std.proofs.Common.{◌≡◌, refl, sym, ap, subst, ◌∙◌, Bool, true, false, ◌&&◌, List, ◌∷◌, Option, Some, None}
use Rattle.wasm_spec_steps.specs.WasmSpecRules.WasmSpec.Syntax.{AbstractHeap, Heap, abstract_heap, Ref, Val, i32, i64, f32, f64, v128, reference}
use Rattle.wasm_spec_steps.specs.WasmSpecRules.WasmSpec.ValueTypes.{implies}
use Rattle.wasm_spec_steps.specs.WasmSpecRules.WasmSpec.Matching.{is_shared_heap}
use Rattle.wasm_spec_steps.specs.WasmSpecRules.WasmSpec.MatchingTests.{World, same_flag, matches_heap, matches_val}
use Rattle.wasm_spec_steps.specs.Bodies.{Surroundings}
use Rattle.wasm_spec_steps.specs.Machine.{Operand, bottom, bottom_reference, open_reference, known, as_reference, non_null, same_number, chosen}
use Rattle.wasm_spec_steps.specs.Meanings.{is_below_either, agree, converted}
use Rattle.wasm_spec_instructions.specs.ValueTypes.{ValueType, bot, reference_to_bot, val, reference_at, reference_type, matches_type, IsInOrder}
use Rattle.wasm_spec_instructions.proofs.Attempts.{no, the_same, absent, bind-gives, bind-at, guard-gives, guard-at, and-both}
use Rattle.wasm_spec_instructions.proofs.FrameMachine.{Stack, lpop, referring, referred, lpop_reference}
use Rattle.wasm_spec_instructions.proofs.OperandFits.{implies-refl, implies-true, fits_type, FitsStack, pop_any-sound, pop_any-complete, val-itself, fits-through}

same-itself : (s : Bool) → same_flag s s ≡ true
same-itself true = refl
same-itself false = refl

same-equal : (s t : Bool) → same_flag s t ≡ true → s ≡ t
same-equal true true e = refl
same-equal false false e = refl
same-equal true false e = no e
same-equal false true e = no e

-- an operand as a reference: from what it stands for
record AsReference {R : Type 0} (W : World R) (x : Operand R) (z : ValueType R) : Type 0 where
  heap : Option (Heap R)
  takes : fits_type W x (reference_type true heap) ≡ true
  gives : matches_type W (reference_type false heap) z ≡ true

module _ {R : Type 0} (W : World R) where
  pub bottom-sound : (z : ValueType R) → fits_type W bottom_reference z ≡ true → matches_type W (reference_to_bot false) z ≡ true
  bottom-sound bot e = no e
  bottom-sound (reference_to_bot n) e = refl
  bottom-sound (val (reference r)) e = refl
  bottom-sound (val i32) e = no e
  bottom-sound (val i64) e = no e
  bottom-sound (val f32) e = no e
  bottom-sound (val f64) e = no e
  bottom-sound (val v128) e = no e

  -- numbers and vectors
  pub number-itself : (v w : Val R) → same_number v w ≡ true → v ≡ w
  number-itself i32 i32 e = refl
  number-itself i64 i64 e = refl
  number-itself f32 f32 e = refl
  number-itself f64 f64 e = refl
  number-itself v128 v128 e = refl
  number-itself v w e = no e

  below_number : (w v : Val R) → same_number v v ≡ true → matches_val W w v ≡ true → w ≡ v
  below_number i32 i32 n e = refl
  below_number i64 i64 n e = refl
  below_number f32 f32 n e = refl
  below_number f64 f64 n e = refl
  below_number v128 v128 n e = refl
  below_number w (reference r) n e = no n
  below_number w v n e = no e

  bottom_no_number : (v : Val R) → same_number v v ≡ true → fits_type W bottom_reference (val v) ≡ true → ⊥
  bottom_no_number i32 n e = no e
  bottom_no_number i64 n e = no e
  bottom_no_number f32 n e = no e
  bottom_no_number f64 n e = no e
  bottom_no_number v128 n e = no e
  bottom_no_number (reference r) n e = no n

  open_no_number : (k : AbstractHeap) (v : Val R) → same_number v v ≡ true → fits_type W (open_reference k) (val v) ≡ true → ⊥
  open_no_number k i32 n e = no e
  open_no_number k i64 n e = no e
  open_no_number k f32 n e = no e
  open_no_number k f64 n e = no e
  open_no_number k v128 n e = no e
  open_no_number k (reference r) n e = no n

  open-flag : (s : Bool) (j k : AbstractHeap) → matches_heap W (abstract_heap false j) (abstract_heap false k) ≡ true → matches_heap W (abstract_heap s j) (abstract_heap s k) ≡ true
  open-flag true j k e = e
  open-flag false j k e = e

  flag-open : (s : Bool) (j k : AbstractHeap) → matches_heap W (abstract_heap s j) (abstract_heap s k) ≡ true → matches_heap W (abstract_heap false j) (abstract_heap false k) ≡ true
  flag-open true j k e = e
  flag-open false j k e = e

  -- the shared flag is that of the reference, where it has one
  abbrev pub Agrees : Bool → Operand R → Type 0
  Agrees s (known (reference r)) = is_shared_heap W.declared r.heap ≡ s
  Agrees s _ = Unit {0}

module _ {R : Type 0} (W : World R) (o : IsInOrder W) where
  as_reference-sound : (x y : Operand R) (z : ValueType R) → as_reference x ≡ Some y → fits_type W (non_null y) z ≡ true → AsReference W x z
  as_reference-sound bottom y z e h = record { heap = None; takes = refl; gives = bottom-sound W z (subst (λ (w : Operand R). fits_type W (non_null w) z ≡ true) (sym (the_same bottom_reference y e)) h) }
  as_reference-sound bottom_reference y z e h = record { heap = None; takes = refl; gives = bottom-sound W z (subst (λ (w : Operand R). fits_type W (non_null w) z ≡ true) (sym (the_same bottom_reference y e)) h) }
  as_reference-sound (open_reference k) y z e h = go z (subst (λ (w : Operand R). fits_type W (non_null w) z ≡ true) (sym (the_same (open_reference k) y e)) h)
    where
      go : (z : ValueType R) → fits_type W (open_reference k) z ≡ true → AsReference W (open_reference k) z
      go (val (reference r)) f = record { heap = Some (abstract_heap (is_shared_heap W.declared r.heap) k); takes = o.itself (abstract_heap (is_shared_heap W.declared r.heap) k); gives = f }
      go bot f = no f
      go (reference_to_bot n) f = no f
      go (val i32) f = no f
      go (val i64) f = no f
      go (val f32) f = no f
      go (val f64) f = no f
      go (val v128) f = no f
  as_reference-sound (known (reference r)) y z e h = record {
    heap = Some r.heap;
    takes = λ i. implies-true r.nullable i && o.itself r.heap i;
    gives = subst (λ (w : Operand R). fits_type W (non_null w) z ≡ true) (sym (the_same (known (reference r)) y e)) h;
  }
  as_reference-sound (known i32) y z e h = absurd (absent y e)
  as_reference-sound (known i64) y z e h = absurd (absent y e)
  as_reference-sound (known f32) y z e h = absurd (absent y e)
  as_reference-sound (known f64) y z e h = absurd (absent y e)
  as_reference-sound (known v128) y z e h = absurd (absent y e)

  as_reference-complete :
      (x : Operand R) (h : Option (Heap R)) → fits_type W x (reference_type true h) ≡ true
      → (y : Operand R) × (as_reference x ≡ Some y) × (fits_type W (non_null y) (reference_type false h) ≡ true)
  as_reference-complete bottom None e = (bottom_reference, refl, refl)
  as_reference-complete bottom (Some h) e = (bottom_reference, refl, refl)
  as_reference-complete bottom_reference None e = (bottom_reference, refl, refl)
  as_reference-complete bottom_reference (Some h) e = (bottom_reference, refl, refl)
  as_reference-complete (open_reference k) (Some h) e = (open_reference k, refl, e)
  as_reference-complete (open_reference k) None e = no e
  as_reference-complete (known (reference r)) (Some h) e = (known (reference r), refl, (and-both (implies r.nullable true) (matches_heap W r.heap h) e).1)
  as_reference-complete (known (reference r)) None e = no e
  as_reference-complete (known i32) None e = no e
  as_reference-complete (known i32) (Some h) e = no e
  as_reference-complete (known i64) None e = no e
  as_reference-complete (known i64) (Some h) e = no e
  as_reference-complete (known f32) None e = no e
  as_reference-complete (known f32) (Some h) e = no e
  as_reference-complete (known f64) None e = no e
  as_reference-complete (known f64) (Some h) e = no e
  as_reference-complete (known v128) None e = no e
  as_reference-complete (known v128) (Some h) e = no e

  pub pop_reference-complete :
      (p : Stack R) (h : Option (Heap R)) (ws : List (ValueType R)) → FitsStack W p (reference_type true h ∷ ws)
      → (r : Operand R × Stack R) × (lpop_reference p ≡ Some r) × (fits_type W (non_null r.0) (reference_type false h) ≡ true) × FitsStack W r.1 ws
  pop_reference-complete p h ws k =
      let f = pop_any-complete W p.sets p.unreached p.items (reference_type true h) ws k in
      let g = as_reference-complete f.0.0 h f.2 in
      ((g.0, f.0.1), bind-at referred f.1 (bind-at (referring f.0.1) g.1 refl), g.2, f.3)

  -- a reference of a type that is written
  as_fitting :
      (x : Operand R) (r : Ref R) → fits_type W x (val (reference r)) ≡ true → (y : Operand R) × (as_reference x ≡ Some y) × (fits_type W y (val (reference r)) ≡ true)
  as_fitting bottom r e = (bottom_reference, refl, refl)
  as_fitting bottom_reference r e = (bottom_reference, refl, refl)
  as_fitting (open_reference k) r e = (open_reference k, refl, e)
  as_fitting (known (reference q)) r e = (known (reference q), refl, e)
  as_fitting (known i32) r e = no e
  as_fitting (known i64) r e = no e
  as_fitting (known f32) r e = no e
  as_fitting (known f64) r e = no e
  as_fitting (known v128) r e = no e

  pub pop_fitting-complete :
      (p : Stack R) (r : Ref R) (ws : List (ValueType R)) → FitsStack W p (val (reference r) ∷ ws)
      → (q : Operand R × Stack R) × (x : Operand R) × (as_reference x ≡ Some q.0) × (lpop_reference p ≡ Some q) × (fits_type W q.0 (val (reference r)) ≡ true) × FitsStack W q.1 ws
  pop_fitting-complete p r ws k =
      let f = pop_any-complete W p.sets p.unreached p.items (val (reference r)) ws k in
      let g = as_fitting f.0.0 r f.2 in
      ((g.0, f.0.1), f.0.0, g.1, bind-at referred f.1 (bind-at (referring f.0.1) g.1 refl), g.2, f.3)

  module _ (B : Surroundings R) where
    -- below an abstract heap type, with this shared flag
    pub below-complete : (k : AbstractHeap) (x y : Operand R) (n s : Bool) → as_reference x ≡ Some y → fits_type W y (val (reference_at n (abstract_heap s k))) ≡ true → (is_below_either W B k y ≡ true) × Agrees W s y
    below-complete k x bottom_reference n s a e = (refl, tt)
    below-complete k x (open_reference j) n s a e = (flag-open W s j k e, tt)
    below-complete k x (known (reference r)) n s a e =
        let f = and-both (implies r.nullable n) (matches_heap W r.heap (abstract_heap s k)) e in
        let g : is_shared_heap W.declared r.heap ≡ s = o.sharing r.heap (abstract_heap s k) f.1 in
        (subst (λ (b : Bool). matches_heap W r.heap (abstract_heap b k) ≡ true) (sym g) f.1, g)
    below-complete k x (known i32) n s a e = no e
    below-complete k x (known i64) n s a e = no e
    below-complete k x (known f32) n s a e = no e
    below-complete k x (known f64) n s a e = no e
    below-complete k x (known v128) n s a e = no e
    below-complete k x bottom n s a e = absurd (never x a)
      where
        never : (x : Operand R) → as_reference x ≡ Some bottom → ⊥
        never bottom a = cc
        never bottom_reference a = cc
        never (open_reference k) a = cc
        never (known (reference r)) a = cc
        never (known i32) a = cc
        never (known i64) a = cc
        never (known f32) a = cc
        never (known f64) a = cc
        never (known v128) a = cc

    pub agree-both : (s : Bool) (x y : Operand R) → Agrees W s x → Agrees W s y → agree W B x y ≡ true
    agree-both s (known (reference r)) (known (reference q)) a b = ap (λ (c : Bool). same_flag c (is_shared_heap W.declared q.heap)) a ∙ ap (same_flag s) b ∙ same-itself s
    agree-both s (known (reference r)) bottom a b = refl
    agree-both s (known (reference r)) bottom_reference a b = refl
    agree-both s (known (reference r)) (open_reference k) a b = refl
    agree-both s (known (reference r)) (known i32) a b = refl
    agree-both s (known (reference r)) (known i64) a b = refl
    agree-both s (known (reference r)) (known f32) a b = refl
    agree-both s (known (reference r)) (known f64) a b = refl
    agree-both s (known (reference r)) (known v128) a b = refl
    agree-both s (known i32) y a b = refl
    agree-both s (known i64) y a b = refl
    agree-both s (known f32) y a b = refl
    agree-both s (known f64) y a b = refl
    agree-both s (known v128) y a b = refl
    agree-both s bottom y a b = refl
    agree-both s bottom_reference y a b = refl
    agree-both s (open_reference k) y a b = refl

    pub converted-complete :
        (k j : AbstractHeap) (y : Operand R) (n s : Bool) → fits_type W y (val (reference_at n (abstract_heap s j))) ≡ true → Agrees W s y
        → fits_type W (converted W B k y) (val (reference_at n (abstract_heap s k))) ≡ true
    converted-complete k j (known (reference r)) n s e a =
        let f = and-both (implies r.nullable n) (matches_heap W r.heap (abstract_heap s j)) e in
        λ i. f.0 i && (ap (λ (b : Bool). matches_heap W (abstract_heap b k) (abstract_heap s k)) a ∙ o.itself (abstract_heap s k)) i
    converted-complete k j (known i32) n s e a = no e
    converted-complete k j (known i64) n s e a = no e
    converted-complete k j (known f32) n s e a = no e
    converted-complete k j (known f64) n s e a = no e
    converted-complete k j (known v128) n s e a = no e
    converted-complete k j bottom n s e a = o.itself (abstract_heap s k)
    converted-complete k j bottom_reference n s e a = o.itself (abstract_heap s k)
    converted-complete k j (open_reference i) n s e a = o.itself (abstract_heap s k)

  pub chosen-complete :
      (x y : Operand R) (t : ValueType R) (v : Val R) → same_number v v ≡ true → matches_type W t (val v) ≡ true → fits_type W x t ≡ true → fits_type W y t ≡ true
      → (z : Operand R) × (chosen x y ≡ Some z) × (fits_type W z t ≡ true)
  chosen-complete bottom bottom t v n e f g = (bottom, refl, f)
  chosen-complete bottom (known w) t v n e f g =
      let k : w ≡ v = below_number W w v n (fits-through W o (known w) t (val v) g e) in
      (known w, guard-at (same_number w w) (known w) (ap (λ (u : Val R). same_number u u) k ∙ n), g)
  chosen-complete (known w) bottom t v n e f g =
      let k : w ≡ v = below_number W w v n (fits-through W o (known w) t (val v) f e) in
      (known w, guard-at (same_number w w) (known w) (ap (λ (u : Val R). same_number u u) k ∙ n), f)
  chosen-complete (known w) (known u) t v n e f g =
      let k : w ≡ v = below_number W w v n (fits-through W o (known w) t (val v) f e) in
      let j : u ≡ v = below_number W u v n (fits-through W o (known u) t (val v) g e) in
      (known w, guard-at (same_number w u) (known w) ((λ i. same_number (k i) (j i)) ∙ n), f)
  chosen-complete bottom_reference y t v n e f g = absurd (bottom_no_number W v n (fits-through W o bottom_reference t (val v) f e))
  chosen-complete (open_reference k) y t v n e f g = absurd (open_no_number W k v n (fits-through W o (open_reference k) t (val v) f e))
  chosen-complete bottom bottom_reference t v n e f g = absurd (bottom_no_number W v n (fits-through W o bottom_reference t (val v) g e))
  chosen-complete (known w) bottom_reference t v n e f g = absurd (bottom_no_number W v n (fits-through W o bottom_reference t (val v) g e))
  chosen-complete bottom (open_reference k) t v n e f g = absurd (open_no_number W k v n (fits-through W o (open_reference k) t (val v) g e))
  chosen-complete (known w) (open_reference k) t v n e f g = absurd (open_no_number W k v n (fits-through W o (open_reference k) t (val v) g e))

-- What a chosen operand stands for.
pub record Chosen {R : Type 0} (W : World R) (x y : Operand R) (w : ValueType R) : Type 0 where
  pub type : ValueType R
  pub number : Val R
  pub is_one : same_number number number ≡ true
  pub within : matches_type W type (val number) ≡ true
  pub first : fits_type W x type ≡ true
  pub second : fits_type W y type ≡ true
  pub gives : matches_type W type w ≡ true

-- A reference that was taken, by what it stands for when it isn't null.
pub record Referred {R : Type 0} (W : World R) (p : Stack R) (r : Operand R × Stack R) (z : ValueType R) : Type 0 where
  pub heap : Option (Heap R)
  pub gives : matches_type W (reference_type false heap) z ≡ true
  pub fits : (ws : List (ValueType R)) → FitsStack W r.1 ws → FitsStack W p (reference_type true heap ∷ ws)

module _ {R : Type 0} (W : World R) (o : IsInOrder W) where
  pub pop_reference-sound : (p : Stack R) (r : Operand R × Stack R) (z : ValueType R) → lpop_reference p ≡ Some r → fits_type W (non_null r.0) z ≡ true → Referred W p r z
  pop_reference-sound p r z e h =
      let f = bind-gives (lpop p) referred r e in
      let g = bind-gives (as_reference f.0.0) (referring f.0.1) r f.2 in
      let i : (g.0, f.0.1) ≡ r = the_same (g.0, f.0.1) r g.2 in
      let k : AsReference W f.0.0 z = as_reference-sound W o f.0.0 g.0 z g.1 (subst (λ (q : Operand R × Stack R). fits_type W (non_null q.0) z ≡ true) (sym i) h) in
      record {
        heap = k.heap;
        gives = k.gives;
        fits = λ ws m. pop_any-sound W p.sets p.unreached p.items f.0 ws (reference_type true k.heap) f.1 k.takes (subst (λ (q : Operand R × Stack R). FitsStack W q.1 ws) (sym i) m);
      }

  as_reference-fits : (x y : Operand R) (r : Ref R) → as_reference x ≡ Some y → fits_type W y (val (reference r)) ≡ true → fits_type W x (val (reference r)) ≡ true
  as_reference-fits bottom y r a e = refl
  as_reference-fits bottom_reference y r a e = refl
  as_reference-fits (open_reference k) y r a e = subst (λ (w : Operand R). fits_type W w (val (reference r)) ≡ true) (sym (the_same (open_reference k) y a)) e
  as_reference-fits (known (reference q)) y r a e = subst (λ (w : Operand R). fits_type W w (val (reference r)) ≡ true) (sym (the_same (known (reference q)) y a)) e
  as_reference-fits (known i32) y r a e = absurd (absent y a)
  as_reference-fits (known i64) y r a e = absurd (absent y a)
  as_reference-fits (known f32) y r a e = absurd (absent y a)
  as_reference-fits (known f64) y r a e = absurd (absent y a)
  as_reference-fits (known v128) y r a e = absurd (absent y a)

  pub pop_fitting-sound :
      (p : Stack R) (q : Operand R × Stack R) (r : Ref R) (ws : List (ValueType R)) → lpop_reference p ≡ Some q → fits_type W q.0 (val (reference r)) ≡ true → FitsStack W q.1 ws
      → FitsStack W p (val (reference r) ∷ ws)
  pop_fitting-sound p q r ws e h m =
      let f = bind-gives (lpop p) referred q e in
      let g = bind-gives (as_reference f.0.0) (referring f.0.1) q f.2 in
      let i : (g.0, f.0.1) ≡ q = the_same (g.0, f.0.1) q g.2 in
      pop_any-sound W p.sets p.unreached p.items f.0 ws (val (reference r)) f.1
      (as_reference-fits f.0.0 g.0 r g.1 (subst (λ (q : Operand R × Stack R). fits_type W q.0 (val (reference r)) ≡ true) (sym i) h))
      (subst (λ (q : Operand R × Stack R). FitsStack W q.1 ws) (sym i) m)

  -- what a reference that isn't null stands for, one that may be null stands for the nullable type of
  pub raised : (h : Option (Heap R)) (r : Ref R) → matches_type W (reference_type false h) (val (reference r)) ≡ true → matches_type W (reference_type true h) (val (reference_at true r.heap)) ≡ true
  raised None r e = refl
  raised (Some h) r e = (and-both (implies false r.nullable) (matches_heap W h r.heap) e).1

  pub is_reference : (h : Option (Heap R)) (v : Val R) → matches_type W (reference_type false h) (val v) ≡ true → (r : Ref R) × (v ≡ reference r)
  is_reference h (reference r) e = (r, refl)
  is_reference None i32 e = no e
  is_reference None i64 e = no e
  is_reference None f32 e = no e
  is_reference None f64 e = no e
  is_reference None v128 e = no e
  is_reference (Some h) i32 e = no e
  is_reference (Some h) i64 e = no e
  is_reference (Some h) f32 e = no e
  is_reference (Some h) f64 e = no e
  is_reference (Some h) v128 e = no e

  pub chosen-sound : (x y z : Operand R) (w : ValueType R) → chosen x y ≡ Some z → fits_type W z w ≡ true → Chosen W x y w
  chosen-sound bottom bottom z w e h = record { type = bot; number = i32; is_one = refl; within = refl; first = refl; second = refl; gives = refl }
  chosen-sound bottom (known v) z w e h =
      let g = guard-gives (same_number v v) (known v) z e in
      record { type = val v; number = v; is_one = g.0; within = val-itself W o v; first = refl; second = val-itself W o v; gives = subst (λ (q : Operand R). fits_type W q w ≡ true) (sym g.1) h }
  chosen-sound (known v) bottom z w e h =
      let g = guard-gives (same_number v v) (known v) z e in
      record { type = val v; number = v; is_one = g.0; within = val-itself W o v; first = val-itself W o v; second = refl; gives = subst (λ (q : Operand R). fits_type W q w ≡ true) (sym g.1) h }
  chosen-sound (known v) (known u) z w e h =
      let g = guard-gives (same_number v u) (known v) z e in
      let k : v ≡ u = number-itself W v u g.0 in
      record {
        type = val v;
        number = v;
        is_one = ap (same_number v) k ∙ g.0;
        within = val-itself W o v;
        first = val-itself W o v;
        second = subst (λ (q : Val R). matches_val W q v ≡ true) k (val-itself W o v);
        gives = subst (λ (q : Operand R). fits_type W q w ≡ true) (sym g.1) h;
      }
  chosen-sound bottom bottom_reference z w e h = absurd (absent z e)
  chosen-sound bottom (open_reference k) z w e h = absurd (absent z e)
  chosen-sound (known v) bottom_reference z w e h = absurd (absent z e)
  chosen-sound (known v) (open_reference k) z w e h = absurd (absent z e)
  chosen-sound bottom_reference y z w e h = absurd (absent z e)
  chosen-sound (open_reference k) y z w e h = absurd (absent z e)

  module _ (B : Surroundings R) where
    -- below an abstract heap type
    pub below-with : (k : AbstractHeap) (x : Operand R) (s : Bool) → is_below_either W B k x ≡ true → Agrees W s x → fits_type W x (val (reference_at true (abstract_heap s k))) ≡ true
    below-with k bottom_reference s e a = refl
    below-with k (open_reference j) s e a = open-flag W s j k e
    below-with k (known (reference r)) s e a = λ i. implies-true r.nullable i && subst (λ (b : Bool). matches_heap W r.heap (abstract_heap b k) ≡ true) a e i
    below-with k bottom s e a = no e
    below-with k (known i32) s e a = no e
    below-with k (known i64) s e a = no e
    below-with k (known f32) s e a = no e
    below-with k (known f64) s e a = no e
    below-with k (known v128) s e a = no e

    pub shared_by : (x : Operand R) → (s : Bool) × Agrees W s x
    shared_by (known (reference r)) = (is_shared_heap W.declared r.heap, refl)
    shared_by (known i32) = (false, tt)
    shared_by (known i64) = (false, tt)
    shared_by (known f32) = (false, tt)
    shared_by (known f64) = (false, tt)
    shared_by (known v128) = (false, tt)
    shared_by bottom = (false, tt)
    shared_by bottom_reference = (false, tt)
    shared_by (open_reference k) = (false, tt)

    pub shared_by_both : (x y : Operand R) → agree W B x y ≡ true → (s : Bool) × Agrees W s x × Agrees W s y
    shared_by_both (known (reference r)) (known (reference q)) e =
        (is_shared_heap W.declared r.heap, refl, sym (same-equal (is_shared_heap W.declared r.heap) (is_shared_heap W.declared q.heap) e))
    shared_by_both (known (reference r)) bottom e = (is_shared_heap W.declared r.heap, refl, tt)
    shared_by_both (known (reference r)) bottom_reference e = (is_shared_heap W.declared r.heap, refl, tt)
    shared_by_both (known (reference r)) (open_reference k) e = (is_shared_heap W.declared r.heap, refl, tt)
    shared_by_both (known (reference r)) (known i32) e = (is_shared_heap W.declared r.heap, refl, tt)
    shared_by_both (known (reference r)) (known i64) e = (is_shared_heap W.declared r.heap, refl, tt)
    shared_by_both (known (reference r)) (known f32) e = (is_shared_heap W.declared r.heap, refl, tt)
    shared_by_both (known (reference r)) (known f64) e = (is_shared_heap W.declared r.heap, refl, tt)
    shared_by_both (known (reference r)) (known v128) e = (is_shared_heap W.declared r.heap, refl, tt)
    shared_by_both (known i32) y e = let s = shared_by y in (s.0, tt, s.1)
    shared_by_both (known i64) y e = let s = shared_by y in (s.0, tt, s.1)
    shared_by_both (known f32) y e = let s = shared_by y in (s.0, tt, s.1)
    shared_by_both (known f64) y e = let s = shared_by y in (s.0, tt, s.1)
    shared_by_both (known v128) y e = let s = shared_by y in (s.0, tt, s.1)
    shared_by_both bottom y e = let s = shared_by y in (s.0, tt, s.1)
    shared_by_both bottom_reference y e = let s = shared_by y in (s.0, tt, s.1)
    shared_by_both (open_reference k) y e = let s = shared_by y in (s.0, tt, s.1)

    -- what a converted reference stands for
    open-converted :
        (j k : AbstractHeap) (x : Operand R) (z : ValueType R) → ((s : Bool) → fits_type W x (val (reference_at false (abstract_heap s j))) ≡ true) → fits_type W (open_reference k) z ≡ true
        → (n s : Bool) × (fits_type W x (val (reference_at n (abstract_heap s j))) ≡ true) × (matches_type W (val (reference_at n (abstract_heap s k))) z ≡ true)
    open-converted j k x (val (reference r)) h e = (false, is_shared_heap W.declared r.heap, h (is_shared_heap W.declared r.heap), e)
    open-converted j k x bot h e = no e
    open-converted j k x (reference_to_bot n) h e = no e
    open-converted j k x (val i32) h e = no e
    open-converted j k x (val i64) h e = no e
    open-converted j k x (val f32) h e = no e
    open-converted j k x (val f64) h e = no e
    open-converted j k x (val v128) h e = no e

    pub converted-sound :
        (j k : AbstractHeap) (x : Operand R) (z : ValueType R) → is_below_either W B j x ≡ true → fits_type W (converted W B k x) z ≡ true
        → (n s : Bool) × (fits_type W x (val (reference_at n (abstract_heap s j))) ≡ true) × (matches_type W (val (reference_at n (abstract_heap s k))) z ≡ true)
    converted-sound j k (known (reference r)) z e h = (r.nullable, is_shared_heap W.declared r.heap, (λ i. implies-refl r.nullable i && e i), h)
    converted-sound j k bottom_reference z e h = open-converted j k bottom_reference z (λ s. refl) h
    converted-sound j k (open_reference i) z e h = open-converted j k (open_reference i) z (λ s. open-flag W s i j e) h
    converted-sound j k bottom z e h = no e
    converted-sound j k (known i32) z e h = no e
    converted-sound j k (known i64) z e h = no e
    converted-sound j k (known f32) z e h = no e
    converted-sound j k (known f64) z e h = no e
    converted-sound j k (known v128) z e h = no e
