-- Operands whose shared flag isn't open, each of which has a least type: so the labels of a table have types in common.
use Rattle.std.proofs.Common.{◌≡◌, refl, sym, ap, subst, ◌∙◌, ℕ, zero, suc, ◌+◌, Bool, true, false, ◌&&◌, ◌==◌, List, [], ◌∷◌, ◌++◌, length, Some, is_some, slice_get, arith}
use Rattle.std.proofs.lemmas.Bool.Decides.{Decides-eqb}
use Rattle.wasm_spec_steps.specs.WasmSpecRules.WasmSpec.Syntax.{Val, abstract_heap, i32, i64, f32, f64, v128, reference}
use Rattle.wasm_spec_steps.specs.WasmSpecRules.WasmSpec.MatchingTests.{World, matches_heap}
use Rattle.wasm_spec_steps.specs.WasmSpecRules.Attempts.{passes}
use Rattle.wasm_spec_steps.specs.Machine.{Operand, bottom, bottom_reference, open_reference, known}
use Rattle.wasm_spec_instructions.specs.ValueTypes.{ValueType, bot, reference_to_bot, val, reference_at, vals, IsUnshared, AreUnshared, matches_type, Match, none, each, IsInOrder}
use Rattle.wasm_spec_instructions.specs.Rules.{MatchLabels}
use Rattle.wasm_spec_instructions.proofs.Attempts.{no, absent, the_same, and-both, passes-gives, some-gives}
use Rattle.wasm_spec_instructions.proofs.FrameMachine.{Stack, lpops, lfit}
use Rattle.wasm_spec_instructions.proofs.OperandFits.{onto, rev, onto-behind, rev-rev, fits_type, Fits, FitsStack, match-onto, some_types, val-itself, pops-sound}
use Rattle.wasm_spec_instructions.proofs.References.{bottom-sound}

abbrev pub is_shut : {R : Type 0} → Operand R → Bool
is_shut (open_reference k) = false
is_shut _ = true

abbrev pub AreShut : {R : Type 0} → List (Operand R) → Type 0
AreShut [] = Unit {0}
AreShut (x ∷ xs) = (is_shut x ≡ true) × AreShut xs

abbrev least : {R : Type 0} → Operand R → ValueType R
least bottom = bot
least bottom_reference = reference_to_bot false
least (open_reference k) = val (reference_at false (abstract_heap false k))
least (known v) = val v

length-vals : {R : Type 0} (vs : List (Val R)) → length (vals vs) ≡ length vs
length-vals [] = refl
length-vals (v ∷ vs) = let h : length (vals vs) ≡ length vs = length-vals vs in omega (arith, h)

length-onto : {R : Type 0} (ts ws : List (ValueType R)) → length (onto ts ws) ≡ length ts + length ws
length-onto [] ws = omega arith
length-onto (t ∷ ts) ws = let h : length (onto ts (t ∷ ws)) ≡ length ts + length (t ∷ ws) = length-onto ts (t ∷ ws) in omega (arith, h)

pub length-rev : {R : Type 0} (vs : List (Val R)) → length (rev (vals vs)) ≡ length vs
length-rev {R} vs = let h : length (rev (vals vs)) ≡ length (vals vs) + length {A = ValueType R} [] = length-onto (vals vs) [] in omega (arith, h, length-vals vs)

-- the least types of so many operands
pub top : {R : Type 0} → ℕ → List (Operand R) → List (ValueType R)
top zero xs = []
top (suc k) [] = bot ∷ top k []
top (suc k) (x ∷ xs) = least x ∷ top k xs

-- types at labels that aren't shared
module _ {R : Type 0} (W : World R) where
  abbrev pub IsUnsharedType : ValueType R → Type 0
  IsUnsharedType (val v) = IsUnshared W v
  IsUnsharedType _ = Unit {0}

  abbrev pub AreUnsharedTypes : List (ValueType R) → Type 0
  AreUnsharedTypes [] = Unit {0}
  AreUnsharedTypes (t ∷ ts) = IsUnsharedType t × AreUnsharedTypes ts

  abbrev pub AllUnshared : List (List (Val R)) → Type 0
  AllUnshared [] = Unit {0}
  AllUnshared (ls ∷ labels) = AreUnshared W ls × AllUnshared labels

  pub unshared-onto : (vs : List (Val R)) (ws : List (ValueType R)) → AreUnshared W vs → AreUnsharedTypes ws → AreUnsharedTypes (onto (vals vs) ws)
  unshared-onto [] ws h k = k
  unshared-onto (v ∷ vs) ws h k = unshared-onto vs (val v ∷ ws) h.1 (h.0, k)

  unshared-at : (C : List (List (Val R))) (n : ℕ) (vs : List (Val R)) → AllUnshared C → slice_get C n ≡ Some vs → AreUnshared W vs
  unshared-at [] n vs h e = absurd (absent vs e)
  unshared-at (ls ∷ C) zero vs h e = subst (λ (z : List (Val R)). AreUnshared W z) (the_same ls vs e) h.0
  unshared-at (ls ∷ C) (suc n) vs h e = unshared-at C n vs h.1 e

  -- the operands of a table have no open shared flag, or no label has shared types
  pub data Ready (C : List (List (Val R))) (p : Stack R) : Type 0 where
    by_operands : AreShut p.items → Ready C p
    by_labels : AllUnshared C → Ready C p

  -- the same for the types of one label
  data Tame (xs : List (Operand R)) (ts : List (ValueType R)) : Type 0 where
    operands : AreShut xs → Tame xs ts
    types : AreUnsharedTypes ts → Tame xs ts

  tame : (C : List (List (Val R))) (p : Stack R) (n : ℕ) (vs : List (Val R)) → Ready C p → slice_get C n ≡ Some vs → Tame p.items (rev (vals vs))
  tame C p n vs (by_operands h) e = operands h
  tame C p n vs (by_labels h) e = types (unshared-onto vs [] (unshared-at C n vs h e) tt)

module _ {R : Type 0} (W : World R) (o : IsInOrder W) where
  -- and types of those below
  under : ℕ → Bool → List (Operand R) → List (ValueType R)
  under zero u xs = (some_types W o u xs).0
  under (suc k) u [] = []
  under (suc k) u (x ∷ xs) = under k u xs

  least-match : (x : Operand R) (z : ValueType R) → is_shut x ≡ true → fits_type W x z ≡ true → matches_type W (least x) z ≡ true
  least-match bottom z s e = refl
  least-match bottom_reference z s e = bottom-sound W z e
  least-match (open_reference k) z s e = no s
  least-match (known v) z s e = e

  least-unshared : (x : Operand R) (z : ValueType R) → IsUnsharedType W z → fits_type W x z ≡ true → matches_type W (least x) z ≡ true
  least-unshared bottom z s e = refl
  least-unshared bottom_reference z s e = bottom-sound W z e
  least-unshared (known v) z s e = e
  least-unshared (open_reference k) (val (reference r)) s e = subst (λ (b : Bool). matches_heap W (abstract_heap b k) r.heap ≡ true) s e
  least-unshared (open_reference k) bot s e = no e
  least-unshared (open_reference k) (reference_to_bot n) s e = no e
  least-unshared (open_reference k) (val i32) s e = no e
  least-unshared (open_reference k) (val i64) s e = no e
  least-unshared (open_reference k) (val f32) s e = no e
  least-unshared (open_reference k) (val f64) s e = no e
  least-unshared (open_reference k) (val v128) s e = no e

  least-fits : (x : Operand R) → fits_type W x (least x) ≡ true
  least-fits bottom = refl
  least-fits bottom_reference = refl
  least-fits (open_reference k) = o.itself (abstract_heap false k)
  least-fits (known v) = val-itself W o v

  top-none : (as_ : List (ValueType R)) → Match W (top (length as_) []) as_
  unfolding top
  top-none [] = none
  top-none (a ∷ as_) = each refl (top-none as_)

  top-shut : (u : Bool) (xs : List (Operand R)) (as_ bs : List (ValueType R)) → AreShut xs → Fits W u xs (as_ ++ bs) → Match W (top (length as_) xs) as_
  unfolding top
  top-shut u xs [] bs s h = none
  top-shut u [] (a ∷ as_) bs s h = top-none (a ∷ as_)
  top-shut u (x ∷ xs) (a ∷ as_) bs s h = each (least-match x a s.0 h.0) (top-shut u xs as_ bs s.1 h.1)

  pub top-unshared : (u : Bool) (xs : List (Operand R)) (as_ bs : List (ValueType R)) → AreUnsharedTypes W as_ → Fits W u xs (as_ ++ bs) → Match W (top (length as_) xs) as_
  unfolding top
  top-unshared u xs [] bs s h = none
  top-unshared u [] (a ∷ as_) bs s h = top-none (a ∷ as_)
  top-unshared u (x ∷ xs) (a ∷ as_) bs s h = each (least-unshared x a s.0 h.0) (top-unshared u xs as_ bs s.1 h.1)

  top-match : (u : Bool) (xs : List (Operand R)) (as_ bs : List (ValueType R)) → Tame W xs as_ → Fits W u xs (as_ ++ bs) → Match W (top (length as_) xs) as_
  top-match u xs as_ bs (operands s) h = top-shut u xs as_ bs s h
  top-match u xs as_ bs (types s) h = top-unshared u xs as_ bs s h

  top-fits : (u : Bool) (xs : List (Operand R)) (as_ bs : List (ValueType R)) → Fits W u xs (as_ ++ bs) → Fits W u xs (top (length as_) xs ++ under (length as_) u xs)
  unfolding top under
  top-fits u xs [] bs h = (some_types W o u xs).1
  top-fits u [] (a ∷ as_) bs h = h
  top-fits u (x ∷ xs) (a ∷ as_) bs h = (least-fits x, top-fits u xs as_ bs h.1)

  -- what operands stand for, their least types do
  pub least-stand : (u : Bool) (xs : List (Operand R)) (zs : List (ValueType R)) → Fits W u xs zs → Fits W u xs (top (length zs) xs)
  unfolding top
  least-stand u [] [] h = tt
  least-stand u [] (z ∷ zs) h = h
  least-stand u (x ∷ xs) [] h = absurd h
  least-stand u (x ∷ xs) (z ∷ zs) h = (least-fits x, least-stand u xs zs h.1)

  -- where a label's types can be taken, the least types match them
  shown : (p q : Stack R) (vs : List (Val R)) → lpops W vs p ≡ Some q → Fits W p.unreached p.items (rev (vals vs) ++ (some_types W o q.unreached q.items).0)
  shown p q vs e =
      let w = some_types W o q.unreached q.items in
      subst (λ (z : List (ValueType R)). FitsStack W p z) (onto-behind (vals vs) [] w.0) (pops-sound W vs p q w.0 e w.1)

  common-match : (p q : Stack R) (k : ℕ) (vs : List (Val R)) → Tame W p.items (rev (vals vs)) → length vs ≡ k → lpops W vs p ≡ Some q → Match W (rev (top k p.items)) (vals vs)
  common-match p q k vs s e f =
      let m : Match W (top (length (rev (vals vs))) p.items) (rev (vals vs)) = top-match p.unreached p.items (rev (vals vs)) _ s (shown p q vs f) in
      let n : Match W (top k p.items) (rev (vals vs)) = subst (λ (j : ℕ). Match W (top j p.items) (rev (vals vs))) (length-rev vs ∙ e) m in
      subst (λ (z : List (ValueType R)). Match W (rev (top k p.items)) z) (rev-rev (vals vs)) (match-onto W n none)

  common-fits : (p q : Stack R) (vs : List (Val R)) → lpops W vs p ≡ Some q → FitsStack W p (top (length vs) p.items ++ under (length vs) p.unreached p.items)
  common-fits p q vs f =
      subst (λ (j : ℕ). FitsStack W p (top j p.items ++ under j p.unreached p.items)) (length-rev vs) (top-fits p.unreached p.items (rev (vals vs)) _ (shown p q vs f))

  labels-sound : (C : List (List (Val R))) (p : Stack R) (k : ℕ) (ns : List ℕ) → Ready W C p → lfit W C p k ns ≡ true → MatchLabels W C (rev (top k p.items)) ns
  labels-sound C p k [] s e = tt
  labels-sound C p k (n ∷ ns) s e =
      let b = and-both (passes (λ vs. (length vs == k) && is_some (lpops W vs p)) (slice_get C n)) (lfit W C p k ns) e in
      let f = passes-gives (λ (vs : List (Val R)). (length vs == k) && is_some (lpops W vs p)) (slice_get C n) b.0 in
      let g = and-both (length f.0 == k) (is_some (lpops W f.0 p)) f.2 in
      let r = some-gives (lpops W f.0 p) g.1 in
      (f.0, f.1, common-match p r.0 k f.0 (tame W C p n f.0 s f.1) ((Decides-eqb (length f.0) k).0 g.0) r.1, labels-sound C p k ns s b.1)

-- types that those at each label have in common
pub record InCommon {R : Type 0} (W : World R) (C : List (List (Val R))) (p : Stack R) (ns : List ℕ) : Type 0 where
  pub types : List (ValueType R)
  pub back : List (ValueType R)
  pub matches : MatchLabels W C types ns
  pub fits : FitsStack W p (onto types back)

pub table-sound :
    {R : Type 0} (W : World R) (o : IsInOrder W) (C : List (List (Val R))) (p q : Stack R) (n : ℕ) (ns : List ℕ) (vs : List (Val R)) → Ready W C p
    → slice_get C n ≡ Some vs → lpops W vs p ≡ Some q → lfit W C p (length vs) ns ≡ true → InCommon W C p (n ∷ ns)
table-sound {R} W o C p q n ns vs s e f g = record {
  types = rev (top (length vs) p.items);
  back = under W o (length vs) p.unreached p.items;
  matches = (vs, e, common-match W o p q (length vs) vs (tame W C p n vs s e) refl f, labels-sound W o C p (length vs) ns s g);
  fits =
      subst (λ (z : List (ValueType R)). FitsStack W p z)
      (sym (onto-behind (rev (top (length vs) p.items)) [] (under W o (length vs) p.unreached p.items) ∙ ap (λ (z : List (ValueType R)). z ++ under W o (length vs) p.unreached p.items) (rev-rev (top (length vs) p.items))))
      (common-fits W o p q vs f);
}
