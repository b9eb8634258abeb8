-- Only what converts references leaves one whose shared flag is open.
use Rattle.std.proofs.Common.{◌≡◌, refl, sym, ap, subst, ℕ, Bool, true, false, ◌&&◌, List, [], ◌∷◌, ◌++◌, Some, slice_get, length}
use Rattle.wasm_spec_steps.specs.WasmSpecRules.WasmSpec.Syntax.{eq_heap, Val, i32, i64, f32, f64, v128, reference}
use Rattle.wasm_spec_steps.specs.WasmSpecRules.WasmSpec.MatchingTests.{World}
use Rattle.wasm_spec_steps.specs.Bodies.{Surroundings}
use Rattle.wasm_spec_steps.specs.Machine.{Operand, bottom, bottom_reference, open_reference, known, pushed_onto, as_reference, non_null, same_number, chosen, matches_operand}
use Rattle.wasm_spec_steps.specs.Actions.{OperandTypes, Check, Action, need, refuse, take, give, take_any, take_reference, take_comparable, make_non_null, choose, stop, turn_to_else, leave, take_below, convert, describe, enter, set, branch_on_null, branch_to_one_of, turn_to_catch, find_outside, find_caught}
use Rattle.wasm_spec_steps.specs.Shapes.{Shape, plain, ending, opening, closing, turning, dropping, choosing, never, testing_null, asserting_non_null, branching_on_null, branching_on_non_null, branching_by_table, setting, giving_back, measuring, comparing, converting, describing, catching, delegating, rethrowing}
use Rattle.wasm_spec_steps.specs.Meanings.{descriptor_at, is_below_either, agree}
use Rattle.wasm_spec_steps.specs.Steps.{actions_of, checked}
use Rattle.wasm_spec_instructions.specs.Scopes.{Scope, types_in, holds_in}
use Rattle.wasm_spec_instructions.specs.Laws.{is_served}
use Rattle.wasm_spec_instructions.specs.ValueTypes.{reference_at}
use Rattle.wasm_spec_instructions.proofs.Attempts.{no, absent, the_same, bind-gives, guard-gives}
use Rattle.wasm_spec_instructions.proofs.FrameMachine.{Stack, stack, lpop_in, lpop, lpop_val, matched, lpops, referring, referred, lpop_reference, lpush, lput, lfit, without, below, compared, compare_of, put_non_null, and_choose, choose_of, null_for, null_at, given_back, in_table, table_for, ldescribed, described_of, stopped, lgrown, is_caught, lact, lrun}
use Rattle.wasm_spec_instructions.proofs.DescriptorOperands.{at_type, described-gives}
use Rattle.wasm_spec_instructions.proofs.Tables.{is_shut, AreShut}

module _ {R : Type 0} where
  abbrev pub IsShut : Operand R × Stack R → Type 0
  IsShut q = (is_shut q.0 ≡ true) × AreShut q.1.items

  shut_as : (p q : Stack R) → p ≡ q → AreShut p.items → AreShut q.items
  shut_as p q e h = subst (λ (z : Stack R). AreShut z.items) e h

  pop_any-shut : (is : List ℕ) (u : Bool) (xs : List (Operand R)) (q : Operand R × Stack R) → lpop_in is u xs ≡ Some q → AreShut xs → IsShut q
  pop_any-shut is u (x ∷ xs) q e h = subst (λ (z : Operand R × Stack R). IsShut z) (the_same (x, stack is u xs) q e) h
  pop_any-shut is true [] q e h = subst (λ (z : Operand R × Stack R). IsShut z) (the_same (bottom, stack is true []) q e) (refl, tt)
  pop_any-shut is false [] q e h = absurd (absent q e)

  pop-shut : (p : Stack R) (q : Operand R × Stack R) → lpop p ≡ Some q → AreShut p.items → IsShut q
  pop-shut p q e h = pop_any-shut p.sets p.unreached p.items q e h

  as_reference-shut : (x y : Operand R) → as_reference x ≡ Some y → is_shut x ≡ true → is_shut y ≡ true
  as_reference-shut bottom y e h = ap is_shut (sym (the_same bottom_reference y e))
  as_reference-shut bottom_reference y e h = ap is_shut (sym (the_same bottom_reference y e))
  as_reference-shut (open_reference k) y e h = no h
  as_reference-shut (known (reference r)) y e h = ap is_shut (sym (the_same (known (reference r)) y e))
  as_reference-shut (known i32) y e h = absurd (absent y e)
  as_reference-shut (known i64) y e h = absurd (absent y e)
  as_reference-shut (known f32) y e h = absurd (absent y e)
  as_reference-shut (known f64) y e h = absurd (absent y e)
  as_reference-shut (known v128) y e h = absurd (absent y e)

  pop_reference-shut : (p : Stack R) (q : Operand R × Stack R) → lpop_reference p ≡ Some q → AreShut p.items → IsShut q
  pop_reference-shut p q e h =
      let f = bind-gives (lpop p) referred q e in
      let g = bind-gives (as_reference f.0.0) (referring f.0.1) q f.2 in
      let k = pop-shut p f.0 f.1 h in
      subst (λ (z : Operand R × Stack R). IsShut z) (the_same (g.0, f.0.1) q g.2) (as_reference-shut f.0.0 g.0 g.1 k.0, k.1)

  non_null-shut : (x : Operand R) → is_shut x ≡ true → is_shut (non_null x) ≡ true
  non_null-shut bottom h = refl
  non_null-shut bottom_reference h = refl
  non_null-shut (open_reference k) h = no h
  non_null-shut (known (reference r)) h = refl
  non_null-shut (known i32) h = refl
  non_null-shut (known i64) h = refl
  non_null-shut (known f32) h = refl
  non_null-shut (known f64) h = refl
  non_null-shut (known v128) h = refl

  chosen-shut : (x y z : Operand R) → chosen x y ≡ Some z → is_shut z ≡ true
  chosen-shut bottom bottom z e = ap is_shut (sym (the_same bottom z e))
  chosen-shut bottom (known v) z e = ap is_shut (sym (guard-gives (same_number v v) (known v) z e).1)
  chosen-shut (known v) bottom z e = ap is_shut (sym (guard-gives (same_number v v) (known v) z e).1)
  chosen-shut (known v) (known w) z e = ap is_shut (sym (guard-gives (same_number v w) (known v) z e).1)
  chosen-shut bottom bottom_reference z e = absurd (absent z e)
  chosen-shut bottom (open_reference k) z e = absurd (absent z e)
  chosen-shut (known v) bottom_reference z e = absurd (absent z e)
  chosen-shut (known v) (open_reference k) z e = absurd (absent z e)
  chosen-shut bottom_reference y z e = absurd (absent z e)
  chosen-shut (open_reference k) y z e = absurd (absent z e)

  pub push-shut : (vs : List (Val R)) (xs : List (Operand R)) → AreShut xs → AreShut (pushed_onto vs xs)
  push-shut [] xs h = h
  push-shut (v ∷ vs) xs h = push-shut vs (known v ∷ xs) (refl, h)

module _ {R : Type 0} (W : World R) where
  pub pops-shut : (vs : List (Val R)) (p q : Stack R) → lpops W vs p ≡ Some q → AreShut p.items → AreShut q.items
  pops-shut [] p q e h = shut_as p q (the_same p q e) h
  pops-shut (v ∷ vs) p q e h =
      let f = bind-gives (lpops W vs p) (lpop_val W v) q e in
      let g = bind-gives (lpop f.0) (matched W v) q f.2 in
      let k = guard-gives (matches_operand W g.0.0 v) g.0.1 q g.2 in
      shut_as g.0.1 q k.1 (pop-shut f.0 g.0 g.1 (pops-shut vs p f.0 f.1 h)).1

-- which actions and shapes convert none
abbrev pub Keeps : Action → Type 0
Keeps (convert j k) = ⊥
Keeps _ = Unit {0}

abbrev pub AllKeep : List Action → Type 0
AllKeep [] = Unit {0}
AllKeep (a ∷ as_) = Keeps a × AllKeep as_

module _ {R : Type 0} (W : World R) (B : Surroundings R) (C : Scope R) where
  act-shut : (a : Action) (p q : Stack R) → Keeps a → lact W B C a p ≡ Some q → AreShut p.items → AreShut q.items
  act-shut (need c) p q w e h = shut_as p q (guard-gives (holds_in W B C.labels C.returns (p.sets ++ C.sets) c) p q e).1 h
  act-shut refuse p q w e h = absurd (absent q e)
  act-shut turn_to_else p q w e h = absurd (absent q e)
  act-shut leave p q w e h = absurd (absent q e)
  act-shut (enter k b) p q w e h = absurd (absent q e)
  act-shut (turn_to_catch t k) p q w e h = absurd (absent q e)
  act-shut (find_outside n) p q w e h = absurd (absent q e)
  act-shut (find_caught n) p q w e h = shut_as p q (guard-gives (is_caught W B C.caught n) p q e).1 h
  act-shut (convert j k) p q w e h = absurd w
  act-shut (describe n) p q w e h =
      let a = bind-gives (slice_get B.context.types n) (described_of W B n p) q e in
      let b = bind-gives (descriptor_at W B n) (λ x. ldescribed W a.0 x p) q a.2 in
      let d = described-gives W a.0 b.0 p q b.2 in
      shut_as (lput (known (reference_at false (at_type d.exactly b.0))) d.left) q d.is (refl, pops-shut W (reference_at true (at_type d.exactly a.0) ∷ []) p d.left d.pops h)
  act-shut (take t) p q w e h = let f = bind-gives (types_in W B C.labels C.returns t) (λ (vs : List (Val R)). lpops W vs p) q e in pops-shut W f.0 p q f.2 h
  act-shut (give t) p q w e h =
      let f = bind-gives (types_in W B C.labels C.returns t) (λ (vs : List (Val R)). Some (lpush vs p)) q e in
      shut_as (lpush f.0 p) q (the_same (lpush f.0 p) q f.2) (push-shut f.0 p.items h)
  act-shut take_any p q w e h =
      let f = bind-gives (lpop p) without q e in
      shut_as f.0.1 q (the_same f.0.1 q f.2) (pop-shut p f.0 f.1 h).1
  act-shut stop p q w e h = shut_as (stopped p) q (the_same (stopped p) q e) tt
  act-shut (set n) p q w e h = shut_as (record p { sets = lgrown W B n C.sets p.sets }) q (the_same (record p { sets = lgrown W B n C.sets p.sets }) q e) h
  act-shut take_reference p q w e h =
      let f = bind-gives (lpop_reference p) without q e in
      shut_as f.0.1 q (the_same f.0.1 q f.2) (pop_reference-shut p f.0 f.1 h).1
  act-shut make_non_null p q w e h =
      let f = bind-gives (lpop_reference p) put_non_null q e in
      let k = pop_reference-shut p f.0 f.1 h in
      shut_as (lput (non_null f.0.0) f.0.1) q (the_same (lput (non_null f.0.0) f.0.1) q f.2) (non_null-shut f.0.0 k.0, k.1)
  act-shut (take_below k) p q w e h =
      let f = bind-gives (lpop_reference p) (below W B k) q e in
      shut_as f.0.1 q (guard-gives (is_below_either W B k f.0.0) f.0.1 q f.2).1 (pop_reference-shut p f.0 f.1 h).1
  act-shut take_comparable p q w e h =
      let f = bind-gives (lpop_reference p) (compare_of W B) q e in
      let g = bind-gives (lpop_reference f.0.1) (compared W B f.0.0) q f.2 in
      shut_as g.0.1 q (guard-gives (is_below_either W B eq_heap f.0.0 && is_below_either W B eq_heap g.0.0 && agree W B f.0.0 g.0.0) g.0.1 q g.2).1
      (pop_reference-shut f.0.1 g.0 g.1 (pop_reference-shut p f.0 f.1 h).1).1
  act-shut choose p q w e h =
      let a = bind-gives (lpop p) choose_of q e in
      let b = bind-gives (lpop a.0.1) (and_choose a.0.0) q a.2 in
      let c = bind-gives (chosen a.0.0 b.0.0) (λ (x : Operand R). Some (lput x b.0.1)) q b.2 in
      shut_as (lput c.0 b.0.1) q (the_same (lput c.0 b.0.1) q c.2) (chosen-shut a.0.0 b.0.0 c.0 c.1, (pop-shut a.0.1 b.0 b.1 (pop-shut p a.0 a.1 h).1).1)
  act-shut (branch_on_null n) p q w e h =
      let b = bind-gives (lpop_reference p) (null_at W B C.labels n) q e in
      let c = bind-gives (slice_get C.labels n) (null_for W B b.0) q b.2 in
      let d = bind-gives (lpops W c.0 b.0.1) (given_back b.0.0 c.0) q c.2 in
      let k = pop_reference-shut p b.0 b.1 h in
      shut_as (lput (non_null b.0.0) (lpush c.0 d.0)) q (the_same (lput (non_null b.0.0) (lpush c.0 d.0)) q d.2) (non_null-shut b.0.0 k.0, push-shut c.0 d.0.items (pops-shut W c.0 b.0.1 d.0 d.1 k.1))
  act-shut (branch_to_one_of ns n) p q w e h =
      let a = bind-gives (slice_get C.labels n) (table_for W B C.labels p ns) q e in
      let b = bind-gives (lpops W a.0 p) (in_table W B C.labels p ns a.0) q a.2 in
      shut_as (stopped b.0) q (guard-gives (lfit W C.labels p (length a.0) ns) (stopped b.0) q b.2).1 tt

  run-shut : (as_ : List Action) (p q : Stack R) → AllKeep as_ → lrun W B C as_ p ≡ Some q → AreShut p.items → AreShut q.items
  run-shut [] p q w e h = shut_as p q (the_same p q e) h
  run-shut (a ∷ as_) p q w e h =
      let f = bind-gives (lact W B C a p) (lrun W B C as_) q e in
      run-shut as_ f.0 q w.1 f.2 (act-shut a p f.0 w.0 f.1 h)

  all_keep : (cs : List Check) (as_ : List Action) → AllKeep as_ → AllKeep (checked cs as_)
  all_keep [] as_ h = h
  all_keep (c ∷ cs) as_ h = (tt, all_keep cs as_ h)

  shape-keeps : (s : Shape) → is_served true s ≡ true → AllKeep (actions_of s)
  shape-keeps (plain cs t u) e = all_keep cs (take t ∷ give u ∷ []) (tt, (tt, tt))
  shape-keeps (ending cs t) e = all_keep cs (take t ∷ stop ∷ []) (tt, (tt, tt))
  shape-keeps (opening cs t k b) e = all_keep cs (take t ∷ enter k b ∷ []) (tt, (tt, tt))
  shape-keeps closing e = (tt, tt)
  shape-keeps turning e = (tt, tt)
  shape-keeps dropping e = (tt, tt)
  shape-keeps choosing e = (tt, (tt, tt))
  shape-keeps never e = (tt, tt)
  shape-keeps (testing_null cs) e = all_keep cs (take_reference ∷ give _ ∷ []) (tt, (tt, tt))
  shape-keeps (asserting_non_null cs) e = all_keep cs (make_non_null ∷ []) (tt, tt)
  shape-keeps (branching_on_null cs l) e = all_keep cs (branch_on_null l ∷ []) (tt, tt)
  shape-keeps (branching_on_non_null cs l) e = all_keep cs (make_non_null ∷ take _ ∷ take _ ∷ give _ ∷ []) (tt, (tt, (tt, (tt, tt))))
  shape-keeps (branching_by_table ls l) e = (tt, (tt, tt))
  shape-keeps (setting x) e = (tt, (tt, tt))
  shape-keeps (giving_back x) e = (tt, (tt, (tt, tt)))
  shape-keeps (measuring cs k t) e = all_keep cs (take_below k ∷ give t ∷ []) (tt, (tt, tt))
  shape-keeps (comparing cs t) e = all_keep cs (take_comparable ∷ give t ∷ []) (tt, (tt, tt))
  shape-keeps (converting cs j k) e = no e
  shape-keeps (describing cs n) e = all_keep cs (describe n ∷ []) (tt, tt)
  shape-keeps (catching cs t k) e = all_keep cs (turn_to_catch t k ∷ []) (tt, tt)
  shape-keeps (delegating cs l) e = all_keep cs (find_outside l ∷ leave ∷ []) (tt, (tt, tt))
  shape-keeps (rethrowing cs l) e = all_keep cs (find_caught l ∷ stop ∷ []) (tt, (tt, tt))

  pub simple-shut : (s : Shape) (p q : Stack R) → is_served true s ≡ true → lrun W B C (actions_of s) p ≡ Some q → AreShut p.items → AreShut q.items
  simple-shut s p q w e h = run-shut (actions_of s) p q (shape-keeps s w) e h

  pub taken-shut : (cs : List Check) (t : OperandTypes) (p q : Stack R) → lrun W B C (checked cs (take t ∷ [])) p ≡ Some q → AreShut p.items → AreShut q.items
  taken-shut cs t p q e h = run-shut (checked cs (take t ∷ [])) p q (all_keep cs (take t ∷ []) (tt, tt)) e h
