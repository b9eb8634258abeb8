-- What the machine accepts, the rules type: for all types that the operands behind the code stand for there are some that those
-- before it stand for.
use Rattle.std.proofs.Common.{◌≡◌, refl, sym, ap, subst, ◌∙◌, ℕ, Bool, true, false, ◌&&◌, List, [], ◌∷◌, ◌++◌, Option, Some, None, option_map, slice_get, length}
use Rattle.wasm_spec_steps.specs.WasmSpecRules.WasmSpec.Syntax.{AbstractHeap, eq_heap, abstract_heap, Ref, Val, i32, reference}
use Rattle.wasm_spec_steps.specs.WasmSpecRules.WasmSpec.MatchingTests.{World}
use Rattle.wasm_spec_steps.specs.WasmSpecRules.Attempts.{◌>>=◌, guard, last_of, front_of}
use Rattle.wasm_spec_steps.specs.Bodies.{Local, Surroundings}
use Rattle.wasm_spec_steps.specs.Machine.{Operand, known, non_null, chosen, pushed_onto}
use Rattle.wasm_spec_steps.specs.Actions.{OperandTypes, label, local, last, front, Check, Action, take, give, take_any, take_reference, take_below, take_comparable, make_non_null, convert, describe, choose, stop, set, branch_on_null, branch_to_one_of, find_caught}
use Rattle.wasm_spec_steps.specs.Shapes.{Shape, plain, ending, opening, closing, turning, dropping, choosing, never, testing_null, asserting_non_null, branching_on_null, branching_on_non_null, branching_by_table, setting, giving_back, measuring, comparing, converting, describing, one, catching, delegating, rethrowing}
use Rattle.wasm_spec_steps.specs.Meanings.{descriptor_at, is_below_either, agree, converted}
use Rattle.wasm_spec_steps.specs.Meanings as meaning
use Rattle.wasm_spec_steps.specs.Steps.{actions_of, checked}
use Rattle.wasm_spec_instructions.specs.Code.{is_simple}
use Rattle.wasm_spec_instructions.specs.ValueTypes.{ValueType, val, reference_at, reference_type, vals, matches_type, Match, none, each, IsInOrder}
use Rattle.wasm_spec_instructions.specs.Scopes.{Scope, types_in, holds_in, AllHold}
use Rattle.wasm_spec_instructions.specs.Rules.{Rule, plain_rule, ending_rule, dropping_rule, choosing_rule, testing_null_rule, asserting_non_null_rule, branching_on_null_rule, branching_on_non_null_rule, branching_by_table_rule, setting_rule, giving_back_rule, measuring_rule, comparing_rule, converting_rule, describing_exactly_rule, describing_rule, rethrowing_rule}
use Rattle.wasm_spec_instructions.proofs.Attempts.{no, the_same, absent, bind-gives, guard-gives, passes-gives, and-both, with_last}
use Rattle.wasm_spec_instructions.proofs.FrameMachine.{Stack, lpop, lpops, lpush, lput, lpop_reference, stopped, without, choose_of, and_choose, put_non_null, given_back, null_for, null_at, in_table, table_for, ldescribed, described_of, lfit, below, compared, compare_of, converting_to, lgrown, is_caught, lact, lrun}
use Rattle.wasm_spec_instructions.proofs.DescriptorOperands.{at_type, described-gives}
use Rattle.wasm_spec_instructions.proofs.OperandFits.{onto, rev, onto-append, rev-rev, fits_type, Fits, FitsStack, fits-through, match-append, match-itself, pop_any-sound, pops-sound, Split, push-sound, some_type, some_types}
use Rattle.wasm_spec_instructions.proofs.References.{Referred, pop_reference-sound, pop_fitting-sound, raised, is_reference, Chosen, chosen-sound, below-with, shared_by, shared_by_both, converted-sound}
use Rattle.wasm_spec_instructions.proofs.LocalSets.{Covers, holds-more}
use Rattle.wasm_spec_instructions.proofs.Tables.{Ready, by_operands, by_labels, InCommon, table-sound}
use Rattle.wasm_spec_instructions.proofs.RuleCompleteness.{over}
use Rattle.wasm_spec_instructions.proofs.SharedFlags.{pops-shut}

-- a rule that leads to these types, or lesser ones
pub record Ruled {R : Type 0} (W : World R) (B : Surroundings R) (D : Scope R) (s : Shape) (p : Stack R) (zs : List (ValueType R)) : Type 0 where
  pub takes : List (ValueType R)
  pub gives : List (ValueType R)
  pub greater : List (ValueType R)
  pub back : List (ValueType R)
  pub rule : Rule W B D s takes gives
  pub is : zs ≡ onto greater back
  pub match : Match W gives greater
  pub fits : FitsStack W p (onto takes back)

-- where a table's operands or labels allow it to be typed
abbrev pub IsReady : {R : Type 0} → World R → List (List (Val R)) → Shape → Stack R → Type 0
IsReady W labels (branching_by_table ls l) p = Ready W labels p
IsReady W labels _ p = Unit {0}

module _ {R : Type 0} (W : World R) (o : IsInOrder W) (B : Surroundings R) (C : Scope R) (S : List ℕ) where
  abbrev pub D : Scope R
  D = over S C

  abbrev pub Ran : List Action → Stack R → Stack R → Type 0
  Ran as_ p q = lrun W B C as_ p ≡ Some q

  as_fits : (p q : Stack R) (zs : List (ValueType R)) → p ≡ q → FitsStack W q zs → FitsStack W p zs
  as_fits p q zs e h = subst (λ (z : Stack R). FitsStack W z zs) (sym e) h

  -- checks that were passed
  pub passed : (cs : List Check) (as_ : List Action) (p q : Stack R) → Covers W B (p.sets ++ C.sets) S → Ran (checked cs as_) p q → AllHold W B D cs × Ran as_ p q
  passed [] as_ p q v e = (tt, e)
  passed (c ∷ cs) as_ p q v e =
      let a = bind-gives (guard (holds_in W B C.labels C.returns (p.sets ++ C.sets) c) p) (lrun W B C (checked cs as_)) q e in
      let g = guard-gives (holds_in W B C.labels C.returns (p.sets ++ C.sets) c) p a.0 a.1 in
      let f = passed cs as_ p q v (subst (λ (z : Stack R). Ran (checked cs as_) z q) (sym g.1) a.2) in
      ((holds-more W B C.labels C.returns (p.sets ++ C.sets) S c v g.0, f.0), f.1)

  -- what was taken
  pub record Took (t : OperandTypes) (as_ : List Action) (p q : Stack R) : Type 0 where
    pub types : List (Val R)
    pub taken : types_in W B C.labels C.returns t ≡ Some types
    pub left : Stack R
    pub pops : lpops W types p ≡ Some left
    pub rest : Ran as_ left q

  pub took : (t : OperandTypes) (as_ : List Action) (p q : Stack R) → Ran (take t ∷ as_) p q → Took t as_ p q
  took t as_ p q e =
      let a = bind-gives (lact W B C (take t) p) (lrun W B C as_) q e in
      let b = bind-gives (types_in W B C.labels C.returns t) (λ vs. lpops W vs p) a.0 a.1 in
      record { types = b.0; taken = b.1; left = a.0; pops = b.2; rest = a.2 }

  -- what was given
  record Gave (u : OperandTypes) (p : Stack R) (zs : List (ValueType R)) : Type 0 where
    types : List (Val R)
    given : types_in W B C.labels C.returns u ≡ Some types
    front : List (ValueType R)
    back : List (ValueType R)
    is : zs ≡ onto front back
    match : Match W (vals types) front
    fits : FitsStack W p back

  gave : (u : OperandTypes) (p q : Stack R) (zs : List (ValueType R)) → Ran (give u ∷ []) p q → FitsStack W q zs → Gave u p zs
  gave u p q zs e h =
      let a = bind-gives (lact W B C (give u) p) (λ r. Some r) q e in
      let b = bind-gives (types_in W B C.labels C.returns u) (λ vs. Some (lpush vs p)) a.0 a.1 in
      let f : lpush b.0 p ≡ q = the_same (lpush b.0 p) a.0 b.2 ∙ the_same a.0 q a.2 in
      let k : Split W b.0 p.unreached p.items zs = push-sound W p.unreached b.0 p.items zs (as_fits (lpush b.0 p) q zs f h) in
      record { types = b.0; given = b.1; front = k.front; back = k.back; is = k.is; match = k.greater; fits = k.fits }

  -- where nothing behind it is reached
  no_return : (s : Shape) (p : Stack R) (zs ts back : List (ValueType R)) → FitsStack W p (onto ts back) → ((as_ us : List (ValueType R)) → Rule W B D s (as_ ++ ts) us) → Ruled W B D s p zs
  no_return s p zs ts back h r = record {
    takes = rev back ++ ts;
    gives = rev zs;
    greater = rev zs;
    back = [];
    rule = r (rev back) (rev zs);
    is = sym (rev-rev zs);
    match = match-itself W o (rev zs);
    fits = subst (λ (z : List (ValueType R)). FitsStack W p z) (sym (onto-append (rev back) ts [] ∙ ap (onto ts) (rev-rev back))) h;
  }

  -- a label of a handler
  rethrowing-sound : (cs : List Check) (l : ℕ) (p q : Stack R) (zs : List (ValueType R)) → AllHold W B D cs → Ran (find_caught l ∷ stop ∷ []) p q → Ruled W B D (rethrowing cs l) p zs
  rethrowing-sound cs l p q zs h e =
      let a = bind-gives (guard (is_caught W B C.caught l) p) (lrun W B C (stop ∷ [])) q e in
      let b = passes-gives (λ x. x) (slice_get C.caught l) (guard-gives (is_caught W B C.caught l) p a.0 a.1).0 in
      let ws = some_types W o p.unreached p.items in
      no_return (rethrowing cs l) p zs [] ws.0 ws.1
      (λ as_ us. rethrowing_rule (as_ ++ []) us h (b.1 ∙ ap (λ (x : Bool). Some x) b.2))

  -- one operand put on others: a greater type, over what stands for them
  with_top : {X : Type 0} (x : Operand R) (u : Bool) (xs : List (Operand R)) (zs : List (ValueType R)) → Fits W u (x ∷ xs) zs →
      ((z : ValueType R) (ws : List (ValueType R)) → zs ≡ z ∷ ws → fits_type W x z ≡ true → Fits W u xs ws → X) → X
  with_top x u xs [] h f = absurd h
  with_top x u xs (z ∷ ws) h f = f z ws refl h.0 h.1

  plain-sound : (cs : List Check) (t u : OperandTypes) (p q : Stack R) (zs : List (ValueType R)) → AllHold W B D cs → Ran (take t ∷ give u ∷ []) p q → FitsStack W q zs → Ruled W B D (plain cs t u) p zs
  plain-sound cs t u p q zs c e h =
      let a = took t (give u ∷ []) p q e in
      let b = gave u a.left q zs a.rest h in
      record {
        takes = vals a.types;
        gives = vals b.types;
        greater = b.front;
        back = b.back;
        rule = plain_rule c a.taken b.given;
        is = b.is;
        match = b.match;
        fits = pops-sound W a.types p a.left b.back a.pops b.fits;
      }

  ending-sound : (cs : List Check) (t : OperandTypes) (p q : Stack R) (zs : List (ValueType R)) → AllHold W B D cs → Ran (take t ∷ stop ∷ []) p q → Ruled W B D (ending cs t) p zs
  ending-sound cs t p q zs c e =
      let a = took t (stop ∷ []) p q e in
      let w = some_types W o a.left.unreached a.left.items in
      no_return (ending cs t) p zs (vals a.types) w.0 (pops-sound W a.types p a.left w.0 a.pops w.1) (λ as_ us. ending_rule as_ us c a.taken)

  dropping-sound : (p q : Stack R) (zs : List (ValueType R)) → Ran (take_any ∷ []) p q → FitsStack W q zs → Ruled W B D dropping p zs
  dropping-sound p q zs e h =
      let a = bind-gives (lpop p >>= without) (λ r. Some r) q e in
      let b = bind-gives (lpop p) without a.0 a.1 in
      let f : b.0.1 ≡ q = the_same b.0.1 a.0 b.2 ∙ the_same a.0 q a.2 in
      let t = some_type W o b.0.0 in
      record {
        takes = t.0 ∷ [];
        gives = [];
        greater = [];
        back = zs;
        rule = dropping_rule t.0;
        is = refl;
        match = none;
        fits = pop_any-sound W p.sets p.unreached p.items b.0 zs t.0 b.1 t.1 (as_fits b.0.1 q zs f h);
      }

  choosing-sound : (p q : Stack R) (zs : List (ValueType R)) → Ran (take (one i32) ∷ choose ∷ []) p q → FitsStack W q zs → Ruled W B D choosing p zs
  choosing-sound p q zs e h =
      let j = bind-gives (lpops W (i32 ∷ []) p) (lrun W B C (choose ∷ [])) q e in
      let k = bind-gives (lpop j.0 >>= choose_of) (λ r. Some r) q j.2 in
      let a = bind-gives (lpop j.0) choose_of k.0 k.1 in
      let b = bind-gives (lpop a.0.1) (and_choose a.0.0) k.0 a.2 in
      let c = bind-gives (chosen a.0.0 b.0.0) (λ (w : Operand R). Some (lput w b.0.1)) k.0 b.2 in
      let f : lput c.0 b.0.1 ≡ q = the_same (lput c.0 b.0.1) k.0 c.2 ∙ the_same k.0 q k.2 in
      with_top c.0 b.0.1.unreached b.0.1.items zs (as_fits (lput c.0 b.0.1) q zs f h)
      (λ z ws i m w.
      let g : Chosen W a.0.0 b.0.0 z = chosen-sound W o a.0.0 b.0.0 c.0 z c.1 m in
      record {
        takes = g.type ∷ g.type ∷ val i32 ∷ [];
        gives = g.type ∷ [];
        greater = z ∷ [];
        back = ws;
        rule = choosing_rule g.type g.number g.is_one g.within;
        is = i;
        match = each g.gives none;
        fits =
            pops-sound W (i32 ∷ []) p j.0 (g.type ∷ g.type ∷ ws) j.1
            (pop_any-sound W j.0.sets j.0.unreached j.0.items a.0 (g.type ∷ ws) g.type a.1 g.first
            (pop_any-sound W a.0.1.sets a.0.1.unreached a.0.1.items b.0 ws g.type b.1 g.second w));
      })

  testing-sound : (cs : List Check) (p q : Stack R) (zs : List (ValueType R)) → AllHold W B D cs → Ran (take_reference ∷ give (one i32) ∷ []) p q → FitsStack W q zs → Ruled W B D (testing_null cs) p zs
  testing-sound cs p q zs c e h =
      let a = bind-gives (lpop_reference p >>= without) (lrun W B C (give (one i32) ∷ [])) q e in
      let b = bind-gives (lpop_reference p) without a.0 a.1 in
      let t = some_type W o (non_null b.0.0) in
      let r : Referred W p b.0 t.0 = pop_reference-sound W o p b.0 t.0 b.1 t.1 in
      let g = gave (one i32) a.0 q zs a.2 h in
      record {
        takes = reference_type true r.heap ∷ [];
        gives = val i32 ∷ [];
        greater = g.front;
        back = g.back;
        rule = testing_null_rule r.heap c;
        is = g.is;
        match = subst (λ (z : List (Val R)). Match W (vals z) g.front) (sym (the_same (i32 ∷ []) g.types g.given)) g.match;
        fits = r.fits g.back (as_fits b.0.1 a.0 g.back (the_same b.0.1 a.0 b.2) g.fits);
      }

  asserting-sound : (cs : List Check) (p q : Stack R) (zs : List (ValueType R)) → AllHold W B D cs → Ran (make_non_null ∷ []) p q → FitsStack W q zs → Ruled W B D (asserting_non_null cs) p zs
  asserting-sound cs p q zs c e h =
      let a = bind-gives (lpop_reference p >>= put_non_null) (λ r. Some r) q e in
      let b = bind-gives (lpop_reference p) put_non_null a.0 a.1 in
      let f : lput (non_null b.0.0) b.0.1 ≡ q = the_same (lput (non_null b.0.0) b.0.1) a.0 b.2 ∙ the_same a.0 q a.2 in
      with_top (non_null b.0.0) b.0.1.unreached b.0.1.items zs (as_fits (lput (non_null b.0.0) b.0.1) q zs f h)
      (λ z ws i m w.
      let r : Referred W p b.0 z = pop_reference-sound W o p b.0 z b.1 m in
      record {
        takes = reference_type true r.heap ∷ [];
        gives = reference_type false r.heap ∷ [];
        greater = z ∷ [];
        back = ws;
        rule = asserting_non_null_rule r.heap c;
        is = i;
        match = each r.gives none;
        fits = r.fits ws w;
      })

  branching-sound : (cs : List Check) (n : ℕ) (p q : Stack R) (zs : List (ValueType R)) → AllHold W B D cs → Ran (branch_on_null n ∷ []) p q → FitsStack W q zs → Ruled W B D (branching_on_null cs n) p zs
  branching-sound cs n p q zs s e h =
      let a = bind-gives (lpop_reference p >>= null_at W B C.labels n) (λ r. Some r) q e in
      let b = bind-gives (lpop_reference p) (null_at W B C.labels n) a.0 a.1 in
      let c = bind-gives (slice_get C.labels n) (null_for W B b.0) a.0 b.2 in
      let d = bind-gives (lpops W c.0 b.0.1) (given_back b.0.0 c.0) a.0 c.2 in
      let f : lput (non_null b.0.0) (lpush c.0 d.0) ≡ q = the_same (lput (non_null b.0.0) (lpush c.0 d.0)) a.0 d.2 ∙ the_same a.0 q a.2 in
      with_top (non_null b.0.0) d.0.unreached (pushed_onto c.0 d.0.items) zs (as_fits (lput (non_null b.0.0) (lpush c.0 d.0)) q zs f h)
      (λ z ws i m w.
      let r : Referred W p b.0 z = pop_reference-sound W o p b.0 z b.1 m in
      let k : Split W c.0 d.0.unreached d.0.items ws = push-sound W d.0.unreached c.0 d.0.items ws w in
      let g : FitsStack W p (reference_type true r.heap ∷ onto (vals c.0) k.back) = r.fits (onto (vals c.0) k.back) (pops-sound W c.0 b.0.1 d.0 k.back d.1 k.fits) in
      record {
        takes = vals c.0 ++ reference_type true r.heap ∷ [];
        gives = vals c.0 ++ reference_type false r.heap ∷ [];
        greater = k.front ++ z ∷ [];
        back = k.back;
        rule = branching_on_null_rule r.heap s c.1;
        is = i ∙ ap (λ (x : List (ValueType R)). z ∷ x) k.is ∙ sym (onto-append k.front (z ∷ []) k.back);
        match = match-append W k.greater (each r.gives none);
        fits = subst (λ (x : List (ValueType R)). FitsStack W p x) (sym (onto-append (vals c.0) (reference_type true r.heap ∷ []) k.back)) g;
      })

  -- the last type at a label, and those before it
  record Ends (l : ℕ) (vs fs : List (Val R)) : Type 0 where
    it : Val R
    alone : vs ≡ it ∷ []
    there : slice_get C.labels l ≡ Some (fs ++ it ∷ [])

  ends_in :
      (l : ℕ) (r : Option (List (Val R))) (vs fs : List (Val R)) → slice_get C.labels l ≡ r → meaning.one (r >>= last_of) ≡ Some vs → option_map front_of r ≡ Some fs → Ends l vs fs
  ends_in l None vs fs a e f = absurd (absent fs f)
  ends_in l (Some ls) vs fs a e f = go (last_of ls) refl e
    where
      go : (x : Option (Val R)) → last_of ls ≡ x → meaning.one x ≡ Some vs → Ends l vs fs
      go None b g = absurd (absent vs g)
      go (Some v) b g = record {
        it = v;
        alone = sym (the_same (v ∷ []) vs g);
        there = a ∙ ap (λ (z : List (Val R)). Some z) (with_last ls v b ∙ ap (λ (z : List (Val R)). z ++ v ∷ []) (the_same (front_of ls) fs f));
      }

  non_null-sound :
      (cs : List Check) (l : ℕ) (p q : Stack R) (zs : List (ValueType R)) → AllHold W B D cs
      → Ran (make_non_null ∷ take (last (label l)) ∷ take (front (label l)) ∷ give (front (label l)) ∷ []) p q → FitsStack W q zs → Ruled W B D (branching_on_non_null cs l) p zs
  non_null-sound cs l p q zs s e h =
      let a = bind-gives (lpop_reference p >>= put_non_null) (lrun W B C (take (last (label l)) ∷ take (front (label l)) ∷ give (front (label l)) ∷ [])) q e in
      let b = bind-gives (lpop_reference p) put_non_null a.0 a.1 in
      let t = took (last (label l)) (take (front (label l)) ∷ give (front (label l)) ∷ []) a.0 q a.2 in
      let u = took (front (label l)) (give (front (label l)) ∷ []) t.left q t.rest in
      let g = gave (front (label l)) u.left q zs u.rest h in
      let n : Ends l t.types u.types = ends_in l (slice_get C.labels l) t.types u.types refl t.taken u.taken in
      let m : FitsStack W a.0 (val n.it ∷ onto (vals u.types) g.back) =
      subst (λ (z : List (Val R)). FitsStack W a.0 (onto (vals z) (onto (vals u.types) g.back))) n.alone
      (pops-sound W t.types a.0 t.left (onto (vals u.types) g.back) t.pops (pops-sound W u.types t.left u.left g.back u.pops g.fits)) in
      let f : FitsStack W (lput (non_null b.0.0) b.0.1) (val n.it ∷ onto (vals u.types) g.back) = as_fits (lput (non_null b.0.0) b.0.1) a.0 (val n.it ∷ onto (vals u.types) g.back) (the_same (lput (non_null b.0.0) b.0.1) a.0 b.2) m in
      let r : Referred W p b.0 (val n.it) = pop_reference-sound W o p b.0 (val n.it) b.1 f.0 in
      let x = is_reference W o r.heap n.it r.gives in
      let k : matches_type W (reference_type false r.heap) (val (reference x.0)) ≡ true = subst (λ (v : Val R). matches_type W (reference_type false r.heap) (val v) ≡ true) x.1 r.gives in
      let y : FitsStack W p (reference_type true r.heap ∷ onto (vals u.types) g.back) = r.fits (onto (vals u.types) g.back) f.1 in
      record {
        takes = vals u.types ++ val (reference_at true x.0.heap) ∷ [];
        gives = vals u.types;
        greater = g.front;
        back = g.back;
        rule = branching_on_non_null_rule u.types x.0 s (subst (λ (v : Val R). slice_get C.labels l ≡ Some (u.types ++ v ∷ [])) x.1 n.there);
        is = g.is;
        match = subst (λ (z : List (Val R)). Match W (vals z) g.front) (the_same g.types u.types (sym g.given ∙ u.taken)) g.match;
        fits =
            subst (λ (z : List (ValueType R)). FitsStack W p z) (sym (onto-append (vals u.types) (val (reference_at true x.0.heap) ∷ []) g.back))
            (lesser p (reference_type true r.heap) (val (reference_at true x.0.heap)) (onto (vals u.types) g.back) (raised W o r.heap x.0 k) y);
      }
    where
      lesser_in : (u : Bool) (xs : List (Operand R)) (a b : ValueType R) (ws : List (ValueType R)) → matches_type W a b ≡ true → Fits W u xs (a ∷ ws) → Fits W u xs (b ∷ ws)
      lesser_in u [] a b ws m h = h
      lesser_in u (x ∷ xs) a b ws m h = (fits-through W o x a b h.0 m, h.1)

      lesser : (p : Stack R) (a b : ValueType R) (ws : List (ValueType R)) → matches_type W a b ≡ true → FitsStack W p (a ∷ ws) → FitsStack W p (b ∷ ws)
      lesser p a b ws m h = lesser_in p.unreached p.items a b ws m h

  ready_below : (p q : Stack R) → lpops W (i32 ∷ []) p ≡ Some q → Ready W C.labels p → Ready W C.labels q
  ready_below p q e (by_operands h) = by_operands (pops-shut W (i32 ∷ []) p q e h)
  ready_below p q e (by_labels h) = by_labels h

  by_table-sound : (ns : List ℕ) (n : ℕ) (p q : Stack R) (zs : List (ValueType R)) → Ready W C.labels p → Ran (take (one i32) ∷ branch_to_one_of ns n ∷ []) p q → Ruled W B D (branching_by_table ns n) p zs
  by_table-sound ns n p q zs s e =
      let j = bind-gives (lpops W (i32 ∷ []) p) (lrun W B C (branch_to_one_of ns n ∷ [])) q e in
      let k = bind-gives (lact W B C (branch_to_one_of ns n) j.0) (λ r. Some r) q j.2 in
      let a = bind-gives (slice_get C.labels n) (table_for W B C.labels j.0 ns) k.0 k.1 in
      let b = bind-gives (lpops W a.0 j.0) (in_table W B C.labels j.0 ns a.0) k.0 a.2 in
      let g = guard-gives (lfit W C.labels j.0 (length a.0) ns) (stopped b.0) k.0 b.2 in
      let t : InCommon W C.labels j.0 (n ∷ ns) = table-sound W o C.labels j.0 b.0 n ns a.0 (ready_below p j.0 j.1 s) a.1 b.1 g.0 in
      no_return (branching_by_table ns n) p zs (t.types ++ val i32 ∷ []) t.back
      (subst (λ (z : List (ValueType R)). FitsStack W p z) (sym (onto-append t.types (val i32 ∷ []) t.back)) (pops-sound W (i32 ∷ []) p j.0 (onto t.types t.back) j.1 t.fits))
      (λ as_ us. branching_by_table_rule as_ t.types us t.matches)

  -- locals
  record IsLocal (n : ℕ) (us : List (Val R)) : Type 0 where
    it : Local R
    there : slice_get B.locals n ≡ Some it
    alone : us ≡ it.content ∷ []

  local-in : (n : ℕ) (x : Option (Local R)) (us : List (Val R)) → slice_get B.locals n ≡ x → meaning.one (option_map (λ y. y.content) x) ≡ Some us → IsLocal n us
  local-in n None us e f = absurd (absent us f)
  local-in n (Some x) us e f = record { it = x; there = e; alone = sym (the_same (x.content ∷ []) us f) }

  setting-sound : (n : ℕ) (p q : Stack R) (zs : List (ValueType R)) → Ran (take (local n) ∷ set n ∷ []) p q → FitsStack W q zs → Ruled W B D (setting n) p zs
  setting-sound n p q zs e h =
      let a = took (local n) (set n ∷ []) p q e in
      let x : IsLocal n a.types = local-in n (slice_get B.locals n) a.types refl a.taken in
      let r : Stack R = record a.left { sets = lgrown W B n C.sets a.left.sets } in
      record {
        takes = val x.it.content ∷ [];
        gives = [];
        greater = [];
        back = zs;
        rule = setting_rule x.it x.there;
        is = refl;
        match = none;
        fits = subst (λ (z : List (Val R)). FitsStack W p (onto (vals z) zs)) x.alone (pops-sound W a.types p a.left zs a.pops (as_fits r q zs (the_same r q a.rest) h));
      }

  giving_back-sound : (n : ℕ) (p q : Stack R) (zs : List (ValueType R)) → Ran (take (local n) ∷ set n ∷ give (local n) ∷ []) p q → FitsStack W q zs → Ruled W B D (giving_back n) p zs
  giving_back-sound n p q zs e h =
      let a = took (local n) (set n ∷ give (local n) ∷ []) p q e in
      let x : IsLocal n a.types = local-in n (slice_get B.locals n) a.types refl a.taken in
      let r : Stack R = record a.left { sets = lgrown W B n C.sets a.left.sets } in
      let g = gave (local n) r q zs a.rest h in
      let y : g.types ≡ x.it.content ∷ [] = the_same g.types a.types (sym g.given ∙ a.taken) ∙ x.alone in
      record {
        takes = val x.it.content ∷ [];
        gives = val x.it.content ∷ [];
        greater = g.front;
        back = g.back;
        rule = giving_back_rule x.it x.there;
        is = g.is;
        match = subst (λ (z : List (Val R)). Match W (vals z) g.front) y g.match;
        fits = subst (λ (z : List (Val R)). FitsStack W p (onto (vals z) g.back)) x.alone (pops-sound W a.types p a.left g.back a.pops g.fits);
      }

  measuring-sound :
      (cs : List Check) (k : AbstractHeap) (t : OperandTypes) (p q : Stack R) (zs : List (ValueType R)) → AllHold W B D cs → Ran (take_below k ∷ give t ∷ []) p q → FitsStack W q zs
      → Ruled W B D (measuring cs k t) p zs
  measuring-sound cs k t p q zs c e h =
      let a = bind-gives (lpop_reference p >>= below W B k) (lrun W B C (give t ∷ [])) q e in
      let b = bind-gives (lpop_reference p) (below W B k) a.0 a.1 in
      let d = guard-gives (is_below_either W B k b.0.0) b.0.1 a.0 b.2 in
      let g = gave t a.0 q zs a.2 h in
      let s = shared_by W o B b.0.0 in
      record {
        takes = val (reference_at true (abstract_heap s.0 k)) ∷ [];
        gives = vals g.types;
        greater = g.front;
        back = g.back;
        rule = measuring_rule s.0 c g.given;
        is = g.is;
        match = g.match;
        fits = pop_fitting-sound W o p b.0 (record { nullable = true; heap = abstract_heap s.0 k }) g.back b.1 (below-with W o B k b.0.0 s.0 d.0 s.1) (as_fits b.0.1 a.0 g.back d.1 g.fits);
      }

  comparing-sound :
      (cs : List Check) (t : OperandTypes) (p q : Stack R) (zs : List (ValueType R)) → AllHold W B D cs → Ran (take_comparable ∷ give t ∷ []) p q → FitsStack W q zs → Ruled W B D (comparing cs t) p zs
  comparing-sound cs t p q zs c e h =
      let a = bind-gives (lpop_reference p >>= compare_of W B) (lrun W B C (give t ∷ [])) q e in
      let b = bind-gives (lpop_reference p) (compare_of W B) a.0 a.1 in
      let d = bind-gives (lpop_reference b.0.1) (compared W B b.0.0) a.0 b.2 in
      let f = guard-gives (is_below_either W B eq_heap b.0.0 && is_below_either W B eq_heap d.0.0 && agree W B b.0.0 d.0.0) d.0.1 a.0 d.2 in
      let m = and-both (is_below_either W B eq_heap b.0.0 && is_below_either W B eq_heap d.0.0) (agree W B b.0.0 d.0.0) f.0 in
      let n = and-both (is_below_either W B eq_heap b.0.0) (is_below_either W B eq_heap d.0.0) m.0 in
      let g = gave t a.0 q zs a.2 h in
      let s = shared_by_both W o B b.0.0 d.0.0 m.1 in
      let r : Ref R = record { nullable = true; heap = abstract_heap s.0 eq_heap } in
      record {
        takes = val (reference r) ∷ val (reference r) ∷ [];
        gives = vals g.types;
        greater = g.front;
        back = g.back;
        rule = comparing_rule s.0 c g.given;
        is = g.is;
        match = g.match;
        fits =
            pop_fitting-sound W o p b.0 r (val (reference r) ∷ g.back) b.1 (below-with W o B eq_heap b.0.0 s.0 n.0 s.1)
            (pop_fitting-sound W o b.0.1 d.0 r g.back d.1 (below-with W o B eq_heap d.0.0 s.0 n.1 s.2) (as_fits d.0.1 a.0 g.back f.1 g.fits));
      }

  converting-sound :
      (cs : List Check) (j k : AbstractHeap) (p q : Stack R) (zs : List (ValueType R)) → AllHold W B D cs → Ran (convert j k ∷ []) p q → FitsStack W q zs → Ruled W B D (converting cs j k) p zs
  converting-sound cs j k p q zs c e h =
      let a = bind-gives (lpop_reference p >>= converting_to W B j k) (λ r. Some r) q e in
      let b = bind-gives (lpop_reference p) (converting_to W B j k) a.0 a.1 in
      let d = guard-gives (is_below_either W B j b.0.0) (lput (converted W B k b.0.0) b.0.1) a.0 b.2 in
      let f : lput (converted W B k b.0.0) b.0.1 ≡ q = d.1 ∙ the_same a.0 q a.2 in
      with_top (converted W B k b.0.0) b.0.1.unreached b.0.1.items zs (as_fits (lput (converted W B k b.0.0) b.0.1) q zs f h)
      (λ z ws i m w.
      let s = converted-sound W o B j k b.0.0 z d.0 m in
      record {
        takes = val (reference_at s.0 (abstract_heap s.1 j)) ∷ [];
        gives = val (reference_at s.0 (abstract_heap s.1 k)) ∷ [];
        greater = z ∷ [];
        back = ws;
        rule = converting_rule s.0 s.1 c;
        is = i;
        match = each s.3 none;
        fits = pop_fitting-sound W o p b.0 (record { nullable = s.0; heap = abstract_heap s.1 j }) ws b.1 s.2 w;
      })

  described_rule :
      (exactly : Bool) (cs : List Check) (n : ℕ) (a b : R) → AllHold W B D cs → slice_get B.context.types n ≡ Some a → descriptor_at W B n ≡ Some b
      → Rule W B D (describing cs n) (val (reference_at true (at_type exactly a)) ∷ []) (val (reference_at false (at_type exactly b)) ∷ [])
  described_rule true cs n a b h e f = describing_exactly_rule h e f
  described_rule false cs n a b h e f = describing_rule h e f

  describing-sound : (cs : List Check) (n : ℕ) (p q : Stack R) (zs : List (ValueType R)) → AllHold W B D cs → Ran (describe n ∷ []) p q → FitsStack W q zs → Ruled W B D (describing cs n) p zs
  describing-sound cs n p q zs c e h =
      let a = bind-gives (slice_get B.context.types n >>= described_of W B n p) (λ r. Some r) q e in
      let b = bind-gives (slice_get B.context.types n) (described_of W B n p) a.0 a.1 in
      let d = bind-gives (descriptor_at W B n) (λ x. ldescribed W b.0 x p) a.0 b.2 in
      let g = described-gives W b.0 d.0 p a.0 d.2 in
      let x = known (reference_at false (at_type g.exactly d.0)) in
      with_top x g.left.unreached g.left.items zs (as_fits (lput x g.left) q zs (g.is ∙ the_same a.0 q a.2) h)
      (λ z ws i m w.
      record {
        takes = val (reference_at true (at_type g.exactly b.0)) ∷ [];
        gives = val (reference_at false (at_type g.exactly d.0)) ∷ [];
        greater = z ∷ [];
        back = ws;
        rule = described_rule g.exactly cs n b.0 d.0 c b.1 d.1;
        is = i;
        match = each m none;
        fits = pops-sound W (reference_at true (at_type g.exactly b.0) ∷ []) p g.left ws g.pops w;
      })

  pub rule-sound :
      (s : Shape) (p q : Stack R) (zs : List (ValueType R)) → is_simple s ≡ true → IsReady W C.labels s p → Covers W B (p.sets ++ C.sets) S → Ran (actions_of s) p q → FitsStack W q zs → Ruled W B D s p zs
  rule-sound (plain cs t u) p q zs i t₀ v e h = let c = passed cs (take t ∷ give u ∷ []) p q v e in plain-sound cs t u p q zs c.0 c.1 h
  rule-sound (ending cs t) p q zs i t₀ v e h = let c = passed cs (take t ∷ stop ∷ []) p q v e in ending-sound cs t p q zs c.0 c.1
  rule-sound (opening cs t k b) p q zs i t₀ v e h = no i
  rule-sound closing p q zs i t₀ v e h = no i
  rule-sound turning p q zs i t₀ v e h = no i
  rule-sound (catching cs t k) p q zs i t₀ v e h = no i
  rule-sound (delegating cs l) p q zs i t₀ v e h = no i
  rule-sound (rethrowing cs l) p q zs i t₀ v e h = let c = passed cs (find_caught l ∷ stop ∷ []) p q v e in rethrowing-sound cs l p q zs c.0 c.1
  rule-sound dropping p q zs i t₀ v e h = dropping-sound p q zs e h
  rule-sound choosing p q zs i t₀ v e h = choosing-sound p q zs e h
  rule-sound never p q zs i t₀ v e h = absurd (absent q e)
  rule-sound (testing_null cs) p q zs i t₀ v e h = let c = passed cs (take_reference ∷ give (one i32) ∷ []) p q v e in testing-sound cs p q zs c.0 c.1 h
  rule-sound (asserting_non_null cs) p q zs i t₀ v e h = let c = passed cs (make_non_null ∷ []) p q v e in asserting-sound cs p q zs c.0 c.1 h
  rule-sound (branching_on_null cs l) p q zs i t₀ v e h = let c = passed cs (branch_on_null l ∷ []) p q v e in branching-sound cs l p q zs c.0 c.1 h
  rule-sound (branching_on_non_null cs l) p q zs i t₀ v e h =
      let c = passed cs (make_non_null ∷ take (last (label l)) ∷ take (front (label l)) ∷ give (front (label l)) ∷ []) p q v e in non_null-sound cs l p q zs c.0 c.1 h
  rule-sound (branching_by_table ls l) p q zs i t₀ v e h = by_table-sound ls l p q zs t₀ e
  rule-sound (setting x) p q zs i t₀ v e h = setting-sound x p q zs e h
  rule-sound (giving_back x) p q zs i t₀ v e h = giving_back-sound x p q zs e h
  rule-sound (measuring cs k t) p q zs i t₀ v e h = let c = passed cs (take_below k ∷ give t ∷ []) p q v e in measuring-sound cs k t p q zs c.0 c.1 h
  rule-sound (comparing cs t) p q zs i t₀ v e h = let c = passed cs (take_comparable ∷ give t ∷ []) p q v e in comparing-sound cs t p q zs c.0 c.1 h
  rule-sound (converting cs j k) p q zs i t₀ v e h = let c = passed cs (convert j k ∷ []) p q v e in converting-sound cs j k p q zs c.0 c.1 h
  rule-sound (describing cs n) p q zs i t₀ v e h = let c = passed cs (describe n ∷ []) p q v e in describing-sound cs n p q zs c.0 c.1 h
