-- What the rules type, the machine accepts, whatever operands stand for the types.
use Rattle.std.proofs.Common.{◌≡◌, refl, sym, ap, subst, ◌∙◌, ℕ, Bool, true, false, ◌&&◌, ◌==◌, List, [], ◌∷◌, ◌++◌, length, Option, Some, None, is_some, option_map, slice_get, append_assoc, arith}
use Rattle.std.proofs.lemmas.Bool.Decides.{Decides-eqb}
use Rattle.wasm_spec_steps.specs.WasmSpecRules.WasmSpec.Syntax.{AbstractHeap, eq_heap, Heap, abstract_heap, concrete, exact, Ref, Val, i32, reference}
use Rattle.wasm_spec_steps.specs.WasmSpecRules.WasmSpec.MatchingTests.{World}
use Rattle.wasm_spec_steps.specs.WasmSpecRules.Attempts.{◌>>=◌, guard, passes, last_of, front_of}
use Rattle.wasm_spec_steps.specs.WasmSpecRules.Signatures.{Signature}
use Rattle.wasm_spec_steps.specs.Matching.{matches_vals}
use Rattle.wasm_operators.specs.Control.{Block}
use Rattle.wasm_spec_steps.specs.Bodies.{Local, Surroundings}
use Rattle.wasm_spec_steps.specs.Machine.{Kind, if_kind, else_kind, legacy_try_kind, legacy_catch_kind, legacy_catch_all_kind, has_caught, known, non_null, same_number}
use Rattle.wasm_spec_steps.specs.Actions.{OperandTypes, label, local, last, front, Check, Action, take, give, take_any, take_reference, take_below, take_comparable, make_non_null, convert, describe, choose, stop, set, branch_on_null, branch_to_one_of, find_caught}
use Rattle.wasm_spec_steps.specs.Shapes.{Shape, one, legacy_checks, shape_of}
use Rattle.wasm_spec_steps.specs.Meanings.{label_by, descriptor_at, is_below_either, agree, may_end}
use Rattle.wasm_spec_steps.specs.Meanings as meaning
use Rattle.wasm_spec_steps.specs.Steps.{actions_of, checked}
use Rattle.wasm_spec_instructions.specs.Code.{Opening, a_block, a_loop, an_if, a_try, a_try_table, Handler, a_catch, a_catch_all, Code, done, simply, enclosing, choosing_between, handling, delegating_to, Handlers, last_handler, catch_before, and_then, kind_of, block_of, checks_of, condition_of, handler_checks, handler_operands}
use Rattle.wasm_spec_instructions.specs.ValueTypes.{ValueType, val, reference_at, reference_type, vals, matches_type, Match, none, each, IsInOrder}
use Rattle.wasm_spec_instructions.specs.Scopes.{Scope, labelled, inside, in_handler, is_set, types_in, holds_in, AllHold}
use Rattle.wasm_spec_instructions.specs.Rules.{MatchLabels, Rule, plain_rule, ending_rule, dropping_rule, choosing_rule, testing_null_rule, asserting_non_null_rule, branching_on_null_rule, branching_on_non_null_rule, branching_by_table_rule, setting_rule, giving_back_rule, measuring_rule, comparing_rule, converting_rule, describing_exactly_rule, describing_rule, rethrowing_rule}
use Rattle.wasm_spec_instructions.specs.Sequences.{Opens, Catches, Typed, empty_rule, instruction_rule, block_rule, loop_rule, if_rule, if_else_rule, try_table_rule, try_rule, handling_rule, delegating_rule, sequence_rule, frame_rule, subsumption_rule, Handle, last_rule, before_rule}
use Rattle.wasm_spec_instructions.proofs.Attempts.{the_same, bind-bind, bind-at, guard-at, last-of_last, front-of_last}
use Rattle.wasm_spec_instructions.proofs.FrameMachine.{Stack, Entered, lpops, lpush, lput, stopped, starting, fresh, without, deeper, choose_of, and_choose, put_non_null, given_back, null_for, null_at, in_table, table_for, ldescribed_by, ldescribed, described_of, lfit, lend, below, compared, compare_of, converting_to, lgrown, is_caught, lrun, entered, taking, signed, lenter_block, lenter, lshut, lcatch, ldelegate, check, handle}
use Rattle.wasm_spec_instructions.proofs.DescriptorOperands.{left-same}
use Rattle.wasm_spec_instructions.proofs.OperandFits.{onto, onto-append, rev-rev, FitsStack, fits-any, fits-sub, match-onto, val-itself, match-itself, match-true, pop_any-complete, pops-complete, push-complete, end-complete, fresh-sound}
use Rattle.wasm_spec_instructions.proofs.References.{pop_reference-complete, pop_fitting-complete, below-complete, agree-both, converted-complete, chosen-complete}
use Rattle.wasm_spec_instructions.proofs.LocalSets.{pops-sets, Covers, covers-more, set-covered, holds-more, taken-same, covering-behind}

length-vals : {R : Type 0} (vs : List (Val R)) → length (vals vs) ≡ length vs
length-vals [] = refl
length-vals (v ∷ vs) = let h : length (vals vs) ≡ length vs = length-vals vs in omega (arith, h)

-- a scope with other locals set
abbrev pub over : {R : Type 0} → List ℕ → Scope R → Scope R
over base D = record { labels = D.labels; caught = D.caught; returns = D.returns; sets = base }

module _ {R : Type 0} (W : World R) (o : IsInOrder W) (B : Surroundings R) where
  match-length : {ts us : List (ValueType R)} → Match W ts us → length ts ≡ length us
  match-length none = refl
  match-length (each {vs = vs} {ws = ws} e m) = let h : length vs ≡ length ws = match-length m in omega (arith, h)

  -- a run leads to operands that stand for these types
  abbrev pub Leads : Option (Stack R) → List (ValueType R) → Type 0
  Leads r ws = (q : Stack R) × (r ≡ Some q) × FitsStack W q ws

  -- labels of a table
  label-complete : (p : Stack R) (ts ws : List (ValueType R)) (vs : List (Val R)) → FitsStack W p (onto ts ws) → Match W ts (vals vs) → (q : Stack R) × (lpops W vs p ≡ Some q)
  label-complete p ts ws vs h m = let f = pops-complete W vs p ws (fits-sub W o p.unreached p.items (match-onto W m (match-itself W o ws)) h) in (f.0, f.1)

  table-complete :
      (C : List (List (Val R))) (p : Stack R) (ts ws : List (ValueType R)) (vs : List (Val R)) (ns : List ℕ)
      → FitsStack W p (onto ts ws) → Match W ts (vals vs) → MatchLabels W C ts ns → lfit W C p (length vs) ns ≡ true
  table-complete C p ts ws vs [] h m l = refl
  table-complete C p ts ws vs (n ∷ ns) h m l =
      let f = label-complete p ts ws l.0 h l.2 in
      let a : length ts ≡ length (vals vs) = match-length m in
      let b : length ts ≡ length (vals l.0) = match-length l.2 in
      let e : length l.0 ≡ length vs = sym (length-vals l.0) ∙ sym b ∙ a ∙ length-vals vs in
      (λ i. passes (λ us. (length us == length vs) && is_some (lpops W us p)) (l.1 i) && lfit W C p (length vs) ns)
      ∙ (λ i. ((Decides-eqb (length l.0) (length vs)).1 e i && is_some (f.1 i)) && table-complete C p ts ws vs ns h m l.3 i)

  module _ (D : Scope R) (base : List ℕ) where
    abbrev C : Scope R
    C = over base D

    -- checks that hold let the run go on
    pub checks-run : (cs : List Check) (as_ : List Action) (p : Stack R) → AllHold W B D cs → Covers W B D.sets (p.sets ++ base) → lrun W B C (checked cs as_) p ≡ lrun W B C as_ p
    checks-run [] as_ p h v = refl
    checks-run (c ∷ cs) as_ p h v =
        bind-at (lrun W B C (checked cs as_)) (guard-at (holds_in W B D.labels D.returns (p.sets ++ base) c) p (holds-more W B D.labels D.returns D.sets (p.sets ++ base) c v h.0)) (checks-run cs as_ p h.1 v)

    behind_checks :
        (cs : List Check) (as_ : List Action) (p : Stack R) (ws : List (ValueType R)) → AllHold W B D cs → Covers W B D.sets (p.sets ++ base)
        → Leads (lrun W B C as_ p) ws → Leads (lrun W B C (checked cs as_) p) ws
    behind_checks cs as_ p ws h v l = (l.0, checks-run cs as_ p h v ∙ l.1, l.2)

    take-complete :
        (t : OperandTypes) (ts : List (Val R)) (as_ : List Action) (ws zs : List (ValueType R)) (p : Stack R) → types_in W B D.labels D.returns t ≡ Some ts → FitsStack W p (onto (vals ts) ws)
        → ((q : Stack R) → FitsStack W q ws → Leads (lrun W B C as_ q) zs) → Leads (lrun W B C (take t ∷ as_) p) zs
    take-complete t ts as_ ws zs p e h f =
        let k = pops-complete W ts p ws h in
        let g = f k.0 k.2 in
        (g.0, bind-at (lrun W B C as_) (bind-at (λ vs. lpops W vs p) e k.1) g.1, g.2)

    give-complete : (u : OperandTypes) (us : List (Val R)) (ws : List (ValueType R)) (p : Stack R) → types_in W B D.labels D.returns u ≡ Some us → FitsStack W p ws → Leads (lrun W B C (give u ∷ []) p) (onto (vals us) ws)
    give-complete u us ws p e h = (lpush us p, bind-at (λ q. Some q) (bind-at (λ vs. Some (lpush vs p)) e refl) refl, push-complete W o p.unreached us p.items ws h)

    stop-complete : (p : Stack R) (zs : List (ValueType R)) → Leads (lrun W B C (stop ∷ []) p) zs
    stop-complete p zs = (stopped p, refl, fits-any W zs)

    rethrowing-complete : (l : ℕ) (zs : List (ValueType R)) (p : Stack R) → slice_get D.caught l ≡ Some true → Leads (lrun W B C (find_caught l ∷ stop ∷ []) p) zs
    rethrowing-complete l zs p e = (stopped p, bind-at (lrun W B C (stop ∷ [])) (guard-at (is_caught W B D.caught l) p (ap (passes (λ (b : Bool). b)) e)) refl, fits-any W zs)

    dropping-complete : (v : ValueType R) (ws : List (ValueType R)) (p : Stack R) → FitsStack W p (v ∷ ws) → Leads (lrun W B C (take_any ∷ []) p) ws
    dropping-complete v ws p h =
        let k = pop_any-complete W p.sets p.unreached p.items v ws h in
        (k.0.1, bind-at (λ q. Some q) (bind-at without k.1 refl) refl, k.3)

    choosing-complete : (t : ValueType R) (v : Val R) (ws : List (ValueType R)) (p : Stack R) → same_number v v ≡ true → matches_type W t (val v) ≡ true → FitsStack W p (t ∷ t ∷ ws) → Leads (lrun W B C (choose ∷ []) p) (t ∷ ws)
    choosing-complete t v ws p n m h =
        let a = pop_any-complete W p.sets p.unreached p.items t (t ∷ ws) h in
        let b = pop_any-complete W a.0.1.sets a.0.1.unreached a.0.1.items t ws a.3 in
        let z = chosen-complete W o a.0.0 b.0.0 t v n m a.2 b.2 in
        (lput z.0 b.0.1, bind-at (λ q. Some q) (bind-at choose_of a.1 (bind-at (and_choose a.0.0) b.1 (bind-at (λ w. Some (lput w b.0.1)) z.1 refl))) refl, (z.2, b.3))

    testing-complete : (x : Option (Heap R)) (ws : List (ValueType R)) (p : Stack R) → FitsStack W p (reference_type true x ∷ ws) → Leads (lrun W B C (take_reference ∷ give (one i32) ∷ []) p) (val i32 ∷ ws)
    testing-complete x ws p h =
        let a = pop_reference-complete W o p x ws h in
        let g = give-complete (one i32) (i32 ∷ []) ws a.0.1 refl a.3 in
        (g.0, bind-at (lrun W B C (give (one i32) ∷ [])) (bind-at without a.1 refl) g.1, g.2)

    asserting-complete :
        (x : Option (Heap R)) (as_ : List Action) (ws zs : List (ValueType R)) (p : Stack R) → FitsStack W p (reference_type true x ∷ ws)
        → ((q : Stack R) → FitsStack W q (reference_type false x ∷ ws) → Leads (lrun W B C as_ q) zs) → Leads (lrun W B C (make_non_null ∷ as_) p) zs
    asserting-complete x as_ ws zs p h f =
        let a = pop_reference-complete W o p x ws h in
        let g = f (lput (non_null a.0.0) a.0.1) (a.2, a.3) in
        (g.0, bind-at (lrun W B C as_) (bind-at put_non_null a.1 refl) g.1, g.2)

    branching-complete :
        (n : ℕ) (ls : List (Val R)) (x : Option (Heap R)) (ws : List (ValueType R)) (p : Stack R) → slice_get D.labels n ≡ Some ls → FitsStack W p (reference_type true x ∷ onto (vals ls) ws)
        → Leads (lrun W B C (branch_on_null n ∷ []) p) (reference_type false x ∷ onto (vals ls) ws)
    branching-complete n ls x ws p e h =
        let a = pop_reference-complete W o p x (onto (vals ls) ws) h in
        let k = pops-complete W ls a.0.1 ws a.3 in (
          lput (non_null a.0.0) (lpush ls k.0),
          bind-at (λ q. Some q) (bind-at (null_at W B D.labels n) a.1 (bind-at (null_for W B a.0) e (bind-at (given_back a.0.0 ls) k.1 refl))) refl,
          (a.2, push-complete W o k.0.unreached ls k.0.items ws k.2),
        )

    table-leads : (ns : List ℕ) (n : ℕ) (us ws zs : List (ValueType R)) (p : Stack R) → MatchLabels W D.labels us (n ∷ ns) → FitsStack W p (onto us ws) → Leads (lrun W B C (branch_to_one_of ns n ∷ []) p) zs
    table-leads ns n us ws zs p m h =
        let k = label-complete p us ws m.0 h m.2 in (
          stopped k.0,
          bind-at (λ q. Some q)
              (bind-at (table_for W B D.labels p ns) m.1
              (bind-at (in_table W B D.labels p ns m.0) k.1 (guard-at (lfit W D.labels p (length m.0) ns) (stopped k.0) (table-complete D.labels p us ws m.0 ns h m.2 m.3))))
              refl,
          fits-any W zs,
        )

    local_types : (n : ℕ) (x : Local R) → slice_get B.locals n ≡ Some x → types_in W B D.labels D.returns (local n) ≡ Some (x.content ∷ [])
    local_types n x e = ap (λ (z : Option (Local R)). meaning.one (option_map (λ y. y.content) z)) e

    grown-leads : (n : ℕ) (as_ : List Action) (ws zs : List (ValueType R)) (q : Stack R) → FitsStack W q ws → ((r : Stack R) → FitsStack W r ws → Leads (lrun W B C as_ r) zs) → Leads (lrun W B C (set n ∷ as_) q) zs
    grown-leads n as_ ws zs q h f = f (record q { sets = lgrown W B n base q.sets }) h

    measuring-complete :
        (k : AbstractHeap) (as_ : List Action) (s : Bool) (ws zs : List (ValueType R)) (p : Stack R) → FitsStack W p (val (reference_at true (abstract_heap s k)) ∷ ws)
        → ((q : Stack R) → FitsStack W q ws → Leads (lrun W B C as_ q) zs) → Leads (lrun W B C (take_below k ∷ as_) p) zs
    measuring-complete k as_ s ws zs p h f =
        let a = pop_fitting-complete W o p (record { nullable = true; heap = abstract_heap s k }) ws h in
        let b = below-complete W o B k a.1 a.0.0 true s a.2 a.4 in
        let g = f a.0.1 a.5 in
        (g.0, bind-at (lrun W B C as_) (bind-at (below W B k) a.3 (guard-at (is_below_either W B k a.0.0) a.0.1 b.0)) g.1, g.2)

    comparing-complete :
        (as_ : List Action) (s : Bool) (ws zs : List (ValueType R)) (p : Stack R)
        → FitsStack W p (val (reference_at true (abstract_heap s eq_heap)) ∷ val (reference_at true (abstract_heap s eq_heap)) ∷ ws)
        → ((q : Stack R) → FitsStack W q ws → Leads (lrun W B C as_ q) zs) → Leads (lrun W B C (take_comparable ∷ as_) p) zs
    comparing-complete as_ s ws zs p h f =
        let r : Ref R = record { nullable = true; heap = abstract_heap s eq_heap } in
        let a = pop_fitting-complete W o p r (val (reference r) ∷ ws) h in
        let b = below-complete W o B eq_heap a.1 a.0.0 true s a.2 a.4 in
        let c = pop_fitting-complete W o a.0.1 r ws a.5 in
        let d = below-complete W o B eq_heap c.1 c.0.0 true s c.2 c.4 in
        let g = f c.0.1 c.5 in (
          g.0,
          bind-at (lrun W B C as_)
              (bind-at (compare_of W B) a.3
              (bind-at (compared W B a.0.0) c.3
              (guard-at (is_below_either W B eq_heap a.0.0 && is_below_either W B eq_heap c.0.0 && agree W B a.0.0 c.0.0) c.0.1 (λ i. b.0 i && d.0 i && agree-both W o B s a.0.0 c.0.0 b.1 d.1 i))))
              g.1,
          g.2,
        )

    converting-complete :
        (j k : AbstractHeap) (n s : Bool) (ws : List (ValueType R)) (p : Stack R) → FitsStack W p (val (reference_at n (abstract_heap s j)) ∷ ws)
        → Leads (lrun W B C (convert j k ∷ []) p) (val (reference_at n (abstract_heap s k)) ∷ ws)
    converting-complete j k n s ws p h =
        let a = pop_fitting-complete W o p (record { nullable = n; heap = abstract_heap s j }) ws h in
        let b = below-complete W o B j a.1 a.0.0 n s a.2 a.4 in (
          lput (meaning.converted W B k a.0.0) a.0.1,
          bind-at (λ q. Some q) (bind-at (converting_to W B j k) a.3 (guard-at (is_below_either W B j a.0.0) (lput (meaning.converted W B k a.0.0) a.0.1) b.0)) refl,
          (converted-complete W o B k j a.0.0 n s a.4 b.1, a.5),
        )

    -- one stack for another
    as_left : (p q : Stack R) (ws : List (ValueType R)) → p ≡ q → FitsStack W p ws → FitsStack W q ws
    as_left p q ws e h = subst (λ (z : Stack R). FitsStack W z ws) e h

    -- a description of what was popped as a reference to exactly a type, or only to the type
    describing_as :
        (n : ℕ) (a b : R) (p q : Stack R) (o r : Option (Stack R)) → slice_get B.context.types n ≡ Some a → descriptor_at W B n ≡ Some b
        → lpops W (reference_at true (exact a) ∷ []) p ≡ o → lpops W (reference_at true (concrete a) ∷ []) p ≡ r → ldescribed_by b o r ≡ Some q → lrun W B C (describe n ∷ []) p ≡ Some q
    describing_as n a b p q o r e f g h i =
        bind-at (λ z. Some z) (bind-at (described_of W B n p) e (bind-at (λ x. ldescribed W a x p) f ((λ j. ldescribed_by b (g j) (h j)) ∙ i))) refl

    describing_exactly-complete :
        (n : ℕ) (a b : R) (ws : List (ValueType R)) (p : Stack R) → slice_get B.context.types n ≡ Some a → descriptor_at W B n ≡ Some b
        → FitsStack W p (val (reference_at true (exact a)) ∷ ws) → Leads (lrun W B C (describe n ∷ []) p) (val (reference_at false (exact b)) ∷ ws)
    describing_exactly-complete n a b ws p e f h =
        let k = pops-complete W (reference_at true (exact a) ∷ []) p ws h in
        let q = lput (known (reference_at false (exact b))) k.0 in
        (q, describing_as n a b p q (Some k.0) (lpops W (reference_at true (concrete a) ∷ []) p) e f k.1 refl refl, (val-itself W o (reference_at false (exact b)), k.2))

    describing-complete :
        (n : ℕ) (a b : R) (ws : List (ValueType R)) (p : Stack R) → slice_get B.context.types n ≡ Some a → descriptor_at W B n ≡ Some b
        → FitsStack W p (val (reference_at true (concrete a)) ∷ ws) → Leads (lrun W B C (describe n ∷ []) p) (val (reference_at false (concrete b)) ∷ ws)
    describing-complete n a b ws p e f h = go (lpops W (reference_at true (exact a) ∷ []) p) refl
      where
        k : Leads (lpops W (reference_at true (concrete a) ∷ []) p) ws
        k = pops-complete W (reference_at true (concrete a) ∷ []) p ws h

        go : (r : Option (Stack R)) → lpops W (reference_at true (exact a) ∷ []) p ≡ r → Leads (lrun W B C (describe n ∷ []) p) (val (reference_at false (concrete b)) ∷ ws)
        go (Some q) g = (
          lput (known (reference_at false (exact b))) q,
          describing_as n a b p (lput (known (reference_at false (exact b))) q) (Some q) (Some k.0) e f g k.1 refl,
          (o.itself (concrete b), as_left k.0 q ws (left-same W (reference_at true (concrete a)) (reference_at true (exact a)) p k.0 q k.1 g) k.2),
        )
        go None g = (
          lput (known (reference_at false (concrete b))) k.0,
          describing_as n a b p (lput (known (reference_at false (concrete b))) k.0) None (Some k.0) e f g k.1 refl,
          (val-itself W o (reference_at false (concrete b)), k.2),
        )

    -- operands under other names
    as_stack : (p : Stack R) {ts us : List (ValueType R)} → ts ≡ us → FitsStack W p ts → FitsStack W p us
    as_stack p e h = subst (λ (z : List (ValueType R)). FitsStack W p z) e h

    last_types : (l : ℕ) (ls : List (Val R)) (v : Val R) → slice_get D.labels l ≡ Some (ls ++ v ∷ []) → types_in W B D.labels D.returns (last (label l)) ≡ Some (v ∷ [])
    last_types l ls v e = ap (λ (z : Option (List (Val R))). meaning.one (z >>= last_of)) e ∙ ap meaning.one (last-of_last ls v)

    front_types : (l : ℕ) (ls : List (Val R)) (v : Val R) → slice_get D.labels l ≡ Some (ls ++ v ∷ []) → types_in W B D.labels D.returns (front (label l)) ≡ Some ls
    front_types l ls v e = ap (λ (z : Option (List (Val R))). option_map front_of z) e ∙ ap (λ (z : List (Val R)). Some z) (front-of_last ls v)

    pub rule-complete :
        (s : Shape) (ts us ws : List (ValueType R)) (p : Stack R) → Covers W B D.sets (p.sets ++ base) → Rule W B D s ts us → FitsStack W p (onto ts ws) → Leads (lrun W B C (actions_of s) p) (onto us ws)
    rule-complete s ts us ws p v (plain_rule {cs = cs} {t = t} {u = u} {ts = as_} {us = bs} h e f) k =
        behind_checks cs (take t ∷ give u ∷ []) p (onto (vals bs) ws) h v (take-complete t as_ (give u ∷ []) ws (onto (vals bs) ws) p e k (λ q g. give-complete u bs ws q f g))
    rule-complete s ts us ws p v (ending_rule {cs = cs} {t = t} {ts = as_} bs after h e) k =
        behind_checks cs (take t ∷ stop ∷ []) p (onto after ws) h v
        (take-complete t as_ (stop ∷ []) (onto bs ws) (onto after ws) p e (as_stack p (onto-append bs (vals as_) ws) k) (λ q g. stop-complete q (onto after ws)))
    rule-complete s ts us ws p v (rethrowing_rule {cs = cs} {l = l} bs after h e) k = behind_checks cs (find_caught l ∷ stop ∷ []) p (onto after ws) h v (rethrowing-complete l (onto after ws) p e)
    rule-complete s ts us ws p v (dropping_rule t) k = dropping-complete t ws p k
    rule-complete s ts us ws p v (choosing_rule t w n m) k = take-complete (one i32) (i32 ∷ []) (choose ∷ []) (t ∷ t ∷ ws) (t ∷ ws) p refl k (λ q g. choosing-complete t w ws q n m g)
    rule-complete s ts us ws p v (testing_null_rule {cs = cs} x h) k = behind_checks cs (take_reference ∷ give (one i32) ∷ []) p (val i32 ∷ ws) h v (testing-complete x ws p k)
    rule-complete s ts us ws p v (asserting_non_null_rule {cs = cs} x h) k =
        behind_checks cs (make_non_null ∷ []) p (reference_type false x ∷ ws) h v (asserting-complete x [] ws (reference_type false x ∷ ws) p k (λ q g. (q, refl, g)))
    rule-complete s ts us ws p v (branching_on_null_rule {cs = cs} {l = l} {ls = ls} x h e) k =
        behind_checks cs (branch_on_null l ∷ []) p (onto (vals ls ++ reference_type false x ∷ []) ws) h v
        (let g = branching-complete l ls x ws p e (as_stack p (onto-append (vals ls) (reference_type true x ∷ []) ws) k) in
        (g.0, g.1, as_stack g.0 (sym (onto-append (vals ls) (reference_type false x ∷ []) ws)) g.2))
    rule-complete s ts us ws p v (branching_on_non_null_rule {cs = cs} {l = l} ls r h e) k =
        behind_checks cs (make_non_null ∷ take (last (label l)) ∷ take (front (label l)) ∷ give (front (label l)) ∷ []) p (onto (vals ls) ws) h v
        (asserting-complete (Some r.heap) (take (last (label l)) ∷ take (front (label l)) ∷ give (front (label l)) ∷ []) (onto (vals ls) ws) (onto (vals ls) ws) p
        (as_stack p (onto-append (vals ls) (val (reference_at true r.heap) ∷ []) ws) k)
        (λ q g.
        take-complete (last (label l)) (reference r ∷ []) (take (front (label l)) ∷ give (front (label l)) ∷ []) (onto (vals ls) ws) (onto (vals ls) ws) q (last_types l ls (reference r) e)
        (lesser q r (onto (vals ls) ws) g)
        (λ q g.
        take-complete (front (label l)) ls (give (front (label l)) ∷ []) ws (onto (vals ls) ws) q (front_types l ls (reference r) e) g
        (λ q g. give-complete (front (label l)) ls ws q (front_types l ls (reference r) e) g))))
      where
        lesser : (q : Stack R) (r : Ref R) (zs : List (ValueType R)) → FitsStack W q (val (reference_at false r.heap) ∷ zs) → FitsStack W q (val (reference r) ∷ zs)
        lesser q r zs h = fits-sub W o q.unreached q.items (each (o.itself r.heap) (match-itself W o zs)) h
    rule-complete s ts us ws p v (branching_by_table_rule {ls = ls} {l = l} bs as_ after m) k =
        take-complete (one i32) (i32 ∷ []) (branch_to_one_of ls l ∷ []) (onto as_ (onto bs ws)) (onto after ws) p refl
        (as_stack p (onto-append bs (as_ ++ val i32 ∷ []) ws ∙ onto-append as_ (val i32 ∷ []) (onto bs ws)) k)
        (λ q g. table-leads ls l as_ (onto bs ws) (onto after ws) q m g)
    rule-complete s ts us ws p v (setting_rule {x = x} y e) k =
        take-complete (local x) (y.content ∷ []) (set x ∷ []) ws ws p (local_types x y e) k (λ q g. grown-leads x [] ws ws q g (λ r f. (r, refl, f)))
    rule-complete s ts us ws p v (giving_back_rule {x = x} y e) k =
        take-complete (local x) (y.content ∷ []) (set x ∷ give (local x) ∷ []) ws (val y.content ∷ ws) p (local_types x y e) k
        (λ q g. grown-leads x (give (local x) ∷ []) ws (val y.content ∷ ws) q g (λ r f. give-complete (local x) (y.content ∷ []) ws r (local_types x y e) f))
    rule-complete s ts us ws p v (measuring_rule {cs = cs} {k = j} {t = t} {us = bs} f h e) k =
        behind_checks cs (take_below j ∷ give t ∷ []) p (onto (vals bs) ws) h v (measuring-complete j (give t ∷ []) f ws (onto (vals bs) ws) p k (λ q g. give-complete t bs ws q e g))
    rule-complete s ts us ws p v (comparing_rule {cs = cs} {t = t} {us = bs} f h e) k =
        behind_checks cs (take_comparable ∷ give t ∷ []) p (onto (vals bs) ws) h v (comparing-complete (give t ∷ []) f ws (onto (vals bs) ws) p k (λ q g. give-complete t bs ws q e g))
    rule-complete s ts us ws p v (converting_rule {cs = cs} {j = i} {k = j} n f h) k =
        behind_checks cs (convert i j ∷ []) p (val (reference_at n (abstract_heap f j)) ∷ ws) h v (converting-complete i j n f ws p k)
    rule-complete s ts us ws p v (describing_exactly_rule {cs = cs} {n = n} {a = a} {b = b} h e f) k =
        behind_checks cs (describe n ∷ []) p (val (reference_at false (exact b)) ∷ ws) h v (describing_exactly-complete n a b ws p e f k)
    rule-complete s ts us ws p v (describing_rule {cs = cs} {n = n} {a = a} {b = b} h e f) k =
        behind_checks cs (describe n ∷ []) p (val (reference_at false (concrete b)) ∷ ws) h v (describing-complete n a b ws p e f k)

  -- code
  check-both : (D : Scope R) (c d : Code) (p : Stack R) → check W B D (and_then c d) p ≡ (check W B D c p >>= check W B D d)
  check-both D done d p = refl
  check-both D (simply i c) d p = (λ j. lrun W B D (actions_of (shape_of i)) p >>= λ q. check-both D c d q j) ∙ sym (bind-bind (lrun W B D (actions_of (shape_of i)) p) (check W B D c) (check W B D d))
  check-both D (enclosing x b c) d p =
      (λ j. lenter W B D x p >>= λ e. (check W B (deeper (kind_of x) e D) b (fresh e.signature) >>= lshut W B (kind_of x) e) >>= λ q. check-both D c d q j)
      ∙ (λ j. lenter W B D x p >>= λ e. sym (bind-bind (check W B (deeper (kind_of x) e D) b (fresh e.signature) >>= lshut W B (kind_of x) e) (check W B D c) (check W B D d)) j)
      ∙ sym (bind-bind (lenter W B D x p) (λ e. (check W B (deeper (kind_of x) e D) b (fresh e.signature) >>= lshut W B (kind_of x) e) >>= check W B D c) (check W B D d))
  check-both D (choosing_between g b f c) d p =
      (λ j. lenter W B D (an_if g) p >>= λ e. (check W B (deeper if_kind e D) b (fresh e.signature) >>= lend W e.signature.gives)
      >>= λ z. (check W B (deeper else_kind e D) f (fresh e.signature) >>= lshut W B else_kind e) >>= λ q. check-both D c d q j)
      ∙ (λ j. lenter W B D (an_if g) p >>= λ e. (check W B (deeper if_kind e D) b (fresh e.signature) >>= lend W e.signature.gives)
      >>= λ z. sym (bind-bind (check W B (deeper else_kind e D) f (fresh e.signature) >>= lshut W B else_kind e) (check W B D c) (check W B D d)) j)
      ∙ (λ j. lenter W B D (an_if g) p >>= λ e. sym (bind-bind (check W B (deeper if_kind e D) b (fresh e.signature) >>= lend W e.signature.gives)
      (λ z. (check W B (deeper else_kind e D) f (fresh e.signature) >>= lshut W B else_kind e) >>= check W B D c) (check W B D d)) j)
      ∙ sym (bind-bind (lenter W B D (an_if g) p) (λ e. (check W B (deeper if_kind e D) b (fresh e.signature) >>= lend W e.signature.gives)
      >>= λ z. (check W B (deeper else_kind e D) f (fresh e.signature) >>= lshut W B else_kind e) >>= check W B D c) (check W B D d))
  check-both D (handling g b hs c) d p =
      (λ j. lenter W B D (a_try g) p >>= λ e. (check W B (deeper legacy_try_kind e D) b (fresh e.signature) >>= handle W B D legacy_try_kind e hs) >>= λ q. check-both D c d q j)
      ∙ (λ j. lenter W B D (a_try g) p >>= λ e. sym (bind-bind (check W B (deeper legacy_try_kind e D) b (fresh e.signature) >>= handle W B D legacy_try_kind e hs) (check W B D c) (check W B D d)) j)
      ∙ sym (bind-bind (lenter W B D (a_try g) p) (λ e. (check W B (deeper legacy_try_kind e D) b (fresh e.signature) >>= handle W B D legacy_try_kind e hs) >>= check W B D c) (check W B D d))
  check-both D (delegating_to l g b c) d p =
      (λ j. lenter W B D (a_try g) p >>= λ e. (check W B (deeper legacy_try_kind e D) b (fresh e.signature) >>= ldelegate W B D l e) >>= λ q. check-both D c d q j)
      ∙ (λ j. lenter W B D (a_try g) p >>= λ e. sym (bind-bind (check W B (deeper legacy_try_kind e D) b (fresh e.signature) >>= ldelegate W B D l e) (check W B D c) (check W B D d)) j)
      ∙ sym (bind-bind (lenter W B D (a_try g) p) (λ e. (check W B (deeper legacy_try_kind e D) b (fresh e.signature) >>= ldelegate W B D l e) >>= check W B D c) (check W B D d))

  -- the code leads from what stands for these types to what stands for those
  pub record Led (D : Scope R) (base : List ℕ) (c : Code) (p : Stack R) (zs : List (ValueType R)) (xs : List ℕ) : Type 0 where
    pub end : Stack R
    pub leads : check W B (over base D) c p ≡ Some end
    pub fits : FitsStack W end zs
    pub covers : Covers W B (xs ++ D.sets) (end.sets ++ base)

  abbrev pub Accepts : Scope R → Code → List (ValueType R) → List ℕ → List (ValueType R) → Type 0
  Accepts D c ts xs us = (base : List ℕ) (p : Stack R) (ws : List (ValueType R)) → Covers W B D.sets (p.sets ++ base) → FitsStack W p (onto ts ws) → Led D base c p (onto us ws) xs

  -- what an opening takes before its block does
  abbrev pub condition : Opening → List (Val R)
  condition (an_if b) = i32 ∷ []
  condition _ = []

  pub condition_types : (x : Opening) (ls : List (List (Val R))) (rs : Option (List (Val R))) → types_in W B ls rs (condition_of x) ≡ Some (condition x)
  condition_types (a_block b) ls rs = refl
  condition_types (a_loop b) ls rs = refl
  condition_types (an_if b) ls rs = refl
  condition_types (a_try b) ls rs = refl
  condition_types (a_try_table b cs) ls rs = refl

  record Open (D : Scope R) (base : List ℕ) (x : Opening) (g : Signature R) (p : Stack R) (ws : List (ValueType R)) : Type 0 where
    block : Block R
    left : Stack R
    leads : lenter W B (over base D) x p ≡ Some (record { block = block; signature = g; left = left })
    fits : FitsStack W left ws
    covers : Covers W B D.sets (left.sets ++ base)

  opens-complete :
      (D : Scope R) (x : Opening) (g : Signature R) → Opens W B D x g → (base : List ℕ) (p : Stack R) (ws : List (ValueType R)) → Covers W B D.sets (p.sets ++ base)
      → FitsStack W p (onto (vals (condition x)) (onto (vals g.takes) ws)) → Open D base x g p ws
  opens-complete D x g h base p ws v k =
      let a = behind_checks D base (checks_of x) (take (condition_of x) ∷ []) p (onto (vals g.takes) ws) h.holds v
      (take-complete D base (condition_of x) (condition x) [] (onto (vals g.takes) ws) (onto (vals g.takes) ws) p (condition_types x D.labels D.returns) k (λ q f. (q, refl, f))) in
      let b = pops-complete W g.takes a.0 ws a.2 in
      record {
        block = h.block;
        left = b.0;
        leads = bind-at (lenter_block W B (block_of x)) a.1 (bind-at (signed W B a.0) h.resolves (bind-at (taking W B h.block a.0) h.signed (bind-at (entered h.block g) b.1 refl)));
        fits = b.2;
        covers = λ m e.
            subst (λ (is : List ℕ). is_set W B m (is ++ base) ≡ true) (sym (pops-sets W g.takes a.0 b.0 b.1))
            (taken-same W B (over base D) (checks_of x) (condition_of x) p a.0 a.1 m ∙ v m e);
      }

  block-complete :
      (D : Scope R) (x : Opening) (g : Signature R) (c : Code) (xs : List ℕ) → Opens W B D x g → Accepts (labelled (has_caught (kind_of x)) (label_by (kind_of x) g) D) c (vals g.takes) xs (vals g.gives)
      → may_end W B (kind_of x) g ≡ true → (base : List ℕ) (p : Stack R) (ws : List (ValueType R)) → Covers W B D.sets (p.sets ++ base)
      → FitsStack W p (onto (vals (condition x)) (onto (vals g.takes) ws)) → Led D base (enclosing x c done) p (onto (vals g.gives) ws) []
  block-complete D x g c xs h a m base p ws v k =
      let e : Open D base x g p ws = opens-complete D x g h base p ws v k in
      let b : Entered R = record { block = e.block; signature = g; left = e.left } in
      let f = a (e.left.sets ++ base) (fresh g) [] e.covers (push-complete W o false g.takes [] [] tt) in
      let z = end-complete W g.gives f.end f.fits in
      record {
        end = lpush g.gives e.left;
        leads =
            bind-at (λ y. (check W B (deeper (kind_of x) y (over base D)) c (fresh y.signature) >>= lshut W B (kind_of x) y) >>= check W B (over base D) done) e.leads
            (bind-at (λ q. Some q)
            (bind-at (lshut W B (kind_of x) b) f.leads (bind-at (λ y. guard (may_end W B (kind_of x) g) (lpush g.gives e.left)) z.1 (guard-at (may_end W B (kind_of x) g) (lpush g.gives e.left) m)))
            refl);
        fits = push-complete W o e.left.unreached g.gives e.left.items ws e.fits;
        covers = e.covers;
      }

  halves-complete :
      (D : Scope R) (y : Block ℕ) (g : Signature R) (c d : Code) (xs ys : List ℕ) → Opens W B D (an_if y) g
      → Accepts (inside g.gives D) c (vals g.takes) xs (vals g.gives) → Accepts (inside g.gives D) d (vals g.takes) ys (vals g.gives)
      → (base : List ℕ) (p : Stack R) (ws : List (ValueType R)) → Covers W B D.sets (p.sets ++ base)
      → FitsStack W p (val i32 ∷ onto (vals g.takes) ws) → Led D base (choosing_between y c d done) p (onto (vals g.gives) ws) []
  halves-complete D y g c d xs ys h a a2 base p ws v k =
      let e : Open D base (an_if y) g p ws = opens-complete D (an_if y) g h base p ws v k in
      let b : Entered R = record { block = e.block; signature = g; left = e.left } in
      let f = a (e.left.sets ++ base) (fresh g) [] e.covers (push-complete W o false g.takes [] [] tt) in
      let z = end-complete W g.gives f.end f.fits in
      let f2 = a2 (e.left.sets ++ base) (fresh g) [] e.covers (push-complete W o false g.takes [] [] tt) in
      let z2 = end-complete W g.gives f2.end f2.fits in
      record {
        end = lpush g.gives e.left;
        leads =
            bind-at (λ y. (check W B (deeper if_kind y (over base D)) c (fresh y.signature) >>= lend W y.signature.gives)
            >>= λ z. (check W B (deeper else_kind y (over base D)) d (fresh y.signature) >>= lshut W B else_kind y) >>= check W B (over base D) done) e.leads
            (bind-at (λ z. (check W B (deeper else_kind b (over base D)) d (fresh g) >>= lshut W B else_kind b) >>= check W B (over base D) done) (bind-at (lend W g.gives) f.leads z.1)
            (bind-at (λ q. Some q) (bind-at (lshut W B else_kind b) f2.leads (bind-at (λ y. Some (lpush g.gives e.left)) z2.1 refl)) refl));
        fits = push-complete W o e.left.unreached g.gives e.left.items ws e.fits;
        covers = e.covers;
      }

  -- handlers
  pub handler-holds : (D E : Scope R) (x : Handler) → AllHold W B D (handler_checks x) → AllHold W B E (handler_checks x)
  handler-holds D E (a_catch x) h = h
  handler-holds D E a_catch_all h = h

  pub handler-finds : (D E : Scope R) (x : Handler) (ts : List (Val R)) → types_in W B D.labels D.returns (handler_operands x) ≡ Some ts → types_in W B E.labels E.returns (handler_operands x) ≡ Some ts
  handler-finds D E (a_catch x) ts e = e
  handler-finds D E a_catch_all ts e = e

  catch-complete :
      (D E : Scope R) (x : Handler) (ts : List (Val R)) (e : Entered R) (r : Stack R) → Catches W B D x ts → FitsStack W r (onto (vals e.signature.gives) []) → lcatch W B E x e r ≡ Some ts
  catch-complete D E x ts e r c h =
      let z = end-complete W e.signature.gives r h in
      bind-at (λ q. types_in W B E.labels E.returns (handler_operands x) >>= λ vs. lend W e.signature.gives q >>= λ z. Some vs)
      (checks-run E E.sets (handler_checks x) [] r (handler-holds D E x c.holds) (λ m k. covers-more W B r.sets E.sets m k))
      (bind-at (λ vs. lend W e.signature.gives r >>= λ z. Some vs) (handler-finds D E x ts c.found) (bind-at (λ z. Some ts) z.1 refl))

  -- the code of a handler, which leads to its end
  record Ends (E : Scope R) (base : List ℕ) (c : Code) (ts us : List (Val R)) : Type 0 where
    end : Stack R
    leads : check W B (over base E) c (starting ts) ≡ Some end
    fits : FitsStack W end (onto (vals us) [])

  ends : (E : Scope R) (base : List ℕ) (c : Code) (ts us : List (Val R)) (xs : List ℕ) → Accepts E c (vals ts) xs (vals us) → Covers W B E.sets base → Ends E base c ts us
  ends E base c ts us xs a v = let f = a base (starting ts) [] v (push-complete W o false ts [] [] tt) in record { end = f.end; leads = f.leads; fits = f.fits }

  -- what handlers lead to
  HandledBy : Scope R → Handlers → List (Val R) → Type 0
  HandledBy D hs us =
      (base : List ℕ) (k : Kind) (b : Block R) (ts : List (Val R)) (left r : Stack R) → Covers W B D.sets (left.sets ++ base) → FitsStack W r (onto (vals us) [])
      → handle W B (over base D) k (record { block = b; signature = record { takes = ts; gives = us }; left = left }) hs r ≡ Some (lpush us left)

  last-complete :
      (D : Scope R) (x : Handler) (c : Code) (vs us : List (Val R)) (xs : List ℕ) → Catches W B D x vs → Accepts (in_handler us D) c (vals vs) xs (vals us) → HandledBy D (last_handler x c) us
  unfolding HandledBy
  last-complete D (a_catch n) c vs us xs h a base k b ts left r v f =
      let e : Entered R = record { block = b; signature = record { takes = ts; gives = us }; left = left } in
      let d = ends (in_handler us D) (left.sets ++ base) c vs us xs a v in
      let z = end-complete W us d.end d.fits in
      bind-at (λ ws. check W B (deeper legacy_catch_kind e (over base D)) c (starting ws) >>= lshut W B legacy_catch_kind e) (catch-complete D (deeper k e (over base D)) (a_catch n) vs e r h f)
      (bind-at (lshut W B legacy_catch_kind e) d.leads (bind-at (λ y. Some (lpush us left)) z.1 refl))
  last-complete D a_catch_all c vs us xs h a base k b ts left r v f =
      let e : Entered R = record { block = b; signature = record { takes = ts; gives = us }; left = left } in
      let d = ends (in_handler us D) (left.sets ++ base) c vs us xs a v in
      let z = end-complete W us d.end d.fits in
      bind-at (λ ws. check W B (deeper legacy_catch_all_kind e (over base D)) c (starting ws) >>= lshut W B legacy_catch_all_kind e) (catch-complete D (deeper k e (over base D)) a_catch_all vs e r h f)
      (bind-at (lshut W B legacy_catch_all_kind e) d.leads (bind-at (λ y. Some (lpush us left)) z.1 refl))

  before-complete :
      (D : Scope R) (n : ℕ) (c : Code) (hs : Handlers) (vs us : List (Val R)) (xs : List ℕ) → Catches W B D (a_catch n) vs → Accepts (in_handler us D) c (vals vs) xs (vals us) → HandledBy D hs us
      → HandledBy D (catch_before n c hs) us
  unfolding HandledBy
  before-complete D n c hs vs us xs h a i base k b ts left r v f =
      let e : Entered R = record { block = b; signature = record { takes = ts; gives = us }; left = left } in
      let d = ends (in_handler us D) (left.sets ++ base) c vs us xs a v in
      bind-at (λ ws. check W B (deeper legacy_catch_kind e (over base D)) c (starting ws) >>= handle W B (over base D) legacy_catch_kind e hs)
      (catch-complete D (deeper k e (over base D)) (a_catch n) vs e r h f)
      (bind-at (handle W B (over base D) legacy_catch_kind e hs) d.leads (i base legacy_catch_kind b ts left d.end v d.fits))

  handling-complete :
      (D : Scope R) (y : Block ℕ) (g : Signature R) (c : Code) (hs : Handlers) (xs : List ℕ) → Opens W B D (a_try y) g
      → Accepts (inside g.gives D) c (vals g.takes) xs (vals g.gives) → HandledBy D hs g.gives
      → (base : List ℕ) (p : Stack R) (ws : List (ValueType R)) → Covers W B D.sets (p.sets ++ base)
      → FitsStack W p (onto (vals g.takes) ws) → Led D base (handling y c hs done) p (onto (vals g.gives) ws) []
  unfolding HandledBy
  handling-complete D y g c hs xs h a i base p ws v k =
      let e : Open D base (a_try y) g p ws = opens-complete D (a_try y) g h base p ws v k in
      let b : Entered R = record { block = e.block; signature = g; left = e.left } in
      let f = a (e.left.sets ++ base) (fresh g) [] e.covers (push-complete W o false g.takes [] [] tt) in
      record {
        end = lpush g.gives e.left;
        leads =
            bind-at (λ y. (check W B (deeper legacy_try_kind y (over base D)) c (fresh y.signature) >>= handle W B (over base D) legacy_try_kind y hs) >>= check W B (over base D) done) e.leads
            (bind-at (λ q. Some q) (bind-at (handle W B (over base D) legacy_try_kind b hs) f.leads (i base legacy_try_kind e.block g.takes e.left f.end e.covers f.fits)) refl);
        fits = push-complete W o e.left.unreached g.gives e.left.items ws e.fits;
        covers = e.covers;
      }

  delegating-complete :
      (D : Scope R) (l : ℕ) (ls : List (Val R)) (y : Block ℕ) (g : Signature R) (c : Code) (xs : List ℕ) → Opens W B D (a_try y) g
      → Accepts (inside g.gives D) c (vals g.takes) xs (vals g.gives) → slice_get D.labels l ≡ Some ls
      → (base : List ℕ) (p : Stack R) (ws : List (ValueType R)) → Covers W B D.sets (p.sets ++ base)
      → FitsStack W p (onto (vals g.takes) ws) → Led D base (delegating_to l y c done) p (onto (vals g.gives) ws) []
  delegating-complete D l ls y g c xs h a t base p ws v k =
      let e : Open D base (a_try y) g p ws = opens-complete D (a_try y) g h base p ws v k in
      let b : Entered R = record { block = e.block; signature = g; left = e.left } in
      let f = a (e.left.sets ++ base) (fresh g) [] e.covers (push-complete W o false g.takes [] [] tt) in
      let z = end-complete W g.gives f.end f.fits in
      let E : Scope R = deeper legacy_try_kind b (over base D) in
      record {
        end = lpush g.gives e.left;
        leads =
            bind-at (λ y. (check W B (deeper legacy_try_kind y (over base D)) c (fresh y.signature) >>= ldelegate W B (over base D) l y) >>= check W B (over base D) done) e.leads
            (bind-at (λ q. Some q)
            (bind-at (ldelegate W B (over base D) l b) f.leads
            (bind-at (λ q. guard (is_some (slice_get D.labels l)) q >>= lshut W B legacy_try_kind b)
            (checks-run E E.sets (legacy_checks []) [] f.end (h.holds.0, (h.holds.1.0, tt)) (λ m j. covers-more W B f.end.sets E.sets m j))
            (bind-at (lshut W B legacy_try_kind b) (guard-at (is_some (slice_get D.labels l)) f.end (ap is_some t)) (bind-at (λ y. Some (lpush g.gives e.left)) z.1 refl))))
            refl);
        fits = push-complete W o e.left.unreached g.gives e.left.items ws e.fits;
        covers = e.covers;
      }

  -- an empty `else`
  empty-matches : (D : Scope R) (g : Signature R) (ys : List ℕ) → Accepts D done (vals g.takes) ys (vals g.gives) → matches_vals W g.takes g.gives ≡ true
  empty-matches D g ys a =
      let f = a D.sets (fresh g) [] (λ m e. e) (push-complete W o false g.takes [] [] tt) in
      let h : FitsStack W (fresh g) (onto (vals g.gives) []) = subst (λ (z : Stack R). FitsStack W z (onto (vals g.gives) [])) (sym (the_same (fresh g) f.end f.leads)) f.fits in
      match-true W g.takes g.gives (subst (λ (z : List (ValueType R)). Match W (vals g.takes) z) (rev-rev (vals g.gives)) (fresh-sound W g (onto (vals g.gives) []) h))

  -- the operand that an `if` takes
  tested : (p : Stack R) (g : Signature R) (ws : List (ValueType R)) → FitsStack W p (onto (vals g.takes ++ val i32 ∷ []) ws) → FitsStack W p (val i32 ∷ onto (vals g.takes) ws)
  tested p g ws h = subst (λ (z : List (ValueType R)). FitsStack W p z) (onto-append (vals g.takes) (val i32 ∷ []) ws) h

  mutual
    pub check-complete : {D : Scope R} {c : Code} {ts us : List (ValueType R)} {xs : List ℕ} → Typed W B D c ts xs us → Accepts D c ts xs us
    check-complete (empty_rule) base p ws v h = record { end = p; leads = refl; fits = h; covers = v }
    check-complete (instruction_rule {C = D} {i = i} {ts = ts} {us = us} r) base p ws v h =
        let f = rule-complete D base (shape_of i) ts us ws p v r h in
        record {
          end = f.0;
          leads = bind-at (λ q. Some q) f.1 refl;
          fits = f.2;
          covers = covering-behind W B (over base D) (shape_of i) D.sets p f.0 f.1 v;
        }
    check-complete (block_rule {C = D} {c = c} {xs = xs} b g h t) base p ws v k = block-complete D (a_block b) g c xs h (check-complete t) refl base p ws v k
    check-complete (loop_rule {C = D} {c = c} {xs = xs} b g h t) base p ws v k = block-complete D (a_loop b) g c xs h (check-complete t) refl base p ws v k
    check-complete (try_table_rule {C = D} {c = c} {xs = xs} b cs g h t) base p ws v k = block-complete D (a_try_table b cs) g c xs h (check-complete t) refl base p ws v k
    check-complete (try_rule {C = D} {c = c} {xs = xs} b g h t) base p ws v k = block-complete D (a_try b) g c xs h (check-complete t) refl base p ws v k
    check-complete (handling_rule {C = D} {c = c} {hs = hs} {xs = xs} b g h t i) base p ws v k = handling-complete D b g c hs xs h (check-complete t) (handle-complete i) base p ws v k
    check-complete (delegating_rule {C = D} {c = c} {xs = xs} {l = l} {ls = ls} b g h t e) base p ws v k = delegating-complete D l ls b g c xs h (check-complete t) e base p ws v k
    check-complete (if_rule {C = D} {c = c} {xs = xs} {ys = ys} b g h t d) base p ws v k =
        block-complete D (an_if b) g c xs h (check-complete t) (empty-matches (inside g.gives D) g ys (check-complete d)) base p ws v (tested p g ws k)
    check-complete (if_else_rule {C = D} {c = c} {d = d} {xs = xs} {ys = ys} b g h t s) base p ws v k =
        halves-complete D b g c d xs ys h (check-complete t) (check-complete s) base p ws v (tested p g ws k)
    check-complete (sequence_rule {C = D} {c = c} {d = d} {us = us} {xs = xs} {ys = ys} i t s) base p ws v h =
        let f = check-complete t base p ws v h in
        let g = check-complete s base f.end ws f.covers f.fits in
        record {
          end = g.end;
          leads = check-both (over base D) c d p ∙ bind-at (check W B (over base D) d) f.leads g.leads;
          fits = g.fits;
          covers = λ m e. g.covers m (subst (λ (is : List ℕ). is_set W B m is ≡ true) (append_assoc ys xs D.sets) e);
        }
    check-complete (frame_rule {ts = ts} {us = us} below t) base p ws v h =
        let f = check-complete t base p (onto below ws) v (subst (λ (z : List (ValueType R)). FitsStack W p z) (onto-append below ts ws) h) in
        record { end = f.end; leads = f.leads; fits = subst (λ (z : List (ValueType R)). FitsStack W f.end z) (sym (onto-append below us ws)) f.fits; covers = f.covers }
    check-complete (subsumption_rule {C = D} {xs = xs} {ys = ys} m n a t) base p ws v h =
        let f = check-complete t base p ws v (fits-sub W o p.unreached p.items (match-onto W m (match-itself W o ws)) h) in
        record {
          end = f.end;
          leads = f.leads;
          fits = fits-sub W o f.end.unreached f.end.items (match-onto W n (match-itself W o ws)) f.fits;
          covers = set-covered W B ys (xs ++ D.sets) D.sets (f.end.sets ++ base) a f.covers (λ k e. f.covers k (covers-more W B xs D.sets k e));
        }

    handle-complete : {D : Scope R} {hs : Handlers} {us : List (Val R)} → Handle W B D hs us → HandledBy D hs us
    handle-complete (last_rule {C = D} {h = x} {c = c} {ts = vs} {us = us} {xs = xs} h t) = last-complete D x c vs us xs h (check-complete t)
    handle-complete (before_rule {C = D} {x = n} {c = c} {hs = hs} {ts = vs} {us = us} {xs = xs} h t i) = before-complete D n c hs vs us xs h (check-complete t) (handle-complete i)
