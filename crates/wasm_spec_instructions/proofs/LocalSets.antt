-- The locals that are set, before an instruction and behind it.
use Rattle.std.proofs.Common.{◌≡◌, refl, sym, ap, subst, ◌∙◌, ℕ, Bool, true, false, ◌||◌, ◌==◌, if◌then◌else◌, List, [], ◌∷◌, ◌++◌, append_assoc, append-nil, length, Option, Some, slice_get, ◌&&◌}
use Rattle.std.proofs.lemmas.Bool.Decides.{Decides-eqb}
use Rattle.wasm_spec_steps.specs.WasmSpecRules.WasmSpec.Syntax.{Val, eq_heap}
use Rattle.wasm_spec_steps.specs.WasmSpecRules.WasmSpec.MatchingTests.{World}
use Rattle.wasm_spec_steps.specs.WasmSpecRules.Attempts.{passes, among}
use Rattle.wasm_spec_steps.specs.Bodies.{Surroundings}
use Rattle.wasm_spec_steps.specs.Machine.{Operand, known, as_reference, chosen, non_null, matches_operand}
use Rattle.wasm_spec_steps.specs.Actions.{OperandTypes, Check, has, allows, global_is_mutable, local_is_set, function_is_referenced, is_exception, each_matches, each_matches_some, may_be_cast, can_be_tested, is_aligned, suits, fields_have_defaults, has_no_descriptor, field_is_mutable, field_is_packed, element_is_mutable, element_has_default, element_is_number, element_is_packed, element_is_storable, data_is_there, segment_is_there, reaches_global, reaches_table, reaches_type, reaches_function, Action, need, refuse, take, give, take_any, take_reference, take_comparable, make_non_null, choose, stop, turn_to_else, leave, take_below, convert, describe, enter, set, branch_on_null, branch_to_one_of, turn_to_catch, find_outside, find_caught}
use Rattle.wasm_spec_steps.specs.Shapes.{Shape, plain, ending, opening, closing, turning, dropping, choosing, never, testing_null, asserting_non_null, branching_on_null, branching_on_non_null, branching_by_table, setting, giving_back, measuring, comparing, converting, describing, catching, delegating, rethrowing}
use Rattle.wasm_spec_steps.specs.Meanings.{descriptor_at, is_below_either, agree, converted}
use Rattle.wasm_spec_steps.specs.Steps.{actions_of, checked}
use Rattle.wasm_spec_instructions.specs.ValueTypes.{reference_at}
use Rattle.wasm_spec_instructions.specs.Scopes.{Scope, is_set, types_in, holds_in, AreSet}
use Rattle.wasm_spec_instructions.specs.Rules.{sets_of}
use Rattle.wasm_spec_instructions.proofs.Attempts.{absent, the_same, bind-gives, guard-gives}
use Rattle.wasm_spec_instructions.proofs.FrameMachine.{Stack, lpop_in, lpop, lpop_val, matched, lpops, referring, referred, lpop_reference, lpush, lput, lfit, without, below, compared, compare_of, put_non_null, converting_to, and_choose, choose_of, null_for, null_at, given_back, in_table, table_for, ldescribed, described_of, stopped, lgrown, is_caught, lact, lrun}
use Rattle.wasm_spec_instructions.proofs.DescriptorOperands.{at_type, described-gives}

or-mid : (f c a b : Bool) → (f || a) ≡ (f || b) → (f || (c || a)) ≡ (f || (c || b))
or-mid true c a b e = refl
or-mid false true a b e = refl
or-mid false false a b e = e

or-mono : (f c a b : Bool) → ((f || a) ≡ true → (f || b) ≡ true) → (f || (c || a)) ≡ true → (f || (c || b)) ≡ true
or-mono true c a b h e = refl
or-mono false true a b h e = refl
or-mono false false a b h e = h e

or-twice : (f c a : Bool) → (c ≡ true → (f || a) ≡ true) → (f || a) ≡ (f || (c || a))
or-twice true c a h = refl
or-twice false true a h = h refl
or-twice false false a h = refl

or-more : (f c a : Bool) → (f || a) ≡ true → (f || (c || a)) ≡ true
or-more true c a e = refl
or-more false true a e = refl
or-more false false a e = e

or-either : (f c a : Bool) {X : Type 0} → (c ≡ true → X) → ((f || a) ≡ true → X) → (f || (c || a)) ≡ true → X
or-either true c a h k e = k refl
or-either false true a h k e = h refl
or-either false false a h k e = k e

module _ {R : Type 0} where
  -- what is taken leaves them
  pop_any-sets : (is : List ℕ) (u : Bool) (xs : List (Operand R)) (q : Operand R × Stack R) → lpop_in is u xs ≡ Some q → q.1.sets ≡ is
  pop_any-sets is u (x ∷ xs) q e = ap (λ (z : Operand R × Stack R). z.1.sets) (sym (the_same _ q e))
  pop_any-sets is true [] q e = ap (λ (z : Operand R × Stack R). z.1.sets) (sym (the_same _ q e))
  pop_any-sets is false [] q e = absurd (absent q e)

  pop-sets : (p : Stack R) (q : Operand R × Stack R) → lpop p ≡ Some q → q.1.sets ≡ p.sets
  pop-sets p q e = pop_any-sets p.sets p.unreached p.items q e

  pop_reference-sets : (p : Stack R) (r : Operand R × Stack R) → lpop_reference p ≡ Some r → r.1.sets ≡ p.sets
  pop_reference-sets p r e =
      let f = bind-gives (lpop p) referred r e in
      let g = bind-gives (as_reference f.0.0) (referring f.0.1) r f.2 in
      ap (λ (z : Operand R × Stack R). z.1.sets) (sym (the_same (g.0, f.0.1) r g.2)) ∙ pop-sets p f.0 f.1

  same_sets : (p q : Stack R) → p ≡ q → q.sets ≡ p.sets
  same_sets p q e = ap (λ (z : Stack R). z.sets) (sym e)

module _ {R : Type 0} (W : World R) where
  pub pops-sets : (vs : List (Val R)) (p q : Stack R) → lpops W vs p ≡ Some q → q.sets ≡ p.sets
  pops-sets [] p q e = same_sets p q (the_same p q e)
  pops-sets (v ∷ vs) p q e =
      let f = bind-gives (lpops W vs p) (lpop_val W v) q e in
      let g = bind-gives (lpop f.0) (matched W v) q f.2 in
      let h = guard-gives (matches_operand W g.0.0 v) g.0.1 q g.2 in
      same_sets g.0.1 q h.1 ∙ pop-sets f.0 g.0 g.1 ∙ pops-sets vs p f.0 f.1

module _ {R : Type 0} (W : World R) (B : Surroundings R) where
  abbrev pub Same : List ℕ → List ℕ → Type 0
  Same X Y = (m : ℕ) → is_set W B m X ≡ is_set W B m Y

  abbrev pub Covers : List ℕ → List ℕ → Type 0
  Covers X Y = (m : ℕ) → is_set W B m X ≡ true → is_set W B m Y ≡ true

  same-behind : (xs X Y : List ℕ) → Same X Y → Same (xs ++ X) (xs ++ Y)
  same-behind [] X Y h m = h m
  same-behind (x ∷ xs) X Y h m = or-mid (passes (λ l. l.set) (slice_get B.locals m)) (m == x) (among m (xs ++ X)) (among m (xs ++ Y)) (same-behind xs X Y h m)

  pub covers-behind : (xs X Y : List ℕ) → Covers X Y → Covers (xs ++ X) (xs ++ Y)
  covers-behind [] X Y h m = h m
  covers-behind (x ∷ xs) X Y h m = or-mono (passes (λ l. l.set) (slice_get B.locals m)) (m == x) (among m (xs ++ X)) (among m (xs ++ Y)) (covers-behind xs X Y h m)

  pub covers-more : (xs X : List ℕ) → Covers X (xs ++ X)
  covers-more [] X m e = e
  covers-more (x ∷ xs) X m e = or-more (passes (λ l. l.set) (slice_get B.locals m)) (m == x) (among m (xs ++ X)) (covers-more xs X m e)

  -- those that are set add nothing
  pub set-covered : (ys X Z Y : List ℕ) → AreSet W B X ys → Covers X Y → Covers Z Y → Covers (ys ++ Z) Y
  set-covered [] X Z Y a h k m e = k m e
  set-covered (y ∷ ys) X Z Y a h k m e =
      or-either (passes (λ l. l.set) (slice_get B.locals m)) (m == y) (among m (ys ++ Z)) (λ t. subst (λ (z : ℕ). is_set W B z Y ≡ true) (sym ((Decides-eqb m y).0 t)) (h y a.0))
      (λ t. set-covered ys X Z Y a.1 h k m t)
      e

  -- checks that hold where fewer locals are set
  pub holds-more :
      (ls : List (List (Val R))) (rs : Option (List (Val R))) (X Y : List ℕ) (c : Check) → Covers X Y → holds_in W B ls rs X c ≡ true → holds_in W B ls rs Y c ≡ true
  holds-more ls rs X Y (local_is_set n) h e = h n e
  holds-more ls rs X Y (each_matches t u) h e = e
  holds-more ls rs X Y (each_matches_some t u) h e = e
  holds-more ls rs X Y (has n) h e = e
  holds-more ls rs X Y (allows v) h e = e
  holds-more ls rs X Y (global_is_mutable n) h e = e
  holds-more ls rs X Y (function_is_referenced n) h e = e
  holds-more ls rs X Y (is_exception n) h e = e
  holds-more ls rs X Y (may_be_cast r q) h e = e
  holds-more ls rs X Y (can_be_tested r) h e = e
  holds-more ls rs X Y (is_aligned op m) h e = e
  holds-more ls rs X Y (suits f values) h e = e
  holds-more ls rs X Y (fields_have_defaults n) h e = e
  holds-more ls rs X Y (has_no_descriptor n) h e = e
  holds-more ls rs X Y (field_is_mutable n k) h e = e
  holds-more ls rs X Y (field_is_packed b n k) h e = e
  holds-more ls rs X Y (element_is_mutable n) h e = e
  holds-more ls rs X Y (element_has_default n) h e = e
  holds-more ls rs X Y (element_is_number n) h e = e
  holds-more ls rs X Y (element_is_packed b n) h e = e
  holds-more ls rs X Y (element_is_storable m n) h e = e
  holds-more ls rs X Y (data_is_there n) h e = e
  holds-more ls rs X Y (segment_is_there n) h e = e
  holds-more ls rs X Y (reaches_global n) h e = e
  holds-more ls rs X Y (reaches_table n) h e = e
  holds-more ls rs X Y (reaches_type n) h e = e
  holds-more ls rs X Y (reaches_function n) h e = e

  grown-same : (n : ℕ) (base is : List ℕ) → Same (lgrown W B n base is ++ base) (n ∷ (is ++ base))
  grown-same n base is m = go (is_set W B n (is ++ base)) refl
    where
      go : (b : Bool) → is_set W B n (is ++ base) ≡ b → is_set W B m ((if b then is else n ∷ is) ++ base) ≡ is_set W B m (n ∷ (is ++ base))
      go true e =
          or-twice (passes (λ l. l.set) (slice_get B.locals m)) (m == n) (among m (is ++ base)) (λ k. subst (λ (z : ℕ). is_set W B z (is ++ base) ≡ true) (sym ((Decides-eqb m n).0 k)) e)
      go false e = refl

  adds : Action → List ℕ
  adds (set n) = n ∷ []
  adds _ = []

  all_adds : List Action → List ℕ
  all_adds [] = []
  all_adds (a ∷ as_) = all_adds as_ ++ adds a

  module _ (C : Scope R) where
    kept : (p q : Stack R) → q.sets ≡ p.sets → Same (q.sets ++ C.sets) (p.sets ++ C.sets)
    kept p q e m = ap (λ (is : List ℕ). is_set W B m (is ++ C.sets)) e

    act-same : (a : Action) (p q : Stack R) → lact W B C a p ≡ Some q → Same (q.sets ++ C.sets) (adds a ++ (p.sets ++ C.sets))
    unfolding adds
    act-same (need c) p q e = let g = guard-gives (holds_in W B C.labels C.returns (p.sets ++ C.sets) c) p q e in kept p q (same_sets p q g.1)
    act-same refuse p q e = absurd (absent q e)
    act-same turn_to_else p q e = absurd (absent q e)
    act-same leave p q e = absurd (absent q e)
    act-same (enter k b) p q e = absurd (absent q e)
    act-same (turn_to_catch t k) p q e = absurd (absent q e)
    act-same (find_outside n) p q e = absurd (absent q e)
    act-same (find_caught n) p q e = let g = guard-gives (is_caught W B C.caught n) p q e in kept p q (same_sets p q g.1)
    act-same (take t) p q e = let f = bind-gives (types_in W B C.labels C.returns t) (λ (vs : List (Val R)). lpops W vs p) q e in kept p q (pops-sets W f.0 p q f.2)
    act-same (give t) p q e = let f = bind-gives (types_in W B C.labels C.returns t) (λ (vs : List (Val R)). Some (lpush vs p)) q e in kept p q (same_sets (lpush f.0 p) q (the_same (lpush f.0 p) q f.2))
    act-same take_any p q e =
        let f = bind-gives (lpop p) without q e in
        kept p q (same_sets f.0.1 q (the_same f.0.1 q f.2) ∙ pop-sets p f.0 f.1)
    act-same stop p q e = kept p q (same_sets (stopped p) q (the_same (stopped p) q e))
    act-same (set n) p q e = λ m.
        ap (λ (z : Stack R). is_set W B m (z.sets ++ C.sets)) (sym (the_same (record p { sets = lgrown W B n C.sets p.sets }) q e)) ∙ grown-same n C.sets p.sets m
    act-same take_reference p q e =
        let f = bind-gives (lpop_reference p) without q e in
        kept p q (same_sets f.0.1 q (the_same f.0.1 q f.2) ∙ pop_reference-sets p f.0 f.1)
    act-same make_non_null p q e =
        let f = bind-gives (lpop_reference p) put_non_null q e in
        kept p q (same_sets (lput (non_null f.0.0) f.0.1) q (the_same (lput (non_null f.0.0) f.0.1) q f.2) ∙ pop_reference-sets p f.0 f.1)
    act-same (take_below k) p q e =
        let f = bind-gives (lpop_reference p) (below W B k) q e in
        let g = guard-gives (is_below_either W B k f.0.0) f.0.1 q f.2 in
        kept p q (same_sets f.0.1 q g.1 ∙ pop_reference-sets p f.0 f.1)
    act-same (convert j k) p q e =
        let f = bind-gives (lpop_reference p) (converting_to W B j k) q e in
        let g = guard-gives (is_below_either W B j f.0.0) (lput (converted W B k f.0.0) f.0.1) q f.2 in
        kept p q (same_sets (lput (converted W B k f.0.0) f.0.1) q g.1 ∙ pop_reference-sets p f.0 f.1)
    act-same (describe n) p q e =
        let a = bind-gives (slice_get B.context.types n) (described_of W B n p) q e in
        let b = bind-gives (descriptor_at W B n) (λ x. ldescribed W a.0 x p) q a.2 in
        let d = described-gives W a.0 b.0 p q b.2 in
        kept p q (same_sets (lput (known (reference_at false (at_type d.exactly b.0))) d.left) q d.is ∙ pops-sets W (reference_at true (at_type d.exactly a.0) ∷ []) p d.left d.pops)
    act-same take_comparable p q e =
        let f = bind-gives (lpop_reference p) (compare_of W B) q e in
        let h = bind-gives (lpop_reference f.0.1) (compared W B f.0.0) q f.2 in
        let g = guard-gives (is_below_either W B eq_heap f.0.0 && is_below_either W B eq_heap h.0.0 && agree W B f.0.0 h.0.0) h.0.1 q h.2 in
        kept p q (same_sets h.0.1 q g.1 ∙ pop_reference-sets f.0.1 h.0 h.1 ∙ pop_reference-sets p f.0 f.1)
    act-same choose p q e =
        let a = bind-gives (lpop p) choose_of q e in
        let b = bind-gives (lpop a.0.1) (and_choose a.0.0) q a.2 in
        let c = bind-gives (chosen a.0.0 b.0.0) (λ (w : Operand R). Some (lput w b.0.1)) q b.2 in
        kept p q (same_sets (lput c.0 b.0.1) q (the_same (lput c.0 b.0.1) q c.2) ∙ pop-sets a.0.1 b.0 b.1 ∙ pop-sets p a.0 a.1)
    act-same (branch_on_null n) p q e =
        let b = bind-gives (lpop_reference p) (null_at W B C.labels n) q e in
        let c = bind-gives (slice_get C.labels n) (null_for W B b.0) q b.2 in
        let d = bind-gives (lpops W c.0 b.0.1) (given_back b.0.0 c.0) q c.2 in
        kept p q (same_sets (lput (non_null b.0.0) (lpush c.0 d.0)) q (the_same (lput (non_null b.0.0) (lpush c.0 d.0)) q d.2) ∙ pops-sets W c.0 b.0.1 d.0 d.1 ∙ pop_reference-sets p b.0 b.1)
    act-same (branch_to_one_of ns n) p q e =
        let a = bind-gives (slice_get C.labels n) (table_for W B C.labels p ns) q e in
        let b = bind-gives (lpops W a.0 p) (in_table W B C.labels p ns a.0) q a.2 in
        let g = guard-gives (lfit W C.labels p (length a.0) ns) (stopped b.0) q b.2 in
        kept p q (same_sets (stopped b.0) q g.1 ∙ pops-sets W a.0 p b.0 b.1)

    run-same : (as_ : List Action) (p q : Stack R) → lrun W B C as_ p ≡ Some q → Same (q.sets ++ C.sets) (all_adds as_ ++ (p.sets ++ C.sets))
    unfolding all_adds
    run-same [] p q e = kept p q (same_sets p q (the_same p q e))
    run-same (a ∷ as_) p q e = λ m.
        let f = bind-gives (lact W B C a p) (lrun W B C as_) q e in
        run-same as_ f.0 q f.2 m
        ∙ same-behind (all_adds as_) (f.0.sets ++ C.sets) (adds a ++ (p.sets ++ C.sets)) (act-same a p f.0 f.1) m
        ∙ ap (λ (is : List ℕ). is_set W B m is) (sym (append_assoc (all_adds as_) (adds a) (p.sets ++ C.sets)))

    checked-adds : (cs : List Check) (as_ : List Action) → all_adds as_ ≡ [] → all_adds (checked cs as_) ≡ []
    unfolding all_adds adds
    checked-adds [] as_ h = h
    checked-adds (c ∷ cs) as_ h = append-nil (all_adds (checked cs as_)) ∙ checked-adds cs as_ h

    shape-adds : (s : Shape) → all_adds (actions_of s) ≡ sets_of s
    unfolding all_adds adds
    shape-adds (plain cs t u) = checked-adds cs (take t ∷ give u ∷ []) refl
    shape-adds (ending cs t) = checked-adds cs (take t ∷ stop ∷ []) refl
    shape-adds (opening cs t k b) = checked-adds cs (take t ∷ enter k b ∷ []) refl
    shape-adds closing = refl
    shape-adds turning = refl
    shape-adds dropping = refl
    shape-adds choosing = refl
    shape-adds never = refl
    shape-adds (testing_null cs) = checked-adds cs (take_reference ∷ give _ ∷ []) refl
    shape-adds (asserting_non_null cs) = checked-adds cs (make_non_null ∷ []) refl
    shape-adds (branching_on_null cs l) = checked-adds cs (branch_on_null l ∷ []) refl
    shape-adds (branching_on_non_null cs l) = checked-adds cs (make_non_null ∷ take _ ∷ take _ ∷ give _ ∷ []) refl
    shape-adds (branching_by_table ls l) = refl
    shape-adds (setting x) = refl
    shape-adds (giving_back x) = refl
    shape-adds (measuring cs k t) = checked-adds cs (take_below k ∷ give t ∷ []) refl
    shape-adds (comparing cs t) = checked-adds cs (take_comparable ∷ give t ∷ []) refl
    shape-adds (converting cs j k) = checked-adds cs (convert j k ∷ []) refl
    shape-adds (describing cs n) = checked-adds cs (describe n ∷ []) refl
    shape-adds (catching cs t k) = checked-adds cs (turn_to_catch t k ∷ []) refl
    shape-adds (delegating cs l) = checked-adds cs (find_outside l ∷ leave ∷ []) refl
    shape-adds (rethrowing cs l) = checked-adds cs (find_caught l ∷ stop ∷ []) refl

    pub simple-same : (s : Shape) (p q : Stack R) → lrun W B C (actions_of s) p ≡ Some q → Same (q.sets ++ C.sets) (sets_of s ++ (p.sets ++ C.sets))
    simple-same s p q e = λ m. run-same (actions_of s) p q e m ∙ ap (λ (is : List ℕ). is_set W B m (is ++ (p.sets ++ C.sets))) (shape-adds s)

    -- what was set before an instruction is set behind it, and so is what it sets
    pub covered-behind : (s : Shape) (S : List ℕ) (p q : Stack R) → lrun W B C (actions_of s) p ≡ Some q → Covers (p.sets ++ C.sets) S → Covers (q.sets ++ C.sets) (sets_of s ++ S)
    covered-behind s S p q e h m k = covers-behind (sets_of s) (p.sets ++ C.sets) S h m (sym (simple-same s p q e m) ∙ k)

    pub covering-behind : (s : Shape) (S : List ℕ) (p q : Stack R) → lrun W B C (actions_of s) p ≡ Some q → Covers S (p.sets ++ C.sets) → Covers (sets_of s ++ S) (q.sets ++ C.sets)
    covering-behind s S p q e h m k = simple-same s p q e m ∙ covers-behind (sets_of s) S (p.sets ++ C.sets) h m k

    -- checks, and what is taken, keep the locals that are set
    pub taken-same : (cs : List Check) (t : OperandTypes) (p q : Stack R) → lrun W B C (checked cs (take t ∷ [])) p ≡ Some q → Same (q.sets ++ C.sets) (p.sets ++ C.sets)
    unfolding all_adds adds
    taken-same cs t p q e = λ m. run-same (checked cs (take t ∷ [])) p q e m ∙ ap (λ (is : List ℕ). is_set W B m (is ++ (p.sets ++ C.sets))) (checked-adds cs (take t ∷ []) refl)
