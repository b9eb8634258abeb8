-- Behind which instructions the validator still regards what follows as reached: all but those behind which no run goes on.
use Rattle.std.proofs.Common.{◌≡◌, refl, sym, ap, ◌∙◌, ◌⊎◌, inl, inr, ℕ, Bool, true, false, ◌&&◌, List, [], ◌∷◌, ◌++◌, Option, Some, None, is_some, slice_get}
use Rattle.wasm_spec_steps.specs.WasmSpecRules.WasmSpec.Syntax.{Val, eq_heap}
use Rattle.wasm_spec_steps.specs.WasmSpecRules.WasmSpec.MatchingTests.{World}
use Rattle.wasm_spec_steps.specs.WasmSpecRules.Attempts.{◌>>=◌, guard}
use Rattle.wasm_operators.specs.Control.{Block}
use Rattle.wasm_spec_steps.specs.Bodies.{Surroundings}
use Rattle.wasm_spec_steps.specs.Machine.{Operand, known, Kind, if_kind, else_kind, legacy_try_kind, legacy_catch_kind, as_reference, chosen, non_null, matches_operand}
use Rattle.wasm_spec_steps.specs.Actions.{Check, Action, need, refuse, take, give, take_any, take_reference, take_comparable, make_non_null, choose, stop, turn_to_else, leave, take_below, convert, describe, enter, set, branch_on_null, branch_to_one_of, turn_to_catch, find_outside, find_caught}
use Rattle.wasm_spec_steps.specs.Shapes.{Shape, legacy_checks}
use Rattle.wasm_spec_steps.specs.Meanings.{resolve_block, block_signature, descriptor_at, is_below_either, agree, converted, may_end}
use Rattle.wasm_spec_steps.specs.Steps.{actions_of, checked}
use Rattle.wasm_spec_instructions.specs.Code.{Opening, an_if, a_try, a_catch, Code, done, enclosing, choosing_between, handling, delegating_to, Handlers, last_handler, catch_before, kind_of, block_of, checks_of, condition_of, handler_kind}
use Rattle.wasm_spec_instructions.specs.ValueTypes.{ValueType, reference_at}
use Rattle.wasm_spec_instructions.specs.Scopes.{Scope, types_in, holds_in}
use Rattle.wasm_spec_instructions.specs.Rules.{Rule, plain_rule, ending_rule, dropping_rule, choosing_rule, testing_null_rule, asserting_non_null_rule, branching_on_null_rule, branching_on_non_null_rule, branching_by_table_rule, setting_rule, giving_back_rule, measuring_rule, comparing_rule, converting_rule, describing_exactly_rule, describing_rule, rethrowing_rule}
use Rattle.wasm_spec_instructions.proofs.Attempts.{no, absent, the_same, bind-gives, guard-gives}
use Rattle.wasm_spec_instructions.proofs.FrameMachine.{Stack, Entered, starting, fresh, deeper, entered, taking, signed, lenter_block, lenter, lend, lshut, lcatch, ldelegate, check, handle, lpop_in, lpop, lpop_val, matched, lpops, referring, referred, lpop_reference, lpush, lput, without, below, compared, compare_of, put_non_null, converting_to, and_choose, choose_of, null_for, null_at, given_back, ldescribed, described_of, lgrown, is_caught, lact, lrun}
use Rattle.wasm_spec_instructions.proofs.DescriptorOperands.{at_type, described-gives}

module _ {R : Type 0} where
  same_reach : (p q : Stack R) → p ≡ q → q.unreached ≡ p.unreached
  same_reach p q e = ap (λ (z : Stack R). z.unreached) (sym e)

  pop_any-reach : (is : List ℕ) (u : Bool) (xs : List (Operand R)) (q : Operand R × Stack R) → lpop_in is u xs ≡ Some q → q.1.unreached ≡ u
  pop_any-reach is u (x ∷ xs) q e = ap (λ (z : Operand R × Stack R). z.1.unreached) (sym (the_same _ q e))
  pop_any-reach is true [] q e = ap (λ (z : Operand R × Stack R). z.1.unreached) (sym (the_same _ q e))
  pop_any-reach is false [] q e = absurd (absent q e)

  pop-reach : (p : Stack R) (q : Operand R × Stack R) → lpop p ≡ Some q → q.1.unreached ≡ p.unreached
  pop-reach p q e = pop_any-reach p.sets p.unreached p.items q e

  pop_reference-reach : (p : Stack R) (r : Operand R × Stack R) → lpop_reference p ≡ Some r → r.1.unreached ≡ p.unreached
  pop_reference-reach p r e =
      let f = bind-gives (lpop p) referred r e in
      let g = bind-gives (as_reference f.0.0) (referring f.0.1) r f.2 in
      ap (λ (z : Operand R × Stack R). z.1.unreached) (sym (the_same (g.0, f.0.1) r g.2)) ∙ pop-reach p f.0 f.1

module _ {R : Type 0} (W : World R) where
  pub pops-reach : (vs : List (Val R)) (p q : Stack R) → lpops W vs p ≡ Some q → q.unreached ≡ p.unreached
  pops-reach [] p q e = same_reach p q (the_same p q e)
  pops-reach (v ∷ vs) p q e =
      let f = bind-gives (lpops W vs p) (lpop_val W v) q e in
      let g = bind-gives (lpop f.0) (matched W v) q f.2 in
      let h = guard-gives (matches_operand W g.0.0 v) g.0.1 q g.2 in
      same_reach g.0.1 q h.1 ∙ pop-reach f.0 g.0 g.1 ∙ pops-reach vs p f.0 f.1

-- actions behind which code is reached as before
abbrev pub goes_on : Action → Bool
goes_on stop = false
goes_on (branch_to_one_of ns n) = false
goes_on _ = true

abbrev pub all_go_on : List Action → Bool
all_go_on [] = true
all_go_on (a ∷ as_) = goes_on a && all_go_on as_

pub checked-go_on : (cs : List Check) (as_ : List Action) → all_go_on as_ ≡ true → all_go_on (checked cs as_) ≡ true
checked-go_on [] as_ e = e
checked-go_on (c ∷ cs) as_ e = checked-go_on cs as_ e

first-true : (a b : Bool) → (a && b) ≡ true → (a ≡ true) × (b ≡ true)
first-true true b e = (refl, e)
first-true false b e = no e

module _ {R : Type 0} (W : World R) (B : Surroundings R) (C : Scope R) where
  act-reach : (a : Action) (p q : Stack R) → goes_on a ≡ true → lact W B C a p ≡ Some q → q.unreached ≡ p.unreached
  act-reach stop p q h e = no h
  act-reach (branch_to_one_of ns n) p q h e = no h
  act-reach (need c) p q h e = let g = guard-gives (holds_in W B C.labels C.returns (p.sets ++ C.sets) c) p q e in same_reach p q g.1
  act-reach refuse p q h e = absurd (absent q e)
  act-reach turn_to_else p q h e = absurd (absent q e)
  act-reach leave p q h e = absurd (absent q e)
  act-reach (enter k b) p q h e = absurd (absent q e)
  act-reach (turn_to_catch t k) p q h e = absurd (absent q e)
  act-reach (find_outside n) p q h e = absurd (absent q e)
  act-reach (find_caught n) p q h e = let g = guard-gives (is_caught W B C.caught n) p q e in same_reach p q g.1
  act-reach (take t) p q h e =
      let f = bind-gives (types_in W B C.labels C.returns t) (λ (vs : List (Val R)). lpops W vs p) q e in pops-reach W f.0 p q f.2
  act-reach (give t) p q h e =
      let f = bind-gives (types_in W B C.labels C.returns t) (λ (vs : List (Val R)). Some (lpush vs p)) q e in same_reach (lpush f.0 p) q
      (the_same (lpush f.0 p) q f.2)
  act-reach take_any p q h e =
      let f = bind-gives (lpop p) without q e in
      same_reach f.0.1 q (the_same f.0.1 q f.2) ∙ pop-reach p f.0 f.1
  act-reach (set n) p q h e =
      same_reach (record p { sets = lgrown W B n C.sets p.sets }) q (the_same (record p { sets = lgrown W B n C.sets p.sets }) q e)
  act-reach take_reference p q h e =
      let f = bind-gives (lpop_reference p) without q e in
      same_reach f.0.1 q (the_same f.0.1 q f.2) ∙ pop_reference-reach p f.0 f.1
  act-reach make_non_null p q h e =
      let f = bind-gives (lpop_reference p) put_non_null q e in
      same_reach (lput (non_null f.0.0) f.0.1) q (the_same (lput (non_null f.0.0) f.0.1) q f.2) ∙ pop_reference-reach p f.0 f.1
  act-reach (take_below k) p q h e =
      let f = bind-gives (lpop_reference p) (below W B k) q e in
      let g = guard-gives (is_below_either W B k f.0.0) f.0.1 q f.2 in
      same_reach f.0.1 q g.1 ∙ pop_reference-reach p f.0 f.1
  act-reach (convert j k) p q h e =
      let f = bind-gives (lpop_reference p) (converting_to W B j k) q e in
      let g = guard-gives (is_below_either W B j f.0.0) (lput (converted W B k f.0.0) f.0.1) q f.2 in
      same_reach (lput (converted W B k f.0.0) f.0.1) q g.1 ∙ pop_reference-reach p f.0 f.1
  act-reach (describe n) p q h e =
      let a = bind-gives (slice_get B.context.types n) (described_of W B n p) q e in
      let b = bind-gives (descriptor_at W B n) (λ x. ldescribed W a.0 x p) q a.2 in
      let d = described-gives W a.0 b.0 p q b.2 in
      same_reach (lput (known (reference_at false (at_type d.exactly b.0))) d.left) q d.is ∙ pops-reach W (reference_at true (at_type d.exactly a.0) ∷ []) p d.left d.pops
  act-reach take_comparable p q h e =
      let f = bind-gives (lpop_reference p) (compare_of W B) q e in
      let k = bind-gives (lpop_reference f.0.1) (compared W B f.0.0) q f.2 in
      let g = guard-gives (is_below_either W B eq_heap f.0.0 && is_below_either W B eq_heap k.0.0 && agree W B f.0.0 k.0.0) k.0.1 q k.2 in
      same_reach k.0.1 q g.1 ∙ pop_reference-reach f.0.1 k.0 k.1 ∙ pop_reference-reach p f.0 f.1
  act-reach choose p q h e =
      let a = bind-gives (lpop p) choose_of q e in
      let b = bind-gives (lpop a.0.1) (and_choose a.0.0) q a.2 in
      let c = bind-gives (chosen a.0.0 b.0.0) (λ (w : Operand R). Some (lput w b.0.1)) q b.2 in
      same_reach (lput c.0 b.0.1) q (the_same (lput c.0 b.0.1) q c.2) ∙ pop-reach a.0.1 b.0 b.1 ∙ pop-reach p a.0 a.1
  act-reach (branch_on_null n) p q h e =
      let b = bind-gives (lpop_reference p) (null_at W B C.labels n) q e in
      let c = bind-gives (slice_get C.labels n) (null_for W B b.0) q b.2 in
      let d = bind-gives (lpops W c.0 b.0.1) (given_back b.0.0 c.0) q c.2 in
      let x : q.unreached ≡ d.0.unreached = same_reach (lput (non_null b.0.0) (lpush c.0 d.0)) q
      (the_same (lput (non_null b.0.0) (lpush c.0 d.0)) q d.2) in
      let y : d.0.unreached ≡ b.0.1.unreached = pops-reach W c.0 b.0.1 d.0 d.1 in
      x ∙ y ∙ pop_reference-reach p b.0 b.1

  pub run-reach : (as_ : List Action) (p q : Stack R) → all_go_on as_ ≡ true → lrun W B C as_ p ≡ Some q → q.unreached ≡ p.unreached
  run-reach [] p q h e = same_reach p q (the_same p q e)
  run-reach (a ∷ as_) p q h e =
      let g = first-true (goes_on a) (all_go_on as_) h in
      let f = bind-gives (lact W B C a p) (lrun W B C as_) q e in
      run-reach as_ f.0 q g.1 f.2 ∙ act-reach a p f.0 g.0 f.1

-- An instruction goes on, or the rules let it give anything.
pub goes_on_or_gives_any :
    {R : Type 0} (W : World R) (B : Surroundings R) (C : Scope R) (s : Shape) (ts us : List (ValueType R)) → Rule W B C s ts us
    → (all_go_on (actions_of s) ≡ true) ⊎ ((vs : List (ValueType R)) → Rule W B C s ts vs)
goes_on_or_gives_any W B C s ts us (plain_rule {cs = cs} {t = t} {u = u} h e f) = inl (checked-go_on cs (take t ∷ give u ∷ []) refl)
goes_on_or_gives_any W B C s ts us (ending_rule bs after h e) = inr (λ vs. ending_rule bs vs h e)
goes_on_or_gives_any W B C s ts us (rethrowing_rule bs after h e) = inr (λ vs. rethrowing_rule bs vs h e)
goes_on_or_gives_any W B C s ts us (branching_by_table_rule bs as_ after m) = inr (λ vs. branching_by_table_rule bs as_ vs m)
goes_on_or_gives_any W B C s ts us (dropping_rule t) = inl refl
goes_on_or_gives_any W B C s ts us (choosing_rule t v n m) = inl refl
goes_on_or_gives_any W B C s ts us (testing_null_rule {cs = cs} x h) = inl (checked-go_on cs (take_reference ∷ give _ ∷ []) refl)
goes_on_or_gives_any W B C s ts us (asserting_non_null_rule {cs = cs} x h) = inl (checked-go_on cs (make_non_null ∷ []) refl)
goes_on_or_gives_any W B C s ts us (branching_on_null_rule {cs = cs} {l = l} x h e) = inl (checked-go_on cs (branch_on_null l ∷ []) refl)
goes_on_or_gives_any W B C s ts us (branching_on_non_null_rule {cs = cs} ls r h e) =
    inl (checked-go_on cs (make_non_null ∷ take _ ∷ take _ ∷ give _ ∷ []) refl)
goes_on_or_gives_any W B C s ts us (setting_rule y e) = inl refl
goes_on_or_gives_any W B C s ts us (giving_back_rule y e) = inl refl
goes_on_or_gives_any W B C s ts us (measuring_rule {cs = cs} {k = k} {t = t} f h e) = inl (checked-go_on cs (take_below k ∷ give t ∷ []) refl)
goes_on_or_gives_any W B C s ts us (comparing_rule {cs = cs} {t = t} f h e) = inl (checked-go_on cs (take_comparable ∷ give t ∷ []) refl)
goes_on_or_gives_any W B C s ts us (converting_rule {cs = cs} {j = j} {k = k} n f h) = inl (checked-go_on cs (convert j k ∷ []) refl)
goes_on_or_gives_any W B C s ts us (describing_exactly_rule {cs = cs} {n = n} h e f) = inl (checked-go_on cs (describe n ∷ []) refl)
goes_on_or_gives_any W B C s ts us (describing_rule {cs = cs} {n = n} h e f) = inl (checked-go_on cs (describe n ∷ []) refl)

-- blocks, whose end is reached as their start is
module _ {R : Type 0} (W : World R) (B : Surroundings R) where
  block-reach : (b : Block ℕ) (p : Stack R) (e : Entered R) → lenter_block W B b p ≡ Some e → e.left.unreached ≡ p.unreached
  block-reach b p e h =
      let x = bind-gives (resolve_block B.context.types b) (signed W B p) e h in
      let y = bind-gives (block_signature W B x.0) (taking W B x.0 p) e x.2 in
      let z = bind-gives (lpops W y.0.takes p) (entered x.0 y.0) e y.2 in
      ap (λ (w : Entered R). w.left.unreached) (sym (the_same (record { block = x.0; signature = y.0; left = z.0 }) e z.2))
      ∙ pops-reach W y.0.takes p z.0 z.1

  enter-reach : (C : Scope R) (o : Opening) (p : Stack R) (e : Entered R) → lenter W B C o p ≡ Some e → e.left.unreached ≡ p.unreached
  enter-reach C o p e h =
      let x = bind-gives (lrun W B C (checked (checks_of o) (take (condition_of o) ∷ [])) p) (lenter_block W B (block_of o)) e h in
      block-reach (block_of o) x.0 e x.2 ∙ run-reach W B C (checked (checks_of o) (take (condition_of o) ∷ [])) p x.0
      (checked-go_on (checks_of o) (take (condition_of o) ∷ []) refl) x.1

  shut-reach : (k : Kind) (e : Entered R) (r q : Stack R) → lshut W B k e r ≡ Some q → q.unreached ≡ e.left.unreached
  shut-reach k e r q h =
      let x = bind-gives (lend W e.signature.gives r) (λ z. guard (may_end W B k e.signature) (lpush e.signature.gives e.left)) q h in
      let y = guard-gives (may_end W B k e.signature) (lpush e.signature.gives e.left) q x.2 in
      same_reach (lpush e.signature.gives e.left) q y.1

  handle-reach :
      (C : Scope R) (k : Kind) (e : Entered R) (hs : Handlers) (r q : Stack R) → handle W B C k e hs r ≡ Some q → q.unreached ≡ e.left.unreached
  handle-reach C k e (last_handler h b) r q i =
      let x = bind-gives (lcatch W B (deeper k e C) h e r)
      (λ vs. check W B (deeper (handler_kind h) e C) b (starting vs) >>= lshut W B (handler_kind h) e) q i in
      let y = bind-gives (check W B (deeper (handler_kind h) e C) b (starting x.0)) (lshut W B (handler_kind h) e) q x.2 in
      shut-reach (handler_kind h) e y.0 q y.2
  handle-reach C k e (catch_before n b hs) r q i =
      let x = bind-gives (lcatch W B (deeper k e C) (a_catch n) e r)
      (λ vs. check W B (deeper legacy_catch_kind e C) b (starting vs) >>= handle W B C legacy_catch_kind e hs) q i in
      let y = bind-gives (check W B (deeper legacy_catch_kind e C) b (starting x.0)) (handle W B C legacy_catch_kind e hs) q x.2 in
      handle-reach C legacy_catch_kind e hs y.0 q y.2

  -- behind one of them
  then_done : (C : Scope R) (o : Option (Stack R)) (q : Stack R) → (o >>= check W B C done) ≡ Some q → o ≡ Some q
  then_done C None q e = e
  then_done C (Some y) q e = e

  pub enclosing-reach :
      (C : Scope R) (o : Opening) (b : Code) (p q : Stack R) → check W B C (enclosing o b done) p ≡ Some q → q.unreached ≡ p.unreached
  enclosing-reach C o b p q h =
      let x = bind-gives (lenter W B C o p)
      (λ e. (check W B (deeper (kind_of o) e C) b (fresh e.signature) >>= lshut W B (kind_of o) e) >>= check W B C done) q h in
      let y = bind-gives (check W B (deeper (kind_of o) x.0 C) b (fresh x.0.signature)) (lshut W B (kind_of o) x.0) q
      (then_done C (check W B (deeper (kind_of o) x.0 C) b (fresh x.0.signature) >>= lshut W B (kind_of o) x.0) q x.2) in
      shut-reach (kind_of o) x.0 y.0 q y.2 ∙ enter-reach C o p x.0 x.1

  pub choosing-reach :
      (C : Scope R) (g : Block ℕ) (b d : Code) (p q : Stack R) → check W B C (choosing_between g b d done) p ≡ Some q → q.unreached ≡ p.unreached
  choosing-reach C g b d p q h =
      let x = bind-gives (lenter W B C (an_if g) p) (λ e. (check W B (deeper if_kind e C) b (fresh e.signature) >>= lend W e.signature.gives)
      >>= λ z. (check W B (deeper else_kind e C) d (fresh e.signature) >>= lshut W B else_kind e) >>= check W B C done) q h in
      let w = bind-gives (check W B (deeper if_kind x.0 C) b (fresh x.0.signature) >>= lend W x.0.signature.gives)
      (λ z. (check W B (deeper else_kind x.0 C) d (fresh x.0.signature) >>= lshut W B else_kind x.0) >>= check W B C done) q x.2 in
      let y = bind-gives (check W B (deeper else_kind x.0 C) d (fresh x.0.signature)) (lshut W B else_kind x.0) q
      (then_done C (check W B (deeper else_kind x.0 C) d (fresh x.0.signature) >>= lshut W B else_kind x.0) q w.2) in
      shut-reach else_kind x.0 y.0 q y.2 ∙ enter-reach C (an_if g) p x.0 x.1

  pub handling-reach :
      (C : Scope R) (g : Block ℕ) (b : Code) (hs : Handlers) (p q : Stack R) → check W B C (handling g b hs done) p ≡ Some q
      → q.unreached ≡ p.unreached
  handling-reach C g b hs p q h =
      let x = bind-gives (lenter W B C (a_try g) p)
      (λ e. (check W B (deeper legacy_try_kind e C) b (fresh e.signature) >>= handle W B C legacy_try_kind e hs) >>= check W B C done) q h in
      let y = bind-gives (check W B (deeper legacy_try_kind x.0 C) b (fresh x.0.signature)) (handle W B C legacy_try_kind x.0 hs) q
      (then_done C (check W B (deeper legacy_try_kind x.0 C) b (fresh x.0.signature) >>= handle W B C legacy_try_kind x.0 hs) q x.2) in
      handle-reach C legacy_try_kind x.0 hs y.0 q y.2 ∙ enter-reach C (a_try g) p x.0 x.1

  pub delegating-reach :
      (C : Scope R) (l : ℕ) (g : Block ℕ) (b : Code) (p q : Stack R) → check W B C (delegating_to l g b done) p ≡ Some q → q.unreached ≡ p.unreached
  delegating-reach C l g b p q h =
      let x = bind-gives (lenter W B C (a_try g) p)
      (λ e. (check W B (deeper legacy_try_kind e C) b (fresh e.signature) >>= ldelegate W B C l e) >>= check W B C done) q h in
      let y = bind-gives (check W B (deeper legacy_try_kind x.0 C) b (fresh x.0.signature)) (ldelegate W B C l x.0) q
      (then_done C (check W B (deeper legacy_try_kind x.0 C) b (fresh x.0.signature) >>= ldelegate W B C l x.0) q x.2) in
      let z = bind-gives (lrun W B (deeper legacy_try_kind x.0 C) (checked (legacy_checks []) []) y.0)
      (λ r. guard (is_some (slice_get C.labels l)) r >>= lshut W B legacy_try_kind x.0) q y.2 in
      let w = bind-gives (guard (is_some (slice_get C.labels l)) z.0) (lshut W B legacy_try_kind x.0) q z.2 in
      shut-reach legacy_try_kind x.0 w.0 q w.2 ∙ enter-reach C (a_try g) p x.0 x.1
