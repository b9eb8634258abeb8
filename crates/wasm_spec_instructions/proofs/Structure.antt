-- The machine on the flat list is the machine on the structured code that it is written for.
use Rattle.std.proofs.Common.{◌≡◌, refl, sym, ap, ◌∙◌, ℕ, Bool, true, false, List, [], ◌∷◌, ◌++◌, Option, Some, None, is_some, ◌&&◌, slice_get, append_assoc}
use Rattle.wasm_spec_steps.specs.WasmSpecRules.WasmSpec.MatchingTests.{World}
use Rattle.wasm_spec_steps.specs.WasmSpecRules.WasmSpec.Syntax.{Val}
use Rattle.wasm_spec_steps.specs.WasmSpecRules.Attempts.{◌>>=◌, guard}
use Rattle.wasm_operators.specs.Control.{Block}
use Rattle.wasm_operators.specs.Instructions.{Instruction}
use Rattle.wasm_spec_steps.specs.Bodies.{Surroundings}
use Rattle.wasm_spec_steps.specs.Machine.{Kind, if_kind, else_kind, legacy_try_kind, legacy_catch_kind, is_try, may_catch, State}
use Rattle.wasm_spec_steps.specs.Actions.{OperandTypes, Check, Action, need, take, give, take_reference, take_comparable, make_non_null, stop, leave, take_below, convert, describe, enter, turn_to_catch, find_outside, find_caught, branch_on_null}
use Rattle.wasm_spec_steps.specs.Shapes.{Shape, plain, ending, opening, closing, turning, dropping, choosing, never, testing_null, asserting_non_null, branching_on_null, branching_on_non_null, branching_by_table, setting, giving_back, measuring, comparing, converting, describing, shape_of, catching, delegating, rethrowing, legacy_checks}
use Rattle.wasm_spec_steps.specs.Meanings.{label_by, act, run}
use Rattle.wasm_spec_steps.specs.Steps.{actions_of, checked, step_in, steps_in}
use Rattle.wasm_spec_instructions.specs.Scopes.{types_in}
use Rattle.wasm_spec_instructions.specs.Code.{Opening, a_block, a_loop, an_if, a_try, a_try_table, Handler, a_catch, a_catch_all, Code, done, simply, enclosing, choosing_between, handling, delegating_to, Handlers, last_handler, catch_before, written, handler_written, delegate_, else_, end_, flatten, flatten_handlers, is_simple, IsProper, AreProper, kind_of, block_of, checks_of, condition_of, handler_kind, handler_checks, handler_operands}
use Rattle.wasm_spec_instructions.proofs.Attempts.{no, bind-bind, bind-like, bind-gives}
use Rattle.wasm_spec_instructions.proofs.FrameMachine.{Stack, Entered, starting, fresh, lend, lact, lrun, lenter_block, lenter, lshut, deeper, lcatch, ldelegate, check, handle}
use Rattle.wasm_spec_instructions.proofs.InnermostFrames.{chain, Place, at, scope, AllWithin, act-at, checked-at, run-at, opened_over, opened, IsSigned, inside, enter-at, lenter-signed, leave-at, turn-at, over, caught_by, catch-any, catch-at}

opening-shape : (o : Opening) → shape_of (written o) ≡ opening (checks_of o) (condition_of o) (kind_of o) (block_of o)
opening-shape (a_block b) = refl
opening-shape (a_loop b) = refl
opening-shape (an_if b) = refl
opening-shape (a_try b) = refl
opening-shape (a_try_table b cs) = refl

handler-shape : (x : Handler) → shape_of (handler_written x) ≡ catching (handler_checks x) (handler_operands x) (handler_kind x)
handler-shape (a_catch x) = refl
handler-shape a_catch_all = refl

-- a guard that holds, behind two attempts
passed-guard :
    {X Y Z : Type 0} (o : Option X) (p : Option Y) (f : X → Z) (b : Bool) → b ≡ true
    → ((o >>= λ x. p >>= λ y. guard b (f x)) >>= λ z. Some z) ≡ ((o >>= λ x. p >>= λ y. Some x) >>= λ x. Some (f x))
passed-guard None p f b e = refl
passed-guard (Some x) None f b e = refl
passed-guard (Some x) (Some y) f true e = refl
passed-guard (Some x) (Some y) f false e = no e

module _ {R : Type 0} {W : World R} {B : Surroundings R} where
  -- simple shapes keep the frames
  all_within : (P : Place W B) (cs : List Check) (as_ : List Action) → AllWithin P as_ → AllWithin P (checked cs as_)
  all_within P [] as_ h = h
  all_within P (c ∷ cs) as_ h = (tt, all_within P cs as_ h)

  pub simple-within : (P : Place W B) (s : Shape) → is_simple s ≡ true → AllWithin P (actions_of s)
  simple-within P (plain cs t u) e = all_within P cs (take t ∷ give u ∷ []) (tt, (tt, tt))
  simple-within P (ending cs t) e = all_within P cs (take t ∷ stop ∷ []) (tt, (tt, tt))
  simple-within P dropping e = (tt, tt)
  simple-within P choosing e = (tt, (tt, tt))
  simple-within P never e = (tt, tt)
  simple-within P (testing_null cs) e = all_within P cs (take_reference ∷ give _ ∷ []) (tt, (tt, tt))
  simple-within P (asserting_non_null cs) e = all_within P cs (make_non_null ∷ []) (tt, tt)
  simple-within P (branching_on_null cs l) e = all_within P cs (branch_on_null l ∷ []) (tt, tt)
  simple-within P (branching_on_non_null cs l) e = all_within P cs (make_non_null ∷ take _ ∷ take _ ∷ give _ ∷ []) (tt, (tt, (tt, (tt, tt))))
  simple-within P (branching_by_table ls l) e = (tt, (tt, tt))
  simple-within P (setting x) e = (tt, (tt, tt))
  simple-within P (giving_back x) e = (tt, (tt, (tt, tt)))
  simple-within P (measuring cs k t) e = all_within P cs (take_below k ∷ give t ∷ []) (tt, (tt, tt))
  simple-within P (comparing cs t) e = all_within P cs (take_comparable ∷ give t ∷ []) (tt, (tt, tt))
  simple-within P (converting cs j k) e = all_within P cs (convert j k ∷ []) (tt, tt)
  simple-within P (describing cs n) e = all_within P cs (describe n ∷ []) (tt, tt)
  simple-within P (opening cs t k b) e = no e
  simple-within P closing e = no e
  simple-within P turning e = no e
  simple-within P (catching cs t k) e = no e
  simple-within P (delegating cs l) e = no e
  simple-within P (rethrowing cs l) e = all_within P cs (find_caught l ∷ stop ∷ []) (tt, (tt, tt))

  -- a block is entered
  open-at :
      (P : Place W B) (k : Kind) (b : Block ℕ) (t : OperandTypes) (cs : List Check) (p : Stack R)
      → run W B (checked cs (take t ∷ enter k b ∷ [])) (at P p) ≡ ((lrun W B (scope P) (checked cs (take t ∷ [])) p >>= lenter_block W B b) >>= λ e. Some (opened P k e))
  open-at P k b t [] p =
      chain (act W B (take t) (at P p)) (lact W B (scope P) (take t) p) (at P) (run W B (enter k b ∷ [])) (lenter_block W B b) (opened P k) (act-at P (take t) p tt)
      (λ q. (λ i. enter-at P k b q i >>= λ s. Some s) ∙ bind-bind (lenter_block W B b q) (λ e. Some (opened P k e)) (λ s. Some s))
      ∙ (λ i. sym (bind-bind (lact W B (scope P) (take t) p) (λ q. Some q) (lenter_block W B b)) i >>= λ e. Some (opened P k e))
  open-at P k b t (c ∷ cs) p =
      chain (act W B (need c) (at P p)) (lact W B (scope P) (need c) p) (at P) (run W B (checked cs (take t ∷ enter k b ∷ []))) (λ q. lrun W B (scope P) (checked cs (take t ∷ [])) q >>= lenter_block W B b) (opened P k)
      (act-at P (need c) p tt) (λ q. open-at P k b t cs q)
      ∙ (λ i. sym (bind-bind (lact W B (scope P) (need c) p) (lrun W B (scope P) (checked cs (take t ∷ []))) (lenter_block W B b)) i >>= λ e. Some (opened P k e))

  pub opening-at : (P : Place W B) (o : Opening) (p : Stack R) → step_in W B (written o) (at P p) ≡ (lenter W B (scope P) o p >>= λ e. Some (opened P (kind_of o) e))
  opening-at P o p = ap (λ (s : Shape). run W B (actions_of s) (at P p)) (opening-shape o) ∙ open-at P (kind_of o) (block_of o) (condition_of o) (checks_of o) p

  pub lenter-is_signed : (P : Place W B) (o : Opening) (p : Stack R) (e : Entered R) → lenter W B (scope P) o p ≡ Some e → IsSigned W B e
  lenter-is_signed P o p e h =
      let x = bind-gives (lrun W B (scope P) (checked (checks_of o) (take (condition_of o) ∷ [])) p) (lenter_block W B (block_of o)) e h in
      lenter-signed W B (block_of o) x.0 e x.2

  abbrev Bridged : Place W B → Code → Type 0
  Bridged P c = (n : List (Instruction ℕ)) (r : Stack R) → steps_in W B (flatten c ++ n) (at P r) ≡ (check W B (scope P) c r >>= λ z. steps_in W B n (at P z))

  -- what follows what was checked
  abbrev go_on : Place W B → List (Instruction ℕ) → Stack R → Option (State R)
  go_on P n z = steps_in W B n (at P z)

  then_end :
      (P : Place W B) (k : Kind) (e : Entered R) (h : IsSigned W B e) (n : List (Instruction ℕ)) (r : Stack R)
      → steps_in W B (end_ ∷ n) (at (inside P k e h) r) ≡ (lshut W B k e r >>= go_on P n)
  then_end P k e h n r =
      (λ i. (leave-at P k e h r i >>= λ s. Some s) >>= steps_in W B n)
      ∙ (λ i. bind-bind (lshut W B k e r) (λ z. Some (at P z)) (λ s. Some s) i >>= steps_in W B n)
      ∙ bind-bind (lshut W B k e r) (λ z. Some (at P z)) (steps_in W B n)

  -- a block, up to its end and behind it
  bracket :
      (P : Place W B) (k : Kind) (e : Entered R) (h : IsSigned W B e) (b c : Code) (more : List (Instruction ℕ)) (r : Stack R)
      → Bridged (inside P k e h) b → Bridged P c
      → steps_in W B (flatten b ++ (end_ ∷ (flatten c ++ more))) (at (inside P k e h) r)
      ≡ (((check W B (deeper k e (scope P)) b r >>= lshut W B k e) >>= check W B (scope P) c) >>= go_on P more)
  bracket P k e h b c more r hb hc =
      hb (end_ ∷ (flatten c ++ more)) r
      ∙ (λ i. check W B (deeper k e (scope P)) b r >>= λ z. then_end P k e h (flatten c ++ more) z i)
      ∙ sym (bind-bind (check W B (deeper k e (scope P)) b r) (lshut W B k e) (go_on P (flatten c ++ more)))
      ∙ (λ i. (check W B (deeper k e (scope P)) b r >>= lshut W B k e) >>= λ z. hc more z i)
      ∙ sym (bind-bind (check W B (deeper k e (scope P)) b r >>= lshut W B k e) (check W B (scope P) c) (go_on P more))

  -- the two halves of an `if`
  then_else :
      (P : Place W B) (e : Entered R) (h : IsSigned W B e) (n : List (Instruction ℕ)) (r : Stack R)
      → steps_in W B (else_ ∷ n) (at (inside P if_kind e h) r) ≡ (lend W e.signature.gives r >>= λ z. steps_in W B n (opened P else_kind e))
  then_else P e h n r =
      (λ i. (turn-at P if_kind e h r i >>= λ s. Some s) >>= steps_in W B n)
      ∙ (λ i. bind-bind (lend W e.signature.gives r) (λ z. Some (opened P else_kind e)) (λ s. Some s) i >>= steps_in W B n)
      ∙ bind-bind (lend W e.signature.gives r) (λ z. Some (opened P else_kind e)) (steps_in W B n)

  halves :
      (P : Place W B) (e : Entered R) (h : IsSigned W B e) (b d c : Code) (more : List (Instruction ℕ)) (r : Stack R)
      → Bridged (inside P if_kind e h) b → Bridged (inside P else_kind e h) d → Bridged P c
      → steps_in W B (flatten b ++ (else_ ∷ (flatten d ++ (end_ ∷ (flatten c ++ more))))) (at (inside P if_kind e h) r)
      ≡ (((check W B (deeper if_kind e (scope P)) b r >>= lend W e.signature.gives)
      >>= λ z. (check W B (deeper else_kind e (scope P)) d (fresh e.signature) >>= lshut W B else_kind e) >>= check W B (scope P) c) >>= go_on P more)
  halves P e h b d c more r hb hd hc =
      hb (else_ ∷ (flatten d ++ (end_ ∷ (flatten c ++ more)))) r
      ∙ (λ i. check W B (deeper if_kind e (scope P)) b r >>= λ z. then_else P e h (flatten d ++ (end_ ∷ (flatten c ++ more))) z i)
      ∙ sym (bind-bind (check W B (deeper if_kind e (scope P)) b r) (lend W e.signature.gives) (λ z. steps_in W B (flatten d ++ (end_ ∷ (flatten c ++ more))) (opened P else_kind e)))
      ∙ (λ i. (check W B (deeper if_kind e (scope P)) b r >>= lend W e.signature.gives) >>= λ z. bracket P else_kind e h d c more (fresh e.signature) hd hc i)
      ∙ sym (bind-bind (check W B (deeper if_kind e (scope P)) b r >>= lend W e.signature.gives) (λ z. (check W B (deeper else_kind e (scope P)) d (fresh e.signature) >>= lshut W B else_kind e) >>= check W B (scope P) c) (go_on P more))

  -- an opening, and what follows it
  behind_opening :
      (P : Place W B) (o : Opening) (p : Stack R) (n more : List (Instruction ℕ)) (f : Entered R → Option (Stack R))
      → ((e : Entered R) (h : IsSigned W B e) → steps_in W B n (at (inside P (kind_of o) e h) (fresh e.signature)) ≡ (f e >>= go_on P more))
      → steps_in W B (written o ∷ n) (at P p) ≡ ((lenter W B (scope P) o p >>= f) >>= go_on P more)
  behind_opening P o p n more f h =
      (λ i. opening-at P o p i >>= steps_in W B n)
      ∙ bind-bind (lenter W B (scope P) o p) (λ e. Some (opened P (kind_of o) e)) (steps_in W B n)
      ∙ bind-like (lenter W B (scope P) o p) (λ e. steps_in W B n (opened P (kind_of o) e)) (λ e. f e >>= go_on P more) (λ e x. h e (lenter-is_signed P o p e x))
      ∙ sym (bind-bind (lenter W B (scope P) o p) f (go_on P more))

  -- a handler, anywhere
  pub handler-any :
      (P : Place W B) (x : Handler) (r : Stack R)
      → step_in W B (handler_written x) (at P r)
      ≡ (lrun W B (scope P) (checked (handler_checks x) []) r
      >>= λ q. (types_in W B P.labels P.returns (handler_operands x) >>= λ vs. lend W P.signature.gives q >>= λ z. caught_by P (handler_kind x) vs (over P)) >>= λ s. Some s)
  handler-any P x r =
      ap (λ (s : Shape). run W B (actions_of s) (at P r)) (handler-shape x)
      ∙ checked-at P (handler_checks x) (turn_to_catch (handler_operands x) (handler_kind x) ∷ []) r
      ∙ (λ i. lrun W B (scope P) (checked (handler_checks x) []) r >>= λ q. catch-any P (handler_operands x) (handler_kind x) q i >>= λ s. Some s)

  -- and where one may follow
  abbrev found : Place W B → Kind → Entered R → Handler → Option (List (Val R))
  found P k e x = types_in W B (label_by k e.signature ∷ P.labels) P.returns (handler_operands x)

  pub handler-at :
      (P : Place W B) (k : Kind) (e : Entered R) (h : IsSigned W B e) (x : Handler) (r : Stack R) → may_catch k ≡ true
      → step_in W B (handler_written x) (at (inside P k e h) r) ≡ (lcatch W B (deeper k e (scope P)) x e r >>= λ vs. Some (opened_over P (handler_kind x) e vs))
  handler-at P k e h x r t =
      ap (λ (s : Shape). run W B (actions_of s) (at (inside P k e h) r)) (handler-shape x)
      ∙ checked-at (inside P k e h) (handler_checks x) (turn_to_catch (handler_operands x) (handler_kind x) ∷ []) r
      ∙ (λ i. lrun W B (scope (inside P k e h)) (checked (handler_checks x) []) r >>= λ q. catch-at P k e h (handler_operands x) (handler_kind x) q i >>= λ s. Some s)
      ∙ (λ i. lrun W B (scope (inside P k e h)) (checked (handler_checks x) []) r
      >>= λ q. passed-guard (found P k e x) (lend W e.signature.gives q) (opened_over P (handler_kind x) e) (may_catch k) t i)
      ∙ sym (bind-bind (lrun W B (scope (inside P k e h)) (checked (handler_checks x) []) r) (λ q. found P k e x >>= λ vs. lend W e.signature.gives q >>= λ z. Some vs) (λ vs. Some (opened_over P (handler_kind x) e vs)))

  then_handler :
      (P : Place W B) (k : Kind) (e : Entered R) (h : IsSigned W B e) (x : Handler) (n : List (Instruction ℕ)) (r : Stack R) → may_catch k ≡ true
      → steps_in W B (handler_written x ∷ n) (at (inside P k e h) r) ≡ (lcatch W B (deeper k e (scope P)) x e r >>= λ vs. steps_in W B n (opened_over P (handler_kind x) e vs))
  then_handler P k e h x n r t =
      (λ i. handler-at P k e h x r t i >>= steps_in W B n)
      ∙ bind-bind (lcatch W B (deeper k e (scope P)) x e r) (λ vs. Some (opened_over P (handler_kind x) e vs)) (steps_in W B n)

  -- a `delegate`
  pub delegate-at :
      (P : Place W B) (k : Kind) (e : Entered R) (h : IsSigned W B e) (l : ℕ) (r : Stack R)
      → step_in W B (delegate_ l) (at (inside P k e h) r)
      ≡ ((lrun W B (deeper k e (scope P)) (checked (legacy_checks []) []) r >>= λ q. guard (is_try k && is_some (slice_get P.labels l)) q >>= lshut W B k e) >>= λ z. Some (at P z))
  delegate-at P k e h l r =
      checked-at (inside P k e h) (legacy_checks []) (find_outside l ∷ leave ∷ []) r
      ∙ (λ i. lrun W B (scope (inside P k e h)) (checked (legacy_checks []) []) r >>= λ q. leaving q i)
      ∙ sym (bind-bind (lrun W B (scope (inside P k e h)) (checked (legacy_checks []) []) r) (λ q. guard (is_try k && is_some (slice_get P.labels l)) q >>= lshut W B k e) (λ z. Some (at P z)))
    where
      either : (b : Bool) (q : Stack R) → (guard b (at (inside P k e h) q) >>= λ s. act W B leave s >>= λ t. Some t) ≡ ((guard b q >>= lshut W B k e) >>= λ z. Some (at P z))
      either true q = (λ i. leave-at P k e h q i >>= λ s. Some s) ∙ bind-bind (lshut W B k e q) (λ z. Some (at P z)) (λ s. Some s)
      either false q = refl

      leaving : (q : Stack R) → run W B (find_outside l ∷ leave ∷ []) (at (inside P k e h) q) ≡ ((guard (is_try k && is_some (slice_get P.labels l)) q >>= lshut W B k e) >>= λ z. Some (at P z))
      leaving q = (λ i. guard (is_try k && P.is_there e.left.unreached l i) (at (inside P k e h) q) >>= λ s. act W B leave s >>= λ t. Some t) ∙ either (is_try k && is_some (slice_get P.labels l)) q

-- handlers, and the `end` behind them
module _ {R : Type 0} (W : World R) (B : Surroundings R) where
  abbrev BridgedHandlers : Handlers → Type 0
  BridgedHandlers hs =
      (P : Place W B) (k : Kind) (e : Entered R) (h : IsSigned W B e) → may_catch k ≡ true → (n : List (Instruction ℕ)) (r : Stack R)
      → steps_in W B (flatten_handlers hs ++ (end_ ∷ n)) (at (inside P k e h) r) ≡ (handle W B (scope P) k e hs r >>= go_on P n)

module _ {R : Type 0} {W : World R} {B : Surroundings R} where
  one_handler :
      (x : Handler) (b : Code) (P : Place W B) (k : Kind) (e : Entered R) (h : IsSigned W B e) → may_catch k ≡ true → Bridged (inside P (handler_kind x) e h) b → (n : List (Instruction ℕ)) (r : Stack R)
      → steps_in W B (handler_written x ∷ (flatten b ++ (end_ ∷ n))) (at (inside P k e h) r) ≡ (handle W B (scope P) k e (last_handler x b) r >>= go_on P n)
  one_handler x b P k e h t hb n r =
      then_handler P k e h x (flatten b ++ (end_ ∷ n)) r t
      ∙ (λ i. lcatch W B (deeper k e (scope P)) x e r >>= λ vs. hb (end_ ∷ n) (starting vs) i)
      ∙ (λ i. lcatch W B (deeper k e (scope P)) x e r >>= λ vs. check W B (deeper (handler_kind x) e (scope P)) b (starting vs) >>= λ z. then_end P (handler_kind x) e h n z i)
      ∙ (λ i. lcatch W B (deeper k e (scope P)) x e r >>= λ vs. sym (bind-bind (check W B (deeper (handler_kind x) e (scope P)) b (starting vs)) (lshut W B (handler_kind x) e) (go_on P n)) i)
      ∙ sym (bind-bind (lcatch W B (deeper k e (scope P)) x e r) (λ vs. check W B (deeper (handler_kind x) e (scope P)) b (starting vs) >>= lshut W B (handler_kind x) e) (go_on P n))

  more_handlers :
      (x : ℕ) (b : Code) (hs : Handlers) (P : Place W B) (k : Kind) (e : Entered R) (h : IsSigned W B e) → may_catch k ≡ true → Bridged (inside P legacy_catch_kind e h) b → BridgedHandlers W B hs
      → (n : List (Instruction ℕ)) (r : Stack R)
      → steps_in W B (handler_written (a_catch x) ∷ (flatten b ++ (flatten_handlers hs ++ (end_ ∷ n)))) (at (inside P k e h) r) ≡ (handle W B (scope P) k e (catch_before x b hs) r >>= go_on P n)
  more_handlers x b hs P k e h t hb hh n r =
      then_handler P k e h (a_catch x) (flatten b ++ (flatten_handlers hs ++ (end_ ∷ n))) r t
      ∙ (λ i. lcatch W B (deeper k e (scope P)) (a_catch x) e r >>= λ vs. hb (flatten_handlers hs ++ (end_ ∷ n)) (starting vs) i)
      ∙ (λ i. lcatch W B (deeper k e (scope P)) (a_catch x) e r >>= λ vs. check W B (deeper legacy_catch_kind e (scope P)) b (starting vs) >>= λ z. hh P legacy_catch_kind e h refl n z i)
      ∙ (λ i. lcatch W B (deeper k e (scope P)) (a_catch x) e r
      >>= λ vs. sym (bind-bind (check W B (deeper legacy_catch_kind e (scope P)) b (starting vs)) (handle W B (scope P) legacy_catch_kind e hs) (go_on P n)) i)
      ∙ sym (bind-bind (lcatch W B (deeper k e (scope P)) (a_catch x) e r) (λ vs. check W B (deeper legacy_catch_kind e (scope P)) b (starting vs) >>= handle W B (scope P) legacy_catch_kind e hs) (go_on P n))

  tried :
      (P : Place W B) (e : Entered R) (h : IsSigned W B e) (b : Code) (hs : Handlers) (c : Code) (more : List (Instruction ℕ)) (r : Stack R)
      → Bridged (inside P legacy_try_kind e h) b → BridgedHandlers W B hs → Bridged P c
      → steps_in W B (flatten b ++ (flatten_handlers hs ++ (end_ ∷ (flatten c ++ more)))) (at (inside P legacy_try_kind e h) r)
      ≡ (((check W B (deeper legacy_try_kind e (scope P)) b r >>= handle W B (scope P) legacy_try_kind e hs) >>= check W B (scope P) c) >>= go_on P more)
  tried P e h b hs c more r hb hh hc =
      hb (flatten_handlers hs ++ (end_ ∷ (flatten c ++ more))) r
      ∙ (λ i. check W B (deeper legacy_try_kind e (scope P)) b r >>= λ z. hh P legacy_try_kind e h refl (flatten c ++ more) z i)
      ∙ sym (bind-bind (check W B (deeper legacy_try_kind e (scope P)) b r) (handle W B (scope P) legacy_try_kind e hs) (go_on P (flatten c ++ more)))
      ∙ (λ i. (check W B (deeper legacy_try_kind e (scope P)) b r >>= handle W B (scope P) legacy_try_kind e hs) >>= λ z. hc more z i)
      ∙ sym (bind-bind (check W B (deeper legacy_try_kind e (scope P)) b r >>= handle W B (scope P) legacy_try_kind e hs) (check W B (scope P) c) (go_on P more))

  -- a `try` with its `delegate`
  delegated :
      (P : Place W B) (e : Entered R) (h : IsSigned W B e) (l : ℕ) (b c : Code) (more : List (Instruction ℕ)) (r : Stack R)
      → Bridged (inside P legacy_try_kind e h) b → Bridged P c
      → steps_in W B (flatten b ++ (delegate_ l ∷ (flatten c ++ more))) (at (inside P legacy_try_kind e h) r)
      ≡ (((check W B (deeper legacy_try_kind e (scope P)) b r >>= ldelegate W B (scope P) l e) >>= check W B (scope P) c) >>= go_on P more)
  delegated P e h l b c more r hb hc =
      hb (delegate_ l ∷ (flatten c ++ more)) r
      ∙ (λ i. check W B (deeper legacy_try_kind e (scope P)) b r >>= λ z. delegate-at P legacy_try_kind e h l z i >>= steps_in W B (flatten c ++ more))
      ∙ (λ i. check W B (deeper legacy_try_kind e (scope P)) b r >>= λ z. bind-bind (ldelegate W B (scope P) l e z) (λ y. Some (at P y)) (steps_in W B (flatten c ++ more)) i)
      ∙ sym (bind-bind (check W B (deeper legacy_try_kind e (scope P)) b r) (ldelegate W B (scope P) l e) (go_on P (flatten c ++ more)))
      ∙ (λ i. (check W B (deeper legacy_try_kind e (scope P)) b r >>= ldelegate W B (scope P) l e) >>= λ z. hc more z i)
      ∙ sym (bind-bind (check W B (deeper legacy_try_kind e (scope P)) b r >>= ldelegate W B (scope P) l e) (check W B (scope P) c) (go_on P more))

  mutual
    pub steps-at : (c : Code) (P : Place W B) → IsProper c → Bridged P c
    steps-at done P w more p = refl
    steps-at (simply i c) P w more p =
        (λ j. run-at P (actions_of (shape_of i)) p (simple-within P (shape_of i) w.0) j >>= steps_in W B (flatten c ++ more))
        ∙ bind-bind (lrun W B (scope P) (actions_of (shape_of i)) p) (λ q. Some (at P q)) (steps_in W B (flatten c ++ more))
        ∙ (λ j. lrun W B (scope P) (actions_of (shape_of i)) p >>= λ q. steps-at c P w.1 more q j)
        ∙ sym (bind-bind (lrun W B (scope P) (actions_of (shape_of i)) p) (check W B (scope P) c) (go_on P more))
    steps-at (enclosing o b c) P w more p =
        behind_opening P o p ((flatten b ++ (end_ ∷ flatten c)) ++ more) more (λ e. (check W B (deeper (kind_of o) e (scope P)) b (fresh e.signature) >>= lshut W B (kind_of o) e) >>= check W B (scope P) c)
        (λ e h.
        (λ i. steps_in W B (append_assoc (flatten b) (end_ ∷ flatten c) more i) (at (inside P (kind_of o) e h) (fresh e.signature)))
        ∙ bracket P (kind_of o) e h b c more (fresh e.signature) (steps-at b (inside P (kind_of o) e h) w.0) (steps-at c P w.1))
    steps-at (choosing_between g b d c) P w more p =
        behind_opening P (an_if g) p ((flatten b ++ (else_ ∷ (flatten d ++ (end_ ∷ flatten c)))) ++ more) more
        (λ e. (check W B (deeper if_kind e (scope P)) b (fresh e.signature) >>= lend W e.signature.gives)
        >>= λ z. (check W B (deeper else_kind e (scope P)) d (fresh e.signature) >>= lshut W B else_kind e) >>= check W B (scope P) c)
        (λ e h.
        (λ i. steps_in W B (append_assoc (flatten b) (else_ ∷ (flatten d ++ (end_ ∷ flatten c))) more i) (at (inside P if_kind e h) (fresh e.signature)))
        ∙ (λ i. steps_in W B (flatten b ++ (else_ ∷ append_assoc (flatten d) (end_ ∷ flatten c) more i)) (at (inside P if_kind e h) (fresh e.signature)))
        ∙ halves P e h b d c more (fresh e.signature) (steps-at b (inside P if_kind e h) w.0) (steps-at d (inside P else_kind e h) w.1) (steps-at c P w.2))
    steps-at (handling g b hs c) P w more p =
        behind_opening P (a_try g) p ((flatten b ++ (flatten_handlers hs ++ (end_ ∷ flatten c))) ++ more) more
        (λ e. (check W B (deeper legacy_try_kind e (scope P)) b (fresh e.signature) >>= handle W B (scope P) legacy_try_kind e hs) >>= check W B (scope P) c)
        (λ e h.
        (λ i. steps_in W B (append_assoc (flatten b) (flatten_handlers hs ++ (end_ ∷ flatten c)) more i) (at (inside P legacy_try_kind e h) (fresh e.signature)))
        ∙ (λ i. steps_in W B (flatten b ++ append_assoc (flatten_handlers hs) (end_ ∷ flatten c) more i) (at (inside P legacy_try_kind e h) (fresh e.signature)))
        ∙ tried P e h b hs c more (fresh e.signature) (steps-at b (inside P legacy_try_kind e h) w.0) (handlers-at hs w.1) (steps-at c P w.2))
    steps-at (delegating_to l g b c) P w more p =
        behind_opening P (a_try g) p ((flatten b ++ (delegate_ l ∷ flatten c)) ++ more) more
        (λ e. (check W B (deeper legacy_try_kind e (scope P)) b (fresh e.signature) >>= ldelegate W B (scope P) l e) >>= check W B (scope P) c)
        (λ e h.
        (λ i. steps_in W B (append_assoc (flatten b) (delegate_ l ∷ flatten c) more i) (at (inside P legacy_try_kind e h) (fresh e.signature)))
        ∙ delegated P e h l b c more (fresh e.signature) (steps-at b (inside P legacy_try_kind e h) w.0) (steps-at c P w.1))

    handlers-at : (hs : Handlers) → AreProper hs → BridgedHandlers W B hs
    handlers-at (last_handler x b) w P k e h t n r = one_handler x b P k e h t (steps-at b (inside P (handler_kind x) e h) w) n r
    handlers-at (catch_before x b hs) w P k e h t n r =
        (λ i. steps_in W B (handler_written (a_catch x) ∷ append_assoc (flatten b) (flatten_handlers hs) (end_ ∷ n) i) (at (inside P k e h) r))
        ∙ more_handlers x b hs P k e h t (steps-at b (inside P legacy_catch_kind e h) w.0) (handlers-at hs w.1) n r
