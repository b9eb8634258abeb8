-- What the machine accepts is written for structured code.
use Rattle.std.proofs.Common.{◌≡◌, refl, sym, ap, subst, ◌∙◌, ℕ, true, false, ◌&&◌, is_some, slice_get, List, [], ◌∷◌, ◌++◌, Option, Some, append_assoc}
use Rattle.wasm_spec_steps.specs.WasmSpecRules.WasmSpec.Syntax.{Val}
use Rattle.wasm_spec_steps.specs.WasmSpecRules.WasmSpec.MatchingTests.{World}
use Rattle.wasm_spec_steps.specs.WasmSpecRules.Attempts.{◌>>=◌, guard}
use Rattle.wasm_spec_steps.specs.WasmSpecRules.Signatures.{Signature}
use Rattle.wasm_operators.specs.Control.{Block}
use Rattle.wasm_operators.specs.Instructions.{Instruction}
use Rattle.wasm_spec_steps.specs.Bodies.{Surroundings}
use Rattle.wasm_spec_steps.specs.Machine.{Operand, Kind, block_kind, else_kind, is_if, is_try, may_catch, push_frame, State}
use Rattle.wasm_spec_steps.specs.Actions.{leave, find_outside}
use Rattle.wasm_spec_steps.specs.Shapes.{legacy_checks, shape_of}
use Rattle.wasm_spec_steps.specs.Meanings.{block_signature, run}
use Rattle.wasm_spec_steps.specs.Steps.{actions_of, checked, is_finished, start, steps_in}
use Rattle.wasm_spec_instructions.specs.Scopes.{types_in}
use Rattle.wasm_spec_instructions.specs.Code.{Opening, a_block, a_loop, an_if, a_try, a_try_table, Handler, a_catch, a_catch_all, Code, done, simply, enclosing, choosing_between, handling, delegating_to, Handlers, last_handler, catch_before, written, handler_written, delegate_, else_, end_, flatten, flatten_handlers, is_simple, IsProper, AreProper, kind_of, handler_kind, handler_checks, handler_operands}
use Rattle.wasm_spec_instructions.proofs.Attempts.{no, the_same, absent, bind-gives, guard-gives, and-both}
use Rattle.wasm_spec_instructions.proofs.Views.{View, is_plain, is_opening, is_else, is_end, is_handler, is_delegate, view}
use Rattle.wasm_spec_instructions.proofs.FrameMachine.{Stack, stack, Entered, starting, fresh, deeper, lend, lrun, lenter, lshut}
use Rattle.wasm_spec_instructions.proofs.InnermostFrames.{Place, at, scope, run-at, opened, IsSigned, inside, over, left_by, turned_by, leave-any, leave-at, turn-any, turn-at, caught_by, entered-over, checked-at}
use Rattle.wasm_spec_instructions.proofs.Structure.{simple-within, opening-at, lenter-is_signed, handler-any, delegate-at}
use Rattle.wasm_spec_instructions.proofs.OutermostFrame.{outer, left}

-- code up to the end of a frame, and what is behind it
data Ends (Q : List (Instruction ℕ) → Type 0) (k : Kind) (rest : List (Instruction ℕ)) : Type 0 where
  at_end : (after : List (Instruction ℕ)) → rest ≡ end_ ∷ after → Q after → Ends Q k rest
  at_else : (d : Code) (after : List (Instruction ℕ)) → IsProper d → is_if k ≡ true → rest ≡ else_ ∷ (flatten d ++ (end_ ∷ after)) → Q after → Ends Q k rest
  at_handlers : (hs : Handlers) (after : List (Instruction ℕ)) → AreProper hs → may_catch k ≡ true → rest ≡ flatten_handlers hs ++ (end_ ∷ after) → Q after → Ends Q k rest
  at_delegate : (l : ℕ) (after : List (Instruction ℕ)) → is_try k ≡ true → rest ≡ delegate_ l ∷ after → Q after → Ends Q k rest

record Closed (k : Kind) (Q : List (Instruction ℕ) → Type 0) (ops : List (Instruction ℕ)) : Type 0 where
  code : Code
  rest : List (Instruction ℕ)
  proper : IsProper code
  is : ops ≡ flatten code ++ rest
  ends : Ends Q k rest

-- one instruction before others
module _ (k : Kind) (Q : List (Instruction ℕ) → Type 0) where
  put_simple : (i : Instruction ℕ) (ops : List (Instruction ℕ)) → is_simple (shape_of i) ≡ true → Closed k Q ops → Closed k Q (i ∷ ops)
  put_simple i ops e c = record { code = simply i c.code; rest = c.rest; proper = (e, c.proper); is = ap (λ (xs : List (Instruction ℕ)). i ∷ xs) c.is; ends = c.ends }

  -- a block with its inside, and what follows
  put_block : (o : Opening) (ops : List (Instruction ℕ)) (c : Closed (kind_of o) (Closed k Q) ops) (after : List (Instruction ℕ)) → c.rest ≡ end_ ∷ after → Closed k Q after → Closed k Q (written o ∷ ops)
  put_block o ops c after e h = record {
    code = enclosing o c.code h.code;
    rest = h.rest;
    proper = (c.proper, h.proper);
    is =
        ap (λ (xs : List (Instruction ℕ)). written o ∷ xs)
        (c.is ∙ ap (λ (xs : List (Instruction ℕ)). flatten c.code ++ xs) (e ∙ ap (λ (xs : List (Instruction ℕ)). end_ ∷ xs) h.is) ∙ sym (append_assoc (flatten c.code) (end_ ∷ flatten h.code) h.rest));
    ends = h.ends;
  }

  put_both :
      (b : Block ℕ) (ops : List (Instruction ℕ)) (c : Closed (kind_of (an_if b)) (Closed k Q) ops) (d : Code) (after : List (Instruction ℕ)) → IsProper d
      → c.rest ≡ else_ ∷ (flatten d ++ (end_ ∷ after)) → Closed k Q after → Closed k Q (written (an_if b) ∷ ops)
  put_both b ops c d after w e h = record {
    code = choosing_between b c.code d h.code;
    rest = h.rest;
    proper = (c.proper, w, h.proper);
    is =
        ap (λ (xs : List (Instruction ℕ)). written (an_if b) ∷ xs)
        (c.is
        ∙ ap (λ (xs : List (Instruction ℕ)). flatten c.code ++ xs)
        (e ∙ ap (λ (xs : List (Instruction ℕ)). else_ ∷ (flatten d ++ (end_ ∷ xs))) h.is ∙ ap (λ (xs : List (Instruction ℕ)). else_ ∷ xs) (sym (append_assoc (flatten d) (end_ ∷ flatten h.code) h.rest)))
        ∙ sym (append_assoc (flatten c.code) (else_ ∷ (flatten d ++ (end_ ∷ flatten h.code))) h.rest));
    ends = h.ends;
  }

  put_try :
      (b : Block ℕ) (ops : List (Instruction ℕ)) (c : Closed (kind_of (a_try b)) (Closed k Q) ops) (hs : Handlers) (after : List (Instruction ℕ)) → AreProper hs
      → c.rest ≡ flatten_handlers hs ++ (end_ ∷ after) → Closed k Q after → Closed k Q (written (a_try b) ∷ ops)
  put_try b ops c hs after w e h = record {
    code = handling b c.code hs h.code;
    rest = h.rest;
    proper = (c.proper, w, h.proper);
    is =
        ap (λ (xs : List (Instruction ℕ)). written (a_try b) ∷ xs)
        (c.is
        ∙ ap (λ (xs : List (Instruction ℕ)). flatten c.code ++ xs)
        (e ∙ ap (λ (xs : List (Instruction ℕ)). flatten_handlers hs ++ (end_ ∷ xs)) h.is ∙ sym (append_assoc (flatten_handlers hs) (end_ ∷ flatten h.code) h.rest))
        ∙ sym (append_assoc (flatten c.code) (flatten_handlers hs ++ (end_ ∷ flatten h.code)) h.rest));
    ends = h.ends;
  }

  put_delegated :
      (b : Block ℕ) (ops : List (Instruction ℕ)) (c : Closed (kind_of (a_try b)) (Closed k Q) ops) (l : ℕ) (after : List (Instruction ℕ))
      → c.rest ≡ delegate_ l ∷ after → Closed k Q after → Closed k Q (written (a_try b) ∷ ops)
  put_delegated b ops c l after e h = record {
    code = delegating_to l b c.code h.code;
    rest = h.rest;
    proper = (c.proper, h.proper);
    is =
        ap (λ (xs : List (Instruction ℕ)). written (a_try b) ∷ xs)
        (c.is
        ∙ ap (λ (xs : List (Instruction ℕ)). flatten c.code ++ xs) (e ∙ ap (λ (xs : List (Instruction ℕ)). delegate_ l ∷ xs) h.is)
        ∙ sym (append_assoc (flatten c.code) (delegate_ l ∷ flatten h.code) h.rest));
    ends = h.ends;
  }

  put_opening : (o : Opening) (ops : List (Instruction ℕ)) → Closed (kind_of o) (Closed k Q) ops → Closed k Q (written o ∷ ops)
  put_opening o ops c = go o c c.ends
    where
      go : (o : Opening) (c : Closed (kind_of o) (Closed k Q) ops) → Ends (Closed k Q) (kind_of o) c.rest → Closed k Q (written o ∷ ops)
      go o c (at_end after e h) = put_block o ops c after e h
      go (an_if b) c (at_else d after w t e h) = put_both b ops c d after w e h
      go (a_try b) c (at_handlers hs after w t e h) = put_try b ops c hs after w e h
      go (a_try b) c (at_delegate l after t e h) = put_delegated b ops c l after e h
      go (a_block b) c (at_else d after w t e h) = no t
      go (a_loop b) c (at_else d after w t e h) = no t
      go (a_try b) c (at_else d after w t e h) = no t
      go (a_try_table b cs) c (at_else d after w t e h) = no t
      go (a_block b) c (at_handlers hs after w t e h) = no t
      go (a_loop b) c (at_handlers hs after w t e h) = no t
      go (an_if b) c (at_handlers hs after w t e h) = no t
      go (a_try_table b cs) c (at_handlers hs after w t e h) = no t
      go (a_block b) c (at_delegate l after t e h) = no t
      go (a_loop b) c (at_delegate l after t e h) = no t
      go (an_if b) c (at_delegate l after t e h) = no t
      go (a_try_table b cs) c (at_delegate l after t e h) = no t

  put_else : (ops : List (Instruction ℕ)) → is_if k ≡ true → Closed else_kind Q ops → Closed k Q (else_ ∷ ops)
  put_else ops t c = go c.ends
    where
      go : Ends Q else_kind c.rest → Closed k Q (else_ ∷ ops)
      go (at_end after e h) = record {
        code = done;
        rest = else_ ∷ ops;
        proper = tt;
        is = refl;
        ends = at_else c.code after c.proper t (ap (λ (xs : List (Instruction ℕ)). else_ ∷ xs) (c.is ∙ ap (λ (xs : List (Instruction ℕ)). flatten c.code ++ xs) e)) h;
      }
      go (at_else d after w u e h) = no u
      go (at_handlers hs after w u e h) = no u
      go (at_delegate l after u e h) = no u

  put_handler : (x : Handler) (ops : List (Instruction ℕ)) → may_catch k ≡ true → Closed (handler_kind x) Q ops → Closed k Q (handler_written x ∷ ops)
  put_handler x ops t c = record { code = done; rest = handler_written x ∷ ops; proper = tt; is = refl; ends = go x c c.ends }
    where
      go : (x : Handler) (c : Closed (handler_kind x) Q ops) → Ends Q (handler_kind x) c.rest → Ends Q k (handler_written x ∷ ops)
      go x c (at_end after e h) =
          at_handlers (last_handler x c.code) after c.proper t (ap (λ (xs : List (Instruction ℕ)). handler_written x ∷ xs) (c.is ∙ ap (λ (xs : List (Instruction ℕ)). flatten c.code ++ xs) e)) h
      go (a_catch n) c (at_handlers hs after w u e h) =
          at_handlers (catch_before n c.code hs) after (c.proper, w) t
          (ap (λ (xs : List (Instruction ℕ)). handler_written (a_catch n) ∷ xs)
          (c.is ∙ ap (λ (xs : List (Instruction ℕ)). flatten c.code ++ xs) e ∙ sym (append_assoc (flatten c.code) (flatten_handlers hs) (end_ ∷ after))))
          h
      go a_catch_all c (at_handlers hs after w u e h) = no u
      go (a_catch n) c (at_else d after w u e h) = no u
      go a_catch_all c (at_else d after w u e h) = no u
      go (a_catch n) c (at_delegate l after u e h) = no u
      go a_catch_all c (at_delegate l after u e h) = no u

  put_delegate : (l : ℕ) (ops : List (Instruction ℕ)) → is_try k ≡ true → Q ops → Closed k Q (delegate_ l ∷ ops)
  put_delegate l ops t h = record { code = done; rest = delegate_ l ∷ ops; proper = tt; is = refl; ends = at_delegate l ops t refl h }

  put_end : (ops : List (Instruction ℕ)) → Q ops → Closed k Q (end_ ∷ ops)
  put_end ops h = record { code = done; rest = end_ ∷ ops; proper = tt; is = refl; ends = at_end ops refl h }

-- nothing follows
abbrev Nothing : List (Instruction ℕ) → Type 0
Nothing ops = ops ≡ []

module _ {R : Type 0} (W : World R) (B : Surroundings R) where
  -- a frame and those around it
  data Around : Place W B → Type 0 where
    outermost : (b : Block R) (g : Signature R) (e : block_signature W B b ≡ Some g) → Around (outer W B b g e)
    within : (P : Place W B) (k : Kind) (e : Entered R) (h : IsSigned W B e) → Around P → Around (inside P k e h)

  Closes : {P : Place W B} → Around P → List (Instruction ℕ) → Type 0
  Closes (outermost b g e) ops = Closed block_kind Nothing ops
  Closes (within P k e h a) ops = Closed k (Closes a) ops

  put_simply : {P : Place W B} (a : Around P) (i : Instruction ℕ) (ops : List (Instruction ℕ)) → is_simple (shape_of i) ≡ true → Closes a ops → Closes a (i ∷ ops)
  unfolding Closes
  put_simply (outermost b g e) i ops w c = put_simple block_kind Nothing i ops w c
  put_simply (within P k e h a) i ops w c = put_simple k (Closes a) i ops w c

  put_opened : {P : Place W B} (a : Around P) (o : Opening) (ops : List (Instruction ℕ)) (e : Entered R) (h : IsSigned W B e) → Closes (within P (kind_of o) e h a) ops → Closes a (written o ∷ ops)
  unfolding Closes
  put_opened (outermost b g f) o ops e h c = put_opening block_kind Nothing o ops c
  put_opened (within P k f i a) o ops e h c = put_opening k (Closes a) o ops c

  -- behind the outermost frame
  none_after : (ops : List (Instruction ℕ)) (os : List (Operand R)) (is : List ℕ) (t : State R) → steps_in W B ops (record { operands = os; frames = []; inits = is }) ≡ Some t → ops ≡ []
  none_after [] os is t e = refl
  none_after (op ∷ ops) os is t e = absurd (absent t e)

  -- one instruction, where what follows it is code
  abbrev Goes : List (Instruction ℕ) → State R → Type 0
  Goes ops t = (Q : Place W B) (b : Around Q) (q : Stack R) → steps_in W B ops (at Q q) ≡ Some t → Closes b ops

  end-closes : (ops : List (Instruction ℕ)) (P : Place W B) (a : Around P) (p : Stack R) (t : State R) → steps_in W B (end_ ∷ ops) (at P p) ≡ Some t → Goes ops t → Closes a (end_ ∷ ops)
  unfolding Closes
  end-closes ops P (outermost b g e) p t i ih =
      let f = ap (λ (o : Option (State R)). (o >>= λ s. Some s) >>= steps_in W B ops) (sym (leave-any (outer W B b g e) p)) ∙ i in
      let x = bind-gives ((lend W g.gives p >>= λ z. left_by (outer W B b g e) g (over (outer W B b g e))) >>= λ s. Some s) (steps_in W B ops) t f in
      let y = bind-gives (lend W g.gives p >>= λ z. left_by (outer W B b g e) g (over (outer W B b g e))) (λ s. Some s) x.0 x.1 in
      let z = bind-gives (lend W g.gives p) (λ z. left_by (outer W B b g e) g (over (outer W B b g e))) y.0 y.1 in
      let k : left W B b g e ≡ x.0 = the_same (left W B b g e) y.0 z.2 ∙ the_same y.0 x.0 y.2 in
      put_end block_kind Nothing ops (none_after ops (left W B b g e).operands (left W B b g e).inits t (subst (λ (s : State R). steps_in W B ops s ≡ Some t) (sym k) x.2))
  end-closes ops P (within Q k e h a) p t i ih =
      let f = ap (λ (o : Option (State R)). (o >>= λ s. Some s) >>= steps_in W B ops) (sym (leave-at Q k e h p)) ∙ i in
      let x = bind-gives ((lshut W B k e p >>= λ z. Some (at Q z)) >>= λ s. Some s) (steps_in W B ops) t f in
      let y = bind-gives (lshut W B k e p >>= λ z. Some (at Q z)) (λ s. Some s) x.0 x.1 in
      let z = bind-gives (lshut W B k e p) (λ z. Some (at Q z)) y.0 y.1 in
      put_end k (Closes a) ops (ih Q a z.0 (subst (λ (s : State R). steps_in W B ops s ≡ Some t) (sym (the_same (at Q z.0) y.0 z.2 ∙ the_same y.0 x.0 y.2)) x.2))

  else-closes : (ops : List (Instruction ℕ)) (P : Place W B) (a : Around P) (p : Stack R) (t : State R) → steps_in W B (else_ ∷ ops) (at P p) ≡ Some t → Goes ops t → Closes a (else_ ∷ ops)
  unfolding Closes
  else-closes ops P (outermost b g e) p t i ih =
      let f = ap (λ (o : Option (State R)). (o >>= λ s. Some s) >>= steps_in W B ops) (sym (turn-any (outer W B b g e) p)) ∙ i in
      let x = bind-gives ((lend W g.gives p >>= λ z. turned_by (outer W B b g e) g (over (outer W B b g e))) >>= λ s. Some s) (steps_in W B ops) t f in
      let y = bind-gives (lend W g.gives p >>= λ z. turned_by (outer W B b g e) g (over (outer W B b g e))) (λ s. Some s) x.0 x.1 in
      let z = bind-gives (lend W g.gives p) (λ z. turned_by (outer W B b g e) g (over (outer W B b g e))) y.0 y.1 in
      absurd (absent y.0 z.2)
  else-closes ops P (within Q k e h a) p t i ih =
      let f = ap (λ (o : Option (State R)). (o >>= λ s. Some s) >>= steps_in W B ops) (sym (turn-at Q k e h p)) ∙ i in
      let x = bind-gives ((lend W e.signature.gives p >>= λ z. guard (is_if k) (opened Q else_kind e)) >>= λ s. Some s) (steps_in W B ops) t f in
      let y = bind-gives (lend W e.signature.gives p >>= λ z. guard (is_if k) (opened Q else_kind e)) (λ s. Some s) x.0 x.1 in
      let z = bind-gives (lend W e.signature.gives p) (λ z. guard (is_if k) (opened Q else_kind e)) y.0 y.1 in
      let g = guard-gives (is_if k) (opened Q else_kind e) y.0 z.2 in
      put_else k (Closes a) ops g.0
      (ih (inside Q else_kind e h) (within Q else_kind e h a) (fresh e.signature) (subst (λ (s : State R). steps_in W B ops s ≡ Some t) (sym (g.1 ∙ the_same y.0 x.0 y.2)) x.2))

  -- what a handler leads to
  record Turned (P : Place W B) (x : Handler) (ops : List (Instruction ℕ)) (t : State R) : Type 0 where
    operands : List (Val R)
    state : State R
    turns : caught_by P (handler_kind x) operands (over P) ≡ Some state
    goes : steps_in W B ops state ≡ Some t

  turned : (x : Handler) (ops : List (Instruction ℕ)) (P : Place W B) (p : Stack R) (t : State R) → steps_in W B (handler_written x ∷ ops) (at P p) ≡ Some t → Turned P x ops t
  turned x ops P p t i =
      let f = ap (λ (o : Option (State R)). o >>= steps_in W B ops) (sym (handler-any P x p)) ∙ i in
      let a = bind-gives (lrun W B (scope P) (checked (handler_checks x) []) p
      >>= λ q. (types_in W B P.labels P.returns (handler_operands x) >>= λ vs. lend W P.signature.gives q >>= λ z. caught_by P (handler_kind x) vs (over P)) >>= λ s. Some s) (steps_in W B ops) t f in
      let b = bind-gives (lrun W B (scope P) (checked (handler_checks x) []) p)
      (λ q. (types_in W B P.labels P.returns (handler_operands x) >>= λ vs. lend W P.signature.gives q >>= λ z. caught_by P (handler_kind x) vs (over P)) >>= λ s. Some s) a.0 a.1 in
      let c = bind-gives (types_in W B P.labels P.returns (handler_operands x) >>= λ vs. lend W P.signature.gives b.0 >>= λ z. caught_by P (handler_kind x) vs (over P)) (λ s. Some s) a.0 b.2 in
      let d = bind-gives (types_in W B P.labels P.returns (handler_operands x)) (λ vs. lend W P.signature.gives b.0 >>= λ z. caught_by P (handler_kind x) vs (over P)) c.0 c.1 in
      let k = bind-gives (lend W P.signature.gives b.0) (λ z. caught_by P (handler_kind x) d.0 (over P)) c.0 d.2 in
      record { operands = d.0; state = c.0; turns = k.2; goes = subst (λ (s : State R). steps_in W B ops s ≡ Some t) (sym (the_same c.0 a.0 c.2)) a.2 }

  handler-closes : (x : Handler) (ops : List (Instruction ℕ)) (P : Place W B) (a : Around P) (p : Stack R) (t : State R) → steps_in W B (handler_written x ∷ ops) (at P p) ≡ Some t → Goes ops t → Closes a (handler_written x ∷ ops)
  unfolding Closes
  handler-closes x ops P (outermost b g e) p t i ih = let f : Turned (outer W B b g e) x ops t = turned x ops (outer W B b g e) p t i in absurd (absent f.state f.turns)
  handler-closes x ops P (within Q k e h a) p t i ih =
      let f : Turned (inside Q k e h) x ops t = turned x ops (inside Q k e h) p t i in
      let g = guard-gives (may_catch k) (push_frame (handler_kind x) e.block f.operands (over (inside Q k e h))) f.state f.turns in
      put_handler k (Closes a) x ops g.0
      (ih (inside Q (handler_kind x) e h) (within Q (handler_kind x) e h a) (starting f.operands)
      (subst (λ (s : State R). steps_in W B ops s ≡ Some t) (sym (sym (entered-over Q (handler_kind x) e.block e.signature e.left f.operands) ∙ g.1)) f.goes))

  delegate-closes : (l : ℕ) (ops : List (Instruction ℕ)) (P : Place W B) (a : Around P) (p : Stack R) (t : State R) → steps_in W B (delegate_ l ∷ ops) (at P p) ≡ Some t → Goes ops t → Closes a (delegate_ l ∷ ops)
  unfolding Closes
  delegate-closes l ops P (outermost b g e) p t i ih =
      let f = ap (λ (o : Option (State R)). o >>= steps_in W B ops) (sym (checked-at (outer W B b g e) (legacy_checks []) (find_outside l ∷ leave ∷ []) p)) ∙ i in
      let x = bind-gives (lrun W B (scope (outer W B b g e)) (checked (legacy_checks []) []) p >>= λ q. run W B (find_outside l ∷ leave ∷ []) (at (outer W B b g e) q)) (steps_in W B ops) t f in
      let y = bind-gives (lrun W B (scope (outer W B b g e)) (checked (legacy_checks []) []) p) (λ q. run W B (find_outside l ∷ leave ∷ []) (at (outer W B b g e) q)) x.0 x.1 in
      absurd (absent x.0 y.2)
  delegate-closes l ops P (within Q k e h a) p t i ih =
      let f = ap (λ (o : Option (State R)). o >>= steps_in W B ops) (sym (delegate-at Q k e h l p)) ∙ i in
      let x = bind-gives ((lrun W B (deeper k e (scope Q)) (checked (legacy_checks []) []) p >>= λ q. guard (is_try k && is_some (slice_get Q.labels l)) q >>= lshut W B k e) >>= λ z. Some (at Q z)) (steps_in W B ops) t f in
      let y = bind-gives (lrun W B (deeper k e (scope Q)) (checked (legacy_checks []) []) p >>= λ q. guard (is_try k && is_some (slice_get Q.labels l)) q >>= lshut W B k e) (λ z. Some (at Q z)) x.0 x.1 in
      let z = bind-gives (lrun W B (deeper k e (scope Q)) (checked (legacy_checks []) []) p) (λ q. guard (is_try k && is_some (slice_get Q.labels l)) q >>= lshut W B k e) y.0 y.1 in
      let w = bind-gives (guard (is_try k && is_some (slice_get Q.labels l)) z.0) (lshut W B k e) y.0 z.2 in
      let g = guard-gives (is_try k && is_some (slice_get Q.labels l)) z.0 w.0 w.1 in
      put_delegate k (Closes a) l ops (and-both (is_try k) (is_some (slice_get Q.labels l)) g.0).0
      (ih Q a y.0 (subst (λ (s : State R). steps_in W B ops s ≡ Some t) (sym (the_same (at Q y.0) x.0 y.2)) x.2))

  step-closes : (op : Instruction ℕ) → View op → (ops : List (Instruction ℕ)) (P : Place W B) (a : Around P) (p : Stack R) (t : State R) → steps_in W B (op ∷ ops) (at P p) ≡ Some t → Goes ops t → Closes a (op ∷ ops)
  step-closes op (is_plain w) ops P a p t i ih =
      let f = ap (λ (o : Option (State R)). o >>= steps_in W B ops) (sym (run-at P (actions_of (shape_of op)) p (simple-within P (shape_of op) w))) ∙ i in
      let x = bind-gives (lrun W B (scope P) (actions_of (shape_of op)) p >>= λ q. Some (at P q)) (steps_in W B ops) t f in
      let y = bind-gives (lrun W B (scope P) (actions_of (shape_of op)) p) (λ q. Some (at P q)) x.0 x.1 in
      put_simply a op ops w (ih P a y.0 (subst (λ (s : State R). steps_in W B ops s ≡ Some t) (sym (the_same (at P y.0) x.0 y.2)) x.2))
  step-closes op (is_opening o) ops P a p t i ih =
      let f = ap (λ (o : Option (State R)). o >>= steps_in W B ops) (sym (opening-at P o p)) ∙ i in
      let x = bind-gives (lenter W B (scope P) o p >>= λ e. Some (opened P (kind_of o) e)) (steps_in W B ops) t f in
      let y = bind-gives (lenter W B (scope P) o p) (λ e. Some (opened P (kind_of o) e)) x.0 x.1 in
      let h = lenter-is_signed P o p y.0 y.1 in
      put_opened a o ops y.0 h (ih (inside P (kind_of o) y.0 h) (within P (kind_of o) y.0 h a) (fresh y.0.signature) (subst (λ (s : State R). steps_in W B ops s ≡ Some t) (sym (the_same (opened P (kind_of o) y.0) x.0 y.2)) x.2))
  step-closes op is_else ops P a p t i ih = else-closes ops P a p t i ih
  step-closes op is_end ops P a p t i ih = end-closes ops P a p t i ih
  step-closes op (is_handler x) ops P a p t i ih = handler-closes x ops P a p t i ih
  step-closes op (is_delegate l) ops P a p t i ih = delegate-closes l ops P a p t i ih

  closes : (ops : List (Instruction ℕ)) (t : State R) → is_finished t ≡ true → Goes ops t
  closes [] t h P a p e = no (ap is_finished (the_same (at P p) t e) ∙ h)
  closes (op ∷ ops) t h P a p e = step-closes op (view op) ops P a p t e (closes ops t h)

  unclosed : (ops : List (Instruction ℕ)) → Closed block_kind Nothing ops → (c : Code) × IsProper c × (ops ≡ flatten c ++ (end_ ∷ []))
  unclosed ops c = go c.ends
    where
      go : Ends Nothing block_kind c.rest → (d : Code) × IsProper d × (ops ≡ flatten d ++ (end_ ∷ []))
      go (at_end after e h) = (c.code, c.proper, c.is ∙ ap (λ (xs : List (Instruction ℕ)). flatten c.code ++ xs) (e ∙ ap (λ (xs : List (Instruction ℕ)). end_ ∷ xs) h))
      go (at_else d after w t e h) = no t
      go (at_handlers hs after w t e h) = no t
      go (at_delegate l after t e h) = no t

  -- what leads from the start to the end is some code and an `end`
  pub parsed :
      (b : Block R) (g : Signature R) → block_signature W B b ≡ Some g → (ops : List (Instruction ℕ)) (t : State R) → steps_in W B ops (start b) ≡ Some t → is_finished t ≡ true
      → (c : Code) × IsProper c × (ops ≡ flatten c ++ (end_ ∷ []))
  unfolding Closes
  parsed b g e ops t i h = unclosed ops (closes ops t h (outer W B b g e) (outermost b g e) (stack [] false []) i)
