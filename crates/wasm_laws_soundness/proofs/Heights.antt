-- Wherever a run of typed code comes, it has as many operands as the validator saw there: by induction on the number of steps, and within it
-- on the typing.
use Rattle.std.proofs.Common.{◌≡◌, refl, sym, ap, subst, ◌∙◌, ◌⊎◌, inl, inr, ℕ, zero, suc, ◌+◌, Bool, true, false, ◌==◌, List, [], ◌∷◌, ◌++◌, append_assoc, append-nil, Option, Some, option_map, length, slice_get, arith, length-append}
use Rattle.wasm_spec_steps.specs.WasmSpecRules.WasmSpec.Syntax.{Val, i32}
use Rattle.wasm_spec_steps.specs.WasmSpecRules.WasmSpec.MatchingTests.{World}
use Rattle.wasm_spec_steps.specs.WasmSpecRules.Attempts.{◌>>=◌, guard}
use Rattle.wasm_spec_steps.specs.WasmSpecRules.Signatures.{Signature}
use Rattle.wasm_operators.specs.Control.{Block}
use Rattle.wasm_operators.specs.Instructions.{Instruction}
use Rattle.wasm_spec_steps.specs.Bodies.{Surroundings}
use Rattle.wasm_spec_steps.specs.Machine.{Operand, Kind, if_kind, else_kind, legacy_try_kind, legacy_catch_kind, may_catch, has_caught, is_if, Frame}
use Rattle.wasm_spec_steps.specs.Machine as machine
use Rattle.wasm_spec_steps.specs.Actions.{of_tag, take}
use Rattle.wasm_spec_steps.specs.Shapes.{shape_of}
use Rattle.wasm_spec_steps.specs.Meanings.{label_by, block_signature, signature_at}
use Rattle.wasm_spec_steps.specs.Steps.{actions_of, checked, steps_in}
use Rattle.wasm_spec_instructions.specs.Code.{Opening, a_block, a_loop, an_if, a_try, a_try_table, Handler, a_catch, a_catch_all, Code, done, simply, enclosing, choosing_between, handling, delegating_to, Handlers, last_handler, catch_before, and_then, is_done, is_one, written, handler_written, else_, end_, delegate_, flatten, flatten_handlers, kind_of, block_of, checks_of, condition_of, handler_kind, handler_checks, handler_operands}
use Rattle.wasm_spec_instructions.specs.ValueTypes.{ValueType, bot, val, vals, Match}
use Rattle.wasm_spec_instructions.specs.Scopes.{Scope, labelled, inside, in_handler, behind as behind_setting, is_set, types_in}
use Rattle.wasm_spec_instructions.specs.Rules.{sets_of, Rule}
use Rattle.wasm_spec_instructions.specs.Sequences.{Opens, Catches, Typed, empty_rule, instruction_rule, block_rule, loop_rule, if_rule, if_else_rule, try_table_rule, try_rule, handling_rule, delegating_rule, sequence_rule, frame_rule, subsumption_rule, Handle, last_rule, before_rule}
use Rattle.wasm_spec_instructions.proofs.Attempts.{no, the_same, bind-gives, bind-at, passes-gives}
use Rattle.wasm_spec_instructions.proofs.FrameMachine.{Stack, stack, Entered, starting, fresh, deeper, entered, taking, signed as signed_at, lenter_block, lenter, lend, lpops, lcatch, lrun, check}
use Rattle.wasm_spec_instructions.proofs.InnermostFrames.{Place, at, frame, scope, IsSigned, inside as inside_of, opened, opened_over, turn-at}
use Rattle.wasm_spec_instructions.proofs.Structure.{opening-at, handler-at, steps-at}
use Rattle.wasm_spec_instructions.proofs.OperandFits.{onto, onto-append, FitsStack, Fits as StackFits, pops-complete, push-complete, end-complete, fits-sub, match-onto, match-itself}
use Rattle.wasm_spec_instructions.proofs.LocalSets.{Covers, covers-more, pops-sets, taken-same}
use Rattle.wasm_spec_instructions.proofs.RuleCompleteness.{over, condition, condition_types, checks-run, handler-holds, handler-finds, Led, check-complete}
use Rattle.wasm_spec_instructions.proofs.ScopeGrowth.{proper}
use Rattle.wasm_spec_instructions.proofs.OutermostFrame.{outer}
use Rattle.wasm_laws_soundness.specs.Values.{Value, i32_value, Instance, Exception, Store, HaveTypes, no_values}
use Rattle.wasm_laws_soundness.specs.Outcomes.{State, Exit, branches, throws, out_of_steps, Outcome, falls_through, leaves, Primitives, cut, with_top, holding, label as labelled_by, next, handed, in_block, in_either, catching}
use Rattle.wasm_laws_soundness.specs.StoreValidity.{Carries, IsTypedException, Fits, branching, returning, throwing, calling, rethrowing, delegating, trapping, waiting, IsPromised, falling, leaving}
use Rattle.wasm_laws_soundness.proofs.Values.{long, above-match, types-append, types-length, types-grow, cut-fits}
use Rattle.wasm_laws_soundness.proofs.Outcomes.{fits-with, fits-now, label-promised}
use Rattle.wasm_laws_soundness.specs.Interpreter.{does, step, with_signature, enter, exec, handle, run}
use Rattle.wasm_laws_soundness.specs.Laws.{AreSound}
use Rattle.wasm_laws_soundness.specs.Heights.{first_of, rest_of, Begins, Takes, by_tag, of_any_tag, Comes, starts, behind, within, turns, within_if, within_then, within_else, within_try, within_delegating, catches, Handles, in_last, in_first, in_later, HeightsAreAsSeen, RunsComeToTheEnd}
use Rattle.wasm_laws_soundness.proofs.SoundnessTheorem.{soundness, heights_are_as_typed}
use Rattle.wasm_laws_soundness.proofs.ReachableCode.{all_go_on, goes_on_or_gives_any, pops-reach, run-reach, enclosing-reach, choosing-reach, handling-reach, delegating-reach}

-- lengths
module _ {R : Type 0} where
  length-onto : (ts ws : List (ValueType R)) → length (onto ts ws) ≡ length ts + length ws
  length-onto [] ws = omega arith
  length-onto (t ∷ ts) ws = let h : length (onto ts (t ∷ ws)) ≡ length ts + length (t ∷ ws) = length-onto ts (t ∷ ws) in omega (arith, h)

  fits-length : (W : World R) (u : Bool) (xs : List (Operand R)) (zs : List (ValueType R)) → u ≡ false → StackFits W u xs zs → length xs ≡ length zs
  fits-length W u [] [] e h = refl
  fits-length W u [] (z ∷ zs) e h = no (sym e ∙ h)
  fits-length W u (x ∷ xs) [] e h = absurd h
  fits-length W u (x ∷ xs) (z ∷ zs) e h = ap suc (fits-length W u xs zs e h.1)

  -- the topmost frame
  abbrev top_unreached : List (Frame R) → Bool
  top_unreached [] = true
  top_unreached (x ∷ xs) = x.unreachable

-- the first instruction of a sequence
is-done : (c : Code) → is_done c ≡ true → done ≡ c
is-done done e = refl
is-done (simply i c) e = no e
is-done (enclosing o b c) e = no e
is-done (choosing_between g b d c) e = no e
is-done (handling g b hs c) e = no e
is-done (delegating_to l g b c) e = no e

first-is : (c d : Code) → is_one c ≡ true → first_of (and_then c d) ≡ c
first-is done d e = no e
first-is (simply i c) d e = ap (λ (z : Code). simply i z) (is-done c e)
first-is (enclosing o b c) d e = ap (λ (z : Code). enclosing o b z) (is-done c e)
first-is (choosing_between g b f c) d e = ap (λ (z : Code). choosing_between g b f z) (is-done c e)
first-is (handling g b hs c) d e = ap (λ (z : Code). handling g b hs z) (is-done c e)
first-is (delegating_to l g b c) d e = ap (λ (z : Code). delegating_to l g b z) (is-done c e)

rest-is : (c d : Code) → is_one c ≡ true → rest_of (and_then c d) ≡ d
rest-is done d e = no e
rest-is (simply i c) d e = ap (λ (z : Code). and_then z d) (sym (is-done c e))
rest-is (enclosing o b c) d e = ap (λ (z : Code). and_then z d) (sym (is-done c e))
rest-is (choosing_between g b f c) d e = ap (λ (z : Code). and_then z d) (sym (is-done c e))
rest-is (handling g b hs c) d e = ap (λ (z : Code). and_then z d) (sym (is-done c e))
rest-is (delegating_to l g b c) d e = ap (λ (z : Code). and_then z d) (sym (is-done c e))

-- how code left
not_falling : {R : Type 0} (x : Exit R) (t : State R) → leaves x ≡ falls_through t → ⊥
not_falling x t e = cc

same_state : {R : Type 0} (s t : State R) → falls_through s ≡ falls_through t → s ≡ t
same_state s t e = cc

module _ {R : Type 0} (W : World R) (P : Primitives R) (B : Surroundings R) (I : Instance) (S : Store R) (C : Scope R) where
  record Branched (t : State R) : Type 0 where
    types : List (Val R)
    left : List (ValueType R)
    there : slice_get C.labels zero ≡ Some types
    fits : Fits W P B I S C.sets (left ++ vals types) t

  record Thrown (t : State R) : Type 0 where
    left : List (ValueType R)
    fits : Fits W P B I S C.sets left t

module _ {R : Type 0} {W : World R} {P : Primitives R} {B : Surroundings R} {I : Instance} {S : Store R} {C : Scope R} {xs : List ℕ} {us : List (ValueType R)} where
  fell : (o : Outcome R) (t : State R) → IsPromised W P B I S C xs us o → o ≡ falls_through t → Fits W P B I S (xs ++ C.sets) us t
  fell o t (falling {s = s} h) e = let w : s ≡ t = cc in subst (λ (z : State R). Fits W P B I S (xs ++ C.sets) us z) w h
  fell o t (leaving m) e = let w : ⊥ = cc in absurd w

  branched : (o : Outcome R) (t : State R) → IsPromised W P B I S C xs us o → o ≡ leaves (branches zero t) → Branched W P B I S C t
  branched o t (leaving (branching {l = l} {s = s} ls left i h)) e =
      let n : l ≡ zero = cc in
      let w : s ≡ t = cc in
      record {
        types = ls;
        left = left;
        there = subst (λ (z : ℕ). slice_get C.labels z ≡ Some ls) n i;
        fits = subst (λ (z : State R). Fits W P B I S C.sets (left ++ vals ls) z) w h;
      }
  branched o t (falling h) e = let w : ⊥ = cc in absurd w
  branched o t (leaving (returning rs left i h)) e = let w : ⊥ = cc in absurd w
  branched o t (leaving (throwing x left i h)) e = let w : ⊥ = cc in absurd w
  branched o t (leaving (calling f g rs i j r m h)) e = let w : ⊥ = cc in absurd w
  branched o t (leaving (rethrowing left i h)) e = let w : ⊥ = cc in absurd w
  branched o t (leaving (delegating ls x left j i h)) e = let w : ⊥ = cc in absurd w
  branched o t (leaving trapping) e = let w : ⊥ = cc in absurd w
  branched o t (leaving waiting) e = let w : ⊥ = cc in absurd w

  thrown : (o : Outcome R) (a : ℕ) (t : State R) → IsPromised W P B I S C xs us o → o ≡ leaves (throws a t) → Thrown W P B I S C t
  thrown o a t (leaving (throwing {s = s} x left i h)) e =
      let w : s ≡ t = cc in record { left = left; fits = subst (λ (z : State R). Fits W P B I S C.sets left z) w h }
  thrown o a t (falling h) e = let w : ⊥ = cc in absurd w
  thrown o a t (leaving (branching ls left i h)) e = let w : ⊥ = cc in absurd w
  thrown o a t (leaving (returning rs left i h)) e = let w : ⊥ = cc in absurd w
  thrown o a t (leaving (calling f g rs i j r m h)) e = let w : ⊥ = cc in absurd w
  thrown o a t (leaving (rethrowing left i h)) e = let w : ⊥ = cc in absurd w
  thrown o a t (leaving (delegating ls x left j i h)) e = let w : ⊥ = cc in absurd w
  thrown o a t (leaving trapping) e = let w : ⊥ = cc in absurd w
  thrown o a t (leaving waiting) e = let w : ⊥ = cc in absurd w

-- where runs come to
module _ {R : Type 0} (W : World R) (P : Primitives R) (B : Surroundings R) (I : Instance) where
  -- within the first instruction, or behind it
  data Split (n : ℕ) (w : Code) (s : State R) (ops : List (Instruction ℕ)) (vs : List (Value R)) (to : State R) : Type 0 where
    in_front : Comes W P B I n (first_of w) s ops vs to → Split n w s ops vs to
    further :
        (t : State R) (more : List (Instruction ℕ)) → run W P n (does B I (first_of w)) s ≡ falls_through t → flatten (first_of w) ++ more ≡ ops
        → Comes W P B I n (rest_of w) t more vs to → Split n w s ops vs to

  split :
      {n : ℕ} {w : Code} {s to : State R} {ops : List (Instruction ℕ)} {vs : List (Value R)} → Comes W P B I n w s ops vs to → Split n w s ops vs to
  split starts = in_front starts
  split (behind {t = t} {ops = more} e f k) = further t more f refl k
  split (within e w k) = in_front (within e w k)
  split (turns w f v k) = in_front (turns w f v k)
  split (within_if e w k) = in_front (within_if e w k)
  split (within_then e w k) = in_front (within_then e w k)
  split (within_else e w k) = in_front (within_else e w k)
  split (within_try w k) = in_front (within_try w k)
  split (within_delegating w k) = in_front (within_delegating w k)
  split (catches w f i k) = in_front (catches w f i k)

module _ {R : Type 0} {W : World R} {P : Primitives R} {B : Surroundings R} {I : Instance} where
  nothing_behind :
      {n : ℕ} {t to : State R} {ops : List (Instruction ℕ)} {vs : List (Value R)} → Comes W P B I n done t ops vs to
      → (ops ≡ []) × (vs ≡ []) × (t ≡ to)
  nothing_behind starts = (refl, refl, refl)
  nothing_behind (behind e f k) = no (sym e)

-- code is its first instruction, and what is behind it
flatten-first : (c : Code) → flatten (first_of c) ++ flatten (rest_of c) ≡ flatten c
flatten-first done = refl
flatten-first (simply i c) = refl
flatten-first (enclosing o b c) = λ i. written o ∷ append_assoc (flatten b) (end_ ∷ []) (flatten c) i
flatten-first (choosing_between g b d c) =
    (λ i. written (an_if g) ∷ append_assoc (flatten b) (else_ ∷ (flatten d ++ (end_ ∷ []))) (flatten c) i)
    ∙ (λ i. written (an_if g) ∷ (flatten b ++ (else_ ∷ append_assoc (flatten d) (end_ ∷ []) (flatten c) i)))
flatten-first (handling g b hs c) =
    (λ i. written (a_try g) ∷ append_assoc (flatten b) (flatten_handlers hs ++ (end_ ∷ [])) (flatten c) i)
    ∙ (λ i. written (a_try g) ∷ (flatten b ++ append_assoc (flatten_handlers hs) (end_ ∷ []) (flatten c) i))
flatten-first (delegating_to l g b c) = λ i. written (a_try g) ∷ append_assoc (flatten b) (delegate_ l ∷ []) (flatten c) i

module _ {R : Type 0} (W : World R) (P : Primitives R) (B : Surroundings R) (I : Instance) where
  -- a run that falls through has come to the end
  abbrev doing : ℕ → Code → State R → Outcome R
  doing n c s = exec W P (run W P n) B I c s

  passing :
      (c : Code) (n : ℕ) (s t : State R) (o : Outcome R) → is_done c ≡ false → doing n (first_of c) s ≡ next (λ u. falls_through u) o
      → ((u : State R) → doing n (rest_of c) u ≡ falls_through t → Comes W P B I (suc n) (rest_of c) u (flatten (rest_of c)) [] t)
      → next (λ u. doing n (rest_of c) u) o ≡ falls_through t → Comes W P B I (suc n) c s (flatten c) [] t
  passing c n s t (falls_through u) d f k e =
      subst (λ (ops : List (Instruction ℕ)). Comes W P B I (suc n) c s ops [] t) (flatten-first c) (behind d f (k u e))
  passing c n s t (leaves x) d f k e = absurd (not_falling x t e)

  to_the_end : (c : Code) (n : ℕ) (s t : State R) → doing n c s ≡ falls_through t → Comes W P B I (suc n) c s (flatten c) [] t
  to_the_end done n s t e = subst (λ (z : State R). Comes W P B I (suc n) done s [] [] z) (same_state s t e) starts
  to_the_end (simply i c) n s t e = passing (simply i c) n s t (step W P (run W P n) B I i s) refl refl (λ u h. to_the_end c n u t h) e
  to_the_end (enclosing o b c) n s t e =
      passing (enclosing o b c) n s t (enter W P (run W P n) B I o b (λ u. doing n b u) s) refl refl (λ u h. to_the_end c n u t h) e
  to_the_end (choosing_between g b d c) n s t e =
      passing (choosing_between g b d c) n s t
      (with_signature W P (run W P n) B I g (λ x. in_either x (λ u. doing n b u) (λ u. doing n d u) s)) refl refl
      (λ u h. to_the_end c n u t h) e
  to_the_end (handling g b hs c) n s t e =
      passing (handling g b hs c) n s t
      (with_signature W P (run W P n) B I g
      (λ x. with_top (length x.takes) s.operands
      (λ below top. catching (λ a u y. handle W P (run W P n) B I hs (length x.gives) below a u y)
      (labelled_by falls_through (length x.gives) below (doing n b (holding top s)))))) refl refl (λ u h. to_the_end c n u t h) e
  to_the_end (delegating_to l g b c) n s t e =
      passing (delegating_to l g b c) n s t (handed l (with_signature W P (run W P n) B I g (λ x. in_block x (λ u. doing n b u) s))) refl refl
      (λ u h. to_the_end c n u t h) e

  at_the_end : (c : Code) (n : ℕ) (s t : State R) → run W P n (does B I c) s ≡ falls_through t → Comes W P B I n c s (flatten c) [] t
  at_the_end c zero s t e = absurd (not_falling out_of_steps t e)
  at_the_end c (suc n) s t e = to_the_end c n s t e

pub runs_come_to_the_end : (R : Type 0) → RunsComeToTheEnd R
runs_come_to_the_end R W P B I c n s t e = at_the_end W P B I c n s t e

-- what the validator has at a place
module _ {R : Type 0} {W : World R} {B : Surroundings R} where
  record Seen (L : Place W B) (p : Stack R) (ops : List (Instruction ℕ)) (n m : ℕ) : Type 0 where
    state : machine.State R
    top : Frame R
    outside : List (Frame R)
    seen : steps_in W B ops (at L p) ≡ Some state
    height : length state.operands ≡ length L.base + n + m
    begins : top.height ≡ length L.base + n
    frames : state.frames ≡ top ∷ outside
    reached : top.unreachable ≡ false

  -- at the start
  here : (L : Place W B) (p : Stack R) (n : ℕ) → p.unreached ≡ false → length p.items ≡ n → Seen L p [] 0 n
  here L p n u e =
      let h : length (p.items ++ L.base) ≡ length p.items + length L.base = length-append p.items L.base in
      record {
        state = at L p;
        top = frame L p.unreached;
        outside = L.below;
        seen = refl;
        height = omega (arith, h, e);
        begins = omega arith;
        frames = refl;
        reached = u;
      }

  -- seen from outside of the block around it, or from before other instructions
  outwards :
      (L M : Place W B) (p r : Stack R) (ops more : List (Instruction ℕ)) (m n k : ℕ) → steps_in W B more (at L p) ≡ steps_in W B ops (at M r)
      → length M.base + m ≡ length L.base + n → Seen M r ops m k → Seen L p more n k
  outwards L M p r ops more m n k e l h = record {
    state = h.state;
    top = h.top;
    outside = h.outside;
    seen = e ∙ h.seen;
    height = h.height ∙ ap (λ (z : ℕ). z + k) l;
    begins = h.begins ∙ l;
    frames = h.frames;
    reached = h.reached;
  }

  -- the machine at the end of code, where a run has come to it, goes on
  still_reached :
      (L : Place W B) (p q : Stack R) (ops : List (Instruction ℕ)) (m n : ℕ) → Seen L p ops m n → steps_in W B ops (at L p) ≡ Some (at L q)
      → q.unreached ≡ false
  still_reached L p q ops m n h e =
      let w : at L q ≡ h.state = the_same (at L q) h.state (sym e ∙ h.seen) in
      ap (λ (z : machine.State R). top_unreached z.frames) w ∙ ap top_unreached h.frames ∙ h.reached

  enters :
      (L : Place W B) (o : Opening) (p : Stack R) (e : Entered R) (g : IsSigned W B e) (n : List (Instruction ℕ)) → lenter W B (scope L) o p ≡ Some e
      → steps_in W B (written o ∷ n) (at L p) ≡ steps_in W B n (at (inside_of L (kind_of o) e g) (fresh e.signature))
  enters L o p e g n h =
      (λ i. opening-at L o p i >>= steps_in W B n) ∙ (λ i. (h i >>= λ x. Some (opened L (kind_of o) x)) >>= steps_in W B n)

module _ {R : Type 0} (W : World R) (P : Primitives R) (a : AreSound W P) (B : Surroundings R) (I : Instance) where
  -- an opening, by the machine
  record Opened (D : Scope R) (L : Place W B) (o : Opening) (g : Signature R) (p : Stack R) (ws : List (ValueType R)) : Type 0 where
    block : Block R
    left : Stack R
    signed : block_signature W B block ≡ Some g
    leads : lenter W B (scope L) o p ≡ Some (record { block = block; signature = g; left = left })
    high : length left.items ≡ length ws
    covers : Covers W B D.sets (left.sets ++ L.inits)

  opens :
      (D : Scope R) (L : Place W B) → scope L ≡ over L.inits D → (o : Opening) (g : Signature R) → Opens W B D o g
      → (p : Stack R) (ws : List (ValueType R))
      → Covers W B D.sets (p.sets ++ L.inits) → FitsStack W p (onto (vals (condition W a.in_order B o)) (onto (vals g.takes) ws))
      → p.unreached ≡ false
      → Opened D L o g p ws
  opens D L q o g h p ws v k u =
      let x = pops-complete W (condition W a.in_order B o) p (onto (vals g.takes) ws) k in
      let r : lrun W B (over L.inits D) (checked (checks_of o) (take (condition_of o) ∷ [])) p ≡ Some x.0 =
      checks-run W a.in_order B D L.inits (checks_of o) (take (condition_of o) ∷ []) p h.holds v
      ∙ bind-at (λ q. Some q) (bind-at (λ vs. lpops W vs p) (condition_types W a.in_order B o D.labels D.returns) x.1) refl in
      let b = pops-complete W g.takes x.0 ws x.2 in
      record {
        block = h.block;
        left = b.0;
        signed = h.signed;
        leads =
            ap (λ (z : Scope R). lenter W B z o p) q
            ∙ bind-at (lenter_block W B (block_of o)) r
            (bind-at (signed_at W B x.0) h.resolves (bind-at (taking W B h.block x.0) h.signed (bind-at (entered h.block g) b.1 refl)));
        high = fits-length W b.0.unreached b.0.items ws
            (pops-reach W g.takes x.0 b.0 b.1 ∙ pops-reach W (condition W a.in_order B o) p x.0 x.1 ∙ u) b.2;
        covers = λ m e.
            subst (λ (is : List ℕ). is_set W B m (is ++ L.inits) ≡ true) (sym (pops-sets W g.takes x.0 b.0 b.1))
            (taken-same W B (over L.inits D) (checks_of o) (condition_of o) p x.0 r m ∙ v m e);
      }

  -- and by a run
  record Begun (S : Store R) (g : Signature R) (rest : List (ValueType R)) (b : Block ℕ) (vs below top : List (Value R))
      (w : Begins W B b vs below top) : Type 0 where
    same : w.signature ≡ g
    under : HaveTypes W S below rest
    above : HaveTypes W S top (vals g.takes)

  begun :
      {S : Store R} (D : Scope R) (o : Opening) (g : Signature R) → Opens W B D o g → (rest : List (ValueType R)) (vs below top : List (Value R))
      → HaveTypes W S vs (rest ++ vals g.takes) → (w : Begins W B (block_of o) vs below top) → Begun S g rest (block_of o) vs below top w
  begun {S = S} D o g h rest vs below top t w =
      let e : w.signature ≡ g = the_same w.signature g (sym w.signed ∙ bind-at (block_signature W B) h.resolves h.signed) in
      let c = cut-fits rest (vals g.takes) (length g.takes) vs (long g.takes) t in
      let k : (c.front, c.top) ≡ (below, top) =
      the_same (c.front, c.top) (below, top) (sym c.is ∙ ap (λ (z : Signature R). cut (length z.takes) vs) (sym e) ∙ w.parts) in
      record {
        same = e;
        under = subst (λ (z : List (Value R) × List (Value R)). HaveTypes W S z.0 rest) k c.below;
        above = subst (λ (z : List (Value R) × List (Value R)). HaveTypes W S z.1 (vals g.takes)) k c.above;
      }

  -- what is to be shown of code, and of handlers behind code in a frame that may have them
  abbrev Heights : ℕ → Scope R → Code → List (ValueType R) → Type 0
  Heights n D c ts =
      (L : Place W B) → scope L ≡ over L.inits D → (p : Stack R) (ws rest : List (ValueType R)) (s : State R) → Covers W B D.sets (p.sets ++ L.inits)
      → FitsStack W p (onto ts ws) → p.unreached ≡ false → length rest ≡ length ws → Fits W P B I s.store D.sets (rest ++ ts) s
      → (ops : List (Instruction ℕ)) (vs : List (Value R)) (to : State R) → Comes W P B I n c s ops vs to
      → Seen L p ops (length vs) (length to.operands)

  abbrev entered_with : Block R → List (Val R) → List (Val R) → Stack R → Entered R
  entered_with b ts us left = record { block = b; signature = record { takes = ts; gives = us }; left = left }

  abbrev HandlersHeights : ℕ → Scope R → Handlers → List (Val R) → Type 0
  HandlersHeights n D hs us =
      (L : Place W B) → scope L ≡ over L.inits D → (k : Kind) → may_catch k ≡ true → (b : Block R) (ts : List (Val R)) (left r : Stack R)
      → (g : IsSigned W B (entered_with b ts us left)) → Covers W B D.sets (left.sets ++ L.inits) → FitsStack W r (onto (vals us) [])
      → (s : State R) (some : List (ValueType R)) → Fits W P B I s.store D.sets some s → (x : ℕ) (e : Exception R)
      → slice_get s.store.exceptions x ≡ Some e
      → (ops : List (Instruction ℕ)) (vs : List (Value R)) (to : State R) → Handles W P B I n hs s e ops vs to
      → Seen (inside_of L k (entered_with b ts us left) g) r ops (length vs) (length to.operands)

  -- within fewer steps
  abbrev Fewer : ℕ → Type 0
  Fewer zero = Unit {0}
  Fewer (suc n) = (D : Scope R) (c : Code) (ts us : List (ValueType R)) (xs : List ℕ) → Typed W B D c ts xs us → Heights n D c ts

  -- lengths of what is there at the start
  start-high :
      (p : Stack R) (ts ws rest : List (ValueType R)) {S : Store R} (vs : List (Value R)) → FitsStack W p (onto ts ws) → p.unreached ≡ false
      → length rest ≡ length ws → HaveTypes W S vs (rest ++ ts) → length p.items ≡ length vs
  start-high p ts ws rest vs h u e t =
      let a : length p.items ≡ length (onto ts ws) = fits-length W p.unreached p.items (onto ts ws) u h in
      let b : length (onto ts ws) ≡ length ts + length ws = length-onto ts ws in
      let c : length vs ≡ length (rest ++ ts) = types-length t in
      let d : length (rest ++ ts) ≡ length rest + length ts = length-append rest ts in
      omega (arith, a, b, c, d, e)

  -- in a block
  deeper-scope :
      (D : Scope R) (L : Place W B) → scope L ≡ over L.inits D → (k : Kind) (e : Entered R) (g : IsSigned W B e)
      → scope (inside_of L k e g) ≡ over (e.left.sets ++ L.inits) (labelled (has_caught k) (label_by k e.signature) D)
  deeper-scope D L q k e g = λ i. record {
    labels = label_by k e.signature ∷ (q i).labels;
    caught = has_caught k ∷ (q i).caught;
    returns = (q i).returns;
    sets = e.left.sets ++ L.inits;
  }

  in-block :
      (n : ℕ) (D : Scope R) (k : Kind) (u : Bool) (c : Code) (us ts : List (Val R)) → has_caught k ≡ u → Heights n (labelled u us D) c (vals ts)
      → (L : Place W B) → scope L ≡ over L.inits D → (e : Entered R) (g : IsSigned W B e) → label_by k e.signature ≡ us
      → Covers W B D.sets (e.left.sets ++ L.inits)
      → (s : State R) → Fits W P B I s.store D.sets (vals ts) s → (ops : List (Instruction ℕ)) (vs : List (Value R)) (to : State R)
      → Comes W P B I n c s ops vs to
      → Seen (inside_of L k e g) (starting ts) ops (length vs) (length to.operands)
  in-block n D k u c us ts z h L q e g l v s f ops vs to m =
      h (inside_of L k e g) (deeper-scope D L q k e g ∙ (λ i. over (e.left.sets ++ L.inits) (labelled (z i) (l i) D))) (starting ts) [] [] s v
      (push-complete W a.in_order false ts [] [] tt) refl refl f ops vs to m

  -- the machine, past code that is typed
  checked_through :
      {D : Scope R} {c : Code} {ts us : List (ValueType R)} {xs : List ℕ} → Typed W B D c ts xs us → (L : Place W B) → scope L ≡ over L.inits D
      → (p : Stack R)
      (zs : List (ValueType R)) (f : Led W a.in_order B D L.inits c p zs xs) (n : List (Instruction ℕ))
      → steps_in W B (flatten c ++ n) (at L p) ≡ steps_in W B n (at L f.end)
  checked_through {c = c} t L q p zs f n =
      steps-at c L (proper W B t) n p
      ∙ (λ i. check W B (q i) c p >>= λ z. steps_in W B n (at L z))
      ∙ (λ i. f.leads i >>= λ z. steps_in W B n (at L z))

  higher :
      (L : Place W B) (left : Stack R) (ws rest : List (ValueType R)) {S : Store R} (below us : List (Value R)) → length left.items ≡ length ws
      → length rest ≡ length ws
      → HaveTypes W S below rest → length (left.items ++ L.base) + length us ≡ length L.base + length (below ++ us)
  higher L left ws rest below us e l t =
      let x : length (left.items ++ L.base) ≡ length left.items + length L.base = length-append left.items L.base in
      let y : length (below ++ us) ≡ length below + length us = length-append below us in
      let z : length below ≡ length rest = types-length t in
      omega (arith, e, l, x, y, z)

  -- a run that enters a block, as the machine does
  entering :
      (n : ℕ) (D : Scope R) (x : Opening) (g : Signature R) (b : Code) → Opens W B D x g
      → Heights n (labelled (has_caught (kind_of x)) (label_by (kind_of x) g) D) b (vals g.takes)
      → (L : Place W B) → scope L ≡ over L.inits D → (p : Stack R) (ws rest : List (ValueType R)) (s : State R) (ts : List (ValueType R))
      → Covers W B D.sets (p.sets ++ L.inits)
      → FitsStack W p (onto (vals (condition W a.in_order B x)) (onto (vals g.takes) ws)) → p.unreached ≡ false → length rest ≡ length ws
      → Fits W P B I s.store D.sets ts s → (vs below top : List (Value R)) → HaveTypes W s.store vs (rest ++ vals g.takes)
      → Begins W B (block_of x) vs below top
      → (ops : List (Instruction ℕ)) (us : List (Value R)) (to : State R) → Comes W P B I n b (holding top s) ops us to
      → Seen L p (written x ∷ ops) (length (below ++ us)) (length to.operands)
  entering n D x g b h ih L q p ws rest s ts v k u l f vs below top t w ops us to m =
      let e : Opened D L x g p ws = opens D L q x g h p ws v k u in
      let y : Entered R = record { block = e.block; signature = g; left = e.left } in
      let z : Begun s.store g rest (block_of x) vs below top w = begun D x g h rest vs below top t w in
      outwards L (inside_of L (kind_of x) y e.signed) p (fresh g) ops (written x ∷ ops) (length us) (length (below ++ us)) (length to.operands)
      (enters L x p y e.signed ops e.leads)
      (higher L e.left ws rest below us e.high l z.under)
      (in-block n D (kind_of x) (has_caught (kind_of x)) b (label_by (kind_of x) g) g.takes refl ih L q y e.signed refl e.covers (holding top s)
      (fits-with W P B I top f z.above) ops us to m)

  -- and one that comes to an `else`
  entering_else :
      (n : ℕ) (D : Scope R) (x : Block ℕ) (g : Signature R) (b d : Code) (xs : List ℕ) → Opens W B D (an_if x) g
      → Typed W B (inside g.gives D) b (vals g.takes) xs (vals g.gives) → Heights n (inside g.gives D) d (vals g.takes)
      → (L : Place W B) → scope L ≡ over L.inits D → (p : Stack R) (ws rest : List (ValueType R)) (s : State R) (ts : List (ValueType R))
      → Covers W B D.sets (p.sets ++ L.inits)
      → FitsStack W p (val i32 ∷ onto (vals g.takes) ws) → p.unreached ≡ false → length rest ≡ length ws
      → Fits W P B I s.store D.sets ts s → (vs below top : List (Value R)) → HaveTypes W s.store vs (rest ++ vals g.takes) → Begins W B x vs below top
      → (ops : List (Instruction ℕ)) (us : List (Value R)) (to : State R) → Comes W P B I n d (holding top s) ops us to
      → Seen L p (written (an_if x) ∷ (flatten b ++ (else_ ∷ ops))) (length (below ++ us)) (length to.operands)
  entering_else n D x g b d xs h tb ih L q p ws rest s ts v k u l f vs below top t w ops us to m =
      let e : Opened D L (an_if x) g p ws = opens D L q (an_if x) g h p ws v k u in
      let y : Entered R = record { block = e.block; signature = g; left = e.left } in
      let z : Begun s.store g rest x vs below top w = begun D (an_if x) g h rest vs below top t w in
      let c = check-complete W a.in_order B tb (e.left.sets ++ L.inits) (fresh g) [] e.covers (push-complete W a.in_order false g.takes [] [] tt) in
      let j = end-complete W g.gives c.end c.fits in
      outwards L (inside_of L else_kind y e.signed) p (fresh g) ops (written (an_if x) ∷ (flatten b ++ (else_ ∷ ops))) (length us)
      (length (below ++ us)) (length to.operands)
      (enters L (an_if x) p y e.signed (flatten b ++ (else_ ∷ ops)) e.leads
      ∙ checked_through tb (inside_of L if_kind y e.signed) (deeper-scope D L q if_kind y e.signed) (fresh g) (onto (vals g.gives) []) c (else_ ∷ ops)
      ∙ (λ i. (turn-at L if_kind y e.signed c.end i >>= λ r. Some r) >>= steps_in W B ops)
      ∙ (λ i. ((j.1 i >>= λ r. guard (is_if if_kind) (opened L else_kind y)) >>= λ r. Some r) >>= steps_in W B ops))
      (higher L e.left ws rest below us e.high l z.under)
      (in-block n D else_kind false d g.gives g.takes refl ih L q y e.signed refl e.covers (holding top s)
      (fits-with W P B I top f z.above) ops us to m)

  -- a further turn of a loop
  turning :
      (n : ℕ) (D : Scope R) (x : Block ℕ) (g : Signature R) (b : Code) (xs : List ℕ) → Opens W B D (a_loop x) g
      → Typed W B (inside g.takes D) b (vals g.takes) xs (vals g.gives) → Heights n D (enclosing (a_loop x) b done) (vals g.takes)
      → (L : Place W B) → scope L ≡ over L.inits D → (p : Stack R) (ws rest : List (ValueType R)) (s : State R)
      → Covers W B D.sets (p.sets ++ L.inits)
      → FitsStack W p (onto (vals g.takes) ws) → p.unreached ≡ false → length rest ≡ length ws → Fits W P B I s.store D.sets (rest ++ vals g.takes) s
      → (t : State R) (below top left again : List (Value R)) → Begins W B x s.operands below top
      → run W P (suc n) (does B I b) (holding top s) ≡ leaves (branches zero t) → Begins W B x t.operands left again
      → (ops : List (Instruction ℕ)) (vs : List (Value R)) (to : State R)
      → Comes W P B I n (enclosing (a_loop x) b done) (holding (below ++ again) t) ops vs to → Seen L p ops (length vs) (length to.operands)
  turning n D x g b xs h tb ih L q p ws rest s v k u l f t below top left again w r w2 ops vs to m =
      let z : Begun s.store g rest x s.operands below top w = begun D (a_loop x) g h rest s.operands below top f.operands w in
      let j = branched (run W P (suc n) (does B I b) (holding top s)) t
      (soundness R W P a B I (inside g.takes D) b (vals g.takes) xs (vals g.gives) tb (suc n) (holding top s) (fits-with W P B I top f z.above)) r in
      let o : HaveTypes W t.store t.operands (j.left ++ vals g.takes) =
      subst (λ (y : List (Val R)). HaveTypes W t.store t.operands (j.left ++ vals y)) (sym (the_same g.takes j.types j.there)) j.fits.operands in
      let y : Begun t.store g j.left x t.operands left again w2 = begun D (a_loop x) g h j.left t.operands left again o w2 in
      ih L q p ws rest (holding (below ++ again) t) v k u l
      (fits-with W P B I (below ++ again) (fits-now W P B I j.fits) (types-append (types-grow j.fits.grown z.under) y.above)) ops vs to m

  -- behind the one instruction that code is
  behind_one :
      {D : Scope R} {c : Code} {ts us : List (ValueType R)} {xs : List ℕ} → Typed W B D c ts xs us → (n : ℕ) (L : Place W B)
      → scope L ≡ over L.inits D
      → (p : Stack R) (ws rest : List (ValueType R)) (s : State R) → length rest ≡ length ws → Fits W P B I s.store D.sets (rest ++ ts) s
      → (f : Led W a.in_order B D L.inits c p (onto us ws) xs) → f.end.unreached ≡ false
      → (t : State R) → run W P n (does B I c) s ≡ falls_through t → (more : List (Instruction ℕ)) (vs : List (Value R)) (to : State R)
      → Comes W P B I n done t more vs to
      → Seen L p (flatten c ++ more) (length vs) (length to.operands)
  behind_one {D = D} {c = c} {ts = ts} {us = us} {xs = xs} y n L q p ws rest s l h f u t r more vs to m =
      let b = nothing_behind m in
      let j = fell (run W P n (does B I c) s) t (soundness R W P a B I D c (rest ++ ts) xs (rest ++ us) (frame_rule rest y) n s h) r in
      subst (λ (z : State R). Seen L p (flatten c ++ more) (length vs) (length z.operands)) b.2
      (outwards L L p f.end [] (flatten c ++ more) 0 (length vs) (length t.operands)
      (checked_through y L q p (onto us ws) f more ∙ ap (λ (z : List (Instruction ℕ)). steps_in W B z (at L f.end)) b.0)
      (ap (λ (z : List (Value R)). length L.base + length z) (sym b.1))
      (here L f.end (length t.operands) u (start-high f.end us ws rest t.operands f.fits u l j.operands)))

  -- an instruction that falls through goes on
  instruction_goes_on :
      (n : ℕ) (D : Scope R) (i : Instruction ℕ) (ts us : List (ValueType R)) → Rule W B D (shape_of i) ts us
      → (base : List ℕ) (p q : Stack R) (rest : List (ValueType R))
      (s t : State R) → p.unreached ≡ false → check W B (over base D) (simply i done) p ≡ Some q → Fits W P B I s.store D.sets (rest ++ ts) s
      → run W P n (does B I (simply i done)) s ≡ falls_through t
      → (all_go_on (actions_of (shape_of i)) ≡ true) ⊎ ((vs : List (ValueType R)) → Rule W B D (shape_of i) ts vs) → q.unreached ≡ false
  instruction_goes_on n D i ts us r base p q rest s t u h f e (inl g) =
      let x = bind-gives (lrun W B (over base D) (actions_of (shape_of i)) p) (check W B (over base D) done) q h in
      run-reach W B (over base D) (actions_of (shape_of i)) p q g (x.1 ∙ x.2) ∙ u
  instruction_goes_on n D i ts us r base p q rest s t u h f e (inr any) =
      let x : length t.operands ≡ length (rest ++ []) =
      heights_are_as_typed R W P a B I D (simply i done) (rest ++ ts) (sets_of (shape_of i)) (rest ++ [])
      (frame_rule rest (instruction_rule (any []))) n s t f e in
      let y : length t.operands ≡ length (rest ++ bot ∷ []) =
      heights_are_as_typed R W P a B I D (simply i done) (rest ++ ts) (sets_of (shape_of i)) (rest ++ bot ∷ [])
      (frame_rule rest (instruction_rule (any (bot ∷ [])))) n s t f e in
      let z : length (rest ++ []) ≡ length rest + 0 = length-append rest [] in
      let w : length (rest ++ bot ∷ []) ≡ length rest + 1 = length-append rest (bot ∷ []) in
      absurd (omega (arith, x, y, z, w))

  -- code in a row
  in_a_row :
      {n : ℕ} {D : Scope R} {c d : Code} {ts us : List (ValueType R)} {xs : List ℕ} → is_one c ≡ true → Typed W B D c ts xs us → Heights n D c ts
      → Heights n (behind_setting xs D) d us → (L : Place W B) → scope L ≡ over L.inits D → (p : Stack R) (ws rest : List (ValueType R)) (s : State R)
      → Covers W B D.sets (p.sets ++ L.inits) → FitsStack W p (onto ts ws) → p.unreached ≡ false → length rest ≡ length ws
      → Fits W P B I s.store D.sets (rest ++ ts) s
      → (ops : List (Instruction ℕ)) (vs : List (Value R)) (to : State R) → Split W P B I n (and_then c d) s ops vs to
      → Seen L p ops (length vs) (length to.operands)
  in_a_row {n = n} {c = c} {d = d} o y ih ih2 L q p ws rest s v k u l f ops vs to (in_front m) =
      ih L q p ws rest s v k u l f ops vs to (subst (λ (z : Code). Comes W P B I n z s ops vs to) (first-is c d o) m)
  in_a_row {n = n} {D = D} {c = c} {d = d} {ts = ts} {us = us} {xs = xs} o y ih ih2 L q p ws rest s v k u l f ops vs to (further t more r w m) =
      let g = check-complete W a.in_order B y L.inits p ws v k in
      let e : run W P n (does B I c) s ≡ falls_through t = subst (λ (z : Code). run W P n (does B I z) s ≡ falls_through t) (first-is c d o) r in
      let j = fell (run W P n (does B I c) s) t (soundness R W P a B I D c (rest ++ ts) xs (rest ++ us) (frame_rule rest y) n s f) e in
      let x = still_reached L p g.end (flatten c) 0 (length t.operands) (ih L q p ws rest s v k u l f (flatten c) [] t (at_the_end W P B I c n s t e))
      (ap (λ (z : List (Instruction ℕ)). steps_in W B z (at L p)) (sym (append-nil (flatten c))) ∙ checked_through y L q p (onto us ws) g []) in
      outwards L L p g.end more ops (length vs) (length vs) (length to.operands)
      (ap (λ (z : List (Instruction ℕ)). steps_in W B z (at L p)) (sym w ∙ ap (λ (z : Code). flatten z ++ more) (first-is c d o))
      ∙ checked_through y L q p (onto us ws) g more)
      refl
      (ih2 L q g.end ws rest t g.covers g.fits x l (fits-now W P B I j) more vs to
      (subst (λ (z : Code). Comes W P B I n z t more vs to) (rest-is c d o) m))

  -- handlers
  found_types :
      (D : Scope R) (h : Handler) (ts : List (Val R)) → Catches W B D h ts → (s : State R) (some : List (ValueType R))
      → Fits W P B I s.store D.sets some s
      → (x : ℕ) (e : Exception R) → slice_get s.store.exceptions x ≡ Some e → (found : List (Value R)) → Takes I h e found
      → HaveTypes W s.store found (vals ts)
  found_types D (a_catch y) ts k s some f x e i found (by_tag w) =
      let g = passes-gives (λ (z : Signature R). length z.gives == 0) (signature_at W B (of_tag y)) k.holds.1.1.0 in
      let c : Carries W s.store I y g.0.takes = f.instance.tags y g.0 g.1 in
      let j : IsTypedException W s.store e = f.store.exceptions x e i in
      let n : c.address ≡ e.tag = the_same c.address e.tag (sym c.known ∙ w) in
      let o : j.types ≡ g.0.takes = the_same j.types g.0.takes (sym j.tagged ∙ ap (slice_get s.store.tags) (sym n) ∙ c.there) in
      let b : g.0.takes ≡ ts = the_same g.0.takes ts
      (sym (ap (λ (z : Option (Signature R)). option_map (λ (r : Signature R). r.takes) z) g.1) ∙ k.found) in
      subst (λ (z : List (Val R)). HaveTypes W s.store e.values (vals z)) (o ∙ b) j.values
  found_types D a_catch_all ts k s some f x e i found of_any_tag =
      subst (λ (z : List (Val R)). HaveTypes W s.store [] (vals z)) (the_same [] ts k.found) no_values

  handler_starts :
      (D : Scope R) (L : Place W B) (k : Kind) (y : Entered R) (g : IsSigned W B y) (x : Handler) (ts : List (Val R)) (r : Stack R)
      → may_catch k ≡ true → Catches W B D x ts
      → FitsStack W r (onto (vals y.signature.gives) []) → (n : List (Instruction ℕ))
      → steps_in W B (handler_written x ∷ n) (at (inside_of L k y g) r) ≡ steps_in W B n (at (inside_of L (handler_kind x) y g) (starting ts))
  handler_starts D L k y g x ts r t c h n =
      (λ i. handler-at L k y g x r t i >>= steps_in W B n) ∙ (λ i. (caught i >>= λ vs. Some (opened_over L (handler_kind x) y vs)) >>= steps_in W B n)
    where
      caught : lcatch W B (deeper k y (scope L)) x y r ≡ Some ts
      caught =
          let E : Scope R = deeper k y (scope L) in
          let z = end-complete W y.signature.gives r h in
          bind-at (λ q. types_in W B E.labels E.returns (handler_operands x) >>= λ vs. lend W y.signature.gives q >>= λ z. Some vs)
          (checks-run W a.in_order B E E.sets (handler_checks x) [] r (handler-holds W a.in_order B D E x c.holds)
          (λ m k. covers-more W B r.sets E.sets m k))
          (bind-at (λ vs. lend W y.signature.gives r >>= λ z. Some vs) (handler-finds W a.in_order B D E x ts c.found)
          (bind-at (λ z. Some ts) z.1 refl))

  handler_caught : (x : Handler) → has_caught (handler_kind x) ≡ true
  handler_caught (a_catch n) = refl
  handler_caught a_catch_all = refl

  handler_label : (x : Handler) (g : Signature R) → label_by (handler_kind x) g ≡ g.gives
  handler_label (a_catch n) g = refl
  handler_label a_catch_all g = refl

  -- in the code of one
  in_handler_seen :
      (n : ℕ) (D : Scope R) (h : Handler) (c : Code) (us ts : List (Val R)) → Catches W B D h ts → Heights n (in_handler us D) c (vals ts)
      → (L : Place W B) → scope L ≡ over L.inits D → (k : Kind) → may_catch k ≡ true → (b : Block R) (takes : List (Val R)) (left r : Stack R)
      → (g : IsSigned W B (entered_with b takes us left)) → Covers W B D.sets (left.sets ++ L.inits) → FitsStack W r (onto (vals us) [])
      → (s : State R) (some : List (ValueType R)) → Fits W P B I s.store D.sets some s → (x : ℕ) (e : Exception R)
      → slice_get s.store.exceptions x ≡ Some e
      → (found : List (Value R)) → Takes I h e found → (ops : List (Instruction ℕ)) (vs : List (Value R)) (to : State R)
      → Comes W P B I n c (holding found s) ops vs to
      → Seen (inside_of L k (entered_with b takes us left) g) r (handler_written h ∷ ops) (length vs) (length to.operands)
  in_handler_seen n D h c us ts w ih L q k t b takes left r g v z s some f x e i found o ops vs to m =
      let y : Entered R = entered_with b takes us left in
      outwards (inside_of L k y g) (inside_of L (handler_kind h) y g) r (starting ts) ops (handler_written h ∷ ops) (length vs) (length vs)
      (length to.operands)
      (handler_starts D L k y g h ts r t w z ops)
      refl
      (in-block n D (handler_kind h) true c us ts (handler_caught h) ih L q y g (handler_label h y.signature) v (holding found s)
      (fits-with W P B I found f (found_types D h ts w s some f x e i found o)) ops vs to m)

  last_seen :
      (n : ℕ) (D : Scope R) (h : Handler) (c : Code) (us ts : List (Val R)) → Catches W B D h ts → Heights n (in_handler us D) c (vals ts)
      → HandlersHeights n D (last_handler h c) us
  last_seen n D h c us ts w ih L q k t b takes left r g v z s some f x e i ops vs to (in_last {found = found} {ops = more} o m) =
      in_handler_seen n D h c us ts w ih L q k t b takes left r g v z s some f x e i found o more vs to m

  before_seen :
      (n : ℕ) (D : Scope R) (j : ℕ) (c : Code) (hs : Handlers) (us ts : List (Val R)) (xs : List ℕ) → Catches W B D (a_catch j) ts
      → Typed W B (in_handler us D) c (vals ts) xs (vals us) → Heights n (in_handler us D) c (vals ts) → HandlersHeights n D hs us
      → HandlersHeights n D (catch_before j c hs) us
  before_seen n D j c hs us ts xs w y ih ihs L q k t b takes left r g v z s some f x e i ops vs to (in_first {found = found} {ops = more} o m) =
      in_handler_seen n D (a_catch j) c us ts w ih L q k t b takes left r g v z s some f x e i found o more vs to m
  before_seen n D j c hs us ts xs w y ih ihs L q k t b takes left r g v z s some f x e i ops vs to (in_later {ops = more} o p m) =
      let E : Entered R = entered_with b takes us left in
      let d = check-complete W a.in_order B y (left.sets ++ L.inits) (starting ts) [] v (push-complete W a.in_order false ts [] [] tt) in
      outwards (inside_of L k E g) (inside_of L legacy_catch_kind E g) r d.end more (handler_written (a_catch j) ∷ (flatten c ++ more)) (length vs)
      (length vs) (length to.operands)
      (handler_starts D L k E g (a_catch j) ts r t w z (flatten c ++ more)
      ∙ checked_through y (inside_of L legacy_catch_kind E g) (deeper-scope D L q legacy_catch_kind E g) (starting ts) (onto (vals us) []) d more)
      refl
      (ihs L q legacy_catch_kind refl b takes left d.end g v d.fits s some f x e i more vs to m)

  -- an exception that the code of a `try` throws
  catching_seen :
      (n : ℕ) (D : Scope R) (x : Block ℕ) (g : Signature R) (b : Code) (hs : Handlers) (xs : List ℕ) → Opens W B D (a_try x) g
      → Typed W B (inside g.gives D) b (vals g.takes) xs (vals g.gives) → HandlersHeights n D hs g.gives
      → (L : Place W B) → scope L ≡ over L.inits D → (p : Stack R) (ws rest : List (ValueType R)) (s : State R)
      → Covers W B D.sets (p.sets ++ L.inits)
      → FitsStack W p (onto (vals g.takes) ws) → p.unreached ≡ false → length rest ≡ length ws → Fits W P B I s.store D.sets (rest ++ vals g.takes) s
      → (y : ℕ) (t : State R) (e : Exception R) (below top : List (Value R)) (w : Begins W B x s.operands below top)
      → labelled_by falls_through (length w.signature.gives) below (run W P n (does B I b) (holding top s)) ≡ leaves (throws y t)
      → slice_get t.store.exceptions y ≡ Some e → (ops : List (Instruction ℕ)) (vs : List (Value R)) (to : State R)
      → Handles W P B I n hs t e ops vs to
      → Seen L p (written (a_try x) ∷ (flatten b ++ ops)) (length (below ++ vs)) (length to.operands)
  catching_seen n D x g b hs xs h tb ihs L q p ws rest s v k u l f y t e below top w r i ops vs to m =
      let o : Opened D L (a_try x) g p ws = opens D L q (a_try x) g h p ws v k u in
      let E : Entered R = record { block = o.block; signature = g; left = o.left } in
      let z : Begun s.store g rest x s.operands below top w = begun D (a_try x) g h rest s.operands below top f.operands w in
      let d = check-complete W a.in_order B tb (o.left.sets ++ L.inits) (fresh g) [] o.covers (push-complete W a.in_order false g.takes [] [] tt) in
      let j = thrown (labelled_by falls_through (length g.gives) below (run W P n (does B I b) (holding top s))) y t
      (label-promised W P B I s.store D g.gives g.gives xs falls_through below rest (run W P n (does B I b) (holding top s)) z.under
      (λ c w. falling w)
      (soundness R W P a B I (inside g.gives D) b (vals g.takes) xs (vals g.gives) tb n (holding top s) (fits-with W P B I top f z.above)))
      (ap (λ (c : Signature R). labelled_by falls_through (length c.gives) below (run W P n (does B I b) (holding top s))) (sym z.same) ∙ r) in
      outwards L (inside_of L legacy_try_kind E o.signed) p d.end ops (written (a_try x) ∷ (flatten b ++ ops)) (length vs) (length (below ++ vs))
      (length to.operands)
      (enters L (a_try x) p E o.signed (flatten b ++ ops) o.leads
      ∙ checked_through tb (inside_of L legacy_try_kind E o.signed) (deeper-scope D L q legacy_try_kind E o.signed) (fresh g)
      (onto (vals g.gives) []) d ops)
      (higher L o.left ws rest below vs o.high l z.under)
      (ihs L q legacy_try_kind refl o.block g.takes o.left d.end o.signed o.covers d.fits t j.left (fits-now W P B I j.fits) y e i ops vs to m)

  -- the operand of an `if`, and what is below it
  below_condition :
      {S : Store R} (g : Signature R) (rest : List (ValueType R)) (vs : List (Value R)) → HaveTypes W S vs (rest ++ (vals g.takes ++ val i32 ∷ []))
      → (front top : List (Value R)) → cut 1 vs ≡ Some (front, top) → HaveTypes W S front (rest ++ vals g.takes)
  below_condition {S = S} g rest vs h front top e =
      let c = cut-fits (rest ++ vals g.takes) (val i32 ∷ []) 1 vs refl
      (subst (λ (z : List (ValueType R)). HaveTypes W S vs z) (sym (append_assoc rest (vals g.takes) (val i32 ∷ []))) h) in
      subst (λ (z : List (Value R) × List (Value R)). HaveTypes W S z.0 (rest ++ vals g.takes))
      (the_same (c.front, c.top) (front, top) (sym c.is ∙ e)) c.below

  tested :
      (p : Stack R) (g : Signature R) (ws : List (ValueType R)) → FitsStack W p (onto (vals g.takes ++ val i32 ∷ []) ws)
      → FitsStack W p (val i32 ∷ onto (vals g.takes) ws)
  tested p g ws h = subst (λ (z : List (ValueType R)). FitsStack W p z) (onto-append (vals g.takes) (val i32 ∷ []) ws) h

  -- each form of code
  nothing_seen : (n : ℕ) (D : Scope R) → Heights n D done []
  nothing_seen n D L q p ws rest s v k u l f ops vs to starts = here L p (length s.operands) u (start-high p [] ws rest s.operands k u l f.operands)
  nothing_seen n D L q p ws rest s v k u l f ops vs to (behind e r m) = no (sym e)

  instruction_seen :
      (n : ℕ) (D : Scope R) (i : Instruction ℕ) (ts us : List (ValueType R)) → Rule W B D (shape_of i) ts us → Heights n D (simply i done) ts
  instruction_seen n D i ts us j L q p ws rest s v k u l f ops vs to starts =
      here L p (length s.operands) u (start-high p ts ws rest s.operands k u l f.operands)
  instruction_seen n D i ts us j L q p ws rest s v k u l f ops vs to (behind {t = t} {ops = more} e r m) =
      let y = check-complete W a.in_order B (instruction_rule j) L.inits p ws v k in
      behind_one (instruction_rule j) n L q p ws rest s l f y
      (instruction_goes_on n D i ts us j L.inits p y.end rest s t u y.leads f r (goes_on_or_gives_any W B D (shape_of i) ts us j)) t r more vs to m

  abbrev opens_plainly : Opening → Bool
  opens_plainly (a_loop b) = false
  opens_plainly (an_if b) = false
  opens_plainly _ = true

  no_condition : (x : Opening) → opens_plainly x ≡ true → condition W a.in_order B x ≡ []
  no_condition (a_block b) e = refl
  no_condition (a_try b) e = refl
  no_condition (a_try_table b cs) e = refl
  no_condition (a_loop b) e = no e
  no_condition (an_if b) e = no e

  plain_seen :
      (n : ℕ) (D : Scope R) (x : Opening) (g : Signature R) (b : Code) → opens_plainly x ≡ true → Opens W B D x g
      → Typed W B D (enclosing x b done) (vals g.takes) [] (vals g.gives)
      → Heights n (labelled (has_caught (kind_of x)) (label_by (kind_of x) g) D) b (vals g.takes)
      → Heights n D (enclosing x b done) (vals g.takes)
  plain_seen n D x g b e h y ih L q p ws rest s v k u l f ops vs to starts =
      here L p (length s.operands) u (start-high p (vals g.takes) ws rest s.operands k u l f.operands)
  plain_seen n D x g b e h y ih L q p ws rest s v k u l f ops vs to (behind {t = t} {ops = more} d r m) =
      let c = check-complete W a.in_order B y L.inits p ws v k in
      behind_one y n L q p ws rest s l f c (enclosing-reach W B (over L.inits D) x b p c.end c.leads ∙ u) t r more vs to m
  plain_seen n D x g b e h y ih L q p ws rest s v k u l f ops vs to (within {below = below} {top = top} {ops = more} {vs = us} d w m) =
      entering n D x g b h ih L q p ws rest s (rest ++ vals g.takes) v
      (subst (λ (z : List (Val R)). FitsStack W p (onto (vals z) (onto (vals g.takes) ws))) (sym (no_condition x e)) k) u l f
      s.operands below top f.operands w more us to m
  plain_seen n D x g b e h y ih L q p ws rest s v k u l f ops vs to (turns w r w2 m) = no e
  plain_seen n D x g b e h y ih L q p ws rest s v k u l f ops vs to (within_if c w m) = no e

  loop_seen :
      (n : ℕ) → Fewer n → (D : Scope R) (x : Block ℕ) (g : Signature R) (b : Code) (xs : List ℕ) → Opens W B D (a_loop x) g
      → Typed W B (inside g.takes D) b (vals g.takes) xs (vals g.gives) → Heights n (inside g.takes D) b (vals g.takes)
      → Heights n D (enclosing (a_loop x) b done) (vals g.takes)
  loop_seen n fewer D x g b xs h y ih L q p ws rest s v k u l f ops vs to starts =
      here L p (length s.operands) u (start-high p (vals g.takes) ws rest s.operands k u l f.operands)
  loop_seen n fewer D x g b xs h y ih L q p ws rest s v k u l f ops vs to (behind {t = t} {ops = more} d r m) =
      let c = check-complete W a.in_order B (loop_rule x g h y) L.inits p ws v k in
      behind_one (loop_rule x g h y) n L q p ws rest s l f c (enclosing-reach W B (over L.inits D) (a_loop x) b p c.end c.leads ∙ u) t r more vs to m
  loop_seen n fewer D x g b xs h y ih L q p ws rest s v k u l f ops vs to (within {below = below} {top = top} {ops = more} {vs = us} d w m) =
      entering n D (a_loop x) g b h ih L q p ws rest s (rest ++ vals g.takes) v k u l f s.operands below top f.operands w more us to m
  loop_seen n fewer D x g b xs h y ih L q p ws rest s v k u l f ops vs to
      (turns {n = j} {t = t} {below = below} {top = top} {left = left} {again = again} w r w2 m) =
      turning j D x g b xs h y
      (fewer D (enclosing (a_loop x) b done) (vals g.takes) (vals g.gives) [] (loop_rule x g h y)) L q p ws rest s v k u l f t below top left
      again w r w2 ops vs to m

  if_seen :
      (n : ℕ) (D : Scope R) (x : Block ℕ) (g : Signature R) (b : Code) → Opens W B D (an_if x) g
      → Typed W B D (enclosing (an_if x) b done) (vals g.takes ++ val i32 ∷ []) [] (vals g.gives) → Heights n (inside g.gives D) b (vals g.takes)
      → Heights n D (enclosing (an_if x) b done) (vals g.takes ++ val i32 ∷ [])
  if_seen n D x g b h y ih L q p ws rest s v k u l f ops vs to starts =
      here L p (length s.operands) u (start-high p (vals g.takes ++ val i32 ∷ []) ws rest s.operands k u l f.operands)
  if_seen n D x g b h y ih L q p ws rest s v k u l f ops vs to (behind {t = t} {ops = more} d r m) =
      let c = check-complete W a.in_order B y L.inits p ws v k in
      behind_one y n L q p ws rest s l f c (enclosing-reach W B (over L.inits D) (an_if x) b p c.end c.leads ∙ u) t r more vs to m
  if_seen n D x g b h y ih L q p ws rest s v k u l f ops vs to (within d w m) = no (sym d)
  if_seen n D x g b h y ih L q p ws rest s v k u l f ops vs to
      (within_if {k = j} {rest = front} {below = below} {top = top} {ops = more} {vs = us} c w m) =
      entering n D (an_if x) g b h ih L q p ws rest s (rest ++ (vals g.takes ++ val i32 ∷ [])) v (tested p g ws k) u l f front below top
      (below_condition g rest s.operands f.operands front (i32_value (suc j) ∷ []) c) w more us to m

  choosing_seen :
      (n : ℕ) (D : Scope R) (x : Block ℕ) (g : Signature R) (b d : Code) (xs : List ℕ) → Opens W B D (an_if x) g
      → Typed W B D (choosing_between x b d done) (vals g.takes ++ val i32 ∷ []) [] (vals g.gives)
      → Typed W B (inside g.gives D) b (vals g.takes) xs (vals g.gives)
      → Heights n (inside g.gives D) b (vals g.takes) → Heights n (inside g.gives D) d (vals g.takes)
      → Heights n D (choosing_between x b d done) (vals g.takes ++ val i32 ∷ [])
  choosing_seen n D x g b d xs h y tb ih ih2 L q p ws rest s v k u l f ops vs to starts =
      here L p (length s.operands) u (start-high p (vals g.takes ++ val i32 ∷ []) ws rest s.operands k u l f.operands)
  choosing_seen n D x g b d xs h y tb ih ih2 L q p ws rest s v k u l f ops vs to (behind {t = t} {ops = more} e r m) =
      let c = check-complete W a.in_order B y L.inits p ws v k in
      behind_one y n L q p ws rest s l f c (choosing-reach W B (over L.inits D) x b d p c.end c.leads ∙ u) t r more vs to m
  choosing_seen n D x g b d xs h y tb ih ih2 L q p ws rest s v k u l f ops vs to
      (within_then {k = j} {rest = front} {below = below} {top = top} {ops = more} {vs = us} c w m) =
      entering n D (an_if x) g b h ih L q p ws rest s (rest ++ (vals g.takes ++ val i32 ∷ [])) v (tested p g ws k) u l f front below top
      (below_condition g rest s.operands f.operands front (i32_value (suc j) ∷ []) c) w more us to m
  choosing_seen n D x g b d xs h y tb ih ih2 L q p ws rest s v k u l f ops vs to
      (within_else {rest = front} {below = below} {top = top} {ops = more} {vs = us} c w m) =
      entering_else n D x g b d xs h tb ih2 L q p ws rest s (rest ++ (vals g.takes ++ val i32 ∷ [])) v (tested p g ws k) u l f front below top
      (below_condition g rest s.operands f.operands front (i32_value zero ∷ []) c) w more us to m

  handling_seen :
      (n : ℕ) (D : Scope R) (x : Block ℕ) (g : Signature R) (b : Code) (hs : Handlers) (xs : List ℕ) → Opens W B D (a_try x) g
      → Typed W B D (handling x b hs done) (vals g.takes) [] (vals g.gives) → Typed W B (inside g.gives D) b (vals g.takes) xs (vals g.gives)
      → Heights n (inside g.gives D) b (vals g.takes) → HandlersHeights n D hs g.gives → Heights n D (handling x b hs done) (vals g.takes)
  handling_seen n D x g b hs xs h y tb ih ihs L q p ws rest s v k u l f ops vs to starts =
      here L p (length s.operands) u (start-high p (vals g.takes) ws rest s.operands k u l f.operands)
  handling_seen n D x g b hs xs h y tb ih ihs L q p ws rest s v k u l f ops vs to (behind {t = t} {ops = more} e r m) =
      let c = check-complete W a.in_order B y L.inits p ws v k in
      behind_one y n L q p ws rest s l f c (handling-reach W B (over L.inits D) x b hs p c.end c.leads ∙ u) t r more vs to m
  handling_seen n D x g b hs xs h y tb ih ihs L q p ws rest s v k u l f ops vs to
      (within_try {below = below} {top = top} {ops = more} {vs = us} w m) =
      entering n D (a_try x) g b h ih L q p ws rest s (rest ++ vals g.takes) v k u l f s.operands below top f.operands w more us to m
  handling_seen n D x g b hs xs h y tb ih ihs L q p ws rest s v k u l f ops vs to
      (catches {a = j} {t = t} {below = below} {top = top} {e = e} {ops = more} {vs = us} w r i m) =
      catching_seen n D x g b hs xs h tb ihs L q p ws rest s v k u l f j t e below top w r i more us to m

  delegating_seen :
      (n : ℕ) (D : Scope R) (j : ℕ) (x : Block ℕ) (g : Signature R) (b : Code) → Opens W B D (a_try x) g
      → Typed W B D (delegating_to j x b done) (vals g.takes) [] (vals g.gives) → Heights n (inside g.gives D) b (vals g.takes)
      → Heights n D (delegating_to j x b done) (vals g.takes)
  delegating_seen n D j x g b h y ih L q p ws rest s v k u l f ops vs to starts =
      here L p (length s.operands) u (start-high p (vals g.takes) ws rest s.operands k u l f.operands)
  delegating_seen n D j x g b h y ih L q p ws rest s v k u l f ops vs to (behind {t = t} {ops = more} e r m) =
      let c = check-complete W a.in_order B y L.inits p ws v k in
      behind_one y n L q p ws rest s l f c (delegating-reach W B (over L.inits D) j x b p c.end c.leads ∙ u) t r more vs to m
  delegating_seen n D j x g b h y ih L q p ws rest s v k u l f ops vs to (within_delegating {below = below} {top = top} {ops = more} {vs = us} w m) =
      entering n D (a_try x) g b h ih L q p ws rest s (rest ++ vals g.takes) v k u l f s.operands below top f.operands w more us to m

  row_seen :
      (n : ℕ) (D : Scope R) (c d : Code) (ts us : List (ValueType R)) (xs : List ℕ) → is_one c ≡ true → Typed W B D c ts xs us → Heights n D c ts
      → Heights n (behind_setting xs D) d us → Heights n D (and_then c d) ts
  row_seen n D c d ts us xs e t ih ih2 L q p ws rest s v k u l f ops vs to m =
      in_a_row e t ih ih2 L q p ws rest s v k u l f ops vs to (split W P B I m)

  -- operands below, and other types
  frame_seen :
      (n : ℕ) (D : Scope R) (c : Code) (ts under : List (ValueType R)) → Heights n D c ts → Heights n D c (under ++ ts)
  frame_seen n D c ts under ih L q p ws rest s v k u l f ops vs to m =
      let x : length (rest ++ under) ≡ length rest + length under = length-append rest under in
      let y : length (onto under ws) ≡ length under + length ws = length-onto under ws in
      ih L q p (onto under ws) (rest ++ under) s v (subst (λ (z : List (ValueType R)). FitsStack W p z) (onto-append under ts ws) k) u
      (omega (arith, l, x, y))
      (subst (λ (z : List (ValueType R)). Fits W P B I s.store D.sets z s) (sym (append_assoc rest under ts)) f) ops vs to m

  subsumed_seen :
      (n : ℕ) (D : Scope R) (c : Code) (ts vs : List (ValueType R)) → Match W vs ts → Heights n D c ts → Heights n D c vs
  subsumed_seen n D c ts us j ih L q p ws rest s v k u l f ops vs to m =
      ih L q p ws rest s v (fits-sub W a.in_order p.unreached p.items (match-onto W j (match-itself W a.in_order ws)) k) u l
      (fits-with W P B I s.operands f (above-match W a.in_order s.store rest s.operands f.operands j)) ops vs to m

  mutual
    heights : (n : ℕ) → Fewer n → {D : Scope R} {c : Code} {ts us : List (ValueType R)} {xs : List ℕ} → Typed W B D c ts xs us → Heights n D c ts
    heights n w (empty_rule {C = D}) = nothing_seen n D
    heights n w (instruction_rule {C = D} {i = i} {ts = ts} {us = us} r) = instruction_seen n D i ts us r
    heights n w (block_rule {C = D} {c = c} b g h t) = plain_seen n D (a_block b) g c refl h (block_rule b g h t) (heights n w t)
    heights n w (try_rule {C = D} {c = c} b g h t) = plain_seen n D (a_try b) g c refl h (try_rule b g h t) (heights n w t)
    heights n w (try_table_rule {C = D} {c = c} b cs g h t) = plain_seen n D (a_try_table b cs) g c refl h (try_table_rule b cs g h t) (heights n w t)
    heights n w (loop_rule {C = D} {c = c} {xs = xs} b g h t) = loop_seen n w D b g c xs h t (heights n w t)
    heights n w (if_rule {C = D} {c = c} b g h t e) = if_seen n D b g c h (if_rule b g h t e) (heights n w t)
    heights n w (if_else_rule {C = D} {c = c} {d = d} {xs = xs} b g h t e) =
        choosing_seen n D b g c d xs h (if_else_rule b g h t e) t (heights n w t) (heights n w e)
    heights n w (handling_rule {C = D} {c = c} {hs = hs} {xs = xs} b g h t i) =
        handling_seen n D b g c hs xs h (handling_rule b g h t i) t (heights n w t) (handlers n w i)
    heights n w (delegating_rule {C = D} {c = c} {l = l} b g h t e) = delegating_seen n D l b g c h (delegating_rule b g h t e) (heights n w t)
    heights n w (sequence_rule {C = D} {c = c} {d = d} {ts = ts} {us = us} {xs = xs} e t r) =
        row_seen n D c d ts us xs e t (heights n w t) (heights n w r)
    heights n w (frame_rule {C = D} {c = c} {ts = ts} below t) = frame_seen n D c ts below (heights n w t)
    heights n w (subsumption_rule {C = D} {c = c} {ts = ts} {vs = vs} j e x t) = subsumed_seen n D c ts vs j (heights n w t)

    handlers : (n : ℕ) → Fewer n → {D : Scope R} {hs : Handlers} {us : List (Val R)} → Handle W B D hs us → HandlersHeights n D hs us
    handlers n w (last_rule {C = D} {h = h} {c = c} {ts = ts} {us = us} k t) = last_seen n D h c us ts k (heights n w t)
    handlers n w (before_rule {C = D} {x = x} {c = c} {hs = hs} {ts = ts} {us = us} {xs = xs} k t i) =
        before_seen n D x c hs us ts xs k t (heights n w t) (handlers n w i)

  fewer : (n : ℕ) → Fewer n
  fewer zero = tt
  fewer (suc n) = λ D c ts us xs t. heights n (fewer n) t

pub heights_are_as_seen : (R : Type 0) → HeightsAreAsSeen R
heights_are_as_seen R W P a B I b g c xs e t n s f ops vs to m =
    let h = heights W P a B I n (fewer W P a B I n) t (outer W B b g e) refl (stack [] false []) [] [] s (λ i x. x) tt refl refl f ops vs to m in
    let x : length h.state.operands ≡ 0 + length vs + length to.operands = h.height in
    let y : h.top.height ≡ 0 + length vs = h.begins in
    record {
      state = h.state;
      frame = h.top;
      outer = h.outside;
      seen = h.seen;
      frames = h.frames;
      begins = omega (arith, y);
      height = omega (arith, x);
      reached = h.reached;
    }
