-- Code that the machine accepts within a frame has a typing.
use Rattle.std.proofs.Common.{◌≡◌, refl, sym, ap, subst, ◌∙◌, ℕ, Bool, true, false, not, ◌&&◌, List, [], ◌∷◌, ◌++◌, Option, Some, None, option_map, is_some, slice_get, append-nil}
use Rattle.wasm_spec_steps.specs.WasmSpecRules.WasmSpec.Syntax.{Heap, abstract_heap, concrete, exact, Val, i32, i64, f32, f64, v128, reference, Comp, Sub}
use Rattle.wasm_spec_steps.specs.WasmSpecRules.WasmSpec.ValueTypes.{implies, abstract_needs, is_without_gc_types, allows_heap, allows_val}
use Rattle.wasm_spec_steps.specs.WasmSpecRules.WasmSpec.Matching.{is_shared_heap}
use Rattle.wasm_spec_steps.specs.WasmSpecRules.WasmSpec.MatchingTests.{World}
use Rattle.wasm_spec_steps.specs.WasmSpecRules.Attempts.{◌>>=◌, guard}
use Rattle.wasm_spec_steps.specs.WasmSpecRules.Signatures.{Signature, signature_of, resolve_heap, resolve_val}
use Rattle.wasm_operators.specs.Control.{Block, empty_block, value_block, func_block}
use Rattle.wasm_spec_steps.specs.Bodies.{Surroundings}
use Rattle.wasm_spec_steps.specs.Machine.{Kind, block_kind, loop_kind, if_kind, else_kind, try_table_kind, legacy_try_kind, legacy_catch_kind, legacy_catch_all_kind, has_caught}
use Rattle.wasm_spec_steps.specs.Actions.{Check, take}
use Rattle.wasm_spec_steps.specs.Shapes.{Shape, branching_by_table, block_checks, catch_checks, legacy_checks, shape_of}
use Rattle.wasm_spec_steps.specs.Meanings.{sub_at, comp_at, type_signature, label_by, resolve_block, block_signature, may_end}
use Rattle.wasm_spec_steps.specs.Steps.{actions_of, checked}
use Rattle.wasm_spec_instructions.specs.Code.{Opening, a_block, a_loop, an_if, a_try, a_try_table, Handler, a_catch, a_catch_all, Code, done, simply, enclosing, choosing_between, handling, delegating_to, Handlers, last_handler, catch_before, and_then, is_simple, kind_of, block_of, checks_of, condition_of, handler_kind, handler_checks, handler_operands, is_one}
use Rattle.wasm_spec_instructions.specs.ValueTypes.{ValueType, val, vals, Match, IsInOrder, IsUnshared, AreUnshared}
use Rattle.wasm_spec_instructions.specs.Scopes.{Scope, labelled, inside, in_handler, behind, is_set, types_in, AllHold}
use Rattle.wasm_spec_instructions.specs.Rules.{sets_of}
use Rattle.wasm_spec_instructions.specs.Sequences.{Opens, Catches, Typed, empty_rule, instruction_rule, block_rule, loop_rule, if_rule, if_else_rule, try_table_rule, try_rule, handling_rule, delegating_rule, sequence_rule, frame_rule, subsumption_rule, Handle, last_rule, before_rule}
use Rattle.wasm_spec_instructions.specs.Laws.{is_served, HasNoSharing}
use Rattle.wasm_spec_instructions.proofs.Attempts.{no, the_same, absent, and-both, bind-gives, guard-gives, some-gives}
use Rattle.wasm_spec_instructions.proofs.FrameMachine.{Stack, Entered, lpops, lpush, starting, fresh, lend, deeper, entered, taking, signed, lenter_block, lenter, lshut, lcatch, ldelegate, lrun, check, handle}
use Rattle.wasm_spec_instructions.proofs.OperandFits.{onto, rev, onto-append, rev-onto, rev-rev, FitsStack, match-append, match-itself, true-match, pops-sound, end-sound, Split, push-sound, fresh-sound}
use Rattle.wasm_spec_instructions.proofs.LocalSets.{pops-sets, Covers, covered-behind, taken-same}
use Rattle.wasm_spec_instructions.proofs.Tables.{AreShut, AllUnshared, by_operands, by_labels}
use Rattle.wasm_spec_instructions.proofs.SharedFlags.{push-shut, pops-shut, simple-shut, taken-shut}
use Rattle.wasm_spec_instructions.proofs.RuleCompleteness.{over, condition, condition_types, handler-holds, handler-finds}
use Rattle.wasm_spec_instructions.proofs.RuleSoundness.{Ruled, IsReady, rule-sound, passed, took}

-- why tables can be typed: nothing converts references, or nothing branches by a table, or nothing is shared
pub data Mode : Type 0 where
  without : Bool → Mode
  unshared : Mode

abbrev pub serves : Mode → Shape → Bool
serves (without b) s = is_served b s
serves unshared s = true

-- Each instruction of the code is simple and served.
abbrev mutual
  pub Fine : Mode → Code → Type 0
  Fine m done = Unit {0}
  Fine m (simply i c) = (is_simple (shape_of i) ≡ true) × (serves m (shape_of i) ≡ true) × Fine m c
  Fine m (enclosing o b c) = Fine m b × Fine m c
  Fine m (choosing_between g b d c) = Fine m b × Fine m d × Fine m c
  Fine m (handling g b hs c) = Fine m b × AllFine m hs × Fine m c
  Fine m (delegating_to l g b c) = Fine m b × Fine m c

  pub AllFine : Mode → Handlers → Type 0
  AllFine m (last_handler x b) = Fine m b
  AllFine m (catch_before x b hs) = Fine m b × AllFine m hs

-- where no instruction converts references, no operand is open
abbrev pub IsSafe : {R : Type 0} → Mode → Stack R → Type 0
IsSafe (without true) p = AreShut p.items
IsSafe (without false) p = Unit {0}
IsSafe unshared p = Unit {0}

-- where nothing is shared, no label has shared types
abbrev pub IsPlain : {R : Type 0} → World R → Mode → Scope R → Type 0
IsPlain W (without b) C = Unit {0}
IsPlain W unshared C = AllUnshared W C.labels

abbrev pub Allows : {R : Type 0} → World R → Surroundings R → Mode → Type 0
Allows W B (without b) = Unit {0}
Allows W B unshared = HasNoSharing W B.features

ready-for : {R : Type 0} (W : World R) (m : Mode) (C : Scope R) (s : Shape) (p : Stack R) → serves m s ≡ true → IsSafe m p → IsPlain W m C → IsReady W C.labels s p
ready-for W (without true) C (branching_by_table ls l) p w h k = by_operands h
ready-for W (without false) C (branching_by_table ls l) p w h k = no w
ready-for W unshared C (branching_by_table ls l) p w h k = by_labels k
ready-for W m C s p w h k = tt

-- what a block type stands for isn't shared
module _ {R : Type 0} (W : World R) (B : Surroundings R) (u : HasNoSharing W B.features) where
  heap-unshared : (n : Bool) (h : Heap ℕ) (k : Heap R) → allows_heap B.features n h ≡ true → resolve_heap B.context.types h ≡ Some k → is_shared_heap W.declared k ≡ false
  heap-unshared n (abstract_heap true a) k e f = no (ap (λ (b : Bool). b && implies (not (is_without_gc_types a)) B.features.gc_types && abstract_needs B.features n a) (sym u.off) ∙ e)
  heap-unshared n (abstract_heap false a) k e f = ap (is_shared_heap W.declared) (sym (the_same (abstract_heap false a) k f))
  heap-unshared n (concrete x) k e f = go (slice_get B.context.types x) f
    where
      go : (r : Option R) → option_map concrete r ≡ Some k → is_shared_heap W.declared k ≡ false
      go None g = absurd (absent k g)
      go (Some a) g = ap (is_shared_heap W.declared) (sym (the_same (concrete a) k g)) ∙ u.types a
  heap-unshared n (exact x) k e f = go (slice_get B.context.types x) f
    where
      go : (r : Option R) → option_map exact r ≡ Some k → is_shared_heap W.declared k ≡ false
      go None g = absurd (absent k g)
      go (Some a) g = ap (is_shared_heap W.declared) (sym (the_same (exact a) k g)) ∙ u.types a

  val-unshared : (v : Val ℕ) (w : Val R) → allows_val B.features v ≡ true → resolve_val B.context.types v ≡ Some w → IsUnshared W w
  val-unshared i32 w e f = subst (λ (z : Val R). IsUnshared W z) (the_same i32 w f) tt
  val-unshared i64 w e f = subst (λ (z : Val R). IsUnshared W z) (the_same i64 w f) tt
  val-unshared f32 w e f = subst (λ (z : Val R). IsUnshared W z) (the_same f32 w f) tt
  val-unshared f64 w e f = subst (λ (z : Val R). IsUnshared W z) (the_same f64 w f) tt
  val-unshared v128 w e f = subst (λ (z : Val R). IsUnshared W z) (the_same v128 w f) tt
  val-unshared (reference r) w e f = go (resolve_heap B.context.types r.heap) refl f
    where
      go : (x : Option (Heap R)) → resolve_heap B.context.types r.heap ≡ x → option_map reference (option_map (λ h. record { nullable = r.nullable; heap = h }) x) ≡ Some w → IsUnshared W w
      go None g k = absurd (absent w k)
      go (Some h) g k =
          subst (λ (z : Val R). IsUnshared W z) (the_same (reference (record { nullable = r.nullable; heap = h })) w k)
          (heap-unshared r.nullable r.heap h (and-both B.features.reference_types (allows_heap B.features r.nullable r.heap) e).1 g)

  signature-unshared : (n : ℕ) (g : Signature R) → type_signature W B n ≡ Some g → AreUnshared W g.takes × AreUnshared W g.gives
  signature-unshared n g e =
      let a = bind-gives (comp_at W B n) signature_of g e in
      let b = mapped (sub_at W B n) a.0 a.1 in
      let c = bind-gives (slice_get B.context.types n) W.declared b.0 b.1 in
      u.signatures c.0 b.0 g c.2 (ap signature_of b.2 ∙ a.2)
    where
      mapped : (x : Option (Sub R)) (c : Comp R) → option_map (λ d. d.comp) x ≡ Some c → (d : Sub R) × (x ≡ Some d) × (d.comp ≡ c)
      mapped None c f = absurd (absent c f)
      mapped (Some d) c f = (d, refl, the_same d.comp c f)

  block-unshared : (D : Scope R) (b : Block ℕ) (c : Block R) (g : Signature R) → AllHold W B D (block_checks b) → resolve_block B.context.types b ≡ Some c → block_signature W B c ≡ Some g → AreUnshared W g.takes × AreUnshared W g.gives
  block-unshared D empty_block c g h e f =
      subst (λ (z : Signature R). AreUnshared W z.takes × AreUnshared W z.gives) (the_same (record { takes = []; gives = [] }) g (ap (block_signature W B) (the_same empty_block c e) ∙ f)) (tt, tt)
  block-unshared D (func_block n) c g h e f = signature-unshared n g (ap (block_signature W B) (the_same (func_block n) c e) ∙ f)
  block-unshared D (value_block v) c g h e f = go (resolve_val B.context.types v) refl e
    where
      go : (x : Option (Val R)) → resolve_val B.context.types v ≡ x → option_map value_block x ≡ Some c → AreUnshared W g.takes × AreUnshared W g.gives
      go None k i = absurd (absent c i)
      go (Some w) k i =
          subst (λ (z : Signature R). AreUnshared W z.takes × AreUnshared W z.gives) (the_same (record { takes = []; gives = w ∷ [] }) g (ap (block_signature W B) (the_same (value_block w) c i) ∙ f))
          (tt, (val-unshared v w h.0 k, tt))

  label-unshared : (k : Kind) (g : Signature R) → AreUnshared W g.takes × AreUnshared W g.gives → AreUnshared W (label_by k g)
  label-unshared loop_kind g h = h.0
  label-unshared block_kind g h = h.1
  label-unshared if_kind g h = h.1
  label-unshared else_kind g h = h.1
  label-unshared try_table_kind g h = h.1
  label-unshared legacy_try_kind g h = h.1
  label-unshared legacy_catch_kind g h = h.1
  label-unshared legacy_catch_all_kind g h = h.1

  front-holds : (D : Scope R) (cs ds : List Check) → AllHold W B D (cs ++ ds) → AllHold W B D cs
  front-holds D [] ds h = tt
  front-holds D (c ∷ cs) ds h = (h.0, front-holds D cs ds h.1)

  opening-holds : (D : Scope R) (x : Opening) → AllHold W B D (checks_of x) → AllHold W B D (block_checks (block_of x))
  opening-holds D (a_block b) h = h
  opening-holds D (a_loop b) h = h
  opening-holds D (an_if b) h = h
  opening-holds D (a_try b) h = h.1.1
  opening-holds D (a_try_table b cs) h = front-holds D (block_checks b) (catch_checks cs) h.1.1

  pub opened-unshared : (D : Scope R) (x : Opening) (g : Signature R) → Opens W B D x g → AreUnshared W g.takes × AreUnshared W g.gives
  opened-unshared D x g h = block-unshared D (block_of x) h.block g (opening-holds D x h.holds) h.resolves h.signed

module _ {R : Type 0} (W : World R) (o : IsInOrder W) (B : Surroundings R) where
  -- a typing from some types that the operands before stand for
  pub record Found (D : Scope R) (c : Code) (p : Stack R) (zs : List (ValueType R)) : Type 0 where
    pub before : List (ValueType R)
    pub fits : FitsStack W p before
    pub typed : Typed W B D c (rev before) [] (rev zs)

  -- the locals that are set are forgotten
  lesser : {D : Scope R} {c : Code} {ts us vs ws : List (ValueType R)} {xs : List ℕ} → Match W vs ts → Match W us ws → Typed W B D c ts xs us → Typed W B D c vs [] ws
  lesser m n t = subsumption_rule m n tt t

  -- no instructions
  nothing : (D : Scope R) (ts us : List (ValueType R)) → Match W ts us → Typed W B D done ts [] us
  nothing D ts us m = lesser (match-itself W o ts) m (subst (λ (z : List (ValueType R)). Typed W B D done z [] z) (append-nil ts) (frame_rule ts empty_rule))

  -- code and what follows it, over operands that the first part doesn't touch
  in_turn :
      (D : Scope R) (c d : Code) (xs : List ℕ) (ts us front back bs zs : List (ValueType R)) → is_one c ≡ true → Typed W B D c ts xs us → Typed W B (behind xs D) d (rev bs) [] zs → bs ≡ onto front back → Match W us front
      → Typed W B D (and_then c d) (rev (onto ts back)) [] zs
  in_turn D c d xs ts us front back bs zs i t s e m =
      lesser (match-itself W o (rev (onto ts back))) (match-itself W o zs)
      (subst (λ (z : List (ValueType R)). Typed W B D (and_then c d) z xs zs) (sym (rev-onto ts back))
      (sequence_rule i (frame_rule (rev back) t)
      (lesser (match-append W (match-itself W o (rev back)) m) (match-itself W o zs) (subst (λ (z : List (ValueType R)). Typed W B (behind xs D) d z [] zs) (ap rev e ∙ rev-onto front back) s))))

  -- a block's inside
  inside-typed : (D : Scope R) (b : Code) (g : Signature R) → Found D b (fresh g) (onto (vals g.gives) []) → Typed W B D b (vals g.takes) [] (vals g.gives)
  inside-typed D b g f = lesser (fresh-sound W g f.before f.fits) (match-itself W o (vals g.gives)) (subst (λ (z : List (ValueType R)). Typed W B D b (rev f.before) [] z) (rev-rev (vals g.gives)) f.typed)

  -- the rule of what opens a block
  block-typed :
      (D : Scope R) (x : Opening) (b : Code) (g : Signature R) → Opens W B D x g → Typed W B (labelled (has_caught (kind_of x)) (label_by (kind_of x) g) D) b (vals g.takes) [] (vals g.gives) → may_end W B (kind_of x) g ≡ true
      → Typed W B D (enclosing x b done) (vals g.takes ++ vals (condition W o B x)) [] (vals g.gives)
  block-typed D (a_block y) b g h t m = subst (λ (z : List (ValueType R)). Typed W B D (enclosing (a_block y) b done) z [] (vals g.gives)) (sym (append-nil (vals g.takes))) (block_rule y g h t)
  block-typed D (a_loop y) b g h t m = subst (λ (z : List (ValueType R)). Typed W B D (enclosing (a_loop y) b done) z [] (vals g.gives)) (sym (append-nil (vals g.takes))) (loop_rule y g h t)
  block-typed D (a_try y) b g h t m = subst (λ (z : List (ValueType R)). Typed W B D (enclosing (a_try y) b done) z [] (vals g.gives)) (sym (append-nil (vals g.takes))) (try_rule y g h t)
  block-typed D (a_try_table y cs) b g h t m = subst (λ (z : List (ValueType R)). Typed W B D (enclosing (a_try_table y cs) b done) z [] (vals g.gives)) (sym (append-nil (vals g.takes))) (try_table_rule y cs g h t)
  block-typed D (an_if y) b g h t m = if_rule y g h t (nothing (inside g.gives D) (vals g.takes) (vals g.gives) (true-match W g.takes g.gives m))

  -- what was entered
  record Entering (m : Mode) (C : Scope R) (S : List ℕ) (x : Opening) (p : Stack R) (e : Entered R) : Type 0 where
    opens : Opens W B (over S C) x e.signature
    fits : (ws : List (ValueType R)) → FitsStack W e.left ws → FitsStack W p (onto (vals e.signature.takes ++ vals (condition W o B x)) ws)
    covers : Covers W B (e.left.sets ++ C.sets) S
    safe : IsSafe m e.left

  safe-taken : (m : Mode) (C : Scope R) (x : Opening) (p a q : Stack R) (vs : List (Val R)) → lrun W B C (checked (checks_of x) (take (condition_of x) ∷ [])) p ≡ Some a → lpops W vs a ≡ Some q → IsSafe m p → IsSafe m q
  safe-taken (without true) C x p a q vs e f h = pops-shut W vs a q f (taken-shut W B C (checks_of x) (condition_of x) p a e h)
  safe-taken (without false) C x p a q vs e f h = tt
  safe-taken unshared C x p a q vs e f h = tt

  entering : (m : Mode) (C : Scope R) (S : List ℕ) (x : Opening) (p : Stack R) (e : Entered R) → Covers W B (p.sets ++ C.sets) S → IsSafe m p → lenter W B C x p ≡ Some e → Entering m C S x p e
  entering m C S x p e v s h =
      let a = bind-gives (lrun W B C (checked (checks_of x) (take (condition_of x) ∷ [])) p) (lenter_block W B (block_of x)) e h in
      let b = bind-gives (resolve_block B.context.types (block_of x)) (signed W B a.0) e a.2 in
      let d = bind-gives (block_signature W B b.0) (taking W B b.0 a.0) e b.2 in
      let f = bind-gives (lpops W d.0.takes a.0) (entered b.0 d.0) e d.2 in
      let k = passed W o B C S (checks_of x) (take (condition_of x) ∷ []) p a.0 v a.1 in
      let t = took W o B C S (condition_of x) [] p a.0 k.1 in
      let n : t.types ≡ condition W o B x = the_same t.types (condition W o B x) (sym t.taken ∙ condition_types W o B x C.labels C.returns) in
      subst (λ (z : Entered R). Entering m C S x p z) (the_same (record { block = b.0; signature = d.0; left = f.0 }) e f.2)
      (record {
        opens = record { block = b.0; holds = k.0; resolves = b.1; signed = d.1 };
        fits = λ ws g.
            subst (λ (z : List (ValueType R)). FitsStack W p z) (sym (onto-append (vals d.0.takes) (vals (condition W o B x)) ws))
            (subst (λ (z : List (Val R)). FitsStack W p (onto (vals z) (onto (vals d.0.takes) ws))) n
            (pops-sound W t.types p t.left (onto (vals d.0.takes) ws) t.pops
            (subst (λ (z : Stack R). FitsStack W z (onto (vals d.0.takes) ws)) (sym (the_same t.left a.0 t.rest)) (pops-sound W d.0.takes a.0 f.0 ws f.1 g))));
        covers = λ n g. v n (sym (taken-same W B C (checks_of x) (condition_of x) p a.0 a.1 n) ∙ subst (λ (is : List ℕ). is_set W B n (is ++ C.sets) ≡ true) (pops-sets W d.0.takes a.0 f.0 f.1) g);
        safe = safe-taken m C x p a.0 f.0 d.0.takes a.1 f.1 s;
      })

  -- what is checked, is typed
  unfoldable pub Sound : Mode → Scope R → Code → Type 0
  Sound m C c = IsPlain W m C → (S : List ℕ) (p q : Stack R) (zs : List (ValueType R)) → Covers W B (p.sets ++ C.sets) S → IsSafe m p → check W B C c p ≡ Some q → FitsStack W q zs → Found (over S C) c p zs

  fresh-safe : (m : Mode) (g : Signature R) → IsSafe m (fresh g)
  fresh-safe (without true) g = push-shut g.takes [] tt
  fresh-safe (without false) g = tt
  fresh-safe unshared g = tt

  push-safe : (m : Mode) (vs : List (Val R)) (p : Stack R) → IsSafe m p → IsSafe m (lpush vs p)
  push-safe (without true) vs p h = push-shut vs p.items h
  push-safe (without false) vs p h = tt
  push-safe unshared vs p h = tt

  simple-safe : (m : Mode) (C : Scope R) (s : Shape) (p q : Stack R) → serves m s ≡ true → lrun W B C (actions_of s) p ≡ Some q → IsSafe m p → IsSafe m q
  simple-safe (without true) C s p q w e h = simple-shut W B C s p q w e h
  simple-safe (without false) C s p q w e h = tt
  simple-safe unshared C s p q w e h = tt

  body-sound : (m : Mode) (C : Scope R) (S : List ℕ) (b : Code) (g : Signature R) (r e : Stack R) → Covers W B C.sets S → IsPlain W m C → Sound m C b → check W B C b (fresh g) ≡ Some r → lend W g.gives r ≡ Some e → Typed W B (over S C) b (vals g.takes) [] (vals g.gives)
  unfolding Sound
  body-sound m C S b g r e v n h k l = inside-typed (over S C) b g (h n S (fresh g) r (onto (vals g.gives) []) v (fresh-safe m g) k (end-sound W g.gives r e l))

  -- what follows a block
  behind_block :
      (m : Mode) (C : Scope R) (S : List ℕ) (d c : Code) (ts : List (ValueType R)) (g : Signature R) (l p q : Stack R) (zs : List (ValueType R))
      → Covers W B (l.sets ++ C.sets) S → IsSafe m l → IsPlain W m C → Sound m C c → check W B C c (lpush g.gives l) ≡ Some q → FitsStack W q zs
      → is_one d ≡ true → Typed W B (over S C) d ts [] (vals g.gives) → ((ws : List (ValueType R)) → FitsStack W l ws → FitsStack W p (onto ts ws)) → Found (over S C) (and_then d c) p zs
  unfolding Sound
  behind_block m C S d c ts g l p q zs v s n h e f i t k =
      let a : Found (over S C) c (lpush g.gives l) zs = h n S (lpush g.gives l) q zs v (push-safe m g.gives l s) e f in
      let b : Split W g.gives l.unreached l.items a.before = push-sound W l.unreached g.gives l.items a.before a.fits in
      record {
        before = onto ts b.back;
        fits = k b.back b.fits;
        typed = in_turn (over S C) d c [] ts (vals g.gives) b.front b.back a.before (rev zs) i t a.typed b.is b.greater;
      }

  -- the labels in a block
  deeper-plain : (m : Mode) (C : Scope R) (D : Scope R) (x : Opening) (k : Kind) (e : Entered R) → Allows W B m → Opens W B D x e.signature → IsPlain W m C → IsPlain W m (deeper k e C)
  deeper-plain (without b) C D x k e u h n = tt
  deeper-plain unshared C D x k e u h n = (label-unshared W B u k e.signature (opened-unshared W B u D x e.signature h), n)

  -- checks alone
  only_checks : (E : Scope R) (cs : List Check) (r q : Stack R) → lrun W B E (checked cs []) r ≡ Some q → AllHold W B (over (r.sets ++ E.sets) E) cs × (r ≡ q)
  only_checks E cs r q e = let k = passed W o B E (r.sets ++ E.sets) cs [] r q (λ m h. h) e in (k.0, the_same r q k.1)

  -- a handler, behind code that ends
  record Caught (D : Scope R) (x : Handler) (e : Entered R) (r : Stack R) (vs : List (Val R)) : Type 0 where
    catches : Catches W B D x vs
    end : Stack R
    ends : lend W e.signature.gives r ≡ Some end

  caught : (D E : Scope R) (x : Handler) (e : Entered R) (r : Stack R) (vs : List (Val R)) → lcatch W B E x e r ≡ Some vs → Caught D x e r vs
  caught D E x e r vs h =
      let a = bind-gives (lrun W B E (checked (handler_checks x) []) r) (λ q. types_in W B E.labels E.returns (handler_operands x) >>= λ ws. lend W e.signature.gives q >>= λ z. Some ws) vs h in
      let k = only_checks E (handler_checks x) r a.0 a.1 in
      let b = bind-gives (types_in W B E.labels E.returns (handler_operands x)) (λ ws. lend W e.signature.gives a.0 >>= λ z. Some ws) vs a.2 in
      let d = bind-gives (lend W e.signature.gives a.0) (λ z. Some b.0) vs b.2 in
      record {
        catches = record {
          holds = handler-holds W o B (over (r.sets ++ E.sets) E) D x k.0;
          found = handler-finds W o B E D x vs (b.1 ∙ d.2);
        };
        end = d.0;
        ends = ap (lend W e.signature.gives) k.1 ∙ d.1;
      }

  -- what handlers lead to, and the code before them
  record Handled (D : Scope R) (e : Entered R) (hs : Handlers) (r q : Stack R) : Type 0 where
    handles : Handle W B D hs e.signature.gives
    end : Stack R
    ends : lend W e.signature.gives r ≡ Some end
    is : lpush e.signature.gives e.left ≡ q

  -- the code of a handler
  handler-typed :
      (m : Mode) (C : Scope R) (S : List ℕ) (x : Handler) (e : Entered R) (b : Code) (vs : List (Val R)) (r z : Stack R) → Covers W B (e.left.sets ++ C.sets) S → IsPlain W m (deeper (handler_kind x) e C)
      → Sound m (deeper (handler_kind x) e C) b → check W B (deeper (handler_kind x) e C) b (starting vs) ≡ Some r → lend W e.signature.gives r ≡ Some z
      → Typed W B (in_handler e.signature.gives (over S C)) b (vals vs) [] (vals e.signature.gives)
  handler-typed m C S (a_catch x) e b vs r z v n h k l = body-sound m (deeper legacy_catch_kind e C) S b (record { takes = vs; gives = e.signature.gives }) r z v n h k l
  handler-typed m C S a_catch_all e b vs r z v n h k l = body-sound m (deeper legacy_catch_all_kind e C) S b (record { takes = vs; gives = e.signature.gives }) r z v n h k l

  -- what the code of handlers has to be
  HandlesSound : Mode → Scope R → Handlers → Type 0
  HandlesSound m C hs =
      (S : List ℕ) (k : Kind) (e : Entered R) (r q : Stack R) → Covers W B (e.left.sets ++ C.sets) S → ((j : Kind) → IsPlain W m (deeper j e C)) → handle W B C k e hs r ≡ Some q → Handled (over S C) e hs r q

  last-sound : (m : Mode) (C : Scope R) (x : Handler) (b : Code) → ((E : Scope R) → Sound m E b) → HandlesSound m C (last_handler x b)
  unfolding HandlesSound
  last-sound m C x b h S k e r q v n i =
      let a = bind-gives (lcatch W B (deeper k e C) x e r) (λ vs. check W B (deeper (handler_kind x) e C) b (starting vs) >>= lshut W B (handler_kind x) e) q i in
      let c : Caught (over S C) x e r a.0 = caught (over S C) (deeper k e C) x e r a.0 a.1 in
      let f = bind-gives (check W B (deeper (handler_kind x) e C) b (starting a.0)) (lshut W B (handler_kind x) e) q a.2 in
      let g = bind-gives (lend W e.signature.gives f.0) (λ z. guard (may_end W B (handler_kind x) e.signature) (lpush e.signature.gives e.left)) q f.2 in
      let j = guard-gives (may_end W B (handler_kind x) e.signature) (lpush e.signature.gives e.left) q g.2 in
      record {
        handles = last_rule c.catches (handler-typed m C S x e b a.0 f.0 g.0 v (n (handler_kind x)) (h (deeper (handler_kind x) e C)) f.1 g.1);
        end = c.end;
        ends = c.ends;
        is = j.1;
      }

  before-sound : (m : Mode) (C : Scope R) (x : ℕ) (b : Code) (hs : Handlers) → ((E : Scope R) → Sound m E b) → HandlesSound m C hs → HandlesSound m C (catch_before x b hs)
  unfolding HandlesSound
  before-sound m C x b hs h l S k e r q v n i =
      let a = bind-gives (lcatch W B (deeper k e C) (a_catch x) e r) (λ vs. check W B (deeper legacy_catch_kind e C) b (starting vs) >>= handle W B C legacy_catch_kind e hs) q i in
      let c : Caught (over S C) (a_catch x) e r a.0 = caught (over S C) (deeper k e C) (a_catch x) e r a.0 a.1 in
      let f = bind-gives (check W B (deeper legacy_catch_kind e C) b (starting a.0)) (handle W B C legacy_catch_kind e hs) q a.2 in
      let d : Handled (over S C) e hs f.0 q = l S legacy_catch_kind e f.0 q v n f.2 in
      record {
        handles = before_rule c.catches (handler-typed m C S (a_catch x) e b a.0 f.0 d.end v (n legacy_catch_kind) (h (deeper legacy_catch_kind e C)) f.1 d.ends) d.handles;
        end = c.end;
        ends = c.ends;
        is = d.is;
      }

  -- where a `try` ends with a `delegate`
  record Delegated (D : Scope R) (l : ℕ) (e : Entered R) (r q : Stack R) : Type 0 where
    types : List (Val R)
    there : slice_get D.labels l ≡ Some types
    end : Stack R
    ends : lend W e.signature.gives r ≡ Some end
    is : lpush e.signature.gives e.left ≡ q

  delegated : (C : Scope R) (S : List ℕ) (l : ℕ) (e : Entered R) (r q : Stack R) → ldelegate W B C l e r ≡ Some q → Delegated (over S C) l e r q
  delegated C S l e r q i =
      let a = bind-gives (lrun W B (deeper legacy_try_kind e C) (checked (legacy_checks []) []) r) (λ y. guard (is_some (slice_get C.labels l)) y >>= lshut W B legacy_try_kind e) q i in
      let k = only_checks (deeper legacy_try_kind e C) (legacy_checks []) r a.0 a.1 in
      let b = bind-gives (guard (is_some (slice_get C.labels l)) a.0) (lshut W B legacy_try_kind e) q a.2 in
      let c = guard-gives (is_some (slice_get C.labels l)) a.0 b.0 b.1 in
      let t = some-gives (slice_get C.labels l) c.0 in
      let g = bind-gives (lend W e.signature.gives b.0) (λ z. Some (lpush e.signature.gives e.left)) q b.2 in
      record { types = t.0; there = t.1; end = g.0; ends = ap (lend W e.signature.gives) (k.1 ∙ c.1) ∙ g.1; is = the_same (lpush e.signature.gives e.left) q g.2 }

  -- that, used
  unhandled :
      (m : Mode) (C : Scope R) (hs : Handlers) → HandlesSound m C hs → (S : List ℕ) (k : Kind) (e : Entered R) (r q : Stack R) → Covers W B (e.left.sets ++ C.sets) S
      → ((j : Kind) → IsPlain W m (deeper j e C)) → handle W B C k e hs r ≡ Some q → Handled (over S C) e hs r q
  unfolding HandlesSound
  unhandled m C hs h S k e r q v n i = h S k e r q v n i

  -- a `try` takes what its block does
  without_condition :
      (y : Block ℕ) (g : Signature R) (l p : Stack R) → ((ws : List (ValueType R)) → FitsStack W l ws → FitsStack W p (onto (vals g.takes ++ vals (condition W o B (a_try y))) ws))
      → (ws : List (ValueType R)) → FitsStack W l ws → FitsStack W p (onto (vals g.takes) ws)
  without_condition y g l p f ws h = subst (λ (z : List (ValueType R)). FitsStack W p (onto z ws)) (append-nil (vals g.takes)) (f ws h)

  mutual
    unfolding Sound

    pub check-sound : (m : Mode) (c : Code) (C : Scope R) → Allows W B m → Fine m c → Sound m C c
    check-sound m done C u w i₀ S p q zs v s e h = record {
      before = zs;
      fits = subst (λ (z : Stack R). FitsStack W z zs) (sym (the_same p q e)) h;
      typed = nothing (over S C) (rev zs) (rev zs) (match-itself W o (rev zs));
    }
    check-sound m (simply i c) C u w i₀ S p q zs v s e h =
        let a = bind-gives (lrun W B C (actions_of (shape_of i)) p) (check W B C c) q e in
        let f = check-sound m c C u w.2 i₀ (sets_of (shape_of i) ++ S) a.0 q zs (covered-behind W B C (shape_of i) S p a.0 a.1 v) (simple-safe m C (shape_of i) p a.0 w.1 a.1 s) a.2 h in
        let r : Ruled W B (over S C) (shape_of i) p f.before = rule-sound W o B C S (shape_of i) p a.0 f.before w.0 (ready-for W m C (shape_of i) p w.1 s i₀) v a.1 f.fits in
        record {
          before = onto r.takes r.back;
          fits = r.fits;
          typed = in_turn (over S C) (simply i done) c (sets_of (shape_of i)) r.takes r.gives r.greater r.back f.before (rev zs) refl (instruction_rule r.rule) f.typed r.is r.match;
        }
    check-sound m (enclosing x b c) C u w i₀ S p q zs v s e h =
        let a = bind-gives (lenter W B C x p) (λ z. (check W B (deeper (kind_of x) z C) b (fresh z.signature) >>= lshut W B (kind_of x) z) >>= check W B C c) q e in
        let n : Entering m C S x p a.0 = entering m C S x p a.0 v s a.1 in
        let d = bind-gives (check W B (deeper (kind_of x) a.0 C) b (fresh a.0.signature) >>= lshut W B (kind_of x) a.0) (check W B C c) q a.2 in
        let f = bind-gives (check W B (deeper (kind_of x) a.0 C) b (fresh a.0.signature)) (lshut W B (kind_of x) a.0) d.0 d.1 in
        let g = bind-gives (lend W a.0.signature.gives f.0) (λ z. guard (may_end W B (kind_of x) a.0.signature) (lpush a.0.signature.gives a.0.left)) d.0 f.2 in
        let k = guard-gives (may_end W B (kind_of x) a.0.signature) (lpush a.0.signature.gives a.0.left) d.0 g.2 in
        behind_block m C S (enclosing x b done) c (vals a.0.signature.takes ++ vals (condition W o B x)) a.0.signature a.0.left p q zs n.covers n.safe i₀ (check-sound m c C u w.1)
        (subst (λ (z : Stack R). check W B C c z ≡ Some q) (sym k.1) d.2) h refl
        (block-typed (over S C) x b a.0.signature n.opens (body-sound m (deeper (kind_of x) a.0 C) S b a.0.signature f.0 g.0 n.covers (deeper-plain m C (over S C) x (kind_of x) a.0 u n.opens i₀) (check-sound m b (deeper (kind_of x) a.0 C) u w.0) f.1 g.1) k.0)
        n.fits
    check-sound m (choosing_between y b d c) C u w i₀ S p q zs v s e h =
        let a = bind-gives (lenter W B C (an_if y) p) (λ z. (check W B (deeper if_kind z C) b (fresh z.signature) >>= lend W z.signature.gives)
        >>= λ t. (check W B (deeper else_kind z C) d (fresh z.signature) >>= lshut W B else_kind z) >>= check W B C c) q e in
        let n : Entering m C S (an_if y) p a.0 = entering m C S (an_if y) p a.0 v s a.1 in
        let i = bind-gives (check W B (deeper if_kind a.0 C) b (fresh a.0.signature) >>= lend W a.0.signature.gives) (λ t. (check W B (deeper else_kind a.0 C) d (fresh a.0.signature) >>= lshut W B else_kind a.0) >>= check W B C c) q a.2 in
        let j = bind-gives (check W B (deeper if_kind a.0 C) b (fresh a.0.signature)) (lend W a.0.signature.gives) i.0 i.1 in
        let l = bind-gives (check W B (deeper else_kind a.0 C) d (fresh a.0.signature) >>= lshut W B else_kind a.0) (check W B C c) q i.2 in
        let f = bind-gives (check W B (deeper else_kind a.0 C) d (fresh a.0.signature)) (lshut W B else_kind a.0) l.0 l.1 in
        let g = bind-gives (lend W a.0.signature.gives f.0) (λ z. Some (lpush a.0.signature.gives a.0.left)) l.0 f.2 in
        behind_block m C S (choosing_between y b d done) c (vals a.0.signature.takes ++ val i32 ∷ []) a.0.signature a.0.left p q zs n.covers n.safe i₀ (check-sound m c C u w.2)
        (subst (λ (z : Stack R). check W B C c z ≡ Some q) (sym (the_same (lpush a.0.signature.gives a.0.left) l.0 g.2)) l.2) h refl
        (if_else_rule y a.0.signature n.opens
        (body-sound m (deeper if_kind a.0 C) S b a.0.signature j.0 i.0 n.covers (deeper-plain m C (over S C) (an_if y) if_kind a.0 u n.opens i₀) (check-sound m b (deeper if_kind a.0 C) u w.0) j.1 j.2)
        (body-sound m (deeper else_kind a.0 C) S d a.0.signature f.0 g.0 n.covers (deeper-plain m C (over S C) (an_if y) else_kind a.0 u n.opens i₀) (check-sound m d (deeper else_kind a.0 C) u w.1) f.1 g.1))
        n.fits
    check-sound m (handling y b hs c) C u w i₀ S p q zs v s e h =
        let a = bind-gives (lenter W B C (a_try y) p) (λ z. (check W B (deeper legacy_try_kind z C) b (fresh z.signature) >>= handle W B C legacy_try_kind z hs) >>= check W B C c) q e in
        let n : Entering m C S (a_try y) p a.0 = entering m C S (a_try y) p a.0 v s a.1 in
        let d = bind-gives (check W B (deeper legacy_try_kind a.0 C) b (fresh a.0.signature) >>= handle W B C legacy_try_kind a.0 hs) (check W B C c) q a.2 in
        let f = bind-gives (check W B (deeper legacy_try_kind a.0 C) b (fresh a.0.signature)) (handle W B C legacy_try_kind a.0 hs) d.0 d.1 in
        let j : Handled (over S C) a.0 hs f.0 d.0 = unhandled m C hs (handle-sound m hs C u w.1) S legacy_try_kind a.0 f.0 d.0 n.covers (λ k. deeper-plain m C (over S C) (a_try y) k a.0 u n.opens i₀) f.2 in
        behind_block m C S (handling y b hs done) c (vals a.0.signature.takes) a.0.signature a.0.left p q zs n.covers n.safe i₀ (check-sound m c C u w.2)
        (subst (λ (z : Stack R). check W B C c z ≡ Some q) (sym j.is) d.2) h refl
        (handling_rule y a.0.signature n.opens
        (body-sound m (deeper legacy_try_kind a.0 C) S b a.0.signature f.0 j.end n.covers (deeper-plain m C (over S C) (a_try y) legacy_try_kind a.0 u n.opens i₀) (check-sound m b (deeper legacy_try_kind a.0 C) u w.0) f.1 j.ends)
        j.handles)
        (without_condition y a.0.signature a.0.left p n.fits)
    check-sound m (delegating_to l y b c) C u w i₀ S p q zs v s e h =
        let a = bind-gives (lenter W B C (a_try y) p) (λ z. (check W B (deeper legacy_try_kind z C) b (fresh z.signature) >>= ldelegate W B C l z) >>= check W B C c) q e in
        let n : Entering m C S (a_try y) p a.0 = entering m C S (a_try y) p a.0 v s a.1 in
        let d = bind-gives (check W B (deeper legacy_try_kind a.0 C) b (fresh a.0.signature) >>= ldelegate W B C l a.0) (check W B C c) q a.2 in
        let f = bind-gives (check W B (deeper legacy_try_kind a.0 C) b (fresh a.0.signature)) (ldelegate W B C l a.0) d.0 d.1 in
        let j : Delegated (over S C) l a.0 f.0 d.0 = delegated C S l a.0 f.0 d.0 f.2 in
        behind_block m C S (delegating_to l y b done) c (vals a.0.signature.takes) a.0.signature a.0.left p q zs n.covers n.safe i₀ (check-sound m c C u w.1)
        (subst (λ (z : Stack R). check W B C c z ≡ Some q) (sym j.is) d.2) h refl
        (delegating_rule y a.0.signature n.opens
        (body-sound m (deeper legacy_try_kind a.0 C) S b a.0.signature f.0 j.end n.covers (deeper-plain m C (over S C) (a_try y) legacy_try_kind a.0 u n.opens i₀) (check-sound m b (deeper legacy_try_kind a.0 C) u w.0) f.1 j.ends)
        j.there)
        (without_condition y a.0.signature a.0.left p n.fits)

    handle-sound : (m : Mode) (hs : Handlers) (C : Scope R) → Allows W B m → AllFine m hs → HandlesSound m C hs
    handle-sound m (last_handler x b) C u w = last-sound m C x b (λ E. check-sound m b E u w)
    handle-sound m (catch_before x b hs) C u w = before-sound m C x b hs (λ E. check-sound m b E u w.0) (handle-sound m hs C u w.1)
