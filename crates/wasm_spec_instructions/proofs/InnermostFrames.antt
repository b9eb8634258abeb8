-- The machine on the whole stack of frames is the machine within the innermost one.
use Rattle.std.proofs.Common.{◌≡◌, refl, sym, ap, subst, ◌∙◌, ℕ, zero, suc, ◌+◌, ◌-◌, Bool, true, false, ◌==◌, List, [], ◌∷◌, ◌++◌, length, drop, Option, Some, None, option_map, is_some, ◌&&◌, if◌then◌else◌, slice_get, arith, length-append}
use Rattle.std.proofs.lemmas.Bool.Decides.{Decides-eqb}
use Rattle.std.proofs.Math.Seq.{drop-append_seam}
use Rattle.wasm_spec_steps.specs.WasmSpecRules.WasmSpec.Syntax.{eq_heap, concrete, exact, Val}
use Rattle.wasm_spec_steps.specs.WasmSpecRules.WasmSpec.MatchingTests.{World}
use Rattle.wasm_spec_steps.specs.WasmSpecRules.Attempts.{◌>>=◌, guard, passes, last_of, front_of}
use Rattle.wasm_spec_steps.specs.WasmSpecRules.Signatures.{Signature}
use Rattle.wasm_spec_steps.specs.Matching.{matches_vals, match_some}
use Rattle.wasm_operators.specs.Control.{Block}
use Rattle.wasm_spec_steps.specs.Bodies.{Surroundings}
use Rattle.wasm_spec_steps.specs.Machine.{Operand, known, Kind, else_kind, is_if, may_catch, Frame, State, pushed_onto, push_vals, push_operand, popped, pop_any, as_reference, pop_reference, non_null, chosen, matches_operand, pop_val, pop_vals, become_unreachable, has_caught, rethrows, push_frame, set_local}
use Rattle.wasm_spec_steps.specs.Actions.{OperandTypes, these, params, results, label, returned, local, global, function_reference, new_reference, descriptor_of, descriptor_for, fields, element, field, table_address, memory_address, table_element, segment, lesser_table_address, lesser_memory_address, top, repeated, front, last, continued, taken_by, given_by, joined, before, behind, Check, has, allows, global_is_mutable, local_is_set, function_is_referenced, is_exception, each_matches, each_matches_some, may_be_cast, can_be_tested, is_aligned, suits, fields_have_defaults, has_no_descriptor, field_is_mutable, field_is_packed, element_is_mutable, element_has_default, element_is_number, element_is_packed, element_is_storable, data_is_there, segment_is_there, reaches_global, reaches_table, reaches_type, reaches_function, Action, need, refuse, take, give, take_any, take_reference, take_comparable, make_non_null, choose, stop, turn_to_else, leave, take_below, convert, describe, enter, set, branch_on_null, branch_to_one_of, turn_to_catch, find_outside, find_caught}
use Rattle.wasm_spec_steps.specs.Meanings.{one, copies, all_but, last_ones, continued_signature, descriptor_at, described_by, described, label_by, resolve_block, block_signature, frame_signature, label_at, is_below_either, agree, converted, may_end, labels_fit, types_at, holds, pop_frame, act, run}
use Rattle.wasm_spec_steps.specs.Steps.{checked}
use Rattle.wasm_spec_instructions.specs.ValueTypes.{reference_at}
use Rattle.wasm_spec_instructions.specs.Scopes.{Scope, is_set, types_in, holds_in}
use Rattle.wasm_spec_instructions.proofs.Attempts.{the_same, bind-bind, bind-gives, some-some, not_true}
use Rattle.wasm_spec_instructions.proofs.FrameMachine.{Stack, stack, Entered, lpop_in, lpop, lpush, referring, referred, lpop_reference, lput, stopped, is_empty, without, entered, and_choose, choose_of, put_non_null, given_back, matched, lpop_val, lpops, lfit, emptied, lend, below, compared, compare_of, converting_to, null_for, null_at, in_table, table_for, ldescribed_by, ldescribed, described_of, IsWithin, lact, lrun, taking, signed, lenter_block, lshut, is_caught}

-- an attempt that is another one, seen otherwise, and what follows it
pub chain :
    {A B X Y : Type 0} (m : Option X) (l : Option A) (f : A → X) (g : X → Option Y) (h : A → Option B) (k : B → Y)
    → m ≡ (l >>= λ a. Some (f a)) → ((a : A) → g (f a) ≡ (h a >>= λ b. Some (k b))) → (m >>= g) ≡ ((l >>= h) >>= λ b. Some (k b))
chain m l f g h k e c = ap (λ o. o >>= g) e ∙ go l
  where
    go : (o : Option _) → ((o >>= λ a. Some (f a)) >>= g) ≡ ((o >>= h) >>= λ b. Some (k b))
    go None = refl
    go (Some a) = c a

guarded : {A B : Type 0} (b : Bool) (x : A) (f : A → B) → guard b (f x) ≡ (guard b x >>= λ y. Some (f y))
guarded true x f = refl
guarded false x f = refl

-- heights
at_height : {R : Type 0} (b : List (Operand R)) → (length b == length b) ≡ true
at_height b = (Decides-eqb (length b) (length b)).1 refl

above_height : {R : Type 0} (x : Operand R) (xs b : List (Operand R)) → (length ((x ∷ xs) ++ b) == length b) ≡ false
above_height x xs b = not_true _ (λ e. let f : length ((x ∷ xs) ++ b) ≡ length b = (Decides-eqb _ _).0 e in let k : length ((x ∷ xs) ++ b) ≡ length (x ∷ xs) + length b = length-append (x ∷ xs) b in absurd (omega (arith, f, k)))

dropped : {A : Type 0} (xs b : List A) → drop (length (xs ++ b) - length b) (xs ++ b) ≡ b
dropped xs b =
    let k : length (xs ++ b) ≡ length xs + length b = length-append xs b in
    let e : length (xs ++ b) - length b ≡ length xs = omega (arith, k) in
    ap (λ (n : ℕ). drop n (xs ++ b)) e ∙ drop-append_seam xs b

pushed_onto-above : {R : Type 0} (vs : List (Val R)) (xs b : List (Operand R)) → pushed_onto vs (xs ++ b) ≡ pushed_onto vs xs ++ b
pushed_onto-above [] xs b = refl
pushed_onto-above (v ∷ vs) xs b = pushed_onto-above vs (known v ∷ xs) b

abbrev pub frame_of : {R : Type 0} → Kind → Block R → List (Operand R) → List ℕ → Bool → Frame R
frame_of k b base inits u = record { kind = k; block = b; height = length base; unreachable = u; init_height = length inits }

abbrev pub results_of : {R : Type 0} → Signature R → List (Val R)
results_of g = g.gives

module _ {R : Type 0} (W : World R) (B : Surroundings R) where
  abbrev pub labels_of : List (Frame R) → ℕ → Option (List (Val R))
  labels_of fs n = slice_get fs n >>= λ x. option_map (label_by x.kind) (frame_signature W B x)

  abbrev pub returns_of : List (Frame R) → Option (List (Val R))
  returns_of fs = last_of fs >>= λ x. option_map (λ g. g.gives) (frame_signature W B x)

-- what doesn't change within a frame
pub record Place {R : Type 0} (W : World R) (B : Surroundings R) : Type 0 where
  pub kind : Kind
  pub block : Block R
  pub signature : Signature R
  pub base : List (Operand R)
  pub below : List (Frame R)
  pub inits : List ℕ
  pub labels : List (List (Val R))
  pub caught : List Bool
  pub returns : Option (List (Val R))
  pub is_signed : block_signature W B block ≡ Some signature
  pub is_labelled : (u : Bool) (n : ℕ) → labels_of W B (frame_of kind block base inits u ∷ below) n ≡ slice_get labels n
  pub is_there : (u : Bool) (n : ℕ) → is_some (slice_get (frame_of kind block base inits u ∷ below) n) ≡ is_some (slice_get labels n)
  pub is_handler : (u : Bool) (n : ℕ) → rethrows (frame_of kind block base inits u ∷ below) n ≡ passes (λ b. b) (slice_get caught n)
  pub is_returned : (u : Bool) → returns_of W B (frame_of kind block base inits u ∷ below) ≡ returns

module _ {R : Type 0} {W : World R} {B : Surroundings R} where
  abbrev pub frame : Place W B → Bool → Frame R
  frame P u = frame_of P.kind P.block P.base P.inits u

  abbrev pub at : Place W B → Stack R → State R
  at P p = record { operands = p.items ++ P.base; frames = frame P p.unreached ∷ P.below; inits = p.sets ++ P.inits }

  abbrev pub with_at : Place W B → Operand R × Stack R → Operand R × State R
  with_at P q = (q.0, at P q.1)

  abbrev pub scope : Place W B → Scope R
  scope P = record { labels = P.labels; caught = P.caught; returns = P.returns; sets = P.inits }

module _ {R : Type 0} {W : World R} {B : Surroundings R} (P : Place W B) where
  pop_any-in : (is : List ℕ) (u : Bool) (xs : List (Operand R)) → pop_any (at P (stack is u xs)) ≡ (lpop_in is u xs >>= λ q. Some (with_at P q))
  pop_any-in is u (x ∷ xs) = ap (λ (b : Bool). popped b u (x ∷ (xs ++ P.base)) (at P (stack is u (x ∷ xs)))) (above_height x xs P.base)
  pop_any-in is true [] = ap (λ (b : Bool). popped b true P.base (at P (stack is true []))) (at_height P.base)
  pop_any-in is false [] = ap (λ (b : Bool). popped b false P.base (at P (stack is false []))) (at_height P.base)

  pop_any-at : (p : Stack R) → pop_any (at P p) ≡ (lpop p >>= λ q. Some (with_at P q))
  pop_any-at p = pop_any-in p.sets p.unreached p.items

  pop_val-at : (v : Val R) (p : Stack R) → pop_val W v (at P p) ≡ (lpop_val W v p >>= λ q. Some (at P q))
  pop_val-at v p = chain (pop_any (at P p)) (lpop p) (with_at P) (λ q. guard (matches_operand W q.0 v) q.1) (matched W v) (at P) (pop_any-at p) (λ q. guarded (matches_operand W q.0 v) q.1 (at P))

  pub pop_vals-at : (vs : List (Val R)) (p : Stack R) → pop_vals W vs (at P p) ≡ (lpops W vs p >>= λ q. Some (at P q))
  pop_vals-at [] p = refl
  pop_vals-at (v ∷ vs) p = chain (pop_vals W vs (at P p)) (lpops W vs p) (at P) (pop_val W v) (lpop_val W v) (at P) (pop_vals-at vs p) (pop_val-at v)

  pub push_vals-at : (vs : List (Val R)) (p : Stack R) → push_vals vs (at P p) ≡ at P (lpush vs p)
  push_vals-at vs p = λ i. record { operands = pushed_onto-above vs p.items P.base i; frames = frame P p.unreached ∷ P.below; inits = p.sets ++ P.inits }

  abbrev referred_in : Operand R × State R → Option (Operand R × State R)
  referred_in q = as_reference q.0 >>= λ x. Some (x, q.1)

  pop_reference-at : (p : Stack R) → pop_reference (at P p) ≡ (lpop_reference p >>= λ q. Some (with_at P q))
  pop_reference-at p = chain (pop_any (at P p)) (lpop p) (with_at P) referred_in referred (with_at P) (pop_any-at p) (λ q. sym (bind-bind (as_reference q.0) (referring q.1) (λ z. Some (with_at P z))))

  label_at-at : (p : Stack R) (n : ℕ) → label_at W B (at P p) n ≡ slice_get P.labels n
  label_at-at p n = P.is_labelled p.unreached n

  labels_fit-at : (p : Stack R) (k : ℕ) (ns : List ℕ) → labels_fit W B (at P p) k ns ≡ lfit W P.labels p k ns
  labels_fit-at p k [] = refl
  labels_fit-at p k (n ∷ ns) =
      (λ i. passes (λ vs. (length vs == k) && is_some (pop_vals-at vs p i)) (label_at-at p n i) && labels_fit-at p k ns i)
      ∙ (λ i. passes (λ vs. (length vs == k) && some-some (lpops W vs p) (at P) i) (slice_get P.labels n) && lfit W P.labels p k ns)

  stopped-at : (p : Stack R) → become_unreachable (at P p) ≡ Some (at P (stopped p))
  stopped-at p = λ i. Some (record { operands = dropped p.items P.base i; frames = frame P true ∷ P.below; inits = p.sets ++ P.inits })

  -- the types and checks of the table
  types_at-at : (p : Stack R) (t : OperandTypes) → types_at W B (at P p) t ≡ types_in W B P.labels P.returns t
  types_at-at p (label n) = label_at-at p n
  types_at-at p returned = P.is_returned p.unreached
  types_at-at p (repeated n t) = λ i. option_map (copies n) (types_at-at p t i)
  types_at-at p (front t) = λ i. option_map front_of (types_at-at p t i)
  types_at-at p (last t) = λ i. one (types_at-at p t i >>= last_of)
  types_at-at p (taken_by t) = λ i. option_map (λ g. g.takes) (types_at-at p t i >>= continued_signature W B)
  types_at-at p (given_by t) = λ i. option_map (λ g. g.gives) (types_at-at p t i >>= continued_signature W B)
  types_at-at p (before t u) = λ i. types_at-at p t i >>= λ vs. types_at-at p u i >>= λ ws. all_but (length ws) vs
  types_at-at p (behind t u) = λ i. types_at-at p t i >>= λ vs. types_at-at p u i >>= λ ws. last_ones (length ws) vs
  types_at-at p (joined t u) = λ i. types_at-at p t i >>= λ vs. types_at-at p u i >>= λ ws. Some (vs ++ ws)
  types_at-at p (these vs) = refl
  types_at-at p (params g) = refl
  types_at-at p (results g) = refl
  types_at-at p (local n) = refl
  types_at-at p (global n) = refl
  types_at-at p (function_reference n) = refl
  types_at-at p (new_reference n) = refl
  types_at-at p (descriptor_of n) = refl
  types_at-at p (descriptor_for x) = refl
  types_at-at p (fields n) = refl
  types_at-at p (element n) = refl
  types_at-at p (field n k) = refl
  types_at-at p (table_address n) = refl
  types_at-at p (memory_address n) = refl
  types_at-at p (table_element n) = refl
  types_at-at p (segment n) = refl
  types_at-at p (lesser_table_address m n) = refl
  types_at-at p (lesser_memory_address m n) = refl
  types_at-at p (top r) = refl
  types_at-at p (continued n) = refl

  holds-at : (p : Stack R) (c : Check) → holds W B (at P p) c ≡ holds_in W B P.labels P.returns (p.sets ++ P.inits) c
  holds-at p (local_is_set n) = refl
  holds-at p (each_matches t u) = λ i. passes (λ vs. passes (matches_vals W vs) (types_at-at p u i)) (types_at-at p t i)
  holds-at p (each_matches_some t u) = λ i. passes (λ vs. passes (λ ws. match_some W ws vs) (types_at-at p u i)) (types_at-at p t i)
  holds-at p (has n) = refl
  holds-at p (allows v) = refl
  holds-at p (global_is_mutable n) = refl
  holds-at p (function_is_referenced n) = refl
  holds-at p (is_exception n) = refl
  holds-at p (may_be_cast r q) = refl
  holds-at p (can_be_tested r) = refl
  holds-at p (is_aligned op m) = refl
  holds-at p (suits f values) = refl
  holds-at p (fields_have_defaults n) = refl
  holds-at p (has_no_descriptor n) = refl
  holds-at p (field_is_mutable n k) = refl
  holds-at p (field_is_packed b n k) = refl
  holds-at p (element_is_mutable n) = refl
  holds-at p (element_has_default n) = refl
  holds-at p (element_is_number n) = refl
  holds-at p (element_is_packed b n) = refl
  holds-at p (element_is_storable m n) = refl
  holds-at p (data_is_there n) = refl
  holds-at p (segment_is_there n) = refl
  holds-at p (reaches_global n) = refl
  holds-at p (reaches_table n) = refl
  holds-at p (reaches_type n) = refl
  holds-at p (reaches_function n) = refl

  -- what follows a reference that was taken
  after_reference :
      (p : Stack R) (g : Operand R × State R → Option (State R)) (h : Operand R × Stack R → Option (Stack R))
      → ((q : Operand R × Stack R) → g (with_at P q) ≡ (h q >>= λ z. Some (at P z))) → (pop_reference (at P p) >>= g) ≡ ((lpop_reference p >>= h) >>= λ z. Some (at P z))
  after_reference p g h e = chain (pop_reference (at P p)) (lpop_reference p) (with_at P) g h (at P) (pop_reference-at p) e

  after_any :
      (p : Stack R) (g : Operand R × State R → Option (State R)) (h : Operand R × Stack R → Option (Stack R))
      → ((q : Operand R × Stack R) → g (with_at P q) ≡ (h q >>= λ z. Some (at P z))) → (pop_any (at P p) >>= g) ≡ ((lpop p >>= h) >>= λ z. Some (at P z))
  after_any p g h e = chain (pop_any (at P p)) (lpop p) (with_at P) g h (at P) (pop_any-at p) e

  -- what describes a reference
  described_by-at : (b : R) (o r : Option (Stack R)) → described_by W B b (o >>= λ q. Some (at P q)) (r >>= λ q. Some (at P q)) ≡ (ldescribed_by b o r >>= λ q. Some (at P q))
  described_by-at b (Some x) r = refl
  described_by-at b None None = refl
  described_by-at b None (Some x) = refl

  described-at : (a b : R) (p : Stack R) → described W B a b (at P p) ≡ (ldescribed W a b p >>= λ q. Some (at P q))
  described-at a b p =
      (λ i. described_by W B b (pop_vals-at (reference_at true (exact a) ∷ []) p i) (pop_vals-at (reference_at true (concrete a) ∷ []) p i))
      ∙ described_by-at b (lpops W (reference_at true (exact a) ∷ []) p) (lpops W (reference_at true (concrete a) ∷ []) p)

  -- actions
  pub act-at : (a : Action) (p : Stack R) → IsWithin W B a → act W B a (at P p) ≡ (lact W B (scope P) a p >>= λ q. Some (at P q))
  act-at (need c) p w = ap (λ (b : Bool). guard b (at P p)) (holds-at p c) ∙ guarded (holds_in W B P.labels P.returns (p.sets ++ P.inits) c) p (at P)
  act-at refuse p w = refl
  act-at (take t) p w =
      (λ i. types_at-at p t i >>= λ vs. pop_vals-at vs p i)
      ∙ sym (bind-bind (types_in W B P.labels P.returns t) (λ vs. lpops W vs p) (λ q. Some (at P q)))
  act-at (give t) p w =
      (λ i. types_at-at p t i >>= λ vs. Some (push_vals-at vs p i))
      ∙ sym (bind-bind (types_in W B P.labels P.returns t) (λ vs. Some (lpush vs p)) (λ q. Some (at P q)))
  act-at take_any p w = after_any p (λ q. Some q.1) without (λ q. refl)
  act-at stop p w = stopped-at p
  act-at (set n) p w = go (is_set W B n (p.sets ++ P.inits))
    where
      go : (b : Bool) → Some (set_local b n (at P p)) ≡ Some (at P (record p { sets = if b then p.sets else n ∷ p.sets }))
      go true = refl
      go false = refl
  act-at take_reference p w = after_reference p (λ q. Some q.1) without (λ q. refl)
  act-at make_non_null p w = after_reference p (λ q. Some (push_operand (non_null q.0) q.1)) put_non_null (λ q. refl)
  act-at (take_below k) p w = after_reference p (λ q. guard (is_below_either W B k q.0) q.1) (below W B k) (λ q. guarded (is_below_either W B k q.0) q.1 (at P))
  act-at (convert j k) p w =
      after_reference p (λ q. guard (is_below_either W B j q.0) (push_operand (converted W B k q.0) q.1)) (converting_to W B j k)
      (λ q. guarded (is_below_either W B j q.0) (lput (converted W B k q.0) q.1) (at P))
  act-at (describe n) p w =
      (λ i. slice_get B.context.types n >>= λ a. descriptor_at W B n >>= λ b. described-at a b p i)
      ∙ (λ i. slice_get B.context.types n >>= λ a. sym (bind-bind (descriptor_at W B n) (λ b. ldescribed W a b p) (λ q. Some (at P q))) i)
      ∙ sym (bind-bind (slice_get B.context.types n) (described_of W B n p) (λ q. Some (at P q)))
  act-at take_comparable p w =
      after_reference p (λ a. pop_reference a.1 >>= λ b. guard (is_below_either W B eq_heap a.0 && is_below_either W B eq_heap b.0 && agree W B a.0 b.0) b.1) (compare_of W B)
      (λ a. after_reference a.1 (λ b. guard (is_below_either W B eq_heap a.0 && is_below_either W B eq_heap b.0 && agree W B a.0 b.0) b.1) (compared W B a.0)
      (λ b. guarded (is_below_either W B eq_heap a.0 && is_below_either W B eq_heap b.0 && agree W B a.0 b.0) b.1 (at P)))
  act-at choose p w =
      after_any p (λ a. pop_any a.1 >>= λ b. chosen a.0 b.0 >>= λ x. Some (push_operand x b.1)) choose_of
      (λ a. after_any a.1 (λ b. chosen a.0 b.0 >>= λ x. Some (push_operand x b.1)) (and_choose a.0)
      (λ b. sym (bind-bind (chosen a.0 b.0) (λ x. Some (lput x b.1)) (λ z. Some (at P z)))))
  act-at (branch_on_null n) p w =
      after_reference p (λ a. label_at W B (at P p) n >>= λ vs. pop_vals W vs a.1 >>= λ t. Some (push_operand (non_null a.0) (push_vals vs t))) (null_at W B P.labels n)
      (λ a. (λ i. label_at-at p n i >>= λ vs. pop_vals W vs (at P a.1) >>= λ t. Some (push_operand (non_null a.0) (push_vals vs t)))
      ∙ (λ i. slice_get P.labels n >>= λ vs. null a vs i)
      ∙ sym (bind-bind (slice_get P.labels n) (null_for W B a) (λ z. Some (at P z))))
    where
      null : (a : Operand R × Stack R) (vs : List (Val R)) → (pop_vals W vs (at P a.1) >>= λ t. Some (push_operand (non_null a.0) (push_vals vs t))) ≡ (null_for W B a vs >>= λ z. Some (at P z))
      null a vs = chain (pop_vals W vs (at P a.1)) (lpops W vs a.1) (at P) (λ t. Some (push_operand (non_null a.0) (push_vals vs t))) (given_back a.0 vs) (at P) (pop_vals-at vs a.1) (λ t i. Some (push_operand (non_null a.0) (push_vals-at vs t i)))
  act-at (branch_to_one_of ns n) p w =
      (λ i. label_at-at p n i >>= λ vs. pop_vals W vs (at P p) >>= λ t. guard (labels_fit W B (at P p) (length vs) ns) t >>= become_unreachable)
      ∙ (λ i. slice_get P.labels n >>= λ vs. table vs i)
      ∙ sym (bind-bind (slice_get P.labels n) (table_for W B P.labels p ns) (λ z. Some (at P z)))
    where
      stopping : (b : Bool) (t : Stack R) → (guard b (at P t) >>= become_unreachable) ≡ (guard b (stopped t) >>= λ z. Some (at P z))
      stopping true t = stopped-at t
      stopping false t = refl

      table : (vs : List (Val R)) → (pop_vals W vs (at P p) >>= λ t. guard (labels_fit W B (at P p) (length vs) ns) t >>= become_unreachable) ≡ (table_for W B P.labels p ns vs >>= λ z. Some (at P z))
      table vs =
          chain (pop_vals W vs (at P p)) (lpops W vs p) (at P) (λ t. guard (labels_fit W B (at P p) (length vs) ns) t >>= become_unreachable) (in_table W B P.labels p ns vs) (at P) (pop_vals-at vs p)
          (λ t. (λ i. guard (labels_fit-at p (length vs) ns i) (at P t) >>= become_unreachable) ∙ stopping (lfit W P.labels p (length vs) ns) t)
  act-at turn_to_else p w = absurd w
  act-at leave p w = absurd w
  act-at (enter k b) p w = absurd w
  act-at (turn_to_catch t k) p w = absurd w
  act-at (find_outside n) p w = absurd w
  act-at (find_caught n) p w = ap (λ (b : Bool). guard b (at P p)) (P.is_handler p.unreached n) ∙ guarded (is_caught W B P.caught n) p (at P)

  abbrev pub AllWithin : List Action → Type 0
  AllWithin [] = Unit {0}
  AllWithin (a ∷ as_) = IsWithin W B a × AllWithin as_

  -- what follows checks
  pub checked-at : (cs : List Check) (as_ : List Action) (p : Stack R) → run W B (checked cs as_) (at P p) ≡ (lrun W B (scope P) (checked cs []) p >>= λ q. run W B as_ (at P q))
  checked-at [] as_ p = refl
  checked-at (c ∷ cs) as_ p =
      (λ i. act-at (need c) p tt i >>= run W B (checked cs as_))
      ∙ bind-bind (lact W B (scope P) (need c) p) (λ q. Some (at P q)) (run W B (checked cs as_))
      ∙ (λ i. lact W B (scope P) (need c) p >>= λ q. checked-at cs as_ q i)
      ∙ sym (bind-bind (lact W B (scope P) (need c) p) (lrun W B (scope P) (checked cs [])) (λ q. run W B as_ (at P q)))

  pub run-at : (as_ : List Action) (p : Stack R) → AllWithin as_ → run W B as_ (at P p) ≡ (lrun W B (scope P) as_ p >>= λ q. Some (at P q))
  run-at [] p w = refl
  run-at (a ∷ as_) p w =
      chain (act W B a (at P p)) (lact W B (scope P) a p) (at P) (run W B as_) (lrun W B (scope P) as_) (at P) (act-at a p w.0) (λ q. run-at as_ q w.1)

-- the signature of what was entered is that of its block type
abbrev pub IsSigned : {R : Type 0} (W : World R) (B : Surroundings R) → Entered R → Type 0
IsSigned W B e = block_signature W B e.block ≡ Some e.signature

pub lenter-signed : {R : Type 0} (W : World R) (B : Surroundings R) (b : Block ℕ) (p : Stack R) (e : Entered R) → lenter_block W B b p ≡ Some e → IsSigned W B e
lenter-signed {R} W B b p e h =
    let x = bind-gives (resolve_block B.context.types b) (signed W B p) e h in
    let y = bind-gives (block_signature W B x.0) (taking W B x.0 p) e x.2 in
    let z = bind-gives (lpops W y.0.takes p) (entered x.0 y.0) e y.2 in
    subst (λ (w : Entered R). IsSigned W B w) (the_same (record { block = x.0; signature = y.0; left = z.0 }) e z.2) y.1

record_of : {R : Type 0} → List (Operand R) → List (Frame R) → List ℕ → State R
record_of os fs is = record { operands = os; frames = fs; inits = is }

ended-over :
    {R : Type 0} (is : List ℕ) (u : Bool) (xs b : List (Operand R)) (fs : List (Frame R)) (ns : List ℕ)
    → guard (length (xs ++ b) == length b) (record_of (xs ++ b) fs (drop (length (is ++ ns) - length ns) (is ++ ns))) ≡ (guard (is_empty xs) (stack is u xs) >>= λ e. Some (record_of b fs ns))
ended-over is u [] b fs ns = ap (λ (c : Bool). guard c (record_of b fs (drop (length (is ++ ns) - length ns) (is ++ ns)))) (at_height b) ∙ (λ i. Some (record_of b fs (dropped is ns i)))
ended-over is u (x ∷ xs) b fs ns = ap (λ (c : Bool). guard c (record_of ((x ∷ xs) ++ b) fs (drop (length (is ++ ns) - length ns) (is ++ ns)))) (above_height x xs b)

-- frames that are entered, turned and left
module _ {R : Type 0} {W : World R} {B : Surroundings R} where
  -- the state in a block that was entered, over these operands
  abbrev pub opened_over : Place W B → Kind → Entered R → List (Val R) → State R
  opened_over P k e vs = record {
    operands = pushed_onto vs [] ++ (e.left.items ++ P.base);
    frames = frame_of k e.block (e.left.items ++ P.base) (e.left.sets ++ P.inits) false ∷ frame P e.left.unreached ∷ P.below;
    inits = e.left.sets ++ P.inits;
  }

  abbrev pub opened : Place W B → Kind → Entered R → State R
  opened P k e = opened_over P k e e.signature.takes

  pub inside-labelled :
      (P : Place W B) (k : Kind) (e : Entered R) → IsSigned W B e → (u : Bool) (n : ℕ)
      → labels_of W B (frame_of k e.block (e.left.items ++ P.base) (e.left.sets ++ P.inits) u ∷ frame P e.left.unreached ∷ P.below) n ≡ slice_get (label_by k e.signature ∷ P.labels) n
  inside-labelled P k e h u zero = λ i. option_map (label_by k) (h i)
  inside-labelled P k e h u (suc n) = P.is_labelled e.left.unreached n

  pub inside-there :
      (P : Place W B) (k : Kind) (e : Entered R) (u : Bool) (n : ℕ)
      → is_some (slice_get (frame_of k e.block (e.left.items ++ P.base) (e.left.sets ++ P.inits) u ∷ frame P e.left.unreached ∷ P.below) n) ≡ is_some (slice_get (label_by k e.signature ∷ P.labels) n)
  inside-there P k e u zero = refl
  inside-there P k e u (suc n) = P.is_there e.left.unreached n

  pub inside-handler :
      (P : Place W B) (k : Kind) (e : Entered R) (u : Bool) (n : ℕ)
      → rethrows (frame_of k e.block (e.left.items ++ P.base) (e.left.sets ++ P.inits) u ∷ frame P e.left.unreached ∷ P.below) n ≡ passes (λ b. b) (slice_get (has_caught k ∷ P.caught) n)
  inside-handler P k e u zero = refl
  inside-handler P k e u (suc n) = P.is_handler e.left.unreached n

  abbrev pub inside : (P : Place W B) (k : Kind) (e : Entered R) → IsSigned W B e → Place W B
  inside P k e h = record {
    kind = k;
    block = e.block;
    signature = e.signature;
    base = e.left.items ++ P.base;
    below = frame P e.left.unreached ∷ P.below;
    inits = e.left.sets ++ P.inits;
    labels = label_by k e.signature ∷ P.labels;
    caught = has_caught k ∷ P.caught;
    returns = P.returns;
    is_signed = h;
    is_labelled = inside-labelled P k e h;
    is_there = inside-there P k e;
    is_handler = inside-handler P k e;
    is_returned = λ u. P.is_returned e.left.unreached;
  }

  pub entered-over :
      (P : Place W B) (k : Kind) (c : Block R) (g : Signature R) (q : Stack R) (vs : List (Val R)) → push_frame k c vs (at P q) ≡ opened_over P k (record { block = c; signature = g; left = q }) vs
  entered-over P k c g q vs = λ i. record {
    operands = pushed_onto-above vs [] (q.items ++ P.base) i;
    frames = frame_of k c (q.items ++ P.base) (q.sets ++ P.inits) false ∷ frame P q.unreached ∷ P.below;
    inits = q.sets ++ P.inits;
  }

  entered-at : (P : Place W B) (k : Kind) (c : Block R) (g : Signature R) (q : Stack R) → push_frame k c g.takes (at P q) ≡ opened P k (record { block = c; signature = g; left = q })
  entered-at P k c g q = entered-over P k c g q g.takes

  pub enter-at : (P : Place W B) (k : Kind) (b : Block ℕ) (p : Stack R) → act W B (enter k b) (at P p) ≡ (lenter_block W B b p >>= λ e. Some (opened P k e))
  enter-at P k b p =
      (λ i. resolve_block B.context.types b >>= λ c. block_signature W B c >>= λ g. taken c g i)
      ∙ (λ i. resolve_block B.context.types b >>= λ c. sym (bind-bind (block_signature W B c) (taking W B c p) (λ e. Some (opened P k e))) i)
      ∙ sym (bind-bind (resolve_block B.context.types b) (signed W B p) (λ e. Some (opened P k e)))
    where
      taken : (c : Block R) (g : Signature R) → (pop_vals W g.takes (at P p) >>= λ t. Some (push_frame k c g.takes t)) ≡ (taking W B c p g >>= λ e. Some (opened P k e))
      taken c g = chain (pop_vals W g.takes (at P p)) (lpops W g.takes p) (at P) (λ t. Some (push_frame k c g.takes t)) (entered c g) (opened P k) (pop_vals-at P g.takes p) (λ q i. Some (entered-at P k c g q i))

  -- the end of a frame, whatever lies below
  abbrev pub over : Place W B → State R
  over P = record { operands = P.base; frames = P.below; inits = P.inits }

  abbrev shut : Place W B → State R → Option (State R)
  shut P t = guard (length t.operands == length P.base) (record t { frames = P.below; inits = drop (length t.inits - length P.inits) t.inits })

  pop_frame-at : (P : Place W B) (r : Stack R) → pop_frame W B (frame P r.unreached) P.below P.signature (at P r) ≡ (lend W P.signature.gives r >>= λ z. Some (over P))
  unfolding record_of
  pop_frame-at P r = chain (pop_vals W P.signature.gives (at P r)) (lpops W P.signature.gives r) (at P) (shut P) (emptied W) (λ z. over P) (pop_vals-at P P.signature.gives r) (λ z. ended-over z.sets z.unreached z.items P.base P.below P.inits)

  abbrev pub left_by : Place W B → Signature R → State R → Option (State R)
  left_by P g t = guard (may_end W B P.kind g) (push_vals g.gives t)

  pub leave-any : (P : Place W B) (r : Stack R) → act W B leave (at P r) ≡ (lend W P.signature.gives r >>= λ z. left_by P P.signature (over P))
  leave-any P r =
      (λ i. P.is_signed i >>= λ g. pop_frame W B (frame P r.unreached) P.below g (at P r) >>= left_by P g)
      ∙ (λ i. pop_frame-at P r i >>= left_by P P.signature)
      ∙ bind-bind (lend W P.signature.gives r) (λ z. Some (over P)) (left_by P P.signature)

  pub leave-at : (P : Place W B) (k : Kind) (e : Entered R) (h : IsSigned W B e) (r : Stack R) → act W B leave (at (inside P k e h) r) ≡ (lshut W B k e r >>= λ z. Some (at P z))
  leave-at P k e h r =
      leave-any (inside P k e h) r
      ∙ (λ i. lend W e.signature.gives r >>= λ z. shutting i)
      ∙ sym (bind-bind (lend W e.signature.gives r) (λ z. guard (may_end W B k e.signature) (lpush e.signature.gives e.left)) (λ z. Some (at P z)))
    where
      shutting : guard (may_end W B k e.signature) (push_vals e.signature.gives (at P e.left)) ≡ (guard (may_end W B k e.signature) (lpush e.signature.gives e.left) >>= λ z. Some (at P z))
      shutting = ap (λ (s : State R). guard (may_end W B k e.signature) s) (push_vals-at P e.signature.gives e.left) ∙ guarded (may_end W B k e.signature) (lpush e.signature.gives e.left) (at P)

  abbrev pub turned_by : Place W B → Signature R → State R → Option (State R)
  turned_by P g t = guard (is_if P.kind) (push_frame else_kind P.block g.takes t)

  pub turn-any : (P : Place W B) (r : Stack R) → act W B turn_to_else (at P r) ≡ (lend W P.signature.gives r >>= λ z. turned_by P P.signature (over P))
  turn-any P r =
      (λ i. P.is_signed i >>= λ g. pop_frame W B (frame P r.unreached) P.below g (at P r) >>= turned_by P g)
      ∙ (λ i. pop_frame-at P r i >>= turned_by P P.signature)
      ∙ bind-bind (lend W P.signature.gives r) (λ z. Some (over P)) (turned_by P P.signature)

  pub turn-at :
      (P : Place W B) (k : Kind) (e : Entered R) (h : IsSigned W B e) (r : Stack R)
      → act W B turn_to_else (at (inside P k e h) r) ≡ (lend W e.signature.gives r >>= λ z. guard (is_if k) (opened P else_kind e))
  turn-at P k e h r = turn-any (inside P k e h) r ∙ (λ i. lend W e.signature.gives r >>= λ z. guard (is_if k) (entered-at P else_kind e.block e.signature e.left i))

  -- a handler, behind the code of a `try` or another handler
  abbrev pub caught_by : Place W B → Kind → List (Val R) → State R → Option (State R)
  caught_by P k vs t = guard (may_catch P.kind) (push_frame k P.block vs t)

  pub catch-any :
      (P : Place W B) (t : OperandTypes) (k : Kind) (r : Stack R)
      → act W B (turn_to_catch t k) (at P r) ≡ (types_in W B P.labels P.returns t >>= λ vs. lend W P.signature.gives r >>= λ z. caught_by P k vs (over P))
  catch-any P t k r =
      (λ i. types_at-at P r t i >>= λ vs. P.is_signed i >>= λ g. pop_frame W B (frame P r.unreached) P.below g (at P r) >>= caught_by P k vs)
      ∙ (λ i. types_in W B P.labels P.returns t >>= λ vs. pop_frame-at P r i >>= caught_by P k vs)
      ∙ (λ i. types_in W B P.labels P.returns t >>= λ vs. bind-bind (lend W P.signature.gives r) (λ z. Some (over P)) (caught_by P k vs) i)

  pub catch-at :
      (P : Place W B) (k : Kind) (e : Entered R) (h : IsSigned W B e) (t : OperandTypes) (j : Kind) (r : Stack R)
      → act W B (turn_to_catch t j) (at (inside P k e h) r)
      ≡ (types_in W B (label_by k e.signature ∷ P.labels) P.returns t >>= λ vs. lend W e.signature.gives r >>= λ z. guard (may_catch k) (opened_over P j e vs))
  catch-at P k e h t j r =
      catch-any (inside P k e h) t j r
      ∙ (λ i. types_in W B (label_by k e.signature ∷ P.labels) P.returns t >>= λ vs. lend W e.signature.gives r >>= λ z. guard (may_catch k) (entered-over P j e.block e.signature e.left vs i))
