-- The machine within one frame: operands above the frame's height, and no frames.
use Rattle.std.proofs.Common.{ℕ, Bool, true, false, ◌==◌, ◌&&◌, List, [], ◌∷◌, ◌++◌, length, Option, Some, None, option_map, is_some, if◌then◌else◌, slice_get}
use Rattle.wasm_spec_steps.specs.WasmSpecRules.WasmSpec.Syntax.{AbstractHeap, eq_heap, concrete, exact, Val}
use Rattle.wasm_spec_steps.specs.WasmSpecRules.WasmSpec.MatchingTests.{World}
use Rattle.wasm_spec_steps.specs.WasmSpecRules.Attempts.{◌>>=◌, guard, passes}
use Rattle.wasm_spec_steps.specs.WasmSpecRules.Signatures.{Signature}
use Rattle.wasm_operators.specs.Control.{Block}
use Rattle.wasm_spec_steps.specs.Bodies.{Surroundings}
use Rattle.wasm_spec_steps.specs.Machine.{Operand, bottom, known, Kind, if_kind, else_kind, legacy_try_kind, legacy_catch_kind, has_caught, pushed_onto, as_reference, non_null, chosen, matches_operand}
use Rattle.wasm_spec_steps.specs.Actions.{Action, need, refuse, take, give, take_any, take_reference, take_comparable, make_non_null, choose, stop, turn_to_else, leave, take_below, convert, describe, enter, set, branch_on_null, branch_to_one_of, turn_to_catch, find_outside, find_caught}
use Rattle.wasm_spec_steps.specs.Shapes.{legacy_checks, shape_of}
use Rattle.wasm_spec_steps.specs.Meanings.{label_by, resolve_block, block_signature, descriptor_at, is_below_either, agree, converted, may_end}
use Rattle.wasm_spec_steps.specs.Steps.{actions_of, checked}
use Rattle.wasm_spec_instructions.specs.Code.{Opening, an_if, a_try, Handler, a_catch, Code, done, simply, enclosing, choosing_between, handling, delegating_to, Handlers, last_handler, catch_before, kind_of, block_of, checks_of, condition_of, handler_kind, handler_checks, handler_operands}
use Rattle.wasm_spec_instructions.specs.ValueTypes.{reference_at}
use Rattle.wasm_spec_instructions.specs.Scopes.{Scope, is_set, types_in, holds_in}

-- operands above the height, whether the code isn't reached, and the locals that were set in the frame
pub record Stack (R : Type 0) : Type 0 where
  pub unreached : Bool
  pub items : List (Operand R)
  pub sets : List ℕ

-- a block that was entered: its type, what that is, and what is left
pub record Entered (R : Type 0) : Type 0 where
  pub block : Block R
  pub signature : Signature R
  pub left : Stack R

module _ {R : Type 0} where
  abbrev pub stack : List ℕ → Bool → List (Operand R) → Stack R
  stack is u xs = record { unreached = u; items = xs; sets = is }

  abbrev pub lpop_in : List ℕ → Bool → List (Operand R) → Option (Operand R × Stack R)
  lpop_in is u (x ∷ xs) = Some (x, stack is u xs)
  lpop_in is true [] = Some (bottom, stack is true [])
  lpop_in is false [] = None

  abbrev pub lpop : Stack R → Option (Operand R × Stack R)
  lpop p = lpop_in p.sets p.unreached p.items

  abbrev pub lpush : List (Val R) → Stack R → Stack R
  lpush vs p = stack p.sets p.unreached (pushed_onto vs p.items)

  abbrev pub referring : Stack R → Operand R → Option (Operand R × Stack R)
  referring p x = Some (x, p)

  abbrev pub referred : Operand R × Stack R → Option (Operand R × Stack R)
  referred q = as_reference q.0 >>= referring q.1

  abbrev pub lpop_reference : Stack R → Option (Operand R × Stack R)
  lpop_reference p = lpop p >>= referred

  abbrev pub lput : Operand R → Stack R → Stack R
  lput x p = stack p.sets p.unreached (x ∷ p.items)

  abbrev pub stopped : Stack R → Stack R
  stopped p = stack p.sets true []

  abbrev pub is_empty : List (Operand R) → Bool
  is_empty [] = true
  is_empty (x ∷ xs) = false

  -- a frame that is entered over these operands
  abbrev pub starting : List (Val R) → Stack R
  starting vs = stack [] false (pushed_onto vs [])

  abbrev pub fresh : Signature R → Stack R
  fresh g = starting g.takes

  abbrev pub without : Operand R × Stack R → Option (Stack R)
  without q = Some q.1

  abbrev pub entered : Block R → Signature R → Stack R → Option (Entered R)
  entered c g q = Some (record { block = c; signature = g; left = q })

  -- the scope in a block that is entered here
  abbrev pub deeper : Kind → Entered R → Scope R → Scope R
  deeper k e C = record { labels = label_by k e.signature ∷ C.labels; caught = has_caught k ∷ C.caught; returns = C.returns; sets = e.left.sets ++ C.sets }

  abbrev pub and_choose : Operand R → Operand R × Stack R → Option (Stack R)
  and_choose x q = chosen x q.0 >>= λ y. Some (lput y q.1)

  abbrev pub choose_of : Operand R × Stack R → Option (Stack R)
  choose_of p = lpop p.1 >>= and_choose p.0

  abbrev pub put_non_null : Operand R × Stack R → Option (Stack R)
  put_non_null p = Some (lput (non_null p.0) p.1)

  -- a reference to a descriptor, exactly where what is described was of exactly its type
  abbrev pub ldescribed_by : R → Option (Stack R) → Option (Stack R) → Option (Stack R)
  ldescribed_by b (Some q) other = Some (lput (known (reference_at false (exact b))) q)
  ldescribed_by b None other = option_map (lput (known (reference_at false (concrete b)))) other

  abbrev pub given_back : Operand R → List (Val R) → Stack R → Option (Stack R)
  given_back x vs t = Some (lput (non_null x) (lpush vs t))

module _ {R : Type 0} (W : World R) where
  abbrev pub matched : Val R → Operand R × Stack R → Option (Stack R)
  matched v q = guard (matches_operand W q.0 v) q.1

  abbrev pub lpop_val : Val R → Stack R → Option (Stack R)
  lpop_val v p = lpop p >>= matched v

  abbrev pub lpops : List (Val R) → Stack R → Option (Stack R)
  lpops [] p = Some p
  lpops (v ∷ vs) p = lpops vs p >>= lpop_val v

  abbrev pub ldescribed : R → R → Stack R → Option (Stack R)
  ldescribed a b p = ldescribed_by b (lpops (reference_at true (exact a) ∷ []) p) (lpops (reference_at true (concrete a) ∷ []) p)

  abbrev pub lfit : List (List (Val R)) → Stack R → ℕ → List ℕ → Bool
  lfit labels p k [] = true
  lfit labels p k (n ∷ ns) = passes (λ vs. (length vs == k) && is_some (lpops vs p)) (slice_get labels n) && lfit labels p k ns

  -- all of these, and nothing else, are left
  abbrev pub emptied : Stack R → Option (Stack R)
  emptied q = guard (is_empty q.items) q

  abbrev pub lend : List (Val R) → Stack R → Option (Stack R)
  lend vs p = lpops vs p >>= emptied

module _ {R : Type 0} (W : World R) (B : Surroundings R) where
  abbrev pub below : AbstractHeap → Operand R × Stack R → Option (Stack R)
  below k q = guard (is_below_either W B k q.0) q.1

  abbrev pub compared : Operand R → Operand R × Stack R → Option (Stack R)
  compared x q = guard (is_below_either W B eq_heap x && is_below_either W B eq_heap q.0 && agree W B x q.0) q.1

  abbrev pub compare_of : Operand R × Stack R → Option (Stack R)
  compare_of p = lpop_reference p.1 >>= compared p.0

  abbrev pub converting_to : AbstractHeap → AbstractHeap → Operand R × Stack R → Option (Stack R)
  converting_to j k p = guard (is_below_either W B j p.0) (lput (converted W B k p.0) p.1)

  abbrev pub described_of : ℕ → Stack R → R → Option (Stack R)
  described_of n p a = descriptor_at W B n >>= λ b. ldescribed W a b p

  abbrev pub null_for : Operand R × Stack R → List (Val R) → Option (Stack R)
  null_for p vs = lpops W vs p.1 >>= given_back p.0 vs

  abbrev pub null_at : List (List (Val R)) → ℕ → Operand R × Stack R → Option (Stack R)
  null_at labels n p = slice_get labels n >>= null_for p

  abbrev pub in_table : List (List (Val R)) → Stack R → List ℕ → List (Val R) → Stack R → Option (Stack R)
  in_table labels p ns vs t = guard (lfit W labels p (length vs) ns) (stopped t)

  abbrev pub table_for : List (List (Val R)) → Stack R → List ℕ → List (Val R) → Option (Stack R)
  table_for labels p ns vs = lpops W vs p >>= in_table labels p ns vs

  -- one more local, which is set in this frame
  abbrev pub lgrown : ℕ → List ℕ → List ℕ → List ℕ
  lgrown n base is = if is_set W B n (is ++ base) then is else n ∷ is

  -- actions that leave the frames as they are
  abbrev pub IsWithin : Action → Type 0
  IsWithin turn_to_else = ⊥
  IsWithin leave = ⊥
  IsWithin (enter k b) = ⊥
  IsWithin (turn_to_catch t k) = ⊥
  IsWithin (find_outside n) = ⊥
  IsWithin _ = Unit {0}

  -- the label is that of a handler
  abbrev pub is_caught : List Bool → ℕ → Bool
  is_caught bs n = passes (λ b. b) (slice_get bs n)

  abbrev pub lact : Scope R → Action → Stack R → Option (Stack R)
  lact C (need c) p = guard (holds_in W B C.labels C.returns (p.sets ++ C.sets) c) p
  lact C refuse p = None
  lact C (take t) p = types_in W B C.labels C.returns t >>= λ vs. lpops W vs p
  lact C (give t) p = types_in W B C.labels C.returns t >>= λ vs. Some (lpush vs p)
  lact C take_any p = lpop p >>= without
  lact C take_reference p = lpop_reference p >>= without
  lact C (take_below k) p = lpop_reference p >>= below k
  lact C take_comparable p = lpop_reference p >>= compare_of
  lact C make_non_null p = lpop_reference p >>= put_non_null
  lact C (convert j k) p = lpop_reference p >>= converting_to j k
  lact C (describe n) p = slice_get B.context.types n >>= described_of n p
  lact C choose p = lpop p >>= choose_of
  lact C stop p = Some (stopped p)
  lact C (set n) p = Some (record p { sets = lgrown n C.sets p.sets })
  lact C (branch_on_null n) p = lpop_reference p >>= null_at C.labels n
  lact C (branch_to_one_of ns n) p = slice_get C.labels n >>= table_for C.labels p ns
  lact C turn_to_else p = None
  lact C leave p = None
  lact C (enter k b) p = None
  lact C (turn_to_catch t k) p = None
  lact C (find_outside n) p = None
  lact C (find_caught n) p = guard (is_caught C.caught n) p

  abbrev pub lrun : Scope R → List Action → Stack R → Option (Stack R)
  lrun C [] p = Some p
  lrun C (a ∷ rest) p = lact C a p >>= lrun C rest

  -- the block type, its signature, and what is left below what it takes
  abbrev pub taking : Block R → Stack R → Signature R → Option (Entered R)
  taking c p g = lpops W g.takes p >>= entered c g

  abbrev pub signed : Stack R → Block R → Option (Entered R)
  signed p c = block_signature W B c >>= taking c p

  abbrev pub lenter_block : Block ℕ → Stack R → Option (Entered R)
  lenter_block b p = resolve_block B.context.types b >>= signed p

  abbrev pub lenter : Scope R → Opening → Stack R → Option (Entered R)
  lenter C o p = lrun C (checked (checks_of o) (take (condition_of o) ∷ [])) p >>= lenter_block (block_of o)

  -- what is left where a block ends
  abbrev pub lshut : Kind → Entered R → Stack R → Option (Stack R)
  lshut k e r = lend W e.signature.gives r >>= λ z. guard (may_end W B k e.signature) (lpush e.signature.gives e.left)

  -- what a handler finds, where the code before it ends
  abbrev pub lcatch : Scope R → Handler → Entered R → Stack R → Option (List (Val R))
  lcatch C h e r = lrun C (checked (handler_checks h) []) r >>= λ q. types_in W B C.labels C.returns (handler_operands h) >>= λ vs. lend W e.signature.gives q >>= λ z. Some vs

  -- what is left where a `try` ends with a `delegate`
  abbrev pub ldelegate : Scope R → ℕ → Entered R → Stack R → Option (Stack R)
  ldelegate C l e r = lrun (deeper legacy_try_kind e C) (checked (legacy_checks []) []) r >>= λ q. guard (is_some (slice_get C.labels l)) q >>= lshut legacy_try_kind e

  abbrev mutual
    pub check : Scope R → Code → Stack R → Option (Stack R)
    check C done p = Some p
    check C (simply i c) p = lrun C (actions_of (shape_of i)) p >>= check C c
    check C (enclosing o b c) p = lenter C o p >>= λ e. (check (deeper (kind_of o) e C) b (fresh e.signature) >>= lshut (kind_of o) e) >>= check C c
    check C (choosing_between g b d c) p =
        lenter C (an_if g) p >>= λ e. (check (deeper if_kind e C) b (fresh e.signature) >>= lend W e.signature.gives)
        >>= λ z. (check (deeper else_kind e C) d (fresh e.signature) >>= lshut else_kind e) >>= check C c
    check C (handling g b hs c) p = lenter C (a_try g) p >>= λ e. (check (deeper legacy_try_kind e C) b (fresh e.signature) >>= handle C legacy_try_kind e hs) >>= check C c
    check C (delegating_to l g b c) p = lenter C (a_try g) p >>= λ e. (check (deeper legacy_try_kind e C) b (fresh e.signature) >>= ldelegate C l e) >>= check C c

    -- the handlers behind code in a frame of this kind
    pub handle : Scope R → Kind → Entered R → Handlers → Stack R → Option (Stack R)
    handle C k e (last_handler h b) r = lcatch (deeper k e C) h e r >>= λ vs. check (deeper (handler_kind h) e C) b (starting vs) >>= lshut (handler_kind h) e
    handle C k e (catch_before x b hs) r = lcatch (deeper k e C) (a_catch x) e r >>= λ vs. check (deeper legacy_catch_kind e C) b (starting vs) >>= handle C legacy_catch_kind e hs
