-- The two stacks of the validation algorithm, operands and control frames, the innermost first.
-- Core Specification 3.0, Appendix, Validation Algorithm (Data Structures).
use Rattle.std.specs.Prelude.{ℕ, Bool, true, false, ◌&&◌, ◌==◌, ◌-◌, List, [], ◌∷◌, map, length, drop, Option, Some, None, is_some, slice_get, if◌then◌else◌}
use Rattle.wasm_spec_rules.specs.WasmSpec.Syntax.{AbstractHeap, abstract_heap, Ref, Val, i32, i64, f32, f64, v128, reference, map_val}
use Rattle.wasm_spec_rules.specs.WasmSpec.Matching.{is_shared_heap}
use Rattle.wasm_spec_rules.specs.WasmSpec.MatchingTests.{World, matches_heap, matches_val}
use Rattle.wasm_operators.specs.Control.{Block}
use Rattle.wasm_operators.specs.Maps.{map_block}
use Rattle.wasm_spec_rules.specs.Attempts.{◌>>=◌, guard, passes}

-- Operands. In code that isn't reached: one of any type; one of any reference type, not null; and a reference to an abstract heap
-- type, not null, whose shared flag is open. Elsewhere those of a known type.
pub data Operand (R : Type 0) : Type 0 where
  bottom bottom_reference : Operand R
  open_reference : AbstractHeap → Operand R
  known : Val R → Operand R

-- what opened a frame: a body and a constant expression are blocks; and a `try` of the legacy proposal, a `catch` of it, and its `catch_all`
pub data Kind : Type 0 where
  block_kind loop_kind if_kind else_kind try_table_kind legacy_try_kind legacy_catch_kind legacy_catch_all_kind : Kind

abbrev pub is_if : Kind → Bool
is_if if_kind = true
is_if _ = false

abbrev pub is_try : Kind → Bool
is_try legacy_try_kind = true
is_try _ = false

-- A `catch` or a `catch_all` may follow, and an exception is caught.
abbrev pub may_catch : Kind → Bool
may_catch legacy_try_kind = true
may_catch legacy_catch_kind = true
may_catch _ = false

abbrev pub has_caught : Kind → Bool
has_caught legacy_catch_kind = true
has_caught legacy_catch_all_kind = true
has_caught _ = false

-- Frames: what opened them, their block type, how many operands stood below and how many locals were set before, and whether the rest
-- of their code isn't reached.
pub record Frame (R : Type 0) : Type 0 where
  pub kind : Kind
  pub block : Block R
  pub height : ℕ
  pub unreachable : Bool
  pub init_height : ℕ

-- The stacks, and the locals that were set by the code so far and weren't before, the latest first.
pub record State (R : Type 0) : Type 0 where
  pub operands : List (Operand R)
  pub frames : List (Frame R)
  pub inits : List ℕ

-- each identity renamed
module _ {R S : Type 0} (f : R → S) where
  abbrev pub map_operand : Operand R → Operand S
  map_operand bottom = bottom
  map_operand bottom_reference = bottom_reference
  map_operand (open_reference k) = open_reference k
  map_operand (known v) = known (map_val f v)

  abbrev pub map_frame : Frame R → Frame S
  map_frame x = record { kind = x.kind; block = map_block f x.block; height = x.height; unreachable = x.unreachable; init_height = x.init_height }

  abbrev pub map_state : State R → State S
  map_state s = record { operands = map map_operand s.operands; frames = map map_frame s.frames; inits = s.inits }

  -- an operand, and the state without it
  abbrev pub map_popped : Operand R × State R → Operand S × State S
  map_popped p = (map_operand p.0, map_state p.1)

module _ {R : Type 0} where
  abbrev pub push_operand : Operand R → State R → State R
  push_operand x s = record s { operands = x ∷ s.operands }

  abbrev pub pushed_onto : List (Val R) → List (Operand R) → List (Operand R)
  pushed_onto [] xs = xs
  pushed_onto (v ∷ vs) xs = pushed_onto vs (known v ∷ xs)

  -- values of these types, the last one on top
  abbrev pub push_vals : List (Val R) → State R → State R
  push_vals vs s = record s { operands = pushed_onto vs s.operands }

  -- the top operand, where the first flag says that none stands above the frame's height, and the second that the code isn't reached
  abbrev pub popped : Bool → Bool → List (Operand R) → State R → Option (Operand R × State R)
  popped true true xs s = Some (bottom, s)
  popped true false xs s = None
  popped false u [] s = None
  popped false u (x ∷ xs) s = Some (x, record s { operands = xs })

  abbrev pub pop_any : State R → Option (Operand R × State R)
  pop_any s = do
    x ← slice_get s.frames 0
    popped (length s.operands == x.height) x.unreachable s.operands s

  -- an operand as a reference
  abbrev pub as_reference : Operand R → Option (Operand R)
  as_reference bottom = Some bottom_reference
  as_reference bottom_reference = Some bottom_reference
  as_reference (open_reference k) = Some (open_reference k)
  as_reference (known (reference r)) = Some (known (reference r))
  as_reference (known _) = None

  abbrev pub pop_reference : State R → Option (Operand R × State R)
  pop_reference s = do
    p ← pop_any s
    x ← as_reference p.0
    Some (x, p.1)

  abbrev pub non_null_ref : Ref R → Ref R
  non_null_ref r = record { nullable = false; heap = r.heap }

  -- the same operand, known not to be null
  abbrev pub non_null : Operand R → Operand R
  non_null (known (reference r)) = known (reference (non_null_ref r))
  non_null x = x

  -- the same number type or vector type
  abbrev pub same_number : Val R → Val R → Bool
  same_number i32 i32 = true
  same_number i64 i64 = true
  same_number f32 f32 = true
  same_number f64 f64 = true
  same_number v128 v128 = true
  same_number _ _ = false

  -- One of two operands, as `select` without a type chooses: two numbers or vectors of one type.
  abbrev pub chosen : Operand R → Operand R → Option (Operand R)
  chosen bottom bottom = Some bottom
  chosen bottom (known v) = guard (same_number v v) (known v)
  chosen (known v) bottom = guard (same_number v v) (known v)
  chosen (known v) (known w) = guard (same_number v w) (known v)
  chosen _ _ = None

  -- the rest of the innermost frame's code isn't reached
  abbrev pub unreachable_in : List (Frame R) → State R → Option (State R)
  unreachable_in [] s = None
  unreachable_in (x ∷ xs) s = Some (record s { operands = drop (length s.operands - x.height) s.operands; frames = record x { unreachable = true } ∷ xs })

  abbrev pub become_unreachable : State R → Option (State R)
  become_unreachable s = unreachable_in s.frames s

  -- a frame more, with these operands in it
  abbrev pub push_frame : Kind → Block R → List (Val R) → State R → State R
  push_frame k b starts s = push_vals starts (record s { frames = record { kind = k; block = b; height = length s.operands; unreachable = false; init_height = length s.inits } ∷ s.frames })

  -- the innermost frame is a `try` that has caught nothing, and this label is one outside of it
  abbrev pub delegates : List (Frame R) → ℕ → Bool
  delegates [] n = false
  delegates (x ∷ xs) n = is_try x.kind && is_some (slice_get xs n)

  -- the frame of this label has caught an exception
  abbrev pub rethrows : List (Frame R) → ℕ → Bool
  rethrows xs n = passes (λ x. has_caught x.kind) (slice_get xs n)

  -- the local is set from now on, until its frame ends
  abbrev pub set_local : Bool → ℕ → State R → State R
  set_local is_set n s = if is_set then s else record s { inits = n ∷ s.inits }

module _ {R : Type 0} (W : World R) where
  abbrev pub matches_operand : Operand R → Val R → Bool
  matches_operand bottom v = true
  matches_operand bottom_reference (reference r) = true
  matches_operand bottom_reference _ = false
  matches_operand (open_reference k) (reference r) = matches_heap W (abstract_heap (is_shared_heap W.declared r.heap) k) r.heap
  matches_operand (open_reference k) _ = false
  matches_operand (known u) v = matches_val W u v

  abbrev pub pop_val : Val R → State R → Option (State R)
  pop_val v s = do
    p ← pop_any s
    guard (matches_operand p.0 v) p.1

  -- operands that match these types, the last one on top
  abbrev pub pop_vals : List (Val R) → State R → Option (State R)
  pop_vals [] s = Some s
  pop_vals (v ∷ vs) s = do
    t ← pop_vals vs s
    pop_val v t
