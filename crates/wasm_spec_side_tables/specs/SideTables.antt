-- The side table of a body, for interpreters that run it in place: for each branch, in the order of the instructions, where it goes, how
-- many operands it keeps, and how many below these it drops. Core Specification 3.0, Execution, Control Instructions.
use Rattle.std.specs.Prelude.{ℕ, zero, suc, ◌+◌, ◌-◌, max, true, false, List, [], ◌∷◌, ◌++◌, map, length, drop, Option, Some, None, slice_get}
use Rattle.std.specs.Option.{option_map}
use Rattle.wasm_spec_steps.specs.WasmSpecRules.WasmSpec.MatchingTests.{World}
use Rattle.wasm_spec_steps.specs.WasmSpecRules.Attempts.{◌>>=◌}
use Rattle.wasm_operators.specs.Control as control
use Rattle.wasm_operators.specs.Control.{Block, empty_block, value_block, func_block, Control}
use Rattle.wasm_operators.specs.Legacy as legacy
use Rattle.wasm_operators.specs.Legacy.{Legacy}
use Rattle.wasm_operators.specs.References as references
use Rattle.wasm_operators.specs.References.{Reference, Cast}
use Rattle.wasm_operators.specs.Instructions as instruction
use Rattle.wasm_operators.specs.Instructions.{Instruction}
use Rattle.wasm_operators.specs.declared.control.Catch.{Catch}
use Rattle.wasm_operators.specs.declared.control.Catch.TheVariants as catch
use Rattle.wasm_operators.specs.Continuations as continuations
use Rattle.wasm_operators.specs.Continuations.{Continuation}
use Rattle.wasm_operators.specs.WasmOperatorsProposals.declared.continuations.Handle.{Handle}
use Rattle.wasm_operators.specs.WasmOperatorsProposals.declared.continuations.Handle.TheVariants as handle
use Rattle.wasm_spec_steps.specs.WasmSpecRules.WasmSpec.Syntax.{exn_heap, abstract_heap}
use Rattle.wasm_spec_steps.specs.Actions.{OperandTypes, params, of_tag, joined}
use Rattle.wasm_spec_steps.specs.Shapes.{one, nullable_to, reference_to, takes_of}
use Rattle.wasm_spec_steps.specs.Bodies.{Surroundings}
use Rattle.wasm_spec_steps.specs.Machine.{State}
use Rattle.wasm_spec_steps.specs.Meanings.{label_by, frame_signature, type_signature, types_at}
use Rattle.wasm_spec_steps.specs.Steps.{step_in}
use Rattle.wasm_spec_side_tables.specs.declared.entry.Entry.{Entry}
use Rattle.wasm_spec_side_tables.specs.declared.entry.Place.{Place}

-- an instruction of a body, the offset where it stands, and that behind it
pub record Placed : Type 0 where
  pub op : Instruction ℕ
  pub at : ℕ
  pub behind : ℕ

-- Branches: to a label, once so many operands were taken that it isn't given; from an `if` of this block type that isn't taken, to what is
-- behind its `else`, or behind its `end`; from a `try_table` of this block type, where it catches, to a label around it; and from what resumes
-- a continuation, once operands of these types were taken, to the label of a handler.
pub data Branch : Type 0 where
  to_label : ℕ → ℕ → Branch
  past_then : Block ℕ → Branch
  catching_to : Block ℕ → ℕ → Branch
  handling_to : OperandTypes → ℕ → Branch

abbrev pub catch_label : Catch → ℕ
catch_label (catch.One x l) = l
catch_label (catch.OneRef x l) = l
catch_label (catch.All l) = l
catch_label (catch.AllRef l) = l

-- the branches of an instruction, in order; what stands before an `else` or a `catch` goes on behind the block's `end`
abbrev pub control_branches : Control ℕ → List Branch
control_branches (control.br l) = to_label l 0 ∷ []
control_branches (control.br_if l) = to_label l 1 ∷ []
control_branches (control.br_table ls l) = map (λ n. to_label n 1) ls ++ to_label l 1 ∷ []
control_branches (control.if_ b) = past_then b ∷ []
control_branches control.else_ = to_label 0 0 ∷ []
control_branches (control.try_table b cs) = map (λ c. catching_to b (catch_label c)) cs
control_branches _ = []

abbrev pub legacy_branches : Legacy ℕ → List Branch
legacy_branches (legacy.catch_ x) = to_label 0 0 ∷ []
legacy_branches legacy.catch_all = to_label 0 0 ∷ []
legacy_branches _ = []

abbrev pub reference_branches : Reference ℕ → List Branch
reference_branches (references.br_on_null l) = to_label l 1 ∷ []
reference_branches (references.br_on_non_null l) = to_label l 0 ∷ []
reference_branches _ = []

abbrev pub cast_branches : Cast ℕ → List Branch
cast_branches (references.br_on_cast l r q) = to_label l 0 ∷ []
cast_branches (references.br_on_cast_fail l r q) = to_label l 0 ∷ []
cast_branches (references.br_on_cast_desc_eq l r q) = to_label l 1 ∷ []
cast_branches (references.br_on_cast_desc_eq_fail l r q) = to_label l 1 ∷ []
cast_branches _ = []

abbrev pub handle_branches : OperandTypes → List Handle → List Branch
handle_branches t [] = []
handle_branches t (handle.OnLabel x l ∷ hs) = handling_to t l ∷ handle_branches t hs
handle_branches t (handle.OnSwitch x ∷ hs) = handle_branches t hs

-- those of handlers of a continuation of a type, which is resumed by these operands
abbrev pub resuming_branches : ℕ → OperandTypes → List Handle → List Branch
resuming_branches n t hs = handle_branches (joined t (one (nullable_to n))) hs

abbrev pub continuation_branches : Continuation → List Branch
continuation_branches (continuations.resume n hs) = resuming_branches n (takes_of n) hs
continuation_branches (continuations.resume_throw n x hs) = resuming_branches n (params (of_tag x)) hs
continuation_branches (continuations.resume_throw_ref n hs) = resuming_branches n (one (reference_to true (abstract_heap false exn_heap))) hs
continuation_branches _ = []

abbrev pub branches : Instruction ℕ → List Branch
branches (instruction.control op) = control_branches op
branches (instruction.legacy op) = legacy_branches op
branches (instruction.reference op) = reference_branches op
branches (instruction.cast op) = cast_branches op
branches (instruction.continuation op) = continuation_branches op
branches _ = []

-- what an instruction does to the nesting of blocks: it opens a loop or another block, turns one to its next part, or closes one
pub data Nesting : Type 0 where
  opens_loop opens turns closes stays : Nesting

abbrev pub control_nesting : Control ℕ → Nesting
control_nesting (control.block b) = opens
control_nesting (control.loop b) = opens_loop
control_nesting (control.if_ b) = opens
control_nesting (control.try_table b cs) = opens
control_nesting control.else_ = turns
control_nesting control.end_ = closes
control_nesting _ = stays

abbrev pub legacy_nesting : Legacy ℕ → Nesting
legacy_nesting (legacy.try_ b) = opens
legacy_nesting (legacy.catch_ x) = turns
legacy_nesting legacy.catch_all = turns
legacy_nesting (legacy.delegate l) = closes
legacy_nesting (legacy.rethrow l) = stays

abbrev pub nesting : Instruction ℕ → Nesting
nesting (instruction.control op) = control_nesting op
nesting (instruction.legacy op) = legacy_nesting op
nesting _ = stays

-- Places, where so many entries come before the instructions that are left.
-- Behind an instruction:
abbrev pub past : ℕ → Placed → ℕ
past n i = n + length (branches i.op)

abbrev pub place_past : ℕ → Placed → Place
place_past n i = record { offset = i.behind; next = past n i }

-- behind the end of the block that is so many out from here,
abbrev pub behind_by : Nesting → Place → (ℕ → Option Place) → ℕ → Option Place
behind_by closes p rest zero = Some p
behind_by closes p rest (suc l) = rest l
behind_by opens p rest l = rest (suc l)
behind_by opens_loop p rest l = rest (suc l)
behind_by _ p rest l = rest l

abbrev pub place_behind : List Placed → ℕ → ℕ → Option Place
place_behind [] n l = None
place_behind (i ∷ is) n l = behind_by (nesting i.op) (place_past n i) (place_behind is (past n i)) l

-- and behind the `else` of the block that is so many out, or behind its end, where it has none.
abbrev pub behind_then_by : Nesting → Place → (ℕ → Option Place) → ℕ → Option Place
behind_then_by closes p rest zero = Some p
behind_then_by closes p rest (suc l) = rest l
behind_then_by turns p rest zero = Some p
behind_then_by opens p rest l = rest (suc l)
behind_then_by opens_loop p rest l = rest (suc l)
behind_then_by _ p rest l = rest l

abbrev pub place_behind_then : List Placed → ℕ → ℕ → Option Place
place_behind_then [] n l = None
place_behind_then (i ∷ is) n l = behind_then_by (nesting i.op) (place_past n i) (place_behind_then is (past n i)) l

-- Labels: a branch to that of a loop goes back to the place where its inside begins, and to any other ahead, to behind its block's end.
pub data Label : Type 0 where
  back_to : Place → Label
  ahead : Label

-- those around the instructions behind an instruction, the innermost first
abbrev pub labels_behind : Nesting → Place → List Label → List Label
labels_behind opens_loop p ls = back_to p ∷ ls
labels_behind opens p ls = ahead ∷ ls
labels_behind closes p ls = drop 1 ls
labels_behind _ p ls = ls

abbrev pub place_by : Option Place → Label → Option Place
place_by there (back_to p) = Some p
place_by there ahead = there

-- where a branch goes of the first of these instructions, which stand in these labels
abbrev pub branch_place : List Label → ℕ → Placed → List Placed → Branch → Option Place
branch_place ls n i is (to_label l taken) = slice_get ls l >>= place_by (place_behind (i ∷ is) n l)
branch_place ls n i is (past_then b) = place_behind_then is (past n i) 0
branch_place ls n i is (catching_to b l) = slice_get ls l >>= place_by (place_behind (i ∷ is) n l)
branch_place ls n i is (handling_to t l) = slice_get ls l >>= place_by (place_behind (i ∷ is) n l)

module _ {R : Type 0} (W : World R) (B : Surroundings R) where
  -- how many operands a branch to this label gives it, and how many stand below its frame
  abbrev pub label_counts : State R → ℕ → Option (ℕ × ℕ)
  label_counts s l = do
    x ← slice_get s.frames l
    g ← frame_signature W B x
    Some (length (label_by x.kind g), x.height)

  -- how many operands a block of a written type takes
  abbrev pub taken_by : Block ℕ → Option ℕ
  taken_by empty_block = Some 0
  taken_by (value_block v) = Some 0
  taken_by (func_block n) = option_map (λ g. length g.takes) (type_signature W B n)

  -- How many operands a branch keeps, and how many it drops below these: all down to the frame of its label. In code that isn't reached
  -- there may be fewer than it keeps, and it drops none then. What a `try_table` catches stands on the operands below its own frame, and what
  -- a handler gets on those below what resumes the continuation takes.
  abbrev pub counts : State R → Branch → Option (ℕ × ℕ)
  counts s (to_label l taken) = do
    x ← label_counts s l
    Some (x.0, length s.operands - taken - x.0 - x.1)
  counts s (past_then b) = do
    n ← taken_by b
    Some (n, 0)
  counts s (catching_to b l) = do
    x ← label_counts s l
    n ← taken_by b
    Some (x.0, length s.operands - n - x.1)
  counts s (handling_to t l) = do
    x ← label_counts s l
    ts ← types_at W B s t
    Some (x.0, length s.operands - length ts - x.1)

  -- the entries of an instruction, before which this state stands, in order
  abbrev pub entries_at : State R → List Label → ℕ → Placed → List Placed → List Branch → Option (List Entry)
  entries_at s ls n i is [] = Some []
  entries_at s ls n i is (b ∷ bs) = do
    p ← branch_place ls n i is b
    c ← counts s b
    es ← entries_at s ls n i is bs
    Some (record { at = i.at; target = p.offset; next = p.next; kept = c.0; dropped = c.1 } ∷ es)

  -- the entries of all instructions, which lead on from this state
  abbrev pub entries_from : State R → List Label → ℕ → List Placed → Option (List Entry)
  entries_from s ls n [] = Some []
  entries_from s ls n (i ∷ is) = do
    es ← entries_at s ls n i is (branches i.op)
    t ← step_in W B i.op s
    more ← entries_from t (labels_behind (nesting i.op) (place_past n i) ls) (past n i) is
    Some (es ++ more)

  -- The side table of a body: in the one label of the body itself.
  abbrev pub side_table : State R → List Placed → Option (List Entry)
  side_table s is = entries_from s (ahead ∷ []) 0 is

  -- the greatest number of operands before and behind the instructions, and this number
  abbrev pub greatest_height : ℕ → State R → List Placed → Option ℕ
  greatest_height m s [] = Some (max m (length s.operands))
  greatest_height m s (i ∷ is) = step_in W B i.op s >>= λ t. greatest_height (max m (length s.operands)) t is
