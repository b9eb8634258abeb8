-- What the actions mean over identities of types: the rules of the validation algorithm.
-- Core Specification 3.0, Appendix, Validation Algorithm, and Validation, Instructions.
use Rattle.std.specs.Prelude.{ℕ, zero, suc, Bool, true, false, not, ◌&&◌, ◌||◌, ◌==◌, ◌^◌, ◌-◌, nat_lt, nat_le, List, [], ◌∷◌, ◌++◌, map, length, drop, Option, Some, None, is_some, slice_get, if◌then◌else◌}
use Rattle.std.specs.Option.{option_map}
use Rattle.wasm_spec_rules.specs.WasmSpec.Syntax.{AbstractHeap, eq_heap, cont_heap, Heap, abstract_heap, concrete, exact, Ref, Val, i32, i64, reference, Storage, unpacked, Field, Comp, array, struct, cont, Sub, Memory}
use Rattle.wasm_spec_rules.specs.WasmSpec.Features.{Features}
use Rattle.wasm_spec_rules.specs.WasmSpec.ValueTypes.{implies, allows_val}
use Rattle.wasm_spec_rules.specs.WasmSpec.CrateLimits.{most_clauses, is_within}
pub use Rattle.wasm_spec_rules.specs.WasmSpec.Defaults.{unpack, has_default}
use Rattle.wasm_spec_rules.specs.WasmSpec.Matching.{top_of_heap, is_shared_heap}
use Rattle.wasm_spec_rules.specs.WasmSpec.MatchingTests.{same_flag, same_abstract, World, matches_heap, matches_ref}
use Rattle.wasm_operators.specs.Control.{Block, empty_block, value_block, func_block}
use Rattle.wasm_operators.specs.WasmOperatorsPlain.Memories.{max_align_of}
use Rattle.wasm_operators.specs.WasmOperatorsPlain.declared.memories.MemoryOperator.{MemoryOperator}
use Rattle.wasm_operators.specs.WasmOperatorsPlain.declared.memories.MemArg.{MemArg}
use Rattle.wasm_spec_rules.specs.Attempts.{◌>>=◌, guard, passes, among, last_of, front_of, list_of}
use Rattle.wasm_spec_rules.specs.Signatures.{Signature, signature_of, resolve_heap, resolve_ref, resolve_val, resolve_vals}
use Rattle.wasm_spec_steps.specs.Matching.{matches_vals, match_some, matches_storage}
use Rattle.wasm_spec_steps.specs.Bodies.{Surroundings}
use Rattle.wasm_spec_steps.specs.Machine.{Operand, bottom_reference, open_reference, known, Kind, loop_kind, if_kind, else_kind, is_if, may_catch, Frame, State, delegates, rethrows, push_operand, push_vals, pop_any, pop_reference, non_null, same_number, chosen, become_unreachable, push_frame, set_local, pop_vals}
use Rattle.wasm_spec_steps.specs.Forms.{suits_form, memarg_of, reaches_memory}
use Rattle.wasm_spec_steps.specs.Actions.{Signed, of_type, of_function, of_tag, OperandTypes, these, params, results, label, returned, local, global, function_reference, new_reference, fields, element, field, table_address, memory_address, table_element, segment, lesser_table_address, lesser_memory_address, top, descriptor_of, descriptor_for, repeated, front, last, continued, taken_by, given_by, joined, before, behind, Needed, multi_value, reference_types, bulk_memory, exceptions, function_references, gc, shared_everything_threads, custom_descriptors, legacy_exceptions, wide_arithmetic, memory_control, descriptor_operators, shared_atomic_operators, stack_switching, stack_switching_operators, few_clauses, atomic_operators, vector_operators, threads, simd, Check, has, allows, global_is_mutable, local_is_set, function_is_referenced, is_exception, each_matches, each_matches_some, may_be_cast, can_be_tested, is_aligned, suits, fields_have_defaults, has_no_descriptor, field_is_mutable, field_is_packed, element_is_mutable, element_has_default, element_is_number, element_is_packed, element_is_storable, data_is_there, segment_is_there, reaches_global, reaches_table, reaches_type, reaches_function, Action, need, refuse, take, give, take_any, take_reference, take_comparable, make_non_null, choose, stop, turn_to_else, leave, take_below, convert, describe, enter, turn_to_catch, find_outside, find_caught, set, branch_on_null, branch_to_one_of}

module _ {R : Type 0} where
  abbrev pub ref_to : Bool → Heap R → Val R
  ref_to nullable h = reference (record { nullable = nullable; heap = h })

  -- a written block type
  abbrev pub resolve_block : List R → Block ℕ → Option (Block R)
  resolve_block ts empty_block = Some empty_block
  resolve_block ts (value_block v) = option_map value_block (resolve_val ts v)
  resolve_block ts (func_block n) = Some (func_block n)

  -- the defined type that a heap type names
  abbrev pub defined_in : Heap R → Option R
  defined_in (abstract_heap s k) = None
  defined_in (concrete a) = Some a
  defined_in (exact a) = Some a

  abbrev pub firsts : ℕ → List (Val R) → List (Val R)
  firsts zero vs = []
  firsts (suc n) [] = []
  firsts (suc n) (v ∷ vs) = v ∷ firsts n vs

  -- composite types of one kind
  abbrev pub fields_of : Comp R → Option (List (Field R))
  fields_of (struct xs) = Some xs
  fields_of _ = None

  abbrev pub element_of : Comp R → Option (Field R)
  element_of (array x) = Some x
  element_of _ = None

  abbrev pub cont_of : Comp R → Option R
  cont_of (cont a) = Some a
  cont_of _ = None

  -- what a reference type refers to, where that is a defined type
  abbrev pub referred : Val R → Option R
  referred (reference r) = defined_in r.heap
  referred _ = None

  -- the first of some types, down to the last so many; and these
  abbrev pub all_but : ℕ → List (Val R) → Option (List (Val R))
  all_but n vs = guard (nat_le n (length vs)) (firsts (length vs - n) vs)

  abbrev pub last_ones : ℕ → List (Val R) → Option (List (Val R))
  last_ones n vs = guard (nat_le n (length vs)) (drop (length vs - n) vs)

  abbrev pub unpack_field : Field R → Val R
  unpack_field x = unpack x.storage

  abbrev pub is_packed : Storage R → Bool
  is_packed (unpacked v) = false
  is_packed _ = true

  abbrev pub all_have_defaults : List (Field R) → Bool
  all_have_defaults [] = true
  all_have_defaults (x ∷ xs) = has_default (unpack_field x) && all_have_defaults xs

  abbrev pub copies : ℕ → List (Val R) → List (Val R)
  copies zero vs = []
  copies (suc n) vs = vs ++ copies n vs

  abbrev pub one : Option (Val R) → Option (List (Val R))
  one v = option_map list_of v

  -- the greatest type of the continuations
  abbrev pub is_of_continuations : Heap R → Bool
  is_of_continuations (abstract_heap s k) = same_abstract k cont_heap
  is_of_continuations _ = false

  -- the address type of 64 bits or of 32
  abbrev pub address : Bool → Val R
  address is_64 = if is_64 then i64 else i32

abbrev pub both : Option Bool → Option Bool → Option Bool
both x y = x >>= λ a. option_map (λ b. a && b) y

abbrev pub is_on : Features → Needed → Bool
is_on F multi_value = F.multi_value
is_on F reference_types = F.reference_types
is_on F bulk_memory = F.bulk_memory
is_on F exceptions = F.exceptions
is_on F function_references = F.function_references
is_on F gc = F.gc
is_on F shared_everything_threads = F.shared_everything_threads
is_on F custom_descriptors = F.custom_descriptors
is_on F simd = F.simd
is_on F threads = F.threads
is_on F vector_operators = F.vector_operators
is_on F atomic_operators = F.atomic_operators
is_on F legacy_exceptions = F.legacy_exceptions
is_on F wide_arithmetic = F.wide_arithmetic
is_on F memory_control = F.memory_control
is_on F descriptor_operators = F.descriptor_operators
is_on F shared_atomic_operators = F.shared_atomic_operators
is_on F stack_switching = F.stack_switching
is_on F stack_switching_operators = F.stack_switching_operators
is_on F (few_clauses n) = is_within F most_clauses n

-- an alignment no greater than the bytes accessed, and an offset that an address has room for
abbrev pub allows_memarg : MemoryOperator → MemArg → Memory → Bool
allows_memarg op m memory = nat_le m.align (max_align_of op) && (memory.is_64 || nat_lt m.offset (2 ^ 32))

-- the types at a loop's label are what it takes, at another's what it gives
abbrev pub label_by : {R : Type 0} → Kind → Signature R → List (Val R)
label_by loop_kind g = g.takes
label_by _ g = g.gives

module _ {R : Type 0} (W : World R) (B : Surroundings R) where
  abbrev pub sub_at : ℕ → Option (Sub R)
  sub_at n = slice_get B.context.types n >>= W.declared

  abbrev pub comp_at : ℕ → Option (Comp R)
  comp_at n = option_map (λ d. d.comp) (sub_at n)

  abbrev pub type_signature : ℕ → Option (Signature R)
  type_signature n = comp_at n >>= signature_of

  abbrev pub block_signature : Block R → Option (Signature R)
  block_signature empty_block = Some (record { takes = []; gives = [] })
  block_signature (value_block v) = Some (record { takes = []; gives = v ∷ [] })
  block_signature (func_block n) = type_signature n

  abbrev pub frame_signature : Frame R → Option (Signature R)
  frame_signature x = block_signature x.block

  abbrev pub label_at : State R → ℕ → Option (List (Val R))
  label_at s n = do
    x ← slice_get s.frames n
    option_map (label_by x.kind) (frame_signature x)

  -- the results of the outermost frame
  abbrev pub returned_at : State R → Option (List (Val R))
  returned_at s = last_of s.frames >>= λ x. option_map (λ g. g.gives) (frame_signature x)

  abbrev pub signature_at : Signed → Option (Signature R)
  signature_at (of_type n) = type_signature n
  signature_at (of_function n) = slice_get B.context.functions n >>= type_signature
  signature_at (of_tag n) = slice_get B.context.tags n >>= type_signature

  abbrev pub fields_at : ℕ → Option (List (Field R))
  fields_at n = comp_at n >>= fields_of

  abbrev pub element_at : ℕ → Option (Field R)
  element_at n = comp_at n >>= element_of

  abbrev pub field_at : ℕ → ℕ → Option (Field R)
  field_at n k = fields_at n >>= λ xs. slice_get xs k

  -- a type itself, known to be exact where descriptors can tell
  abbrev pub exact_if : Bool → R → Heap R
  exact_if b a = if b && B.features.custom_descriptors then exact a else concrete a

  -- functions that are defined, and those imported as such, are exactly of their type
  abbrev pub function_heap : ℕ → Option (Heap R)
  function_heap n = do
    t ← slice_get B.context.functions n
    a ← slice_get B.context.types t
    is_exact ← slice_get B.context.exact n
    Some (exact_if is_exact a)

  -- the descriptor that the type of an index declares
  abbrev pub descriptor_at : ℕ → Option R
  descriptor_at n = sub_at n >>= λ d. d.descriptor

  -- that of the type that a heap type names, exactly where it does so; none of an abstract heap type
  abbrev pub descriptor_heap : Heap ℕ → Option (Heap R)
  descriptor_heap (abstract_heap s k) = None
  descriptor_heap (concrete n) = option_map concrete (descriptor_at n)
  descriptor_heap (exact n) = option_map exact (descriptor_at n)

  abbrev pub top_heap : Heap ℕ → Option (Heap R)
  top_heap h = resolve_heap B.context.types h >>= top_of_heap W.declared

  abbrev pub table_is_64 : ℕ → Option Bool
  table_is_64 n = option_map (λ t. t.is_64) (slice_get B.context.tables n)

  abbrev pub memory_is_64 : ℕ → Option Bool
  memory_is_64 n = option_map (λ m. m.is_64) (slice_get B.context.memories n)

  -- the signature of the function that a continuation type is of
  abbrev pub continuation_signature : R → Option (Signature R)
  continuation_signature a = W.declared a >>= λ d. cont_of d.comp >>= λ b. W.declared b >>= λ e. signature_of e.comp

  -- of the continuation that the last of some types refers to
  abbrev pub continued_signature : List (Val R) → Option (Signature R)
  continued_signature vs = last_of vs >>= referred >>= continuation_signature

  abbrev pub types_at : State R → OperandTypes → Option (List (Val R))
  types_at s (these vs) = resolve_vals B.context.types vs
  types_at s (params g) = option_map (λ x. x.takes) (signature_at g)
  types_at s (results g) = option_map (λ x. x.gives) (signature_at g)
  types_at s (label n) = label_at s n
  types_at s returned = returned_at s
  types_at s (local n) = one (option_map (λ x. x.content) (slice_get B.locals n))
  types_at s (global n) = one (option_map (λ g. g.content) (slice_get B.context.globals n))
  types_at s (function_reference n) = one (option_map (ref_to false) (function_heap n))
  types_at s (new_reference n) = one (option_map (λ a. ref_to false (exact_if true a)) (slice_get B.context.types n))
  types_at s (fields n) = option_map (map unpack_field) (fields_at n)
  types_at s (element n) = one (option_map unpack_field (element_at n))
  types_at s (field n k) = one (option_map unpack_field (field_at n k))
  types_at s (table_address n) = one (option_map address (table_is_64 n))
  types_at s (memory_address n) = one (option_map address (memory_is_64 n))
  types_at s (table_element n) = one (option_map (λ t. reference t.element) (slice_get B.context.tables n))
  types_at s (segment n) = one (option_map reference (slice_get B.context.elements n))
  types_at s (lesser_table_address m n) = one (option_map address (both (table_is_64 m) (table_is_64 n)))
  types_at s (lesser_memory_address m n) = one (option_map address (both (memory_is_64 m) (memory_is_64 n)))
  types_at s (top r) = one (option_map (ref_to true) (top_heap r.heap))
  types_at s (descriptor_of n) = one (option_map (λ a. ref_to true (exact a)) (descriptor_at n))
  types_at s (descriptor_for h) = one (option_map (ref_to true) (descriptor_heap h))
  types_at s (repeated n t) = option_map (copies n) (types_at s t)
  types_at s (front t) = option_map front_of (types_at s t)
  types_at s (last t) = one (types_at s t >>= last_of)
  types_at s (continued n) = one (option_map (λ a. ref_to true (concrete a)) (comp_at n >>= cont_of))
  types_at s (taken_by t) = option_map (λ g. g.takes) (types_at s t >>= continued_signature)
  types_at s (given_by t) = option_map (λ g. g.gives) (types_at s t >>= continued_signature)
  types_at s (before t u) = do
    vs ← types_at s t
    ws ← types_at s u
    all_but (length ws) vs
  types_at s (behind t u) = do
    vs ← types_at s t
    ws ← types_at s u
    last_ones (length ws) vs
  types_at s (joined t u) = do
    vs ← types_at s t
    ws ← types_at s u
    Some (vs ++ ws)

  -- With descriptors a cast goes between types of one hierarchy, by their proposal; else the type that is cast to matches the other.
  abbrev pub casts : Ref R → Ref R → Bool
  casts from to =
      if B.features.custom_descriptors then passes (λ h. matches_heap W to.heap h) (top_of_heap W.declared from.heap)
      else matches_ref W to from

  abbrev pub holds : State R → Check → Bool
  holds s (has p) = is_on B.features p
  holds s (allows v) = allows_val B.features v
  holds s (global_is_mutable n) = passes (λ g. g.mutable) (slice_get B.context.globals n)
  holds s (local_is_set n) = passes (λ x. x.set) (slice_get B.locals n) || among n s.inits
  holds s (function_is_referenced n) = among n B.context.references
  holds s (is_exception n) = passes (λ g. length g.gives == 0) (signature_at (of_tag n))
  holds s (each_matches t u) = passes (λ vs. passes (matches_vals W vs) (types_at s u)) (types_at s t)
  holds s (each_matches_some t u) = passes (λ vs. passes (λ ws. match_some W ws vs) (types_at s u)) (types_at s t)
  holds s (may_be_cast r q) = passes (λ a. passes (casts a) (resolve_ref B.context.types q)) (resolve_ref B.context.types r)
  holds s (can_be_tested r) = passes (λ h. not (is_of_continuations h)) (top_heap r.heap)
  holds s (is_aligned op m) = passes (allows_memarg op m) (slice_get B.context.memories m.memory)
  holds s (suits f values) = suits_form f values && reaches_memory B.context.memories (memarg_of values)
  holds s (fields_have_defaults n) = passes all_have_defaults (fields_at n)
  holds s (has_no_descriptor n) = passes (λ d. not (is_some d.descriptor)) (sub_at n)
  holds s (field_is_mutable n k) = passes (λ x. x.mutable) (field_at n k)
  holds s (field_is_packed b n k) = passes (λ x. same_flag b (is_packed x.storage)) (field_at n k)
  holds s (element_is_mutable n) = passes (λ x. x.mutable) (element_at n)
  holds s (element_has_default n) = passes (λ x. has_default (unpack_field x)) (element_at n)
  holds s (element_is_number n) = passes (λ x. same_number (unpack_field x) (unpack_field x)) (element_at n)
  holds s (element_is_packed b n) = passes (λ x. same_flag b (is_packed x.storage)) (element_at n)
  holds s (element_is_storable m n) = passes (λ x. passes (λ y. matches_storage W x.storage y.storage) (element_at n)) (element_at m)
  holds s (data_is_there n) = passes (nat_lt n) B.context.data_count
  holds s (segment_is_there n) = is_some (slice_get B.context.elements n)
  holds s (reaches_global n) = implies B.shared (passes (λ g. g.shared) (slice_get B.context.globals n))
  holds s (reaches_table n) = implies B.shared (passes (λ t. t.shared) (slice_get B.context.tables n))
  holds s (reaches_type n) = implies B.shared (passes (λ d. d.shared) (sub_at n))
  holds s (reaches_function n) = implies B.shared (passes (λ d. d.shared) (slice_get B.context.functions n >>= sub_at))

  -- a reference below an abstract heap type, shared or not
  abbrev pub is_below_either : AbstractHeap → Operand R → Bool
  is_below_either k (known (reference r)) = matches_heap W r.heap (abstract_heap (is_shared_heap W.declared r.heap) k)
  is_below_either k (open_reference j) = matches_heap W (abstract_heap false j) (abstract_heap false k)
  is_below_either k bottom_reference = true
  is_below_either k _ = false

  -- not one shared and the other not
  abbrev pub agree : Operand R → Operand R → Bool
  agree (known (reference r)) (known (reference q)) = same_flag (is_shared_heap W.declared r.heap) (is_shared_heap W.declared q.heap)
  agree _ _ = true

  -- a reference of another hierarchy, null and shared as this one
  abbrev pub converted : AbstractHeap → Operand R → Operand R
  converted k (known (reference r)) = known (ref_to r.nullable (abstract_heap (is_shared_heap W.declared r.heap) k))
  converted k _ = open_reference k

  -- the operands without the results of the innermost frame, and the frames and locals without it
  abbrev pub pop_frame : Frame R → List (Frame R) → Signature R → State R → Option (State R)
  pop_frame x xs g s = do
    t ← pop_vals W g.gives s
    guard (length t.operands == x.height) (record t { frames = xs; inits = drop (length t.inits - x.init_height) t.inits })

  -- an `if` without `else` gives what it takes
  abbrev pub may_end : Kind → Signature R → Bool
  may_end if_kind g = matches_vals W g.takes g.gives
  may_end _ g = true

  abbrev pub leave_in : List (Frame R) → State R → Option (State R)
  leave_in [] s = None
  leave_in (x ∷ xs) s = do
    g ← frame_signature x
    t ← pop_frame x xs g s
    guard (may_end x.kind g) (push_vals g.gives t)

  abbrev pub turn_in : List (Frame R) → State R → Option (State R)
  turn_in [] s = None
  turn_in (x ∷ xs) s = do
    g ← frame_signature x
    t ← pop_frame x xs g s
    guard (is_if x.kind) (push_frame else_kind x.block g.takes t)

  -- the frame of a `try` is left, and one of its block type is entered, in which these operands stand
  abbrev pub catch_in : Kind → List (Val R) → List (Frame R) → State R → Option (State R)
  catch_in k vs [] s = None
  catch_in k vs (x ∷ xs) s = do
    g ← frame_signature x
    t ← pop_frame x xs g s
    guard (may_catch x.kind) (push_frame k x.block vs t)

  -- each of these labels takes so many operands, and finds its types on top
  abbrev pub labels_fit : State R → ℕ → List ℕ → Bool
  labels_fit s k [] = true
  labels_fit s k (n ∷ ns) = passes (λ vs. (length vs == k) && is_some (pop_vals W vs s)) (label_at s n) && labels_fit s k ns

  -- A reference, or null, to exactly a type is turned into one to exactly its descriptor, and any other to the type into one to the
  -- descriptor.
  abbrev pub described_by : R → Option (State R) → Option (State R) → Option (State R)
  described_by b (Some t) other = Some (push_operand (known (ref_to false (exact b))) t)
  described_by b None other = option_map (push_operand (known (ref_to false (concrete b)))) other

  abbrev pub described : R → R → State R → Option (State R)
  described a b s = described_by b (pop_vals W (ref_to true (exact a) ∷ []) s) (pop_vals W (ref_to true (concrete a) ∷ []) s)

  abbrev pub act : Action → State R → Option (State R)
  act (need c) s = guard (holds s c) s
  act refuse s = None
  act (take t) s = do
    vs ← types_at s t
    pop_vals W vs s
  act (give t) s = do
    vs ← types_at s t
    Some (push_vals vs s)
  act take_any s = do
    p ← pop_any s
    Some p.1
  act take_reference s = do
    p ← pop_reference s
    Some p.1
  act (take_below k) s = do
    p ← pop_reference s
    guard (is_below_either k p.0) p.1
  act take_comparable s = do
    p ← pop_reference s
    q ← pop_reference p.1
    guard (is_below_either eq_heap p.0 && is_below_either eq_heap q.0 && agree p.0 q.0) q.1
  act make_non_null s = do
    p ← pop_reference s
    Some (push_operand (non_null p.0) p.1)
  act (convert j k) s = do
    p ← pop_reference s
    guard (is_below_either j p.0) (push_operand (converted k p.0) p.1)
  act (describe n) s = do
    a ← slice_get B.context.types n
    b ← descriptor_at n
    described a b s
  act choose s = do
    p ← pop_any s
    q ← pop_any p.1
    x ← chosen p.0 q.0
    Some (push_operand x q.1)
  act stop s = become_unreachable s
  act turn_to_else s = turn_in s.frames s
  act leave s = leave_in s.frames s
  act (enter k b) s = do
    c ← resolve_block B.context.types b
    g ← block_signature c
    t ← pop_vals W g.takes s
    Some (push_frame k c g.takes t)
  act (turn_to_catch t k) s = do
    vs ← types_at s t
    catch_in k vs s.frames s
  act (find_outside n) s = guard (delegates s.frames n) s
  act (find_caught n) s = guard (rethrows s.frames n) s
  act (set n) s = Some (set_local (holds s (local_is_set n)) n s)
  act (branch_on_null n) s = do
    p ← pop_reference s
    vs ← label_at s n
    t ← pop_vals W vs p.1
    Some (push_operand (non_null p.0) (push_vals vs t))
  act (branch_to_one_of ns n) s = do
    vs ← label_at s n
    t ← pop_vals W vs s
    guard (labels_fit s (length vs) ns) t >>= become_unreachable

  abbrev pub run : List Action → State R → Option (State R)
  run [] s = Some s
  run (a ∷ rest) s = act a s >>= run rest
