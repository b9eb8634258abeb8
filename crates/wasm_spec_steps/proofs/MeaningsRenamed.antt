-- The actions, renamed.
use Rattle.std.proofs.Common.{◌≡◌, refl, sym, ap, ◌∙◌, ℕ, zero, suc, Bool, true, false, not, ◌&&◌, ◌||◌, ◌==◌, List, [], ◌∷◌, ◌++◌, map, length, drop, ◌-◌, Option, Some, None, option_map, is_some, slice_get, if◌then◌else◌}
use Rattle.std.specs.Prelude.{nat_le}
use Rattle.std.proofs.lemmas.List.{length-map, map-append, drop-map}
use Rattle.std.proofs.lemmas.Option.{slice_get-map}
use Rattle.wasm_spec_rules.specs.WasmSpec.Syntax.{AbstractHeap, eq_heap, Heap, abstract_heap, concrete, exact, Ref, Val, i32, i64, f32, f64, v128, reference, Storage, i8, i16, unpacked, Field, Comp, func, array, struct, cont, Table, map_heap, map_ref, map_val, map_storage, map_field, map_comp, map_sub, map_table, map_global}
use Rattle.wasm_spec_rules.specs.WasmSpec.ValueTypes.{implies}
use Rattle.wasm_spec_rules.specs.WasmSpec.Matching.{top_of_heap, is_shared_heap}
use Rattle.wasm_spec_rules.specs.WasmSpec.MatchingTests.{same_flag, World, matches_heap}
use Rattle.wasm_operators.specs.Control.{Block, empty_block, value_block, func_block}
use Rattle.wasm_operators.specs.Maps.{map_block}
use Rattle.wasm_spec_rules.specs.Attempts.{◌>>=◌, guard, among, passes, last_of, front_of, list_of}
use Rattle.wasm_spec_steps.specs.Matching.{matches_vals, match_some, matches_storage}
use Rattle.wasm_spec_steps.specs.Bodies.{Surroundings, map_local, map_surroundings}
use Rattle.wasm_spec_steps.specs.Machine.{Operand, bottom, bottom_reference, open_reference, known, Kind, block_kind, loop_kind, if_kind, else_kind, try_table_kind, legacy_try_kind, legacy_catch_kind, legacy_catch_all_kind, is_try, has_caught, Frame, State, delegates, rethrows, map_operand, map_frame, map_state, map_popped, push_operand, push_vals, pop_any, pop_reference, same_number, chosen, become_unreachable, push_frame, set_local, pop_vals}
use Rattle.wasm_spec_steps.specs.Actions.{Signed, of_type, of_function, of_tag, OperandTypes, these, params, results, label, returned, local, global, function_reference, new_reference, fields, element, field, table_address, memory_address, table_element, segment, lesser_table_address, lesser_memory_address, top, descriptor_of, descriptor_for, repeated, front, last, continued, taken_by, given_by, joined, before, behind, Check, has, allows, global_is_mutable, local_is_set, function_is_referenced, is_exception, each_matches, each_matches_some, may_be_cast, can_be_tested, is_aligned, suits, fields_have_defaults, has_no_descriptor, field_is_mutable, field_is_packed, element_is_mutable, element_has_default, element_is_number, element_is_packed, element_is_storable, data_is_there, segment_is_there, reaches_global, reaches_table, reaches_type, reaches_function, Action, need, refuse, take, give, take_any, take_reference, take_comparable, make_non_null, choose, stop, turn_to_else, leave, take_below, convert, describe, enter, turn_to_catch, find_outside, find_caught, set, branch_on_null, branch_to_one_of}
use Rattle.wasm_spec_rules.specs.Signatures.{Signature, resolve_heap, resolve_ref, resolve_val, resolve_vals, signature_of}
use Rattle.wasm_spec_steps.specs.Meanings.{ref_to, resolve_block, defined_in, firsts, fields_of, element_of, cont_of, referred, all_but, last_ones, unpack, unpack_field, is_packed, has_default, all_have_defaults, copies, one, is_of_continuations, address, both, label_by, sub_at, comp_at, type_signature, block_signature, frame_signature, label_at, returned_at, signature_at, fields_at, element_at, field_at, exact_if, function_heap, descriptor_at, descriptor_heap, top_heap, table_is_64, memory_is_64, continuation_signature, continued_signature, types_at, casts, holds, is_below_either, agree, converted, pop_frame, may_end, leave_in, turn_in, catch_in, labels_fit, described_by, described, act, run}
use Rattle.wasm_spec_steps.specs.Renaming.{Renames}
use Rattle.wasm_spec_steps.proofs.Attempts.{bind-map, bind-same, then-map, passes-map, guard-map, is_some-map, last_of-map, front_of-map}
use Rattle.wasm_spec_steps.proofs.MatchingRenamed.{matches_heap-map, matches_ref-map, matches_vals-map, match_some-map, matches_storage-map, is_shared_heap-map, top_of_heap-map}
use Rattle.wasm_spec_steps.proofs.MachineRenamed.{map_vals, push_vals-map, pop_any-map, pop_reference-map, non_null-map, same_number-map, chosen-map, become_unreachable-map, push_frame-map, set_local-map, pop_vals-map}

module _ {R S : Type 0} (f : R → S) where
  abbrev map_signature : Signature R → Signature S
  map_signature g = record { takes = map_vals f g.takes; gives = map_vals f g.gives }

  resolve_heap-map : (ts : List R) (x : Heap ℕ) → resolve_heap (map f ts) x ≡ option_map (map_heap f) (resolve_heap ts x)
  resolve_heap-map ts (abstract_heap s k) = refl
  resolve_heap-map ts (concrete n) = then-map f (map_heap f) concrete concrete (λ a. refl) (slice_get ts n) (slice_get-map f ts n)
  resolve_heap-map ts (exact n) = then-map f (map_heap f) exact exact (λ a. refl) (slice_get ts n) (slice_get-map f ts n)

  resolve_ref-map : (ts : List R) (r : Ref ℕ) → resolve_ref (map f ts) r ≡ option_map (map_ref f) (resolve_ref ts r)
  resolve_ref-map ts r = then-map (map_heap f) (map_ref f) _ _ (λ y. refl) (resolve_heap ts r.heap) (resolve_heap-map ts r.heap)

  resolve_val-map : (ts : List R) (v : Val ℕ) → resolve_val (map f ts) v ≡ option_map (map_val f) (resolve_val ts v)
  resolve_val-map ts i32 = refl
  resolve_val-map ts i64 = refl
  resolve_val-map ts f32 = refl
  resolve_val-map ts f64 = refl
  resolve_val-map ts v128 = refl
  resolve_val-map ts (reference r) = then-map (map_ref f) (map_val f) reference reference (λ y. refl) (resolve_ref ts r) (resolve_ref-map ts r)

  resolve_vals-map : (ts : List R) (vs : List (Val ℕ)) → resolve_vals (map f ts) vs ≡ option_map (map_vals f) (resolve_vals ts vs)
  resolve_vals-map ts [] = refl
  resolve_vals-map ts (v ∷ vs) = bind-map (map_val f) (map_vals f) _ _ (λ w. bind-map (map_vals f) (map_vals f) _ _ (λ ws. refl) (resolve_vals ts vs) (resolve_vals-map ts vs)) (resolve_val ts v) (resolve_val-map ts v)

  resolve_block-map : (ts : List R) (b : Block ℕ) → resolve_block (map f ts) b ≡ option_map (map_block f) (resolve_block ts b)
  resolve_block-map ts empty_block = refl
  resolve_block-map ts (value_block v) = then-map (map_val f) (map_block f) value_block value_block (λ y. refl) (resolve_val ts v) (resolve_val-map ts v)
  resolve_block-map ts (func_block n) = refl

  signature_of-map : (c : Comp R) → signature_of (map_comp f c) ≡ option_map map_signature (signature_of c)
  signature_of-map (func ps rs) = refl
  signature_of-map (array x) = refl
  signature_of-map (struct xs) = refl
  signature_of-map (cont r) = refl

  fields_of-map : (c : Comp R) → fields_of (map_comp f c) ≡ option_map (map (map_field f)) (fields_of c)
  fields_of-map (func ps rs) = refl
  fields_of-map (array x) = refl
  fields_of-map (struct xs) = refl
  fields_of-map (cont r) = refl

  element_of-map : (c : Comp R) → element_of (map_comp f c) ≡ option_map (map_field f) (element_of c)
  element_of-map (func ps rs) = refl
  element_of-map (array x) = refl
  element_of-map (struct xs) = refl
  element_of-map (cont r) = refl

  cont_of-map : (c : Comp R) → cont_of (map_comp f c) ≡ option_map f (cont_of c)
  cont_of-map (func ps rs) = refl
  cont_of-map (array x) = refl
  cont_of-map (struct xs) = refl
  cont_of-map (cont r) = refl

  defined_in-map : (x : Heap R) → defined_in (map_heap f x) ≡ option_map f (defined_in x)
  defined_in-map (abstract_heap s k) = refl
  defined_in-map (concrete a) = refl
  defined_in-map (exact a) = refl

  referred-map : (v : Val R) → referred (map_val f v) ≡ option_map f (referred v)
  referred-map i32 = refl
  referred-map i64 = refl
  referred-map f32 = refl
  referred-map f64 = refl
  referred-map v128 = refl
  referred-map (reference r) = defined_in-map r.heap

  -- the first of some types, and the last of them
  firsts-map : (n : ℕ) (vs : List (Val R)) → firsts n (map_vals f vs) ≡ map_vals f (firsts n vs)
  firsts-map zero vs = refl
  firsts-map (suc n) [] = refl
  firsts-map (suc n) (v ∷ vs) = λ i. map_val f v ∷ firsts-map n vs i

  all_but-map : (n : ℕ) (vs : List (Val R)) → all_but n (map_vals f vs) ≡ option_map (map_vals f) (all_but n vs)
  all_but-map n vs =
      guard-map (map_vals f) (firsts (length vs - n) vs) (ap (nat_le n) (length-map vs (map_val f)))
      ((λ i. firsts (length-map vs (map_val f) i - n) (map_vals f vs)) ∙ firsts-map (length vs - n) vs)

  last_ones-map : (n : ℕ) (vs : List (Val R)) → last_ones n (map_vals f vs) ≡ option_map (map_vals f) (last_ones n vs)
  last_ones-map n vs =
      guard-map (map_vals f) (drop (length vs - n) vs) (ap (nat_le n) (length-map vs (map_val f)))
      ((λ i. drop (length-map vs (map_val f) i - n) (map_vals f vs)) ∙ drop-map (map_val f) (length vs - n) vs)

  unpack-map : (x : Storage R) → unpack (map_storage f x) ≡ map_val f (unpack x)
  unpack-map i8 = refl
  unpack-map i16 = refl
  unpack-map (unpacked v) = refl

  is_packed-map : (x : Storage R) → is_packed (map_storage f x) ≡ is_packed x
  is_packed-map i8 = refl
  is_packed-map i16 = refl
  is_packed-map (unpacked v) = refl

  has_default-map : (v : Val R) → has_default (map_val f v) ≡ has_default v
  has_default-map i32 = refl
  has_default-map i64 = refl
  has_default-map f32 = refl
  has_default-map f64 = refl
  has_default-map v128 = refl
  has_default-map (reference r) = refl

  unpack_field-map : (x : Field R) → unpack_field (map_field f x) ≡ map_val f (unpack_field x)
  unpack_field-map x = unpack-map x.storage

  unpack_fields-map : (xs : List (Field R)) → map unpack_field (map (map_field f) xs) ≡ map_vals f (map unpack_field xs)
  unpack_fields-map [] = refl
  unpack_fields-map (x ∷ xs) = λ i. unpack-map x.storage i ∷ unpack_fields-map xs i

  field_has_default-map : (x : Field R) → has_default (unpack_field (map_field f x)) ≡ has_default (unpack_field x)
  field_has_default-map x = ap has_default (unpack-map x.storage) ∙ has_default-map (unpack_field x)

  all_have_defaults-map : (xs : List (Field R)) → all_have_defaults (map (map_field f) xs) ≡ all_have_defaults xs
  all_have_defaults-map [] = refl
  all_have_defaults-map (x ∷ xs) = λ i. field_has_default-map x i && all_have_defaults-map xs i

  is_number-map : (x : Field R) → same_number (unpack_field (map_field f x)) (unpack_field (map_field f x)) ≡ same_number (unpack_field x) (unpack_field x)
  is_number-map x = (λ i. same_number (unpack-map x.storage i) (unpack-map x.storage i)) ∙ same_number-map f (unpack_field x) (unpack_field x)

  copies-map : (n : ℕ) (vs : List (Val R)) → copies n (map_vals f vs) ≡ map_vals f (copies n vs)
  copies-map zero vs = refl
  copies-map (suc n) vs = (λ i. map_vals f vs ++ copies-map n vs i) ∙ sym (map-append (map_val f) vs (copies n vs))

  is_of_continuations-map : (x : Heap R) → is_of_continuations (map_heap f x) ≡ is_of_continuations x
  is_of_continuations-map (abstract_heap s k) = refl
  is_of_continuations-map (concrete a) = refl
  is_of_continuations-map (exact a) = refl

  address-map : (b : Bool) → address b ≡ map_val f (address b)
  address-map true = refl
  address-map false = refl

  one-map : (o : Option (Val R)) {o' : Option (Val S)} → o' ≡ option_map (map_val f) o → one o' ≡ option_map (map_vals f) (one o)
  one-map o p = then-map (map_val f) (map_vals f) list_of list_of (λ v. refl) o p

  -- what is addressed by 64 bits or by 32
  addressed-map : (o : Option Bool) → one (option_map address o) ≡ option_map (map_vals f) (one (option_map address o))
  addressed-map None = refl
  addressed-map (Some b) = λ i. Some (address-map b i ∷ [])

  label_by-map : (k : Kind) (g : Signature R) → label_by k (map_signature g) ≡ map_vals f (label_by k g)
  label_by-map block_kind g = refl
  label_by-map loop_kind g = refl
  label_by-map if_kind g = refl
  label_by-map else_kind g = refl
  label_by-map try_table_kind g = refl
  label_by-map legacy_try_kind g = refl
  label_by-map legacy_catch_kind g = refl
  label_by-map legacy_catch_all_kind g = refl

module _ {R S : Type 0} (f : R → S) (W : World R) (V : World S) (h : Renames f W V) (B : Surroundings R) where
  abbrev N : Surroundings S
  N = map_surroundings f B

  sub_at-map : (n : ℕ) → sub_at V N n ≡ option_map (map_sub f) (sub_at W B n)
  sub_at-map n = bind-map f (map_sub f) W.declared V.declared h.declared (slice_get B.context.types n) (slice_get-map f B.context.types n)

  comp_at-map : (n : ℕ) → comp_at V N n ≡ option_map (map_comp f) (comp_at W B n)
  comp_at-map n = then-map (map_sub f) (map_comp f) _ _ (λ d. refl) (sub_at W B n) (sub_at-map n)

  type_signature-map : (n : ℕ) → type_signature V N n ≡ option_map (map_signature f) (type_signature W B n)
  type_signature-map n = bind-map (map_comp f) (map_signature f) signature_of signature_of (signature_of-map f) (comp_at W B n) (comp_at-map n)

  block_signature-map : (b : Block R) → block_signature V N (map_block f b) ≡ option_map (map_signature f) (block_signature W B b)
  block_signature-map empty_block = refl
  block_signature-map (value_block v) = refl
  block_signature-map (func_block n) = type_signature-map n

  frame_signature-map : (x : Frame R) → frame_signature V N (map_frame f x) ≡ option_map (map_signature f) (frame_signature W B x)
  frame_signature-map x = block_signature-map x.block

  label_at-map : (s : State R) (n : ℕ) → label_at V N (map_state f s) n ≡ option_map (map_vals f) (label_at W B s n)
  label_at-map s n =
      bind-map (map_frame f) (map_vals f) _ _ (λ x. then-map (map_signature f) (map_vals f) _ _ (label_by-map f x.kind) (frame_signature W B x) (frame_signature-map x))
      (slice_get s.frames n) (slice_get-map (map_frame f) s.frames n)

  returned_at-map : (s : State R) → returned_at V N (map_state f s) ≡ option_map (map_vals f) (returned_at W B s)
  returned_at-map s =
      bind-map (map_frame f) (map_vals f) _ _ (λ x. then-map (map_signature f) (map_vals f) _ _ (λ g. refl) (frame_signature W B x) (frame_signature-map x))
      (last_of s.frames) (last_of-map (map_frame f) s.frames)

  signature_at-map : (g : Signed) → signature_at V N g ≡ option_map (map_signature f) (signature_at W B g)
  signature_at-map (of_type n) = type_signature-map n
  signature_at-map (of_function n) = bind-same (map_signature f) (type_signature W B) (type_signature V N) type_signature-map (slice_get B.context.functions n)
  signature_at-map (of_tag n) = bind-same (map_signature f) (type_signature W B) (type_signature V N) type_signature-map (slice_get B.context.tags n)

  fields_at-map : (n : ℕ) → fields_at V N n ≡ option_map (map (map_field f)) (fields_at W B n)
  fields_at-map n = bind-map (map_comp f) (map (map_field f)) fields_of fields_of (fields_of-map f) (comp_at W B n) (comp_at-map n)

  element_at-map : (n : ℕ) → element_at V N n ≡ option_map (map_field f) (element_at W B n)
  element_at-map n = bind-map (map_comp f) (map_field f) element_of element_of (element_of-map f) (comp_at W B n) (comp_at-map n)

  field_at-map : (n k : ℕ) → field_at V N n k ≡ option_map (map_field f) (field_at W B n k)
  field_at-map n k = bind-map (map (map_field f)) (map_field f) _ _ (λ xs. slice_get-map (map_field f) xs k) (fields_at W B n) (fields_at-map n)

  heap_if-map : (c : Bool) (a : R) → (if c then exact (f a) else concrete (f a)) ≡ map_heap f (if c then exact a else concrete a)
  heap_if-map true a = refl
  heap_if-map false a = refl

  exact_if-map : (b : Bool) (a : R) → exact_if V N b (f a) ≡ map_heap f (exact_if W B b a)
  exact_if-map b a = heap_if-map (b && B.features.custom_descriptors) a

  function_heap-map : (n : ℕ) → function_heap V N n ≡ option_map (map_heap f) (function_heap W B n)
  function_heap-map n =
      bind-same (map_heap f) _ _
      (λ t. bind-map f (map_heap f) _ _
      (λ a. bind-same (map_heap f) _ _ (λ b i. Some (exact_if-map b a i)) (slice_get B.context.exact n))
      (slice_get B.context.types t) (slice_get-map f B.context.types t))
      (slice_get B.context.functions n)

  descriptor_at-map : (n : ℕ) → descriptor_at V N n ≡ option_map f (descriptor_at W B n)
  descriptor_at-map n = bind-map (map_sub f) f _ _ (λ d. refl) (sub_at W B n) (sub_at-map n)

  descriptor_heap-map : (x : Heap ℕ) → descriptor_heap V N x ≡ option_map (map_heap f) (descriptor_heap W B x)
  descriptor_heap-map (abstract_heap s k) = refl
  descriptor_heap-map (concrete n) = then-map f (map_heap f) _ _ (λ a. refl) (descriptor_at W B n) (descriptor_at-map n)
  descriptor_heap-map (exact n) = then-map f (map_heap f) _ _ (λ a. refl) (descriptor_at W B n) (descriptor_at-map n)

  top_heap-map : (x : Heap ℕ) → top_heap V N x ≡ option_map (map_heap f) (top_heap W B x)
  top_heap-map x =
      bind-map (map_heap f) (map_heap f) (top_of_heap W.declared) (top_of_heap V.declared) (top_of_heap-map f W V h) (resolve_heap B.context.types x) (resolve_heap-map f B.context.types x)

  forgotten : (o : Option (Table R)) → option_map (λ t. t.is_64) (option_map (map_table f) o) ≡ option_map (λ t. t.is_64) o
  forgotten None = refl
  forgotten (Some t) = refl

  table_is_64-map : (n : ℕ) → table_is_64 V N n ≡ table_is_64 W B n
  table_is_64-map n = (λ i. option_map (λ t. t.is_64) (slice_get-map (map_table f) B.context.tables n i)) ∙ forgotten (slice_get B.context.tables n)

  type_of-map : (o : Option (Heap R)) (b : Bool) {o' : Option (Heap S)} → o' ≡ option_map (map_heap f) o → one (option_map (ref_to b) o') ≡ option_map (map_vals f) (one (option_map (ref_to b) o))
  type_of-map o b p = one-map f (option_map (ref_to b) o) (then-map (map_heap f) (map_val f) (ref_to b) (ref_to b) (λ y. refl) o p)

  item_of-map : (o : Option (Field R)) {o' : Option (Field S)} → o' ≡ option_map (map_field f) o → one (option_map unpack_field o') ≡ option_map (map_vals f) (one (option_map unpack_field o))
  item_of-map o p = one-map f (option_map unpack_field o) (then-map (map_field f) (map_val f) unpack_field unpack_field (unpack_field-map f) o p)

  continuation_signature-map : (a : R) → continuation_signature V N (f a) ≡ option_map (map_signature f) (continuation_signature W B a)
  continuation_signature-map a =
      bind-map (map_sub f) (map_signature f) _ _
      (λ d. bind-map f (map_signature f) _ _
      (λ b. bind-map (map_sub f) (map_signature f) _ _ (λ e. signature_of-map f e.comp) (W.declared b) (h.declared b))
      (cont_of d.comp) (cont_of-map f d.comp))
      (W.declared a) (h.declared a)

  continued_signature-map : (vs : List (Val R)) → continued_signature V N (map_vals f vs) ≡ option_map (map_signature f) (continued_signature W B vs)
  continued_signature-map vs =
      bind-map f (map_signature f) _ _ continuation_signature-map (last_of vs >>= referred)
      (bind-map (map_val f) f referred referred (referred-map f) (last_of vs) (last_of-map (map_val f) vs))

  signed-map : (o : Option (List (Val R))) {o' : Option (List (Val S))} → o' ≡ option_map (map_vals f) o → (o' >>= continued_signature V N) ≡ option_map (map_signature f) (o >>= continued_signature W B)
  signed-map o p = bind-map (map_vals f) (map_signature f) (continued_signature W B) (continued_signature V N) continued_signature-map o p

  types_at-map : (s : State R) (t : OperandTypes) → types_at V N (map_state f s) t ≡ option_map (map_vals f) (types_at W B s t)
  types_at-map s (these vs) = resolve_vals-map f B.context.types vs
  types_at-map s (params g) = then-map (map_signature f) (map_vals f) _ _ (λ x. refl) (signature_at W B g) (signature_at-map g)
  types_at-map s (results g) = then-map (map_signature f) (map_vals f) _ _ (λ x. refl) (signature_at W B g) (signature_at-map g)
  types_at-map s (label n) = label_at-map s n
  types_at-map s returned = returned_at-map s
  types_at-map s (local n) = one-map f _ (then-map (map_local f) (map_val f) _ _ (λ x. refl) (slice_get B.locals n) (slice_get-map (map_local f) B.locals n))
  types_at-map s (global n) = one-map f _ (then-map (map_global f) (map_val f) _ _ (λ x. refl) (slice_get B.context.globals n) (slice_get-map (map_global f) B.context.globals n))
  types_at-map s (function_reference n) = type_of-map (function_heap W B n) false (function_heap-map n)
  types_at-map s (new_reference n) =
      one-map f _ (then-map f (map_val f) _ _ (λ a i. ref_to false (exact_if-map true a i)) (slice_get B.context.types n) (slice_get-map f B.context.types n))
  types_at-map s (fields n) = then-map (map (map_field f)) (map_vals f) _ _ (unpack_fields-map f) (fields_at W B n) (fields_at-map n)
  types_at-map s (element n) = item_of-map (element_at W B n) (element_at-map n)
  types_at-map s (field n k) = item_of-map (field_at W B n k) (field_at-map n k)
  types_at-map s (table_address n) = (λ i. one (option_map address (table_is_64-map n i))) ∙ addressed-map f (table_is_64 W B n)
  types_at-map s (memory_address n) = addressed-map f (memory_is_64 W B n)
  types_at-map s (table_element n) =
      one-map f _ (then-map (map_table f) (map_val f) _ _ (λ t. refl) (slice_get B.context.tables n) (slice_get-map (map_table f) B.context.tables n))
  types_at-map s (segment n) =
      one-map f _ (then-map (map_ref f) (map_val f) reference reference (λ r. refl) (slice_get B.context.elements n) (slice_get-map (map_ref f) B.context.elements n))
  types_at-map s (lesser_table_address m n) =
      (λ i. one (option_map address (both (table_is_64-map m i) (table_is_64-map n i)))) ∙ addressed-map f (both (table_is_64 W B m) (table_is_64 W B n))
  types_at-map s (lesser_memory_address m n) = addressed-map f (both (memory_is_64 W B m) (memory_is_64 W B n))
  types_at-map s (top r) = type_of-map (top_heap W B r.heap) true (top_heap-map r.heap)
  types_at-map s (descriptor_of n) = one-map f _ (then-map f (map_val f) _ _ (λ a. refl) (descriptor_at W B n) (descriptor_at-map n))
  types_at-map s (descriptor_for x) = type_of-map (descriptor_heap W B x) true (descriptor_heap-map x)
  types_at-map s (repeated n t) = then-map (map_vals f) (map_vals f) _ _ (copies-map f n) (types_at W B s t) (types_at-map s t)
  types_at-map s (front t) = then-map (map_vals f) (map_vals f) front_of front_of (front_of-map (map_val f)) (types_at W B s t) (types_at-map s t)
  types_at-map s (last t) = one-map f _ (bind-map (map_vals f) (map_val f) last_of last_of (last_of-map (map_val f)) (types_at W B s t) (types_at-map s t))
  types_at-map s (continued n) =
      one-map f _ (then-map f (map_val f) _ _ (λ a. refl) (comp_at W B n >>= cont_of) (bind-map (map_comp f) f cont_of cont_of (cont_of-map f) (comp_at W B n) (comp_at-map n)))
  types_at-map s (taken_by t) = then-map (map_signature f) (map_vals f) _ _ (λ g. refl) (types_at W B s t >>= continued_signature W B) (signed-map (types_at W B s t) (types_at-map s t))
  types_at-map s (given_by t) = then-map (map_signature f) (map_vals f) _ _ (λ g. refl) (types_at W B s t >>= continued_signature W B) (signed-map (types_at W B s t) (types_at-map s t))
  types_at-map s (before t u) =
      bind-map (map_vals f) (map_vals f) _ _
      (λ vs. bind-map (map_vals f) (map_vals f) _ _
      (λ ws. (λ i. all_but (length-map ws (map_val f) i) (map_vals f vs)) ∙ all_but-map f (length ws) vs)
      (types_at W B s u) (types_at-map s u))
      (types_at W B s t) (types_at-map s t)
  types_at-map s (behind t u) =
      bind-map (map_vals f) (map_vals f) _ _
      (λ vs. bind-map (map_vals f) (map_vals f) _ _
      (λ ws. (λ i. last_ones (length-map ws (map_val f) i) (map_vals f vs)) ∙ last_ones-map f (length ws) vs)
      (types_at W B s u) (types_at-map s u))
      (types_at W B s t) (types_at-map s t)
  types_at-map s (joined t u) =
      bind-map (map_vals f) (map_vals f) _ _
      (λ vs. bind-map (map_vals f) (map_vals f) _ _ (λ ws. ap Some (sym (map-append (map_val f) vs ws))) (types_at W B s u) (types_at-map s u))
      (types_at W B s t) (types_at-map s t)

  casts-map : (r q : Ref R) → casts V N (map_ref f r) (map_ref f q) ≡ casts W B r q
  casts-map r q = λ i.
      if B.features.custom_descriptors then passes-map (map_heap f) (λ x. matches_heap W q.heap x) (λ x. matches_heap V (map_heap f q.heap) x) (λ x. matches_heap-map f W V h q.heap x) (top_of_heap W.declared r.heap) (top_of_heap-map f W V h r.heap) i
      else matches_ref-map f W V h q r i

  holds-map : (s : State R) (c : Check) → holds V N (map_state f s) c ≡ holds W B s c
  holds-map s (has p) = refl
  holds-map s (allows v) = refl
  holds-map s (global_is_mutable n) = passes-map (map_global f) _ _ (λ g. refl) (slice_get B.context.globals n) (slice_get-map (map_global f) B.context.globals n)
  holds-map s (local_is_set n) = ap (λ b. b || among n s.inits) (passes-map (map_local f) _ _ (λ x. refl) (slice_get B.locals n) (slice_get-map (map_local f) B.locals n))
  holds-map s (function_is_referenced n) = refl
  holds-map s (is_exception n) = passes-map (map_signature f) _ _ (λ g. ap (λ k. k == 0) (length-map g.gives (map_val f))) (signature_at W B (of_tag n)) (signature_at-map (of_tag n))
  holds-map s (each_matches t u) =
      passes-map (map_vals f) (λ vs. passes (matches_vals W vs) (types_at W B s u)) (λ vs. passes (matches_vals V vs) (types_at V N (map_state f s) u))
      (λ vs. passes-map (map_vals f) (matches_vals W vs) (matches_vals V (map_vals f vs)) (λ ws. matches_vals-map f W V h vs ws) (types_at W B s u) (types_at-map s u))
      (types_at W B s t) (types_at-map s t)
  holds-map s (each_matches_some t u) =
      passes-map (map_vals f) (λ vs. passes (λ ws. match_some W ws vs) (types_at W B s u)) (λ vs. passes (λ ws. match_some V ws vs) (types_at V N (map_state f s) u))
      (λ vs. passes-map (map_vals f) (λ ws. match_some W ws vs) (λ ws. match_some V ws (map_vals f vs)) (λ ws. match_some-map f W V h ws vs) (types_at W B s u) (types_at-map s u))
      (types_at W B s t) (types_at-map s t)
  holds-map s (may_be_cast r q) =
      passes-map (map_ref f) (λ a. passes (casts W B a) (resolve_ref B.context.types q)) (λ a. passes (casts V N a) (resolve_ref N.context.types q))
      (λ a. passes-map (map_ref f) (casts W B a) (casts V N (map_ref f a)) (λ b. casts-map a b) (resolve_ref B.context.types q) (resolve_ref-map f B.context.types q))
      (resolve_ref B.context.types r) (resolve_ref-map f B.context.types r)
  holds-map s (can_be_tested r) = passes-map (map_heap f) _ _ (λ x. ap not (is_of_continuations-map f x)) (top_heap W B r.heap) (top_heap-map r.heap)
  holds-map s (is_aligned op m) = refl
  holds-map s (suits g values) = refl
  holds-map s (fields_have_defaults n) = passes-map (map (map_field f)) all_have_defaults all_have_defaults (all_have_defaults-map f) (fields_at W B n) (fields_at-map n)
  holds-map s (has_no_descriptor n) = passes-map (map_sub f) _ _ (λ d. ap not (is_some-map f d.descriptor)) (sub_at W B n) (sub_at-map n)
  holds-map s (field_is_mutable n k) = passes-map (map_field f) _ _ (λ x. refl) (field_at W B n k) (field_at-map n k)
  holds-map s (field_is_packed b n k) = passes-map (map_field f) _ _ (λ x. ap (same_flag b) (is_packed-map f x.storage)) (field_at W B n k) (field_at-map n k)
  holds-map s (element_is_mutable n) = passes-map (map_field f) _ _ (λ x. refl) (element_at W B n) (element_at-map n)
  holds-map s (element_has_default n) = passes-map (map_field f) _ _ (field_has_default-map f) (element_at W B n) (element_at-map n)
  holds-map s (element_is_number n) = passes-map (map_field f) _ _ (is_number-map f) (element_at W B n) (element_at-map n)
  holds-map s (element_is_packed b n) = passes-map (map_field f) _ _ (λ x. ap (same_flag b) (is_packed-map f x.storage)) (element_at W B n) (element_at-map n)
  holds-map s (element_is_storable m n) =
      passes-map (map_field f) (λ x. passes (λ y. matches_storage W x.storage y.storage) (element_at W B n)) (λ x. passes (λ y. matches_storage V x.storage y.storage) (element_at V N n))
      (λ x. passes-map (map_field f) _ _ (λ y. matches_storage-map f W V h x.storage y.storage) (element_at W B n) (element_at-map n))
      (element_at W B m) (element_at-map m)
  holds-map s (data_is_there n) = refl
  holds-map s (segment_is_there n) = ap is_some (slice_get-map (map_ref f) B.context.elements n) ∙ is_some-map (map_ref f) (slice_get B.context.elements n)
  holds-map s (reaches_global n) = ap (implies B.shared) (passes-map (map_global f) _ _ (λ g. refl) (slice_get B.context.globals n) (slice_get-map (map_global f) B.context.globals n))
  holds-map s (reaches_table n) = ap (implies B.shared) (passes-map (map_table f) _ _ (λ t. refl) (slice_get B.context.tables n) (slice_get-map (map_table f) B.context.tables n))
  holds-map s (reaches_type n) = ap (implies B.shared) (passes-map (map_sub f) _ _ (λ d. refl) (sub_at W B n) (sub_at-map n))
  holds-map s (reaches_function n) =
      ap (implies B.shared) (passes-map (map_sub f) _ _ (λ d. refl) (slice_get B.context.functions n >>= sub_at W B) (bind-same (map_sub f) (sub_at W B) (sub_at V N) sub_at-map (slice_get B.context.functions n)))

  is_below_either-map : (k : AbstractHeap) (x : Operand R) → is_below_either V N k (map_operand f x) ≡ is_below_either W B k x
  is_below_either-map k (known (reference r)) =
      (λ i. matches_heap V (map_heap f r.heap) (abstract_heap (is_shared_heap-map f W V h r.heap i) k)) ∙ matches_heap-map f W V h r.heap (abstract_heap (is_shared_heap W.declared r.heap) k)
  is_below_either-map k (open_reference j) = refl
  is_below_either-map k bottom_reference = refl
  is_below_either-map k bottom = refl
  is_below_either-map k (known i32) = refl
  is_below_either-map k (known i64) = refl
  is_below_either-map k (known f32) = refl
  is_below_either-map k (known f64) = refl
  is_below_either-map k (known v128) = refl

  agree-map : (x y : Operand R) → agree V N (map_operand f x) (map_operand f y) ≡ agree W B x y
  agree-map (known (reference r)) (known (reference q)) = λ i. same_flag (is_shared_heap-map f W V h r.heap i) (is_shared_heap-map f W V h q.heap i)
  agree-map _ _ = refl

  converted-map : (k : AbstractHeap) (x : Operand R) → converted V N k (map_operand f x) ≡ map_operand f (converted W B k x)
  converted-map k (known (reference r)) = λ i. known (ref_to r.nullable (abstract_heap (is_shared_heap-map f W V h r.heap i) k))
  converted-map k (open_reference j) = refl
  converted-map k bottom_reference = refl
  converted-map k bottom = refl
  converted-map k (known i32) = refl
  converted-map k (known i64) = refl
  converted-map k (known f32) = refl
  converted-map k (known f64) = refl
  converted-map k (known v128) = refl

  pop_frame-map : (x : Frame R) (xs : List (Frame R)) (g : Signature R) (s : State R) → pop_frame V N (map_frame f x) (map (map_frame f) xs) (map_signature f g) (map_state f s) ≡ option_map (map_state f) (pop_frame W B x xs g s)
  pop_frame-map x xs g s =
      bind-map (map_state f) (map_state f) _ _
      (λ t. guard-map (map_state f) (record t { frames = xs; inits = drop (length t.inits - x.init_height) t.inits }) (ap (λ n. n == x.height) (length-map t.operands (map_operand f))) refl)
      (pop_vals W g.gives s) (pop_vals-map f W V h g.gives s)

  may_end-map : (k : Kind) (g : Signature R) → may_end V N k (map_signature f g) ≡ may_end W B k g
  may_end-map if_kind g = matches_vals-map f W V h g.takes g.gives
  may_end-map block_kind g = refl
  may_end-map loop_kind g = refl
  may_end-map else_kind g = refl
  may_end-map try_table_kind g = refl
  may_end-map legacy_try_kind g = refl
  may_end-map legacy_catch_kind g = refl
  may_end-map legacy_catch_all_kind g = refl

  leave_in-map : (xs : List (Frame R)) (s : State R) → leave_in V N (map (map_frame f) xs) (map_state f s) ≡ option_map (map_state f) (leave_in W B xs s)
  leave_in-map [] s = refl
  leave_in-map (x ∷ xs) s =
      bind-map (map_signature f) (map_state f) _ _
      (λ g. bind-map (map_state f) (map_state f) _ _ (λ t. guard-map (map_state f) (push_vals g.gives t) (may_end-map x.kind g) (push_vals-map f g.gives t)) (pop_frame W B x xs g s) (pop_frame-map x xs g s))
      (frame_signature W B x) (frame_signature-map x)

  turn_in-map : (xs : List (Frame R)) (s : State R) → turn_in V N (map (map_frame f) xs) (map_state f s) ≡ option_map (map_state f) (turn_in W B xs s)
  turn_in-map [] s = refl
  turn_in-map (x ∷ xs) s =
      bind-map (map_signature f) (map_state f) _ _
      (λ g. bind-map (map_state f) (map_state f) _ _ (λ t. guard-map (map_state f) (push_frame else_kind x.block g.takes t) refl (push_frame-map f else_kind x.block g.takes t)) (pop_frame W B x xs g s) (pop_frame-map x xs g s))
      (frame_signature W B x) (frame_signature-map x)

  catch_in-map : (k : Kind) (vs : List (Val R)) (xs : List (Frame R)) (s : State R) → catch_in V N k (map_vals f vs) (map (map_frame f) xs) (map_state f s) ≡ option_map (map_state f) (catch_in W B k vs xs s)
  catch_in-map k vs [] s = refl
  catch_in-map k vs (x ∷ xs) s =
      bind-map (map_signature f) (map_state f) _ _
      (λ g. bind-map (map_state f) (map_state f) _ _ (λ t. guard-map (map_state f) (push_frame k x.block vs t) refl (push_frame-map f k x.block vs t)) (pop_frame W B x xs g s) (pop_frame-map x xs g s))
      (frame_signature W B x) (frame_signature-map x)

  delegates-map : (xs : List (Frame R)) (n : ℕ) → delegates (map (map_frame f) xs) n ≡ delegates xs n
  delegates-map [] n = refl
  delegates-map (x ∷ xs) n = λ i. is_try x.kind && (ap is_some (slice_get-map (map_frame f) xs n) ∙ is_some-map (map_frame f) (slice_get xs n)) i

  rethrows-map : (xs : List (Frame R)) (n : ℕ) → rethrows (map (map_frame f) xs) n ≡ rethrows xs n
  rethrows-map xs n = passes-map (map_frame f) (λ (x : Frame R). has_caught x.kind) (λ (x : Frame S). has_caught x.kind) (λ x. refl) (slice_get xs n) (slice_get-map (map_frame f) xs n)

  labels_fit-map : (s : State R) (k : ℕ) (ns : List ℕ) → labels_fit V N (map_state f s) k ns ≡ labels_fit W B s k ns
  labels_fit-map s k [] = refl
  labels_fit-map s k (n ∷ ns) = λ i.
      passes-map (map_vals f) (λ vs. (length vs == k) && is_some (pop_vals W vs s)) (λ vs. (length vs == k) && is_some (pop_vals V vs (map_state f s)))
      (λ vs j. (length-map vs (map_val f) j == k) && (ap is_some (pop_vals-map f W V h vs s) ∙ is_some-map (map_state f) (pop_vals W vs s)) j)
      (label_at W B s n) (label_at-map s n) i
      && labels_fit-map s k ns i

  described_by-some : (b : R) (o p : Option (State R)) → described_by V N (f b) (option_map (map_state f) o) (option_map (map_state f) p) ≡ option_map (map_state f) (described_by W B b o p)
  described_by-some b (Some t) p = refl
  described_by-some b None None = refl
  described_by-some b None (Some t) = refl

  described-map : (a b : R) (s : State R) → described V N (f a) (f b) (map_state f s) ≡ option_map (map_state f) (described W B a b s)
  described-map a b s =
      (λ i. described_by V N (f b) (pop_vals-map f W V h (ref_to true (exact a) ∷ []) s i) (pop_vals-map f W V h (ref_to true (concrete a) ∷ []) s i))
      ∙ described_by-some b (pop_vals W (ref_to true (exact a) ∷ []) s) (pop_vals W (ref_to true (concrete a) ∷ []) s)

  act-map : (a : Action) (s : State R) → act V N a (map_state f s) ≡ option_map (map_state f) (act W B a s)
  act-map (need c) s = guard-map (map_state f) s (holds-map s c) refl
  act-map refuse s = refl
  act-map (take t) s = bind-map (map_vals f) (map_state f) _ _ (λ vs. pop_vals-map f W V h vs s) (types_at W B s t) (types_at-map s t)
  act-map (give t) s = bind-map (map_vals f) (map_state f) _ _ (λ vs. ap Some (push_vals-map f vs s)) (types_at W B s t) (types_at-map s t)
  act-map take_any s = bind-map (map_popped f) (map_state f) _ _ (λ p. refl) (pop_any s) (pop_any-map f s)
  act-map take_reference s = bind-map (map_popped f) (map_state f) _ _ (λ p. refl) (pop_reference s) (pop_reference-map f s)
  act-map (take_below k) s = bind-map (map_popped f) (map_state f) _ _ (λ p. guard-map (map_state f) p.1 (is_below_either-map k p.0) refl) (pop_reference s) (pop_reference-map f s)
  act-map take_comparable s =
      bind-map (map_popped f) (map_state f) _ _
      (λ p. bind-map (map_popped f) (map_state f) _ _
      (λ q. guard-map (map_state f) q.1 (λ i. is_below_either-map eq_heap p.0 i && is_below_either-map eq_heap q.0 i && agree-map p.0 q.0 i) refl)
      (pop_reference p.1) (pop_reference-map f p.1))
      (pop_reference s) (pop_reference-map f s)
  act-map make_non_null s = bind-map (map_popped f) (map_state f) _ _ (λ p i. Some (push_operand (non_null-map f p.0 i) (map_state f p.1))) (pop_reference s) (pop_reference-map f s)
  act-map (convert j k) s =
      bind-map (map_popped f) (map_state f) _ _
      (λ p. guard-map (map_state f) (push_operand (converted W B k p.0) p.1) (is_below_either-map j p.0) (λ i. push_operand (converted-map k p.0 i) (map_state f p.1)))
      (pop_reference s) (pop_reference-map f s)
  act-map (describe n) s =
      bind-map f (map_state f) _ _
      (λ a. bind-map f (map_state f) _ _ (λ b. described-map a b s) (descriptor_at W B n) (descriptor_at-map n))
      (slice_get B.context.types n) (slice_get-map f B.context.types n)
  act-map choose s =
      bind-map (map_popped f) (map_state f) _ _
      (λ p. bind-map (map_popped f) (map_state f) _ _
      (λ q. bind-map (map_operand f) (map_state f) _ _ (λ x. refl) (chosen p.0 q.0) (chosen-map f p.0 q.0))
      (pop_any p.1) (pop_any-map f p.1))
      (pop_any s) (pop_any-map f s)
  act-map stop s = become_unreachable-map f s
  act-map turn_to_else s = turn_in-map s.frames s
  act-map leave s = leave_in-map s.frames s
  act-map (enter k b) s =
      bind-map (map_block f) (map_state f) _ _
      (λ c. bind-map (map_signature f) (map_state f) _ _
      (λ g. bind-map (map_state f) (map_state f) _ _ (λ t. ap Some (push_frame-map f k c g.takes t)) (pop_vals W g.takes s) (pop_vals-map f W V h g.takes s))
      (block_signature W B c) (block_signature-map c))
      (resolve_block B.context.types b) (resolve_block-map f B.context.types b)
  act-map (turn_to_catch t k) s = bind-map (map_vals f) (map_state f) _ _ (λ vs. catch_in-map k vs s.frames s) (types_at W B s t) (types_at-map s t)
  act-map (find_outside n) s = guard-map (map_state f) s (delegates-map s.frames n) refl
  act-map (find_caught n) s = guard-map (map_state f) s (rethrows-map s.frames n) refl
  act-map (set n) s = (λ i. Some (set_local (holds-map s (local_is_set n) i) n (map_state f s))) ∙ ap Some (set_local-map f (holds W B s (local_is_set n)) n s)
  act-map (branch_on_null n) s =
      bind-map (map_popped f) (map_state f) _ _
      (λ p. bind-map (map_vals f) (map_state f) _ _
      (λ vs. bind-map (map_state f) (map_state f) _ _ (λ t i. Some (push_operand (non_null-map f p.0 i) (push_vals-map f vs t i))) (pop_vals W vs p.1) (pop_vals-map f W V h vs p.1))
      (label_at W B s n) (label_at-map s n))
      (pop_reference s) (pop_reference-map f s)
  act-map (branch_to_one_of ns n) s =
      bind-map (map_vals f) (map_state f) _ _
      (λ vs. bind-map (map_state f) (map_state f) _ _
      (λ t. bind-map (map_state f) (map_state f) become_unreachable become_unreachable (become_unreachable-map f) (guard (labels_fit W B s (length vs) ns) t)
      (guard-map (map_state f) t ((λ i. labels_fit V N (map_state f s) (length-map vs (map_val f) i) ns) ∙ labels_fit-map s (length vs) ns) refl))
      (pop_vals W vs s) (pop_vals-map f W V h vs s))
      (label_at W B s n) (label_at-map s n)

  pub run-map : (as_ : List Action) (s : State R) → run V N as_ (map_state f s) ≡ option_map (map_state f) (run W B as_ s)
  run-map [] s = refl
  run-map (a ∷ as_) s = bind-map (map_state f) (map_state f) (run W B as_) (run V N as_) (run-map as_) (act W B a s) (act-map a s)
