-- Counts are the lengths of the lists that validation looks up.
use Rattle.std.specs.Prelude.{true, false, ◌==◌, nat_lt, nat_le, if◌then◌else◌}
use Rattle.std.proofs.Common.{◌≡◌, ◌≤◌, refl, sym, ap, ◌∙◌, ℕ, zero, suc, ◌+◌, ◌-◌, ◌*◌, Bool, List, [], ◌∷◌, ◌++◌, length, map, drop, Option, Some, None, option_map, slice_get, length-append, arith, rules}
use Rattle.std.specs.Option.{option_and_then}
use Rattle.std.proofs.lemmas.Bool.{leb-true}
use Rattle.std.proofs.lemmas.Bool.Decides.{nat_tests}
use Rattle.std.proofs.lemmas.List.{length-map, length-drop}
use Rattle.std.proofs.lemmas.Option.{slice_get-map, same_Some, none-some}
use Rattle.wasm_spec_steps.specs.WasmSpecRules.WasmSpec.Syntax.{Heap, abstract_heap, concrete, exact, Val, i32, i64, f32, f64, v128, reference, Comp, func, array, struct, cont, Sub}
use Rattle.wasm_spec_steps.specs.WasmSpecRules.WasmSpec.MatchingTests.{World}
use Rattle.wasm_readers_types.specs.WasmReadersValues.declared.indices.UnpackedIndex.{UnpackedIndex}
use Rattle.wasm_readers_types.specs.WasmReadersValues.declared.indices.UnpackedIndex.TheVariants.{Module, RecGroup, Id}
use Rattle.wasm_operators.specs.Control.{Block, empty_block, value_block, func_block}
use Rattle.wasm_spec_steps.specs.WasmSpecRules.Attempts.{◌>>=◌, guard, last_of, front_of}
use Rattle.wasm_spec_steps.specs.Bodies.{Surroundings}
use Rattle.wasm_spec_steps.specs.Machine.{Kind, block_kind, loop_kind, if_kind, else_kind, try_table_kind, legacy_try_kind, legacy_catch_kind, legacy_catch_all_kind, Frame, State}
use Rattle.wasm_spec_steps.specs.Actions.{Signed, of_type, of_function, of_tag, OperandTypes, these, params, results, label, returned, local, global, function_reference, new_reference, fields, element, field, table_address, memory_address, table_element, segment, lesser_table_address, lesser_memory_address, top, descriptor_of, descriptor_for, repeated, front, last, continued, taken_by, given_by, joined, before, behind}
use Rattle.wasm_spec_steps.specs.WasmSpecRules.Signatures.{Signature, signature_of, resolve_val, resolve_vals}
use Rattle.wasm_spec_steps.specs.Meanings.{fields_of, copies, one, unpack_field, label_by, ref_to, exact_if, function_heap, element_at, field_at, address, table_is_64, memory_is_64, both, top_heap, descriptor_at, descriptor_heap, cont_of, defined_in, referred, firsts, all_but, last_ones, continuation_signature, continued_signature, comp_at, sub_at, type_signature, block_signature, signature_at, types_at}
use Rattle.wasm_typing_arity.specs.Arities.{takes_of, gives_of, func_counts, field_count, one_of, at_least, label_count, type_counts, signature_counts, block_counts, named_by, referred_by, function_behind, last_type, counts_by, how_many}
use Rattle.wasm_typing_arity.specs.ArityQueries.{Asked, type_of_id}
use Rattle.wasm_typing_arity.specs.Lengths.{lengths_of, asked_of, DeclaresIds, TellsLast, by_reference, by_continuation, IsCounted, CountsAreLengths}

-- an attempt that gives something, taken apart
bind-gives : {A B : Type 0} (o : Option A) (g : A → Option B) (b : B) → (o >>= g) ≡ Some b → (a : A) × (o ≡ Some a) × (g a ≡ Some b)
bind-gives None g b e = absurd (none-some b e)
bind-gives (Some a) g b e = (a, refl, e)

map-gives : {A B : Type 0} (f : A → B) (o : Option A) (b : B) → option_map f o ≡ Some b → (a : A) × (o ≡ Some a) × (f a ≡ b)
map-gives f None b e = absurd (none-some b e)
map-gives f (Some a) b e = (a, refl, same_Some (f a) b e)

-- lists
one-length : {R : Type 0} (o : Option (Val R)) (vs : List (Val R)) → one o ≡ Some vs → Some 1 ≡ Some (length vs)
one-length None vs e = absurd (none-some vs e)
one-length {R = R} (Some v) vs e = ap (λ (ws : List (Val R)). Some (length ws)) (same_Some (v ∷ []) vs e)

front-length : {A : Type 0} (xs : List A) → length (front_of xs) ≡ length xs - 1
front-length [] = refl
front-length (x ∷ []) = refl
front-length (x ∷ y ∷ ys) = let h : length (front_of (y ∷ ys)) ≡ length (y ∷ ys) - 1 = front-length (y ∷ ys) in omega (arith, h)

copies-length : {R : Type 0} (n : ℕ) (vs : List (Val R)) → length (copies n vs) ≡ n * length vs
copies-length zero vs = omega arith
copies-length (suc n) vs = let h : length (copies n vs) ≡ n * length vs = copies-length n vs in let e : length (copies (suc n) vs) ≡ length vs + length (copies n vs) = length-append vs (copies n vs) in grind (arith, h, e)

last_of-map : {A B : Type 0} (f : A → B) (xs : List A) → last_of (map f xs) ≡ option_map f (last_of xs)
last_of-map f [] = refl
last_of-map f (x ∷ []) = refl
last_of-map f (x ∷ y ∷ ys) = last_of-map f (y ∷ ys)

last-counted : {R : Type 0} (us : List (Val R)) (v : Val R) → last_of us ≡ Some v → one_of (length us) ≡ Some 1
last-counted [] v e = absurd (none-some v e)
last-counted (u ∷ us) v e = let h : (length (u ∷ us) == 0) ≡ false = search rules in rw h refl

-- the first ones, and the last ones
guard-gives : {A : Type 0} (b : Bool) (x v : A) → guard b x ≡ Some v → (b ≡ true) × (x ≡ v)
guard-gives true x v e = (refl, same_Some x v e)
guard-gives false x v e = absurd (none-some v e)

firsts-length : {R : Type 0} (n : ℕ) (vs : List (Val R)) → n ≤ length vs → length (firsts n vs) ≡ n
firsts-length zero vs l = refl
firsts-length (suc n) [] l = absurd (omega (arith, l))
firsts-length (suc n) (v ∷ vs) l = ap suc (firsts-length n vs (omega (arith, l)))

before-counted : {R : Type 0} (n : ℕ) (us vs : List (Val R)) → all_but n us ≡ Some vs → at_least n (length us) ≡ Some (length vs)
before-counted n us vs e =
    let g = guard-gives (nat_le n (length us)) (firsts (length us - n) us) vs e in
    let l : n ≤ length us = leb-true n (length us) g.0 in
    let h : nat_lt (length us) n ≡ false = grind (arith, nat_tests) in
    let m : length (firsts (length us - n) us) ≡ length us - n = firsts-length (length us - n) us (omega arith) in
    ap (λ (b : Bool). if b then None else Some (length us - n)) h ∙ ap Some (sym m ∙ ap length g.1)

behind-counted : {R : Type 0} (n : ℕ) (us vs : List (Val R)) → last_ones n us ≡ Some vs → n ≡ length vs
behind-counted n us vs e =
    let g = guard-gives (nat_le n (length us)) (drop (length us - n) us) vs e in
    let l : n ≤ length us = leb-true n (length us) g.0 in
    let m : length (drop (length us - n) us) ≡ length us - (length us - n) = length-drop (length us - n) us in
    let k : n ≡ length (drop (length us - n) us) = omega (arith, l, m) in
    k ∙ ap length g.1

resolved-length : {R : Type 0} (ts : List R) (us : List (Val ℕ)) (vs : List (Val R)) → resolve_vals ts us ≡ Some vs → length us ≡ length vs
resolved-length ts [] vs e = ap length (same_Some [] vs e)
resolved-length ts (u ∷ us) vs e =
    let a = bind-gives (resolve_val ts u) (λ w. (resolve_vals ts us >>= λ ws. Some (w ∷ ws))) vs e in
    let b = bind-gives (resolve_vals ts us) (λ ws. Some (a.0 ∷ ws)) vs a.2 in
    ap suc (resolved-length ts us b.0 b.1) ∙ ap length (same_Some (a.0 ∷ b.0) vs b.2)

-- types
func-counted : {R : Type 0} (c : Comp R) → func_counts c ≡ option_map lengths_of (signature_of c)
func-counted (func ps rs) = refl
func-counted (array x) = refl
func-counted (struct xs) = refl
func-counted (cont a) = refl

sub-counted : {R : Type 0} (o : Option (Sub R)) → option_and_then (λ d. func_counts d.comp) o ≡ option_map lengths_of (option_map (λ d. d.comp) o >>= signature_of)
sub-counted None = refl
sub-counted (Some d) = func-counted d.comp

field-counted : {R : Type 0} (c : Comp R) → field_count c ≡ option_map length (option_map (map unpack_field) (fields_of c))
field-counted (func ps rs) = refl
field-counted (array x) = refl
field-counted (struct xs) = ap Some (sym (length-map xs unpack_field))
field-counted (cont a) = refl

fields-counted : {R : Type 0} (o : Option (Sub R)) → option_and_then (λ d. field_count d.comp) o ≡ option_map length (option_map (map unpack_field) (option_map (λ d. d.comp) o >>= fields_of))
fields-counted None = refl
fields-counted (Some d) = field-counted d.comp

takes-counted : {R : Type 0} (o : Option (Signature R)) → takes_of (option_map lengths_of o) ≡ option_map length (option_map (λ g. g.takes) o)
takes-counted None = refl
takes-counted (Some g) = refl

gives-counted : {R : Type 0} (o : Option (Signature R)) → gives_of (option_map lengths_of o) ≡ option_map length (option_map (λ g. g.gives) o)
gives-counted None = refl
gives-counted (Some g) = refl

label-counted : {R : Type 0} (k : Kind) (o : Option (Signature R)) → label_count k (option_map lengths_of o) ≡ option_map length (option_map (label_by k) o)
label-counted loop_kind o = takes-counted o
label-counted block_kind o = gives-counted o
label-counted if_kind o = gives-counted o
label-counted else_kind o = gives-counted o
label-counted try_table_kind o = gives-counted o
label-counted legacy_try_kind o = gives-counted o
label-counted legacy_catch_kind o = gives-counted o
label-counted legacy_catch_all_kind o = gives-counted o

-- a count that is the length of an attempt, where the attempt gives a list
from-map : {A : Type 0} (n : Option ℕ) (o : Option (List A)) (vs : List A) → n ≡ option_map length o → o ≡ Some vs → n ≡ Some (length vs)
from-map n o vs e f = e ∙ ap (option_map length) f

module _ (W : World UnpackedIndex) (B : Surroundings UnpackedIndex) (s : State UnpackedIndex) where
  type-counted : (n : ℕ) → type_counts (asked_of W B s) n ≡ option_map lengths_of (type_signature W B n)
  type-counted n = sub-counted (sub_at W B n)

  function-counted : (o : Option ℕ) → option_and_then (type_counts (asked_of W B s)) o ≡ option_map lengths_of (o >>= type_signature W B)
  function-counted None = refl
  function-counted (Some n) = type-counted n

  signature-counted : (g : Signed) → signature_counts (asked_of W B s) g ≡ option_map lengths_of (signature_at W B g)
  signature-counted (of_type n) = type-counted n
  signature-counted (of_function n) = function-counted (slice_get B.context.functions n)
  signature-counted (of_tag n) = refl

  block-counted : (b : Block UnpackedIndex) → block_counts (asked_of W B s) b ≡ option_map lengths_of (block_signature W B b)
  block-counted empty_block = refl
  block-counted (value_block v) = refl
  block-counted (func_block n) = type-counted n

  frame-counted : (o : Option (Frame UnpackedIndex)) →
      option_and_then (λ (x : Block UnpackedIndex × Kind). label_count x.1 (block_counts (asked_of W B s) x.0)) (option_map (λ (x : Frame UnpackedIndex). (x.block, x.kind)) o) ≡ option_map length (o >>= λ (x : Frame UnpackedIndex). option_map (label_by x.kind) (block_signature W B x.block))
  frame-counted None = refl
  frame-counted (Some x) = ap (label_count x.kind) (block-counted x.block) ∙ label-counted x.kind (block_signature W B x.block)

  return-counted : (o : Option (Frame UnpackedIndex)) →
      option_and_then (λ (x : Block UnpackedIndex × Kind). gives_of (block_counts (asked_of W B s) x.0)) (option_map (λ (x : Frame UnpackedIndex). (x.block, x.kind)) o) ≡ option_map length (o >>= λ (x : Frame UnpackedIndex). option_map (λ g. g.gives) (block_signature W B x.block))
  return-counted None = refl
  return-counted (Some x) = ap gives_of (block-counted x.block) ∙ gives-counted (block_signature W B x.block)

  -- what continuations take and give, where only ids name types
  abbrev M : Asked
  M = asked_of W B s

  abbrev signature_in : Option (Sub UnpackedIndex) → Option (Signature UnpackedIndex)
  signature_in o = o >>= λ d. signature_of d.comp

  abbrev signature_behind : Option (Sub UnpackedIndex) → Option (Signature UnpackedIndex)
  signature_behind o = signature_in (function_behind M o)

  module _ (only : DeclaresIds W) where
    by_id : (a : UnpackedIndex) → type_of_id M a ≡ W.declared a
    by_id (Module n) = sym (only.of_module n)
    by_id (RecGroup n) = sym (only.of_group n)
    by_id (Id id) = refl

    by_cont : (o : Option UnpackedIndex) → signature_in (option_and_then (type_of_id M) o) ≡ (o >>= λ a. signature_in (W.declared a))
    by_cont None = refl
    by_cont (Some a) = ap signature_in (by_id a)

    by_declared : (o : Option (Sub UnpackedIndex)) → signature_behind o ≡ (o >>= λ d. (cont_of d.comp >>= λ a. signature_in (W.declared a)))
    by_declared None = refl
    by_declared (Some d) = by_cont (cont_of d.comp)

    by_defined : (o : Option UnpackedIndex) → signature_behind (option_and_then (type_of_id M) o) ≡ (o >>= continuation_signature W B)
    by_defined None = refl
    by_defined (Some a) = ap signature_behind (by_id a) ∙ by_declared (W.declared a)

    by_last : (o : Option (Val UnpackedIndex)) → signature_behind (referred_by M o) ≡ (o >>= referred >>= continuation_signature W B)
    by_last None = refl
    by_last (Some i32) = refl
    by_last (Some i64) = refl
    by_last (Some f32) = refl
    by_last (Some f64) = refl
    by_last (Some v128) = refl
    by_last (Some (reference r)) = by_defined (defined_in r.heap)

    by_signature : (o : Option (Signature UnpackedIndex)) → signature_behind (referred_by M (option_and_then (λ g. last_of g.takes) o)) ≡ (option_map (λ g. g.takes) o >>= continued_signature W B)
    by_signature None = refl
    by_signature (Some g) = by_last (last_of g.takes)

    by_function : (o : Option (Sub UnpackedIndex))
        → signature_behind (option_and_then (λ d. referred_by M (option_and_then (λ g. last_of g.takes) (signature_of d.comp))) o) ≡ (option_map (λ g. g.takes) (signature_in o) >>= continued_signature W B)
    by_function None = refl
    by_function (Some d) = by_signature (signature_of d.comp)

    -- a reference to the type of an index
    abbrev signature_by : Option (Val UnpackedIndex) → Option (Signature UnpackedIndex)
    signature_by o = (o >>= λ v. (Some [] >>= λ vs. Some (v ∷ vs))) >>= continued_signature W B

    at_concrete : (b : Bool) (o : Option UnpackedIndex) → signature_behind (o >>= W.declared) ≡ signature_by (option_map reference (option_map (λ h. record { nullable = b; heap = h }) (option_map concrete o)))
    at_concrete b None = refl
    at_concrete b (Some a) = by_declared (W.declared a)

    at_exact : (b : Bool) (o : Option UnpackedIndex) → signature_behind (o >>= W.declared) ≡ signature_by (option_map reference (option_map (λ h. record { nullable = b; heap = h }) (option_map exact o)))
    at_exact b None = refl
    at_exact b (Some a) = by_declared (W.declared a)

    at_heap : (b : Bool) (h : Heap ℕ) → signature_behind (named_by M h) ≡ (types_at W B s (these (reference (record { nullable = b; heap = h }) ∷ [])) >>= continued_signature W B)
    at_heap b (abstract_heap shared k) = refl
    at_heap b (concrete n) = at_concrete b (slice_get B.context.types n)
    at_heap b (exact n) = at_exact b (slice_get B.context.types n)

    pub told : (t : OperandTypes) → TellsLast t → signature_behind (last_type M t) ≡ (types_at W B s t >>= continued_signature W B)
    told _ (by_reference r) = at_heap r.nullable r.heap
    told _ (by_continuation t h) = by_function (function_behind M (last_type M t)) ∙ ap (λ (o : Option (Signature UnpackedIndex)). option_map (λ g. g.takes) o >>= continued_signature W B) (told t h)

    counts-in : (o : Option (Sub UnpackedIndex)) → option_and_then (λ d. func_counts d.comp) o ≡ option_map lengths_of (signature_in o)
    counts-in None = refl
    counts-in (Some d) = func-counted d.comp

    continuation-counted : (t : OperandTypes) → TellsLast t → counts_by M t ≡ option_map lengths_of (types_at W B s t >>= continued_signature W B)
    continuation-counted t h = counts-in (function_behind M (last_type M t)) ∙ ap (option_map lengths_of) (told t h)

  counted : (t : OperandTypes) (vs : List (Val UnpackedIndex)) → IsCounted W t → types_at W B s t ≡ Some vs → how_many (asked_of W B s) t ≡ Some (length vs)
  counted (these us) vs h e = ap Some (resolved-length B.context.types us vs e)
  counted (params g) vs h e = from-map (how_many (asked_of W B s) (params g)) (types_at W B s (params g)) vs (ap takes_of (signature-counted g) ∙ takes-counted (signature_at W B g)) e
  counted (results g) vs h e = from-map (how_many (asked_of W B s) (results g)) (types_at W B s (results g)) vs (ap gives_of (signature-counted g) ∙ gives-counted (signature_at W B g)) e
  counted (label n) vs h e =
      from-map (how_many (asked_of W B s) (label n)) (types_at W B s (label n)) vs
      (ap (option_and_then (λ (x : Block UnpackedIndex × Kind). label_count x.1 (block_counts (asked_of W B s) x.0))) (slice_get-map (λ (x : Frame UnpackedIndex). (x.block, x.kind)) s.frames n) ∙ frame-counted (slice_get s.frames n)) e
  counted returned vs h e =
      from-map (how_many (asked_of W B s) returned) (types_at W B s returned) vs
      (ap (option_and_then (λ (x : Block UnpackedIndex × Kind). gives_of (block_counts (asked_of W B s) x.0))) (last_of-map (λ (x : Frame UnpackedIndex). (x.block, x.kind)) s.frames) ∙ return-counted (last_of s.frames)) e
  counted (fields n) vs h e = from-map (how_many (asked_of W B s) (fields n)) (types_at W B s (fields n)) vs (fields-counted (sub_at W B n)) e
  counted (repeated n t) vs h e =
      let a = map-gives (copies n) (types_at W B s t) vs e in
      ap (option_map (λ (k : ℕ). n * k)) (counted t a.0 h a.1) ∙ ap Some (sym (copies-length n a.0) ∙ ap length a.2)
  counted (front t) vs h e =
      let a = map-gives front_of (types_at W B s t) vs e in
      ap (option_map (λ (k : ℕ). k - 1)) (counted t a.0 h a.1) ∙ ap Some (sym (front-length a.0) ∙ ap length a.2)
  counted (last t) vs h e =
      let o = types_at W B s t in
      let a = map-gives (λ v. v ∷ []) (o >>= last_of) vs e in
      let b = bind-gives o last_of a.0 a.1 in
      ap (option_and_then one_of) (counted t b.0 h b.1) ∙ last-counted b.0 a.0 b.2 ∙ ap (λ (ws : List (Val UnpackedIndex)). Some (length ws)) a.2
  counted (joined t u) vs h e =
      let a = bind-gives (types_at W B s t) (λ xs. (types_at W B s u >>= λ ys. Some (xs ++ ys))) vs e in
      let b = bind-gives (types_at W B s u) (λ ys. Some (a.0 ++ ys)) vs a.2 in
      ap (option_and_then (λ (i : ℕ). option_map (λ (j : ℕ). i + j) (how_many (asked_of W B s) u))) (counted t a.0 h.0 a.1)
      ∙ ap (option_map (λ (j : ℕ). length a.0 + j)) (counted u b.0 h.1 b.1)
      ∙ ap Some (sym (length-append a.0 b.0) ∙ ap length (same_Some (a.0 ++ b.0) vs b.2))
  counted (local n) vs h e = one-length (option_map (λ x. x.content) (slice_get B.locals n)) vs e
  counted (global n) vs h e = one-length (option_map (λ g. g.content) (slice_get B.context.globals n)) vs e
  counted (function_reference n) vs h e = one-length (option_map (ref_to false) (function_heap W B n)) vs e
  counted (new_reference n) vs h e = one-length (option_map (λ a. ref_to false (exact_if W B true a)) (slice_get B.context.types n)) vs e
  counted (element n) vs h e = one-length (option_map unpack_field (element_at W B n)) vs e
  counted (field n k) vs h e = one-length (option_map unpack_field (field_at W B n k)) vs e
  counted (table_address n) vs h e = one-length (option_map address (table_is_64 W B n)) vs e
  counted (memory_address n) vs h e = one-length (option_map address (memory_is_64 W B n)) vs e
  counted (table_element n) vs h e = one-length (option_map (λ t. reference t.element) (slice_get B.context.tables n)) vs e
  counted (segment n) vs h e = one-length (option_map reference (slice_get B.context.elements n)) vs e
  counted (lesser_table_address m n) vs h e = one-length (option_map address (both (table_is_64 W B m) (table_is_64 W B n))) vs e
  counted (lesser_memory_address m n) vs h e = one-length (option_map address (both (memory_is_64 W B m) (memory_is_64 W B n))) vs e
  counted (top r) vs h e = one-length (option_map (ref_to true) (top_heap W B r.heap)) vs e
  counted (descriptor_of n) vs h e = one-length (option_map (λ a. ref_to true (exact a)) (descriptor_at W B n)) vs e
  counted (descriptor_for x) vs h e = one-length (option_map (ref_to true) (descriptor_heap W B x)) vs e
  counted (continued n) vs h e = one-length (option_map (λ a. ref_to true (concrete a)) (comp_at W B n >>= cont_of)) vs e
  counted (taken_by t) vs h e =
      from-map (how_many M (taken_by t)) (types_at W B s (taken_by t)) vs (ap takes_of (continuation-counted h.1 t h.0) ∙ takes-counted (types_at W B s t >>= continued_signature W B)) e
  counted (given_by t) vs h e =
      from-map (how_many M (given_by t)) (types_at W B s (given_by t)) vs (ap gives_of (continuation-counted h.1 t h.0) ∙ gives-counted (types_at W B s t >>= continued_signature W B)) e
  counted (before t u) vs h e =
      let a = bind-gives (types_at W B s t) (λ xs. (types_at W B s u >>= λ ys. all_but (length ys) xs)) vs e in
      let b = bind-gives (types_at W B s u) (λ ys. all_but (length ys) a.0) vs a.2 in
      ap (option_and_then (λ (k : ℕ). option_and_then (at_least k) (how_many M t))) (counted u b.0 h.1 b.1)
      ∙ ap (option_and_then (at_least (length b.0))) (counted t a.0 h.0 a.1)
      ∙ before-counted (length b.0) a.0 vs b.2
  counted (behind t u) vs h e =
      let a = bind-gives (types_at W B s t) (λ xs. (types_at W B s u >>= λ ys. last_ones (length ys) xs)) vs e in
      let b = bind-gives (types_at W B s u) (λ ys. last_ones (length ys) a.0) vs a.2 in
      counted u b.0 h.1 b.1 ∙ ap Some (behind-counted (length b.0) a.0 vs b.2)

pub counts_are_lengths : CountsAreLengths
counts_are_lengths W B s t vs h e = counted W B s t vs h e

pub ruleset lengths = (counts_are_lengths)
