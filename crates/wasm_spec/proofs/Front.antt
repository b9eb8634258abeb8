-- What is read stands at the front of the bytes: what is left is a rest of them, and bytes behind them change only that.
use Rattle.std.proofs.Common.{◌≡◌, refl, sym, ap, ◌∙◌, subst, ℕ, zero, suc, ◌+◌, ◌-◌, ◌≤◌, ◌<◌, ◌^◌, nat_lt, nat_le, ◌==◌, Bool, true, false, if◌then◌else◌, List, [], ◌∷◌, ◌++◌, length, take, drop, Option, Some, None, option_map, append_assoc, arith, length-append}
use Rattle.std.proofs.lemmas.Bool.{le-ltb, ltb-false}
use Rattle.std.proofs.lemmas.List.{take-append-le, drop-append-le, take-append-drop}
use Rattle.std.specs.Option.{option_and_then}
use Rattle.std.specs.Str.{is_utf8}
use Rattle.wasm_spec.specs.Syntax.{AbstractHeap, Sub}
use Rattle.wasm_spec.specs.Values.{unsigned_at, signed_at, not_negative, u32_at, u64_at, s33_index_at, bytes_at, sized_at, many_at, list_at, name_at}
use Rattle.wasm_spec.specs.BinaryTypes.{abstract_heap_from, abstract_heap_at, flag_from, flag_at, has_bit, flags_at, number_if, limits_at, page_size_if, memory_at, tag_at, index_at, plain_heap_from, heap_at, ref_at, val_at, storage_at, field_at, func_at, comp_at, index_behind, marked_index_at, marked_at, final_or_not, sub_at, rec_at, table_at, global_at}
use Rattle.wasm_spec.specs.BinaryModules.{export_at, extern_at, import_at}

-- rest is what is left of start behind at least k bytes
pub record IsRest (k : ℕ) (rest start : List ℕ) : Type 0 where
  pub front : List ℕ
  pub is : start ≡ front ++ rest
  pub longer : k ≤ length front

-- a rest of a rest
pub IsRest-trans : {k l : ℕ} {rest middle start : List ℕ} → IsRest k middle start → IsRest l rest middle → (IsRest k rest start) × (IsRest l rest start)
IsRest-trans {k} {l} {rest} {middle} {start} h r =
    let is : start ≡ (h.front ++ r.front) ++ rest = h.is ∙ ap (λ xs. h.front ++ xs) r.is ∙ sym (append_assoc h.front r.front rest) in
    let both : length (h.front ++ r.front) ≡ length h.front + length r.front = length-append h.front r.front in
    (record { front = h.front ++ r.front; is = is; longer = omega (arith, both, h.longer) }, record { front = h.front ++ r.front; is = is; longer = omega (arith, both, r.longer) })

-- what a rest behind a byte is left of has a byte
IsRest-not_empty : {rest start : List ℕ} → IsRest 1 rest start → 0 < length start
IsRest-not_empty {rest} h = omega (arith, ap length h.is, length-append h.front rest, h.longer)

abbrev pub ReadsBy : {V : Type 0} → List ℕ → ℕ → List ℕ → Option (V × List ℕ) → Option (V × List ℕ) → Type 0
ReadsBy more k start None p = Unit {0}
ReadsBy more k start (Some x) p = IsRest k x.1 start × (p ≡ Some (x.0, x.1 ++ more))

-- the first result, if any, leaves a rest of start behind at least k bytes, and the second is the same with more behind the rest
pub record Reads {V : Type 0} (more : List ℕ) (k : ℕ) (start : List ℕ) (o p : Option (V × List ℕ)) : Type 0 where
  pub is : ReadsBy more k start o p

-- where so many bytes are there, they are there with more behind
bytes-enough : (more : List ℕ) (n : ℕ) (bytes : List ℕ) → n ≤ length bytes → bytes_at n (bytes ++ more) ≡ Some (take n bytes, drop n bytes ++ more)
bytes-enough more n bytes h =
    ap (λ c. if c then None else Some (take n (bytes ++ more), drop n (bytes ++ more))) (le-ltb (length (bytes ++ more)) n (omega (arith, h, length-append bytes more)))
    ∙ (λ i. Some (take-append-le n bytes more h i, drop-append-le n bytes more h i))

abbrev pub ReadsBeforeBy : {V : Type 0} → List ℕ → List ℕ → Option (V × List ℕ) → Option (V × List ℕ) → Type 0
ReadsBeforeBy more start None p = Unit {0}
ReadsBeforeBy more start (Some x) p = IsRest 0 x.1 start × (0 < length x.1 → p ≡ Some (x.0, x.1 ++ more))

-- the same, but that nothing is said of the second result where the first leaves no byte
pub record ReadsBefore {V : Type 0} (more start : List ℕ) (o p : Option (V × List ℕ)) : Type 0 where
  pub is : ReadsBeforeBy more start o p

module _ {R : Type 0} (to : ℕ → R) where
  -- what stands behind the mark of an index
  abbrev behind_mark : Bool × List ℕ → Option (Option R × List ℕ)
  behind_mark m = index_behind to m.0 m.1

  -- what stands behind the mark 65
  abbrev behind_shared : Bool → List R → Bool × List ℕ → Option (Sub R × List ℕ)
  behind_shared is_final supers m =
      option_and_then
      (λ v. option_and_then
      (λ d. option_map
      (λ c. (record { is_final = is_final; supers = supers; shared = m.0; comp = c.0; descriptor = d.0; describes = v.0 }, c.1))
      (comp_at to d.1))
      (marked_index_at to 0x4d v.1))
      (marked_index_at to 0x4c m.1)

module _ {more : List ℕ} where
  -- nothing, and a value that no byte is read for
  pub reads_none : {V : Type 0} {k : ℕ} {start : List ℕ} {p : Option (V × List ℕ)} → Reads more k start None p
  reads_none = record { is = tt }

  pub reads_here : {V : Type 0} {start : List ℕ} {v : V} → Reads more 0 start (Some (v, start)) (Some (v, start ++ more))
  reads_here = record { is = (record { front = []; is = refl; longer = omega arith }, refl) }

  pub reads_value : {V X : Type 0} {start : List ℕ} (f : X → V) (o : Option X) → Reads more 0 start (option_map (λ x. (f x, start)) o) (option_map (λ x. (f x, start ++ more)) o)
  reads_value f None = reads_none
  reads_value f (Some x) = reads_here

  -- what is read from a rest is read from an earlier start
  pub reads_from : {V : Type 0} {k l : ℕ} {middle start : List ℕ} (o : Option (V × List ℕ)) {p : Option (V × List ℕ)} → IsRest k middle start → Reads more l middle o p → Reads more k start o p
  reads_from None h r = reads_none
  reads_from (Some x) h r = record { is = ((IsRest-trans h r.is.0).0, r.is.1) }

  pub reads_behind : {V : Type 0} {k : ℕ} {b : ℕ} {start : List ℕ} {o p : Option (V × List ℕ)} → Reads more k start o p → Reads more 1 (b ∷ start) o p
  reads_behind {b} {o} h = reads_from o (record { front = b ∷ []; is = refl; longer = omega arith }) h

  pub reads_weaken : {V : Type 0} {k : ℕ} {start : List ℕ} {o p : Option (V × List ℕ)} → Reads more k start o p → Reads more 0 start o p
  reads_weaken {o} h = reads_from o (record { front = []; is = refl; longer = omega arith }) h

  -- the combinators
  pub reads_if : {V : Type 0} {k : ℕ} {start : List ℕ} (c : Bool) {a b d e : Option (V × List ℕ)} → Reads more k start a d → Reads more k start b e → Reads more k start (if c then a else b) (if c then d else e)
  reads_if true h r = h
  reads_if false h r = r

  pub reads_map : {V W : Type 0} {k : ℕ} {start : List ℕ} {o p : Option (V × List ℕ)} (f : V → W) → Reads more k start o p → Reads more k start (option_map (λ x. (f x.0, x.1)) o) (option_map (λ x. (f x.0, x.1)) p)
  reads_map {o = None} f h = reads_none
  reads_map {o = Some x} f h = record { is = (h.is.0, ap (option_map (λ x. (f x.0, x.1))) h.is.1) }

  pub reads_then : {V W : Type 0} {k l : ℕ} {start : List ℕ} {o p : Option (V × List ℕ)} (f : V × List ℕ → Option (W × List ℕ)) → Reads more k start o p → ((x : V × List ℕ) → Reads more l x.1 (f x) (f (x.0, x.1 ++ more))) → Reads more k start (option_and_then f o) (option_and_then f p)
  reads_then {o = None} f h r = reads_none
  reads_then {k = k} {start = start} {o = Some x} f h r = subst (λ q. Reads more k start (f x) q) (ap (option_and_then f) (sym h.is.1)) (reads_from (f x) h.is.0 (r x))

  -- items one after another
  pub reads_many : {V : Type 0} {k : ℕ} (reads : List ℕ → Option (V × List ℕ)) → ((bytes : List ℕ) → Reads more k bytes (reads bytes) (reads (bytes ++ more))) → (n : ℕ) (bytes : List ℕ) → Reads more 0 bytes (many_at reads n bytes) (many_at reads n (bytes ++ more))
  reads_many reads h zero bytes = reads_here
  reads_many reads h (suc n) bytes = reads_weaken (reads_then _ (h bytes) (λ x. reads_map _ (reads_many reads h n x.1)))

  -- what is read behind what ends in a mark that may be missing
  before_case : {W : Type 0} {middle start : List ℕ} (o : Option (W × List ℕ)) {p q : Option (W × List ℕ)} → IsRest 0 middle start → Reads more 1 middle o q → (0 < length middle → p ≡ q) → Reads more 1 start o p
  before_case None h r e = reads_none
  before_case (Some y) h r e = record { is = ((IsRest-trans h r.is.0).1, e (IsRest-not_empty r.is.0) ∙ r.is.1) }

  before_then : {V W : Type 0} {start : List ℕ} {o p : Option (V × List ℕ)} (f : V × List ℕ → Option (W × List ℕ)) → ReadsBefore more start o p → ((x : V × List ℕ) → Reads more 1 x.1 (f x) (f (x.0, x.1 ++ more))) → Reads more 1 start (option_and_then f o) (option_and_then f p)
  before_then {o = None} f h r = reads_none
  before_then {o = Some x} f h r = before_case (f x) h.is.0 (r x) (λ k. ap (option_and_then f) (h.is.1 k))

  -- at the end of the bytes, and where the second result is the same anyway
  before_end : {V : Type 0} {v : V} {p : Option (V × List ℕ)} → ReadsBefore more [] (Some (v, [])) p
  before_end = record { is = (record { front = []; is = refl; longer = omega arith }, λ k. absurd (omega (arith, k))) }

  before_reads : {V : Type 0} {k : ℕ} {start : List ℕ} {o p : Option (V × List ℕ)} → Reads more k start o p → ReadsBefore more start o p
  before_reads {o = None} h = record { is = tt }
  before_reads {o = Some x} h = record { is = ((reads_weaken h).is.0, λ _. h.is.1) }

  -- a mark that may be missing
  marked-case : (b : ℕ) (bytes : List ℕ) (c : Bool) → ReadsBefore more (b ∷ bytes) (Some (if c then (true, bytes) else (false, b ∷ bytes))) (Some (if c then (true, bytes ++ more) else (false, b ∷ bytes ++ more)))
  marked-case b bytes true = before_reads (reads_behind reads_here)
  marked-case b bytes false = before_reads reads_here

  marked-before : (mark : ℕ) (bytes : List ℕ) → ReadsBefore more bytes (Some (marked_at mark bytes)) (Some (marked_at mark (bytes ++ more)))
  marked-before mark [] = before_end
  marked-before mark (b ∷ bytes) = marked-case b bytes (b == mark)

  -- numbers
  pub unsigned-reads : (bits : ℕ) (bytes : List ℕ) → Reads more 1 bytes (unsigned_at bits bytes) (unsigned_at bits (bytes ++ more))
  unsigned-reads bits [] = reads_none
  unsigned-reads bits (n ∷ bytes) =
      reads_if (nat_lt n (2 ^ 7)) (reads_if (nat_lt n (2 ^ bits)) (reads_behind reads_here) reads_none)
      (reads_if (nat_lt 7 bits) (reads_map _ (reads_behind (unsigned-reads (bits - 7) bytes))) reads_none)

  pub signed-reads : (bits : ℕ) (bytes : List ℕ) → Reads more 1 bytes (signed_at bits bytes) (signed_at bits (bytes ++ more))
  signed-reads bits [] = reads_none
  signed-reads bits (n ∷ bytes) =
      reads_if (nat_lt n (2 ^ 6)) (reads_if (nat_lt n (2 ^ (bits - 1))) (reads_behind reads_here) reads_none)
      (reads_if (nat_lt n (2 ^ 7)) (reads_if (nat_le (2 ^ 7) (n + 2 ^ (bits - 1))) (reads_behind reads_here) reads_none)
      (reads_if (nat_lt 7 bits) (reads_map _ (reads_behind (signed-reads (bits - 7) bytes))) reads_none))

  u32-reads : (bytes : List ℕ) → Reads more 1 bytes (u32_at bytes) (u32_at (bytes ++ more))
  u32-reads bytes = unsigned-reads 32 bytes

  u64-reads : (bytes : List ℕ) → Reads more 1 bytes (u64_at bytes) (u64_at (bytes ++ more))
  u64-reads bytes = unsigned-reads 64 bytes

  s33_index-reads : (bytes : List ℕ) → Reads more 1 bytes (s33_index_at bytes) (s33_index_at (bytes ++ more))
  s33_index-reads bytes = reads_then _ (signed-reads 33 bytes) (λ n. reads_value (λ x. x) (not_negative n.0))

  -- lists and names
  pub reads_list : {V : Type 0} {k : ℕ} (reads : List ℕ → Option (V × List ℕ)) → ((bytes : List ℕ) → Reads more k bytes (reads bytes) (reads (bytes ++ more))) → (bytes : List ℕ) → Reads more 1 bytes (list_at reads bytes) (list_at reads (bytes ++ more))
  reads_list reads h bytes = reads_then _ (u32-reads bytes) (λ n. reads_many reads h n.0 n.1)

  bytes-part : (n : ℕ) (bytes : List ℕ) (c : Bool) → nat_lt (length bytes) n ≡ c → Reads more 0 bytes (if c then None else Some (take n bytes, drop n bytes)) (bytes_at n (bytes ++ more))
  bytes-part n bytes true e = reads_none
  bytes-part n bytes false e = record { is = (record { front = take n bytes; is = sym (take-append-drop n bytes); longer = omega arith }, bytes-enough more n bytes (ltb-false (length bytes) n e)) }

  sized-reads : (bytes : List ℕ) → Reads more 1 bytes (sized_at bytes) (sized_at (bytes ++ more))
  sized-reads bytes = reads_then _ (u32-reads bytes) (λ n. bytes-part n.0 n.1 (nat_lt (length n.1) n.0) refl)

  pub name-reads : (bytes : List ℕ) → Reads more 1 bytes (name_at bytes) (name_at (bytes ++ more))
  name-reads bytes = reads_then _ (sized-reads bytes) (λ part. reads_if (is_utf8 part.0) reads_here reads_none)

  -- parts of types
  abstract_heap-reads : (bytes : List ℕ) → Reads more 1 bytes (abstract_heap_at bytes) (abstract_heap_at (bytes ++ more))
  unfolding abstract_heap_at
  abstract_heap-reads [] = reads_none
  abstract_heap-reads (b ∷ bytes) = reads_behind (reads_value (λ a. a) (abstract_heap_from b))

  flag-reads : (bytes : List ℕ) → Reads more 1 bytes (flag_at bytes) (flag_at (bytes ++ more))
  unfolding flag_at
  flag-reads [] = reads_none
  flag-reads (b ∷ bytes) = reads_behind (reads_value (λ a. a) (flag_from b))

  flags-reads : (most : ℕ) (bytes : List ℕ) → Reads more 1 bytes (flags_at most bytes) (flags_at most (bytes ++ more))
  unfolding flags_at
  flags-reads most [] = reads_none
  flags-reads most (b ∷ bytes) = reads_if (nat_lt most b) reads_none (reads_behind reads_here)

  number_if-reads : (c : Bool) (bytes : List ℕ) → Reads more 0 bytes (number_if c bytes) (number_if c (bytes ++ more))
  number_if-reads true bytes = reads_map _ (reads_weaken (u64-reads bytes))
  number_if-reads false bytes = reads_here

  limits-reads : (most : ℕ) (bytes : List ℕ) → Reads more 1 bytes (limits_at most bytes) (limits_at most (bytes ++ more))
  unfolding limits_at
  limits-reads most bytes = reads_then _ (flags-reads most bytes) (λ f. reads_then _ (u64-reads f.1) (λ n. reads_map _ (number_if-reads (has_bit f.0 1) n.1)))

  page_size_if-reads : (c : Bool) (bytes : List ℕ) → Reads more 0 bytes (page_size_if c bytes) (page_size_if c (bytes ++ more))
  page_size_if-reads true bytes = reads_map _ (reads_weaken (u32-reads bytes))
  page_size_if-reads false bytes = reads_here

  memory-reads : (bytes : List ℕ) → Reads more 1 bytes (memory_at bytes) (memory_at (bytes ++ more))
  unfolding memory_at
  memory-reads bytes = reads_then _ (limits-reads 15 bytes) (λ l. reads_map _ (page_size_if-reads (has_bit l.0.flags 8) l.1))

  tag-reads : (bytes : List ℕ) → Reads more 1 bytes (tag_at bytes) (tag_at (bytes ++ more))
  unfolding tag_at
  tag-reads bytes = reads_then _ (flags-reads 0 bytes) (λ a. u32-reads a.1)

  pub export-reads : (bytes : List ℕ) → Reads more 1 bytes (export_at bytes) (export_at (bytes ++ more))
  unfolding export_at
  export-reads bytes = reads_then _ (name-reads bytes) (λ n. reads_then _ (flags-reads 4 n.1) (λ k. reads_map _ (u32-reads k.1)))

  -- types
  module _ {R : Type 0} (to : ℕ → R) where
    index-reads : (bytes : List ℕ) → Reads more 1 bytes (index_at to bytes) (index_at to (bytes ++ more))
    index-reads bytes = reads_map _ (u32-reads bytes)

    plain_heap-reads : (a : Option AbstractHeap) (b : ℕ) (bytes : List ℕ) → Reads more 1 (b ∷ bytes) (plain_heap_from to a bytes (b ∷ bytes)) (plain_heap_from to a (bytes ++ more) (b ∷ bytes ++ more))
    plain_heap-reads None b bytes = reads_map _ (s33_index-reads (b ∷ bytes))
    plain_heap-reads (Some a) b bytes = reads_behind reads_here

    pub heap-reads : (bytes : List ℕ) → Reads more 1 bytes (heap_at to bytes) (heap_at to (bytes ++ more))
    unfolding heap_at
    heap-reads [] = reads_none
    heap-reads (b ∷ bytes) =
        reads_if (b == 0x62) (reads_map _ (reads_behind (index-reads bytes)))
        (reads_if (b == 0x65) (reads_map _ (reads_behind (abstract_heap-reads bytes))) (plain_heap-reads (abstract_heap_from b) b bytes))

    ref-reads : (bytes : List ℕ) → Reads more 1 bytes (ref_at to bytes) (ref_at to (bytes ++ more))
    unfolding ref_at
    ref-reads [] = reads_none
    ref-reads (b ∷ bytes) =
        reads_if (b == 0x63) (reads_map _ (reads_behind (heap-reads bytes)))
        (reads_if (b == 0x64) (reads_map _ (reads_behind (heap-reads bytes)))
        (reads_if (b == 0x65) (reads_map _ (reads_behind (abstract_heap-reads bytes)))
        (reads_behind (reads_value _ (abstract_heap_from b)))))

    pub val-reads : (bytes : List ℕ) → Reads more 1 bytes (val_at to bytes) (val_at to (bytes ++ more))
    unfolding val_at
    val-reads [] = reads_none
    val-reads (b ∷ bytes) =
        reads_if (b == 0x7f) (reads_behind reads_here)
        (reads_if (b == 0x7e) (reads_behind reads_here)
        (reads_if (b == 0x7d) (reads_behind reads_here)
        (reads_if (b == 0x7c) (reads_behind reads_here)
        (reads_if (b == 0x7b) (reads_behind reads_here)
        (reads_map _ (ref-reads (b ∷ bytes)))))))

    storage-reads : (bytes : List ℕ) → Reads more 1 bytes (storage_at to bytes) (storage_at to (bytes ++ more))
    unfolding storage_at
    storage-reads [] = reads_none
    storage-reads (b ∷ bytes) =
        reads_if (b == 0x78) (reads_behind reads_here)
        (reads_if (b == 0x77) (reads_behind reads_here)
        (reads_map _ (val-reads (b ∷ bytes))))

    field-reads : (bytes : List ℕ) → Reads more 1 bytes (field_at to bytes) (field_at to (bytes ++ more))
    unfolding field_at
    field-reads bytes = reads_then _ (storage-reads bytes) (λ s. reads_map _ (flag-reads s.1))

    func-reads : (bytes : List ℕ) → Reads more 1 bytes (func_at to bytes) (func_at to (bytes ++ more))
    unfolding func_at
    func-reads bytes = reads_then _ (reads_list (val_at to) val-reads bytes) (λ ps. reads_map _ (reads_list (val_at to) val-reads ps.1))

    comp-reads : (bytes : List ℕ) → Reads more 1 bytes (comp_at to bytes) (comp_at to (bytes ++ more))
    unfolding comp_at
    comp-reads [] = reads_none
    comp-reads (b ∷ bytes) =
        reads_if (b == 0x60) (reads_behind (func-reads bytes))
        (reads_if (b == 0x5f) (reads_map _ (reads_behind (reads_list (field_at to) field-reads bytes)))
        (reads_if (b == 0x5e) (reads_map _ (reads_behind (field-reads bytes)))
        (reads_if (b == 0x5d) (reads_map _ (reads_behind (index-reads bytes))) reads_none)))

    marked_index-case : (b : ℕ) (bytes : List ℕ) (c : Bool) → ReadsBefore more (b ∷ bytes) (behind_mark to (if c then (true, bytes) else (false, b ∷ bytes))) (behind_mark to (if c then (true, bytes ++ more) else (false, b ∷ bytes ++ more)))
    marked_index-case b bytes true = before_reads (reads_map _ (reads_behind (index-reads bytes)))
    marked_index-case b bytes false = before_reads reads_here

    marked_index-before : (mark : ℕ) (bytes : List ℕ) → ReadsBefore more bytes (marked_index_at to mark bytes) (marked_index_at to mark (bytes ++ more))
    unfolding marked_index_at
    marked_index-before mark [] = before_end
    marked_index-before mark (b ∷ bytes) = marked_index-case b bytes (b == mark)

    final_or_not-reads : (is_final : Bool) (supers : List R) (bytes : List ℕ) → Reads more 1 bytes (final_or_not to is_final supers bytes) (final_or_not to is_final supers (bytes ++ more))
    unfolding final_or_not
    final_or_not-reads is_final supers bytes =
        before_then (behind_shared to is_final supers) (marked-before 0x65 bytes) (λ m. before_then _ (marked_index-before 0x4c m.1) (λ v. before_then _ (marked_index-before 0x4d v.1) (λ d. reads_map _ (comp-reads d.1))))

    sub-reads : (bytes : List ℕ) → Reads more 1 bytes (sub_at to bytes) (sub_at to (bytes ++ more))
    unfolding sub_at
    sub-reads [] = reads_none
    sub-reads (b ∷ bytes) =
        reads_if (b == 0x50) (reads_behind (reads_then _ (reads_list (index_at to) index-reads bytes) (λ xs. final_or_not-reads false xs.0 xs.1)))
        (reads_if (b == 0x4f) (reads_behind (reads_then _ (reads_list (index_at to) index-reads bytes) (λ xs. final_or_not-reads true xs.0 xs.1)))
        (final_or_not-reads true [] (b ∷ bytes)))

    pub rec-reads : (bytes : List ℕ) → Reads more 1 bytes (rec_at to bytes) (rec_at to (bytes ++ more))
    unfolding rec_at
    rec-reads [] = reads_none
    rec-reads (b ∷ bytes) =
        reads_if (b == 0x4e) (reads_map _ (reads_behind (reads_list (sub_at to) sub-reads bytes))) (reads_map _ (sub-reads (b ∷ bytes)))

    table-reads : (bytes : List ℕ) → Reads more 1 bytes (table_at to bytes) (table_at to (bytes ++ more))
    unfolding table_at
    table-reads bytes = reads_then _ (ref-reads bytes) (λ e. reads_map _ (limits-reads 7 e.1))

    global-reads : (bytes : List ℕ) → Reads more 1 bytes (global_at to bytes) (global_at to (bytes ++ more))
    unfolding global_at
    global-reads bytes = reads_then _ (val-reads bytes) (λ v. reads_map _ (flags-reads 3 v.1))

    extern-reads : (bytes : List ℕ) → Reads more 1 bytes (extern_at to bytes) (extern_at to (bytes ++ more))
    unfolding extern_at
    extern-reads [] = reads_none
    extern-reads (b ∷ bytes) =
        reads_if (b == 0) (reads_map _ (reads_behind (u32-reads bytes)))
        (reads_if (b == 1) (reads_map _ (reads_behind (table-reads bytes)))
        (reads_if (b == 2) (reads_map _ (reads_behind (memory-reads bytes)))
        (reads_if (b == 3) (reads_map _ (reads_behind (global-reads bytes)))
        (reads_if (b == 4) (reads_map _ (reads_behind (tag-reads bytes)))
        (reads_if (b == 0x20) (reads_map _ (reads_behind (u32-reads bytes))) reads_none)))))

    pub import-reads : (bytes : List ℕ) → Reads more 1 bytes (import_at to bytes) (import_at to (bytes ++ more))
    unfolding import_at
    import-reads bytes = reads_then _ (name-reads bytes) (λ m. reads_then _ (name-reads m.1) (λ n. reads_map _ (extern-reads n.1)))
