-- Core Specification 3.0, Binary Format, Types, with the encodings of the proposals that `WasmFeatures` names.
-- A type index x is read as what it stands for, `to x`.
use Rattle.std.specs.Prelude.{ℕ, Bool, true, false, not, ◌==◌, nat_lt, if◌then◌else◌, List, [], ◌∷◌, Option, Some, None, bit_and}
use Rattle.std.specs.Option.{option_map, option_and_then}
use Rattle.wasm_spec.specs.Syntax.{AbstractHeap, any_heap, eq_heap, i31_heap, struct_heap, array_heap, none_heap, func_heap, nofunc_heap, extern_heap, noextern_heap, exn_heap, noexn_heap, cont_heap, nocont_heap, Heap, abstract_heap, concrete, exact, Ref, Val, i32, i64, f32, f64, v128, reference, Storage, i8, i16, unpacked, Field, Comp, func, array, struct, cont, Sub, Rec, Table, Memory, Global}
use Rattle.wasm_spec.specs.Values.{byte_at, u32_at, u64_at, s33_index_at, list_at}

-- the byte of an abstract heap type
abbrev pub abstract_heap_from : ℕ → Option AbstractHeap
abstract_heap_from b =
    if b == 0x70 then Some func_heap
    else (if b == 0x6f then Some extern_heap
    else (if b == 0x6e then Some any_heap
    else (if b == 0x6d then Some eq_heap
    else (if b == 0x6c then Some i31_heap
    else (if b == 0x6b then Some struct_heap
    else (if b == 0x6a then Some array_heap
    else (if b == 0x69 then Some exn_heap
    else (if b == 0x68 then Some cont_heap
    else (if b == 0x71 then Some none_heap
    else (if b == 0x72 then Some noextern_heap
    else (if b == 0x73 then Some nofunc_heap
    else (if b == 0x74 then Some noexn_heap
    else (if b == 0x75 then Some nocont_heap
    else None)))))))))))))

-- an abstract heap type
unfoldable pub abstract_heap_at : List ℕ → Option (AbstractHeap × List ℕ)
abstract_heap_at bytes = option_and_then (λ b. option_map (λ a. (a, b.1)) (abstract_heap_from b.0)) (byte_at bytes)

-- a byte that says no or yes
abbrev pub flag_from : ℕ → Option Bool
flag_from b = if b == 0 then Some false else (if b == 1 then Some true else None)

unfoldable pub flag_at : List ℕ → Option (Bool × List ℕ)
flag_at bytes = option_and_then (λ b. option_map (λ f. (f, b.1)) (flag_from b.0)) (byte_at bytes)

-- whether a byte has this bit, given by its weight
abbrev pub has_bit : ℕ → ℕ → Bool
has_bit b weight = not (bit_and b weight == 0)

-- the byte that is there or not, and what follows
abbrev pub marked_at : ℕ → List ℕ → Bool × List ℕ
marked_at mark [] = (false, [])
marked_at mark (b ∷ bytes) = if b == mark then (true, bytes) else (false, b ∷ bytes)

-- flags, as a byte that is at most this one
abbrev pub at_most_from : ℕ → ℕ → List ℕ → Option (ℕ × List ℕ)
at_most_from most b bytes = if nat_lt most b then None else Some (b, bytes)

unfoldable pub flags_at : ℕ → List ℕ → Option (ℕ × List ℕ)
flags_at most bytes = option_and_then (λ b. at_most_from most b.0 b.1) (byte_at bytes)

-- flags and limits: 1 a maximum, 2 shared, 4 of 64 bits, 8 a page size
pub record Limits : Type 0 where
  pub flags : ℕ
  pub minimum : ℕ
  pub maximum : Option ℕ

-- a number where there is one
abbrev pub number_if : Bool → List ℕ → Option (Option ℕ × List ℕ)
number_if true bytes = option_map (λ n. (Some n.0, n.1)) (u64_at bytes)
number_if false bytes = Some (None, bytes)

unfoldable pub limits_at : ℕ → List ℕ → Option (Limits × List ℕ)
limits_at most bytes =
    option_and_then
    (λ f. option_and_then
    (λ n. option_map (λ m. (record { flags = f.0; minimum = n.0; maximum = m.0 }, m.1)) (number_if (has_bit f.0 1) n.1))
    (u64_at f.1))
    (flags_at most bytes)

-- memory types: flags, a minimum, a maximum and the logarithm of a page size where the flags have them
abbrev pub page_size_if : Bool → List ℕ → Option (Option ℕ × List ℕ)
page_size_if true bytes = option_map (λ n. (Some n.0, n.1)) (u32_at bytes)
page_size_if false bytes = Some (None, bytes)

unfoldable pub memory_at : List ℕ → Option (Memory × List ℕ)
memory_at bytes =
    option_and_then
    (λ l. option_map
    (λ p. (record { is_64 = has_bit l.0.flags 4; shared = has_bit l.0.flags 2; minimum = l.0.minimum; maximum = l.0.maximum; page_size_log2 = p.0 }, p.1))
    (page_size_if (has_bit l.0.flags 8) l.1))
    (limits_at 15 bytes)

-- tag types: an attribute, which is 0, and a type index
unfoldable pub tag_at : List ℕ → Option (ℕ × List ℕ)
tag_at bytes = option_and_then (λ a. u32_at a.1) (flags_at 0 bytes)

module _ {R : Type 0} (to : ℕ → R) where
  -- a type index of 32 bits
  abbrev pub index_at : List ℕ → Option (R × List ℕ)
  index_at bytes = option_map (λ x. (to x.0, x.1)) (u32_at bytes)

  -- a heap type of one byte, or else a type index that begins with that byte
  abbrev pub plain_heap_from : Option AbstractHeap → List ℕ → List ℕ → Option (Heap R × List ℕ)
  plain_heap_from (Some a) more bytes = Some (abstract_heap false a, more)
  plain_heap_from None more bytes = option_map (λ x. (concrete (to x.0), x.1)) (s33_index_at bytes)

  -- heap types: 62 before the index of exactly one defined type, 65 before a shared abstract one
  abbrev pub heap_from : ℕ → List ℕ → List ℕ → Option (Heap R × List ℕ)
  heap_from b more bytes =
      if b == 0x62 then option_map (λ x. (exact x.0, x.1)) (index_at more)
      else (if b == 0x65 then option_map (λ a. (abstract_heap true a.0, a.1)) (abstract_heap_at more)
      else plain_heap_from (abstract_heap_from b) more bytes)

  unfoldable pub heap_at : List ℕ → Option (Heap R × List ℕ)
  heap_at bytes = option_and_then (λ b. heap_from b.0 b.1 bytes) (byte_at bytes)

  -- reference types: 63 or 64 before a heap type, and the short forms of nullable abstract ones
  abbrev pub ref_from : ℕ → List ℕ → Option (Ref R × List ℕ)
  ref_from b more =
      if b == 0x63 then option_map (λ h. (record { nullable = true; heap = h.0 }, h.1)) (heap_at more)
      else (if b == 0x64 then option_map (λ h. (record { nullable = false; heap = h.0 }, h.1)) (heap_at more)
      else (if b == 0x65 then option_map (λ a. (record { nullable = true; heap = abstract_heap true a.0 }, a.1)) (abstract_heap_at more)
      else option_map (λ a. (record { nullable = true; heap = abstract_heap false a }, more)) (abstract_heap_from b)))

  unfoldable pub ref_at : List ℕ → Option (Ref R × List ℕ)
  ref_at bytes = option_and_then (λ b. ref_from b.0 b.1) (byte_at bytes)

  -- value types
  abbrev pub val_from : ℕ → List ℕ → List ℕ → Option (Val R × List ℕ)
  val_from b more bytes =
      if b == 0x7f then Some (i32, more)
      else (if b == 0x7e then Some (i64, more)
      else (if b == 0x7d then Some (f32, more)
      else (if b == 0x7c then Some (f64, more)
      else (if b == 0x7b then Some (v128, more)
      else option_map (λ r. (reference r.0, r.1)) (ref_at bytes)))))

  unfoldable pub val_at : List ℕ → Option (Val R × List ℕ)
  val_at bytes = option_and_then (λ b. val_from b.0 b.1 bytes) (byte_at bytes)

  -- storage types
  abbrev pub storage_from : ℕ → List ℕ → List ℕ → Option (Storage R × List ℕ)
  storage_from b more bytes =
      if b == 0x78 then Some (i8, more)
      else (if b == 0x77 then Some (i16, more)
      else option_map (λ v. (unpacked v.0, v.1)) (val_at bytes))

  unfoldable pub storage_at : List ℕ → Option (Storage R × List ℕ)
  storage_at bytes = option_and_then (λ b. storage_from b.0 b.1 bytes) (byte_at bytes)

  -- field types
  unfoldable pub field_at : List ℕ → Option (Field R × List ℕ)
  field_at bytes = option_and_then (λ s. option_map (λ m. (record { storage = s.0; mutable = m.0 }, m.1)) (flag_at s.1)) (storage_at bytes)

  -- function types, behind their byte
  unfoldable pub func_at : List ℕ → Option (Comp R × List ℕ)
  func_at bytes = option_and_then (λ ps. option_map (λ rs. (func ps.0 rs.0, rs.1)) (list_at val_at ps.1)) (list_at val_at bytes)

  -- composite types
  abbrev pub comp_from : ℕ → List ℕ → Option (Comp R × List ℕ)
  comp_from b more =
      if b == 0x60 then func_at more
      else (if b == 0x5f then option_map (λ fs. (struct fs.0, fs.1)) (list_at field_at more)
      else (if b == 0x5e then option_map (λ f. (array f.0, f.1)) (field_at more)
      else (if b == 0x5d then option_map (λ x. (cont x.0, x.1)) (index_at more)
      else None)))

  unfoldable pub comp_at : List ℕ → Option (Comp R × List ℕ)
  comp_at bytes = option_and_then (λ b. comp_from b.0 b.1) (byte_at bytes)

  -- a type index behind its mark, or none
  abbrev pub index_behind : Bool → List ℕ → Option (Option R × List ℕ)
  index_behind true bytes = option_map (λ x. (Some x.0, x.1)) (index_at bytes)
  index_behind false bytes = Some (None, bytes)

  unfoldable pub marked_index_at : ℕ → List ℕ → Option (Option R × List ℕ)
  marked_index_at mark bytes = index_behind (marked_at mark bytes).0 (marked_at mark bytes).1

  -- a composite type behind the marks of what it is: 65 shared, 4c and 4d before the types that it describes and that describes it
  unfoldable pub final_or_not : Bool → List R → List ℕ → Option (Sub R × List ℕ)
  final_or_not is_final supers bytes =
      option_and_then
      (λ v. option_and_then
      (λ d. option_map
      (λ c. (record { is_final = is_final; supers = supers; shared = (marked_at 0x65 bytes).0; comp = c.0; descriptor = d.0; describes = v.0 }, c.1))
      (comp_at d.1))
      (marked_index_at 0x4d v.1))
      (marked_index_at 0x4c (marked_at 0x65 bytes).1)

  -- sub types: 50 and 4f before supertypes, and a composite type alone, which is final
  abbrev pub sub_from : ℕ → List ℕ → List ℕ → Option (Sub R × List ℕ)
  sub_from b more bytes =
      if b == 0x50 then option_and_then (λ xs. final_or_not false xs.0 xs.1) (list_at index_at more)
      else (if b == 0x4f then option_and_then (λ xs. final_or_not true xs.0 xs.1) (list_at index_at more)
      else final_or_not true [] bytes)

  unfoldable pub sub_at : List ℕ → Option (Sub R × List ℕ)
  sub_at bytes = option_and_then (λ b. sub_from b.0 b.1 bytes) (byte_at bytes)

  -- recursive types: 4e before a list of sub types, and a sub type alone
  abbrev pub rec_from : ℕ → List ℕ → List ℕ → Option (Rec R × List ℕ)
  rec_from b more bytes =
      if b == 0x4e then option_map (λ ts. (record { is_explicit = true; types = ts.0 }, ts.1)) (list_at sub_at more)
      else option_map (λ t. (record { is_explicit = false; types = t.0 ∷ [] }, t.1)) (sub_at bytes)

  unfoldable pub rec_at : List ℕ → Option (Rec R × List ℕ)
  rec_at bytes = option_and_then (λ b. rec_from b.0 b.1 bytes) (byte_at bytes)

  -- table types: an element type, flags, a minimum and a maximum where the flags have one
  unfoldable pub table_at : List ℕ → Option (Table R × List ℕ)
  table_at bytes =
      option_and_then
      (λ e. option_map
      (λ l. (record { element = e.0; is_64 = has_bit l.0.flags 4; minimum = l.0.minimum; maximum = l.0.maximum; shared = has_bit l.0.flags 2 }, l.1))
      (limits_at 7 e.1))
      (ref_at bytes)

  -- global types: a value type, and flags
  unfoldable pub global_at : List ℕ → Option (Global R × List ℕ)
  global_at bytes =
      option_and_then
      (λ v. option_map (λ b. (record { content = v.0; mutable = has_bit b.0 1; shared = has_bit b.0 2 }, b.1)) (flags_at 3 v.1))
      (val_at bytes)
