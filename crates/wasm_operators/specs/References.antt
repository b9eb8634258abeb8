-- Core Specification 3.0, Binary Format, Instructions, Reference Instructions, with those that branch on null, and casts of
-- references. A type index x is read as what it stands for, `to x`.
use Rattle.std.specs.Prelude.{ℕ, Bool, true, false, ◌==◌, if◌then◌else◌, List, Option, Some, None}
use Rattle.std.specs.Option.{option_map, option_and_then}
use Rattle.wasm_operators_proposals.specs.WasmOperatorsPlain.WasmSpec.Syntax.{Heap, Ref}
use Rattle.wasm_operators_proposals.specs.WasmOperatorsPlain.WasmSpec.Values.{byte_at, u32_at}
use Rattle.wasm_operators_proposals.specs.WasmOperatorsPlain.WasmSpec.BinaryTypes.{heap_at}
use Rattle.wasm_operators_proposals.specs.WasmOperatorsPlain.Immediates.{alone, one_index}

pub data Reference (R : Type 0) : Type 0 where
  ref_null : Heap R → Reference R
  ref_is_null ref_eq ref_as_non_null : Reference R
  ref_func br_on_null br_on_non_null : ℕ → Reference R

-- Tests and casts to a type; and branches on a cast, with a label, the type of the operand and the type that it is cast to. By the proposal
-- for custom descriptors: the descriptor of a reference to a type of an index, and casts and branches by a descriptor.
pub data Cast (R : Type 0) : Type 0 where
  ref_test ref_cast : Ref R → Cast R
  br_on_cast br_on_cast_fail : ℕ → Ref R → Ref R → Cast R
  ref_get_desc : ℕ → Cast R
  ref_cast_desc_eq : Ref R → Cast R
  br_on_cast_desc_eq br_on_cast_desc_eq_fail : ℕ → Ref R → Ref R → Cast R

-- a reference type
abbrev pub reference_to : {R : Type 0} → Bool → Heap R → Ref R
reference_to nullable heap = record { nullable = nullable; heap = heap }

-- whether the two types of a branch on a cast have null
abbrev pub cast_flags_from : ℕ → Option (Bool × Bool)
cast_flags_from b =
    if b == 0 then Some (false, false)
    else (if b == 1 then Some (true, false)
    else (if b == 2 then Some (false, true)
    else (if b == 3 then Some (true, true)
    else None)))

unfoldable pub cast_flags_at : List ℕ → Option ((Bool × Bool) × List ℕ)
cast_flags_at bytes = option_and_then (λ b. option_map (λ f. (f, b.1)) (cast_flags_from b.0)) (byte_at bytes)

module _ {R : Type 0} (to : ℕ → R) where
  -- reference instructions by their byte
  unfoldable pub reference_from : ℕ → List ℕ → Option (Reference R × List ℕ)
  reference_from b bytes =
      if b == 0xd0 then option_map (λ h. (ref_null h.0, h.1)) (heap_at to bytes)
      else (if b == 0xd1 then alone ref_is_null bytes
      else (if b == 0xd2 then one_index ref_func bytes
      else (if b == 0xd3 then alone ref_eq bytes
      else (if b == 0xd4 then alone ref_as_non_null bytes
      else (if b == 0xd5 then one_index br_on_null bytes
      else (if b == 0xd6 then one_index br_on_non_null bytes
      else None))))))

  -- a type with null or without
  abbrev pub one_type : (Ref R → Cast R) → Bool → List ℕ → Option (Cast R × List ℕ)
  one_type op nullable bytes = option_map (λ h. (op (reference_to nullable h.0), h.1)) (heap_at to bytes)

  -- a label and two types, behind which of the types have null
  unfoldable pub branch_at : List ℕ → Option ((ℕ × Ref R × Ref R) × List ℕ)
  branch_at bytes =
      option_and_then
      (λ f. option_and_then
      (λ l. option_and_then
      (λ a. option_map (λ b. ((l.0, reference_to f.0.0 a.0, reference_to f.0.1 b.0), b.1)) (heap_at to a.1))
      (heap_at to l.1))
      (u32_at f.1))
      (cast_flags_at bytes)

  abbrev pub cast_branch : (ℕ → Ref R → Ref R → Cast R) → List ℕ → Option (Cast R × List ℕ)
  cast_branch op bytes = option_map (λ x. (op x.0.0 x.0.1 x.0.2, x.1)) (branch_at bytes)

  -- the descriptor of a reference, and casts by descriptors, by their number behind the prefix fb
  unfoldable pub described_from : ℕ → List ℕ → Option (Cast R × List ℕ)
  described_from n bytes =
      if n == 34 then one_index ref_get_desc bytes
      else (if n == 35 then one_type ref_cast_desc_eq false bytes
      else (if n == 36 then one_type ref_cast_desc_eq true bytes
      else (if n == 37 then cast_branch br_on_cast_desc_eq bytes
      else (if n == 38 then cast_branch br_on_cast_desc_eq_fail bytes
      else None))))

  -- casts by their number behind the prefix fb
  unfoldable pub cast_from : ℕ → List ℕ → Option (Cast R × List ℕ)
  cast_from n bytes =
      if n == 20 then one_type ref_test false bytes
      else (if n == 21 then one_type ref_test true bytes
      else (if n == 22 then one_type ref_cast false bytes
      else (if n == 23 then one_type ref_cast true bytes
      else (if n == 24 then cast_branch br_on_cast bytes
      else (if n == 25 then cast_branch br_on_cast_fail bytes
      else described_from n bytes)))))
