-- What an instruction of a constant expression is read from: bytes behind it can be cut off.
use Rattle.std.proofs.Common.{◌≡◌, sym, ap, ◌∙◌, subst, ℕ, zero, suc, ◌+◌, ◌-◌, ◌^◌, nat_lt, nat_le, ◌==◌, Bool, true, false, if◌then◌else◌, List, [], ◌∷◌, ◌++◌, length, Option, Some, None, option_map, append_assoc, arith, length-append}
use Rattle.std.proofs.lemmas.List.{append_cancel_right}
use Rattle.std.specs.Option.{option_and_then}
use Rattle.std.proofs.lemmas.Option.{none-some}
use Rattle.wasm_spec.specs.Syntax.{AbstractHeap}
use Rattle.wasm_spec.specs.Features.{Features}
use Rattle.wasm_spec.specs.Values.{unsigned_at, signed_at, not_negative, u32_at, s33_index_at}
use Rattle.wasm_spec.specs.BinaryTypes.{abstract_heap_from, abstract_heap_at, plain_heap_from, heap_at}
use Rattle.wasm_spec.proofs.Front.{IsRest, ReadsBy, Reads, reads_none, reads_here, reads_behind, reads_weaken, reads_map, reads_then, reads_value, unsigned-reads, signed-reads, heap-reads}
use Rattle.wasm_operators.specs.WasmOperatorsPlain.Numeric.{numeric_from, saturating_from}
use Rattle.wasm_operators.specs.WasmOperatorsAtomic.WideArithmetic.{wide_from}
use Rattle.wasm_operators.specs.WasmOperatorsPlain.Immediates.{one_index, two_indices}
use Rattle.wasm_operators.specs.WasmOperatorsPlain.Variables.{variable_from}
use Rattle.wasm_operators.specs.WasmOperatorsPlain.Memories.{access_from}
use Rattle.wasm_operators.specs.WasmOperatorsPlain.Constants.{little_endian_at, bits_32_at, bits_64_at, bits_128_at, constant_from, vector_from}
use Rattle.wasm_operators.specs.WasmOperatorsPlain.Conversions.{conversion_from, shared_from}
use Rattle.wasm_operators.specs.WasmOperatorsPlain.Structs.{struct_from}
use Rattle.wasm_operators.specs.WasmOperatorsPlain.Arrays.{array_from}
use Rattle.wasm_operators.specs.WasmOperatorsPlain.declared.memories.MemoryOperator.{MemoryOperator}
use Rattle.wasm_operators.proofs.WasmOperatorsPlain.Fronts.{u32-reads, vector-reads, struct-reads, array-reads}
use Rattle.wasm_operators.specs.Control.{Block, Control, block, loop, if_, br_table, try_table, control_from}
use Rattle.wasm_operators.specs.declared.control.Catch.{Catch}
use Rattle.wasm_operators.specs.References.{reference_from}
use Rattle.wasm_operators.specs.Instructions.{Instruction, control, vector, atomic, with_memarg, with_form, with_access, is_shared, aggregate_from, bulk_from, vectors_from, atomics_from, prefixed_from, plain_from, instruction_at}
use Rattle.wasm_operators.specs.WasmOperatorsAtomic.WasmOperatorsVector.Codes as vectors
use Rattle.wasm_operators.specs.WasmOperatorsAtomic.WasmOperatorsVector.Forms as vector_forms
use Rattle.wasm_operators.specs.WasmOperatorsAtomic.WasmOperatorsVector.declared.operators.VectorOperator.{VectorOperator}
use Rattle.wasm_operators.specs.WasmOperatorsAtomic.Codes as atomics
use Rattle.wasm_operators.specs.WasmOperatorsAtomic.Forms as atomic_forms
use Rattle.wasm_operators.specs.WasmOperatorsAtomic.SharedCodes as shareds
use Rattle.wasm_operators.specs.WasmOperatorsAtomic.declared.shared.SharedAtomicOperator.{SharedAtomicOperator}
use Rattle.wasm_operators.specs.WasmOperatorsAtomic.declared.operators.AtomicOperator.{AtomicOperator}
use Rattle.wasm_operators.proofs.Fronts.{instruction-reads}
use Rattle.wasm_spec_steps.specs.ConstantExpressions.{is_constant}

same_value : {X : Type 0} (x y : X) → Some x ≡ Some y → x ≡ y
same_value x y e = cc

-- a value and the bytes behind it
abbrev Read : Type 0 → Type 0
Read V = V × List ℕ

abbrev read : {V : Type 0} → V → List ℕ → Option (Read V)
read v bytes = Some (v, bytes)

parts : {V : Type 0} (v w : V) (a b : List ℕ) → read v a ≡ read w b → (v ≡ w) × (a ≡ b)
parts {V} v w a b e =
    let x : Read V = (v, a) in
    let y : Read V = (w, b) in
    let same : x ≡ y = same_value x y e in
    ((λ i. (same i).0), (λ i. (same i).1))

-- A value that passes Q, read before these bytes behind a rest, is read before the rest alone.
record Cuts {V : Type 0} (Q : V → Type 0) (more : List ℕ) (o p : Option (V × List ℕ)) : Type 0 where
  is : (x : V) (r : List ℕ) → Q x → p ≡ Some (x, r ++ more) → o ≡ Some (x, r)

-- What a value that passes Q leaves is a rest of the start.
record Ends {V : Type 0} (Q : V → Type 0) (start : List ℕ) (p : Option (V × List ℕ)) : Type 0 where
  is : (x : V) (rest : List ℕ) → Q x → p ≡ Some (x, rest) → IsRest 0 rest start

abbrev Any : {V : Type 0} → V → Type 0
Any v = Unit {0}

-- what is left of what was read
left_of : {V : Type 0} (k : ℕ) (start : List ℕ) (p q : Option (V × List ℕ)) → Reads [] k start p q → (x : V) (rest : List ℕ) → p ≡ Some (x, rest) → IsRest k rest start
left_of k start p q h x rest e = (subst (λ o. ReadsBy [] k start o q) e h.is).0

ends_reads : {V : Type 0} {Q : V → Type 0} {k : ℕ} {start : List ℕ} {p q : Option (V × List ℕ)} → Reads [] k start p q → Ends Q start p
ends_reads {k} {start} {p} {q} h = record { is = λ x rest a e. let r = left_of k start p q h x rest e in record { front = r.front; is = r.is; longer = omega arith } }

ends_none : {V : Type 0} {Q : V → Type 0} {start : List ℕ} → Ends Q start None
ends_none = record { is = λ x rest a e. absurd (none-some (x, rest) e) }

ends_if : {V : Type 0} {Q : V → Type 0} {start : List ℕ} (c : Bool) {a b : Option (V × List ℕ)} → Ends Q start a → Ends Q start b → Ends Q start (if c then a else b)
ends_if true h r = h
ends_if false h r = r

ends_mapped : {V W : Type 0} (Q : W → Type 0) (start : List ℕ) (f : V → W) (p : Option (V × List ℕ)) → Ends (λ v. Q (f v)) start p
    → (y : W) (rest : List ℕ) → Q y → option_map {U = W × List ℕ} (λ x. (f x.0, x.1)) p ≡ Some (y, rest) → IsRest 0 rest start
ends_mapped Q start f None h y rest a e = absurd (none-some (y, rest) e)
ends_mapped Q start f (Some x) h y rest a e =
    let same = parts (f x.0) y x.1 rest e in
    h.is x.0 rest (subst Q (sym same.0) a) (λ i. Some (x.0, same.1 i))

ends_map : {V W : Type 0} {Q : W → Type 0} {start : List ℕ} {p : Option (V × List ℕ)} (f : V → W) → Ends (λ v. Q (f v)) start p → Ends Q start (option_map (λ x. (f x.0, x.1)) p)
ends_map {Q} {start} {p} f h = record { is = ends_mapped Q start f p h }

ends_valued : {V W : Type 0} (start : List ℕ) (f : V → W) (p : Option V) (y : W) (rest : List ℕ) → option_map {U = W × List ℕ} (λ x. (f x, start)) p ≡ Some (y, rest) → IsRest 0 rest start
ends_valued start f None y rest e = absurd (none-some (y, rest) e)
ends_valued start f (Some x) y rest e =
    record { front = []; is = (parts (f x) y start rest e).1; longer = omega arith }

ends_value : {V W : Type 0} {Q : W → Type 0} {start : List ℕ} (f : V → W) (p : Option V) → Ends Q start (option_map (λ x. (f x, start)) p)
ends_value {start} f p = record { is = λ y rest a e. ends_valued start f p y rest e }

-- where no value passes
ends_never : {V : Type 0} {Q : V → Type 0} {start : List ℕ} {p : Option (V × List ℕ)} → ((v : V) → Q v → ⊥) → Ends Q start p
ends_never h = record { is = λ x rest a e. absurd (h x a) }

-- numbers in bits read as many bytes as they have
little_endian-rest : (n : ℕ) (bytes : List ℕ) → Reads [] 0 bytes (little_endian_at n bytes) (little_endian_at n (bytes ++ []))
little_endian-rest zero bytes = reads_here
little_endian-rest (suc n) [] = reads_none
little_endian-rest (suc n) (b ∷ bytes) = reads_weaken (reads_behind (reads_map _ (little_endian-rest n bytes)))

little_endian-reads : (n : ℕ) (bytes : List ℕ) → Reads [] 1 bytes (little_endian_at (suc n) bytes) (little_endian_at (suc n) (bytes ++ []))
little_endian-reads n [] = reads_none
little_endian-reads n (b ∷ bytes) = reads_behind (reads_map _ (little_endian-rest n bytes))

bits_32-rest : (bytes : List ℕ) → Reads [] 0 bytes (bits_32_at bytes) (bits_32_at (bytes ++ []))
unfolding bits_32_at
bits_32-rest bytes = little_endian-rest 4 bytes

bits_64-rest : (bytes : List ℕ) → Reads [] 0 bytes (bits_64_at bytes) (bits_64_at (bytes ++ []))
unfolding bits_64_at
bits_64-rest bytes = reads_then _ (bits_32-rest bytes) (λ low. reads_map _ (bits_32-rest low.1))

abstract_heap-rest : (bytes : List ℕ) → Reads [] 1 bytes (abstract_heap_at bytes) (abstract_heap_at (bytes ++ []))
unfolding abstract_heap_at
abstract_heap-rest [] = reads_none
abstract_heap-rest (b ∷ bytes) = reads_behind (reads_value (λ a. a) (abstract_heap_from b))

module _ {more : List ℕ} where
  cuts_none : {V : Type 0} {Q : V → Type 0} {o : Option (V × List ℕ)} → Cuts Q more o None
  cuts_none = record { is = λ x r a e. absurd (none-some (x, r ++ more) e) }

  cuts_here : {V : Type 0} {Q : V → Type 0} {start : List ℕ} {v : V} → Cuts Q more (Some (v, start)) (Some (v, start ++ more))
  cuts_here {start} {v} = record {
    is = λ x r a e.
        let same = parts v x (start ++ more) (r ++ more) e in
        let rest : start ≡ r = append_cancel_right start r more same.1 in
        λ i. Some (same.0 i, rest i);
  }

  cuts_value : {V X : Type 0} {Q : V → Type 0} (start : List ℕ) (f : X → V) (o : Option X) → Cuts Q more (option_map (λ x. (f x, start)) o) (option_map (λ x. (f x, start ++ more)) o)
  cuts_value start f None = cuts_none
  cuts_value start f (Some x) = cuts_here

  cuts_if : {V : Type 0} {Q : V → Type 0} (c : Bool) {a b d e : Option (V × List ℕ)} → Cuts Q more a d → Cuts Q more b e → Cuts Q more (if c then a else b) (if c then d else e)
  cuts_if true h r = h
  cuts_if false h r = r

  cuts_mapped : {V W : Type 0} (Q : W → Type 0) (f : V → W) (o p : Option (V × List ℕ)) → Cuts (λ v. Q (f v)) more o p
      → (y : W) (r : List ℕ) → Q y → option_map {U = W × List ℕ} (λ x. (f x.0, x.1)) p ≡ Some (y, r ++ more) → option_map {U = W × List ℕ} (λ x. (f x.0, x.1)) o ≡ Some (y, r)
  cuts_mapped {W = W} Q f o None h y r a e = absurd (none-some (y, r ++ more) e)
  cuts_mapped {W = W} Q f o (Some x) h y r a e =
      let same = parts (f x.0) y x.1 (r ++ more) e in
      let found = h.is x.0 r (subst Q (sym same.0) a) (λ i. Some (x.0, same.1 i)) in
      ap (option_map {U = W × List ℕ} (λ x. (f x.0, x.1))) found ∙ (λ i. Some (same.0 i, r))

  cuts_map : {V W : Type 0} {Q : W → Type 0} {o p : Option (V × List ℕ)} (f : V → W) → Cuts (λ v. Q (f v)) more o p → Cuts Q more (option_map (λ x. (f x.0, x.1)) o) (option_map (λ x. (f x.0, x.1)) p)
  cuts_map {Q} {o} {p} f h = record { is = cuts_mapped Q f o p h }

  cuts_never : {V : Type 0} {Q : V → Type 0} {o p : Option (V × List ℕ)} → ((v : V) → Q v → ⊥) → Cuts Q more o p
  cuts_never h = record { is = λ x r a e. absurd (h x a) }

  cut_behind : {V W : Type 0} (Q : W → Type 0) (o p : Option (V × List ℕ)) (g : V × List ℕ → Option (W × List ℕ)) → Cuts Any more o p → ((x : V × List ℕ) → Ends Q x.1 (g x))
      → ((v : V) (s : List ℕ) → Cuts Q more (g (v, s)) (g (v, s ++ more))) → (y : W) (r : List ℕ) → Q y → option_and_then g p ≡ Some (y, r ++ more) → option_and_then g o ≡ Some (y, r)
  cut_behind Q o None g h ends c y r a e = absurd (none-some (y, r ++ more) e)
  cut_behind Q o (Some x) g h ends c y r a e =
      let l = (ends x).is y (r ++ more) a e in
      let is : x.1 ≡ (l.front ++ r) ++ more = l.is ∙ sym (append_assoc l.front r more) in
      let first = h.is x.0 (l.front ++ r) tt (λ i. Some (x.0, is i)) in
      ap (option_and_then g) first ∙ (c x.0 (l.front ++ r)).is y r a (ap (λ (b : List ℕ). g (x.0, b)) (sym is) ∙ e)

  cuts_then : {V W : Type 0} {Q : W → Type 0} {o p : Option (V × List ℕ)} (g : V × List ℕ → Option (W × List ℕ)) → Cuts Any more o p → ((x : V × List ℕ) → Ends Q x.1 (g x))
      → ((v : V) (s : List ℕ) → Cuts Q more (g (v, s)) (g (v, s ++ more))) → Cuts Q more (option_and_then g o) (option_and_then g p)
  cuts_then {Q} {o} {p} g h ends c = record { is = cut_behind Q o p g h ends c }

  -- nothing is left to cut from where all was cut
  cuts_empty : {V : Type 0} {Q : V → Type 0} {o p q : Option (V × List ℕ)} → Reads [] 1 more p q → Cuts Q more o p
  cuts_empty {p} {q} h = record {
    is = λ x r a e.
        let l = left_of 1 more p q h x (r ++ more) e in
        absurd (omega (arith, ap (λ (b : List ℕ). length b) l.is, length-append l.front (r ++ more), length-append r more, l.longer));
  }

  -- what holds of any value
  cuts_any : {V : Type 0} {Q : V → Type 0} {o p : Option (V × List ℕ)} → Cuts Any more o p → Cuts Q more o p
  cuts_any h = record { is = λ x r a e. h.is x r tt e }

  -- numbers
  unsigned-cuts : (bits : ℕ) (bytes : List ℕ) → Cuts Any more (unsigned_at bits bytes) (unsigned_at bits (bytes ++ more))
  unsigned-cuts bits [] = cuts_empty (unsigned-reads bits more)
  unsigned-cuts bits (n ∷ bytes) =
      cuts_if (nat_lt n (2 ^ 7)) (cuts_if (nat_lt n (2 ^ bits)) cuts_here cuts_none)
      (cuts_if (nat_lt 7 bits) (cuts_map _ (unsigned-cuts (bits - 7) bytes)) cuts_none)

  signed-cuts : (bits : ℕ) (bytes : List ℕ) → Cuts Any more (signed_at bits bytes) (signed_at bits (bytes ++ more))
  signed-cuts bits [] = cuts_empty (signed-reads bits more)
  signed-cuts bits (n ∷ bytes) =
      cuts_if (nat_lt n (2 ^ 6)) (cuts_if (nat_lt n (2 ^ (bits - 1))) cuts_here cuts_none)
      (cuts_if (nat_lt n (2 ^ 7)) (cuts_if (nat_le (2 ^ 7) (n + 2 ^ (bits - 1))) cuts_here cuts_none)
      (cuts_if (nat_lt 7 bits) (cuts_map _ (signed-cuts (bits - 7) bytes)) cuts_none))

  u32-cuts : (bytes : List ℕ) → Cuts Any more (u32_at bytes) (u32_at (bytes ++ more))
  u32-cuts bytes = unsigned-cuts 32 bytes

  one_index-cuts : {X : Type 0} (op : ℕ → X) (bytes : List ℕ) → Cuts Any more (one_index op bytes) (one_index op (bytes ++ more))
  one_index-cuts op bytes = cuts_map _ (u32-cuts bytes)

  two_indices-cuts : {X : Type 0} (op : ℕ → ℕ → X) (bytes : List ℕ) → Cuts Any more (two_indices op bytes) (two_indices op (bytes ++ more))
  two_indices-cuts op bytes = cuts_then _ (u32-cuts bytes) (λ i. ends_reads (reads_map _ (u32-reads i.1))) (λ i s. cuts_map _ (u32-cuts s))

  s33_index-cuts : (bytes : List ℕ) → Cuts Any more (s33_index_at bytes) (s33_index_at (bytes ++ more))
  s33_index-cuts bytes = cuts_then _ (signed-cuts 33 bytes) (λ n. ends_value (λ x. x) (not_negative n.0)) (λ n s. cuts_value s (λ x. x) (not_negative n))

  -- bits
  little_endian-cuts : (n : ℕ) (bytes : List ℕ) → Cuts Any more (little_endian_at n bytes) (little_endian_at n (bytes ++ more))
  little_endian-cuts zero bytes = cuts_here
  little_endian-cuts (suc n) [] = cuts_empty (little_endian-reads n more)
  little_endian-cuts (suc n) (b ∷ bytes) = cuts_map _ (little_endian-cuts n bytes)

  bits_32-cuts : (bytes : List ℕ) → Cuts Any more (bits_32_at bytes) (bits_32_at (bytes ++ more))
  unfolding bits_32_at
  bits_32-cuts bytes = little_endian-cuts 4 bytes

  bits_64-cuts : (bytes : List ℕ) → Cuts Any more (bits_64_at bytes) (bits_64_at (bytes ++ more))
  unfolding bits_64_at
  bits_64-cuts bytes = cuts_then _ (bits_32-cuts bytes) (λ low. ends_reads (reads_map _ (bits_32-rest low.1))) (λ low s. cuts_map _ (bits_32-cuts s))

  bits_128-cuts : (bytes : List ℕ) → Cuts Any more (bits_128_at bytes) (bits_128_at (bytes ++ more))
  unfolding bits_128_at
  bits_128-cuts bytes = cuts_then _ (bits_64-cuts bytes) (λ low. ends_reads (reads_map _ (bits_64-rest low.1))) (λ low s. cuts_map _ (bits_64-cuts s))

  -- heap types
  abstract_heap-cuts : (bytes : List ℕ) → Cuts Any more (abstract_heap_at bytes) (abstract_heap_at (bytes ++ more))
  unfolding abstract_heap_at
  abstract_heap-cuts [] = cuts_empty (abstract_heap-rest more)
  abstract_heap-cuts (b ∷ bytes) = cuts_value bytes (λ a. a) (abstract_heap_from b)

  plain_heap-cuts : {R : Type 0} (to : ℕ → R) (a : Option AbstractHeap) (b : ℕ) (bytes : List ℕ) → Cuts Any more (plain_heap_from to a bytes (b ∷ bytes)) (plain_heap_from to a (bytes ++ more) (b ∷ bytes ++ more))
  plain_heap-cuts to None b bytes = cuts_map _ (s33_index-cuts (b ∷ bytes))
  plain_heap-cuts to (Some a) b bytes = cuts_here

  heap-cuts : {R : Type 0} (to : ℕ → R) (bytes : List ℕ) → Cuts Any more (heap_at to bytes) (heap_at to (bytes ++ more))
  unfolding heap_at
  heap-cuts to [] = cuts_empty (heap-reads to more)
  heap-cuts to (b ∷ bytes) =
      cuts_if (b == 0x62) (cuts_map _ (cuts_map _ (u32-cuts bytes)))
      (cuts_if (b == 0x65) (cuts_map _ (abstract_heap-cuts bytes)) (plain_heap-cuts to (abstract_heap_from b) b bytes))

  -- families
  constant-cuts : (b : ℕ) (bytes : List ℕ) → Cuts Any more (constant_from b bytes) (constant_from b (bytes ++ more))
  unfolding constant_from
  constant-cuts b bytes =
      cuts_if (b == 0x41) (cuts_map _ (signed-cuts 32 bytes))
      (cuts_if (b == 0x42) (cuts_map _ (signed-cuts 64 bytes))
      (cuts_if (b == 0x43) (cuts_map _ (bits_32-cuts bytes))
      (cuts_if (b == 0x44) (cuts_map _ (bits_64-cuts bytes))
      cuts_none)))

  vector-cuts : (n : ℕ) (bytes : List ℕ) → Cuts Any more (vector_from n bytes) (vector_from n (bytes ++ more))
  unfolding vector_from
  vector-cuts n bytes = cuts_if (n == 12) (cuts_map _ (bits_128-cuts bytes)) cuts_none

  variable-cuts : (b : ℕ) (bytes : List ℕ) → Cuts Any more (variable_from b bytes) (variable_from b (bytes ++ more))
  unfolding variable_from
  variable-cuts b bytes =
      cuts_if (b == 0x20) (one_index-cuts _ bytes)
      (cuts_if (b == 0x21) (one_index-cuts _ bytes)
      (cuts_if (b == 0x22) (one_index-cuts _ bytes)
      (cuts_if (b == 0x23) (one_index-cuts _ bytes)
      (cuts_if (b == 0x24) (one_index-cuts _ bytes)
      cuts_none))))

  struct-cuts : (n : ℕ) (bytes : List ℕ) → Cuts Any more (struct_from n bytes) (struct_from n (bytes ++ more))
  unfolding struct_from
  struct-cuts n bytes =
      cuts_if (n == 0) (one_index-cuts _ bytes)
      (cuts_if (n == 1) (one_index-cuts _ bytes)
      (cuts_if (n == 2) (two_indices-cuts _ bytes)
      (cuts_if (n == 3) (two_indices-cuts _ bytes)
      (cuts_if (n == 4) (two_indices-cuts _ bytes)
      (cuts_if (n == 5) (two_indices-cuts _ bytes)
      (cuts_if (n == 32) (one_index-cuts _ bytes)
      (cuts_if (n == 33) (one_index-cuts _ bytes)
      cuts_none)))))))

  array-cuts : (n : ℕ) (bytes : List ℕ) → Cuts Any more (array_from n bytes) (array_from n (bytes ++ more))
  unfolding array_from
  array-cuts n bytes =
      cuts_if (n == 6) (one_index-cuts _ bytes)
      (cuts_if (n == 7) (one_index-cuts _ bytes)
      (cuts_if (n == 8) (two_indices-cuts _ bytes)
      (cuts_if (n == 9) (two_indices-cuts _ bytes)
      (cuts_if (n == 10) (two_indices-cuts _ bytes)
      (cuts_if (n == 11) (one_index-cuts _ bytes)
      (cuts_if (n == 12) (one_index-cuts _ bytes)
      (cuts_if (n == 13) (one_index-cuts _ bytes)
      (cuts_if (n == 14) (one_index-cuts _ bytes)
      (cuts_if (n == 15) cuts_here
      (cuts_if (n == 16) (one_index-cuts _ bytes)
      (cuts_if (n == 17) (two_indices-cuts _ bytes)
      (cuts_if (n == 18) (two_indices-cuts _ bytes)
      (cuts_if (n == 19) (two_indices-cuts _ bytes)
      cuts_none)))))))))))))

  reference-cuts : {R : Type 0} (to : ℕ → R) (b : ℕ) (bytes : List ℕ) → Cuts Any more (reference_from to b bytes) (reference_from to b (bytes ++ more))
  unfolding reference_from
  reference-cuts to b bytes =
      cuts_if (b == 0xd0) (cuts_map _ (heap-cuts to bytes))
      (cuts_if (b == 0xd1) cuts_here
      (cuts_if (b == 0xd2) (one_index-cuts _ bytes)
      (cuts_if (b == 0xd3) cuts_here
      (cuts_if (b == 0xd4) cuts_here
      (cuts_if (b == 0xd5) (one_index-cuts _ bytes)
      (cuts_if (b == 0xd6) (one_index-cuts _ bytes)
      cuts_none))))))

  -- of control instructions, those that open no frame
  module _ (Q : Control ℕ → Type 0) (no_block : (b : Block ℕ) → Q (block b) → ⊥) (no_loop : (b : Block ℕ) → Q (loop b) → ⊥) (no_if : (b : Block ℕ) → Q (if_ b) → ⊥)
      (no_table : (ls : List ℕ) (l : ℕ) → Q (br_table ls l) → ⊥) (no_try : (b : Block ℕ) (cs : List Catch) → Q (try_table b cs) → ⊥) where
    control-cuts : (b : ℕ) (bytes : List ℕ) → Cuts Q more (control_from (λ n. n) b bytes) (control_from (λ n. n) b (bytes ++ more))
    unfolding control_from
    control-cuts b bytes =
        cuts_if (b == 0x00) cuts_here
        (cuts_if (b == 0x01) cuts_here
        (cuts_if (b == 0x02) (cuts_map _ (cuts_never no_block))
        (cuts_if (b == 0x03) (cuts_map _ (cuts_never no_loop))
        (cuts_if (b == 0x04) (cuts_map _ (cuts_never no_if))
        (cuts_if (b == 0x05) cuts_here
        (cuts_if (b == 0x08) (cuts_any (one_index-cuts _ bytes))
        (cuts_if (b == 0x0a) cuts_here
        (cuts_if (b == 0x0b) cuts_here
        (cuts_if (b == 0x0c) (cuts_any (one_index-cuts _ bytes))
        (cuts_if (b == 0x0d) (cuts_any (one_index-cuts _ bytes))
        (cuts_if (b == 0x0e) (cuts_map _ (cuts_never (λ t. no_table t.0 t.1)))
        (cuts_if (b == 0x0f) cuts_here
        (cuts_if (b == 0x1f) (cuts_map _ (cuts_never (λ t. no_try t.0 t.1)))
        cuts_none)))))))))))))

no : false ≡ true → ⊥
no e = cc

module _ (F : Features) where
  -- an instruction that constant expressions may have
  abbrev IsConstantOne : Instruction ℕ → Type 0
  IsConstantOne op = is_constant F op ≡ true

  aggregate-ends : (n : ℕ) (bytes : List ℕ) → Ends IsConstantOne bytes (aggregate_from (λ n. n) n bytes)
  unfolding aggregate_from
  aggregate-ends n bytes =
      ends_if (nat_lt n 6) (ends_map _ (ends_reads (struct-reads n bytes)))
      (ends_if (nat_lt n 20) (ends_map _ (ends_reads (array-reads n bytes)))
      (ends_if (nat_lt n 26) (ends_map _ (ends_never (λ c. no)))
      (ends_if (nat_lt n 32) (ends_value _ (conversion_from n))
      (ends_if (nat_lt n 34) (ends_map _ (ends_reads (struct-reads n bytes)))
      (ends_map _ (ends_never (λ c. no)))))))

  bulk-ends : (n : ℕ) (bytes : List ℕ) → Ends IsConstantOne bytes (bulk_from (λ n. n) n bytes)
  unfolding bulk_from
  bulk-ends n bytes =
      ends_if (nat_lt n 8) (ends_value _ (saturating_from n))
      (ends_if (nat_lt n 12) (ends_map _ (ends_never (λ c. no)))
      (ends_if (nat_lt n 18) (ends_map _ (ends_never (λ c. no)))
      (ends_if (nat_lt n 19) (ends_map _ (ends_never (λ c. no)))
      (ends_value _ (wide_from n)))))

  vector-ends : (found : Option VectorOperator) (bytes : List ℕ) → Ends IsConstantOne bytes (with_form vector vector_forms.form_of bytes found)
  vector-ends None bytes = ends_none
  vector-ends (Some op) bytes = ends_map _ (ends_never (λ i. no))

  atomic-ends : (found : Option AtomicOperator) (bytes : List ℕ) → Ends IsConstantOne bytes (with_form atomic atomic_forms.form_of bytes found)
  atomic-ends None bytes = ends_none
  atomic-ends (Some op) bytes = ends_map _ (ends_never (λ i. no))

  access-ends : (found : Option SharedAtomicOperator) (bytes : List ℕ) → Ends IsConstantOne bytes (with_access bytes found)
  access-ends None bytes = ends_none
  access-ends (Some op) bytes = ends_map _ (ends_never (λ i. no))

  vectors-ends : (n : ℕ) (bytes : List ℕ) → Ends IsConstantOne bytes (vectors_from (λ n. n) n bytes)
  unfolding vectors_from
  vectors-ends n bytes = ends_if (n == 12) (ends_map _ (ends_reads (vector-reads n bytes))) (vector-ends (vectors.operator_from n) bytes)

  atomics-ends : (n : ℕ) (bytes : List ℕ) → Ends IsConstantOne bytes (atomics_from (λ n. n) n bytes)
  unfolding atomics_from
  atomics-ends n bytes = ends_if (n == 0x72) (ends_value _ (shared_from n)) (ends_if (is_shared n) (access-ends (shareds.shared_operator_from n) bytes) (atomic-ends (atomics.operator_from n) bytes))

  prefixed-ends : (b n : ℕ) (bytes : List ℕ) → Ends IsConstantOne bytes (prefixed_from (λ n. n) b n bytes)
  unfolding prefixed_from
  prefixed-ends b n bytes =
      ends_if (b == 0xfb) (aggregate-ends n bytes)
      (ends_if (b == 0xfc) (bulk-ends n bytes)
      (ends_if (b == 0xfd) (vectors-ends n bytes)
      (ends_if (b == 0xfe) (atomics-ends n bytes) ends_none)))

  module _ {more : List ℕ} where
    constant_control-cuts : (b : ℕ) (bytes : List ℕ) → Cuts (λ c. IsConstantOne (control c)) more (control_from (λ n. n) b bytes) (control_from (λ n. n) b (bytes ++ more))
    constant_control-cuts = control-cuts (λ c. IsConstantOne (control c)) (λ b. no) (λ b. no) (λ b. no) (λ ls l. no) (λ b cs. no)

    with_memarg-cuts : (found : Option MemoryOperator) (bytes : List ℕ) → Cuts IsConstantOne more (with_memarg bytes found) (with_memarg (bytes ++ more) found)
    with_memarg-cuts None bytes = cuts_none
    with_memarg-cuts (Some op) bytes = cuts_map _ (cuts_never (λ m. no))

    plain-cuts : (b : ℕ) (bytes : List ℕ) → Cuts IsConstantOne more (plain_from (λ n. n) b bytes) (plain_from (λ n. n) b (bytes ++ more))
    unfolding plain_from
    plain-cuts b bytes =
        cuts_if (nat_lt b 0x06) (cuts_map _ (constant_control-cuts b bytes))
        (cuts_if (nat_lt b 0x08) (cuts_map _ (cuts_never (λ c. no)))
        (cuts_if (nat_lt b 0x09) (cuts_map _ (constant_control-cuts b bytes))
        (cuts_if (nat_lt b 0x0a) (cuts_map _ (cuts_never (λ c. no)))
        (cuts_if (nat_lt b 0x10) (cuts_map _ (constant_control-cuts b bytes))
        (cuts_if (nat_lt b 0x18) (cuts_map _ (cuts_never (λ c. no)))
        (cuts_if (nat_lt b 0x1a) (cuts_map _ (cuts_never (λ c. no)))
        (cuts_if (nat_lt b 0x1f) (cuts_map _ (cuts_never (λ c. no)))
        (cuts_if (nat_lt b 0x20) (cuts_map _ (constant_control-cuts b bytes))
        (cuts_if (nat_lt b 0x25) (cuts_map _ (cuts_any (variable-cuts b bytes)))
        (cuts_if (nat_lt b 0x28) (cuts_map _ (cuts_never (λ c. no)))
        (cuts_if (nat_lt b 0x3f) (with_memarg-cuts (access_from b) bytes)
        (cuts_if (nat_lt b 0x41) (cuts_map _ (cuts_never (λ c. no)))
        (cuts_if (nat_lt b 0x45) (cuts_map _ (cuts_any (constant-cuts b bytes)))
        (cuts_if (nat_lt b 0xd0) (cuts_value bytes _ (numeric_from b))
        (cuts_if (nat_lt b 0xe0) (cuts_map _ (cuts_any (reference-cuts (λ n. n) b bytes)))
        (cuts_map _ (cuts_never (λ c. no))))))))))))))))))

    aggregate-cuts : (n : ℕ) (bytes : List ℕ) → Cuts IsConstantOne more (aggregate_from (λ n. n) n bytes) (aggregate_from (λ n. n) n (bytes ++ more))
    unfolding aggregate_from
    aggregate-cuts n bytes =
        cuts_if (nat_lt n 6) (cuts_map _ (cuts_any (struct-cuts n bytes)))
        (cuts_if (nat_lt n 20) (cuts_map _ (cuts_any (array-cuts n bytes)))
        (cuts_if (nat_lt n 26) (cuts_map _ (cuts_never (λ c. no)))
        (cuts_if (nat_lt n 32) (cuts_value bytes _ (conversion_from n))
        (cuts_if (nat_lt n 34) (cuts_map _ (cuts_any (struct-cuts n bytes)))
        (cuts_map _ (cuts_never (λ c. no)))))))

    bulk-cuts : (n : ℕ) (bytes : List ℕ) → Cuts IsConstantOne more (bulk_from (λ n. n) n bytes) (bulk_from (λ n. n) n (bytes ++ more))
    unfolding bulk_from
    bulk-cuts n bytes =
        cuts_if (nat_lt n 8) (cuts_value bytes _ (saturating_from n))
        (cuts_if (nat_lt n 12) (cuts_map _ (cuts_never (λ c. no)))
        (cuts_if (nat_lt n 18) (cuts_map _ (cuts_never (λ c. no)))
        (cuts_if (nat_lt n 19) (cuts_map _ (cuts_never (λ c. no)))
        (cuts_value bytes _ (wide_from n)))))

    vector-one-cuts : (found : Option VectorOperator) (bytes : List ℕ) → Cuts IsConstantOne more (with_form vector vector_forms.form_of bytes found) (with_form vector vector_forms.form_of (bytes ++ more) found)
    vector-one-cuts None bytes = cuts_none
    vector-one-cuts (Some op) bytes = cuts_map _ (cuts_never (λ i. no))

    atomic-one-cuts : (found : Option AtomicOperator) (bytes : List ℕ) → Cuts IsConstantOne more (with_form atomic atomic_forms.form_of bytes found) (with_form atomic atomic_forms.form_of (bytes ++ more) found)
    atomic-one-cuts None bytes = cuts_none
    atomic-one-cuts (Some op) bytes = cuts_map _ (cuts_never (λ i. no))

    access-one-cuts : (found : Option SharedAtomicOperator) (bytes : List ℕ) → Cuts IsConstantOne more (with_access bytes found) (with_access (bytes ++ more) found)
    access-one-cuts None bytes = cuts_none
    access-one-cuts (Some op) bytes = cuts_map _ (cuts_never (λ i. no))

    vectors-cuts : (n : ℕ) (bytes : List ℕ) → Cuts IsConstantOne more (vectors_from (λ n. n) n bytes) (vectors_from (λ n. n) n (bytes ++ more))
    unfolding vectors_from
    vectors-cuts n bytes = cuts_if (n == 12) (cuts_map _ (cuts_any (vector-cuts n bytes))) (vector-one-cuts (vectors.operator_from n) bytes)

    atomics-cuts : (n : ℕ) (bytes : List ℕ) → Cuts IsConstantOne more (atomics_from (λ n. n) n bytes) (atomics_from (λ n. n) n (bytes ++ more))
    unfolding atomics_from
    atomics-cuts n bytes = cuts_if (n == 0x72) (cuts_value bytes _ (shared_from n)) (cuts_if (is_shared n) (access-one-cuts (shareds.shared_operator_from n) bytes) (atomic-one-cuts (atomics.operator_from n) bytes))

    prefixed-cuts : (b n : ℕ) (bytes : List ℕ) → Cuts IsConstantOne more (prefixed_from (λ n. n) b n bytes) (prefixed_from (λ n. n) b n (bytes ++ more))
    unfolding prefixed_from
    prefixed-cuts b n bytes =
        cuts_if (b == 0xfb) (aggregate-cuts n bytes)
        (cuts_if (b == 0xfc) (bulk-cuts n bytes)
        (cuts_if (b == 0xfd) (vectors-cuts n bytes)
        (cuts_if (b == 0xfe) (atomics-cuts n bytes) cuts_none)))

    instruction-cuts : (bytes : List ℕ) → Cuts IsConstantOne more (instruction_at (λ n. n) bytes) (instruction_at (λ n. n) (bytes ++ more))
    unfolding instruction_at
    instruction-cuts [] = cuts_empty (instruction-reads (λ n. n) more)
    instruction-cuts (b ∷ bytes) =
        cuts_if (nat_lt b 0xfb) (plain-cuts b bytes)
        (cuts_then _ (u32-cuts bytes) (λ n. prefixed-ends b n.0 n.1) (λ n s. prefixed-cuts b n s))

-- an instruction that a constant expression may have, read before more bytes, is read from its own bytes alone
pub instruction_is_cut : (F : Features) (op : Instruction ℕ) (bytes rest more : List ℕ) → is_constant F op ≡ true → instruction_at (λ n. n) (bytes ++ more) ≡ Some (op, rest ++ more) → instruction_at (λ n. n) bytes ≡ Some (op, rest)
instruction_is_cut F op bytes rest more a e = (instruction-cuts F {more = more} bytes).is op rest a e
