-- Numbers that stand for types.
use Rattle.std.proofs.Common.{◌≡◌, ℕ, ◌+◌, ◌*◌, ◌/◌, ◌%◌, ◌-◌, ◌<◌, ◌≤◌, ◌==◌, Bool, true, false, refl, ap, arith, sub-one, lit<}
use Rattle.std.specs.Prelude.{zero, suc}
use Rattle.wasm_operators_plain.specs.WasmSpec.Syntax.{Heap, Ref, exact, nocont_heap, i32, i64, f32, f64, v128, reference}
use Rattle.wasm_operators_plain.specs.WasmReadersTypes.WasmReadersValues.declared.indices.UnpackedIndex.TheVariants.{Module, RecGroup, Id}
use Rattle.wasm_operators_plain.specs.WasmReadersTypes.WasmReadersValues.SeenValues.{heap_of, packed_heap_of, ref_of, HeapFits}
use Rattle.wasm_operators_plain.specs.WasmReadersTypes.WasmReadersValues.declared.indices.TheConstants.{MAX_IDS}
use Rattle.wasm_operators_plain.specs.WasmReadersTypes.WasmReadersValues.declared.values.HeapType.{HeapType}
use Rattle.wasm_operators_plain.specs.WasmReadersTypes.WasmReadersValues.declared.values.HeapType.TheVariants as heap
use Rattle.wasm_operators_plain.specs.WasmReadersTypes.WasmReadersValues.declared.indices.UnpackedIndex.{UnpackedIndex}
use Rattle.wasm_operators_plain.specs.WasmReadersTypes.WasmReadersValues.declared.values.PackedHeap.{PackedHeap}
use Rattle.wasm_operators_plain.specs.WasmReadersTypes.WasmReadersValues.declared.values.PackedHeap.TheVariants as packed
use Rattle.wasm_operators_plain.specs.WasmReadersTypes.WasmReadersValues.declared.values.RefType.{RefType}
use Rattle.wasm_typing_stacks.specs.TypeWords.{abstract_at, index_from, index_at, heap_at, ref_at, heap_number, number_at, val_from, val_at, val_number}

pub last_abstract : (n : ℕ) → 13 ≤ n → nocont_heap ≡ abstract_at n
last_abstract zero h = absurd (omega arith)
last_abstract (suc zero) h = absurd (omega arith)
last_abstract (suc (suc zero)) h = absurd (omega arith)
last_abstract (suc (suc (suc zero))) h = absurd (omega arith)
last_abstract (suc (suc (suc (suc zero)))) h = absurd (omega arith)
last_abstract (suc (suc (suc (suc (suc zero))))) h = absurd (omega arith)
last_abstract (suc (suc (suc (suc (suc (suc zero)))))) h = absurd (omega arith)
last_abstract (suc (suc (suc (suc (suc (suc (suc zero))))))) h = absurd (omega arith)
last_abstract (suc (suc (suc (suc (suc (suc (suc (suc zero)))))))) h = absurd (omega arith)
last_abstract (suc (suc (suc (suc (suc (suc (suc (suc (suc zero))))))))) h = absurd (omega arith)
last_abstract (suc (suc (suc (suc (suc (suc (suc (suc (suc (suc zero)))))))))) h = absurd (omega arith)
last_abstract (suc (suc (suc (suc (suc (suc (suc (suc (suc (suc (suc zero))))))))))) h = absurd (omega arith)
last_abstract (suc (suc (suc (suc (suc (suc (suc (suc (suc (suc (suc (suc zero)))))))))))) h = absurd (omega arith)
last_abstract (suc (suc (suc (suc (suc (suc (suc (suc (suc (suc (suc (suc (suc n))))))))))))) h = refl

parts : (k n : ℕ) → k < 4 → (n * 4 + k) % 4 ≡ k
parts k n h = omega arith

wholes : (k n : ℕ) → k < 4 → (n * 4 + k) / 4 ≡ n
wholes k n h = omega arith

pub id_code : (n : ℕ) → index_at (n * 4) ≡ Id (record { index = n })
unfolding index_at
id_code n =
    let p : n * 4 % 4 ≡ 0 = omega arith in
    let q : n * 4 / 4 ≡ n = omega arith in
    rw (p, q) refl

pub module_code : (n : ℕ) → index_at (n * 4 + 1) ≡ Module n
unfolding index_at
module_code n =
    let p : (n * 4 + 1) % 4 ≡ 1 = omega arith in
    let q : (n * 4 + 1) / 4 ≡ n = omega arith in
    rw (p, q) refl

pub group_code : (n : ℕ) → index_at (n * 4 + 2) ≡ RecGroup n
unfolding index_at
group_code n =
    let p : (n * 4 + 2) % 4 ≡ 2 = omega arith in
    let q : (n * 4 + 2) / 4 ≡ n = omega arith in
    rw (p, q) refl

pub code_of_id : (c n k : ℕ) → n ≡ c / 4 → k ≡ c % 4 → k ≡ 0 → Id (record { index = n }) ≡ index_at c
unfolding index_at
code_of_id c n k e f g = let h : c % 4 ≡ 0 = cc in rw (h, e) refl

pub code_of_module : (c n k : ℕ) → n ≡ c / 4 → k ≡ c % 4 → k ≡ 1 → Module n ≡ index_at c
unfolding index_at
code_of_module c n k e f g = let h : c % 4 ≡ 1 = cc in rw (h, e) refl

group_from : (k n : ℕ) → 2 ≤ k → RecGroup n ≡ index_from k n
group_from zero n h = absurd (omega arith)
group_from (suc zero) n h = absurd (omega arith)
group_from (suc (suc k)) n h = refl

pub code_of_group : (c n k : ℕ) → n ≡ c / 4 → k ≡ c % 4 → 2 ≤ k → RecGroup n ≡ index_at c
unfolding index_at
code_of_group c n k e f g = rw (e, ← f) (group_from k (c / 4) g)

pub ruleset index_codes = (id_code, module_code, group_code, code_of_id, code_of_module, code_of_group)

pub last_heap : (k c : ℕ) (i : UnpackedIndex) → 3 ≤ k → i ≡ index_at c → exact i ≡ heap_at k c
last_heap zero c i h e = absurd (omega arith)
last_heap (suc zero) c i h e = absurd (omega arith)
last_heap (suc (suc zero)) c i h e = absurd (omega arith)
last_heap (suc (suc (suc k))) c i h e = ap exact e

pub ruleset heap_codes = (last_heap)

pub null_code : (k c : ℕ) (h : Heap UnpackedIndex) → heap_at k c ≡ h → ref_at k (c * 2 + 1) ≡ record { nullable = true; heap = h }
unfolding ref_at
null_code k c h e =
    let p : (c * 2 + 1) % 2 ≡ 1 = omega arith in
    let q : (c * 2 + 1) / 2 ≡ c = omega arith in
    rw (p, q, e) refl

pub non_null_code : (k c : ℕ) (h : Heap UnpackedIndex) → heap_at k c ≡ h → ref_at k (c * 2) ≡ record { nullable = false; heap = h }
unfolding ref_at
non_null_code k c h e =
    let p : c * 2 % 2 ≡ 0 = omega arith in
    let q : c * 2 / 2 ≡ c = omega arith in
    rw (p, q, e) refl

pub ref_of_code : (k c m : ℕ) (b : Bool) (h : Heap UnpackedIndex) → b ≡ (c % 2 == 1) → h ≡ heap_at k (c / 2) → record { nullable = b; heap = h } ≡ ref_at k c
unfolding ref_at
ref_of_code k c m b h e f = rw (e, f) refl

-- a heap type of which the index is small fits
fits_as : (h : HeapType) → heap_number (heap_of h) < MAX_IDS → HeapFits h
fits_as (heap.Abstract shared ty) e = tt
fits_as (heap.Concrete i) e = e
fits_as (heap.Exact i) e = e

pub heap_fits : (k c : ℕ) (h : HeapType) → heap_of h ≡ heap_at k (c / 2) → heap_number (ref_at k c).heap < MAX_IDS → HeapFits h
unfolding ref_at
heap_fits k c h e f = let g : heap_number (heap_of h) < MAX_IDS = rw e f in fits_as h g

pub ruleset ref_codes = (null_code, non_null_code, ref_of_code, heap_fits)

pub ref_word : (k c : ℕ) (r : Ref UnpackedIndex) → k < 4 → ref_at k c ≡ r → val_at (c * 8 + k + 1) ≡ reference r
unfolding val_at
ref_word k c r h e =
    let p : (c * 8 + k + 1) % 8 ≡ suc k = omega arith in
    let q : (c * 8 + k + 1) / 8 ≡ c = omega arith in
    rw (p, q, e) refl

pub ref_tag : (k c : ℕ) → k < 4 → (c * 8 + k + 1) % 8 < 5
ref_tag k c h = let p : (c * 8 + k + 1) % 8 ≡ k + 1 = omega arith in omega arith

pub ref_number : (k c : ℕ) (r : Ref UnpackedIndex) → k < 4 → ref_at k c ≡ r → heap_number r.heap < MAX_IDS → val_number (val_at (c * 8 + k + 1)) < MAX_IDS
ref_number k c r h e f = rw (ref_word k c r h e) f

-- an index in a reference type is small
packed_small : (h : PackedHeap) → heap_number (packed_heap_of h) < MAX_IDS
packed_small (packed.Abstract shared ty) = lit< tt
packed_small (packed.Concrete p) = p.fits
packed_small (packed.Exact p) = p.fits

pub ref_small : (r : RefType) → heap_number (ref_of r).heap < MAX_IDS
ref_small r = packed_small r.heap

pub ruleset words = (ref_word, ref_tag, ref_number, ref_small)

last_number : (n : ℕ) → 4 ≤ n → v128 ≡ number_at n
last_number zero h = absurd (omega arith)
last_number (suc zero) h = absurd (omega arith)
last_number (suc (suc zero)) h = absurd (omega arith)
last_number (suc (suc (suc zero))) h = absurd (omega arith)
last_number (suc (suc (suc (suc n)))) h = refl

pub word_is_i32 : (b : ℕ) → b % 8 ≡ 0 → b / 8 ≡ 0 → i32 ≡ val_at b
unfolding val_at
word_is_i32 b h e = rw (h, e) refl

pub word_is_i64 : (b : ℕ) → b % 8 ≡ 0 → b / 8 ≡ 1 → i64 ≡ val_at b
unfolding val_at
word_is_i64 b h e = rw (h, e) refl

pub word_is_f32 : (b : ℕ) → b % 8 ≡ 0 → b / 8 ≡ 2 → f32 ≡ val_at b
unfolding val_at
word_is_f32 b h e = rw (h, e) refl

pub word_is_f64 : (b : ℕ) → b % 8 ≡ 0 → b / 8 ≡ 3 → f64 ≡ val_at b
unfolding val_at
word_is_f64 b h e = rw (h, e) refl

pub word_is_vector : (b : ℕ) → b % 8 ≡ 0 → 4 ≤ b / 8 → v128 ≡ val_at b
unfolding val_at
word_is_vector b h e = rw h (last_number (b / 8) e)

from_tag : (t n : ℕ) (r : Ref UnpackedIndex) → 0 < t → r ≡ ref_at (t - 1) n → reference r ≡ val_from t n
from_tag zero n r h e = absurd (omega arith)
from_tag (suc t) n r h e = rw sub-one at (ap reference e)

pub word_is_reference : (b t : ℕ) (r : Ref UnpackedIndex) → b % 8 ≡ t → 0 < t → r ≡ ref_at (t - 1) (b / 8) → reference r ≡ val_at b
unfolding val_at
word_is_reference b t r e h f = rw e (from_tag t (b / 8) r h f)

number_from : (t n : ℕ) → 0 < t → heap_number (ref_at (t - 1) n).heap ≡ val_number (val_from t n)
number_from zero n h = absurd (omega arith)
number_from (suc t) n h = rw sub-one refl

pub word_fits : (b t : ℕ) → b % 8 ≡ t → 0 < t → val_number (val_at b) < MAX_IDS → heap_number (ref_at (t - 1) (b / 8)).heap < MAX_IDS
unfolding val_at
word_fits b t e h f = rw number_from (rw e at f)

pub ruleset types = (word_is_i32, word_is_i64, word_is_f32, word_is_f64, word_is_vector, word_is_reference, word_fits)
