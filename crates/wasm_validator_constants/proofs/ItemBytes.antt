-- A reference and the end behind it, from their bytes.
use Rattle.std.proofs.Common.{◌≡◌, refl, sym, ap, ◌∙◌, ℕ, Bool, true, false, ◌==◌, List, [], ◌∷◌, Some, None}
use Rattle.std.proofs.lemmas.Bool.{eqb-true}
use Rattle.wasm_spec.specs.Syntax.{AbstractHeap, abstract_heap}
use Rattle.wasm_spec.specs.Values.{u32_at}
use Rattle.wasm_spec.specs.BinaryTypes.{abstract_heap_from, heap_at}
use Rattle.wasm_operators.specs.Control.{end_, control_from}
use Rattle.wasm_operators.specs.References.{ref_func, ref_null, reference_from}
use Rattle.wasm_operators.specs.Instructions.{control, reference, plain_from, instruction_at}
use Rattle.wasm_typing_validator.specs.WasmSpecSteps.Sequences.{Are}
use Rattle.wasm_validator_constants.specs.Items.{IsNull}

pub ends : (b : ℕ) (bytes more : List ℕ) → bytes ≡ b ∷ more → b ≡ 0x0b → instruction_at (λ n. n) bytes ≡ Some (control end_, more)
unfolding instruction_at plain_from control_from
ends b bytes more e f = rw (e, f) refl

function_read : (second third : List ℕ) (x : ℕ) → u32_at second ≡ Some (x, third) → instruction_at (λ n. n) (0xd2 ∷ second) ≡ Some (reference (ref_func x), third)
unfolding instruction_at plain_from reference_from
function_read second third x r = rw r refl

pub function_written : (b x : ℕ) (bytes second third more : List ℕ) → bytes ≡ b ∷ second → b ≡ 0xd2 → u32_at second ≡ Some (x, third) → instruction_at (λ n. n) third ≡ Some (control end_, more)
    → Are (reference (ref_func x) ∷ control end_ ∷ []) bytes more
function_written b x bytes second third more e f r g =
    let start : bytes ≡ 0xd2 ∷ second = e ∙ ap (λ (n : ℕ). n ∷ second) f in
    (third, ap (instruction_at (λ n. n)) start ∙ function_read second third x r, (more, g, refl))

pub null_bytes : (a b : ℕ) (bytes first second more : List ℕ) → bytes ≡ a ∷ first → a ≡ 0xd0 → first ≡ b ∷ second → instruction_at (λ n. n) second ≡ Some (control end_, more) → IsNull b bytes more
null_bytes a b bytes first second more e f g h = record {
  second = second;
  null = e ∙ (λ i. f i ∷ g i);
  ended = h;
}

-- a byte with another meaning in front of a heap type is none of an abstract one
other_by : (b n : ℕ) (k : AbstractHeap) (c : Bool) → abstract_heap_from b ≡ Some k → abstract_heap_from n ≡ None → (b == n) ≡ c → c ≡ false
other_by b n k false e f g = refl
other_by b n k true e f g =
    let same : b ≡ n = eqb-true b n g in
    let none : Some k ≡ None = sym e ∙ ap abstract_heap_from same ∙ f in
    absurd cc

other : (b n : ℕ) (k : AbstractHeap) → abstract_heap_from b ≡ Some k → abstract_heap_from n ≡ None → (b == n) ≡ false
other b n k e f = other_by b n k (b == n) e f refl

-- the byte of an abstract heap type stands for it, whatever is behind it
heap_read : (b : ℕ) (k : AbstractHeap) (more : List ℕ) → abstract_heap_from b ≡ Some k → heap_at (λ n. n) (b ∷ more) ≡ Some (abstract_heap false k, more)
unfolding heap_at
heap_read b k more e =
    let exact : (b == 0x62) ≡ false = other b 0x62 k e refl in
    let shared : (b == 0x65) ≡ false = other b 0x65 k e refl in
    rw (exact, shared, e) refl

null_read : (b : ℕ) (k : AbstractHeap) (more : List ℕ) → abstract_heap_from b ≡ Some k → instruction_at (λ n. n) (0xd0 ∷ b ∷ more) ≡ Some (reference (ref_null (abstract_heap false k)), more)
unfolding instruction_at plain_from reference_from
null_read b k more e = rw (heap_read b k more e) refl

pub null_written : (b : ℕ) (k : AbstractHeap) (bytes more : List ℕ) → IsNull b bytes more → abstract_heap_from b ≡ Some k → Are (reference (ref_null (abstract_heap false k)) ∷ control end_ ∷ []) bytes more
null_written b k bytes more n f = (n.second, ap (instruction_at (λ n. n)) n.null ∙ null_read b k n.second f, (more, n.ended, refl))

pub ruleset written = (ends, function_written, null_bytes)
