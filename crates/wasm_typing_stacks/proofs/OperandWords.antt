-- Operands and block types as numbers.
use Rattle.std.proofs.Common.{◌≡◌, ◌≢◌, ℕ, ◌+◌, ◌-◌, ◌*◌, ◌/◌, ◌%◌, ◌<◌, ◌≤◌, ◌==◌, true, false, refl, sym, ◌∙◌, ap, arith, lit<}
use Rattle.std.specs.Prelude.{zero, suc, nat_lt}
use Rattle.std.proofs.lemmas.Bool.Decides.{nat_tests}
use Rattle.wasm_operators_plain.specs.WasmSpec.Syntax.{AbstractHeap, Val}
use Rattle.wasm_operators_plain.specs.WasmReadersTypes.WasmReadersValues.declared.indices.UnpackedIndex.{UnpackedIndex}
use Rattle.wasm_operators_plain.specs.WasmReadersTypes.WasmReadersValues.declared.indices.TheConstants.{MAX_IDS}
use Rattle.wasm_typing_stacks.specs.TypeWords.{abstract_at, val_at, val_number}
use Rattle.wasm_spec_steps.specs.Machine.{bottom, bottom_reference, open_reference, known}
use Rattle.wasm_spec_steps.specs.Control.{empty_block, value_block, func_block}
use Rattle.wasm_typing_stacks.specs.Words.{special_at, operand_at, operand_number, block_at, block_number}

below : (m n : ℕ) → m < n → nat_lt m n ≡ true
below m n h = grind (arith, nat_tests)

above : (m n : ℕ) → n ≤ m → nat_lt m n ≡ false
above m n h = grind (arith, nat_tests)

pub known_word : (b : ℕ) → b % 8 < 5 → operand_at b ≡ known (val_at b)
unfolding operand_at
known_word b h = rw (below (b % 8) 5 h) refl

pub known_fits : (b : ℕ) → b % 8 < 5 → val_number (val_at b) < MAX_IDS → operand_number (operand_at b) < MAX_IDS
known_fits b h f = rw (known_word b h) f

pub known_fits_back : (b : ℕ) → b % 8 < 5 → operand_number (operand_at b) < MAX_IDS → val_number (val_at b) < MAX_IDS
known_fits_back b h f = rw (known_word b h) at f

pub ruleset known_words = (known_word, known_fits)

pub open_word : (n : ℕ) (a : AbstractHeap) → abstract_at n ≡ a → operand_at ((n + 2) * 8 + 5) ≡ open_reference a
unfolding operand_at
open_word n a e =
    let p : ((n + 2) * 8 + 5) % 8 ≡ 5 = omega arith in
    let q : ((n + 2) * 8 + 5) / 8 ≡ suc (suc n) = omega arith in
    rw (p, q, e) refl

pub open_fits : (n : ℕ) → operand_number (operand_at ((n + 2) * 8 + 5)) < MAX_IDS
open_fits n = rw (open_word n (abstract_at n) refl) (lit< tt)

pub ruleset open_words = (open_word, open_fits)

equal : (b n : ℕ) → (b == n) ≡ true → b ≡ n
equal b n e = grind (arith, nat_tests)

pub same_word : (b n : ℕ) → (b == n) ≡ true → n % 8 < 5 → operand_at b ≡ known (val_at n)
same_word b n e h = rw (equal b n e) (known_word n h)

pub ruleset same_words = (same_word)

special_word : (b n : ℕ) → 5 ≤ b % 8 → b / 8 ≡ n → operand_at b ≡ special_at n
unfolding operand_at
special_word b n h e = rw (above (b % 8) 5 h, e) refl

pub bottom_word : (b : ℕ) → 5 ≤ b % 8 → b / 8 ≡ 0 → bottom ≡ operand_at b
bottom_word b h e = sym (special_word b 0 h e)

pub bottom_reference_word : (b : ℕ) → 5 ≤ b % 8 → b / 8 ≡ 1 → bottom_reference ≡ operand_at b
bottom_reference_word b h e = sym (special_word b 1 h e)

open_from : (n m : ℕ) (a : AbstractHeap) → 2 ≤ n → m ≡ n - 2 → a ≡ abstract_at m → open_reference a ≡ special_at n
open_from zero m a h e f = absurd (omega arith)
open_from (suc zero) m a h e f = absurd (omega arith)
open_from (suc (suc n)) m a h e f = let q : m ≡ n = omega arith in rw (f, q) refl

pub open_back : (b n m : ℕ) (a : AbstractHeap) → 5 ≤ b % 8 → b / 8 ≡ n → 2 ≤ n → m ≡ n - 2 → a ≡ abstract_at m → open_reference a ≡ operand_at b
open_back b n m a h e l q f = open_from n m a l q f ∙ sym (special_word b n h e)

pub known_back : (b : ℕ) (v : Val UnpackedIndex) → b % 8 < 5 → v ≡ val_at b → known v ≡ operand_at b
known_back b v h e = ap known e ∙ sym (known_word b h)

pub ruleset seen_words = (bottom_word, bottom_reference_word, open_back, known_back, known_fits_back)

-- block types
pub value_word : (b : ℕ) → b % 8 < 5 → block_at b ≡ value_block (val_at b)
unfolding block_at
value_word b h = rw (below (b % 8) 5 h) refl

pub value_fits : (b : ℕ) → b % 8 < 5 → val_number (val_at b) < MAX_IDS → block_number (block_at b) < MAX_IDS
value_fits b h f = rw (value_word b h) f

pub value_fits_back : (b : ℕ) → b % 8 < 5 → block_number (block_at b) < MAX_IDS → val_number (val_at b) < MAX_IDS
value_fits_back b h f = rw (value_word b h) at f

pub func_word : (n : ℕ) → block_at (n * 8 + 7) ≡ func_block n
unfolding block_at
func_word n =
    let p : (n * 8 + 7) % 8 ≡ 7 = omega arith in
    let q : (n * 8 + 7) / 8 ≡ n = omega arith in
    rw (p, q) refl

pub func_fits : (n : ℕ) → block_number (block_at (n * 8 + 7)) < MAX_IDS
func_fits n = rw (func_word n) (lit< tt)

pub ruleset block_words = (value_word, value_fits, func_word, func_fits)

pub func_back : (b n : ℕ) → b % 8 ≡ 7 → n ≡ b / 8 → func_block n ≡ block_at b
unfolding block_at
func_back b n h e = rw (h, e) refl

not_func : (m : ℕ) → m ≢ 7 → (m == 7) ≡ false
not_func m h = grind (arith, nat_tests)

pub empty_back : (b : ℕ) → 5 ≤ b % 8 → b % 8 ≢ 7 → empty_block ≡ block_at b
unfolding block_at
empty_back b h e = rw (above (b % 8) 5 h, not_func (b % 8) e) refl

pub value_back : (b : ℕ) → b % 8 < 5 → value_block (val_at b) ≡ block_at b
value_back b h = sym (value_word b h)

pub ruleset seen_blocks = (func_back, empty_back, value_back, value_fits_back)
