-- The lists of a module's context.
use Rattle.std.proofs.Common.{◌≡◌, ⊎_elim, refl, sym, ◌∙◌, ℕ, zero, suc, ◌+◌, ◌<◌, ◌≤◌, Bool, true, false, true≢false, ◌||◌, ◌==◌, List, [], ◌∷◌, length, Some, None, slice_get, get_or, arith}
use Rattle.std.specs.Prelude.{nat_lt}
use Rattle.std.proofs.lemmas.Bool.Decides.{Decides-eqb, Decides-ltb}
use Rattle.std.proofs.lemmas.Option.{none-some, same_Some, slice_get-get_or}
use Rattle.std.proofs.lemmas.Bool.{cases_lt}
use Rattle.wasm_validator_resources.specs.WasmSpecRules.Attempts.{among}
use Rattle.wasm_validator_core_resources.specs.ModuleContexts.{exact_flags, numbers_from, flagged_from, FlagsSayReferences}

-- a function that is there is exact as the module says
pub flag_there : (xs : List ℕ) (bs : List Bool) (i : ℕ) → i < length xs → slice_get (exact_flags xs bs) i ≡ Some (get_or bs i true)
flag_there [] bs i l = absurd (omega (arith, l))
flag_there (x ∷ xs) [] zero l = refl
flag_there (x ∷ xs) [] (suc i) l = flag_there xs [] i (omega (arith, l))
flag_there (x ∷ xs) (b ∷ bs) zero l = refl
flag_there (x ∷ xs) (b ∷ bs) (suc i) l = flag_there xs bs i (omega (arith, l))

pub no_flag : (xs : List ℕ) (bs : List Bool) (i : ℕ) → length xs ≤ i → slice_get (exact_flags xs bs) i ≡ None
no_flag [] bs i l = refl
no_flag (x ∷ xs) [] zero l = absurd (omega (arith, l))
no_flag (x ∷ xs) [] (suc i) l = no_flag xs [] i (omega (arith, l))
no_flag (x ∷ xs) (b ∷ bs) zero l = absurd (omega (arith, l))
no_flag (x ∷ xs) (b ∷ bs) (suc i) l = no_flag xs bs i (omega (arith, l))

or_true : (a b : Bool) → a ≡ true → (a || b) ≡ true
or_true true b e = refl
or_true false b e = absurd (true≢false (sym e))

or_second : (a b : Bool) → b ≡ true → (a || b) ≡ true
or_second true b e = refl
or_second false b e = e

or_false : (a b : Bool) → a ≡ false → b ≡ false → (a || b) ≡ false
or_false true b e f = absurd (true≢false e)
or_false false b e f = f

not_true : (b : Bool) → (b ≡ true → ⊥) → b ≡ false
not_true true h = absurd (h refl)
not_true false h = refl

-- which numbers are among so many from one on
among_them : (i n count : ℕ) → n ≤ i → i < n + count → among i (numbers_from n count) ≡ true
among_them i n zero l m = absurd (omega (arith, l, m))
among_them i n (suc count) l m = elim (i == n) as (λ t. (i == n) ≡ t → ((i == n) || among i (numbers_from (suc n) count)) ≡ true) [
  | true ↦ λ e. or_true (i == n) (among i (numbers_from (suc n) count)) e
  | false ↦ λ e.
      let d = Decides-eqb i n in
      let other : i ≡ n → ⊥ = λ f. true≢false (sym (d.1 f) ∙ e) in
      let after : suc n ≤ i = omega (arith, l, other) in
      or_second (i == n) (among i (numbers_from (suc n) count)) (among_them i (suc n) count after (omega (arith, m)))
] refl

not_among_them : (i n count : ℕ) → n + count ≤ i → among i (numbers_from n count) ≡ false
not_among_them i n zero l = refl
not_among_them i n (suc count) l =
    let d = Decides-eqb i n in
    or_false (i == n) (among i (numbers_from (suc n) count)) (not_true (i == n) (λ e. let f : i ≡ n = d.0 e in omega (arith, l, f))) (not_among_them i (suc n) count (omega (arith, l)))

pub among_first : (i count : ℕ) → nat_lt i count ≡ among i (numbers_from 0 count)
among_first i count = elim (nat_lt i count) as (λ t. nat_lt i count ≡ t → t ≡ among i (numbers_from 0 count)) [
  | true ↦ λ e. let l : i < count = (Decides-ltb i count).0 e in sym (among_them i 0 count (omega arith) (omega (arith, l)))
  | false ↦ λ e.
      let d = Decides-ltb i count in
      let other : i < count → ⊥ = λ f. true≢false (sym (d.1 f) ∙ e) in
      sym (not_among_them i 0 count (omega (arith, other)))
] refl

pub below_not : (i count : ℕ) → count ≤ i → nat_lt i count ≡ false
below_not i count l = not_true (nat_lt i count) (λ e. let f : i < count = (Decides-ltb i count).0 e in omega (arith, l, f))

-- which numbers are those of flags that are set
other_number : (i n : ℕ) → (i ≡ n → ⊥) → (i == n) ≡ false
other_number i n h = not_true (i == n) (λ e. h ((Decides-eqb i n).0 e))

not_first : (a b c : Bool) → a ≡ false → b ≡ c → (a || b) ≡ c
not_first true b c e f = absurd (true≢false e)
not_first false b c e f = f

not_before : (flags : List Bool) (i n : ℕ) → i < n → among i (flagged_from n flags) ≡ false
not_before [] i n l = refl
not_before (true ∷ bs) i n l = not_first (i == n) (among i (flagged_from (suc n) bs)) false (other_number i n (λ e. omega (arith, l, e))) (not_before bs i (suc n) (omega (arith, l)))
not_before (false ∷ bs) i n l = not_before bs i (suc n) (omega (arith, l))

flag_from : (flags : List Bool) (i k n : ℕ) (b : Bool) → i ≡ n + k → slice_get flags k ≡ Some b → among i (flagged_from n flags) ≡ b
flag_from [] i k n b e f = absurd (none-some b f)
flag_from (true ∷ bs) i zero n b e f = or_true (i == n) (among i (flagged_from (suc n) bs)) ((Decides-eqb i n).1 (omega (arith, e))) ∙ same_Some true b f
flag_from (false ∷ bs) i zero n b e f = not_before bs i (suc n) (omega (arith, e)) ∙ same_Some false b f
flag_from (true ∷ bs) i (suc k) n b e f = not_first (i == n) (among i (flagged_from (suc n) bs)) b (other_number i n (λ g. omega (arith, e, g))) (flag_from bs i k (suc n) b (omega (arith, e)) f)
flag_from (false ∷ bs) i (suc k) n b e f = flag_from bs i k (suc n) b (omega (arith, e)) f

no_flag_from : (flags : List Bool) (i n : ℕ) → n + length flags ≤ i → among i (flagged_from n flags) ≡ false
no_flag_from [] i n l = refl
no_flag_from (true ∷ bs) i n l = not_first (i == n) (among i (flagged_from (suc n) bs)) false (other_number i n (λ e. omega (arith, l, e))) (no_flag_from bs i (suc n) (omega (arith, l)))
no_flag_from (false ∷ bs) i n l = no_flag_from bs i (suc n) (omega (arith, l))

pub flag_set : (flags : List Bool) (i : ℕ) (b : Bool) → slice_get flags i ≡ Some b → among i (flagged_from 0 flags) ≡ b
flag_set flags i b e = flag_from flags i i 0 b (omega arith) e

pub flag_past : (flags : List Bool) (i : ℕ) → length flags ≤ i → among i (flagged_from 0 flags) ≡ false
flag_past flags i l = no_flag_from flags i 0 (omega (arith, l))

none_past : (flags : List Bool) (i : ℕ) → length flags ≤ i → get_or flags i false ≡ false
none_past [] i l = refl
none_past (b ∷ bs) zero l = absurd (omega (arith, l))
none_past (b ∷ bs) (suc i) l = none_past bs i (omega (arith, l))

pub flags_say_references : FlagsSayReferences
flags_say_references flags i = ⊎_elim
    (λ (l : i < length flags). flag_set flags i (get_or flags i false) (slice_get-get_or flags i false l))
    (λ (l : length flags ≤ i). flag_past flags i l ∙ sym (none_past flags i l))
    (cases_lt i (length flags))
