-- Flags that stand for a list of distinct numbers.
use Rattle.std.proofs.Common.{◌≡◌, ◌≢◌, ℕ, ◌+◌, ◌<◌, ◌≤◌, Bool, true, false, ◌==◌, ◌⊎◌, inl, inr, List, [], ◌∷◌, length, drop, get_or, refl, sym, ◌∙◌, arith, add-one}
use Rattle.std.specs.Prelude.{zero, suc, slice_get, Some, None}
use Rattle.std.proofs.Math.ListN.{set}
use Rattle.std.proofs.lemmas.Bool.Decides.{nat_tests}
use Rattle.std.proofs.lemmas.Option.{slice_get-get_or}
use Rattle.std.proofs.lemmas.List.{get_or-set_same, get_or-set_other, get_or_past}
use Rattle.wasm_spec_steps.specs.WasmSpecRules.Attempts.{among}
use Rattle.wasm_typing_stacks.specs.FlagSets.{is_marked, Stands, SameMarks}

-- two numbers are the same or not
apart : (m n : ℕ) → ((m == n) ≡ true) ⊎ ((m == n) ≡ false)
apart m n = elim (m == n) as (λ b. (b ≡ true) ⊎ (b ≡ false)) [ true ↦ inl refl | false ↦ inr refl ]

same : (m n : ℕ) → (m == n) ≡ true → m ≡ n
same m n e = grind (arith, nat_tests)

differ : (m n : ℕ) → (m == n) ≡ false → m ≢ n
differ m n e = grind (arith, nat_tests)

-- a flag that is turned off or on, and the others
off_here : (fs : List Bool) (n : ℕ) → is_marked (set fs n false) n ≡ false
off_here [] zero = refl
off_here [] (suc n) = refl
off_here (f ∷ fs) zero = refl
off_here (f ∷ fs) (suc n) = off_here fs n

-- the flags of a list are those of the numbers
among_is_marked : (fs : List Bool) (ns : List ℕ) (k : ℕ) → Stands fs ns → is_marked fs k ≡ among k ns
among_is_marked fs [] k s = s k
among_is_marked fs (n ∷ ns) k s =
    elim (apart k n) [
      | inl e ↦ let h = same k n e in rw (e, h) s.0
      | inr e ↦ rw e (sym (get_or-set_other fs n k false false (differ k n e)) ∙ among_is_marked (set fs n false) ns k s.1)
    ]

-- the same flags stand for the same numbers
same_off : (fs gs : List Bool) (n : ℕ) → SameMarks fs gs → SameMarks (set fs n false) (set gs n false)
same_off fs gs n h k =
    elim (apart k n) [
      | inl e ↦ let q = same k n e in rw q (off_here gs n ∙ sym (off_here fs n))
      | inr e ↦ get_or-set_other gs n k false false (differ k n e) ∙ h k ∙ sym (get_or-set_other fs n k false false (differ k n e))
    ]

pub stands_alike : (fs gs : List Bool) (ns : List ℕ) → SameMarks fs gs → Stands fs ns → Stands gs ns
stands_alike fs gs [] h s = λ n. h n ∙ s n
stands_alike fs gs (n ∷ ns) h s = (h n ∙ s.0, stands_alike (set fs n false) (set gs n false) ns (same_off fs gs n h) s.1)

-- a number more
off_again : (fs : List Bool) (n : ℕ) → is_marked fs n ≡ false → SameMarks fs (set (set fs n true) n false)
off_again fs n e k =
    elim (apart k n) [
      | inl q ↦ let h = same k n q in rw h (off_here (set fs n true) n ∙ sym e)
      | inr q ↦ get_or-set_other (set fs n true) n k false false (differ k n q) ∙ get_or-set_other fs n k true false (differ k n q)
    ]

pub one_marked : (fs gs : List Bool) (ns : List ℕ) (n : ℕ) → SameMarks fs gs → Stands fs ns → among n ns ≡ false → n < length gs → Stands (set gs n true) (n ∷ ns)
one_marked fs gs ns n h s e l =
    let t = stands_alike fs gs ns h s in
    let off : is_marked gs n ≡ false = among_is_marked gs ns n t ∙ e in
    (get_or-set_same gs n true false l, stands_alike gs (set (set gs n true) n false) ns (off_again gs n off) t)

nothing : (n : ℕ) → is_marked [] n ≡ false
nothing zero = refl
nothing (suc n) = refl

pub none_stand : (fs : List Bool) (ns : List ℕ) → fs ≡ [] → ns ≡ [] → Stands fs ns
none_stand [] [] e h = nothing
none_stand (f ∷ fs) ns e h = cc
none_stand [] (n ∷ ns) e h = cc

pub ruleset starts = (none_stand)

pub read_within : (fs : List Bool) (ns : List ℕ) (k : ℕ) (b : Bool) → Stands fs ns → b ≡ get_or fs k b → k < length fs → b ≡ among k ns
read_within fs ns k b s e l =
    let p = slice_get-get_or fs k b l in
    let q = slice_get-get_or fs k false l in
    let h : is_marked fs k ≡ b = cc in
    sym h ∙ among_is_marked fs ns k s

pub read_past : (fs : List Bool) (ns : List ℕ) (k : ℕ) → Stands fs ns → length fs ≤ k → false ≡ among k ns
read_past fs ns k s l = sym (get_or_past fs k false l) ∙ among_is_marked fs ns k s

pub ruleset reads = (read_within, read_past)

pub ruleset marks = (one_marked, stands_alike)

pub ruleset reaches = (get_or_past)

-- the latest is forgotten
pub forgotten : (fs : List Bool) (ns : List ℕ) (n : ℕ) → slice_get ns 0 ≡ Some n → Stands fs ns → Stands (set fs n false) (drop 1 ns)
forgotten fs [] n e s = cc
forgotten fs (m ∷ ns) n e s = let q : m ≡ n = cc in rw (← q) s.1

-- what is among the numbers has a flag
pub has_flag : (fs : List Bool) (ns : List ℕ) (n : ℕ) → slice_get ns 0 ≡ Some n → Stands fs ns → length fs ≤ n → ⊥
has_flag fs [] n e s l = cc
has_flag fs (m ∷ ns) n e s l = let q : m ≡ n = cc in let h : is_marked fs n ≡ true = rw (← q) s.0 in let g = get_or_past fs n false l in cc

pub none_forgotten : (fs : List Bool) (ns : List ℕ) → slice_get ns 0 ≡ None → Stands fs ns → Stands fs (drop 1 ns)
none_forgotten fs [] e s = s
none_forgotten fs (n ∷ ns) e s = cc

pub nothing_dropped : {X : Type 0} (xs : List X) → slice_get xs 0 ≡ None → drop 1 xs ≡ xs
nothing_dropped [] e = refl
nothing_dropped (x ∷ xs) e = cc

pub ruleset undos = (forgotten, has_flag, none_forgotten, nothing_dropped)

one_dropped_suc : {X : Type 0} (xs : List X) (i : ℕ) → drop 1 (drop i xs) ≡ drop (suc i) xs
one_dropped_suc [] zero = refl
one_dropped_suc [] (suc i) = refl
one_dropped_suc (x ∷ xs) zero = refl
one_dropped_suc (x ∷ xs) (suc i) = one_dropped_suc xs i

pub one_dropped : {X : Type 0} (xs : List X) (i : ℕ) → drop 1 (drop i xs) ≡ drop (i + 1) xs
one_dropped xs i = rw add-one (one_dropped_suc xs i)
