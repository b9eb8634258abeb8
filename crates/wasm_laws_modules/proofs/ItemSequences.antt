-- Items that are added one after another, where what is asked of each may depend on those before it and on how many there are.
use Rattle.std.proofs.Common.{◌≡◌, refl, sym, ap, subst, ℕ, zero, suc, ◌+◌, ◌≤◌, Bool, true, false, ◌&&◌, cond, leb, List, [], ◌∷◌, ◌++◌, length, slice_get, Option, Some, None, arith, append_assoc, append-nil, length-append}
use Rattle.std.specs.Prelude.{⊤}
use Rattle.std.specs.Bool.{Decides}
use Rattle.std.specs.List.{All}
use Rattle.std.proofs.lemmas.Bool.{leb-true, le-leb}
use Rattle.std.proofs.lemmas.List.Elements.{All-nil, All-cons, All-head, All-tail}
use Rattle.wasm_spec_rules.specs.Sections.{each}
use Rattle.wasm_spec_rules.proofs.Verdicts.{Verdict, then_verdict, if_verdict, verdict_to, always}
use Rattle.wasm_laws_core.proofs.Steps.{passed}

-- a test behind another, which decides its rule where the other holds
pub decides_then : {P Q : Type 0} (a b : Bool) → Decides a P → (P → Decides b Q) → Decides (a && b) (P × Q)
decides_then true b d e = let p = d.0 refl in (λ h. (p, (e p).0 h), λ h. (e p).1 h.1)
decides_then false b d e = (λ h. absurd (let z : false ≡ true = h in cc), λ h. d.1 h.0)

-- each of two things of all
pub All-both : {X : Type 0} (P Q : X → Type 0) (xs : List X) → All P xs → All Q xs → All (λ x. P x × Q x) xs
All-both P Q [] a b = All-nil (λ x. P x × Q x)
All-both P Q (x ∷ xs) a b =
    All-cons (λ y. P y × Q y) x xs (All-head P x xs a, All-head Q x xs b) (All-both P Q xs (All-tail P x xs a) (All-tail Q x xs b))

-- what each item is asked, behind those before it
module _ {W : Type 0} (R : List W → W → Type 0) where
  abbrev pub AllBehind : List W → List W → Type 0
  AllBehind acc [] = ⊤
  AllBehind acc (x ∷ xs) = R acc x × AllBehind (acc ++ x ∷ []) xs

-- One step after another, where what is known of the items so far and of those to come is kept.
module _ {S W : Type 0} (R : List W → W → Type 0) (Known : List W → List W → Type 0) (add : S → W → Option S) (at : List W → S) where
  abbrev pub IsStepBehind : Type 0
  IsStepBehind = (acc : List W) (x : W) (xs : List W) → Known acc (x ∷ xs) → Verdict (R acc x) (add (at acc) x) (at (acc ++ x ∷ []))

  abbrev pub KeepsKnown : Type 0
  KeepsKnown = (acc : List W) (x : W) (xs : List W) → Known acc (x ∷ xs) → R acc x → Known (acc ++ x ∷ []) xs

  pub each_verdict : IsStepBehind → KeepsKnown → (xs acc : List W) → Known acc xs → Verdict (AllBehind R acc xs) (each add (at acc) xs) (at (acc ++ xs))
  each_verdict step keep [] acc k = verdict_to (Some (at acc)) (at acc) (at (acc ++ [])) (ap at (sym (append-nil acc))) (always (at acc) tt)
  each_verdict step keep (x ∷ xs) acc k =
      let next = acc ++ x ∷ [] in
      verdict_to
      (each add (at acc) (x ∷ xs))
      (at (next ++ xs))
      (at (acc ++ x ∷ xs))
      (ap at (append_assoc acc (x ∷ []) xs))
      (then_verdict (add (at acc) x) (at next) (λ t. each add t xs) (at (next ++ xs)) (step acc x xs k) (λ (r : R acc x). each_verdict step keep xs next (keep acc x xs k r)))

-- what holds of each item at its index, from this one on
module _ {W : Type 0} (Q : ℕ → W → Type 0) where
  abbrev pub AllFrom : ℕ → List W → Type 0
  AllFrom k [] = ⊤
  AllFrom k (x ∷ xs) = Q k x × AllFrom (k + 1) xs

  pub at_index : (k : ℕ) (xs : List W) → AllFrom k xs → (i : ℕ) (x : W) → slice_get xs i ≡ Some x → Q (k + i) x
  at_index k [] a i x e = absurd (let z : None ≡ Some x = e in cc)
  at_index k (y ∷ ys) a zero x e = let same : y ≡ x = (let z : Some y ≡ Some x = e in cc) in subst (λ (j : ℕ). Q j x) (omega arith) (subst (λ (w : W). Q k w) same a.0)
  at_index k (y ∷ ys) a (suc i) x e = subst (λ (j : ℕ). Q j x) (omega arith) (at_index (k + 1) ys a.1 i x e)

  pub from_index : (k : ℕ) (xs : List W) → ((i : ℕ) (x : W) → slice_get xs i ≡ Some x → Q (k + i) x) → AllFrom k xs
  from_index k [] f = tt
  from_index k (y ∷ ys) f =
      (subst (λ (j : ℕ). Q j y) (omega arith) (f 0 y refl), from_index (k + 1) ys (λ i x e. subst (λ (j : ℕ). Q j x) (omega arith) (f (suc i) x e)))

-- the same where the index doesn't matter
pub all_from : {W : Type 0} (Q : W → Type 0) (k : ℕ) (xs : List W) → All Q xs → AllFrom (λ _. Q) k xs
all_from Q k [] a = tt
all_from Q k (x ∷ xs) a = (All-head Q x xs a, all_from Q (k + 1) xs (All-tail Q x xs a))

pub from_all : {W : Type 0} (Q : W → Type 0) (k : ℕ) (xs : List W) → AllFrom (λ _. Q) k xs → All Q xs
from_all Q k [] a = All-nil Q
from_all Q k (x ∷ xs) a = All-cons Q x xs a.0 (from_all Q (k + 1) xs a.1)

-- a rule, what is asked at the item's index, and a limit, where so many items are there before the first
module _ {W : Type 0} (P : W → Type 0) (Q : ℕ → W → Type 0) (n most : ℕ) where
  abbrev pub IsWithin : List W → W → Type 0
  IsWithin acc x = (P x × Q (n + length acc) x) × (n + length acc + 1 ≤ most)

  abbrev pub AreWithin : List W → List W → Type 0
  AreWithin acc xs = (All P xs × AllFrom Q (n + length acc) xs) × (n + length acc + length xs ≤ most)

  one_longer : (acc : List W) (x : W) → n + length (acc ++ x ∷ []) ≡ n + length acc + 1
  one_longer acc x = let one : length (acc ++ x ∷ []) ≡ length acc + 1 = length-append acc (x ∷ []) in omega (arith, one)

  pub are_within : (acc xs : List W) → n + length acc ≤ most → AllBehind IsWithin acc xs → AreWithin acc xs
  are_within acc [] few a = ((All-nil P, tt), omega (arith, few))
  are_within acc (x ∷ xs) few a =
      let longer = one_longer acc x in
      let room = a.0.1 in
      let rest = are_within (acc ++ x ∷ []) xs (omega (arith, longer, room)) a.1 in
      let all = rest.1 in
      ((All-cons P x xs a.0.0.0 rest.0.0, (a.0.0.1, subst (λ (k : ℕ). AllFrom Q k xs) longer rest.0.1)), omega (arith, all, longer))

  pub all_behind : (acc xs : List W) → AreWithin acc xs → AllBehind IsWithin acc xs
  all_behind acc [] a = tt
  all_behind acc (x ∷ xs) a =
      let longer = one_longer acc x in
      let all = a.1 in (
        (((All-head P x xs a.0.0, a.0.1.0), omega (arith, all))),
        all_behind (acc ++ x ∷ []) xs ((All-tail P x xs a.0.0, subst (λ (k : ℕ). AllFrom Q k xs) (sym longer) a.0.1.1), omega (arith, all, longer)),
      )

-- a rule alone
module _ {W : Type 0} (P : W → Type 0) where
  abbrev pub IsRight : List W → W → Type 0
  IsRight acc x = P x

  pub are_right : (acc xs : List W) → AllBehind IsRight acc xs → All P xs
  are_right acc [] a = All-nil P
  are_right acc (x ∷ xs) a = All-cons P x xs a.0 (are_right (acc ++ x ∷ []) xs a.1)

  pub right_behind : (acc xs : List W) → All P xs → AllBehind IsRight acc xs
  right_behind acc [] a = tt
  right_behind acc (x ∷ xs) a = (All-head P x xs a, right_behind (acc ++ x ∷ []) xs (All-tail P x xs a))

-- a test and a limit before an item is put at the end
pub limited_verdict : {S P : Type 0} (test : Bool) (count most : ℕ) (next : S) → Decides test P → Verdict (P × (count ≤ most)) (cond test (cond (leb count most) (Some next) None) None) next
limited_verdict test count most next d = if_verdict test (cond (leb count most) (Some next) None) next d (λ p. passed (leb count most) next (leb-true count most, le-leb count most))

-- and a test alone
pub tested_verdict : {S P : Type 0} (test : Bool) (next : S) → Decides test P → Verdict P (cond test (Some next) None) next
tested_verdict test next d = passed test next d
