-- Items that are put at the end of one list of a state, one after another, while there are few enough.
use Rattle.std.proofs.Common.{◌≡◌, refl, sym, ap, ℕ, ◌+◌, ◌≤◌, Bool, cond, leb, List, [], ◌∷◌, ◌++◌, map, length, Option, Some, None, arith, append_assoc, append-nil, length-append}
use Rattle.std.specs.Prelude.{◌↔◌}
use Rattle.std.specs.Option.{option_and_then}
use Rattle.std.specs.Bool.{Decides}
use Rattle.std.specs.List.{All}
use Rattle.std.proofs.lemmas.List.Elements.{All-nil, All-cons, All-head, All-tail}
use Rattle.std.proofs.lemmas.Bool.{leb-true, le-leb}
use Rattle.wasm_spec_rules.specs.Sections.{each}
use Rattle.wasm_spec_rules.proofs.Verdicts.{Verdict, then_verdict, if_verdict, verdict_as, verdict_to, verdict_of, always}
use Rattle.wasm_laws_core.proofs.Steps.{passed, law_of_verdict}

-- what holds of everything holds of each
pub of_each : {X : Type 0} (P : X → Type 0) (xs : List X) → ((x : X) → P x) → All P xs
of_each P [] f = All-nil P
of_each P (x ∷ xs) f = All-cons P x xs (f x) (of_each P xs f)

-- one thing follows from another for each
pub for_each : {X : Type 0} (P Q : X → Type 0) (xs : List X) → ((x : X) → P x → Q x) → All P xs → All Q xs
for_each P Q [] f a = All-nil Q
for_each P Q (x ∷ xs) f a = All-cons Q x xs (f x (All-head P x xs a)) (for_each P Q xs f (All-tail P x xs a))

-- the test of a limit
limit_decided : (n most : ℕ) → Decides (leb n most) (n ≤ most)
limit_decided n most = (leb-true n most, le-leb n most)

-- items that are changed before they are added
pub each_changed : {S V W : Type 0} (add : S → V → Option S) (h : W → V) (s : S) (xs : List W) → each add s (map h xs) ≡ each (λ t x. add t (h x)) s xs
each_changed add h s [] = refl
each_changed {S} add h s (x ∷ xs) = λ i. option_and_then (λ (t : S). each_changed add h t xs i) (add s (h x))

-- a test and a limit before an item is put at the end
module _ {S W : Type 0} (P : W → Type 0) (add : S → W → Option S) (at : List W → S) (n most : ℕ) where
  -- what one step does to the state that shows some items
  abbrev pub IsStep : W → Type 0
  IsStep x = (acc : List W) → Verdict (P x × (n + length acc + 1 ≤ most)) (add (at acc) x) (at (acc ++ x ∷ []))

  pub step_of : (x : W) (test : Bool) → Decides test (P x)
      → ((acc : List W) → add (at acc) x ≡ cond test (cond (leb (n + length acc + 1) most) (Some (at (acc ++ x ∷ []))) None) None) → IsStep x
  step_of x test d e acc =
      let next = at (acc ++ x ∷ []) in
      verdict_of (add (at acc) x) _ next (e acc) (if_verdict test _ next d (λ p. passed (leb (n + length acc + 1) most) next (limit_decided (n + length acc + 1) most)))

  pub items_verdict : (xs : List W) → All IsStep xs → (acc : List W) → n + length acc ≤ most → Verdict (All P xs × (n + length acc + length xs ≤ most)) (each add (at acc) xs) (at (acc ++ xs))
  items_verdict [] a acc few = verdict_to (Some (at acc)) (at acc) (at (acc ++ [])) (ap at (sym (append-nil acc))) (always (at acc) (All-nil P, omega (arith, few)))
  items_verdict (x ∷ xs) a acc few =
      let next = acc ++ x ∷ [] in
      let one : length next ≡ length acc + 1 = length-append acc (x ∷ []) in
      verdict_to
      (each add (at acc) (x ∷ xs))
      (at (next ++ xs))
      (at (acc ++ x ∷ xs))
      (ap at (append_assoc acc (x ∷ []) xs))
      (verdict_as
      (each add (at acc) (x ∷ xs))
      (at (next ++ xs))
      (λ (h : (P x × (n + length acc + 1 ≤ most)) × (All P xs × (n + length next + length xs ≤ most))). let all = h.1.1 in (All-cons P x xs h.0.0 h.1.0, omega (arith, all, one)))
      (λ (h : All P (x ∷ xs) × (n + length acc + length (x ∷ xs) ≤ most)). let all = h.1 in ((All-head P x xs h.0, omega (arith, all)), (All-tail P x xs h.0, omega (arith, all, one))))
      (then_verdict (add (at acc) x) (at next) (λ t. each add t xs) (at (next ++ xs)) (All-head IsStep x xs a acc) (λ (h : P x × (n + length acc + 1 ≤ most)). let room = h.1 in items_verdict xs (All-tail IsStep x xs a) next (omega (arith, room, one)))))

  -- behind none of them: as many as there were before, and these
  pub list_law : (xs : List W) (count : ℕ) → count ≡ n + length xs → All IsStep xs → n ≤ most → (t : S) → (each add (at []) xs ≡ Some t) ↔ ((All P xs × (count ≤ most)) × (at xs ≡ t))
  list_law xs count e a few =
      law_of_verdict (each add (at []) xs) (at xs)
      (verdict_as
      (each add (at []) xs)
      (at xs)
      (λ (h : All P xs × (n + length {A = W} [] + length xs ≤ most)). let all = h.1 in (h.0, omega (arith, all, e)))
      (λ (h : All P xs × (count ≤ most)). let all = h.1 in (h.0, omega (arith, all, e)))
      (items_verdict xs a [] (omega (arith, few))))
