-- Items of a stack as a part of the list that it stands in.
use Rattle.std.proofs.Common.{◌≡◌, ℕ, ◌+◌, ◌-◌, ◌≤◌, List, length, take, drop, sym, ◌∙◌, ap, arith}
use Rattle.std.specs.Prelude.{reverse}
use Rattle.std.proofs.lemmas.List.{drop-take, reverse-reverse}
use Rattle.wasm_typing_stacks.proofs.ReversedLists.{count_is, fewer_taken, length_taken, reverse-drop}

-- so many of them below so many at the top, the lowest first
pub sliced : {X : Type 0} (xs ys : List X) (n taken count from to : ℕ) → n ≤ length xs → taken + count ≤ length (reverse (take n xs)) → to ≡ n - taken → from ≡ to - count → ys ≡ take (to - from) (drop from xs)
    → ys ≡ reverse (take count (drop taken (reverse (take n xs))))
sliced xs ys n taken count from to l h e f g =
    let c = count_is n xs l in
    let m : to ≤ n = omega arith in
    let d : length (reverse (take n xs)) - to ≡ taken = rw (sym c) (omega arith) in
    let a : drop taken (reverse (take n xs)) ≡ reverse (take to xs) = sym (fewer_taken xs to n l m ∙ ap (λ k. drop k (reverse (take n xs))) d) in
    let t : count ≡ length (take to xs) - from = rw (length_taken to xs (omega arith)) (omega arith) in
    let b : take count (reverse (take to xs)) ≡ reverse (drop from (take to xs)) = sym (reverse-drop from count (take to xs) t) in
    let q : to ≡ from + (to - from) = omega arith in
    let u : drop from (take to xs) ≡ ys = ap (λ k. drop from (take k xs)) q ∙ drop-take from (to - from) xs ∙ sym g in
    sym (ap (λ zs. reverse (take count zs)) a ∙ ap reverse b ∙ reverse-reverse (drop from (take to xs)) ∙ u)

pub within : {X : Type 0} (xs : List X) (n taken count : ℕ) → n ≤ length xs → taken + count ≤ length (reverse (take n xs)) → taken + count ≤ n
within xs n taken count l h = let c = count_is n xs l in omega arith

pub ruleset slices = (sliced, within, count_is)
