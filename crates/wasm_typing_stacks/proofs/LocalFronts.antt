-- Locals in front and in runs.
use Rattle.std.proofs.Common.{◌≡◌, ℕ, ◌+◌, ◌-◌, ◌<◌, ◌≤◌, List, [], ◌∷◌, ◌++◌, length, take, map, get_or, refl, sym, ◌∙◌, ap, arith, length-append, append_assoc}
use Rattle.std.specs.Prelude.{zero, suc, replicate, slice_get, Option, Some, Result, Ok, Err, OnOk}
use Rattle.std.specs.Option.{option_map}
use Rattle.std.proofs.lemmas.List.{append-nil, length-map, map-append, replicate-append-replicate}
use Rattle.wasm_operators_plain.specs.WasmReadersTypes.WasmReadersValues.declared.indices.UnpackedIndex.{UnpackedIndex}
use Rattle.wasm_spec_steps.specs.Bodies.{Local}
use Rattle.wasm_typing_stacks.specs.Locals.{local_of}
use Rattle.wasm_typing_stacks.specs.declared.local_word.LocalWord.{LocalWord}

pub counted_both : (xs : List LocalWord) (ys : List (Local UnpackedIndex)) → length (map local_of xs ++ ys) ≡ length xs + length ys
counted_both xs ys = length-append (map local_of xs) ys ∙ ap (λ n. n + length ys) (length-map xs local_of)

pub ruleset counts = (counted_both)

pub in_front : (xs : List LocalWord) (ys : List (Local UnpackedIndex)) (n : ℕ) (d : LocalWord) → n < length xs → Some (local_of (get_or xs n d)) ≡ slice_get (map local_of xs ++ ys) n
in_front [] ys n d h = absurd (omega arith)
in_front (x ∷ xs) ys zero d h = refl
in_front (x ∷ xs) ys (suc n) d h = in_front xs ys n d (omega arith)

pub in_runs : (xs : List LocalWord) (ys : List (Local UnpackedIndex)) (n : ℕ) (o : Option LocalWord) → length xs ≤ n → option_map local_of o ≡ slice_get ys (n - length xs) → option_map local_of o ≡ slice_get (map local_of xs ++ ys) n
in_runs [] ys n o h e = let q : n - 0 ≡ n = omega arith in e ∙ ap (slice_get ys) q
in_runs (x ∷ xs) ys zero o h e = absurd (omega arith)
in_runs (x ∷ xs) ys (suc n) o h e =
    let q : suc n - suc (length xs) ≡ n - length xs = omega arith in
    in_runs xs ys n o (omega arith) (e ∙ ap (slice_get ys) q)

pub ruleset reads = (in_front, in_runs)

map_copies : (n : ℕ) (x : LocalWord) → map local_of (replicate n x) ≡ replicate n (local_of x)
map_copies zero x = refl
map_copies (suc n) x = ap (λ ys. local_of x ∷ ys) (map_copies n x)

whole : {X : Type 0} (n : ℕ) (xs : List X) → length xs ≤ n → take n xs ≡ xs
whole zero [] h = refl
whole (suc n) [] h = refl
whole zero (x ∷ xs) h = absurd (omega arith)
whole (suc n) (x ∷ xs) h = ap (λ ys. x ∷ ys) (whole n xs (omega arith))

-- some more in front, and the rest in runs
both_more : (xs : List LocalWord) (ys : List (Local UnpackedIndex)) (k j : ℕ) (x : LocalWord) → (0 < length ys → k ≡ 0)
    → map local_of (xs ++ replicate k x) ++ (ys ++ replicate j (local_of x)) ≡ map local_of xs ++ ys ++ replicate (k + j) (local_of x)
both_more xs [] k j x h =
    ap (λ zs. zs ++ replicate j (local_of x)) (map-append local_of xs (replicate k x) ∙ ap (λ zs. map local_of xs ++ zs) (map_copies k x))
    ∙ append_assoc (map local_of xs) (replicate k (local_of x)) (replicate j (local_of x))
    ∙ ap (λ zs. map local_of xs ++ zs) (replicate-append-replicate k j (local_of x))
    ∙ ap (λ zs. zs ++ replicate (k + j) (local_of x)) (sym (append-nil (map local_of xs)))
both_more xs (y ∷ ys) k j x h =
    let n : 0 < length (y ∷ ys) = omega arith in
    let e : k ≡ 0 = h n in
    let q : 0 + j ≡ j = omega arith in
    rw (e, q, append-nil xs) (sym (append_assoc (map local_of xs) (y ∷ ys) (replicate j (local_of x))))

-- none in runs
pub none_behind : (ys : List (Local UnpackedIndex)) (j : ℕ) (x : Local UnpackedIndex) → j ≡ 0 → ys ≡ ys ++ replicate j x
none_behind ys j x e = rw e (sym (append-nil ys))

pub defined : (xs zs : List LocalWord) (ys ws : List (Local UnpackedIndex)) (n m wanted count : ℕ) (x : LocalWord) → n ≡ m → m ≡ length xs → n ≤ wanted → wanted ≤ n + count → (0 < length ys → wanted ≡ n)
    → zs ≡ take wanted xs ++ replicate (wanted - m) x → ws ≡ ys ++ replicate (count - (wanted - n)) (local_of x)
    → map local_of zs ++ ws ≡ map local_of xs ++ ys ++ replicate count (local_of x)
defined xs zs ys ws n m wanted count x d e l u h p q =
    let t = whole wanted xs (omega arith) in
    let c : wanted - n + (count - (wanted - n)) ≡ count = omega arith in
    let a : 0 < length ys → wanted - n ≡ 0 = λ w. let v = h w in omega arith in
    rw (p, q, t, ← d) (both_more xs ys (wanted - n) (count - (wanted - n)) x a ∙ ap (λ k. map local_of xs ++ ys ++ replicate k (local_of x)) c)

pub on_ok : {X E P Q : Type 0} (r : Result X E) → (P → Q) → OnOk r P → OnOk r Q
on_ok (Ok x) f p = f p
on_ok (Err e) f p = tt
