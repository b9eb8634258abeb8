-- Lists of operands that are given.
use Rattle.std.proofs.Common.{◌≡◌, ℕ, ◌-◌, ◌+◌, ◌<◌, ◌≤◌, List, [], ◌∷◌, ◌++◌, length, take, drop, map, get_or, refl, sym, ◌∙◌, ap, arith, add-one}
use Rattle.std.specs.Prelude.{zero, suc}
use Rattle.std.proofs.lemmas.List.{drop-map, length-map, map-append, take-map}
use Rattle.wasm_operators_plain.specs.WasmSpec.Syntax.{Val}
use Rattle.wasm_operators_plain.specs.WasmReadersTypes.WasmReadersValues.SeenValues.{val_of}
use Rattle.wasm_operators_plain.specs.WasmReadersTypes.WasmReadersValues.declared.indices.UnpackedIndex.{UnpackedIndex}
use Rattle.wasm_operators_plain.specs.WasmReadersTypes.WasmReadersValues.declared.values.ValType.{ValType}
use Rattle.wasm_spec_steps.specs.Machine.{Operand, known, pushed_onto}
use Rattle.wasm_typing_stacks.specs.SeenOperands.{operand_of}
use Rattle.wasm_typing_stacks.specs.declared.word.Word.{Word}

-- one type more at the end
pushed_one_more : (vs : List ValType) (n : ℕ) (v : ValType) (xs : List (Operand UnpackedIndex)) → n < length vs → pushed_onto (map val_of (take (suc n) vs)) xs ≡ known (val_of (get_or vs n v)) ∷ pushed_onto (map val_of (take n vs)) xs
pushed_one_more [] n v xs h = absurd (omega arith)
pushed_one_more (w ∷ vs) zero v xs h = refl
pushed_one_more (w ∷ vs) (suc n) v xs h = pushed_one_more vs n v (known (val_of w) ∷ xs) (omega arith)

pub pushed_next : (vs : List ValType) (n : ℕ) (v : ValType) (w : Word) (xs ys zs : List Word) → n < length vs → operand_of w ≡ known (val_of (get_or vs n v)) → map operand_of ys ≡ pushed_onto (map val_of (take n vs)) (map operand_of xs) → zs ≡ w ∷ ys
    → map operand_of zs ≡ pushed_onto (map val_of (take (n + 1) vs)) (map operand_of xs)
pushed_next vs n v w xs ys zs h e f g = rw (g, e, f, add-one n, pushed_one_more vs n v (map operand_of xs) h) refl

-- what was given can be taken back
pub none_above : {X : Type 0} (xs : List X) → drop (length xs - length xs) xs ≡ xs
none_above xs = let e : length xs - length xs ≡ 0 = omega arith in rw e refl

pub one_above : {X : Type 0} (xs ys zs : List X) (x : X) → length ys ≤ length xs → drop (length xs - length ys) xs ≡ ys → zs ≡ x ∷ xs → drop (length zs - length ys) zs ≡ ys
one_above xs ys zs x h e f = let q : suc (length xs) - length ys ≡ suc (length xs - length ys) = omega arith in rw (f, q) e

pub exchanged : (ops : List Word) (k : ℕ) (w : Word) (zs : List Word) → zs ≡ w ∷ drop k ops → map operand_of zs ≡ operand_of w ∷ drop k (map operand_of ops)
exchanged ops k w zs e = rw e (ap (λ ys. operand_of w ∷ ys) (sym (drop-map operand_of k ops)))

pub ruleset pushes = (pushed_next, one_above, none_above)

pushed_in_front : (vs : List (Val UnpackedIndex)) (xs ys : List (Operand UnpackedIndex)) → pushed_onto vs (xs ++ ys) ≡ pushed_onto vs xs ++ ys
pushed_in_front [] xs ys = refl
pushed_in_front (v ∷ vs) xs ys = pushed_in_front vs (known v ∷ xs) ys

pub pushed_length : (vs : List (Val UnpackedIndex)) (xs : List (Operand UnpackedIndex)) → length (pushed_onto vs xs) ≡ length vs + length xs
pushed_length [] xs = omega arith
pushed_length (v ∷ vs) xs = let h = pushed_length vs (known v ∷ xs) in omega arith

front_taken : {X : Type 0} (xs ys : List X) (n : ℕ) → n ≡ length xs → take n (xs ++ ys) ≡ xs
front_taken [] [] n e = rw e refl
front_taken [] (y ∷ ys) n e = rw e refl
front_taken (x ∷ xs) ys n e = rw e (ap (λ zs. x ∷ zs) (front_taken xs ys (length xs) refl))

front_dropped : {X : Type 0} (xs ys : List X) (k : ℕ) → drop (length xs + k) (xs ++ ys) ≡ drop k ys
front_dropped [] ys k = let e : 0 + k ≡ k = omega arith in ap (λ n. drop n ys) e
front_dropped (x ∷ xs) ys k = let e : suc (length xs) + k ≡ suc (length xs + k) = omega arith in rw e (front_dropped xs ys k)

front_sunk : (fs ys : List (Operand UnpackedIndex)) (n k : ℕ) → n ≡ length fs → take n (fs ++ ys) ++ drop (n + k) (fs ++ ys) ≡ fs ++ drop k ys
front_sunk fs ys n k e = rw (e, front_taken fs ys (length fs) refl, front_dropped fs ys k) refl

pushed_sunk : (vs : List (Val UnpackedIndex)) (xs : List (Operand UnpackedIndex)) (n k : ℕ) → n ≡ length vs → take n (pushed_onto vs xs) ++ drop (n + k) (pushed_onto vs xs) ≡ pushed_onto vs (drop k xs)
pushed_sunk vs xs n k e =
    let l : n ≡ length (pushed_onto vs []) = let h = pushed_length vs [] in omega arith in
    rw (pushed_in_front vs [] xs, pushed_in_front vs [] (drop k xs)) (front_sunk (pushed_onto vs []) xs n k l)

-- operands given in the place of others below them
pub sunk : (vs : List ValType) (ops ws zs : List Word) (n k : ℕ) → n ≡ length vs → map operand_of ws ≡ pushed_onto (map val_of vs) (map operand_of ops) → zs ≡ take n ws ++ drop (n + k) ws
    → map operand_of zs ≡ pushed_onto (map val_of vs) (drop k (map operand_of ops))
sunk vs ops ws zs n k e f g =
    rw (g, map-append operand_of (take n ws) (drop (n + k) ws), ← take-map operand_of n ws, ← drop-map operand_of (n + k) ws, f) (pushed_sunk (map val_of vs) (map operand_of ops) n k (e ∙ sym (length-map vs val_of)))

pub sunk_within : (vs : List ValType) (ops ws : List Word) (n k : ℕ) → n ≡ length vs → map operand_of ws ≡ pushed_onto (map val_of vs) (map operand_of ops) → k ≤ length ops → n + k ≤ length ws
sunk_within vs ops ws n k e f h =
    let p = ap length f in
    let q = pushed_length (map val_of vs) (map operand_of ops) in
    let r = length-map ws operand_of in
    let t = length-map ops operand_of in
    let u = length-map vs val_of in
    omega arith

-- where none are below nothing sinks
none_dropped : {X : Type 0} (xs : List X) → drop 0 xs ≡ xs
none_dropped [] = refl
none_dropped (x ∷ xs) = refl

pub unsunk : (vs : List ValType) (ops zs : List Word) (k : ℕ) → k ≡ 0 → map operand_of zs ≡ pushed_onto (map val_of vs) (map operand_of ops) → map operand_of zs ≡ pushed_onto (map val_of vs) (drop k (map operand_of ops))
unsunk vs ops zs k e f = f ∙ ap (pushed_onto (map val_of vs)) (sym (none_dropped (map operand_of ops))) ∙ ap (λ n. pushed_onto (map val_of vs) (drop n (map operand_of ops))) (sym e)

pub ruleset sinks = (sunk, sunk_within, unsunk, length-map)
