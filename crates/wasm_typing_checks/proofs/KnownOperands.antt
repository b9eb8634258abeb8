-- Operands that are known to be of given types.
use Rattle.std.proofs.Common.{◌≡◌, ℕ, ◌+◌, ◌-◌, ◌≤◌, List, [], ◌∷◌, ◌++◌, length, refl, take, drop, map, sym, ◌∙◌, ap, arith}
use Rattle.std.specs.Prelude.{reverse}
use Rattle.std.proofs.lemmas.List.{drop-drop, drop-map, length-drop, length-reverse, reverse-reverse, take-append-drop, take-map}
use Rattle.wasm_validator_resources.specs.WasmSpec.Syntax.{Val}
use Rattle.wasm_validator_resources.specs.WasmReadersTypes.WasmReadersValues.SeenValues.{val_of}
use Rattle.wasm_validator_resources.specs.WasmReadersTypes.WasmReadersValues.declared.indices.UnpackedIndex.{UnpackedIndex}
use Rattle.wasm_validator_resources.specs.WasmReadersTypes.WasmReadersValues.declared.values.ValType.{ValType}
use Rattle.wasm_typing_stacks.specs.WasmSpecSteps.Machine.{State, known, push_vals, pushed_onto}
use Rattle.wasm_typing_stacks.specs.BodyStacks.{below}
use Rattle.wasm_typing_stacks.specs.SeenOperands.{operand_of}
use Rattle.wasm_typing_stacks.specs.declared.word.Word.{Word}
use Rattle.wasm_typing_stacks.proofs.PushedLists.{map_reverse, pushed_reverse}
use Rattle.wasm_typing_stacks.proofs.ReversedLists.{length_taken}

pushed_again : (ops ws : List Word) (vs : List (Val UnpackedIndex)) (k n : ℕ) → ws ≡ reverse (take n (drop k ops)) → map operand_of ws ≡ map known vs → pushed_onto vs (drop (k + n) (map operand_of ops)) ≡ drop k (map operand_of ops)
pushed_again ops ws vs k n e f =
    let a : take n (drop k ops) ≡ reverse ws = sym (ap reverse e ∙ reverse-reverse (take n (drop k ops))) in
    let b : take n (drop k (map operand_of ops)) ≡ map operand_of (take n (drop k ops)) = ap (take n) (drop-map operand_of k ops) ∙ take-map operand_of n (drop k ops) in
    let c : take n (drop k (map operand_of ops)) ≡ reverse (map known vs) = b ∙ ap (map operand_of) a ∙ map_reverse operand_of ws ∙ ap reverse f in
    let d : drop (k + n) (map operand_of ops) ≡ drop n (drop k (map operand_of ops)) = sym (drop-drop n k (map operand_of ops)) in
    pushed_reverse vs (drop (k + n) (map operand_of ops)) ∙ ap (λ zs. zs ++ drop (k + n) (map operand_of ops)) (sym c) ∙ ap (λ zs. take n (drop k (map operand_of ops)) ++ zs) d ∙ take-append-drop n (drop k (map operand_of ops))

-- operands that are known are pushed where they stand
pub stand : (s : State UnpackedIndex) (ops ws : List Word) (vs : List ValType) (k n m : ℕ) → s.operands ≡ map operand_of ops → m ≡ n → ws ≡ reverse (take m (drop k ops)) → map operand_of ws ≡ map known (map val_of vs)
    → push_vals (map val_of vs) (below (k + n) s) ≡ below k s
stand s ops ws vs k n m o q e f =
    let h : ws ≡ reverse (take n (drop k ops)) = e ∙ ap (λ j. reverse (take j (drop k ops))) q in
    let a : pushed_onto (map val_of vs) (drop (k + n) s.operands) ≡ drop k s.operands = ap (λ os. pushed_onto (map val_of vs) (drop (k + n) os)) o ∙ pushed_again ops ws (map val_of vs) k n h f ∙ ap (drop k) (sym o) in
    ap (λ os. record s { operands = os }) a

pub counted : (ops ws : List Word) (k n m : ℕ) → m ≡ n → ws ≡ reverse (take m (drop k ops)) → k + n ≤ length ops → length ws ≡ n
counted ops ws k n m q e h =
    let d : n ≤ length (drop k ops) = rw (length-drop k ops) (omega arith) in
    ap length e ∙ length-reverse (take m (drop k ops)) ∙ ap (λ j. length (take j (drop k ops))) q ∙ length_taken n (drop k ops) d

pub ruleset knows = (stand, counted)

none_dropped : {X : Type 0} (xs : List X) → drop 0 xs ≡ xs
none_dropped [] = refl
none_dropped (x ∷ xs) = refl

-- those with them that stood above the top
pub lifted_known : (ops old ws : List Word) (vs : List ValType) (k t n m : ℕ) → k ≡ n - t → t ≤ n → m ≡ n → drop k ops ≡ old → ws ≡ reverse (take m (drop 0 ops)) → map operand_of ws ≡ map known (map val_of vs)
    → map operand_of ops ≡ pushed_onto (map val_of vs) (drop t (map operand_of old))
lifted_known ops old ws vs k t n m h l q d e f =
    let p : k + t ≡ 0 + m = omega arith in
    let c : drop t (map operand_of old) ≡ drop (0 + m) (map operand_of ops) = ap (λ zs. drop t (map operand_of zs)) (sym d) ∙ ap (drop t) (sym (drop-map operand_of k ops)) ∙ drop-drop t k (map operand_of ops) ∙ ap (λ j. drop j (map operand_of ops)) p in
    sym (ap (pushed_onto (map val_of vs)) c ∙ pushed_again ops ws (map val_of vs) 0 m e f ∙ none_dropped (map operand_of ops))

pub lowered : (ops old new : List Word) (k c : ℕ) → c ≡ length old → length ops ≡ k + length old → drop k ops ≡ old → new ≡ drop (length ops - c) ops → new ≡ old
lowered ops old new k c h l d e =
    let q : length ops - c ≡ k = omega arith in
    e ∙ ap (λ j. drop j ops) q ∙ d

pub ruleset lifts = (lifted_known, lowered, counted)

-- and so are exchanged for themselves
pub stays : (s new : State UnpackedIndex) (vs : List (Val UnpackedIndex)) (k n t : ℕ) → n ≤ t → k ≡ t - n → push_vals vs (below (k + n) s) ≡ below k s → new ≡ below k s → new ≡ push_vals vs (below t s)
stays s new vs k n t h e f g =
    let q : k + n ≡ t = omega arith in
    g ∙ sym f ∙ ap (λ j. push_vals vs (below j s)) q
