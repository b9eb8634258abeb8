-- Operands that are known to be of given types.
use Rattle.std.proofs.Common.{◌≡◌, ℕ, ◌+◌, ◌<◌, List, [], ◌∷◌, ◌++◌, length, take, map, get_or, refl, sym, ◌∙◌, ap, arith}
use Rattle.std.proofs.lemmas.List.{map-append, take_all, take_more}
use Rattle.wasm_validator_resources.specs.WasmSpec.Syntax.{i32, i64, f32, f64, v128}
use Rattle.wasm_validator_resources.specs.WasmReadersTypes.WasmReadersValues.SeenValues.{val_of}
use Rattle.wasm_validator_resources.specs.WasmReadersTypes.WasmReadersValues.declared.indices.UnpackedIndex.{UnpackedIndex}
use Rattle.wasm_validator_resources.specs.WasmReadersTypes.WasmReadersValues.declared.values.ValType.{ValType}
use Rattle.wasm_typing_stacks.specs.WasmSpecSteps.Machine.{Operand, known}
use Rattle.wasm_typing_stacks.specs.TypeWords.{val_at}
use Rattle.wasm_typing_stacks.specs.Words.{operand_at}
use Rattle.wasm_typing_stacks.specs.SeenOperands.{operand_of}
use Rattle.wasm_typing_checks.specs.KnownLists.{KnownTo}
use Rattle.wasm_typing_stacks.specs.declared.word.Word.{Word}

-- the words of types of numbers and vectors
pub i32_word : (w : Word) → w.bits ≡ 0 → operand_of w ≡ known i32
unfolding operand_at val_at
i32_word w e = rw e refl

pub i64_word : (w : Word) → w.bits ≡ 8 → operand_of w ≡ known i64
unfolding operand_at val_at
i64_word w e = rw e refl

pub f32_word : (w : Word) → w.bits ≡ 16 → operand_of w ≡ known f32
unfolding operand_at val_at
f32_word w e = rw e refl

pub f64_word : (w : Word) → w.bits ≡ 24 → operand_of w ≡ known f64
unfolding operand_at val_at
f64_word w e = rw e refl

pub v128_word : (w : Word) → w.bits ≡ 32 → operand_of w ≡ known v128
unfolding operand_at val_at
v128_word w e = rw e refl

pub no_word : (w : Word) (o : Operand UnpackedIndex) → w.bits ≡ 18446744073709551615 → operand_of w ≡ o
no_word w o e = let h : w.bits < 274877906944 = w.small in absurd (omega arith)

pub ruleset numbers = (i32_word, i64_word, f32_word, f64_word, v128_word, no_word)

-- one place more
pub next_place : (os : List Word) (vs : List ValType) (i : ℕ) (w : Word) (d : ValType) → i < length os → i < length vs → w ≡ get_or os i w → operand_of w ≡ known (val_of (get_or vs i d)) → KnownTo os vs i → KnownTo os vs (i + 1)
unfolding KnownTo
next_place os vs i w d h l e k so_far =
    let v : ValType = get_or vs i d in
    let a : take (i + 1) os ≡ take i os ++ w ∷ [] = take_more os i w h ∙ ap (λ o. take i os ++ o ∷ []) (sym e) in
    let b : take (i + 1) vs ≡ take i vs ++ v ∷ [] = take_more vs i d l in
    let c : map operand_of (take i os ++ w ∷ []) ≡ map operand_of (take i os) ++ operand_of w ∷ [] = map-append operand_of (take i os) (w ∷ []) in
    let f : map known (map val_of (take i vs ++ v ∷ [])) ≡ map known (map val_of (take i vs)) ++ known (val_of v) ∷ [] = ap (map known) (map-append val_of (take i vs) (v ∷ [])) ∙ map-append known (map val_of (take i vs)) (val_of v ∷ []) in
    ap (map operand_of) a ∙ c ∙ ap (λ zs. zs ++ operand_of w ∷ []) so_far ∙ ap (λ o. map known (map val_of (take i vs)) ++ o ∷ []) k ∙ sym f ∙ ap (λ us. map known (map val_of us)) (sym b)

pub ruleset places = (next_place)

-- the same place, counted in another way
pub same_place : (os : List Word) (vs : List ValType) (i j : ℕ) → i ≡ j → KnownTo os vs i → KnownTo os vs j
same_place os vs i j e k = rw (sym e) k

pub ruleset sums = (same_place)

-- none, and all
pub no_place : (os : List Word) (vs : List ValType) → KnownTo os vs 0
unfolding KnownTo
no_place [] [] = refl
no_place [] (v ∷ vs) = refl
no_place (o ∷ os) [] = refl
no_place (o ∷ os) (v ∷ vs) = refl

pub all_places : (os : List Word) (vs : List ValType) (i : ℕ) → length os ≡ length vs → i ≡ length vs → KnownTo os vs i → map operand_of os ≡ map known (map val_of vs)
unfolding KnownTo
all_places os vs i e h so_far =
    let a : take i os ≡ os = take_all i os (omega arith) in
    let b : take i vs ≡ vs = take_all i vs (omega arith) in
    ap (map operand_of) (sym a) ∙ so_far ∙ ap (λ us. map known (map val_of us)) b

pub ruleset lists = (no_place, all_places)
