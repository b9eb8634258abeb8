-- Locals that are defined.
use Rattle.std.proofs.Common.{◌≡◌, ℕ, ◌+◌, ◌<◌, ◌≤◌, Bool, true, List, [], ◌∷◌, ◌++◌, length, take, map, get_or, refl, sym, ◌∙◌, ap, arith, add-one, append_assoc}
use Rattle.std.specs.Option.{option_map}
use Rattle.std.specs.Prelude.{Option, Some, zero, suc, replicate}
use Rattle.wasm_typing_families.specs.WasmTypingBlocks.WasmTypingChecks.WasmSpecRules.WasmSpec.Syntax.{Val}
use Rattle.wasm_typing_families.specs.WasmTypingBlocks.WasmTypingChecks.WasmSpecRules.Limits.{most_locals}
use Rattle.wasm_readers_types.specs.WasmReadersValues.SeenValues.{val_of}
use Rattle.wasm_readers_types.specs.WasmReadersValues.declared.indices.UnpackedIndex.{UnpackedIndex}
use Rattle.wasm_readers_types.specs.WasmReadersValues.declared.values.ValType.{ValType}
use Rattle.wasm_typing_families.specs.WasmTypingBlocks.WasmTypingChecks.WasmSpecSteps.Bodies.{Local}
use Rattle.wasm_typing_families.specs.WasmTypingBlocks.WasmTypingChecks.WasmSpecSteps.Meanings.{has_default}
use Rattle.wasm_typing_families.specs.WasmTypingBlocks.WasmTypingChecks.WasmTypingStacks.Locals.{local_of}
use Rattle.wasm_typing_families.specs.WasmTypingBlocks.WasmTypingChecks.WasmTypingStacks.declared.local_word.LocalWord.{LocalWord}
use Rattle.wasm_typing_validator.specs.BodyTyping.{parameter, declared_local}

-- parameters, one after another
abbrev pub parameters : List ValType → List (Local UnpackedIndex)
parameters vs = map parameter (map val_of vs)

one_more : (vs : List ValType) (n : ℕ) (v : ValType) → n < length vs → parameters (take (suc n) vs) ≡ parameters (take n vs) ++ parameter (val_of (get_or vs n v)) ∷ []
one_more [] n v h = absurd (omega arith)
one_more (w ∷ vs) zero v h = refl
one_more (w ∷ vs) (suc n) v h = ap (λ us. parameter (val_of w) ∷ us) (one_more vs n v (omega arith))

pub local_is : (l : Local UnpackedIndex) (x : Val UnpackedIndex) (b : Bool) → l.content ≡ x → l.set ≡ b → l ≡ record { content = x; set = b }
local_is l x b e f = λ i. record { content = e i; set = f i }

-- a local of the type that is resolved so, which is set where that type has a default value
pub local_found : (w : LocalWord) (x y : Val UnpackedIndex) (b : Bool) (o : Option (Val UnpackedIndex)) → (local_of w).content ≡ x → x ≡ y → (local_of w).set ≡ b → b ≡ has_default y → o ≡ Some y
    → Some (local_of w) ≡ option_map declared_local o
local_found w x y b o c e s d f = ap Some (local_is (local_of w) y (has_default y) (c ∙ e) (s ∙ d)) ∙ sym (ap (option_map declared_local) f)

pub ruleset locals_found = (local_found)

count_of : (vs : List ValType) (xs : List (Local UnpackedIndex)) (n : ℕ) → n ≤ length vs → length (xs ++ parameters (take n vs)) ≡ length xs + n
count_of vs (x ∷ xs) n h = let e = count_of vs xs n h in omega arith
count_of vs [] zero h = refl
count_of [] [] (suc n) h = absurd (omega arith)
count_of (v ∷ vs) [] (suc n) h = let e = count_of vs [] n (omega arith) in omega arith

all_of : (vs : List ValType) → take (length vs) vs ≡ vs
all_of [] = refl
all_of (v ∷ vs) = ap (λ us. v ∷ us) (all_of vs)

none_after : {X : Type 0} (xs : List X) → xs ++ [] ≡ xs
none_after [] = refl
none_after (x ∷ xs) = ap (λ us. x ∷ us) (none_after xs)

pub no_parameters : (vs : List ValType) (xs : List (Local UnpackedIndex)) → xs ≡ xs ++ parameters (take 0 vs)
no_parameters vs xs = sym (none_after xs)

pub parameter_added : (vs : List ValType) (n : ℕ) (v : ValType) (w : LocalWord) (x : Val UnpackedIndex) (xs ys zs : List (Local UnpackedIndex)) → n < length vs → (local_of w).content ≡ x → (local_of w).set ≡ true → x ≡ val_of (get_or vs n v)
    → ys ≡ xs ++ parameters (take n vs) → zs ≡ ys ++ replicate 1 (local_of w) → zs ≡ xs ++ parameters (take (n + 1) vs)
parameter_added vs n v w x xs ys zs h a b c d e =
    let l : local_of w ≡ parameter (val_of (get_or vs n v)) = local_is (local_of w) (val_of (get_or vs n v)) true (a ∙ c) b in
    e ∙ ap (λ us. us ++ local_of w ∷ []) d ∙ append_assoc xs (parameters (take n vs)) (local_of w ∷ [])
    ∙ ap (λ us. xs ++ us) (ap (λ k. parameters (take n vs) ++ k ∷ []) l ∙ sym (one_more vs n v h) ∙ ap (λ k. parameters (take k vs)) (sym (add-one n)))

pub parameter_fits : (vs : List ValType) (n : ℕ) (xs ys : List (Local UnpackedIndex)) → n < length vs → ys ≡ xs ++ parameters (take n vs) → length xs + length vs ≤ most_locals → length ys + 1 ≤ most_locals
parameter_fits vs n xs ys h e f = let c = count_of vs xs n (omega arith) in rw e (omega arith)

pub all_parameters : (vs : List ValType) (n : ℕ) (xs ys : List (Local UnpackedIndex)) → n ≡ length vs → ys ≡ xs ++ parameters (take n vs) → ys ≡ xs ++ parameters vs
all_parameters vs n xs ys h e = e ∙ ap (λ us. xs ++ parameters us) (ap (λ k. take k vs) h ∙ all_of vs)

pub ruleset parameters_defined = (no_parameters, parameter_added, parameter_fits, all_parameters)
