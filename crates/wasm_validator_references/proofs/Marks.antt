-- Flags that are set one after another.
use Rattle.std.proofs.Common.{◌≡◌, refl, sym, ap, ◌∙◌, ℕ, zero, suc, ◌==◌, ◌<◌, Bool, true, false, ◌||◌, List, [], ◌∷◌, ◌++◌, length, get_or, set, arith}
use Rattle.wasm_spec_validity.specs.WasmSpecSteps.WasmSpecRules.Attempts.{among}
use Rattle.wasm_validator_references.specs.References.{mark}
use Rattle.wasm_validator_references.specs.Marks.{MarkedFlagsSayNames}

-- numbers one further are the same where the numbers are
one_further : (i x : ℕ) → (suc i == suc x) ≡ (i == x)
one_further i x = grind arith

-- one flag
one_says : (x : ℕ) (flags : List Bool) (i : ℕ) → get_or (mark x flags) i false ≡ (i == x || get_or flags i false)
one_says zero [] zero = refl
one_says zero [] (suc i) = grind arith
one_says zero (b ∷ bs) zero = refl
one_says zero (b ∷ bs) (suc i) = grind arith
one_says (suc x) [] zero = grind arith
one_says (suc x) [] (suc i) = one_says x [] i ∙ ap (λ (c : Bool). c || false) (sym (one_further i x))
one_says (suc x) (b ∷ bs) zero = grind arith
one_says (suc x) (b ∷ bs) (suc i) = one_says x bs i ∙ ap (λ (c : Bool). c || get_or bs i false) (sym (one_further i x))

either_way : (a b c : Bool) → (a || (b || c)) ≡ ((b || a) || c)
either_way true true c = refl
either_way true false c = refl
either_way false true c = refl
either_way false false c = refl

pub flags_say_names : MarkedFlagsSayNames
flags_say_names [] flags i = refl
flags_say_names (x ∷ xs) flags i =
    flags_say_names xs (mark x flags) i
    ∙ ap (λ (b : Bool). among i xs || b) (one_says x flags i)
    ∙ either_way (among i xs) (i == x) (get_or flags i false)

-- within the flags, a mark is a write
pub mark_is_set : (x : ℕ) (flags : List Bool) → x < length flags → set flags x true ≡ mark x flags
mark_is_set zero [] h = absurd (omega (arith, h))
mark_is_set zero (b ∷ bs) h = refl
mark_is_set (suc x) [] h = absurd (omega (arith, h))
mark_is_set (suc x) (b ∷ bs) h = ap (λ (cs : List Bool). b ∷ cs) (mark_is_set x bs (omega (arith, h)))

-- behind the flags, it is a push, and one more flag changes nothing before that
pub mark_is_push : (x : ℕ) (flags : List Bool) → length flags ≡ x → flags ++ true ∷ [] ≡ mark x flags
mark_is_push zero [] h = refl
mark_is_push zero (b ∷ bs) h = absurd (omega (arith, h))
mark_is_push (suc x) [] h = absurd (omega (arith, h))
mark_is_push (suc x) (b ∷ bs) h = ap (λ (cs : List Bool). b ∷ cs) (mark_is_push x bs (omega (arith, h)))

pub mark_behind : (x : ℕ) (flags : List Bool) → length flags < x → mark x (flags ++ false ∷ []) ≡ mark x flags
mark_behind zero flags h = absurd (omega (arith, h))
mark_behind (suc x) [] h = refl
mark_behind (suc x) (b ∷ bs) h = ap (λ (cs : List Bool). b ∷ cs) (mark_behind x bs (omega (arith, h)))
