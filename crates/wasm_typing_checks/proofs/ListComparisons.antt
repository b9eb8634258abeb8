-- Lists of types, compared place by place.
use Rattle.std.proofs.Common.{◌≡◌, ◌≢◌, ℕ, ◌+◌, ◌<◌, ◌≤◌, Bool, true, false, ◌&&◌, List, [], ◌∷◌, length, drop, map, get_or, refl, sym, ◌∙◌, ap, add-one, arith}
use Rattle.std.specs.Prelude.{zero, suc}
use Rattle.wasm_validator_resources.specs.WasmSpec.MatchingTests.{World, matches_val}
use Rattle.wasm_validator_resources.specs.WasmReadersTypes.WasmReadersValues.SeenValues.{val_of}
use Rattle.wasm_validator_resources.specs.WasmReadersTypes.WasmReadersValues.declared.indices.UnpackedIndex.{UnpackedIndex}
use Rattle.wasm_validator_resources.specs.WasmReadersTypes.WasmReadersValues.declared.values.ValType.{ValType}
use Rattle.wasm_typing_stacks.specs.WasmSpecSteps.Matching.{matches_vals}

past_all : {X : Type 0} (n : ℕ) (xs : List X) → length xs ≤ n → drop n xs ≡ []
past_all zero [] h = refl
past_all (suc n) [] h = refl
past_all zero (x ∷ xs) h = absurd (omega arith)
past_all (suc n) (x ∷ xs) h = past_all n xs (omega arith)

module _ (W : World UnpackedIndex) where
  -- the types from a place on, and those of another list
  abbrev pub from_on : List ValType → List ValType → ℕ → Bool
  from_on xs ys n = matches_vals W (map val_of (drop n xs)) (map val_of (drop n ys))

  and_false : (b : Bool) → (b && false) ≡ false
  and_false true = refl
  and_false false = refl

  pub unequal : (xs ys : List ValType) → length xs ≢ length ys → false ≡ matches_vals W (map val_of xs) (map val_of ys)
  unequal [] [] h = absurd (h refl)
  unequal [] (y ∷ ys) h = refl
  unequal (x ∷ xs) [] h = refl
  unequal (x ∷ xs) (y ∷ ys) h = sym (ap (λ b. matches_val W (val_of x) (val_of y) && b) (sym (unequal xs ys (λ e. h (omega arith)))) ∙ and_false (matches_val W (val_of x) (val_of y)))

  one_more : (xs ys : List ValType) (n : ℕ) (x y : ValType) → n < length xs → n < length ys → from_on xs ys n ≡ (matches_val W (val_of (get_or xs n x)) (val_of (get_or ys n y)) && from_on xs ys (suc n))
  one_more [] ys n x y h l = absurd (omega arith)
  one_more (a ∷ xs) [] n x y h l = absurd (omega arith)
  one_more (a ∷ xs) (b ∷ ys) zero x y h l = refl
  one_more (a ∷ xs) (b ∷ ys) (suc n) x y h l = one_more xs ys n x y (omega arith) (omega arith)

  pub goes_on : (xs ys : List ValType) (n : ℕ) (x y : ValType) (b : Bool) → n < length xs → n < length ys → matches_vals W (map val_of xs) (map val_of ys) ≡ from_on xs ys n → true ≡ matches_val W (val_of (get_or xs n x)) (val_of (get_or ys n y))
      → matches_vals W (map val_of xs) (map val_of ys) ≡ from_on xs ys (n + 1)
  goes_on xs ys n x y b h l e f = e ∙ one_more xs ys n x y h l ∙ rw (← f, add-one n) refl

  pub stops : (xs ys : List ValType) (n : ℕ) (x y : ValType) → n < length xs → n < length ys → matches_vals W (map val_of xs) (map val_of ys) ≡ from_on xs ys n → false ≡ matches_val W (val_of (get_or xs n x)) (val_of (get_or ys n y))
      → false ≡ matches_vals W (map val_of xs) (map val_of ys)
  stops xs ys n x y h l e f = sym (e ∙ one_more xs ys n x y h l ∙ rw (← f) refl)

  all_passed : (xs ys : List ValType) (n : ℕ) → length xs ≤ n → length ys ≤ n → from_on xs ys n ≡ true
  all_passed xs ys n h l = rw (past_all n xs h, past_all n ys l) refl

  pub ends : (xs ys : List ValType) (n : ℕ) → length xs ≤ n → length xs ≡ length ys → matches_vals W (map val_of xs) (map val_of ys) ≡ from_on xs ys n → true ≡ matches_vals W (map val_of xs) (map val_of ys)
  ends xs ys n h l e = sym (e ∙ all_passed xs ys n h (omega arith))

pub ruleset lists = (unequal, goes_on, stops, ends)
