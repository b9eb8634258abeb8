-- Modules that are looked at one after another: what is decided of the rest goes behind the answers so far.
use Rattle.std.proofs.Common.{◌≡◌, refl, sym, ap, subst, ◌∙◌, inl, inr, ℕ, zero, suc, ◌+◌, ◌<◌, ◌≤◌, true, List, [], ◌∷◌, ◌++◌, length, drop, get_or, append_assoc, append-nil, arith}
use Rattle.std.specs.declared.result.Result.{Result}
use Rattle.wasm_validator_modules.specs.WasmValidatorTypes.declared.shown.Types as shown
use Rattle.wasm_validator_modules.specs.WasmValidatorCore.declared.error.Error.{Error}
use Rattle.std.specs.Borrow.{Bor}
use Rattle.wasm_validator_modules.specs.ValidatorStages.{Standing, may_reset, after_reset}
use Rattle.wasm_validator_modules.specs.Verdict.{DecidesModule, EndsModule, StopsModule}
use Rattle.wasm_validator.specs.Lists.{DecidesEach, lent}

drop_here : {X : Type 0} (xs : List X) (i : ℕ) (d : X) → i < length xs → drop i xs ≡ get_or xs i d ∷ drop (suc i) xs
drop_here [] i d l = absurd (omega (arith, l))
drop_here (x ∷ xs) zero d l = refl
drop_here (x ∷ xs) (suc i) d l = drop_here xs i d (omega (arith, l))

drop_all : {X : Type 0} (xs : List X) (i : ℕ) → length xs ≤ i → drop i xs ≡ []
drop_all [] zero l = refl
drop_all [] (suc i) l = refl
drop_all (x ∷ xs) zero l = absurd (omega (arith, l))
drop_all (x ∷ xs) (suc i) l = drop_all xs i (omega (arith, l))

module _ {A : Type 0} (modules : List (Bor (List ℕ))) where
  -- where the modules before this place are answered, and the validator stands here
  pub record SoFar (i : ℕ) (answers : List (Result (shown.Types A) (Error A))) (old now : Standing) : Type 0 where
    pub goes : (rs : List (Result (shown.Types A) (Error A))) (new : Standing) → DecidesEach rs (lent (drop i modules)) now new → DecidesEach (answers ++ rs) (lent modules) old new
    pub may : may_reset now ≡ true

  pub begin : (old : Standing) → may_reset old ≡ true → SoFar 0 [] old old
  begin old m = record { goes = λ rs new d. d; may = m }

  module _ (i : ℕ) (answers : List (Result (shown.Types A) (Error A))) (old now left : Standing) (s : SoFar i answers old now) (l : i < length modules)
      (r : Result (shown.Types A) (Error A)) (bytes : List ℕ) (start : Standing) (d : DecidesModule r bytes start left) (ready : start ≡ after_reset now) (other : Bor (List ℕ)) (is : bytes ≡ (get_or modules i other).now) where
    here : drop i modules ≡ get_or modules i other ∷ drop (i + 1) modules
    here = let one : suc i ≡ i + 1 = omega arith in drop_here modules i other l ∙ ap (λ n. get_or modules i other ∷ drop n modules) one

    decided : DecidesModule r (get_or modules i other).now (after_reset now) left
    decided = subst (λ (s : Standing). DecidesModule r (get_or modules i other).now s left) ready (subst (λ (b : List ℕ). DecidesModule r b start left) is d)

    pub next : EndsModule bytes start left → SoFar (i + 1) (answers ++ r ∷ []) old left
    next e = record {
      goes = λ rs new more.
          subst (λ (xs : List (Result (shown.Types A) (Error A))). DecidesEach xs (lent modules) old new) (sym (append_assoc answers (r ∷ []) rs))
          (s.goes (r ∷ rs) new (subst (λ (xs : List (Bor (List ℕ))). DecidesEach (r ∷ rs) (lent xs) now new) (sym here) (left, decided, inl (subst (λ (s : Standing). EndsModule (get_or modules i other).now s left) ready (subst (λ (b : List ℕ). EndsModule b start left) is e), more))));
      may = ap may_reset e.after;
    }

    pub stop : StopsModule r bytes start left → DecidesEach (answers ++ r ∷ []) (lent modules) old left
    stop e = s.goes (r ∷ []) left (subst (λ (xs : List (Bor (List ℕ))). DecidesEach (r ∷ []) (lent xs) now left) (sym here) (left, decided, inr (subst (λ (s : Standing). StopsModule r (get_or modules i other).now s left) ready (subst (λ (b : List ℕ). StopsModule r b start left) is e), refl, refl)))

  pub finish : (i : ℕ) (answers : List (Result (shown.Types A) (Error A))) (old now : Standing) → SoFar i answers old now → length modules ≤ i → DecidesEach answers (lent modules) old now
  finish i answers old now s l =
      let none : DecidesEach {A = A} [] (lent (drop i modules)) now now = subst (λ (xs : List (Bor (List ℕ))). DecidesEach {A = A} [] (lent xs) now now) (sym (drop_all modules i l)) refl in
      subst (λ (xs : List (Result (shown.Types A) (Error A))). DecidesEach xs (lent modules) old now) (append-nil answers) (s.goes [] now none)
