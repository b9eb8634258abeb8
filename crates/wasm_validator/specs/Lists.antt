-- What the answers on a list of modules say of them, one after another.
use Rattle.std.specs.Prelude.{ℕ, ◌≡◌, ◌⊎◌, List, [], ◌∷◌, map}
use Rattle.std.specs.Borrow.{Bor}
use Rattle.std.specs.declared.result.Result.{Result}
use Rattle.wasm_validator_modules.specs.WasmValidatorTypes.declared.shown.Types as shown
use Rattle.wasm_validator_modules.specs.WasmValidatorCore.declared.error.Error.{Error}
use Rattle.wasm_validator_modules.specs.ValidatorStages.{Standing, after_reset}
use Rattle.wasm_validator_modules.specs.Verdict.{DecidesModule, EndsModule, StopsModule}

-- the bytes that are lent
abbrev pub lent : List (Bor (List ℕ)) → List (List ℕ)
lent modules = map (λ (b : Bor (List ℕ)). b.now) modules

module _ {A : Type 0} where
  -- Each module is looked at behind a reset of what the one before it left, and decided alone. Where its payloads were all accepted the next
  -- one is looked at, and where one was refused, or memory before they all were, the list of answers ends.
  abbrev pub DecidesEach : List (Result (shown.Types A) (Error A)) → List (List ℕ) → Standing → Standing → Type 0
  DecidesEach [] [] old new = new ≡ old
  DecidesEach [] (m ∷ ms) old new = ⊥
  DecidesEach (r ∷ rs) [] old new = ⊥
  DecidesEach (r ∷ rs) (m ∷ ms) old new =
      (left : Standing) × DecidesModule r m (after_reset old) left
      × ((EndsModule m (after_reset old) left × DecidesEach rs ms left new) ⊎ (StopsModule r m (after_reset old) left × (rs ≡ []) × (new ≡ left)))
