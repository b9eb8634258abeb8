-- Operands of known types, taken and given.
use Rattle.std.proofs.Common.{◌≡◌, [], ◌∷◌, refl}
use Rattle.std.specs.Prelude.{Some}
use Rattle.wasm_readers_types.specs.WasmSpec.MatchingTests.{World}
use Rattle.wasm_readers_types.specs.WasmSpec.Syntax.{Val}
use Rattle.wasm_readers_types.specs.WasmReadersValues.declared.indices.UnpackedIndex.{UnpackedIndex}
use Rattle.wasm_typing_numbers.specs.WasmTypingChecks.WasmSpecSteps.Machine.{State, known, pop_val, push_operand}
use Rattle.wasm_typing_numbers.specs.WasmTypingChecks.SeenTypes.{exchanged}

module _ (W : World UnpackedIndex) where
  pub given : (w : Val UnpackedIndex) (s new : State UnpackedIndex) → new ≡ push_operand (known w) s → exchanged W [] (w ∷ []) s ≡ Some new
  unfolding exchanged
  given w s new e = rw e refl

  pub one_taken : (v : Val UnpackedIndex) (s t new : State UnpackedIndex) → pop_val W v s ≡ Some t → new ≡ t → exchanged W (v ∷ []) [] s ≡ Some new
  unfolding exchanged
  one_taken v s t new e f = rw (e, f) refl

  pub one_exchanged : (v w : Val UnpackedIndex) (s t new : State UnpackedIndex) → pop_val W v s ≡ Some t → new ≡ push_operand (known w) t → exchanged W (v ∷ []) (w ∷ []) s ≡ Some new
  unfolding exchanged
  one_exchanged v w s t new e f = rw (e, f) refl

  pub two_taken : (u v : Val UnpackedIndex) (s t x new : State UnpackedIndex) → pop_val W v s ≡ Some t → pop_val W u t ≡ Some x → new ≡ x → exchanged W (u ∷ v ∷ []) [] s ≡ Some new
  unfolding exchanged
  two_taken u v s t x new e f g = rw (e, f, g) refl

  pub two_exchanged : (u v w : Val UnpackedIndex) (s t x new : State UnpackedIndex) → pop_val W v s ≡ Some t → pop_val W u t ≡ Some x → new ≡ push_operand (known w) x → exchanged W (u ∷ v ∷ []) (w ∷ []) s ≡ Some new
  unfolding exchanged
  two_exchanged u v w s t x new e f g = rw (e, f, g) refl

pub ruleset gives = (given)
