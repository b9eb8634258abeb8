-- Operands that are taken with others above them.
use Rattle.std.proofs.Common.{◌≡◌, List, ◌∷◌, ◌++◌, refl}
use Rattle.std.specs.Prelude.{Some, None}
use Rattle.wasm_typing_references.specs.WasmSpec.MatchingTests.{World}
use Rattle.wasm_typing_references.specs.WasmSpec.Syntax.{Val}
use Rattle.wasm_typing_references.specs.WasmReadersTypes.WasmReadersValues.declared.indices.UnpackedIndex.{UnpackedIndex}
use Rattle.wasm_typing_references.specs.WasmTypingChecks.WasmSpecSteps.Machine.{State, pop_val, pop_vals, push_vals}
use Rattle.wasm_typing_references.proofs.WasmTypingChecks.WasmSpecSteps.OperandSequences.{pop_vals-append}
use Rattle.wasm_typing_references.specs.WasmTypingChecks.SeenTypes.{exchanged}

module _ (W : World UnpackedIndex) (vs ws us : List (Val UnpackedIndex)) (v : Val UnpackedIndex) (s : State UnpackedIndex) where
  pub above_missing : pop_vals W us s ≡ None → exchanged W (vs ++ v ∷ us) ws s ≡ None
  unfolding exchanged
  above_missing e = rw (pop_vals-append W vs (v ∷ us) s, e) refl

  pub next_missing : (t : State UnpackedIndex) → pop_vals W us s ≡ Some t → pop_val W v t ≡ None → exchanged W (vs ++ v ∷ us) ws s ≡ None
  unfolding exchanged
  next_missing t e f = rw (pop_vals-append W vs (v ∷ us) s, e, f) refl

  pub rest_missing : (t u : State UnpackedIndex) → pop_vals W us s ≡ Some t → pop_val W v t ≡ Some u → pop_vals W vs u ≡ None → exchanged W (vs ++ v ∷ us) ws s ≡ None
  unfolding exchanged
  rest_missing t u e f g = rw (pop_vals-append W vs (v ∷ us) s, e, f, g) refl

  pub all_exchanged : (t u x new : State UnpackedIndex) → pop_vals W us s ≡ Some t → pop_val W v t ≡ Some u → pop_vals W vs u ≡ Some x → new ≡ push_vals ws x → exchanged W (vs ++ v ∷ us) ws s ≡ Some new
  unfolding exchanged
  all_exchanged t u x new e f g h = rw (pop_vals-append W vs (v ∷ us) s, e, f, g, h) refl

pub ruleset exchanges = (above_missing, next_missing, rest_missing, all_exchanged)
