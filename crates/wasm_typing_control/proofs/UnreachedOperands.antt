-- Operands of some types with one on top, behind which code isn't reached.
use Rattle.std.proofs.Common.{◌≡◌, ℕ, false, List, [], ◌∷◌, ◌++◌, refl, sym, ◌∙◌, ap}
use Rattle.std.specs.Prelude.{Some, None}
use Rattle.wasm_readers_types.specs.WasmSpec.MatchingTests.{World}
use Rattle.wasm_readers_types.specs.WasmSpec.Syntax.{Val}
use Rattle.wasm_readers_types.specs.WasmReadersValues.declared.indices.UnpackedIndex.{UnpackedIndex}
use Rattle.wasm_typing_numbers.specs.WasmSpecSteps.Machine.{State, become_unreachable, pop_val, pop_vals}
use Rattle.wasm_typing_numbers.proofs.WasmSpecSteps.OperandSequences.{pop_vals-append}
use Rattle.wasm_typing_numbers.specs.WasmTypingStacks.BodyStacks.{state_of, below}
use Rattle.wasm_typing_numbers.specs.WasmTypingStacks.declared.stacks.Stacks.{Stacks}
use Rattle.wasm_typing_numbers.specs.WasmTypingChecks.SeenTypes.{halted}

module _ (W : World UnpackedIndex) where
  pub top_missing : (vs : List (Val UnpackedIndex)) (v : Val UnpackedIndex) (s : State UnpackedIndex) → pop_val W v s ≡ None → halted W (vs ++ v ∷ []) s ≡ None
  unfolding halted
  top_missing vs v s e = rw (pop_vals-append W vs (v ∷ []) s, e) refl

  pub rest_missing : (vs : List (Val UnpackedIndex)) (v : Val UnpackedIndex) (s t : State UnpackedIndex) → pop_val W v s ≡ Some t → pop_vals W vs t ≡ None → halted W (vs ++ v ∷ []) s ≡ None
  unfolding halted
  rest_missing vs v s t e f = rw (pop_vals-append W vs (v ∷ []) s, e, f) refl

  pub nowhere : {A : Type 0} (v : Stacks A) (vs : List (Val UnpackedIndex)) (x : Val UnpackedIndex) (t : State UnpackedIndex) (k : ℕ) → pop_val W x (state_of v) ≡ Some t → pop_vals W vs t ≡ Some (below k (state_of v)) → v.is_open ≡ false → halted W (vs ++ x ∷ []) (state_of v) ≡ None
  unfolding halted
  nowhere v vs x t k e f g = rw (pop_vals-append W vs (x ∷ []) (state_of v), e, f) (rw g refl)

  pub all_halted : (vs : List (Val UnpackedIndex)) (v : Val UnpackedIndex) (s t u w new : State UnpackedIndex) → pop_val W v s ≡ Some t → pop_vals W vs t ≡ Some u → w ≡ u → become_unreachable w ≡ Some new → halted W (vs ++ v ∷ []) s ≡ Some new
  unfolding halted
  all_halted vs v s t u w new e f g h = rw (pop_vals-append W vs (v ∷ []) s, e, f) (ap become_unreachable (sym g) ∙ h)

pub ruleset halts = (top_missing, rest_missing, nowhere, all_halted)
