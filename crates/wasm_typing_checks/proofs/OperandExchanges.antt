-- Operands that are taken and others that are given.
use Rattle.std.proofs.Common.{◌≡◌, ℕ, false, List, [], ◌∷◌, ◌++◌, refl, sym, ◌∙◌, ap}
use Rattle.std.specs.Prelude.{Some, None}
use Rattle.wasm_validator_resources.specs.WasmSpec.MatchingTests.{World}
use Rattle.wasm_validator_resources.specs.WasmSpec.Syntax.{Val}
use Rattle.wasm_validator_resources.specs.WasmReadersTypes.WasmReadersValues.declared.indices.UnpackedIndex.{UnpackedIndex}
use Rattle.wasm_typing_stacks.specs.WasmSpecSteps.Machine.{State, become_unreachable, pop_val, pop_vals, push_vals}
use Rattle.wasm_typing_stacks.proofs.WasmSpecSteps.OperandSequences.{pop_vals-append}
use Rattle.wasm_typing_stacks.specs.BodyStacks.{state_of, below}
use Rattle.wasm_typing_stacks.specs.declared.stacks.Stacks.{Stacks}
use Rattle.wasm_typing_checks.specs.SeenTypes.{exchanged, halted}

module _ (W : World UnpackedIndex) where
  pub second_missing : (v w : Val UnpackedIndex) (s : State UnpackedIndex) → pop_val W w s ≡ None → pop_vals W (v ∷ w ∷ []) s ≡ None
  second_missing v w s e = rw e refl

  pub first_missing : (v w : Val UnpackedIndex) (s t : State UnpackedIndex) → pop_val W w s ≡ Some t → pop_val W v t ≡ None → pop_vals W (v ∷ w ∷ []) s ≡ None
  first_missing v w s t e f = rw (e, f) refl

  pub both_there : (v w : Val UnpackedIndex) (s t u : State UnpackedIndex) → pop_val W w s ≡ Some t → pop_val W v t ≡ Some u → pop_vals W (v ∷ w ∷ []) s ≡ Some u
  both_there v w s t u e f = rw (e, f) refl

  pub third_missing : (u v w : Val UnpackedIndex) (s : State UnpackedIndex) → pop_val W w s ≡ None → pop_vals W (u ∷ v ∷ w ∷ []) s ≡ None
  third_missing u v w s e = rw e refl

  pub two_missing : (u v w : Val UnpackedIndex) (s t : State UnpackedIndex) → pop_val W w s ≡ Some t → pop_vals W (u ∷ v ∷ []) t ≡ None → pop_vals W (u ∷ v ∷ w ∷ []) s ≡ None
  two_missing u v w s t e f = rw e f

  pub three_there : (u v w : Val UnpackedIndex) (s t x : State UnpackedIndex) → pop_val W w s ≡ Some t → pop_vals W (u ∷ v ∷ []) t ≡ Some x → pop_vals W (u ∷ v ∷ w ∷ []) s ≡ Some x
  three_there u v w s t x e f = rw e f

  pub not_exchanged : (vs ws : List (Val UnpackedIndex)) (s : State UnpackedIndex) → pop_vals W vs s ≡ None → exchanged W vs ws s ≡ None
  unfolding exchanged
  not_exchanged vs ws s e = rw e refl

  pub are_exchanged : (vs ws : List (Val UnpackedIndex)) (s t u : State UnpackedIndex) → pop_vals W vs s ≡ Some t → u ≡ push_vals ws t → exchanged W vs ws s ≡ Some u
  unfolding exchanged
  are_exchanged vs ws s t u e f = rw (e, f) refl

  -- one more on top of others
  pub top_missing : (vs ws : List (Val UnpackedIndex)) (v : Val UnpackedIndex) (s : State UnpackedIndex) → pop_val W v s ≡ None → exchanged W (vs ++ v ∷ []) ws s ≡ None
  unfolding exchanged
  top_missing vs ws v s e = rw (pop_vals-append W vs (v ∷ []) s, e) refl

  pub rest_missing : (vs ws : List (Val UnpackedIndex)) (v : Val UnpackedIndex) (s t : State UnpackedIndex) → pop_val W v s ≡ Some t → pop_vals W vs t ≡ None → exchanged W (vs ++ v ∷ []) ws s ≡ None
  unfolding exchanged
  rest_missing vs ws v s t e f = rw (pop_vals-append W vs (v ∷ []) s, e, f) refl

  pub all_exchanged : (vs ws : List (Val UnpackedIndex)) (v : Val UnpackedIndex) (s t u new : State UnpackedIndex) → pop_val W v s ≡ Some t → pop_vals W vs t ≡ Some u → new ≡ push_vals ws u → exchanged W (vs ++ v ∷ []) ws s ≡ Some new
  unfolding exchanged
  all_exchanged vs ws v s t u new e f g = rw (pop_vals-append W vs (v ∷ []) s, e, f, g) refl

  -- the rest unreached
  pub not_halted : (vs : List (Val UnpackedIndex)) (s : State UnpackedIndex) → pop_vals W vs s ≡ None → halted W vs s ≡ None
  unfolding halted
  not_halted vs s e = rw e refl

  pub none_halted : {A : Type 0} (v : Stacks A) (vs : List (Val UnpackedIndex)) (k : ℕ) → pop_vals W vs (state_of v) ≡ Some (below k (state_of v)) → v.is_open ≡ false → halted W vs (state_of v) ≡ None
  unfolding halted
  none_halted v vs k e f = rw e (rw f refl)

  pub is_halted : (vs : List (Val UnpackedIndex)) (s t u new : State UnpackedIndex) → pop_vals W vs s ≡ Some t → u ≡ t → become_unreachable u ≡ Some new → halted W vs s ≡ Some new
  unfolding halted
  is_halted vs s t u new e f g = rw e (ap become_unreachable (sym f) ∙ g)

pub ruleset with_one = (top_missing, rest_missing, all_exchanged)

pub ruleset halts = (not_halted, none_halted, is_halted)

pub ruleset two = (second_missing, first_missing, both_there)

pub ruleset three = (third_missing, two_missing, three_there)

pub ruleset exchanges = (not_exchanged, are_exchanged)
