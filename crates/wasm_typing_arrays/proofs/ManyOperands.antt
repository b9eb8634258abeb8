-- More than three operands.
use Rattle.std.proofs.Common.{◌≡◌, [], ◌∷◌, refl}
use Rattle.std.specs.Prelude.{Some, None}
use Rattle.wasm_spec.specs.MatchingTests.{World}
use Rattle.wasm_spec.specs.Syntax.{Val}
use Rattle.wasm_readers_types.specs.WasmReadersValues.declared.indices.UnpackedIndex.{UnpackedIndex}
use Rattle.wasm_typing_checks.specs.WasmSpecSteps.Machine.{State, pop_val, pop_vals}
use Rattle.wasm_typing_checks.specs.SeenTypes.{exchanged}

module _ (W : World UnpackedIndex) where
  -- one below three
  pub upper_missing : (a b c d : Val UnpackedIndex) (s : State UnpackedIndex) → pop_vals W (b ∷ c ∷ d ∷ []) s ≡ None
      → exchanged W (a ∷ b ∷ c ∷ d ∷ []) [] s ≡ None
  unfolding exchanged
  upper_missing a b c d s e = rw e refl

  pub lowest_missing : (a b c d : Val UnpackedIndex) (s t : State UnpackedIndex) → pop_vals W (b ∷ c ∷ d ∷ []) s ≡ Some t → pop_val W a t ≡ None
      → exchanged W (a ∷ b ∷ c ∷ d ∷ []) [] s ≡ None
  unfolding exchanged
  lowest_missing a b c d s t e f = rw (e, f) refl

  pub four_taken : (a b c d : Val UnpackedIndex) (s t u new : State UnpackedIndex) → pop_vals W (b ∷ c ∷ d ∷ []) s ≡ Some t → pop_val W a t ≡ Some u
      → new ≡ u → exchanged W (a ∷ b ∷ c ∷ d ∷ []) [] s ≡ Some new
  unfolding exchanged
  four_taken a b c d s t u new e f g = rw (e, f, g) refl

  -- two below three
  pub three_missing : (a b c d e : Val UnpackedIndex) (s : State UnpackedIndex) → pop_vals W (c ∷ d ∷ e ∷ []) s ≡ None
      → exchanged W (a ∷ b ∷ c ∷ d ∷ e ∷ []) [] s ≡ None
  unfolding exchanged
  three_missing a b c d e s p = rw p refl

  pub next_missing : (a b c d e : Val UnpackedIndex) (s t : State UnpackedIndex) → pop_vals W (c ∷ d ∷ e ∷ []) s ≡ Some t → pop_val W b t ≡ None
      → exchanged W (a ∷ b ∷ c ∷ d ∷ e ∷ []) [] s ≡ None
  unfolding exchanged
  next_missing a b c d e s t p q = rw (p, q) refl

  pub first_missing : (a b c d e : Val UnpackedIndex) (s t u : State UnpackedIndex) → pop_vals W (c ∷ d ∷ e ∷ []) s ≡ Some t → pop_val W b t ≡ Some u
      → pop_val W a u ≡ None → exchanged W (a ∷ b ∷ c ∷ d ∷ e ∷ []) [] s ≡ None
  unfolding exchanged
  first_missing a b c d e s t u p q r = rw (p, q, r) refl

  pub five_taken : (a b c d e : Val UnpackedIndex) (s t u w new : State UnpackedIndex) → pop_vals W (c ∷ d ∷ e ∷ []) s ≡ Some t
      → pop_val W b t ≡ Some u → pop_val W a u ≡ Some w → new ≡ w → exchanged W (a ∷ b ∷ c ∷ d ∷ e ∷ []) [] s ≡ Some new
  unfolding exchanged
  five_taken a b c d e s t u w new p q r h = rw (p, q, r, h) refl

pub ruleset many = (upper_missing, lowest_missing, four_taken, three_missing, next_missing, first_missing, five_taken)
