-- Like operands.
use Rattle.std.proofs.Common.{◌≡◌, ℕ, ◌+◌, ◌-◌, ◌<◌, [], ◌∷◌, refl, ◌∙◌, ap, add-one, arith}
use Rattle.std.specs.Prelude.{zero, suc, Some, None, Option}
use Rattle.wasm_spec.specs.MatchingTests.{World}
use Rattle.wasm_spec.specs.Syntax.{Val}
use Rattle.wasm_readers_types.specs.WasmReadersValues.declared.indices.UnpackedIndex.{UnpackedIndex}
use Rattle.wasm_typing_checks.specs.WasmSpecSteps.Machine.{State, pop_val, pop_vals}
use Rattle.wasm_typing_checks.specs.WasmSpecSteps.Meanings.{copies}

module _ (W : World UnpackedIndex) (v : Val UnpackedIndex) where
  -- so many operands of one type
  abbrev pub some_popped : ℕ → State UnpackedIndex → Option (State UnpackedIndex)
  some_popped n s = pop_vals W (copies n (v ∷ [])) s

  no_more : (i : ℕ) → 0 + i ≡ i
  no_more i = omega arith

  one_further : (d i : ℕ) → suc d + i ≡ suc (d + i)
  one_further d i = omega arith

  -- as many as are wanted, or more than there are, from some of them on
  from_some : (i d : ℕ) (s : State UnpackedIndex) → some_popped i s ≡ None → some_popped (d + i) s ≡ None
  from_some i zero s e = ap (λ n. some_popped n s) (no_more i) ∙ e
  from_some i (suc d) s e = ap (λ n. some_popped n s) (one_further d i) ∙ rw (from_some i d s e) refl

  on_the_spot : (i d : ℕ) (s t : State UnpackedIndex) → some_popped i s ≡ Some t → pop_val W v t ≡ Some t → some_popped (d + i) s ≡ Some t
  on_the_spot i zero s t e f = ap (λ n. some_popped n s) (no_more i) ∙ e
  on_the_spot i (suc d) s t e f = ap (λ n. some_popped n s) (one_further d i) ∙ rw (on_the_spot i d s t e f) f

  one_more : (i : ℕ) (s t : State UnpackedIndex) (o : Option (State UnpackedIndex)) → some_popped i s ≡ Some t → pop_val W v t ≡ o → some_popped (suc i) s ≡ o
  one_more i s t o e f = rw e f

  pub next_popped : (i : ℕ) (s t u : State UnpackedIndex) → some_popped i s ≡ Some t → pop_val W v t ≡ Some u → some_popped (i + 1) s ≡ Some u
  next_popped i s t u e f = ap (λ n. some_popped n s) (add-one i) ∙ one_more i s t (Some u) e f

  pub next_missing : (n i : ℕ) (s t : State UnpackedIndex) → i < n → some_popped i s ≡ Some t → pop_val W v t ≡ None → some_popped n s ≡ None
  next_missing n i s t h e f =
      let q : n ≡ (n - suc i) + suc i = omega arith in
      ap (λ k. some_popped k s) q ∙ from_some (suc i) (n - suc i) s (one_more i s t None e f)

  pub all_popped : (n i : ℕ) (s t u : State UnpackedIndex) → i < n → some_popped i s ≡ Some t → pop_val W v t ≡ Some u → u ≡ t → some_popped n s ≡ Some t
  all_popped n i s t u h e f g = let q : n ≡ (n - i) + i = omega arith in ap (λ k. some_popped k s) q ∙ on_the_spot i (n - i) s t e (f ∙ ap Some g)

pub ruleset repeats = (next_popped, next_missing, all_popped)
