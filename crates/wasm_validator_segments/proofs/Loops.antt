-- What loops over items keep.
use Rattle.std.proofs.Common.{◌≡◌, ◌∙◌, refl, sym, ap, ℕ, zero, suc, ◌-◌, ◌<◌, List, Option, Some, arith}
use Rattle.std.specs.Option.{option_and_then}
use Rattle.wasm_readers_errors.specs.declared.error.Error.{Error}
use Rattle.wasm_readers_errors.specs.declared.error.Error.TheVariants.{Refused, OutOfMemory}
use Rattle.wasm_validator_segments.specs.Answers.{Refuses}
use Rattle.wasm_validator_segments.specs.Lists.{behind_many}

module _ (behind : List ℕ → Option (List ℕ)) where
  -- one item less is left
  pub one_less : (left : ℕ) (bytes more : List ℕ) → 0 < left → behind bytes ≡ Some more → behind_many behind (left - 1) more ≡ behind_many behind left bytes
  one_less zero bytes more h e = absurd (omega arith)
  one_less (suc n) bytes more h e =
      let back : suc n - 1 ≡ n = omega arith in
      rw (back, e) refl

  -- where one item is refused, all that are left are
  pub all_refused : (left : ℕ) (bytes : List ℕ) (o : Option (List ℕ)) (e : Error) → 0 < left → Refuses e (behind bytes) → behind_many behind left bytes ≡ o → Refuses e o
  all_refused zero bytes o e h f g = absurd (omega arith)
  all_refused (suc n) bytes o (Refused r) h f g = sym g ∙ ap (option_and_then (behind_many behind n)) f
  all_refused (suc n) bytes o OutOfMemory h f g = tt
