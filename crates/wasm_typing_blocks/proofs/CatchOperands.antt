-- What catch clauses send to labels.
use Rattle.std.proofs.Common.{◌≡◌, ◌≢◌, ℕ, ◌-◌, Bool, true, false, ◌&&◌, ◌==◌, List, [], ◌∷◌, ◌++◌, length, take, map, get_or, refl, sym, ◌∙◌, ap, arith}
use Rattle.std.specs.Prelude.{Some, None, zero, suc}
use Rattle.std.proofs.lemmas.Bool.Decides.{nat_tests}
use Rattle.std.proofs.Math.Bool.{and-true}
use Rattle.wasm_spec.specs.MatchingTests.{World, matches_val}
use Rattle.wasm_spec.specs.Syntax.{Val}
use Rattle.wasm_spec_rules.specs.Contexts.{Context}
use Rattle.wasm_readers_types.specs.WasmReadersValues.SeenValues.{val_of}
use Rattle.wasm_readers_types.specs.WasmReadersValues.declared.indices.UnpackedIndex.{UnpackedIndex}
use Rattle.wasm_readers_types.specs.WasmReadersValues.declared.values.ValType.{ValType}
use Rattle.wasm_typing_control.specs.WasmTypingChecks.WasmSpecSteps.Actions.{label}
use Rattle.wasm_typing_control.specs.WasmTypingChecks.WasmSpecSteps.Matching.{matches_vals}
use Rattle.wasm_typing_control.specs.WasmTypingChecks.WasmValidatorResources.Answers.{world}
use Rattle.wasm_typing_control.specs.WasmTypingChecks.WasmTypingStacks.declared.stacks.Stacks.{Stacks}
use Rattle.wasm_typing_control.specs.WasmTypingChecks.Steps.{typed}
use Rattle.wasm_typing_blocks.specs.ExceptionOperands.{exception_val, sends}

and_false : (b : Bool) → (b && false) ≡ false
and_false true = refl
and_false false = refl

more_than_none : (n : ℕ) → (suc n == 0) ≡ false
more_than_none n = grind (arith, nat_tests)

module _ (W : World UnpackedIndex) where
  -- with one more behind them
  pub nothing_taken : (xs : List ValType) (u : Val UnpackedIndex) → false ≡ matches_vals W (map val_of xs ++ u ∷ []) []
  nothing_taken [] u = refl
  nothing_taken (x ∷ xs) u = refl

  longer : (vs : List (Val UnpackedIndex)) (u : Val UnpackedIndex) → matches_vals W (vs ++ u ∷ []) [] ≡ false
  longer [] u = refl
  longer (v ∷ vs) u = refl

  pub more_sent : (xs : List ValType) (u v : Val UnpackedIndex) → (length xs == 0) ≡ false → false ≡ matches_vals W (map val_of xs ++ u ∷ []) (v ∷ [])
  more_sent [] u v h = let q : true ≡ false = h in cc
  more_sent (x ∷ xs) u v h = sym (ap (λ b. matches_val W (val_of x) v && b) (longer (map val_of xs) u) ∙ and_false (matches_val W (val_of x) v))

  pub only_sent : (xs : List ValType) (u v w : Val UnpackedIndex) (b : Bool) → (length xs == 0) ≡ true → w ≡ v → b ≡ matches_val W u w → b ≡ matches_vals W (map val_of xs ++ u ∷ []) (v ∷ [])
  only_sent [] u v w b h e f = f ∙ ap (matches_val W u) e ∙ sym (and-true (matches_val W u v))
  only_sent (x ∷ xs) u v w b h e f = let q : true ≡ false = sym h ∙ more_than_none (length xs) in cc

  pub empty_taken : (xs ys : List ValType) (u : Val UnpackedIndex) → length ys ≡ 0 → false ≡ matches_vals W (map val_of xs ++ u ∷ []) (map val_of ys)
  empty_taken xs [] u h = nothing_taken xs u
  empty_taken xs (y ∷ ys) u h = absurd (omega arith)

  and_assoc : (a b c : Bool) → ((a && b) && c) ≡ (a && (b && c))
  and_assoc true b c = refl
  and_assoc false b c = refl

  last_apart : (xs ys : List ValType) (u : Val UnpackedIndex) (d : ValType) (n : ℕ) → length ys ≡ suc n → (matches_vals W (map val_of xs) (map val_of (take n ys)) && matches_val W u (val_of (get_or ys n d))) ≡ matches_vals W (map val_of xs ++ u ∷ []) (map val_of ys)
  last_apart xs [] u d n h = absurd (omega arith)
  last_apart [] (y ∷ []) u d zero h = sym (and-true (matches_val W u (val_of y)))
  last_apart (x ∷ xs) (y ∷ []) u d zero h = sym (ap (λ b. matches_val W (val_of x) (val_of y) && b) (longer (map val_of xs) u) ∙ and_false (matches_val W (val_of x) (val_of y)))
  last_apart xs (y ∷ z ∷ ys) u d zero h = absurd (omega arith)
  last_apart xs (y ∷ []) u d (suc n) h = absurd (omega arith)
  last_apart [] (y ∷ z ∷ ys) u d (suc n) h = sym (and_false (matches_val W u (val_of y)))
  last_apart (x ∷ xs) (y ∷ z ∷ ys) u d (suc n) h = and_assoc (matches_val W (val_of x) (val_of y)) _ _ ∙ ap (λ b. matches_val W (val_of x) (val_of y) && b) (last_apart xs (z ∷ ys) u d n (omega arith))

  two_apart : (xs ys zs : List ValType) (u : Val UnpackedIndex) (d : ValType) (count : ℕ) → count ≡ length ys → count ≢ 0 → zs ≡ take (count - 1) ys
      → (matches_vals W (map val_of xs) (map val_of zs) && matches_val W u (val_of (get_or ys (count - 1) d))) ≡ matches_vals W (map val_of xs ++ u ∷ []) (map val_of ys)
  two_apart xs ys zs u d count e h f = let q : length ys ≡ suc (count - 1) = omega arith in rw f (last_apart xs ys u d (count - 1) q)

  pub all_sent : (xs ys zs : List ValType) (u : Val UnpackedIndex) (d : ValType) (count : ℕ) (b c : Bool) → count ≡ length ys → count ≢ 0 → zs ≡ take (count - 1) ys → b ≡ matches_vals W (map val_of xs) (map val_of zs) → b ≡ true → d ≡ get_or ys (count - 1) d
      → c ≡ matches_val W u (val_of d) → c ≡ matches_vals W (map val_of xs ++ u ∷ []) (map val_of ys)
  all_sent xs ys zs u d count b c e h f g t q k =
      k ∙ ap (λ x. matches_val W u (val_of x)) q ∙ ap (λ a. a && matches_val W u (val_of (get_or ys (count - 1) d))) (sym t ∙ g) ∙ two_apart xs ys zs u d count e h f

  pub front_unsent : (xs ys zs : List ValType) (u : Val UnpackedIndex) (count : ℕ) (b : Bool) → count ≡ length ys → count ≢ 0 → zs ≡ take (count - 1) ys → b ≡ matches_vals W (map val_of xs) (map val_of zs) → b ≡ false → false ≡ matches_vals W (map val_of xs ++ u ∷ []) (map val_of ys)
  front_unsent xs [] zs u count b e h f g t = absurd (h e)
  front_unsent xs (y ∷ ys) zs u count b e h f g t = ap (λ a. a && matches_val W u (val_of (get_or (y ∷ ys) (count - 1) y))) (sym t ∙ g) ∙ two_apart xs (y ∷ ys) zs u y count e h f

pub ruleset listings = (empty_taken, all_sent, front_unsent)

pub ruleset matchings = (nothing_taken, more_sent, only_sent)

module _ {A : Type 0} (v : Stacks A) (C : Context UnpackedIndex) where
  pub sent_nowhere : (vs : List (Val UnpackedIndex)) (n : ℕ) → typed v C (label n) ≡ None → false ≡ sends v C vs n
  unfolding sends typed
  sent_nowhere vs n e = rw e refl

  pub sent_to : (vs ws : List (Val UnpackedIndex)) (n : ℕ) (b : Bool) → typed v C (label n) ≡ Some ws → b ≡ matches_vals (world C) vs ws → b ≡ sends v C vs n
  unfolding sends typed
  sent_to vs ws n b e f = rw e f

  pub sent_with : (vs ws : List (Val UnpackedIndex)) (x : Val UnpackedIndex) (n : ℕ) (b c : Bool) → typed v C (label n) ≡ Some ws → x ≡ exception_val → c ≡ matches_vals (world C) (vs ++ x ∷ []) ws → c ≡ b → b ≡ sends v C (vs ++ exception_val ∷ []) n
  sent_with vs ws x n b c e f g h = sent_to (vs ++ exception_val ∷ []) ws n b e (sym h ∙ g ∙ ap (λ y. matches_vals (world C) (vs ++ y ∷ []) ws) f)

pub ruleset sendings = (sent_nowhere, sent_to)

pub ruleset exceptions = (sent_to)
