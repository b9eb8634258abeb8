-- Bytes that are indices of functions, one each, are passed at once.
use Rattle.std.proofs.Common.{◌≡◌, ◌∙◌, refl, sym, ap, ℕ, zero, suc, ◌<◌, ◌≤◌, ◌^◌, nat_lt, if◌then◌else◌, Bool, true, false, List, [], ◌∷◌, ◌++◌, length, take, drop, slice_get, Option, Some, None, is_some, option_map, arith}
use Rattle.std.proofs.lemmas.Bool.{lt-ltb, ltb-false}
use Rattle.std.proofs.lemmas.List.{take-append-drop, length-take-le}
use Rattle.std.specs.Option.{option_and_then}
use Rattle.wasm_spec.specs.Values.{u32_at, bytes_at}
use Rattle.wasm_spec_rules.specs.Contexts.{Context}
use Rattle.wasm_readers_types.specs.WasmReadersValues.declared.indices.UnpackedIndex.{UnpackedIndex}
use Rattle.wasm_validator_constants.specs.WasmValidatorReferences.Notes.{noting}
use Rattle.wasm_validator_segments.specs.Elements.{behind_function}
use Rattle.wasm_validator_segments.specs.Lists.{behind_many}
use Rattle.wasm_validator_segments.specs.FunctionIndices.{AreAtMost, AreFunctions, NameThemselves}
use Rattle.wasm_validator_segments.specs.NamedFunctions.{itself, names_of_functions}

-- a byte below 128 is a number alone
single : (n : ℕ) (more : List ℕ) → n < 128 → u32_at (n ∷ more) ≡ Some (n, more)
single n more h =
    let low : nat_lt n (2 ^ 7) ≡ true = lt-ltb n (2 ^ 7) (omega (arith, h)) in
    let fits : nat_lt n (2 ^ 32) ≡ true = lt-ltb n (2 ^ 32) (omega (arith, h)) in
    rw (low, fits) refl

-- where one is there, those before it are
has_below : {X : Type 0} (xs : List X) (i j : ℕ) → i ≤ j → is_some (slice_get xs j) ≡ true → is_some (slice_get xs i) ≡ true
has_below [] i zero h s = absurd cc
has_below [] i (suc j) h s = absurd cc
has_below (x ∷ xs) zero j h s = refl
has_below (x ∷ xs) (suc i) zero h s = absurd (omega (arith, h))
has_below (x ∷ xs) (suc i) (suc j) h s = has_below xs i j (omega (arith, h)) s

there : {X Y : Type 0} (o : Option X) (y : Y) → is_some o ≡ true → option_map (λ x. y) o ≡ Some y
there None y h = absurd cc
there (Some x) y h = refl

-- so many bytes, and those behind them
abbrev Parted : Type 0
Parted = List ℕ × List ℕ

abbrev cut : ℕ → List ℕ → Parted
cut n xs = (take n xs, drop n xs)

module _ (C : Context UnpackedIndex) where
  one_function : (b most : ℕ) (more : List ℕ) → b < 128 → b ≤ most → is_some (slice_get C.functions most) ≡ true → behind_function C (b ∷ more) ≡ Some more
  unfolding behind_function
  one_function b most more low at has =
      ap (λ (o : Option (ℕ × List ℕ)). option_and_then (λ x. option_map (λ f. x.1) (slice_get C.functions x.0)) o) (single b more low)
      ∙ there (slice_get C.functions b) more (has_below C.functions b most at has)

  pub known : (most : ℕ) (bytes : List ℕ) → most < 128 → is_some (slice_get C.functions most) ≡ true → AreAtMost most bytes → AreFunctions C bytes
  known most [] low has all more = refl
  known most (b ∷ bytes) low has all more =
      let first : b ≤ most = all zero (omega arith) in
      ap (option_and_then (behind_many (behind_function C) (length bytes))) (one_function b most (bytes ++ more) (omega (arith, first, low)) first has)
      ∙ known most bytes low has (λ i h. all (suc i) (omega (arith, h))) more

  pub name_themselves : (most : ℕ) (bytes : List ℕ) → most < 128 → AreAtMost most bytes → NameThemselves bytes
  name_themselves most [] low all more = refl
  name_themselves most (b ∷ bytes) low all more =
      let first : b ≤ most = all zero (omega arith) in
      ap (λ (o : Option (ℕ × List ℕ)). elim o [ None ↦ [] | Some x ↦ itself x.0 ++ names_of_functions (length bytes) x.1 ]) (single b (bytes ++ more) (omega (arith, first, low)))
      ∙ ap (λ (xs : List ℕ). b ∷ xs) (name_themselves most bytes low (λ i h. all (suc i) (omega (arith, h))) more)

  cut_by : (n : ℕ) (xs : List ℕ) (p : Parted) (c : Bool) → c ≡ nat_lt (length xs) n → (if c then None else Some (cut n xs)) ≡ Some p → (length p.0 ≡ n) × (xs ≡ p.0 ++ p.1)
  cut_by n xs p true h e = cc
  cut_by n xs p false h e =
      let same : cut n xs ≡ p = cc in
      let enough : n ≤ length xs = ltb-false (length xs) n (sym h) in
      let front : take n xs ≡ p.0 = ap (λ (q : Parted). q.0) same in
      let back : drop n xs ≡ p.1 = ap (λ (q : Parted). q.1) same in
      (sym (ap (λ (l : List ℕ). length l) front) ∙ length-take-le n xs enough, sym (take-append-drop n xs) ∙ (λ i. front i ++ back i))

  pub all_passed : (n : ℕ) (xs ys zs : List ℕ) → bytes_at n xs ≡ Some (ys, zs) → AreFunctions C ys → behind_many (behind_function C) n xs ≡ Some zs
  all_passed n xs ys zs e h =
      let p : Parted = (ys, zs) in
      let parts = cut_by n xs p (nat_lt (length xs) n) refl e in
      (λ i. behind_many (behind_function C) (sym parts.0 i) (parts.1 i)) ∙ h zs

  pub all_named : {S : Type 0} (note : ℕ → S → S) (kept next : S) (n : ℕ) (xs ys zs : List ℕ) → bytes_at n xs ≡ Some (ys, zs) → NameThemselves ys → next ≡ noting note ys kept → next ≡ noting note (names_of_functions n xs) kept
  all_named note kept next n xs ys zs e h f =
      let p : Parted = (ys, zs) in
      let parts = cut_by n xs p (nat_lt (length xs) n) refl e in
      f ∙ ap (λ (names : List ℕ). noting note names kept) (sym ((λ i. names_of_functions (sym parts.0 i) (parts.1 i)) ∙ h zs))
