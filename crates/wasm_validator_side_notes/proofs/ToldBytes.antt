-- What a fast step tells of an operator is what its first byte says.
use Rattle.std.proofs.Common.{◌≡◌, ◌≤◌, ◌<◌, ◌==◌, refl, subst, ℕ, zero, suc, ◌+◌, ◌-◌, Bool, true, false, Option, Some, None, arith, if◌then◌else◌, nat_lt}
use Rattle.std.proofs.lemmas.Bool.Decides.{nat_tests, Decides-eqb}
use Rattle.std.specs.Prelude.{⊤}
use Rattle.wasm_validator_func.specs.WasmTypingValidator.WasmTypingSteps.ToldSteps.{told_of}
use Rattle.wasm_validator_func.specs.WasmTypingValidator.WasmTypingSteps.declared.told.Told.{Told}
use Rattle.wasm_validator_func.specs.WasmTypingValidator.WasmTypingSteps.declared.told.Told.TheVariants as told
use Rattle.wasm_spec_side_tables.proofs.Lists.{the_same}
use Rattle.wasm_validator_side_notes.specs.OperatorNotes.{IsQuiet}
use Rattle.wasm_validator_side_notes.proofs.Opcodes.{quiet_high, quiet_00, quiet_01, quiet_0f, quiet_10, quiet_11, quiet_1a, quiet_1b}

-- what is told, of the first byte
abbrev pub Said : Told → ℕ → Type 0
Said told.Quiet b = IsQuiet b
Said told.Opens b = b ≡ 0x02
Said told.OpensLoop b = b ≡ 0x03
Said told.OpensThen b = b ≡ 0x04
Said told.Closes b = b ≡ 0x0b
Said told.Branches b = b ≡ 0x0c
Said told.BranchesPerhaps b = b ≡ 0x0d
Said _ b = ⊤

is_below : (b m : ℕ) → nat_lt b m ≡ true → b < m
is_below b m e = grind (arith, nat_tests)

is_not_below : (b m : ℕ) → nat_lt b m ≡ false → m ≤ b
is_not_below b m e = grind (arith, nat_tests)

is_byte : (b m : ℕ) → (b == m) ≡ true → b ≡ m
is_byte b m e = (Decides-eqb b m).0 e

is_past : (b m : ℕ) → (b == m) ≡ false → m ≤ b → m + 1 ≤ b
is_past b m e h = grind (arith, nat_tests)

-- one of two, by a test
pick : (P : Type 0) (t : Bool) (x y z : Option Told) → (t ≡ true → x ≡ z → P) → (t ≡ false → y ≡ z → P) → (if t then x else y) ≡ z → P
pick P true x y z f g e = f refl e
pick P false x y z f g e = g refl e

first_two : (b : ℕ) → b < 0x02 → IsQuiet b
first_two zero h = quiet_00 zero refl
first_two (suc zero) h = quiet_01 (suc zero) refl
first_two (suc (suc n)) h = absurd (omega (arith, h))

calls : (k b : ℕ) → b ≡ 0x0f + k → k < 3 → IsQuiet b
calls zero b e h = quiet_0f b (omega arith)
calls (suc zero) b e h = quiet_10 b (omega arith)
calls (suc (suc zero)) b e h = quiet_11 b (omega arith)
calls (suc (suc (suc n))) b e h = absurd (omega (arith, h))

choices : (k b : ℕ) → b ≡ 0x1a + k → k < 2 → IsQuiet b
choices zero b e h = quiet_1a b (omega arith)
choices (suc zero) b e h = quiet_1b b (omega arith)
choices (suc (suc n)) b e h = absurd (omega (arith, h))

module _ (b : ℕ) (t : Told) where
  so : (u : Told) → Said u b → Some u ≡ Some t → Said t b
  so u s h = subst (λ (x : Told). Said x b) (the_same u t h) s

  never : None ≡ Some t → Said t b
  never h = absurd cc

  pub told_said : told_of b ≡ Some t → Said t b
  told_said e =
      pick (Said t b) (nat_lt b 0x02) _ _ _ (λ c h. so told.Quiet (first_two b (is_below b 0x02 c)) h) (λ c1 h1.
      pick (Said t b) (b == 0x02) _ _ _ (λ c h. so told.Opens (is_byte b 0x02 c) h) (λ c2 h2.
      pick (Said t b) (b == 0x03) _ _ _ (λ c h. so told.OpensLoop (is_byte b 0x03 c) h) (λ c3 h3.
      pick (Said t b) (b == 0x04) _ _ _ (λ c h. so told.OpensThen (is_byte b 0x04 c) h) (λ c4 h4.
      pick (Said t b) (nat_lt b 0x0b) _ _ _ (λ c h. never h) (λ c5 h5.
      pick (Said t b) (b == 0x0b) _ _ _ (λ c h. so told.Closes (is_byte b 0x0b c) h) (λ c6 h6.
      pick (Said t b) (b == 0x0c) _ _ _ (λ c h. so told.Branches (is_byte b 0x0c c) h) (λ c7 h7.
      pick (Said t b) (b == 0x0d) _ _ _ (λ c h. so told.BranchesPerhaps (is_byte b 0x0d c) h) (λ c8 h8.
      pick (Said t b) (b == 0x0e) _ _ _ (λ c h. never h) (λ c9 h9.
      pick (Said t b) (nat_lt b 0x12) _ _ _
      (λ c h.
      let l5 : 0x0b ≤ b = is_not_below b 0x0b c5 in
      let l6 : 0x0b + 1 ≤ b = is_past b 0x0b c6 l5 in
      let l7 : 0x0c + 1 ≤ b = is_past b 0x0c c7 l6 in
      let l8 : 0x0d + 1 ≤ b = is_past b 0x0d c8 l7 in
      let l9 : 0x0e + 1 ≤ b = is_past b 0x0e c9 l8 in
      let l : b < 0x12 = is_below b 0x12 c in
      so told.Quiet (calls (b - 0x0f) b (omega arith) (omega arith)) h)
      (λ c10 h10.
      pick (Said t b) (nat_lt b 0x1a) _ _ _ (λ c h. never h) (λ c11 h11.
      pick (Said t b) (nat_lt b 0x1c) _ _ _
      (λ c h.
      let l11 : 0x1a ≤ b = is_not_below b 0x1a c11 in
      let l : b < 0x1c = is_below b 0x1c c in
      so told.Quiet (choices (b - 0x1a) b (omega arith) (omega arith)) h)
      (λ c12 h12.
      pick (Said t b) (nat_lt b 0x20) _ _ _ (λ c h. never h) (λ c13 h13.
      pick (Said t b) (nat_lt b 0xd0) _ _ _ (λ c h. so told.Quiet (quiet_high b (is_not_below b 0x20 c13) (is_below b 0xd0 c)) h) (λ c14 h14. never h14)
      h13) h12) h11) h10) h9) h8) h7) h6) h5) h4) h3) h2) h1) e
