-- The text of function types, from its parts.
use Rattle.std.proofs.Common.{◌≡◌, ℕ, arith, true, false, ◌==◌, List, [], ◌∷◌, ◌++◌, length, map, codes, Result, sym}
use Rattle.std.proofs.lemmas.Bool.{false≢true}
use Rattle.std.proofs.lemmas.Bool.Decides.{Decides-eqb}
use Rattle.std.specs.Fmt.{WritesOnOk}
use Rattle.std.specs.declared.fmt.Formatter.{Formatter}
use Rattle.std.specs.declared.fmt.Error.{Error}
use Rattle.wasm_readers_values.specs.SeenValues.{val_of}
use Rattle.wasm_readers_values.specs.declared.values.ValType.{ValType}
use Rattle.wasm_readers_types.specs.Texts.{spaced, values_text}

module _ {W : Type 0} (took : W → List ℕ → W → Type 0) (word : List ℕ) where
  pub written_some : (f g : Formatter W) (r : Result (Unit {0}) Error) (ts : List ValType) → (length ts == 0) ≡ false
      → WritesOnOk took f r (word ++ (spaced (map val_of ts) ++ codes ")")) g → WritesOnOk took f r (values_text word (map val_of ts)) g
  written_some f g r [] e w = absurd (false≢true (sym e))
  written_some f g r (t ∷ ts) e w = w

  pub written_none : (f g : Formatter W) (r : Result (Unit {0}) Error) (ts : List ValType) → (length ts == 0) ≡ true
      → WritesOnOk took f r [] g → WritesOnOk took f r (values_text word (map val_of ts)) g
  written_none f g r [] e w = w
  written_none f g r (t ∷ ts) e w = let none : length (t ∷ ts) ≡ 0 = (Decides-eqb (length (t ∷ ts)) 0).0 e in absurd (omega (arith, none))

pub ruleset texts = (written_some, written_none)
