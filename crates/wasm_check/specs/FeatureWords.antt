-- The features that words on the command line select.
use Rattle.std.specs.Prelude.{ℕ, ◌≡◌, ◌==◌, ◌&&◌, Bool, true, false, if◌then◌else◌, List, [], ◌∷◌, Option, Some, None, option_and_then, fold, take, slice_get, codes, Any}
use Rattle.std.specs.Char.{to_ascii_uppercase}
use Rattle.std.specs.Int.RustNames.{bit_or}
use Rattle.std.specs.Str.{bytes_eq}
use Rattle.bitflags.specs.Sets.{Row, without}
use Rattle.wasm_readers_errors.specs.WasmReadersFeatures.declared.features.WasmFeatures.{WasmFeatures}
use Rattle.wasm_readers_errors.specs.WasmReadersFeatures.declared.features.TheConstants.WasmFeatures.{STANDARD, ALL, THREADS, VECTOR_OPERATORS}

-- what the Core Specification 3.0 has: the default features with vectors and without threads
abbrev pub wasm3 : WasmFeatures
wasm3 = record { 0 = bit_or (without 64 STANDARD.0 THREADS.0) VECTOR_OPERATORS.0 }

-- the letter of a flag's name that this one stands for
abbrev pub flag_letter : ℕ → ℕ
flag_letter c = if c == 45 then 95 else to_ascii_uppercase c

-- the flag of the first name is meant by the second
abbrev pub is_named : List ℕ → List ℕ → Bool
is_named [] [] = true
is_named [] (c ∷ cs) = false
is_named (f ∷ fs) [] = false
is_named (f ∷ fs) (c ∷ cs) = (f == flag_letter c) && is_named fs cs

-- the bits of the first of these flags that the name means
abbrev pub bits_named : List Row → List ℕ → Option ℕ
bits_named [] name = None
bits_named (row ∷ rows) name = if is_named row.0 name then Some row.1 else bits_named rows name

-- the features with these more or less, as the sign says
abbrev pub with_sign : ℕ → WasmFeatures → ℕ → Option WasmFeatures
with_sign sign features bits =
    if sign == 43 then Some (record { 0 = bit_or features.0 bits })
    else if sign == 45 then Some (record { 0 = without 64 features.0 bits })
    else None

module _ (table : List Row) where
  -- the features behind a word that has a sign and a name
  abbrev pub with_named : WasmFeatures → List ℕ → Option WasmFeatures
  with_named features [] = None
  with_named features (sign ∷ name) = option_and_then (with_sign sign features) (bits_named table name)

  -- the features behind a word, if it selects some
  abbrev pub changed : WasmFeatures → List ℕ → Option WasmFeatures
  changed features word =
      if bytes_eq word (codes "default") then Some STANDARD
      else if bytes_eq word (codes "all") then Some ALL
      else if bytes_eq word (codes "wasm3") then Some wasm3
      else with_named features word

  -- the features behind words, one after another, from the default ones on
  abbrev pub selected : List (List ℕ) → Option WasmFeatures
  selected words = fold (λ before word. option_and_then (λ features. changed features word) before) (Some STANDARD) words

  -- The word is the first that selects none.
  pub record IsUnknown (words : List (List ℕ)) (word : List ℕ) : Type 0 where
    pub place : ℕ
    pub given : slice_get words place ≡ Some word
    pub features : WasmFeatures
    pub before : selected (take place words) ≡ Some features
    pub selects_none : changed features word ≡ None

-- The name is that of a flag.
abbrev pub IsFlagName : List Row → List ℕ → Type 0
IsFlagName table name = Any (λ row. row.0 ≡ name) table
