-- Function types as they are written, by the text format. Core Specification 3.0, Text Format, Types (Function Types).
use Rattle.std.specs.Prelude.{ℕ, List, [], ◌∷◌, ◌++◌, codes}
use Rattle.std.specs.List.{flat_map}
use Rattle.wasm_readers_values.specs.WasmSpec.Syntax.{Val}
use Rattle.wasm_readers_values.specs.Texts.{val_text}
use Rattle.wasm_readers_values.specs.declared.indices.UnpackedIndex.{UnpackedIndex}

-- value types, each with a space before it
abbrev pub spaced : List (Val UnpackedIndex) → List ℕ
spaced vs = flat_map (λ v. codes " " ++ val_text v) vs

-- value types behind a word, with a brace at the end, and nothing where there are none
abbrev pub values_text : List ℕ → List (Val UnpackedIndex) → List ℕ
values_text word [] = []
values_text word (v ∷ vs) = word ++ (spaced (v ∷ vs) ++ codes ")")

-- what a function type takes and gives: ` (param i32 i64) (result f32)`
abbrev pub signature_text : List (Val UnpackedIndex) → List (Val UnpackedIndex) → List ℕ
signature_text params results = values_text (codes " (param") params ++ values_text (codes " (result") results

-- a function type: `(func (param i32 i64) (result f32))`
abbrev pub function_text : List (Val UnpackedIndex) → List (Val UnpackedIndex) → List ℕ
function_text params results = codes "(func" ++ (signature_text params results ++ codes ")")
