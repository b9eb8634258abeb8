-- How the line of a file begins: its name, and the verdict.
use Rattle.std.specs.Prelude.{ℕ, ◌≡◌, Bool, true, false, List, [], ◌∷◌, ◌++◌, Option, Some, None, codes}
use Rattle.std.specs.declared.result.Result.{Result}
use Rattle.std.specs.declared.result.Result.TheVariants.{Ok, Err}
use Rattle.wasm_validate_files.specs.Printable.{printable}
use Rattle.wasm_validate_files.specs.WasmValidatorTypes.declared.shown.Types as shown
use Rattle.wasm_validate_files.specs.WasmValidatorCore.declared.error.Error.{Error}
use Rattle.wasm_validate_files.specs.WasmValidatorCore.declared.error.Error.TheVariants.{Refused, DuplicateExport, InFunction, OutOfMemory}

module _ {A : Type 0} where
  -- the verdict by an error
  abbrev pub refused_word : Error A → List ℕ
  refused_word (Refused r) = codes "invalid"
  refused_word (DuplicateExport n offset) = codes "invalid"
  refused_word (InFunction index r) = codes "invalid"
  refused_word OutOfMemory = codes "out of memory"

  -- the verdict of a file with this answer, or with none
  abbrev pub verdict_word : Option (Result (shown.Types A) (Error A)) → List ℕ
  verdict_word None = codes "not checked"
  verdict_word (Some (Ok t)) = codes "valid"
  verdict_word (Some (Err e)) = refused_word e

-- The text begins with the other.
abbrev pub Begins : List ℕ → List ℕ → Type 0
Begins front text = (rest : List ℕ) × (text ≡ front ++ rest)

-- A word as it is shown, in its color where colors are asked for. ECMA-48, Select Graphic Rendition.
abbrev pub shown_word : Bool → List ℕ → List ℕ → List ℕ
shown_word false color word = word
shown_word true color word = (27 ∷ codes "[") ++ (color ++ (codes "m" ++ (word ++ (27 ∷ codes "[0m"))))

module _ (is_colored : Bool) (name : List ℕ) where
  -- the name of a file, and behind it a verdict
  abbrev pub line_with : List ℕ → List ℕ → List ℕ
  line_with color word = printable name ++ (codes ": " ++ shown_word is_colored color word)

  module _ {A : Type 0} where
    -- nothing where memory was refused: that is said on the error output
    abbrev pub refused_line : Error A → List ℕ
    refused_line (Refused r) = line_with (codes "31") (codes "invalid")
    refused_line (DuplicateExport n offset) = line_with (codes "31") (codes "invalid")
    refused_line (InFunction index r) = line_with (codes "31") (codes "invalid")
    refused_line OutOfMemory = []

    -- How the line begins of a file with this answer, or with none.
    abbrev pub line_front : Option (Result (shown.Types A) (Error A)) → List ℕ
    line_front None = line_with (codes "33") (codes "not checked")
    line_front (Some (Ok t)) = line_with (codes "32") (codes "valid")
    line_front (Some (Err e)) = refused_line e
