-- What is said of the words on the command line.
use Rattle.std.specs.Prelude.{ℕ, ◌≡◌, List, string_bytes, String, ⊤}
use Rattle.std.specs.Str.{IsUtf8}
use Rattle.std.specs.declared.alloc.Global.{Global}
use Rattle.wasm_validate_files.specs.declared.words.Word.{Word}
use Rattle.wasm_validate_files.specs.declared.words.Word.TheVariants.{Path, NoText}

-- The word with these bytes is a path of that text, or they are no text.
abbrev pub IsWordOf : List ℕ → Word → Type 0
IsWordOf bytes (Path name) = string_bytes name ≡ bytes
IsWordOf bytes (NoText name) = IsUtf8 bytes → ⊥

-- what a file is called that this word names
abbrev pub name_of : Word → String Global
name_of (Path name) = name
name_of (NoText name) = name

abbrev pub IsNoText : Word → Type 0
IsNoText (Path name) = ⊥
IsNoText (NoText name) = ⊤
