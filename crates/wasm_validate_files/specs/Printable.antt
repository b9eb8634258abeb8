-- How a line shows text that others wrote, as the name of a file or of an export.
use Rattle.std.specs.Prelude.{ℕ, ◌==◌, ◌||◌, Bool, if◌then◌else◌, List, [], ◌∷◌, flat_map, chars, codes, encode_utf8_all}
use Rattle.std.specs.Char.{is_control}
use Rattle.std.specs.Char.Escape.{escape_default}
use Rattle.std.specs.Int.{is_in_range}

-- A control character, a line or paragraph separator, or a mark that changes the direction of text.
abbrev pub is_hidden : ℕ → Bool
is_hidden c = is_control c || c == 0x61C || is_in_range 0x200E 0x200F c || is_in_range 0x2028 0x202E c || is_in_range 0x2066 0x2069 c

-- The escape of such a character: `\0`, `\t`, `\r`, `\n`, or `\u{..}`.
abbrev pub escape : ℕ → List ℕ
escape c = if c == 0 then codes "\\0" else escape_default c

-- what stands for a character
abbrev pub visible : ℕ → List ℕ
visible c = if is_hidden c then escape c else (c ∷ [])

-- The text with escapes for these characters, and all others as they are.
abbrev pub printable : List ℕ → List ℕ
printable text = encode_utf8_all (flat_map visible (chars text))
