-- Which bytes look like the text format. Core Specification 3.0, Text Format, Lexical Format.
use Rattle.std.specs.Prelude.{ℕ, ◌==◌, ◌||◌, ◌&&◌, Bool, false, if◌then◌else◌, List, [], ◌∷◌, codes}

-- white space: a blank, a tab, and the ends of lines
abbrev pub is_space : ℕ → Bool
is_space b = b == 32 || b == 9 || b == 10 || b == 13

abbrev pub begins_with : ℕ → List ℕ → Bool
begins_with b [] = false
begins_with b (first ∷ bs) = first == b

-- they begin with an opening parenthesis, or with a comment
abbrev pub opens_text : List ℕ → Bool
opens_text [] = false
opens_text (b ∷ bs) = b == 40 || (b == 59 && begins_with 59 bs)

-- They do so behind white space.
abbrev pub looks_like_text : List ℕ → Bool
looks_like_text [] = false
looks_like_text (b ∷ bs) = if is_space b then looks_like_text bs else opens_text (b ∷ bs)

-- what stands behind the message where bytes are refused
abbrev pub hint_of : List ℕ → List ℕ
hint_of bytes = if looks_like_text bytes then codes "; this looks like the text format, which is not read" else []
