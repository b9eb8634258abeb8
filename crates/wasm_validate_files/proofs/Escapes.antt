-- Of a text with escapes, piece by piece.
use Rattle.std.proofs.Common.{ℕ, ◌≡◌, List, [], ◌∷◌, ◌++◌, length, Bool, true, false, if◌then◌else◌, All, flat_map, chars, codes, Result, Ok, Err, IsOk, OnOk, encode_utf8, encode_utf8_all, IsUtf8, refl, sym, ap, ◌∙◌, arith, ne_eqb, append_assoc}
use Rattle.std.proofs.StrCases.{chars_of_empty}
use Rattle.std.proofs.lemmas.Str.{chars-append, chars_past_char, encodes-append, encodes-chars, encodes-IsAscii}
use Rattle.std.proofs.lemmas.List.Elements.{All-head, All-tail}
use Rattle.std.specs.Char.Escape.{escape_default}
use Rattle.wasm_validate_files.specs.Printable.{escape, is_hidden, visible, printable}

-- The character stays as it is.
abbrev pub IsVisible : ℕ → Type 0
IsVisible c = is_hidden c ≡ false

pub visible_as_is : (c : ℕ) → is_hidden c ≡ false → visible c ≡ c ∷ []
visible_as_is c e = ap (λ (b : Bool). if b then escape c else (c ∷ [])) e

pub visible_escaped : (c : ℕ) → is_hidden c ≡ true → visible c ≡ escape c
visible_escaped c e = ap (λ (b : Bool). if b then escape c else (c ∷ [])) e

pub escape_zero : (c : ℕ) → c ≡ 0 → codes "\\0" ≡ encode_utf8_all (escape c)
escape_zero c e = sym (encodes-IsAscii (codes "\\0") (λ i. search arith)) ∙ ap (λ (d : ℕ). encode_utf8_all (escape d)) (sym e)

pub escape_other : (c : ℕ) → (c ≡ 0 → ⊥) → escape_default c ≡ escape c
escape_other c other = ap (λ (b : Bool). if b then codes "\\0" else escape_default c) (sym (ne_eqb c 0 other))

all_as_is : (cs : List ℕ) → All IsVisible cs → flat_map visible cs ≡ cs
all_as_is [] all = refl
all_as_is (c ∷ cs) all =
    ap (λ (front : List ℕ). front ++ flat_map visible cs) (visible_as_is c (All-head IsVisible c cs all)) ∙ ap (λ (rest : List ℕ). c ∷ rest) (all_as_is cs (All-tail IsVisible c cs all))

-- a text of such characters alone
pub printable_as_is : (text : List ℕ) → IsUtf8 text → All IsVisible (chars text) → printable text ≡ text
printable_as_is text utf8 all = ap encode_utf8_all (all_as_is (chars text) all) ∙ encodes-chars text utf8

-- the first character, and the rest
pub printable_step : (text rest : List ℕ) (c : ℕ) → IsUtf8 text → text ≡ encode_utf8 c ++ rest → printable text ≡ encode_utf8_all (visible c) ++ printable rest
printable_step text rest c utf8 e = ap (λ (cs : List ℕ). encode_utf8_all (flat_map visible cs)) (chars_past_char text rest c utf8 e) ∙ encodes-append (visible c) (flat_map visible (chars rest))

flat_map-append : {X Y : Type 0} (f : X → List Y) (xs ys : List X) → flat_map f (xs ++ ys) ≡ flat_map f xs ++ flat_map f ys
flat_map-append f [] ys = refl
flat_map-append f (x ∷ xs) ys = ap (λ (l : List _). f x ++ l) (flat_map-append f xs ys) ∙ sym (append_assoc (f x) (flat_map f xs) (flat_map f ys))

-- two texts, one after the other
pub printable_append : (text more : List ℕ) → IsUtf8 text → printable (text ++ more) ≡ printable text ++ printable more
printable_append text more utf8 =
    ap (λ (cs : List ℕ). encode_utf8_all (flat_map visible cs)) (chars-append text more utf8)
    ∙ ap encode_utf8_all (flat_map-append visible (chars text) (chars more))
    ∙ encodes-append (flat_map visible (chars text)) (flat_map visible (chars more))

pub printable_empty : (text : List ℕ) → length text ≡ 0 → printable text ≡ []
printable_empty text none = ap (λ (cs : List ℕ). encode_utf8_all (flat_map visible cs)) (chars_of_empty text none)

-- what holds if there is no error
pub on_ok : {T E : Type 0} (r : Result T E) (P : Type 0) → (IsOk r → P) → OnOk r P
on_ok (Ok x) P p = p refl
on_ok (Err e) P p = tt
