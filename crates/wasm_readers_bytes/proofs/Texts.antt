use Rattle.std.proofs.Common.{◌≡◌, ◌≤◌, ℕ, Bool, true, false, List, [], length, drop, Some, None, cond, eqb, leb, refl, sym, ap, arith}
use Rattle.std.proofs.lemmas.Bool.{eqb-true, leb-true, le-leb}
use Rattle.std.specs.Str.{IsUtf8, is_utf8}
use Rattle.std.proofs.lemmas.Str.{is_utf8-from_IsUtf8, IsUtf8-from_is_utf8}
use Rattle.std.proofs.lemmas.List.{length-drop, nil_from_length}
use Rattle.wasm_readers_errors.specs.WasmSpec.Values.{sized_at, name_at}

pub name_from_text : (bytes : List ℕ) (part : List ℕ × List ℕ) → sized_at bytes ≡ Some part → IsUtf8 part.0 → name_at bytes ≡ Some part
name_from_text bytes part e u = rw e (rw (is_utf8-from_IsUtf8 part.0 u) refl)

not_text : (b : Bool) (part : List ℕ) (x : List ℕ × List ℕ) → is_utf8 part ≡ b → ¬ IsUtf8 part → cond b (Some x) None ≡ None
not_text true part x e n = absurd (n (IsUtf8-from_is_utf8 part e))
not_text false part x e n = refl

pub no_name_from_no_text : (bytes : List ℕ) (part : List ℕ × List ℕ) → sized_at bytes ≡ Some part → ¬ IsUtf8 part.0 → name_at bytes ≡ None
no_name_from_no_text bytes part e n = rw e (not_text (is_utf8 part.0) part.0 part refl n)

pub nothing_left : (k : ℕ) (xs : List ℕ) → length xs ≤ k → drop k xs ≡ []
nothing_left k xs le = nil_from_length (drop k xs) (omega (arith, length-drop k xs))

pub none_left : (k : ℕ) (xs : List ℕ) → drop k xs ≡ [] → length xs ≤ k
none_left k xs e = omega (arith, length-drop k xs, ap length e)

same_tests : (a b : Bool) → (a ≡ true → b ≡ true) → (b ≡ true → a ≡ true) → a ≡ b
same_tests true true f g = refl
same_tests true false f g = sym (f refl)
same_tests false true f g = g refl
same_tests false false f g = refl

pub past_is_empty : (k : ℕ) (xs : List ℕ) → leb (length xs) k ≡ eqb (length (drop k xs)) 0
past_is_empty k xs =
    same_tests (leb (length xs) k) (eqb (length (drop k xs)) 0)
    (λ t. let le : length xs ≤ k = leb-true _ _ t in let e : length (drop k xs) ≡ 0 = omega (arith, length-drop k xs) in rw e refl)
    (λ t. le-leb _ _ (omega (arith, length-drop k xs, eqb-true _ _ t)))
