-- Fields that have defaults, one by one.
use Rattle.std.proofs.Common.{◌≡◌, ℕ, ◌+◌, ◌<◌, ◌≤◌, Bool, true, false, ◌&&◌, List, [], ◌∷◌, length, drop, map, get_or, refl, sym, ◌∙◌, add-one, arith}
use Rattle.std.specs.Prelude.{zero, suc}
use Rattle.wasm_readers_types.specs.WasmReadersValues.SeenValues.{field_of}
use Rattle.wasm_readers_types.specs.WasmReadersValues.declared.values.FieldType.{FieldType}
use Rattle.wasm_typing_checks.specs.WasmSpecSteps.Meanings.{has_default, unpack_field, all_have_defaults}

-- the fields from a place on
abbrev pub from_on : List FieldType → ℕ → Bool
from_on xs n = all_have_defaults (map field_of (drop n xs))

one_more : (xs : List FieldType) (n : ℕ) (x : FieldType) → n < length xs → from_on xs n ≡ (has_default (unpack_field (field_of (get_or xs n x))) && from_on xs (suc n))
one_more [] n x h = absurd (omega arith)
one_more (y ∷ ys) zero x h = refl
one_more (y ∷ ys) (suc n) x h = one_more ys n x (omega arith)

past_all : (n : ℕ) (xs : List FieldType) → length xs ≤ n → from_on xs n ≡ true
past_all zero [] h = refl
past_all (suc n) [] h = refl
past_all zero (x ∷ xs) h = absurd (omega arith)
past_all (suc n) (x ∷ xs) h = past_all n xs (omega arith)

pub goes_on : (xs : List FieldType) (n : ℕ) (x : FieldType) → n < length xs → all_have_defaults (map field_of xs) ≡ from_on xs n → true ≡ has_default (unpack_field (field_of (get_or xs n x))) → all_have_defaults (map field_of xs) ≡ from_on xs (n + 1)
goes_on xs n x h e f = e ∙ one_more xs n x h ∙ rw (← f, add-one n) refl

pub stops : (xs : List FieldType) (n : ℕ) (x : FieldType) → n < length xs → all_have_defaults (map field_of xs) ≡ from_on xs n → false ≡ has_default (unpack_field (field_of (get_or xs n x))) → false ≡ all_have_defaults (map field_of xs)
stops xs n x h e f = sym (e ∙ one_more xs n x h ∙ rw (← f) refl)

pub ends : (xs : List FieldType) (n : ℕ) → length xs ≤ n → all_have_defaults (map field_of xs) ≡ from_on xs n → true ≡ all_have_defaults (map field_of xs)
ends xs n h e = sym (e ∙ past_all n xs h)

pub ruleset defaults = (goes_on, stops, ends)
