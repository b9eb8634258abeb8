use Rattle.std.proofs.Common.{ℕ, ◌≡◌, Bool, true, false, List, Option, Some, ap, ◌∙◌, refl}
use Rattle.std.proofs.lemmas.Str.{IsUtf8-from_is_utf8, is_utf8-from_IsUtf8}
use Rattle.std.specs.Option.{unwrap_or}
use Rattle.std.specs.Str.{is_utf8}
use Rattle.bitflags.specs.Sets.{Row, find_name}
use Rattle.wasm_validator_handles.specs.Names.{bits_named}
use Rattle.wasm_validator_handles.proofs.names.find_feature.Goals as goal

no_text : (b : Bool) → (b ≡ true → ⊥) → b ≡ false
no_text true n = absurd (n refl)
no_text false n = refl

named : (table : List Row) (name text : List ℕ) (bits n : ℕ) → is_utf8 name ≡ true → text ≡ name → Some n ≡ find_name table text → bits ≡ n → bits ≡ bits_named table name
named table name text bits n u e f g = rw u (g ∙ ap (λ (o : Option ℕ). unwrap_or o 0) (f ∙ ap (find_name table) e))

unnamed : (table : List Row) (name : List ℕ) → (is_utf8 name ≡ true → ⊥) → 0 ≡ bits_named table name
unnamed table name n = let no = no_text (is_utf8 name) n in rw no refl

pub returns-in-Some : goal.returns-in-Some
returns-in-Some c =
    named _ c.args.name.now c.in-Ok.text.now c.bits.result c.in-Some.feature.0 (is_utf8-from_IsUtf8 c.args.name.now c.in-Ok.ensures.cases.1)
    c.in-Ok.ensures.cases.0 (c.in-Some.ensures tt) (c.bits.ensures tt)

pub returns-in-Err : goal.returns-in-Err
returns-in-Err c = unnamed _ c.args.name.now (λ t. c.in-Err.ensures.cases.0 (IsUtf8-from_is_utf8 c.args.name.now t))
