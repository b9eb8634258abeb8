use Rattle.std.proofs.Common.{All, sym, subst, ◌∙◌}
use Rattle.std.proofs.StrCases.{chars_of_empty}
use Rattle.std.proofs.lemmas.Str.{IsUtf8-past_char, chars_past_char}
use Rattle.std.proofs.lemmas.List.Elements.{All-nil, All-cons}
use Rattle.wasm_validate_files.proofs.Escapes.{IsVisible}
use Rattle.wasm_validate_files.proofs.printable.has_hidden.Goals as goal

pub letters-preserved : goal.letters-preserved
letters-preserved c =
    let before = c.letters.invariant in
    let letter = c.in-Some.letter in
    let parts = c.in-Some.ensures.steps.0 in
    let here = sym c.is_hidden.ensures ∙ c.if-is_hidden.false in
    record {
      utf8 = IsUtf8-past_char _ _ letter before.utf8 parts;
      so_far = λ rest. before.so_far (subst (All IsVisible) (sym (chars_past_char _ _ letter before.utf8 parts)) (All-cons IsVisible letter _ here rest));
    }

pub returns : goal.returns
returns c = λ _. c.letters.invariant.so_far (subst (All IsVisible) (sym (chars_of_empty _ c.in-None.ensures.steps.0.0)) (All-nil IsVisible))
