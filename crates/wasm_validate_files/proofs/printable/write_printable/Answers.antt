use Rattle.std.proofs.Common.{◌++◌, ℕ, List, encode_utf8_all, sym, ap, subst, ◌∙◌, append_assoc, append-nil, rules}
use Rattle.std.proofs.Output.{writes_in_calls_single, writes_in_calls_append}
use Rattle.std.proofs.lemmas.Str.{IsUtf8-past_char}
use Rattle.std.specs.Fmt.{WritesInCalls}
use Rattle.wasm_validate_files.specs.Printable.{visible}
use Rattle.wasm_validate_files.proofs.Escapes.{printable_as_is, printable_step, printable_empty, visible_escaped, visible_as_is, on_ok}
use Rattle.wasm_validate_files.proofs.printable.write_printable.Goals as goal

pub returns-then-not-has_hidden : goal.returns-then-not-has_hidden
returns-then-not-has_hidden g c =
    let same = printable_as_is c.args.text.now c.utf8.text (c.has_hidden.ensures c.if-not-has_hidden.true) in
    on_ok c.write_str.result _ (λ ok. writes_in_calls_single _ _ _ _ (subst (λ text. g.W.Write.write_str_gives c.args.out.now text c.write_str.new.self) (sym same) (c.write_str.ensures.ok ok)))

pub letters-preserved-in-Continue-1 : goal.letters-preserved-in-Continue-1
letters-preserved-in-Continue-1 g c =
    let before = c.letters.invariant in
    let letter = c.in-Some.letter in
    let parts = c.in-Some.ensures.steps.0 in
    let piece = visible_escaped letter (sym c.is_hidden.ensures ∙ c.if-is_hidden.true) in
    let step = printable_step _ _ letter before.utf8 parts in
    record {
      utf8 = IsUtf8-past_char _ _ letter before.utf8 parts;
      so_far = (
        before.so_far.0 ++ encode_utf8_all (visible letter),
        writes_in_calls_append _ _ _ _ _ _ before.so_far.1 (rw piece (search rules)),
        append_assoc before.so_far.0 (encode_utf8_all (visible letter)) _ ∙ ap (λ (l : List ℕ). before.so_far.0 ++ l) (sym step) ∙ before.so_far.2,
      );
    }

pub letters-preserved : goal.letters-preserved
letters-preserved g c =
    let before = c.letters.invariant in
    let letter = c.in-Some.letter in
    let parts = c.in-Some.ensures.steps.0 in
    let piece = visible_as_is letter (sym c.is_hidden.ensures ∙ c.if-is_hidden.false) in
    let step = printable_step _ _ letter before.utf8 parts in
    record {
      utf8 = IsUtf8-past_char _ _ letter before.utf8 parts;
      so_far = (
        before.so_far.0 ++ encode_utf8_all (visible letter),
        writes_in_calls_append _ _ _ _ _ _ before.so_far.1 (rw (piece, append-nil) (writes_in_calls_single _ _ _ _ (search rules))),
        append_assoc before.so_far.0 (encode_utf8_all (visible letter)) _ ∙ ap (λ (l : List ℕ). before.so_far.0 ++ l) (sym step) ∙ before.so_far.2,
      );
    }

pub returns : goal.returns
returns g c =
    let last = c.letters.invariant.so_far in
    subst (λ text. WritesInCalls g.W.Write.write_str_gives c.args.out.now text c.letters.out)
    (sym (append-nil last.0) ∙ ap (λ (l : List ℕ). last.0 ++ l) (sym (printable_empty _ c.in-None.ensures.steps.0.0)) ∙ last.2) last.1
