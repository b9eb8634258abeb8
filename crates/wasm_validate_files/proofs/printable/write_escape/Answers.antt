use Rattle.std.proofs.Common.{◌++◌, [], encode_utf8, encode_utf8_all, sym, ap, subst, ◌∙◌, append_assoc, rules}
use Rattle.std.proofs.Output.{writes_in_calls_nil, writes_in_calls_single, writes_in_calls_append}
use Rattle.std.specs.Char.Iter.{escape_rest}
use Rattle.wasm_validate_files.proofs.Escapes.{escape_zero, escape_other, on_ok}
use Rattle.wasm_validate_files.proofs.printable.write_escape.Goals as goal

pub returns-then-letter-eq0 : goal.returns-then-letter-eq0
returns-then-letter-eq0 g c =
    on_ok c.write_str.result _ (λ ok. writes_in_calls_single _ _ _ _ (subst (λ text. g.W.Write.write_str_gives c.args.out.now text c.write_str.new.self) (escape_zero c.args.letter c.if-letter-eq0.true) (c.write_str.ensures.ok ok)))

pub letters-init : goal.letters-init
letters-init g c =
    ([], writes_in_calls_nil _ _, ap encode_utf8_all (ap escape_rest c.into_iter-letter-iterator.ensures.into_iter_gives ∙ c.escape_default-letter-items.ensures.rest ∙ escape_other c.args.letter c.if-letter-eq0.false))

pub letters-preserved : goal.letters-preserved
letters-preserved g c =
    let now = c.letters.invariant in
    let letter = c.in-Some.letter in (
      now.0 ++ encode_utf8 letter,
      writes_in_calls_append _ _ _ _ _ _ now.1 (writes_in_calls_single _ _ _ _ (search rules)),
      append_assoc now.0 (encode_utf8 letter) _ ∙ ap (λ l. now.0 ++ encode_utf8_all l) (sym c.in-Some.ensures.steps.1.0) ∙ now.2,
    )
