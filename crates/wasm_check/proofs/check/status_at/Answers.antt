use Rattle.std.proofs.Common.{refl, sym, ap, ◌∙◌}
use Rattle.std.proofs.lemmas.Option.{slice_get_read, slice_get_past}
use Rattle.wasm_check.specs.Statuses.{status_of}
use Rattle.wasm_check.proofs.check.status_at.Goals as goal

pub returns-in-Some : goal.returns-in-Some
returns-in-Some c =
    let at = c.in-Some.ensures.lookup in
    c.status_of.ensures ∙ ap status_of (sym (slice_get_read c.args.answers.now _ c.args.place c.in-Some.answer.now refl at.3.0 at.1))

pub returns-in-None : goal.returns-in-None
returns-in-None c = ap status_of (sym (slice_get_past c.args.answers.now c.args.place c.in-None.ensures.lookup.3))
