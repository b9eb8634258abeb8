use Rattle.std.proofs.Common.{◌∙◌, sym, ap, refl, length, Some}
use Rattle.std.proofs.lemmas.Option.{slice_get_read}
use Rattle.wasm_validator_handles.proofs.ValueNumbers.{value_there}
use Rattle.ruthvelka_c.proofs.types.value_at.Goals as goal

pub returns : goal.returns
returns c =
    let given = c.args.given.now in
    let v = c.index-given-k.result in
    value_there c.args.start given c.args.k v (slice_get_read given (length given) c.args.k v refl c.requires.there c.index-given-k.is) ∙ ap Some (sym c.tell_value.ensures)
