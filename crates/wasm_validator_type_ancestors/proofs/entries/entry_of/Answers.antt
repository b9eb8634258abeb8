use Rattle.std.proofs.Common.{◌++◌, refl, arith, length-append}
use Rattle.std.proofs.lemmas.Option.{slice_get_within}
use Rattle.wasm_validator_type_ancestors.proofs.Growth.{count_below, list_within}
use Rattle.wasm_validator_type_ancestors.proofs.entries.entry_of.Goals as goal

pub one_more-requires-clause-fits : goal.one_more-requires-clause-fits
one_more-requires-clause-fits g c =
    let es = c.args.entries.now ++ c.args.more.now.items in
    let entry = c.entry_at-entry.result in
    let parent = c.id_from-parent.result in
    let few = count_below es c.args.ids.now c.requires.stand entry.count parent entry c.entry_at-entry.ensures refl in
    let within = slice_get_within es parent entry c.entry_at-entry.ensures in
    omega (arith, few, within, length-append c.args.entries.now c.args.more.now.items, c.requires.room)

pub one_more-requires-clause-listed : goal.one_more-requires-clause-listed
one_more-requires-clause-listed g c = λ some few.
    list_within (c.args.entries.now ++ c.args.more.now.items) c.args.ids.now c.id_from-parent.result c.entry_at-entry.result c.requires.stand c.entry_at-entry.ensures some (omega (arith, few))
