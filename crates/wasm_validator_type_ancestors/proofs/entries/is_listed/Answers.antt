use Rattle.std.proofs.Common.{◌+◌, length, nat_eq, refl, arith}
use Rattle.std.proofs.lemmas.Option.{slice_get_read}
use Rattle.std.proofs.lemmas.Bool.Decides.{Decides-eqb}
use Rattle.wasm_validator_type_ancestors.proofs.Growth.{list_within}
use Rattle.wasm_validator_type_ancestors.proofs.Chains.{counts-here}
use Rattle.wasm_validator_type_ancestors.proofs.Ancestors.{missed, missed-counts, looked_up, looked_up-counts}
use Rattle.wasm_validator_type_ancestors.proofs.entries.is_listed.Goals as goal

pub returns-then-id-to-clause-counts : goal.returns-then-id-to-clause-counts
returns-then-id-to-clause-counts g c = λ D t. counts-here D c.args.id c.args.to c.args.count.now.links c.if-id-to.true

pub returns-then-entry-other-clause-decides : goal.returns-then-entry-other-clause-decides
returns-then-entry-other-clause-decides g c = λ D t.
    let es = c.args.entries.now in
    let other = c.index-other.result.now in
    missed es c.args.ids.now c.requires.stand D t c.args.id c.args.to c.args.entry other c.requires.sub
    (slice_get_read es (length es) c.args.to other refl c.requires.sup c.index-other.ensures) c.if-id-to.false c.if-entry-other.true

pub returns-then-entry-other-clause-counts : goal.returns-then-entry-other-clause-counts
returns-then-entry-other-clause-counts g c = λ D t.
    let es = c.args.entries.now in
    let other = c.index-other.result.now in
    missed-counts es c.args.ids.now c.requires.stand D t c.args.id c.args.to c.args.entry other c.requires.sub
    (slice_get_read es (length es) c.args.to other refl c.requires.sup c.index-other.ensures) c.if-id-to.false c.args.count.now.links c.if-entry-other.true

pub index-listed-requires : goal.index-listed-requires
index-listed-requires g c =
    let more = c.if-entry-other.false in
    omega (arith, more, list_within c.args.entries.now c.args.ids.now c.args.id c.args.entry c.requires.stand c.requires.sub (omega (arith, more)) c.requires.listed)

pub returns-clause-decides : goal.returns-clause-decides
returns-clause-decides g c = λ D t.
    let es = c.args.entries.now in
    let xs = c.args.ids.now in
    let other = c.index-other.result.now in
    let x = c.index-listed.result.now in
    let more = c.if-entry-other.false in
    let w = list_within es xs c.args.id c.args.entry c.requires.stand c.requires.sub (omega (arith, more)) c.requires.listed in
    looked_up es xs c.requires.stand D t c.args.id c.args.to c.args.entry other c.requires.sub
    (slice_get_read es (length es) c.args.to other refl c.requires.sup c.index-other.ensures) c.if-id-to.false x (nat_eq x c.args.to) c.requires.listed (omega (arith, more))
    (slice_get_read xs (length xs) (c.args.entry.start + other.count) x refl (omega (arith, more, w)) c.index-listed.ensures) (Decides-eqb x c.args.to)

pub returns-clause-counts : goal.returns-clause-counts
returns-clause-counts g c = λ D t.
    let es = c.args.entries.now in
    let other = c.index-other.result.now in
    looked_up-counts es c.args.ids.now c.requires.stand D t c.args.id c.args.to c.args.entry other c.requires.sub
    (slice_get_read es (length es) c.args.to other refl c.requires.sup c.index-other.ensures) c.if-id-to.false c.args.count.now.links c.add_one.new.self.links c.if-entry-other.false c.add_one.ensures
