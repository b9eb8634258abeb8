use Rattle.std.proofs.Common.{arith, ◌≡◌, sym, subst, ◌<◌, slice_index}
use Rattle.std.proofs.lemmas.Grind.{common_steps}
use Rattle.wasm_validator_types.proofs.index_spaces.IndexSpaces.type_at.Goals as goal

pub returns-clause-below : goal.returns-clause-below
returns-clause-below g c = λ ids known.
    let value : c.index.result.now.index ≡ slice_index c.args.self.now.types c.args.index = grind (arith, common_steps) in
    subst (λ id. id < ids) (sym value) (known c.args.index 0 c.requires)
