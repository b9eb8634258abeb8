use Rattle.wasm_laws_core.proofs.Equality.{agree}
use Rattle.wasm_laws_core.proofs.ids.agree.Goals as goal

pub returns : goal.returns
returns g c = agree g.met.T.Same.same g.met.T.Ord.matches_partial_cmp g.met.T.Ord.matches_eq g.met.T.Hash.respects_eq
