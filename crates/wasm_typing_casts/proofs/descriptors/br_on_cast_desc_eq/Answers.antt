use Rattle.wasm_typing_casts.proofs.CastBranches.{described_on_cast}
use Rattle.wasm_typing_casts.proofs.descriptors.br_on_cast_desc_eq.Goals as goal

pub returns-in-Ok-clause-took : goal.returns-in-Ok-clause-took
returns-in-Ok-clause-took g c =
    described_on_cast _ _ _ _ _ _ _ _ _ _ _ _ c.send.ensures.took c.in-Ok.ensures c.difference-left.ensures
