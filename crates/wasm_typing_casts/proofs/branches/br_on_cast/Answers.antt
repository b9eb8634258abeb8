use Rattle.wasm_typing_casts.proofs.CastBranches.{branched_on_cast}
use Rattle.wasm_typing_casts.proofs.branches.br_on_cast.Goals as goal

pub returns-in-Ok-clause-took : goal.returns-in-Ok-clause-took
returns-in-Ok-clause-took g c =
    branched_on_cast _ _ _ _ _ _ _ _ _ _ _ c.send.ensures.took c.in-Ok.ensures c.difference-left.ensures

pub returns-in-Err-clause-took : goal.returns-in-Err-clause-took
returns-in-Err-clause-took g c =
    c.in-Err.ensures _
