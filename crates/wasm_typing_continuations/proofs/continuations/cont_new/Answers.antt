use Rattle.wasm_typing_continuations.proofs.StepsByOperator.{made}
use Rattle.wasm_typing_continuations.proofs.continuations.cont_new.Goals as goal

pub returns-in-Some-clause-took : goal.returns-in-Some-clause-took
returns-in-Some-clause-took g c =
    made _ _ _ _ _ _ _ _ _ _ c.plain.ensures.took c.in-Ok.ensures.ok c.in-Some.ensures c.nullable.ensures c.non_null_to.ensures
