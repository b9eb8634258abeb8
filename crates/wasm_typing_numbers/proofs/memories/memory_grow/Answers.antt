use Rattle.wasm_typing_checks.proofs.ActionSteps.{plainly}
use Rattle.wasm_typing_checks.proofs.TypeLookups.{memory_typed}
use Rattle.wasm_typing_numbers.proofs.memories.memory_grow.Goals as goal

pub returns-in-Some-clause-took : goal.returns-in-Some-clause-took
returns-in-Some-clause-took g c =
    plainly _ _ _ _ _ _ _ _ _ c.plain.ensures.took (memory_typed _ _ _ _ _ c.in-Some.ensures c.address-address.ensures) (memory_typed _ _ _ _ _ c.in-Some.ensures c.address-address.ensures)
