use Rattle.wasm_typing_checks.proofs.ActionSteps.{plainly}
use Rattle.wasm_typing_checks.proofs.TypeLookups.{nothing_typed, memory_typed}
use Rattle.wasm_typing_numbers.proofs.memories.memory_size.Goals as goal

pub returns-in-Some-clause-took : goal.returns-in-Some-clause-took
returns-in-Some-clause-took g c =
    plainly _ _ _ _ _ _ _ _ _ c.plain.ensures.took (nothing_typed _ _) (memory_typed _ _ _ _ _ c.in-Some.ensures c.address.ensures)
