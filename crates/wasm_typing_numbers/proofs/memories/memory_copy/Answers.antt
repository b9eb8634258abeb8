use Rattle.std.proofs.Common.{rules}
use Rattle.wasm_typing_checks.proofs.ActionSteps.{needed, plainly, has_held}
use Rattle.wasm_typing_checks.proofs.TypeLookups.{nothing_typed, memory_typed, lesser_memory_typed, joined_typed}
use Rattle.wasm_typing_numbers.proofs.memories.memory_copy.Goals as goal

pub returns-clause-took : goal.returns-clause-took
returns-clause-took g c =
    needed _ _ _ _ _ _ _ (has_held _ _ _ _ (search rules))
    (plainly _ _ _ _ _ _ _ _ _ c.plain.ensures.took (joined_typed _ _ _ _ _ _ (memory_typed _ _ _ _ _ c.in-Some.ensures c.address.ensures) (joined_typed _ _ _ _ _ _ (memory_typed _ _ _ _ _ c.in-Some-memory_at.ensures c.address-2.ensures) (lesser_memory_typed _ _ _ _ _ _ _ c.in-Some.ensures c.in-Some-memory_at.ensures c.lesser.ensures))) (nothing_typed _ _))
