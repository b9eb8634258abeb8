use Rattle.std.proofs.Common.{rules}
use Rattle.wasm_typing_checks.proofs.ActionSteps.{needed, plainly, has_held}
use Rattle.wasm_typing_checks.proofs.TypeLookups.{nothing_typed, memory_typed, joined_typed}
use Rattle.wasm_typing_numbers.proofs.memories.memory_discard.Goals as goal

pub returns-in-Some-clause-took : goal.returns-in-Some-clause-took
returns-in-Some-clause-took g c =
    needed _ _ _ _ _ _ _ (has_held _ _ _ _ (search rules))
    (plainly _ _ _ _ _ _ _ _ _ c.plain.ensures.took (joined_typed _ _ _ _ _ _ (memory_typed _ _ _ _ _ c.in-Some.ensures c.address-address.ensures) (memory_typed _ _ _ _ _ c.in-Some.ensures c.address-address.ensures)) (nothing_typed _ _))
