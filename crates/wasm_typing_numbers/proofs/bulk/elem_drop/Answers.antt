use Rattle.std.proofs.Common.{rules}
use Rattle.wasm_typing_checks.proofs.ActionSteps.{needed, plainly, has_held}
use Rattle.wasm_typing_checks.proofs.TypeLookups.{nothing_typed}
use Rattle.wasm_typing_numbers.proofs.TableLookups.{segment_held}
use Rattle.wasm_typing_numbers.proofs.bulk.elem_drop.Goals as goal

pub returns-in-Some-clause-took : goal.returns-in-Some-clause-took
returns-in-Some-clause-took g c =
    needed _ _ _ _ _ _ _ (has_held _ _ _ _ (search rules))
    (needed _ _ _ _ _ _ _ (segment_held _ _ _ c.in-Some.field-0 c.in-Some.ensures)
    (plainly _ _ _ _ _ _ _ _ _ c.plain.ensures.took (nothing_typed _ _) (nothing_typed _ _)))
