use Rattle.std.proofs.Common.{rules}
use Rattle.wasm_typing_checks.proofs.ActionSteps.{needed, plainly, has_held}
use Rattle.wasm_typing_numbers.proofs.TableLookups.{table_held, address_typed, element_typed}
use Rattle.wasm_typing_numbers.proofs.tables.table_get.Goals as goal

pub returns-clause-took : goal.returns-clause-took
returns-clause-took g c =
    needed _ _ _ _ _ _ _ (has_held _ _ _ _ (search rules))
    (needed _ _ _ _ _ _ _ (table_held _ _ _ c.in_ok-ty.ty c.in_ok-ty.ensures.ok)
    (plainly _ _ _ _ _ _ _ _ _ c.plain.ensures.took (address_typed _ _ _ c.in_ok-ty.ty _ c.in_ok-ty.ensures.ok c.address.ensures) (element_typed _ _ _ c.in_ok-ty.ty _ c.in_ok-ty.ensures.ok c.reference.ensures)))
