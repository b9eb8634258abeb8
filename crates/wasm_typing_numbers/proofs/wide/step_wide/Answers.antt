use Rattle.std.proofs.Common.{rules}
use Rattle.wasm_typing_checks.proofs.ActionSteps.{needed, plainly, has_held}
use Rattle.wasm_typing_numbers.proofs.WideTypes.{two_typed, sums_typed, products_typed}
use Rattle.wasm_typing_numbers.proofs.wide.step_wide.Goals as goal

pub returns-in-I64Add128-clause-took : goal.returns-in-I64Add128-clause-took
returns-in-I64Add128-clause-took g c =
    needed _ _ _ _ _ _ _ (has_held _ _ _ _ (search rules))
    (plainly _ _ _ _ _ _ _ _ _ c.plain.ensures.took (sums_typed _ _ _ c.in-I64Add128.is) (two_typed _ _))

pub returns-in-I64MulWideS-clause-took : goal.returns-in-I64MulWideS-clause-took
returns-in-I64MulWideS-clause-took g c =
    needed _ _ _ _ _ _ _ (has_held _ _ _ _ (search rules))
    (plainly _ _ _ _ _ _ _ _ _ c.plain-in-I64MulWideS.ensures.took (products_typed _ _ _ c.in-I64MulWideS.is) (two_typed _ _))
