use Rattle.wasm_typing_numbers.proofs.WasmTypingChecks.ActionSteps.{plainly}
use Rattle.wasm_typing_numbers.proofs.WasmTypingChecks.TypeLookups.{nothing_typed}
use Rattle.wasm_typing_control.proofs.branches.do_nothing.Goals as goal

pub returns-clause-took : goal.returns-clause-took
returns-clause-took g c =
    plainly _ _ _ _ _ _ _ _ _ c.plain.ensures.took (nothing_typed _ _) (nothing_typed _ _)
