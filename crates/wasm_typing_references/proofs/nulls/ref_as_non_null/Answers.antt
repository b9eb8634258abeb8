use Rattle.std.proofs.Common.{rules}
use Rattle.wasm_typing_control.proofs.WasmTypingChecks.ActionSteps.{needed, has_held, took_ok}
use Rattle.wasm_typing_references.proofs.NullTests.{is_asserted}
use Rattle.wasm_typing_references.proofs.nulls.ref_as_non_null.Goals as goal

pub returns-in-Ok-exchange-clause-took : goal.returns-in-Ok-exchange-clause-took
returns-in-Ok-exchange-clause-took g c =
    needed _ _ _ _ _ _ _ (has_held _ _ _ _ (search rules)) (took_ok _ _ _ _ (is_asserted _ _ _ _ _ _ c.in-Ok.ensures.0 c.non_null.ensures c.in-Ok-exchange.ensures.ok))
