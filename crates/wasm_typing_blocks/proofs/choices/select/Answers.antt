use Rattle.std.proofs.Common.{refl}
use Rattle.wasm_typing_control.proofs.WasmTypingChecks.ActionSteps.{took_ok, took_refused}
use Rattle.wasm_typing_blocks.proofs.SelectTypes.{none_chosen, one_chosen}
use Rattle.wasm_typing_blocks.proofs.choices.select.Goals as goal

pub returns-in-Ok-exchange-clause-took : goal.returns-in-Ok-exchange-clause-took
returns-in-Ok-exchange-clause-took g c =
    took_ok _ _ _ _ (one_chosen _ _ _ _ _ _ _ _ _ _ c.number-condition.ensures c.in-Ok.ensures.0 c.in-Some.ensures.0 c.in-Some-look.ensures.0 c.in-Some-choose.ensures c.in-Ok-exchange.ensures.ok)

pub returns-in-None-choose-clause-took : goal.returns-in-None-choose-clause-took
returns-in-None-choose-clause-took g c =
    took_refused _ _ _ _ (none_chosen _ _ _ _ _ _ _ _ c.number-condition.ensures c.in-Ok.ensures.0 c.in-Some.ensures.0 c.in-Some-look.ensures.0 c.in-None-choose.ensures) refl
