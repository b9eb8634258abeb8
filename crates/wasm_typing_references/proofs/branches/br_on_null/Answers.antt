use Rattle.std.proofs.Common.{rules, refl}
use Rattle.wasm_typing_control.proofs.WasmTypingChecks.ActionSteps.{needed, has_held, refused_later, took_ok, took_refused}
use Rattle.wasm_typing_references.proofs.NullBranches.{none_on_null, unlabeled_on_null, missing_on_null, branched_on_null}
use Rattle.wasm_typing_references.proofs.branches.br_on_null.Goals as goal

pub returns-in-Err-clause-took : goal.returns-in-Err-clause-took
returns-in-Err-clause-took g c =
    refused_later _ _ _ _ _ _ _ (took_refused _ _ _ _ (none_on_null _ _ _ c.in-Err.ensures) refl)

pub returns-in-None-clause-took : goal.returns-in-None-clause-took
returns-in-None-clause-took g c =
    refused_later _ _ _ _ _ _ _ (took_refused _ _ _ _ (unlabeled_on_null _ _ _ _ _ c.in-Ok.ensures.0 c.in-None.ensures) refl)

pub returns-in-Err-check_types-clause-took : goal.returns-in-Err-check_types-clause-took
returns-in-Err-check_types-clause-took g c =
    refused_later _ _ _ _ _ _ _ (took_refused _ _ _ _ (missing_on_null _ _ _ _ _ _ c.in-Ok.ensures.0 c.in-Some.ensures c.in-Err-check_types.ensures) refl)

pub returns-in-Ok-exchange_with-clause-took : goal.returns-in-Ok-exchange_with-clause-took
returns-in-Ok-exchange_with-clause-took g c =
    needed _ _ _ _ _ _ _ (has_held _ _ _ _ (search rules))
    (took_ok _ _ _ _ (branched_on_null _ _ _ _ _ _ _ _ _ c.in-Ok.ensures.0 c.in-Some.ensures c.in-Ok-check_types.ensures.0 c.non_null.ensures c.in-Ok-exchange_with.ensures.ok))
