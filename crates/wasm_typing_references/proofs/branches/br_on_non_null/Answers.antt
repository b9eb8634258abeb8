use Rattle.std.proofs.Common.{rules, refl}
use Rattle.wasm_typing_control.proofs.WasmTypingChecks.ActionSteps.{needed, has_held, refused_later, took_ok, took_refused}
use Rattle.wasm_typing_references.proofs.NullBranches.{none_on_other, unlabeled_on_other, last_on_other, unmatched_on_other, missing_on_other, branched_on_other}
use Rattle.wasm_typing_references.proofs.branches.br_on_non_null.Goals as goal

pub returns-in-None-clause-took : goal.returns-in-None-clause-took
returns-in-None-clause-took g c =
    refused_later _ _ _ _ _ _ _ (took_refused _ _ _ _ (unlabeled_on_other _ _ _ c.in-None.ensures) refl)

pub returns-in-Err-clause-took : goal.returns-in-Err-clause-took
returns-in-Err-clause-took g c =
    refused_later _ _ _ _ _ _ _ (took_refused _ _ _ _ (none_on_other _ _ _ c.in-Err.ensures) refl)

pub returns-in-None-last_type-clause-took : goal.returns-in-None-last_type-clause-took
returns-in-None-last_type-clause-took g c =
    refused_later _ _ _ _ _ _ _ (took_refused _ _ _ _ (last_on_other _ _ _ _ _ _ c.in-Ok.ensures.0 c.in-Some.ensures c.in-None-last_type.ensures) refl)

pub returns-then-not-matches-clause-took : goal.returns-then-not-matches-clause-took
returns-then-not-matches-clause-took g c =
    refused_later _ _ _ _ _ _ _
    (took_refused _ _ _ _ (unmatched_on_other _ _ _ _ _ _ _ _ _ c.in-Ok.ensures.0 c.in-Some.ensures c.in-Some-last_type.ensures c.non_null.ensures c.matches.ensures c.if-not-matches.true) refl)

pub returns-in-Err-check_types-clause-took : goal.returns-in-Err-check_types-clause-took
returns-in-Err-check_types-clause-took g c =
    refused_later _ _ _ _ _ _ _
    (took_refused _ _ _ _
    (missing_on_other _ _ _ _ _ _ _ _ _ _ c.in-Ok.ensures.0 c.in-Some.ensures c.in-Some-last_type.ensures c.non_null.ensures c.matches.ensures c.if-not-matches.false c.front_types-front.ensures c.in-Err-check_types.ensures) refl)

pub returns-in-Ok-exchange_types-clause-took : goal.returns-in-Ok-exchange_types-clause-took
returns-in-Ok-exchange_types-clause-took g c =
    needed _ _ _ _ _ _ _ (has_held _ _ _ _ (search rules))
    (took_ok _ _ _ _
    (branched_on_other _ _ _ _ _ _ _ _ _ _ _ _ c.in-Ok.ensures.0 c.in-Some.ensures c.in-Some-last_type.ensures c.non_null.ensures c.matches.ensures c.if-not-matches.false c.front_types-front.ensures c.in-Ok-check_types.ensures.0
    c.in-Ok-exchange_types.ensures.ok))
