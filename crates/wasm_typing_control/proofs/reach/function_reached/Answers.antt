use Rattle.std.proofs.Common.{◌≡◌, subst}
use Rattle.std.specs.Prelude.{Some, None, IfOk, OnErr}
use Rattle.wasm_typing_numbers.specs.WasmTypingChecks.WasmValidatorResources.Answers.{signature_seen}
use Rattle.wasm_typing_control.proofs.CallLookups.{of_its_type, function_unknown}
use Rattle.wasm_typing_control.proofs.reach.function_reached.Goals as goal

pub returns-in-Some-clause-ok : goal.returns-in-Some-clause-ok
returns-in-Some-clause-ok g c =
    subst (λ o. IfOk c.type_reached.result (λ f. o ≡ Some (signature_seen f.now))) (of_its_type _ _ _ _ c.in-Some.ensures) c.type_reached.ensures.ok

pub returns-in-Some-clause-err : goal.returns-in-Some-clause-err
returns-in-Some-clause-err g c =
    subst (λ o. OnErr c.type_reached.result (o ≡ None)) (of_its_type _ _ _ _ c.in-Some.ensures) c.type_reached.ensures.err

pub returns-in-None-clause-err : goal.returns-in-None-clause-err
returns-in-None-clause-err g c =
    function_unknown _ _ _ c.in-None.ensures
