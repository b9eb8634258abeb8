use Rattle.std.proofs.Common.{rules, sym, ◌∙◌}
use Rattle.wasm_typing_control.proofs.WasmTypingChecks.ActionSteps.{needed, has_held, plainly, refused_gives, refused_here, refused_later}
use Rattle.wasm_typing_control.proofs.WasmTypingChecks.TypeLookups.{nothing_typed}
use Rattle.wasm_typing_references.proofs.ReferencesToFunctions.{function_missing, function_typed, function_untyped, referenced_held}
use Rattle.wasm_typing_references.proofs.functions.ref_func.Goals as goal

pub returns-in-None-clause-took : goal.returns-in-None-clause-took
returns-in-None-clause-took g c =
    refused_later _ _ _ _ _ _ _ (refused_later _ _ _ _ _ _ _ (refused_gives _ _ _ _ _ _ (function_missing _ _ _ c.in-None.ensures)))

pub returns-then-not-is_function_referenced-clause-took : goal.returns-then-not-is_function_referenced-clause-took
returns-then-not-is_function_referenced-clause-took g c =
    refused_later _ _ _ _ _ _ _ (refused_here _ _ _ _ _ _ (referenced_held _ _ _ _ (sym c.is_function_referenced.ensures ∙ c.if-not-is_function_referenced.true)))

pub returns-in-Some-resolve-clause-took : goal.returns-in-Some-resolve-clause-took
returns-in-Some-resolve-clause-took g c =
    needed _ _ _ _ _ _ _ (has_held _ _ _ _ (search rules))
    (needed _ _ _ _ _ _ _ (referenced_held _ _ _ _ (sym c.is_function_referenced.ensures ∙ c.if-not-is_function_referenced.false))
    (plainly _ _ _ _ _ _ _ _ _ c.plain.ensures.took (nothing_typed _ _) (function_typed _ _ _ _ _ _ _ _ c.has_exact_type-is_exact.ensures.told c.in-Some.ensures c.has_exact_type-is_exact.ensures.value c.heap_type_of.ensures.value c.in-Some-resolve.ensures c.reference.ensures)))

pub returns-in-None-resolve-clause-took : goal.returns-in-None-resolve-clause-took
returns-in-None-resolve-clause-took g c =
    refused_later _ _ _ _ _ _ _
    (refused_later _ _ _ _ _ _ _ (refused_gives _ _ _ _ _ _ (function_untyped _ _ _ _ _ _ c.has_exact_type-is_exact.ensures.told c.in-Some.ensures c.has_exact_type-is_exact.ensures.value c.heap_type_of.ensures.value c.in-None-resolve.ensures)))
