use Rattle.std.proofs.Common.{sym, ◌∙◌, ap}
use Rattle.wasm_spec.specs.Syntax.{array_heap}
use Rattle.wasm_typing_checks.specs.WasmSpecSteps.Machine.{push_operand}
use Rattle.wasm_typing_checks.specs.WasmValidatorResources.Answers.{world}
use Rattle.wasm_typing_checks.specs.WasmTypingStacks.BodyStacks.{state_of, below}
use Rattle.wasm_typing_checks.proofs.ActionSteps.{needed, has_held, took_ok}
use Rattle.wasm_typing_arrays.specs.Lengths.{is_reference_below}
use Rattle.wasm_typing_arrays.proofs.HeapBounds.{is_measured}
use Rattle.wasm_typing_arrays.proofs.lengths.array_len.Goals as goal

pub returns-in-Ok-clause-took : goal.returns-in-Ok-clause-took
returns-in-Ok-clause-took g c =
    needed _ _ _ _ _ _ _ (has_held _ _ _ _ (sym c.has.ensures ∙ c.if-not-has.false))
    (took_ok _ _ _ _
    (is_measured _ _ _ _ (below c.in-Some.found.1 (state_of c.args.stacks.now)) _ c.in-Some.ensures.0
    (sym (c.is_below.ensures ∙ ap (is_reference_below (world (g.T.WasmModuleResources.context c.args.resources.now)) array_heap) c.seen.ensures) ∙
    c.if-not-is_below.false)
    (c.in-Ok.ensures.ok ∙ ap (λ o. push_operand o (below c.in-Some.found.1 (state_of c.args.stacks.now))) c.number.ensures)))
