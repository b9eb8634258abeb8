use Rattle.std.proofs.Common.{subst, sym}
use Rattle.wasm_typing_references.specs.WasmOperators.Maps.{map_cast}
use Rattle.wasm_typing_references.specs.WasmOperators.SeenReferences.{cast_of}
use Rattle.wasm_typing_references.specs.WasmTypingChecks.WasmSpecSteps.Shapes.{cast_shape}
use Rattle.wasm_typing_references.specs.WasmTypingChecks.WasmValidatorResources.Answers.{written_index}
use Rattle.wasm_typing_references.specs.WasmTypingChecks.Steps.{Performs}
use Rattle.wasm_typing_casts.proofs.steps.step_cast.Goals as goal

pub returns-in-BrOnCastDescEq-clause-took : goal.returns-in-BrOnCastDescEq-clause-took
returns-in-BrOnCastDescEq-clause-took g c =
    subst (λ op. Performs c.br_on_cast_desc_eq.result (g.T.WasmModuleResources.context c.args.resources.now) (cast_shape (map_cast written_index (cast_of op))) c.args.stacks.now c.br_on_cast_desc_eq.new.stacks) (sym c.in-BrOnCastDescEq.is)
    c.br_on_cast_desc_eq.ensures.took

pub returns-in-BrOnCastDescEqFail-clause-took : goal.returns-in-BrOnCastDescEqFail-clause-took
returns-in-BrOnCastDescEqFail-clause-took g c =
    subst (λ op. Performs c.br_on_cast_desc_eq_fail.result (g.T.WasmModuleResources.context c.args.resources.now) (cast_shape (map_cast written_index (cast_of op))) c.args.stacks.now c.br_on_cast_desc_eq_fail.new.stacks) (sym c.in-BrOnCastDescEqFail.is)
    c.br_on_cast_desc_eq_fail.ensures.took
