use Rattle.std.proofs.Common.{[], ap}
use Rattle.wasm_typing_checks.specs.Steps.{acted}
use Rattle.wasm_typing_checks.specs.WasmSpecSteps.Shapes.{sharing_shape}
use Rattle.wasm_typing_checks.specs.WasmSpecSteps.Steps.{actions_of}
use Rattle.wasm_typing_checks.proofs.ActionSteps.{took_along, plainly}
use Rattle.wasm_typing_checks.proofs.TypeLookups.{nothing_typed}
use Rattle.wasm_typing_structs.proofs.shared.step_by_access.Goals as goal

pub returns-in-Pause-clause-took : goal.returns-in-Pause-clause-took
returns-in-Pause-clause-took g c =
    took_along _ _ _ _ _ (ap (λ form. acted c.args.stacks.now (g.T.WasmModuleResources.context c.args.resources.now) (actions_of (sharing_shape [] form c.args.values))) c.in-Pause.is)
    (plainly _ _ _ _ _ _ _ _ _ c.plain.ensures.took (nothing_typed _ _) (nothing_typed _ _))
