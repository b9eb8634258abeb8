use Rattle.std.proofs.Common.{◌≡◌, length}
use Rattle.wasm_operators.specs.Control.{catch_at}
use Rattle.wasm_operators.specs.SeenLists.{items_left}
use Rattle.wasm_typing_control.specs.WasmTypingChecks.WasmSpecSteps.Shapes.{catch_checks}
use Rattle.wasm_typing_blocks.specs.KnownBlockTypes.{all_held}
use Rattle.wasm_typing_blocks.proofs.catches.check_catches.Given as goal

abbrev pub invariant-checking : goal.invariant-checking
invariant-checking g l =
    all_held l.stacks (g.T.WasmModuleResources.context l.resources) (catch_checks (items_left catch_at l.initial.left)) ≡ all_held l.stacks (g.T.WasmModuleResources.context l.resources) (catch_checks (items_left catch_at l.left))

abbrev pub decreases-checking : goal.decreases-checking
decreases-checking g l = length (items_left catch_at l.left)
