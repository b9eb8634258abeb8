use Rattle.std.proofs.Common.{◌≡◌, length, map}
use Rattle.wasm_typing_control.specs.WasmReadersTypes.WasmReadersValues.SeenValues.{val_of}
use Rattle.wasm_typing_control.specs.WasmOperators.Continuations.{handle_at}
use Rattle.wasm_typing_control.specs.WasmOperators.SeenLists.{items_left}
use Rattle.wasm_typing_continuations.specs.HandlerTypes.{all_handled}
use Rattle.wasm_typing_continuations.proofs.handlers.check_handlers.Given as goal

abbrev pub invariant-checking : goal.invariant-checking
invariant-checking g l =
    all_handled l.stacks (g.T.WasmModuleResources.context l.resources) (map val_of l.results) (items_left handle_at l.initial.left)
    ≡ all_handled l.stacks (g.T.WasmModuleResources.context l.resources) (map val_of l.results) (items_left handle_at l.left)

abbrev pub decreases-checking : goal.decreases-checking
decreases-checking g l = length (items_left handle_at l.left)
