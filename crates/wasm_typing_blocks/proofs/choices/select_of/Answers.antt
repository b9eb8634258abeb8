use Rattle.std.proofs.Common.{rules}
use Rattle.wasm_readers_types.specs.WasmReadersValues.SeenValues.{val_of}
use Rattle.wasm_typing_control.proofs.WasmTypingChecks.ActionSteps.{needed, plainly, has_held}
use Rattle.wasm_typing_blocks.proofs.SelectTypes.{written_allowed, three_typed, one_typed}
use Rattle.wasm_typing_blocks.proofs.choices.select_of.Goals as goal

pub returns-in-Ok-clause-took : goal.returns-in-Ok-clause-took
returns-in-Ok-clause-took g c =
    needed _ _ _ _ _ _ _ (has_held _ _ _ _ (search rules))
    (needed _ _ _ _ _ _ _ (written_allowed _ _ (val_of c.args.ty) _ c.in-Ok.ensures)
    (plainly _ _ _ _ _ _ _ _ _ c.plain.ensures.took (three_typed _ _ (val_of c.args.ty) _ _ _ _ c.in-Ok.ensures c.new-word.ensures c.new-word.ensures c.number-condition.ensures) (one_typed _ _ (val_of c.args.ty) _ _ c.in-Ok.ensures c.new-word.ensures)))
