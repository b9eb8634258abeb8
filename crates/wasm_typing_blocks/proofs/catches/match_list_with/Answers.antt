use Rattle.std.proofs.Common.{length, refl}
use Rattle.wasm_readers_types.specs.WasmReadersValues.SeenValues.{val_of}
use Rattle.wasm_typing_control.specs.WasmTypingChecks.WasmValidatorResources.Answers.{world}
use Rattle.wasm_typing_blocks.proofs.CatchOperands.{all_sent}
use Rattle.wasm_typing_blocks.proofs.catches.match_list_with.Goals as goal

pub returns : goal.returns
returns g c =
    all_sent (world (g.T.WasmModuleResources.context c.args.resources.now)) c.args.sent.now c.args.types.now _ (val_of c.args.last) c.index-types-count.result (length c.args.types.now) c.match_all.result c.is_subtype.result refl c.if-count-eq0.false refl c.match_all.ensures
    c.if-not-match_all.false c.index-types-count.is c.is_subtype.ensures
