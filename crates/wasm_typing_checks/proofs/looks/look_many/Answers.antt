use Rattle.std.proofs.Common.{◌-◌, length, map, refl}
use Rattle.wasm_validator_resources.specs.WasmReadersTypes.WasmReadersValues.SeenValues.{val_of}
use Rattle.wasm_typing_checks.proofs.InnermostOperands.{found}
use Rattle.wasm_typing_checks.proofs.looks.look_many.Goals as goal

pub returns-clause-popped : goal.returns-clause-popped
returns-clause-popped g c =
    found c.args.stacks.now (g.T.WasmModuleResources.context c.args._resources.now) (map val_of c.args.types.now) c.args.taken (length c.args.types.now) c.len-count.result c.args.stacks.now.frame.height
    (c.len-count.result - c.args.stacks.now.frame.height) c.if-not-stacks.false (c.if-not-has_known.ensures.there refl) c.len-count.ensures refl refl c.if-count-stacks.false c.if-above-taken.false c.if-above-taken-2.false
