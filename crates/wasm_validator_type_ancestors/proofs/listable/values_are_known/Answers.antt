use Rattle.std.proofs.Common.{All}
use Rattle.wasm_validator_type_groups.specs.WasmSpec.References.{refs_val}
use Rattle.wasm_validator_type_groups.specs.WasmReadersTypes.WasmReadersValues.SeenValues.{val_of}
use Rattle.wasm_validator_type_ancestors.specs.GroupReferences.{IsKnown}
use Rattle.wasm_validator_type_ancestors.proofs.Items.{none_first, one_more, all_first}
use Rattle.wasm_validator_type_ancestors.proofs.listable.values_are_known.Goals as goal

pub values-init : goal.values-init
values-init c = none_first (λ k x. All (IsKnown c.args.types c.args.positions) (refs_val (val_of x))) c.args.values.now

pub values-preserved : goal.values-preserved
values-preserved c =
    one_more (λ k x. All (IsKnown c.args.types c.args.positions) (refs_val (val_of x))) c.args.values.now c.values.i c.index-values-i.result c.values-test.true c.index-values-i.is
    (c.value_is_known.ensures.0 c.if-not-value_is_known.false) c.values.invariant

pub returns : goal.returns
returns c = all_first (λ x. All (IsKnown c.args.types c.args.positions) (refs_val (val_of x))) c.args.values.now c.values.i c.values-test.false c.values.invariant
