use Rattle.std.proofs.Common.{All}
use Rattle.wasm_validator_type_groups.specs.WasmSpec.References.{refs_field}
use Rattle.wasm_validator_type_groups.specs.WasmReadersTypes.WasmReadersValues.SeenValues.{field_of}
use Rattle.wasm_validator_type_ancestors.specs.GroupReferences.{IsKnown}
use Rattle.wasm_validator_type_ancestors.proofs.Items.{none_first, one_more, all_first}
use Rattle.wasm_validator_type_ancestors.proofs.listable.fields_are_known.Goals as goal

pub fields-init : goal.fields-init
fields-init c = none_first (λ k x. All (IsKnown c.args.types c.args.positions) (refs_field (field_of x))) c.args.fields.now

pub fields-preserved : goal.fields-preserved
fields-preserved c =
    one_more (λ k x. All (IsKnown c.args.types c.args.positions) (refs_field (field_of x))) c.args.fields.now c.fields.i c.index-fields-i.result c.fields-test.true c.index-fields-i.is
    (c.field_is_known.ensures.0 c.if-not-field_is_known.false) c.fields.invariant

pub returns : goal.returns
returns c = all_first (λ x. All (IsKnown c.args.types c.args.positions) (refs_field (field_of x))) c.args.fields.now c.fields.i c.fields-test.false c.fields.invariant
