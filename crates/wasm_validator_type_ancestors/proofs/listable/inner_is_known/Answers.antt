use Rattle.wasm_validator_type_ancestors.proofs.ListableGroups.{funcs_known, funcs_unknown, structs_known}
use Rattle.wasm_validator_type_ancestors.proofs.listable.inner_is_known.Goals as goal

pub returns-then-values_are_known : goal.returns-then-values_are_known
returns-then-values_are_known g c =
    funcs_known c.args.types c.args.positions c.args.inner.now c.in-Func.signature c.in-Func.is c.params.result.now c.values_are_known.result c.params.ensures c.values_are_known.ensures
    c.results.result.now c.values_are_known-then-values_are_known.result c.results.ensures c.if-values_are_known.true c.values_are_known-then-values_are_known.ensures

pub returns-else-values_are_known : goal.returns-else-values_are_known
returns-else-values_are_known g c =
    funcs_unknown c.args.types c.args.positions c.args.inner.now c.in-Func.signature c.in-Func.is c.params.result.now c.values_are_known.result c.params.ensures c.values_are_known.ensures c.if-values_are_known.false

pub returns-in-Struct : goal.returns-in-Struct
returns-in-Struct g c =
    structs_known c.args.types c.args.positions c.args.inner.now c.in-Struct.structure c.as_slice.result.now c.fields_are_known.result c.in-Struct.is c.as_slice.ensures c.fields_are_known.ensures
