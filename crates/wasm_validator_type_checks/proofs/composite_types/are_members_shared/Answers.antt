use Rattle.wasm_validator_type_list.specs.DeclarationsById.{declares}
use Rattle.wasm_validator_type_list.specs.GroupTypes.{leads_in}
use Rattle.wasm_validator_type_list.proofs.GroupMatching.{params_in, results_in, fields_in}
use Rattle.wasm_validator_type_checks.proofs.SharedTypes.{func_shared_then, func_shared_else, struct_shared}
use Rattle.wasm_validator_type_checks.proofs.composite_types.are_members_shared.Goals as goal

pub are_shared-requires : goal.are_shared-requires
are_shared-requires g c = params_in c.args.types.now.groups c.args.group.index c.args.inner.now c.in-Func.signature c.params.result.now c.requires c.in-Func.is c.params.ensures

pub are_shared-requires-then-are_shared : goal.are_shared-requires-then-are_shared
are_shared-requires-then-are_shared g c = results_in c.args.types.now.groups c.args.group.index c.args.inner.now c.in-Func.signature c.results.result.now c.requires c.in-Func.is c.results.ensures

pub are_fields_shared-requires : goal.are_fields_shared-requires
are_fields_shared-requires g c = fields_in c.args.types.now.groups c.args.group.index c.args.inner.now c.in-Struct.structure c.as_slice.result.now c.requires c.in-Struct.is c.as_slice.ensures

pub returns-then-are_shared : goal.returns-then-are_shared
returns-then-are_shared g c =
    func_shared_then (declares c.args.types.now.groups) (leads_in c.args.types.now.groups c.args.group.index) c.args.inner.now c.in-Func.signature c.params.result.now c.results.result.now
    c.are_shared.result c.are_shared-then-are_shared.result c.in-Func.is c.params.ensures c.results.ensures c.are_shared.ensures c.if-are_shared.true c.are_shared-then-are_shared.ensures

pub returns-else-are_shared : goal.returns-else-are_shared
returns-else-are_shared g c =
    func_shared_else (declares c.args.types.now.groups) (leads_in c.args.types.now.groups c.args.group.index) c.args.inner.now c.in-Func.signature c.params.result.now
    c.are_shared.result c.in-Func.is c.params.ensures c.are_shared.ensures c.if-are_shared.false

pub returns-in-Struct : goal.returns-in-Struct
returns-in-Struct g c =
    struct_shared (declares c.args.types.now.groups) (leads_in c.args.types.now.groups c.args.group.index) c.args.inner.now c.in-Struct.structure c.as_slice.result.now
    c.are_fields_shared.result c.in-Struct.is c.as_slice.ensures c.are_fields_shared.ensures
