use Rattle.std.proofs.Common.{◌≤◌, ◌<◌, length, arith}
use Rattle.wasm_readers_types.specs.WasmReadersValues.declared.indices.TheConstants.{MAX_IDS}
use Rattle.wasm_validator_type_list.specs.ListViews.{types_in}
use Rattle.wasm_validator_core_resources.proofs.ById.{read_reaches, read_by_ids}
use Rattle.wasm_validator_core_resources.proofs.types_by_ids.type_by_ids.Goals as goal

pub sub_type-requires : goal.sub_type-requires
sub_type-requires g c =
    let list = c.args.list.now in
    let there : c.from_index-id.result.index < length (types_in list) = omega (arith, c.requires, c.from_index-id.ensures) in
    let room : length (types_in list) ≤ MAX_IDS = omega (arith, c.recall_promises.ensures.room) in
    read_reaches list.groups c.rec_group_id_of-group.result.index c.from_index-id.result.index c.index-start.result c.index.result.now c.index-2.result.now c.rec_group_id_of-group.ensures there c.index.ensures c.index-start.ensures c.index-2.ensures c.recall_promises.ensures.listable room

pub returns : goal.returns
returns g c =
    let list = c.args.list.now in
    let there : c.from_index-id.result.index < length (types_in list) = omega (arith, c.requires, c.from_index-id.ensures) in
    read_by_ids list.groups c.rec_group_id_of-group.result.index c.from_index-id.result.index c.index-start.result c.index.result.now c.index-2.result.now c.rec_group_id_of-group.ensures there c.index.ensures c.index-start.ensures c.index-2.ensures c.args.place c.from_index-id.ensures c.sub_type.result c.sub_type.ensures
