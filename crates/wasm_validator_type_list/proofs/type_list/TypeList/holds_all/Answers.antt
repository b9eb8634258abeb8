use Rattle.std.proofs.Common.{◌<◌, sym, length, get_or}
use Rattle.std.proofs.lemmas.Option.{slice_get-get_or, get_or_from_slice_get}
use Rattle.wasm_readers_types.specs.WasmReadersValues.declared.indices.CoreTypeId.{CoreTypeId}
use Rattle.wasm_validator_type_list.specs.ListViews.{types_in}
use Rattle.wasm_validator_type_ancestors.proofs.Items.{none_first, one_more, all_first}
use Rattle.wasm_validator_type_list.proofs.type_list.TypeList.holds_all.Goals as goal

pub ids-init : goal.ids-init
ids-init g c = none_first (λ k (id : CoreTypeId). id.index < length (types_in c.args.self.now)) c.args.ids.now

pub ids-preserved : goal.ids-preserved
ids-preserved g c =
    let none : CoreTypeId = record { index = 0 } in
    let ids = c.args.ids.now in
    let id = get_or ids c.ids.i none in
    one_more (λ k (id : CoreTypeId). id.index < length (types_in c.args.self.now)) ids c.ids.i id c.ids-test.true
    (sym (get_or_from_slice_get ids c.ids.i id id (slice_get-get_or ids c.ids.i none c.ids-test.true)))
    (c.holds_id.ensures.0 c.if-not-holds_id.false) c.ids.invariant

pub returns : goal.returns
returns g c = all_first (λ (id : CoreTypeId). id.index < length (types_in c.args.self.now)) c.args.ids.now c.ids.i c.ids-test.false c.ids.invariant
