use Rattle.std.proofs.Common.{◌<◌, length}
use Rattle.wasm_readers_types.specs.WasmReadersValues.declared.indices.CoreTypeId.{CoreTypeId}
use Rattle.wasm_validator_type_list.specs.ListViews.{types_in}
use Rattle.wasm_validator_type_ancestors.proofs.Items.{FirstHold}
use Rattle.wasm_validator_type_list.proofs.type_list.TypeList.holds_all.Given as goal

abbrev pub invariant-ids : goal.invariant-ids
invariant-ids g l = FirstHold (λ k (id : CoreTypeId). id.index < length (types_in l.self)) l.ids l.i
