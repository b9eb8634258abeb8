use Rattle.std.proofs.Common.{◌≡◌, ◌<◌, ◌+◌, length, ap, arith}
use Rattle.std.specs.declared.ops.Range.{Range}
use Rattle.wasm_readers_types.specs.WasmReadersValues.declared.indices.CoreTypeId.{CoreTypeId}
use Rattle.wasm_validator_type_list.specs.WasmValidatorTypeGroups.Groups.{first_of, IsInGroup}
use Rattle.wasm_validator_type_list.specs.ListViews.{types_in}
use Rattle.wasm_validator_type_list.proofs.DefTypes.{first_of-within}
use Rattle.wasm_validator_resources.specs.WasmReadersErrors.Refusals.{refused}
use Rattle.wasm_validator_type_checks.proofs.RefusalSteps.{handed_on, group_tells}
use Rattle.wasm_validator_type_checks.proofs.RefusalPlaces.{group_told_at}
use Rattle.wasm_validator_type_checks.proofs.groups.check_rec_group.Goals as goal

pub overflow_cast-index : goal.overflow_cast-index
overflow_cast-index g c =
    let gs = c.args.types.now.groups in
    let end : c.index-ids.result.now.end.index ≡ first_of gs (c.args.group.index + 1) = ap (λ (ids : Range CoreTypeId). ids.end.index) c.index-ids.ensures in
    let below : c.members.index < length (types_in c.args.types.now) = omega (arith, end, c.index-index-end.ensures, c.members-test.true, first_of-within gs (c.args.group.index + 1)) in
    omega (arith, below, c.recall_promises.ensures.room)

pub check_type-requires : goal.check_type-requires
check_type-requires g c =
    let gs = c.args.types.now.groups in
    let end : c.index-ids.result.now.end.index ≡ first_of gs (c.args.group.index + 1) = ap (λ (ids : Range CoreTypeId). ids.end.index) c.index-ids.ensures in
    omega (arith, end, c.index-index-end.ensures, c.members-test.true, first_of-within gs (c.args.group.index + 1), c.from_index-id.ensures)

pub returns-in_err-check_type-clause-told : goal.returns-in_err-check_type-clause-told
returns-in_err-check_type-clause-told g c =
    let gs = c.args.types.now.groups in
    let k = c.args.group.index in
    let start : c.index-ids.result.now.start.index ≡ first_of gs k = ap (λ (ids : Range CoreTypeId). ids.start.index) c.index-ids.ensures in
    let end : c.index-ids.result.now.end.index ≡ first_of gs (k + 1) = ap (λ (ids : Range CoreTypeId). ids.end.index) c.index-ids.ensures in
    let e : refused c.from_residual.result ≡ refused c.check_type.result = handed_on _ _ _ c.in_err-check_type.was c.from_residual.ensures.1 in
    let inside : IsInGroup gs k c.from_index-id.result.index = record {
      there = c.requires;
      from = omega (arith, start, c.from_index-id.ensures);
      below = omega (arith, end, c.index-index-end.ensures, c.members-test.true, c.from_index-id.ensures);
    } in
    group_tells c.args.features c.args.offset gs k c.from_index-id.result.index c.from_residual.result (refused c.check_type.result) e inside c.check_type.ensures.told
    (λ before from below. c.members.invariant before from (omega (arith, below, c.from_index-id.ensures)))

pub returns-in_err-check_type-clause-place : goal.returns-in_err-check_type-clause-place
returns-in_err-check_type-clause-place g c = group_told_at c.args.features c.args.offset c.args.types.now.groups c.args.group.index c.from_residual.result (returns-in_err-check_type-clause-told g c)
