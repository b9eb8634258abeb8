use Rattle.std.proofs.Common.{◌≡◌, ◌∙◌, ◌<◌, length, slice_get, Some, option_map, sym, ap, arith}
use Rattle.std.specs.Prelude.{min}
use Rattle.std.proofs.lemmas.List.{length-map}
use Rattle.wasm_validator_handles.specs.Signatures.{values_by_ids}
use Rattle.wasm_validator_handles.specs.Values.{numbers_of}
use Rattle.wasm_validator_handles.specs.declared.values.ValueType.{ValueType}
use Rattle.ruthvelka_c.proofs.ItemReports.{one_more_told, all_told}
use Rattle.ruthvelka_c.proofs.types.write_values.Goals as goal

pub values-preserved : goal.values-preserved
values-preserved c =
    let there = values_by_ids c.args.start c.args.given.now in
    let same = c.values.invariant.room in
    let fits : c.values.k < length c.values.to = omega (arith, c.values-test.true, c.min-most.ensures, same) in
    one_more_told (λ k (v : ValueType). option_map numbers_of (slice_get there k) ≡ Some v) c.args.to.now c.values.to c.values.k c.value_at.result fits
    c.value_at.ensures c.values.invariant

pub returns : goal.returns
returns c =
    let given = c.args.given.now in
    let there = values_by_ids c.args.start given in
    let long : length there ≡ length given = length-map _ _ ∙ length-map given _ in
    let same = c.values.invariant.room in
    let all : c.values.k ≡ min (length c.values.to) (length given) = omega (arith, c.values-test.false, c.min-most.ensures, same) in
    all_told (λ k (v : ValueType). option_map numbers_of (slice_get there k) ≡ Some v) (length there) c.args.to.now c.values.to c.values.k
    (all ∙ ap (min (length c.values.to)) (sym long)) c.values.invariant
