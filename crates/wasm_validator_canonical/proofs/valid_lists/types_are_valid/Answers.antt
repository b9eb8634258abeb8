use Rattle.std.proofs.Common.{ℕ, ◌≡◌, ◌<◌, length, below_more, refl, subst, arith}
use Rattle.wasm_spec.specs.GroupRules.{IsValidType}
use Rattle.wasm_spec_rules.specs.FeatureFlags.{features_of}
use Rattle.wasm_validator_type_list.specs.DeclarationsById.{declares}
use Rattle.wasm_validator_type_list.specs.ListViews.{types_in}
use Rattle.wasm_validator_canonical.proofs.ValidLists.{all_keep, one_breaks}
use Rattle.wasm_validator_canonical.proofs.valid_lists.types_are_valid.Goals as goal

pub returns-in-Err : goal.returns-in-Err
returns-in-Err g c =
    let id = c.from_index-id.result.index in
    let within : id < length (types_in c.args.types.now) = omega (arith, c.from_index-id.ensures, c.ids-test.true, c.len-count.ensures.count) in
    one_breaks (features_of c.args.features) c.args.types.now c.len-count.ensures.listable c.len-count.ensures.apart id within c.in-Err.ensures.decided

pub ids-preserved : goal.ids-preserved
ids-preserved g c =
    let P : ℕ → Type 0 = λ id. IsValidType (features_of c.args.features) (declares c.args.types.now.groups) id in
    let same : c.from_index-id.result.index ≡ c.ids.index = c.from_index-id.ensures in
    below_more P c.ids.index c.ids.invariant (subst P same (c.in-Ok.ensures.decided.0 refl))

pub returns : goal.returns
returns g c =
    all_keep (features_of c.args.features) c.args.types.now c.len-count.ensures.listable c.len-count.ensures.apart c.ids.index (omega (arith, c.ids-test.false, c.len-count.ensures.count)) c.ids.invariant
