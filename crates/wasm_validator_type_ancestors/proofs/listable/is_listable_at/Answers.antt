use Rattle.wasm_validator_type_ancestors.proofs.ListableGroups.{type_listable, not_described, no_descriptor}
use Rattle.wasm_validator_type_ancestors.proofs.listable.is_listable_at.Goals as goal

pub returns-then-not-option_is_known : goal.returns-then-not-option_is_known
returns-then-not-option_is_known g c = not_described c.args.types c.args.positions c.args.place c.args.ty.now c.option_is_known.result c.option_is_known.ensures c.if-not-option_is_known.true

pub returns-then-not-option_is_known-2 : goal.returns-then-not-option_is_known-2
returns-then-not-option_is_known-2 g c = no_descriptor c.args.types c.args.positions c.args.place c.args.ty.now c.option_is_known-2.result c.option_is_known-2.ensures c.if-not-option_is_known-2.true

pub returns : goal.returns
returns g c =
    type_listable c.args.types c.args.positions c.args.place c.args.ty.now c.as_slice.result.now c.supers_are_earlier.result c.inner_is_known.result c.as_slice.ensures c.supers_are_earlier.ensures c.if-not-supers_are_earlier.false
    c.requires (c.option_is_known.ensures.0 c.if-not-option_is_known.false) (c.option_is_known-2.ensures.0 c.if-not-option_is_known-2.false) c.inner_is_known.ensures
