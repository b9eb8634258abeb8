use Rattle.std.proofs.Common.{◌∙◌}
use Rattle.wasm_validator_canonical.proofs.DistinctLists.{listed_types_are_apart}
use Rattle.wasm_validator_canonical.proofs.types_are_apart.Goals as goal

pub returns : goal.returns
returns g c = listed_types_are_apart c.args.types.now.is_canonical c.args.types.now.groups (λ e. c.is_canonical-is_canonical.ensures.once (c.is_canonical-is_canonical.ensures.mode ∙ e))
