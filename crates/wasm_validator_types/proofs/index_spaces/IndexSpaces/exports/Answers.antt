use Rattle.std.proofs.Common.{ap, map}
use Rattle.wasm_validator_types.specs.IteratorItems.{exports_left}
use Rattle.wasm_validator_types.specs.Spaces.{Spaces}
use Rattle.wasm_validator_types.specs.SpacesSeen.{numbers, shown_export}
use Rattle.wasm_validator_types.proofs.FunctionsAndTags.{exports_typed}
use Rattle.wasm_validator_types.proofs.index_spaces.IndexSpaces.exports.Goals as goal

pub returns-clause-typed : goal.returns-clause-typed
returns-clause-typed g c =
    exports_typed (numbers c.self.inside.types.items) c.args.self.now.types (map shown_export c.self.inside.exports.entries) (exports_left c.new.result)
    (ap (λ (s : Spaces). s.types) c.self.view_is) c.new.ensures c.self.invariant.exports_typed
