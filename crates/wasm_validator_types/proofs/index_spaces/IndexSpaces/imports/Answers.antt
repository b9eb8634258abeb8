use Rattle.std.proofs.Common.{ap, map}
use Rattle.wasm_validator_types.specs.IteratorItems.{imports_left}
use Rattle.wasm_validator_types.specs.Spaces.{Spaces}
use Rattle.wasm_validator_types.specs.SpacesSeen.{numbers, shown_import}
use Rattle.wasm_validator_types.proofs.FunctionsAndTags.{imports_typed}
use Rattle.wasm_validator_types.proofs.index_spaces.IndexSpaces.imports.Goals as goal

pub returns-clause-typed : goal.returns-clause-typed
returns-clause-typed g c =
    imports_typed (numbers c.self.inside.types.items) c.args.self.now.types (map shown_import c.self.inside.imports.entries) (imports_left c.new.result)
    (ap (λ (s : Spaces). s.types) c.self.view_is) c.new.ensures c.self.invariant.imports_typed
