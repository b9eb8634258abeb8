use Rattle.std.proofs.Common.{◌∙◌, ap}
use Rattle.wasm_validator_types.specs.Spaces.{Spaces, is_exported}
use Rattle.wasm_validator_types.proofs.Exports.{looked}
use Rattle.wasm_validator_types.proofs.index_spaces.IndexSpaces.has_export.Goals as goal

pub returns : goal.returns
returns g c =
    c.contains_key.ensures
    ∙ looked c.self.inside.exports.entries c.args.name.now
    ∙ ap (λ (s : Spaces). is_exported s.exports c.args.name.now) c.self.view_is
