use Rattle.std.proofs.Common.{◌∙◌, ap}
use Rattle.wasm_validator_modules.specs.WasmValidatorTypes.Spaces.{Spaces}
use Rattle.wasm_validator.proofs.ModuleIds.{are_held}
use Rattle.wasm_validator.proofs.conditions.holds_types_of.Goals as goal

pub returns : goal.returns
returns g c =
    are_held c.args.list.now c.holds_all.result c.type_ids.result.now c.args.module.now.types
    (c.type_ids.ensures ∙ ap (λ (s : Spaces). s.types) c.spaces.ensures) c.holds_all.ensures
