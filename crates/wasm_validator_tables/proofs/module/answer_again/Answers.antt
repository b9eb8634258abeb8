use Rattle.std.proofs.Common.{◌≡◌, ◌∙◌, ap, ℕ}
use Rattle.std.specs.declared.result.Result.TheVariants as results
use Rattle.wasm_validator_modules.specs.ValidatorStages.{fresh}
use Rattle.wasm_validator_tables.proofs.TablesMade.{alone}
use Rattle.wasm_validator_tables.proofs.module.answer_again.Goals as goal

pub returns : goal.returns
returns g c =
    let made : c.new_with_features-validator.result ≡ fresh 0 c.args.features = c.new_with_features-validator.ensures ∙ ap (λ (n : ℕ). fresh n c.args.features) c.from_number.ensures in
    record { decides = alone g.row.A.Denot c.args.bytes.now c.args.features (results.Err c.in-Err.error) c.new_with_features-validator.result c.validate_all.new.self made c.in-Err.ensures.decided }
