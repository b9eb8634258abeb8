use Rattle.std.proofs.Common.{◌≡◌, ℕ, ap, subst, ◌∙◌}
use Rattle.wasm_validator_handles.specs.WasmValidator.Verdict.{DecidesModule}
use Rattle.wasm_validator_handles.specs.WasmValidator.ValidatorStages.{Standing, fresh}
use Rattle.ruthvelka_c.specs.Reports.{flags}
use Rattle.ruthvelka_c.proofs.LoneModuleIds.{decides_alone, within}
use Rattle.ruthvelka_c.proofs.answers.answer_alone.Goals as goal

pub returns-clause-decided : goal.returns-clause-decided
returns-clause-decided c =
    let P : Standing → Type 0 = λ s. DecidesModule c.validate_all.result c.args.bytes.now s c.validate_all.new.self in
    let bits : c.from_bits_retain-features.result ≡ flags c.args.features = ap flags (c.from_bits_retain-features.ensures tt) in
    let made : c.new_with_features-validator.result ≡ fresh 0 (flags c.args.features) = c.new_with_features-validator.ensures ∙ (ap (λ (n : ℕ). fresh n c.from_bits_retain-features.result) c.from_number.ensures ∙ ap (fresh 0) bits) in
    decides_alone c.args.bytes.now 0 (flags c.args.features) c.validate_all.new.self c.validate_all.result (subst P made c.validate_all.ensures.decided)

pub returns-clause-place : goal.returns-clause-place
returns-clause-place c = within c.validate_all.result c.args.bytes.now c.validate_all.ensures.place
